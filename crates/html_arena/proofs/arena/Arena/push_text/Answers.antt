use Rattle.std.proofs.Common.{◌<◌, ◌∙◌, arith, length, subst, sym}
use Rattle.html_arena.specs.Data.{IsText}
use Rattle.html_arena.specs.Tree.{Tree, label_of}
use Rattle.html_arena.proofs.Limited.{within_at}
use Rattle.html_arena.proofs.Relabel.{texted_arena}
use Rattle.html_arena.proofs.arena.Arena.push_text.Goals as goal

pub invariant_of-self-2 : goal.invariant_of-self-2
invariant_of-self-2 c =
    let back = sym c.self.view_is in
    texted_arena _ _ _ _ _ c.self.invariant c.args.node c.args.c _ _
    (subst (λ (t : Tree). c.args.node < length t.labels) back c.requires.node_in)
    (subst (λ (t : Tree). IsText (label_of t c.args.node)) back c.requires.is_text)
    c.in_ok-push_char.ensures.ok c.saturating_add-self-inside.ensures
    (within_at _ _ _ _ _ c.self.inside.limits _ c.self.view_is 0 1 (sym c.room_for.ensures ∙ c.in_ok-room_for.was) _ _ (omega arith) c.saturating_add-self-inside.ensures)
