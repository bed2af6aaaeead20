use Rattle.std.proofs.Common.{◌≡◌, ◌<◌, arith, length, subst, sym}
use Rattle.html_arena.specs.Data.{IsText}
use Rattle.html_arena.specs.Tree.{Tree, label_of, more}
use Rattle.html_arena.proofs.Limited.{within_at}
use Rattle.html_arena.proofs.Relabel.{run_arena}
use Rattle.html_arena.proofs.arena.Arena.push_plain.Goals as goal

pub invariant_of-self-2 : goal.invariant_of-self-2
invariant_of-self-2 c =
    let back = sym c.self.view_is in
    let held = subst (λ n. c.saturating_add-self-inside.result ≡ more c.self.inside.held n) c.len-count.ensures.count c.saturating_add-self-inside.ensures in
    run_arena _ _ _ _ _ c.self.invariant c.args.node _ c.args.text.now _
    (subst (λ (t : Tree). c.args.node < length t.labels) back c.requires.node_in)
    (subst (λ (t : Tree). IsText (label_of t c.args.node)) back c.requires.is_text)
    c.in_ok-push_plain.ensures.ok held
    (within_at _ _ _ _ _ c.self.inside.limits _ c.self.view_is 0 _ c.requires.room _ _ (omega arith) held)
