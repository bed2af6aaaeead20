use Rattle.std.proofs.Common.{◌≡◌, ◌<◌, length, set, sym, ◌∙◌, ap, subst, Ok}
use Rattle.std.specs.List.{sum_by}
use Rattle.html_arena.specs.Budget.{held_budget}
use Rattle.html_arena.specs.Data.{label_in, with_attrs}
use Rattle.html_arena.specs.Tree.{Tree, label_of}
use Rattle.html_arena.specs.Weight.{capped, weight}
use Rattle.html_arena.proofs.Relabel.{replaced_arena}
use Rattle.html_arena.proofs.arena.Arena.replace_attrs.Goals as goal

pub invariant_of-self : goal.invariant_of-self
invariant_of-self c =
    let back = sym c.self.view_is in
    let ds = c.self.inside.nodes.items in
    let x = c.args.element in
    let held : c.held_with-held.result ≡ capped (sum_by weight (set ds x (with_attrs (label_in ds x) c.args.attrs))) =
    c.held_with-held.ensures
    ∙ ap (λ a. capped (sum_by weight (set c.args.self.now.labels x (with_attrs (label_of c.args.self.now x) a)))) c.as_slice.ensures
    ∙ ap (λ (t : Tree). capped (sum_by weight (set t.labels x (with_attrs (label_of t x) c.args.attrs)))) back in
    let room : held_budget c.self.inside.limits c.held_with-held.result ≡ Ok tt =
    ap (λ (t : Tree). held_budget t.limits c.held_with-held.result) c.self.view_is ∙ sym c.room_to_hold.ensures ∙ c.in_ok-room_to_hold.was in
    replaced_arena _ _ _ _ _ c.self.invariant x _ c.args.attrs _
    (subst (λ (t : Tree). x < length t.labels) back c.requires)
    c.set_attrs.ensures held room
