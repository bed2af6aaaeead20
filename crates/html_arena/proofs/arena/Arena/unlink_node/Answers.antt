use Rattle.std.proofs.Common.{◌≡◌, Option, None, sym, ◌∙◌, ap, subst, arith}
use Rattle.html_arena.specs.Links.{Rejoined, previous_at, next_at}
use Rattle.html_arena.proofs.Edits.{detach_is, previous_below, next_below, parent_below}
use Rattle.html_arena.proofs.Labels.{unlinked}
use Rattle.html_arena.proofs.arena.Arena.unlink_node.Goals as goal

pub unlink-requires-clause-parent_in : goal.unlink-requires-clause-parent_in
unlink-requires-clause-parent_in c =
    let up = sym (ap (λ l. l.parent) c.place_of-place.ensures) ∙ c.in-Some.is in
    parent_below _ _ _ c.self.invariant.whole _ _ up

pub unlink-requires-clause-previous_in : goal.unlink-requires-clause-previous_in
unlink-requires-clause-previous_in c = rw c.place_of-place.ensures (previous_below _ _ _ c.self.invariant.whole c.args.node)

pub unlink-requires-clause-next_in : goal.unlink-requires-clause-next_in
unlink-requires-clause-next_in c = rw c.place_of-place.ensures (next_below _ _ _ c.self.invariant.whole c.args.node)

pub invariant_of-self : goal.invariant_of-self
invariant_of-self c =
    let up = sym (ap (λ l. l.parent) c.place_of-place.ensures) ∙ c.in-Some.is in
    let before : c.place_of-place.result.previous ≡ previous_at c.self.inside.links.items c.args.node = ap (λ l. l.previous) c.place_of-place.ensures in
    let after : c.place_of-place.result.next ≡ next_at c.self.inside.links.items c.args.node = ap (λ l. l.next) c.place_of-place.ensures in
    let r = subst (λ (o : Option _). Rejoined c.self.inside.links.items c.unlink.new.links.items c.args.node c.in-Some.parent o (next_at c.self.inside.links.items c.args.node) (next_at c.self.inside.links.items c.args.node) o None None None) before
    (subst (λ (o : Option _). Rejoined c.self.inside.links.items c.unlink.new.links.items c.args.node c.in-Some.parent c.place_of-place.result.previous o o c.place_of-place.result.previous None None None) after c.unlink.ensures) in
    let b = detach_is _ _ _ _ _ c.self.inside.limits c.self.invariant.whole _ c.self.view_is _ _ _ _ up r c.saturating_add-self-inside.ensures in
    record { whole = b.0; labelled = unlinked _ _ _ c.self.invariant.labelled _ c.args.node r.parent_is; within = c.self.invariant.within; few = omega (arith, r.same_length, c.self.invariant.few) }

pub returns-in-Some : goal.returns-in-Some
returns-in-Some c =
    let up = sym (ap (λ l. l.parent) c.place_of-place.ensures) ∙ c.in-Some.is in
    let before : c.place_of-place.result.previous ≡ previous_at c.self.inside.links.items c.args.node = ap (λ l. l.previous) c.place_of-place.ensures in
    let after : c.place_of-place.result.next ≡ next_at c.self.inside.links.items c.args.node = ap (λ l. l.next) c.place_of-place.ensures in
    let r = subst (λ (o : Option _). Rejoined c.self.inside.links.items c.unlink.new.links.items c.args.node c.in-Some.parent o (next_at c.self.inside.links.items c.args.node) (next_at c.self.inside.links.items c.args.node) o None None None) before
    (subst (λ (o : Option _). Rejoined c.self.inside.links.items c.unlink.new.links.items c.args.node c.in-Some.parent c.place_of-place.result.previous o o c.place_of-place.result.previous None None None) after c.unlink.ensures) in
    let b = detach_is _ _ _ _ _ c.self.inside.limits c.self.invariant.whole _ c.self.view_is _ _ _ _ up r c.saturating_add-self-inside.ensures in
    b.1
