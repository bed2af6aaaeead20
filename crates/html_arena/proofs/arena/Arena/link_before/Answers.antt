use Rattle.std.proofs.Common.{◌≡◌, Option, Some, sym, ◌∙◌, ap, subst, arith}
use Rattle.html_arena.specs.Links.{Rejoined, previous_at}
use Rattle.html_arena.proofs.Edits.{insert_is, previous_below, parent_below}
use Rattle.html_arena.specs.Data.{is_linkable}
use Rattle.html_arena.specs.Tree.{Tree, label_of}
use Rattle.html_arena.proofs.Labels.{linkable-host, relinked}
use Rattle.html_arena.proofs.arena.Arena.link_before.Goals as goal

pub link-requires-clause-parent_in : goal.link-requires-clause-parent_in
link-requires-clause-parent_in c =
    let up = sym (ap (λ l. l.parent) c.place_of-place.ensures) ∙ c.in-Some.is in
    parent_below _ _ _ c.self.invariant.whole _ _ up

pub link-requires-clause-previous_in : goal.link-requires-clause-previous_in
link-requires-clause-previous_in c = rw c.place_of-place.ensures (previous_below _ _ _ c.self.invariant.whole c.args.next)

pub invariant_of-self : goal.invariant_of-self
invariant_of-self c =
    let up = sym (ap (λ l. l.parent) c.place_of-place.ensures) ∙ c.in-Some.is in
    let at : c.place_of-place.result.previous ≡ previous_at c.self.inside.links.items c.args.next = ap (λ l. l.previous) c.place_of-place.ensures in
    let r = subst (λ (o : Option _). Rejoined c.self.inside.links.items c.link.new.links.items c.args.child c.in-Some.parent o (Some c.args.next) (Some c.args.child) (Some c.args.child) (Some c.in-Some.parent) o (Some c.args.next)) at c.link.ensures in
    let b = insert_is _ _ _ _ _ c.self.inside.limits c.self.invariant.whole _ c.self.view_is _ _ _ _ _ up r c.saturating_add-self-inside.ensures c.requires.next_in c.requires.child_in c.requires.alone c.requires.not_above in
    record { whole = b.0; labelled = relinked _ _ _ c.self.invariant.labelled _ c.args.child _ (linkable-host _ (ap (λ (t : Tree). is_linkable (label_of t c.args.child)) c.self.view_is ∙ c.requires.linkable)) r.parent_is; within = c.self.invariant.within; few = omega (arith, r.same_length, c.self.invariant.few) }

pub returns-in-Some : goal.returns-in-Some
returns-in-Some c =
    let up = sym (ap (λ l. l.parent) c.place_of-place.ensures) ∙ c.in-Some.is in
    let at : c.place_of-place.result.previous ≡ previous_at c.self.inside.links.items c.args.next = ap (λ l. l.previous) c.place_of-place.ensures in
    let r = subst (λ (o : Option _). Rejoined c.self.inside.links.items c.link.new.links.items c.args.child c.in-Some.parent o (Some c.args.next) (Some c.args.child) (Some c.args.child) (Some c.in-Some.parent) o (Some c.args.next)) at c.link.ensures in
    let b = insert_is _ _ _ _ _ c.self.inside.limits c.self.invariant.whole _ c.self.view_is _ _ _ _ _ up r c.saturating_add-self-inside.ensures c.requires.next_in c.requires.child_in c.requires.alone c.requires.not_above in
    b.1
