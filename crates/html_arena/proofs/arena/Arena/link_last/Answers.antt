use Rattle.std.proofs.Common.{◌≡◌, Option, Some, None, ◌∙◌, ap, subst, arith}
use Rattle.html_arena.specs.Links.{Rejoined, last_at}
use Rattle.html_arena.proofs.Whole.{last_below}
use Rattle.html_arena.proofs.Edits.{append_is}
use Rattle.html_arena.specs.Data.{is_linkable}
use Rattle.html_arena.specs.Tree.{Tree, label_of}
use Rattle.html_arena.proofs.Labels.{linkable-host, relinked}
use Rattle.html_arena.proofs.arena.Arena.link_last.Goals as goal

pub link-requires-clause-previous_in : goal.link-requires-clause-previous_in
link-requires-clause-previous_in c = rw c.place_of-last.ensures (last_below _ _ _ c.self.invariant.whole c.args.parent)

pub invariant_of-self : goal.invariant_of-self
invariant_of-self c =
    let at : c.place_of-last.result.last_child ≡ last_at c.self.inside.links.items c.args.parent = ap (λ l. l.last_child) c.place_of-last.ensures in
    let r = subst (λ (o : Option _). Rejoined c.self.inside.links.items c.link.new.links.items c.args.child c.args.parent o None (Some c.args.child) (Some c.args.child) (Some c.args.parent) o None) at c.link.ensures in
    let b = append_is _ _ _ _ _ c.self.inside.limits c.self.invariant.whole _ c.self.view_is _ _ _ _ r c.saturating_add-self-inside.ensures c.requires.parent_in c.requires.child_in c.requires.alone c.requires.not_above in
    record { whole = b.0; labelled = relinked _ _ _ c.self.invariant.labelled _ c.args.child _ (linkable-host _ (ap (λ (t : Tree). is_linkable (label_of t c.args.child)) c.self.view_is ∙ c.requires.linkable)) r.parent_is; within = c.self.invariant.within; few = omega (arith, r.same_length, c.self.invariant.few) }

pub returns : goal.returns
returns c =
    let at : c.place_of-last.result.last_child ≡ last_at c.self.inside.links.items c.args.parent = ap (λ l. l.last_child) c.place_of-last.ensures in
    let r = subst (λ (o : Option _). Rejoined c.self.inside.links.items c.link.new.links.items c.args.child c.args.parent o None (Some c.args.child) (Some c.args.child) (Some c.args.parent) o None) at c.link.ensures in
    let b = append_is _ _ _ _ _ c.self.inside.limits c.self.invariant.whole _ c.self.view_is _ _ _ _ r c.saturating_add-self-inside.ensures c.requires.parent_in c.requires.child_in c.requires.alone c.requires.not_above in
    b.1
