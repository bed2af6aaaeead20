use Rattle.std.proofs.Common.{◌≡◌, ◌<◌, ℕ, ◌∙◌, sym, ap, subst, true, false, get_or, Some}
use Rattle.html_arena.specs.Siblings.{has}
use Rattle.html_open.proofs.Lists.{get_or-default, has-at}
use Rattle.html_tree.specs.Groups.{in_group}
use Rattle.html_tree.specs.Searching.{is_member, stops}
use Rattle.html_tree.proofs.Searches.{before-none, before-other, before-some}
use Rattle.html_tree.proofs.search.member_at.Goals as goal

pub tag-requires : goal.tag-requires
tag-requires c = c.requires.nodes_in c.index-nodes-index.result
    (subst (λ (x : ℕ). has x c.args.nodes.now ≡ true) (sym c.index-nodes-index.is) (has-at c.args.nodes.now c.in-Some.index c.index-nodes-index.result (subst (λ o. Rattle.html_open.specs.Lists.IsBelow (Rattle.std.proofs.Common.length c.args.nodes.now) o) c.in-Some.is c.requires.at_in)))

pub returns-in-None-clause-index : goal.returns-in-None-clause-index
returns-in-None-clause-index c = before-none (is_member c.args.arena.now c.args.group) (stops c.args.arena.now c.args.stop) c.args.nodes.now (sym c.in-None.is ∙ c.requires.stopped)

pub returns-then-has-clause-index : goal.returns-then-has-clause-index
returns-then-has-clause-index c =
    before-some (is_member c.args.arena.now c.args.group) (stops c.args.arena.now c.args.stop) c.args.nodes.now c.in-Some.index (sym c.in-Some.is ∙ c.requires.stopped)
    (ap (is_member c.args.arena.now c.args.group) (get_or-default c.args.nodes.now c.in-Some.index 0 c.index-nodes-index.result (subst (λ o. Rattle.html_open.specs.Lists.IsBelow (Rattle.std.proofs.Common.length c.args.nodes.now) o) c.in-Some.is c.requires.at_in) ∙ sym c.index-nodes-index.is) ∙ ap (in_group c.args.group) (sym c.tag.ensures.value) ∙ sym c.has.ensures ∙ c.if-has.true)

pub returns-else-has-clause-index : goal.returns-else-has-clause-index
returns-else-has-clause-index c =
    before-other (is_member c.args.arena.now c.args.group) (stops c.args.arena.now c.args.stop) c.args.nodes.now c.in-Some.index (sym c.in-Some.is ∙ c.requires.stopped)
    (ap (is_member c.args.arena.now c.args.group) (get_or-default c.args.nodes.now c.in-Some.index 0 c.index-nodes-index.result (subst (λ o. Rattle.html_open.specs.Lists.IsBelow (Rattle.std.proofs.Common.length c.args.nodes.now) o) c.in-Some.is c.requires.at_in) ∙ sym c.index-nodes-index.is) ∙ ap (in_group c.args.group) (sym c.tag.ensures.value) ∙ sym c.has.ensures ∙ c.if-has.false)
