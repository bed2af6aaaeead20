use Rattle.std.proofs.Common.{◌∙◌, ap, ◌≡◌, subst}
use Rattle.html_tree.specs.Searching.{found, index_before, is_member, stops, member_or_stop}
use Rattle.html_tree.specs.States.{State}
use Rattle.html_tree.proofs.Scoped.{found-scope}
use Rattle.std.specs.Prelude.{is_some}
use Rattle.html_tree.proofs.Counted.{walk-steps}
use Rattle.html_arena.specs.Tree.{more}
use Rattle.html_open.specs.Lists.{looked}
use Rattle.html_tree.proofs.tree.OpenTree.find_member.Goals as goal

pub returns-clause-index : goal.returns-clause-index
returns-clause-index c =
    c.member_at-index.ensures.index ∙ ap (λ v. index_before (is_member c.self.inside.arena c.args.group) (stops c.self.inside.arena c.args.stop) v) c.as_slice-nodes.ensures
    ∙ ap (λ (a : State). found a c.args.group c.args.stop) c.self.view_is

pub returns-clause-in_scope : goal.returns-clause-in_scope
returns-clause-in_scope c = ap is_some (returns-clause-index c) ∙ found-scope c.args.self.now c.args.group c.args.stop

pub returns-clause-counted : goal.returns-clause-counted
returns-clause-counted c =
    c.charge.ensures.counted ∙ ap (more c.args.self.now.steps) (subst (λ (a : State). c.steps_down-steps.result ≡ looked (member_or_stop a.tree c.args.group c.args.stop) a.stack) c.self.view_is
    (walk-steps (member_or_stop c.self.inside.arena c.args.group c.args.stop) c.as_slice-nodes.result.now c.self.inside.stack c.last_index-at.result c.steps_down-steps.result c.steps_down-steps.ensures.value c.last_index-at.ensures.index c.as_slice-nodes.ensures))
