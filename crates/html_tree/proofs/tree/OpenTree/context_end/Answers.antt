use Rattle.std.proofs.Common.{◌∙◌, ap, ◌≡◌, subst}
use Rattle.html_open.specs.Lists.{after_index, last_index, looked}
use Rattle.html_tree.specs.Closing.{context_end}
use Rattle.html_tree.specs.Searching.{context_at}
use Rattle.html_tree.specs.States.{State}
use Rattle.html_tree.proofs.Counted.{walk-steps}
use Rattle.html_arena.specs.Tree.{more}
use Rattle.html_tree.proofs.tree.OpenTree.context_end.Goals as goal

pub returns-clause-index : goal.returns-clause-index
returns-clause-index c =
    c.after-end.ensures.value ∙ ap after_index (c.last_index-at.ensures.index ∙ ap (λ v. last_index (context_at c.self.inside.arena c.args.context) v) c.as_slice-nodes.ensures)
    ∙ ap (λ (a : State). context_end a c.args.context) c.self.view_is

pub returns-clause-counted : goal.returns-clause-counted
returns-clause-counted c =
    c.charge.ensures.counted ∙ ap (more c.args.self.now.steps) (subst (λ (a : State). c.steps_down-steps.result ≡ looked (context_at a.tree c.args.context) a.stack) c.self.view_is
    (walk-steps (context_at c.self.inside.arena c.args.context) c.as_slice-nodes.result.now c.self.inside.stack c.last_index-at.result c.steps_down-steps.result c.steps_down-steps.ensures.value c.last_index-at.ensures.index c.as_slice-nodes.ensures))
