use Rattle.std.proofs.Common.{◌≡◌, subst}
use Rattle.html_names.specs.declared.tag.Tag.TheVariants as tag
use Rattle.html_arena.specs.Tree.{named}
use Rattle.html_open.specs.Lists.{looked}
use Rattle.html_tree.specs.States.{State}
use Rattle.html_tree.proofs.Counted.{here-fosters, walk-steps}
use Rattle.html_tree.proofs.tree.OpenTree.here_steps.Goals as goal

pub returns : goal.returns
returns c = record {
  value = here-fosters c.args.self.now c.args.foster c.is_fostering.result c.steps_down.result c.if-not-foster.false c.if-not-is_fostering.false c.is_fostering.ensures.value
      (subst (λ (a : State). c.steps_down.result ≡ looked (named a.tree tag.Table) a.stack) c.self.view_is
      (walk-steps (named c.self.inside.arena tag.Table) c.as_slice-nodes.result.now c.self.inside.stack c.last_index-at.result c.steps_down.result c.steps_down.ensures.value c.last_index-at.ensures.index c.as_slice-nodes.ensures));
}
