use Rattle.std.proofs.Common.{Some}
use Rattle.html_tree.proofs.tree.OpenTree.fragment_within.Goals as goal

pub returns-clause-steps : goal.returns-clause-steps
returns-clause-steps c = c.over_root.ensures.steps (Some c.args.limits) c.within.ensures

pub returns-clause-cause : goal.returns-clause-cause
returns-clause-cause c = c.over_root.ensures.cause (Some c.args.limits) c.within.ensures

pub returns-clause-state : goal.returns-clause-state
returns-clause-state c = c.over_root.ensures.state (Some c.args.limits) c.within.ensures

pub returns-clause-counted : goal.returns-clause-counted
returns-clause-counted c = c.over_root.ensures.counted (Some c.args.limits) c.within.ensures
