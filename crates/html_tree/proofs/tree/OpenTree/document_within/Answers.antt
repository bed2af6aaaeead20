use Rattle.std.proofs.Common.{Some}
use Rattle.html_tree.proofs.tree.OpenTree.document_within.Goals as goal

pub returns-clause-steps : goal.returns-clause-steps
returns-clause-steps c = c.over.ensures.steps (Some c.args.limits) c.within.ensures

pub returns-clause-cause : goal.returns-clause-cause
returns-clause-cause c = c.over.ensures.cause (Some c.args.limits) c.within.ensures

pub returns-clause-counted : goal.returns-clause-counted
returns-clause-counted c = c.over.ensures.counted (Some c.args.limits) c.within.ensures
