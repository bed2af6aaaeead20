use Rattle.std.proofs.Common.{None}
use Rattle.html_tree.proofs.tree.OpenTree.document.Goals as goal

pub returns-clause-steps : goal.returns-clause-steps
returns-clause-steps c = c.over.ensures.steps None c.new.ensures

pub returns-clause-cause : goal.returns-clause-cause
returns-clause-cause c = c.over.ensures.cause None c.new.ensures

pub returns-clause-counted : goal.returns-clause-counted
returns-clause-counted c = c.over.ensures.counted None c.new.ensures
