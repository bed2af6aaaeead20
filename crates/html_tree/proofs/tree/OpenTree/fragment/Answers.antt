use Rattle.std.proofs.Common.{None}
use Rattle.html_tree.proofs.Roots.{no-budget}
use Rattle.html_tree.proofs.Spelled.{if-err}
use Rattle.html_tree.proofs.tree.OpenTree.fragment.Goals as goal

pub returns-clause-steps : goal.returns-clause-steps
returns-clause-steps c = c.over_root.ensures.steps None c.new.ensures

pub returns-clause-cause : goal.returns-clause-cause
returns-clause-cause c = if-err c.over_root.result (c.over_root.ensures.cause None c.new.ensures) no-budget

pub returns-clause-counted : goal.returns-clause-counted
returns-clause-counted c = c.over_root.ensures.counted None c.new.ensures
