use Rattle.std.proofs.Common.{None}
use Rattle.html_construction.proofs.construction.Construction.fragment.Goals as goal

pub returns-clause-built : goal.returns-clause-built
returns-clause-built c = c.of_fragment.ensures.built None _ c.in_ok-tree.ensures.state

pub returns-clause-first : goal.returns-clause-first
returns-clause-first c = c.of_fragment.ensures.first None _ c.in_ok-tree.ensures.state
