use Rattle.std.proofs.Common.{None}
use Rattle.html_construction.proofs.construction.Construction.document.Goals as goal

pub returns-clause-built : goal.returns-clause-built
returns-clause-built c = c.of_document.ensures.built None _ c.in_ok-tree.ensures.state

pub returns-clause-first : goal.returns-clause-first
returns-clause-first c = c.of_document.ensures.first None _ c.in_ok-tree.ensures.state
