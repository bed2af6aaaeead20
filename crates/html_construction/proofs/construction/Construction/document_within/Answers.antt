use Rattle.std.proofs.Common.{Some}
use Rattle.html_construction.proofs.construction.Construction.document_within.Goals as goal

pub returns-clause-built : goal.returns-clause-built
returns-clause-built c = c.of_document.ensures.built (Some c.args.limits) _ c.in_ok-tree.ensures.state

pub returns-clause-first : goal.returns-clause-first
returns-clause-first c = c.of_document.ensures.first (Some c.args.limits) _ c.in_ok-tree.ensures.state
