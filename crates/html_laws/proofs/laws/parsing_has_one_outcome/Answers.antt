use Rattle.html_laws.proofs.Pages.{inputs-errors, inputs-page, inputs-tree}
use Rattle.html_laws.proofs.laws.parsing_has_one_outcome.Goals as goal

pub returns-clause-page : goal.returns-clause-page
returns-clause-page c = inputs-page

pub returns-clause-errors : goal.returns-clause-errors
returns-clause-errors c = inputs-errors

pub returns-clause-tree : goal.returns-clause-tree
returns-clause-tree c = inputs-tree
