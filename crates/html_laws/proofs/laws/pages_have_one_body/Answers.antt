use Rattle.html_laws.proofs.Bodies.{built-body}
use Rattle.html_laws.proofs.Pages.{inputs-body, trees-body}
use Rattle.html_laws.proofs.laws.pages_have_one_body.Goals as goal

pub returns-clause-tokens : goal.returns-clause-tokens
returns-clause-tokens c = built-body

pub returns-clause-page : goal.returns-clause-page
returns-clause-page c = inputs-body

pub returns-clause-tree : goal.returns-clause-tree
returns-clause-tree c = trees-body
