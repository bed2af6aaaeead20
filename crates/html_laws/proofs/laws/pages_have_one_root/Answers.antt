use Rattle.html_laws.proofs.Founding.{pages-root}
use Rattle.html_laws.proofs.Pages.{inputs-root, trees-root}
use Rattle.html_laws.proofs.laws.pages_have_one_root.Goals as goal

pub returns-clause-tokens : goal.returns-clause-tokens
returns-clause-tokens c = pages-root

pub returns-clause-page : goal.returns-clause-page
returns-clause-page c = inputs-root

pub returns-clause-tree : goal.returns-clause-tree
returns-clause-tree c = trees-root
