use Rattle.html_laws.proofs.Hosting.{pages-hosts}
use Rattle.html_laws.proofs.Pages.{inputs-hosts, trees-hosts}
use Rattle.html_laws.proofs.laws.pages_have_no_template_in_itself.Goals as goal

pub returns-clause-tokens : goal.returns-clause-tokens
returns-clause-tokens c = pages-hosts

pub returns-clause-page : goal.returns-clause-page
returns-clause-page c = inputs-hosts

pub returns-clause-tree : goal.returns-clause-tree
returns-clause-tree c = trees-hosts
