use Rattle.html_laws.proofs.Entering.{tokens-one-end}
use Rattle.html_laws.proofs.Runs.{plans-one-end}
use Rattle.html_laws.proofs.laws.rules_have_one_outcome.Goals as goal

pub returns-clause-plans : goal.returns-clause-plans
returns-clause-plans c = plans-one-end

pub returns-clause-tokens : goal.returns-clause-tokens
returns-clause-tokens c = tokens-one-end
