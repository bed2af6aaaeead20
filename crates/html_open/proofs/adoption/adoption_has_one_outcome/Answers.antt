use Rattle.html_open.proofs.Outcomes.{adopted-one}
use Rattle.html_open.proofs.adoption.adoption_has_one_outcome.Goals as goal

pub returns-clause-end : goal.returns-clause-end
returns-clause-end c = λ s foster a b o p q h i j. (adopted-one s foster a b o p q h i j).0

pub returns-clause-outcome : goal.returns-clause-outcome
returns-clause-outcome c = λ s foster a b o p q h i j. (adopted-one s foster a b o p q h i j).1
