use Rattle.html_construction.proofs.Kept.{all-settled, next-settled}
use Rattle.html_construction.proofs.construction.Construction.settling.Goals as goal

pub returns-clause-next : goal.returns-clause-next
returns-clause-next c = λ a b d x cs r t. next-settled a b d x cs r t

pub returns-clause-settled : goal.returns-clause-settled
returns-clause-settled c = λ a b r. all-settled a b r
