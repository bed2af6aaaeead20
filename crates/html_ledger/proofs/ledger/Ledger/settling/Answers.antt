use Rattle.html_ledger.proofs.Feeding.{Releases-next, Releases-none}
use Rattle.html_ledger.proofs.ledger.Ledger.settling.Goals as goal

pub returns-clause-next : goal.returns-clause-next
returns-clause-next c = λ a b d x cs r t. Releases-next a b d x cs r t

pub returns-clause-settled : goal.returns-clause-settled
returns-clause-settled c = λ a b r. Releases-none a b r
