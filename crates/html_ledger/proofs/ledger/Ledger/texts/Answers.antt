use Rattle.html_ledger.proofs.Texted.{text_of-append, text_of-run}
use Rattle.html_ledger.proofs.ledger.Ledger.texts.Goals as goal

pub returns-clause-more : goal.returns-clause-more
returns-clause-more c = λ node ts us fs gs e. text_of-append node ts us fs gs e

pub returns-clause-run : goal.returns-clause-run
returns-clause-run c = λ node d cs. text_of-run node d cs
