use Rattle.html_ledger.proofs.Feeding.{Fed-count, Fed-errors}
use Rattle.html_ledger.proofs.ledger.Ledger.counted.Goals as goal

pub returns-clause-tokens : goal.returns-clause-tokens
returns-clause-tokens c = λ s ts a. Fed-count s c.args.self.now ts a

pub returns-clause-errors : goal.returns-clause-errors
returns-clause-errors c = λ s ts a. Fed-errors s c.args.self.now ts a
