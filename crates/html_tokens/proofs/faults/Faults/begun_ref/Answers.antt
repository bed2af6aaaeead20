use Rattle.html_tokens.proofs.ToldLemmas.{opens_none}
use Rattle.html_tokens.proofs.faults.Faults.begun_ref.Goals as goal

pub returns-in-Numeric-clause-opens : goal.returns-in-Numeric-clause-opens
returns-in-Numeric-clause-opens c = rw c.in-Numeric.is (opens_none c.args.self.now)

pub returns-in-Letters-clause-opens : goal.returns-in-Letters-clause-opens
returns-in-Letters-clause-opens c = rw c.in-Letters.is (opens_none c.args.self.now)
