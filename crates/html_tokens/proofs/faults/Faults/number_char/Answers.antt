use Rattle.html_tokens.proofs.ToldLemmas.{opens_none}
use Rattle.html_tokens.proofs.faults.Faults.number_char.Goals as goal

pub returns-in-Some-clause-opens : goal.returns-in-Some-clause-opens
returns-in-Some-clause-opens c = rw c.in-Some.ensures.0 (opens_none c.args.self.now)

pub returns-in-None-clause-opens : goal.returns-in-None-clause-opens
returns-in-None-clause-opens c = rw c.in-None.ensures c.number.ensures.opens
