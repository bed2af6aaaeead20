use Rattle.html_tokens.proofs.ToldLemmas.{opens_none}
use Rattle.html_tokens.proofs.faults.Faults.null_at.Goals as goal

pub returns-in_default-clause-opens : goal.returns-in_default-clause-opens
returns-in_default-clause-opens c = rw c.in_default.is (opens_none c.args.self.now)
