use Rattle.html_tokens.proofs.ToldLemmas.{quiet_opens, quiet_same}
use Rattle.html_tokens.proofs.faults.Faults.tell_some.Goals as goal

pub returns-in_default-clause-opens : goal.returns-in_default-clause-opens
returns-in_default-clause-opens c = rw c.in_default.is (quiet_opens c.args.self.now c.args.self.now (quiet_same c.args.self.now))
