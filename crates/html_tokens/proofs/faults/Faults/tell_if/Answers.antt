use Rattle.html_tokens.proofs.ToldLemmas.{opens_none}
use Rattle.html_tokens.proofs.faults.Faults.tell_if.Goals as goal

pub returns-else-is-clause-opens : goal.returns-else-is-clause-opens
returns-else-is-clause-opens c = rw c.if-is.false (opens_none c.args.self.now)
