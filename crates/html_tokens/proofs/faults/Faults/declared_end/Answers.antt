use Rattle.html_tokens.proofs.EndLemmas.{differs}
use Rattle.html_tokens.proofs.ToldLemmas.{opens_none}
use Rattle.html_tokens.proofs.faults.Faults.declared_end.Goals as goal

pub returns-else-not-closed-clause-opens : goal.returns-else-not-closed-clause-opens
returns-else-not-closed-clause-opens c = rw (differs c.args.len 4 c.if-len-eq4.false, c.if-not-closed.false) (opens_none c.args.self.now)
