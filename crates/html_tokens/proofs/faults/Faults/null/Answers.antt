use Rattle.html_tokens.proofs.EndLemmas.{differs}
use Rattle.html_tokens.proofs.ToldLemmas.{opens_none}
use Rattle.html_tokens.proofs.faults.Faults.null.Goals as goal

pub returns-else-c-eq0-clause-opens : goal.returns-else-c-eq0-clause-opens
returns-else-c-eq0-clause-opens c = rw (differs c.args.c 0 c.if-c-eq0.false) (opens_none c.args.self.now)
