use Rattle.html_tokens.proofs.ToldLemmas.{opens_none}
use Rattle.html_tokens.proofs.faults.Faults.nested.Goals as goal

pub returns-else-nests-clause-opens : goal.returns-else-nests-clause-opens
returns-else-nests-clause-opens c = rw c.if-nests.false (opens_none c.args.self.now)
