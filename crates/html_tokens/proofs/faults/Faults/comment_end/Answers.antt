use Rattle.html_tokens.proofs.ToldLemmas.{opens_none}
use Rattle.html_tokens.proofs.faults.Faults.comment_end.Goals as goal

pub returns-in-Bogus-clause-opens : goal.returns-in-Bogus-clause-opens
returns-in-Bogus-clause-opens c = λ closed decided. rw c.in-Bogus.is (opens_none c.args.self.now)

pub returns-in-Declared-clause-opens : goal.returns-in-Declared-clause-opens
returns-in-Declared-clause-opens c = λ closed decided. rw c.in-Declared.is (c.declared_close.ensures.opens closed decided)
