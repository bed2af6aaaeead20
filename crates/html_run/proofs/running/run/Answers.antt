use Rattle.std.proofs.Common.{inr}
use Rattle.html_run.proofs.running.run.Goals as goal

pub returns-clause-told : goal.returns-clause-told
returns-clause-told g c = λ _. inr (
  c.in-Err-answer.error,
  c.in-Ok.table,
  c.in-Ok.ensures.table,
  c.in-Err-answer.ensures.cause,
  c.tell.ensures.status,
  c.tell.ensures.line,
)
