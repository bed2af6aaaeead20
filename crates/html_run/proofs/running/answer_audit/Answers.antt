use Rattle.html_run.specs.Jobs.{start_for}
use Rattle.html_run.proofs.Answers.{all-audited, front-audited}
use Rattle.html_run.proofs.Fronts.{on-ok}
use Rattle.html_run.proofs.Read.{read-page}
use Rattle.html_run.proofs.running.answer_audit.Goals as goal

pub returns-clause-done : goal.returns-clause-done
returns-clause-done g c =
    let (bytes, consumed, is) = c.in_ok-page.ensures.page in
    on-ok c.list_audit.result _ (read-page (start_for c.args.job.now c.args.table.now) _ _ bytes c.in_ok-page.page consumed c.in_ok-page.ensures.end is)

pub returns-clause-answered : goal.returns-clause-answered
returns-clause-answered g c =
    let (bytes, consumed, is) = c.in_ok-page.ensures.page in
    all-audited (start_for c.args.job.now c.args.table.now) c.in_ok-page.page bytes _ _ consumed c.in_ok-page.ensures.end is _ _ c.list_audit.result c.list_audit.ensures.ok

pub returns-clause-failed : goal.returns-clause-failed
returns-clause-failed g c =
    let (bytes, consumed, is) = c.in_ok-page.ensures.page in
    front-audited (start_for c.args.job.now c.args.table.now) c.in_ok-page.page bytes _ _ consumed c.in_ok-page.ensures.end is _ _ c.list_audit.result c.list_audit.ensures.err c.list_audit.ensures.cause
