use Rattle.html_run.specs.Jobs.{start_for}
use Rattle.html_run.proofs.Answers.{all-located, front-located}
use Rattle.html_run.proofs.Fronts.{on-ok}
use Rattle.html_run.proofs.Read.{read-tree}
use Rattle.html_run.proofs.running.answer_located.Goals as goal

pub returns-clause-done : goal.returns-clause-done
returns-clause-done g c =
    let (consumed, is) = c.in_ok-read.ensures.tree in
    on-ok c.list_located.result _ (read-tree (start_for c.args.job.now c.args.table.now) _ _ c.in_ok-read.read.1.items c.in_ok-read.read.0 consumed c.in_ok-read.ensures.end is)

pub returns-clause-answered : goal.returns-clause-answered
returns-clause-answered g c =
    let (consumed, is) = c.in_ok-read.ensures.tree in
    all-located (start_for c.args.job.now c.args.table.now) c.in_ok-read.read.0 c.in_ok-read.read.1.items _ _ consumed c.in_ok-read.ensures.end is _ _ c.list_located.result (rw c.as_slice.ensures.value at c.list_located.ensures.ok)

pub returns-clause-failed : goal.returns-clause-failed
returns-clause-failed g c =
    let (consumed, is) = c.in_ok-read.ensures.tree in
    front-located (start_for c.args.job.now c.args.table.now) c.in_ok-read.read.0 c.in_ok-read.read.1.items _ _ consumed c.in_ok-read.ensures.end is _ _ c.list_located.result (rw c.as_slice.ensures.value at c.list_located.ensures.err) c.list_located.ensures.cause
