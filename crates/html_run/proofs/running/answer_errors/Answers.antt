use Rattle.std.proofs.Common.{ℕ, List, Bool, false, subst, sym}
use Rattle.html_print.specs.Errors.{error_lines}
use Rattle.html_parser.specs.declared.page.Tree.{Tree}
use Rattle.html_run.specs.Jobs.{start_for}
use Rattle.html_run.proofs.Answers.{all-listed, errors-answered, errors-failed, front-listed}
use Rattle.html_run.proofs.Fronts.{on-ok}
use Rattle.html_run.proofs.Read.{read-tree}
use Rattle.html_run.proofs.running.answer_errors.Goals as goal

pub returns-clause-done : goal.returns-clause-done
returns-clause-done g c =
    let (bytes, consumed, is) = c.in_ok-tree.ensures.tree in
    on-ok c.list_errors.result _ (read-tree (start_for c.args.job.now c.args.table.now) _ _ bytes c.in_ok-tree.tree consumed c.in_ok-tree.ensures.end is)

pub returns-clause-answered : goal.returns-clause-answered
returns-clause-answered g c =
    let (bytes, consumed, is) = c.in_ok-tree.ensures.tree in
    errors-answered c.args.job.now.lines c.if-job.false (start_for c.args.job.now c.args.table.now) _ _ _ _ c.list_errors.result
    (all-listed (start_for c.args.job.now c.args.table.now) c.in_ok-tree.tree bytes _ _ consumed c.in_ok-tree.ensures.end is (λ (tree : Tree). error_lines tree.errors.items) _ _ c.list_errors.result c.list_errors.ensures.ok)

pub returns-clause-failed : goal.returns-clause-failed
returns-clause-failed g c =
    let (bytes, consumed, is) = c.in_ok-tree.ensures.tree in
    errors-failed c.args.job.now.lines c.if-job.false (start_for c.args.job.now c.args.table.now) _ _ _ _ c.list_errors.result
    (front-listed (start_for c.args.job.now c.args.table.now) c.in_ok-tree.tree bytes _ _ consumed c.in_ok-tree.ensures.end is (λ (tree : Tree). error_lines tree.errors.items) _ _ c.list_errors.result c.list_errors.ensures.err c.list_errors.ensures.cause)
