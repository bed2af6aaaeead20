use Rattle.std.proofs.Common.{inl, inr, sym, ◌∙◌}
use Rattle.std.proofs.lemmas.Bool.{true≢false}
use Rattle.html_job.specs.declared.jobs.Command.TheVariants as command
use Rattle.html_print.specs.Counts.{count_lines}
use Rattle.html_print.specs.Errors.{error_lines}
use Rattle.html_parser.specs.declared.page.Tree.{Tree}
use Rattle.html_run.specs.Jobs.{start_for}
use Rattle.html_run.proofs.Answers.{all-listed, all-shown, answered-by, failed-by, front-listed, front-shown, nothing-answered}
use Rattle.html_run.proofs.Fronts.{all-written, front-written, on-ok}
use Rattle.html_run.proofs.Read.{read-tree}
use Rattle.html_run.proofs.running.answer.Goals as goal
use Rattle.html_run.proofs.running.answer.Goals.{in-Audit, in_default, in-Errors, in_default-matches}

pub returns-in-Tree-clause-done : goal.returns-in-Tree-clause-done
returns-in-Tree-clause-done g c =
    let (bytes, consumed, is) = c.in_ok-tree.ensures.tree in
    on-ok c.print.result _ (read-tree (start_for c.args.job.now c.args.table.now) _ _ bytes c.in_ok-tree.tree consumed c.in_ok-tree.ensures.end is)

pub returns-in-Tree-clause-answered : goal.returns-in-Tree-clause-answered
returns-in-Tree-clause-answered g c =
    let (bytes, consumed, is) = c.in_ok-tree.ensures.tree in
    answered-by c.args.job.now.command command.Tree c.in-Tree.is c.args.job.now.lines c.args.job.now.profile (start_for c.args.job.now c.args.table.now) _ _ _ _ c.print.result
    (all-shown (start_for c.args.job.now c.args.table.now) c.in_ok-tree.tree bytes _ _ consumed c.in_ok-tree.ensures.end is _ _ c.print.result c.print.ensures.ok)

pub returns-in-Tree-clause-failed : goal.returns-in-Tree-clause-failed
returns-in-Tree-clause-failed g c =
    let (bytes, consumed, is) = c.in_ok-tree.ensures.tree in
    failed-by c.args.job.now.command command.Tree c.in-Tree.is c.args.job.now.lines c.args.job.now.profile (start_for c.args.job.now c.args.table.now) _ _ _ _ c.print.result
    (front-shown (start_for c.args.job.now c.args.table.now) c.in_ok-tree.tree bytes _ _ consumed c.in_ok-tree.ensures.end is _ _ c.print.result c.print.ensures.err)

pub returns-in-Counts-clause-done : goal.returns-in-Counts-clause-done
returns-in-Counts-clause-done g c =
    let (bytes, consumed, is) = c.in_ok-tree.ensures.tree in
    on-ok c.list_counts.result _ (read-tree (start_for c.args.job.now c.args.table.now) _ _ bytes c.in_ok-tree.tree consumed c.in_ok-tree.ensures.end is)

pub returns-in-Counts-clause-answered : goal.returns-in-Counts-clause-answered
returns-in-Counts-clause-answered g c =
    let (bytes, consumed, is) = c.in_ok-tree.ensures.tree in
    answered-by c.args.job.now.command command.Counts c.in-Counts.is c.args.job.now.lines c.args.job.now.profile (start_for c.args.job.now c.args.table.now) _ _ _ _ c.list_counts.result
    (all-listed (start_for c.args.job.now c.args.table.now) c.in_ok-tree.tree bytes _ _ consumed c.in_ok-tree.ensures.end is count_lines _ _ c.list_counts.result c.list_counts.ensures.ok)

pub returns-in-Counts-clause-failed : goal.returns-in-Counts-clause-failed
returns-in-Counts-clause-failed g c =
    let (bytes, consumed, is) = c.in_ok-tree.ensures.tree in
    failed-by c.args.job.now.command command.Counts c.in-Counts.is c.args.job.now.lines c.args.job.now.profile (start_for c.args.job.now c.args.table.now) _ _ _ _ c.list_counts.result
    (front-listed (start_for c.args.job.now c.args.table.now) c.in_ok-tree.tree bytes _ _ consumed c.in_ok-tree.ensures.end is count_lines _ _ c.list_counts.result c.list_counts.ensures.err c.list_counts.ensures.cause)

pub returns-in-Normalise-clause-done : goal.returns-in-Normalise-clause-done
returns-in-Normalise-clause-done g c =
    let (bytes, consumed, is) = c.in_ok-tree.ensures.tree in
    on-ok c.serialise.result _ (read-tree (start_for c.args.job.now c.args.table.now) _ _ bytes c.in_ok-tree.tree consumed c.in_ok-tree.ensures.end is)

pub returns-in-Normalise-clause-answered : goal.returns-in-Normalise-clause-answered
returns-in-Normalise-clause-answered g c =
    let (bytes, consumed, is) = c.in_ok-tree.ensures.tree in
    answered-by c.args.job.now.command command.Normalise c.in-Normalise.is c.args.job.now.lines c.args.job.now.profile (start_for c.args.job.now c.args.table.now) _ _ _ _ c.serialise.result
    (all-written (start_for c.args.job.now c.args.table.now) c.args.job.now.profile c.in_ok-tree.tree bytes _ _ c.serialise.result
    consumed c.in_ok-tree.ensures.end is c.serialise.ensures.size c.serialise.ensures.only _ _ c.serialise.ensures.ok)

pub returns-in-Normalise-clause-failed : goal.returns-in-Normalise-clause-failed
returns-in-Normalise-clause-failed g c =
    let (bytes, consumed, is) = c.in_ok-tree.ensures.tree in
    failed-by c.args.job.now.command command.Normalise c.in-Normalise.is c.args.job.now.lines c.args.job.now.profile (start_for c.args.job.now c.args.table.now) _ _ _ _ c.serialise.result
    (front-written (start_for c.args.job.now c.args.table.now) c.args.job.now.profile c.in_ok-tree.tree bytes _ _ c.serialise.result
    consumed c.in_ok-tree.ensures.end is c.serialise.ensures.size c.serialise.ensures.only _ _ c.serialise.ensures.err c.serialise.ensures.cause)

pub returns-clause-answered : goal.returns-clause-answered
returns-clause-answered g c = elim c.match-matches.branch [
  | in-Audit w ↦ absurd (true≢false (sym w.matches-is ∙ c.if-matches.false))
  | in_default w ↦ elim c.match-matches-2.branch [
    | in-Errors v ↦ absurd (true≢false (sym v.matches-is ∙ c.if-matches-2.false))
    | in_default-matches v ↦ elim c.in-Errors-command.is [
      | inl is ↦ absurd (v.in_default-matches.not-Errors is)
      | inr rest ↦ elim rest [
        | inl is ↦ absurd (w.in_default.not-Audit is)
        | inr is ↦ (let (bytes, consumed, was) = c.in_ok-tree.ensures.tree in
            nothing-answered (start_for c.args.job.now c.args.table.now) c.in_ok-tree.tree bytes _ _ consumed c.in_ok-tree.ensures.end was c.args.job.now.command is c.args.job.now.lines c.args.job.now.profile _)
      ]
    ]
  ]
]
