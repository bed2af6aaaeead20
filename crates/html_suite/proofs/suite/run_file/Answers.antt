use Rattle.html_suite.proofs.Reports.{reported}
use Rattle.html_suite.proofs.suite.run_file.Goals as goal

pub returns-clause-run : goal.returns-clause-run
returns-clause-run g c =
    let run = c.in_ok-counts.ensures.run in
    (run.cases, run.counted, reported c.args.options.verbose c.args.name.now _ _ _ c.in_ok-counts.counts run (c.in_ok-write_counts.ensures.ok run.cases run.counted))
