use Rattle.std.proofs.Common.{ℕ, List, Option}
use Rattle.html_suite.specs.Report.{HasRun}
use Rattle.html_suite.proofs.suite.run_test.Given as goal

-- some cases more were run
abbrev pub invariant-states : goal.invariant-states
invariant-states g l = (start : Option (List ℕ)) → HasRun l.options.verbose l.name start (g.W.Sink.taken l.fn.writer) l.fn.counts → HasRun l.options.verbose l.name start (g.W.Sink.taken l.writer) l.counts
