use Rattle.std.proofs.lemmas.Result.{on_ok_weaker}
use Rattle.html_suite.proofs.Reports.{quiet, told}
use Rattle.html_suite.proofs.suite.count.Goals as goal

pub returns-in-Failed-clause-run : goal.returns-in-Failed-clause-run
returns-in-Failed-clause-run g c = λ start h.
    on_ok_weaker c.tell_failed.result (λ line. told c.args.verbose c.args.name.now start _ c.args.counts.now c.add.new.self _ c.add.ensures h _ _ _ c.in-Failed.is c.all.ensures line) c.tell_failed.ensures.ok

pub returns-in-Passed-2-clause-run : goal.returns-in-Passed-2-clause-run
returns-in-Passed-2-clause-run g c = λ start h. quiet c.args.verbose c.args.name.now start _ c.args.counts.now c.add.new.self _ c.add.ensures h c.in-Passed.is

pub returns-in-Passed-clause-run : goal.returns-in-Passed-clause-run
returns-in-Passed-clause-run g c = λ start h. quiet c.args.verbose c.args.name.now start _ c.args.counts.now c.add.new.self _ c.add.ensures h c.in-Passed.is
