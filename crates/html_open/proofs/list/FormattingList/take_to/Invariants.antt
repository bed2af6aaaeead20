use Rattle.std.proofs.Common.{length}
use Rattle.html_open.proofs.Popping.{Taking}
use Rattle.html_open.proofs.list.FormattingList.take_to.Given as goal

abbrev pub invariant-taking : goal.invariant-taking
invariant-taking l = Taking l.len l.initial.self l.initial.arena l.self l.arena

abbrev pub decreases-taking : goal.decreases-taking
decreases-taking l = length l.self
