use Rattle.html_open.specs.Entries.{alike}
use Rattle.html_open.proofs.Pushes.{Passed}
use Rattle.html_open.proofs.pushing.first_alike.Given as goal

abbrev pub invariant-loop-index : goal.invariant-loop-index
invariant-loop-index l = Passed (alike l.arena l.node) l.entries l.index
