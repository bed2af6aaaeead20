use Rattle.std.proofs.Common.{length}
use Rattle.html_open.proofs.Popping.{Popping}
use Rattle.html_open.proofs.stack.OpenStack.pop_to.Given as goal

abbrev pub invariant-popping : goal.invariant-popping
invariant-popping l = Popping l.len l.initial.self l.initial.arena l.self l.arena

abbrev pub decreases-popping : goal.decreases-popping
decreases-popping l = length l.self
