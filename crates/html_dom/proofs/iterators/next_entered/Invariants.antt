use Rattle.std.proofs.Common.{◌≡◌, length}
use Rattle.html_dom.specs.Reads.{entered}
use Rattle.html_dom.proofs.iterators.next_entered.Given as goal

abbrev pub invariant-events : goal.invariant-events
invariant-events l = entered l.initial.walk ≡ entered l.walk

abbrev pub decreases-events : goal.decreases-events
decreases-events l = length l.walk
