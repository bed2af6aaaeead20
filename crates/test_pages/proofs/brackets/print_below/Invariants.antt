use Rattle.std.proofs.Common.{◌<◌, length}
use Rattle.std.specs.List.{All}
use Rattle.html_arena.specs.declared.walk.Event.{Event}
use Rattle.html_arena.specs.Steps.{node_in}
use Rattle.test_pages.proofs.brackets.print_below.Given as goal

-- what is printed next is a node
abbrev pub invariant-events : goal.invariant-events
invariant-events l = All (λ (e : Event). node_in e < length l.arena.labels) l.walk

abbrev pub decreases-events : goal.decreases-events
decreases-events l = length l.walk
