use Rattle.std.proofs.Common.{◌≡◌, take}
use Rattle.std.specs.List.{sum_by}
use Rattle.html_arena.specs.Weight.{capped, weight}
use Rattle.html_arena.proofs.data.all_held.Given as goal

abbrev pub invariant-loop-node : goal.invariant-loop-node
invariant-loop-node l = l.held ≡ capped (sum_by weight (take l.node-index l.nodes))
