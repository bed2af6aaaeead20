use Rattle.std.proofs.Common.{◌≡◌, ◌≤◌, ◌-◌, ◌++◌, take}
use Rattle.html_open.specs.Adopting.{clones_down}
use Rattle.html_open.proofs.adoption.lists.restacked.Given as goal

abbrev pub invariant-loop-number : goal.invariant-loop-number
invariant-loop-number l = record {
  low : l.first ≤ l.number;
  high : l.number ≤ l.clone;
  so_far : l.stack.items ++ clones_down l.first (l.number - l.first) ≡ take l.at l.nodes ++ clones_down l.first (l.clone - l.first);
}

abbrev pub decreases-loop-number : goal.decreases-loop-number
decreases-loop-number l = l.number
