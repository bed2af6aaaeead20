use Rattle.std.proofs.Common.{◌≡◌, ◌+◌, ◌≤◌, drop, length}
use Rattle.std.specs.Prelude.{filter, reverse}
use Rattle.html_arena.specs.declared.marks.Mark.TheVariants.{InList}
use Rattle.html_arena.specs.Tree.{marked}
use Rattle.html_open.proofs.adoption.clones.elements_to_clone.Given as goal

abbrev pub invariant-loop-at : goal.invariant-loop-at
invariant-loop-at l = record {
  low : l.from ≤ l.at;
  high : l.at ≤ length l.inner;
  few : length l.chosen + l.at ≤ length l.inner;
  chosen_is : l.chosen ≡ reverse (filter (marked l.arena InList) (drop l.at l.inner));
}

abbrev pub decreases-loop-at : goal.decreases-loop-at
decreases-loop-at l = l.at
