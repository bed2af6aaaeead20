use Rattle.std.proofs.Common.{◌≡◌, ◌-◌, ◌≤◌, ◌++◌, drop, length}
use Rattle.html_input.specs.Added.{added}
use Rattle.html_input.specs.WellFormed.{BeginsWith}
use Rattle.html_input.proofs.Spelling.{IsFront}
use Rattle.html_input.proofs.well_formed.put_well_formed.Given as goal

abbrev pub invariant-putting : goal.invariant-putting
invariant-putting l = record {
  within : l.at ≤ length l.bytes;
  begins : BeginsWith (drop l.at l.bytes) l.c l.width;
  kept : l.out.items ≡ l.initial.out.items ++ added l.initial.out.items l.out.items;
  front : IsFront l.at l.bytes (added l.initial.out.items l.out.items);
}

abbrev pub decreases-putting : goal.decreases-putting
decreases-putting l = length l.bytes - l.at
