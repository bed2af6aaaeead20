use Rattle.std.proofs.Common.{◌≡◌, ◌≤◌, ◌-◌, length, take}
use Rattle.html_names.proofs.names.same.Given as goal

abbrev pub invariant-comparing : goal.invariant-comparing
invariant-comparing l = record {
  within : l.index ≤ length l.text;
  same : take l.index l.text ≡ take l.index l.other;
}

abbrev pub decreases-comparing : goal.decreases-comparing
decreases-comparing l = length l.text - l.index
