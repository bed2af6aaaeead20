use Rattle.std.proofs.Common.{◌-◌, ◌≡◌, ◌≤◌, length}
use Rattle.zilqumet_c.specs.Places.{ArePositions}
use Rattle.zilqumet_c.proofs.places.proved_positions.Given as goal

abbrev pub invariant-places : goal.invariant-places
invariant-places l = (l.count ≤ length l.places) × (l.count ≤ length l.positions) × (length l.positions ≡ length l.initial.positions) × (l.lines.bytes.now ≡ l.bytes)
    × ArePositions l.bytes l.places l.count l.positions

abbrev pub decreases-places : goal.decreases-places
decreases-places l = length l.places - l.count
