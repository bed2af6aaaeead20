use Rattle.std.proofs.Common.{◌≡◌, length}
use Rattle.html_charref.specs.Table.{AreRanges}
use Rattle.html_charref.proofs.ranges.ranges_of.Given as goal

abbrev pub invariant-letters : goal.invariant-letters
invariant-letters l = record {
  ranges : AreRanges l.rows l.ranges.items;
  count : length l.ranges.items ≡ l.letter;
}
