use Rattle.std.proofs.Common.{◌≡◌, ◌≤◌, ◌-◌, length, take}
use Rattle.std.specs.Prelude.{count_by}
use Rattle.html_tree.specs.Paragraphs.{is_p_end}
use Rattle.html_tree.proofs.paragraphs.count_ends.Given as goal

abbrev pub invariant-counting : goal.invariant-counting
invariant-counting l = record {
  within : l.at ≤ length l.nodes;
  so_far : l.count ≡ count_by (is_p_end l.arena) (take l.at l.nodes);
  most : l.count ≤ l.at;
}

abbrev pub decreases-counting : goal.decreases-counting
decreases-counting l = length l.nodes - l.at
