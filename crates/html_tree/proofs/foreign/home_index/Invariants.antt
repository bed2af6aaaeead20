use Rattle.std.proofs.Common.{◌≡◌, ◌≤◌, length, take}
use Rattle.html_open.specs.Lists.{last_index}
use Rattle.html_tree.specs.Foreign.{is_home}
use Rattle.html_tree.proofs.foreign.home_index.Given as goal

abbrev pub invariant-seeking : goal.invariant-seeking
invariant-seeking l = record {
  within : l.at ≤ length l.nodes;
  rest : last_index (is_home l.arena) l.nodes ≡ last_index (is_home l.arena) (take l.at l.nodes);
}

abbrev pub decreases-seeking : goal.decreases-seeking
decreases-seeking l = l.at
