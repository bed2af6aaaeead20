use Rattle.std.proofs.Common.{◌≡◌, ◌≤◌, length, take}
use Rattle.std.specs.Str.{chars}
use Rattle.html_open.specs.Lists.{last_index}
use Rattle.html_tree.specs.Foreign.{named_or_html}
use Rattle.html_tree.proofs.foreign.foreign_index.Given as goal

abbrev pub invariant-seeking : goal.invariant-seeking
invariant-seeking l = record {
  within : l.at ≤ length l.nodes;
  rest : last_index (named_or_html l.arena (chars l.name)) l.nodes ≡ last_index (named_or_html l.arena (chars l.name)) (take l.at l.nodes);
}

abbrev pub decreases-seeking : goal.decreases-seeking
decreases-seeking l = l.at
