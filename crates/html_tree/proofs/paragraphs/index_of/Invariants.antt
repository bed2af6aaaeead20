use Rattle.std.proofs.Common.{◌≡◌, ◌≤◌, eqb, length, take}
use Rattle.html_open.specs.Lists.{last_index}
use Rattle.html_tree.proofs.paragraphs.index_of.Given as goal

abbrev pub invariant-seeking : goal.invariant-seeking
invariant-seeking l = record {
  within : l.at ≤ length l.nodes;
  rest : last_index (eqb l.node) l.nodes ≡ last_index (eqb l.node) (take l.at l.nodes);
}

abbrev pub decreases-seeking : goal.decreases-seeking
decreases-seeking l = l.at
