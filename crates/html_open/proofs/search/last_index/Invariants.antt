use Rattle.std.proofs.Common.{◌≡◌, ◌≤◌, length, take}
use Rattle.html_open.specs.Lists.{last_index}
use Rattle.html_open.specs.Searches.{is_sought}
use Rattle.html_open.proofs.search.last_index.Given as goal

abbrev pub invariant-loop-at : goal.invariant-loop-at
invariant-loop-at l = record {
  within : l.at ≤ length l.nodes;
  rest : last_index (is_sought l.arena l.sought) l.nodes ≡ last_index (is_sought l.arena l.sought) (take l.at l.nodes);
}

abbrev pub decreases-loop-at : goal.decreases-loop-at
decreases-loop-at l = l.at
