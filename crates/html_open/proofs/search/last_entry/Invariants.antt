use Rattle.std.proofs.Common.{◌≡◌, ◌≤◌, length, take}
use Rattle.html_open.specs.Lists.{last_index}
use Rattle.html_open.specs.Searches.{ends_search}
use Rattle.html_open.proofs.search.last_entry.Given as goal

abbrev pub invariant-loop-at : goal.invariant-loop-at
invariant-loop-at l = record {
  within : l.at ≤ length l.entries;
  rest : last_index (ends_search l.arena l.sought) l.entries ≡ last_index (ends_search l.arena l.sought) (take l.at l.entries);
}

abbrev pub decreases-loop-at : goal.decreases-loop-at
decreases-loop-at l = l.at
