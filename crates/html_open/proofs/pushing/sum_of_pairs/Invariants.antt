use Rattle.std.proofs.Common.{◌≡◌, take}
use Rattle.std.specs.Prelude.{sum_by}
use Rattle.html_arena.specs.Weight.{capped}
use Rattle.html_open.specs.Entries.{comparisons}
use Rattle.html_open.proofs.pushing.sum_of_pairs.Given as goal

abbrev pub invariant-loop-entry : goal.invariant-loop-entry
invariant-loop-entry l = l.sum ≡ capped (sum_by (comparisons l.arena l.node) (take l.entry-index l.entries))
