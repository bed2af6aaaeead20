use Rattle.std.proofs.Common.{◌≡◌, ◌≤◌, take}
use Rattle.std.specs.Prelude.{count_by}
use Rattle.html_open.specs.Entries.{alike}
use Rattle.html_open.proofs.pushing.count_alike.Given as goal

abbrev pub invariant-loop-entry : goal.invariant-loop-entry
invariant-loop-entry l = record { counted : l.count ≡ count_by (alike l.arena l.node) (take l.entry-index l.entries); small : l.count ≤ l.entry-index }
