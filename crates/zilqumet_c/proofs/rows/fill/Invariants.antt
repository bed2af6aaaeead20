use Rattle.std.proofs.Common.{◌+◌, ◌-◌, ◌≡◌, ◌≤◌, length}
use Rattle.zilqumet_c.specs.Reads.{AreRows}
use Rattle.zilqumet_c.proofs.rows.fill.Given as goal

abbrev pub invariant-rows : goal.invariant-rows
invariant-rows l = (l.all ≡ length l.arena.labels) × (l.count ≤ length l.rows) × (l.node ≡ l.from + l.count) × (l.node ≤ l.all) × (length l.rows ≡ length l.initial.rows) × AreRows l.arena l.from l.count l.rows

abbrev pub decreases-rows : goal.decreases-rows
decreases-rows l = l.all - l.node
