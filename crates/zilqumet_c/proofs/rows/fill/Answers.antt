use Rattle.std.proofs.Common.{◌≡◌, ◌<◌, ◌≤◌, ◌+◌, ◌∙◌, length, set, sym, subst, arith}
use Rattle.std.proofs.lemmas.List.{length-set}
use Rattle.zilqumet_c.specs.Reads.{IsRow}
use Rattle.zilqumet_c.proofs.Filling.{more_rows}
use Rattle.zilqumet_c.proofs.rows.fill.Goals as goal

pub rows-preserved : goal.rows-preserved
rows-preserved c =
    let inv = c.rows.invariant in
    let same : length (set c.rows.rows c.rows.count c.row_of.result) ≡ length c.rows.rows = length-set c.rows.rows c.rows.count c.row_of.result in
    let here = subst (λ x. IsRow c.args.arena.now x c.row_of.result) (c.at.ensures ∙ inv.2) c.row_of.ensures in (
      inv.0,
      omega (arith, same, c.if-count-rows.true),
      omega (arith, inv.2),
      omega (arith, c.rows-test.true),
      same ∙ inv.4,
      more_rows c.args.arena.now c.args.from c.rows.count c.rows.rows c.row_of.result c.if-count-rows.true inv.5 here,
    )
