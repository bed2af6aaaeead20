use Rattle.std.proofs.Common.{◌++◌, ◌∷◌, [], arith}
use Rattle.zilqumet_rows.proofs.Telling.{gone_past, longer, one_more}
use Rattle.zilqumet_rows.proofs.ledger.pass_over.Goals as goal

pub passing-preserved : goal.passing-preserved
passing-preserved c =
    let v = c.passing.invariant in
    let next = gone_past _ _ _ c.if-is_none.ensures c.next_entry.ensures.some in
    record {
      done = v.done ++ next.0 ∷ [];
      all = one_more _ v.done _ _ next.0 v.all next.1;
      so_many = longer v.done next.0 c.passing.passed v.so_many;
      few = omega (arith, c.passing-test.true);
    }
