use Rattle.std.proofs.Common.{◌∙◌, ◌++◌, ◌∷◌, [], arith}
use Rattle.std.proofs.lemmas.List.{length-set}
use Rattle.html_ledger.specs.declared.fate.Fate.{Fate}
use Rattle.html_token_list.specs.Shown.{shown}
use Rattle.html_tokens.specs.declared.token.Token.{Token}
use Rattle.zilqumet_rows.proofs.Telling.{longer, more_tokens, one_more, slice_get_at}
use Rattle.zilqumet_rows.proofs.ledger.fill.Goals as goal

pub rows-preserved : goal.rows-preserved
rows-preserved c =
    let v = c.rows.invariant in
    let entry : Token × Fate = (shown c.in-Some.token, c.in-Some.fate) in
    let here = slice_get_at _ v.done _ _ entry c.rows.count v.all c.in-Some.ensures.some v.so_many in
    let same = length-set c.rows.rows c.rows.count c.row_of.result in
    record {
      done = v.done ++ entry ∷ [];
      all = one_more _ v.done _ _ entry v.all c.in-Some.ensures.some;
      so_many = longer v.done entry c.rows.count v.so_many;
      few = omega (arith, same, c.rows-test.true);
      room = same ∙ v.room;
      told = more_tokens _ c.rows.count c.rows.rows c.row_of.result c.rows-test.true v.told c.row_of.ensures here;
    }
