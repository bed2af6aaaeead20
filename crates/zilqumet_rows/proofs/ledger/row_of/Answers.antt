use Rattle.std.proofs.Common.{◌∙◌, [], ap, refl, length}
use Rattle.std.proofs.lemmas.Str.{chars-nil}
use Rattle.zilqumet_rows.specs.Entries.{number_of}
use Rattle.zilqumet_rows.proofs.Telling.{kept_by_min}
use Rattle.zilqumet_rows.proofs.ledger.row_of.Goals as goal

pub returns-in-Char : goal.returns-in-Char
returns-in-Char c = rw c.in-Char.is (record {
  start_is = refl;
  end_is = λ few. kept_by_min _ _ c.saturating_add.ensures few;
  kind_is = refl;
  code_point_is = refl;
  name_is = ([], chars-nil, c.text_of.ensures.len ∙ ap length c.as_bytes.ensures.value);
  fate_is = c.fate_number.ensures;
  cause_is = c.cause_number.ensures;
  node_is = c.number.ensures ∙ ap number_of c.node_of.ensures;
})
