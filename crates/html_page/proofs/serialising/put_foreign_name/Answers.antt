use Rattle.std.proofs.Common.{List, ℕ, ◌++◌, sym, ap, ◌∙◌, refl, append_assoc}
use Rattle.std.specs.Prelude.{codes}
use Rattle.std.specs.Str.{chars, encode_utf8_all}
use Rattle.html_page.specs.Html.{qualified}
use Rattle.html_device.proofs.Puts.{Moves-trans, front_first, front_after, put_err, put_after}
use Rattle.html_page.proofs.serialising.put_foreign_name.Goals as goal

abbrev bytes_of : List ℕ → List ℕ
bytes_of name = codes " " ++ (encode_utf8_all (qualified name) ++ codes "=\"")

pub returns-in_err-put-clause-bytes : goal.returns-in_err-put-clause-bytes
returns-in_err-put-clause-bytes g c =
    put_err _ _ _ _ _ _ c.from_residual.ensures.0 (front_first _ _ _ _ _ c.in_err-put.ensures.bytes (encode_utf8_all (qualified c.args.name.now) ++ codes "=\"") refl)

pub returns-in_err-put_qualified-clause-bytes : goal.returns-in_err-put_qualified-clause-bytes
returns-in_err-put_qualified-clause-bytes g c =
    put_err _ _ _ _ _ _ c.from_residual-in_err-put_qualified.ensures.0
    (front_after _ _ _ _ _ _ _ _ c.in_ok-put.ensures.bytes c.in_err-put_qualified.ensures.bytes (codes "=\"") (ap bytes_of (sym c.as_str.ensures.code_points)))

pub returns-clause-bytes : goal.returns-clause-bytes
returns-clause-bytes g c =
    put_after _ _ _ _ _ _ _ _ _ _ (Moves-trans _ _ _ _ _ _ _ _ c.in_ok-put.ensures.bytes c.in_ok-put_qualified.ensures.bytes) c.put-2.ensures.bytes
    (ap bytes_of (sym c.as_str.ensures.code_points) ∙ sym (append_assoc (codes " ") (encode_utf8_all (qualified (chars c.as_str.result.now))) (codes "=\"")))
