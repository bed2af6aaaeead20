use Rattle.std.proofs.Common.{ℕ, true, List, ◌++◌, sym, ap, ◌∙◌, refl, append_assoc}
use Rattle.std.specs.Prelude.{codes}
use Rattle.std.specs.Str.{encode_utf8_all, chars}
use Rattle.std.specs.List.{flat_map}
use Rattle.html_page.specs.Html.{escaped_in_value, qualified}
use Rattle.html_page.proofs.Tagged.{attribute_cut}
use Rattle.html_device.proofs.Puts.{Moves-trans, front_first, front_after, put_err, put_after}
use Rattle.html_page.proofs.serialising.put_foreign_attribute.Goals as goal

pub returns-in_err-put_foreign_name-clause-bytes : goal.returns-in_err-put_foreign_name-clause-bytes
returns-in_err-put_foreign_name-clause-bytes g c =
    put_err _ _ _ _ _ _ c.from_residual.ensures.0
    (front_first _ _ _ _ _ c.in_err-put_foreign_name.ensures.bytes (encode_utf8_all (flat_map (escaped_in_value c.args.profile) c.args.attr.now.value) ++ codes "\"")
    (attribute_cut c.args.profile true c.args.attr.now (encode_utf8_all (qualified c.args.attr.now.name)) _ refl refl))

pub returns-in_err-put_escaped-clause-bytes : goal.returns-in_err-put_escaped-clause-bytes
returns-in_err-put_escaped-clause-bytes g c =
    put_err _ _ _ _ _ _ c.from_residual-in_err-put_escaped.ensures.0
    (front_after _ _ _ _ _ _ _ _ c.in_ok-put_foreign_name.ensures.bytes c.in_err-put_escaped.ensures.bytes (codes "\"")
    (attribute_cut c.args.profile true c.args.attr.now (encode_utf8_all (qualified c.args.attr.now.name)) _ refl (ap (λ (l : List ℕ). encode_utf8_all (flat_map (escaped_in_value c.args.profile) l)) c.as_str.ensures.code_points)))

pub returns-clause-bytes : goal.returns-clause-bytes
returns-clause-bytes g c =
    put_after _ _ _ _ _ _ _ _ _ _ (Moves-trans _ _ _ _ _ _ _ _ c.in_ok-put_foreign_name.ensures.bytes c.in_ok-put_escaped.ensures.bytes) c.put.ensures.bytes
    (attribute_cut c.args.profile true c.args.attr.now (encode_utf8_all (qualified c.args.attr.now.name)) (encode_utf8_all (flat_map (escaped_in_value c.args.profile) (chars c.as_str.result.now))) refl (ap (λ (l : List ℕ). encode_utf8_all (flat_map (escaped_in_value c.args.profile) l)) c.as_str.ensures.code_points)
    ∙ sym (append_assoc (codes " " ++ (encode_utf8_all (qualified c.args.attr.now.name) ++ codes "=\"")) (encode_utf8_all (flat_map (escaped_in_value c.args.profile) (chars c.as_str.result.now))) (codes "\"")))
