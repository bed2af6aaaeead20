use Rattle.std.proofs.Common.{true, [], ◌++◌, append-nil, ap, drop, suc, sym, ◌∙◌, refl}
use Rattle.std.specs.Prelude.{codes}
use Rattle.std.specs.Str.{encode_utf8_all}
use Rattle.std.specs.List.{flat_map}
use Rattle.html_names.specs.Foreign.{local_name}
use Rattle.html_page.specs.Html.{attribute}
use Rattle.html_page.proofs.Qualified.{local_bytes}
use Rattle.html_page.proofs.Tagged.{start_tag_cut, opened_at, opened_more, opened_all}
use Rattle.html_device.proofs.Puts.{Moves-trans, Moves-is, front_first, front_after, put_err, put_after}
use Rattle.html_page.proofs.serialising.put_foreign_tag.Goals as goal

pub returns-in_err-put_between-clause-bytes : goal.returns-in_err-put_between-clause-bytes
returns-in_err-put_between-clause-bytes g c =
    put_err _ _ _ _ _ _ c.from_residual.ensures.0
    (front_first _ _ _ _ _ c.in_err-put_between.ensures.bytes (encode_utf8_all (flat_map (attribute c.args.profile true) c.args.attrs.now) ++ codes ">")
    (start_tag_cut c.args.profile true c.args.name.now c.args.attrs.now c.local_name.result.now _ c.requires.foreign (local_bytes c.args.name.now c.as_str.result.now c.local_name.result.now c.local_name.utf8 c.as_str.ensures.code_points c.local_name.ensures.code_points) refl))

pub returns-in_err-put_foreign_attribute-clause-bytes : goal.returns-in_err-put_foreign_attribute-clause-bytes
returns-in_err-put_foreign_attribute-clause-bytes g c =
    put_err _ _ _ _ _ _ c.from_residual-in_err-put_foreign_attribute.ensures.0
    (front_after _ _ _ _ _ _ _ _ c.loop-attr.invariant.put c.in_err-put_foreign_attribute.ensures.bytes (encode_utf8_all (flat_map (attribute c.args.profile true) (drop (suc c.loop-attr.attr-index) c.args.attrs.now)) ++ codes ">")
    (opened_at c.args.profile true c.args.name.now c.args.attrs.now c.requires.foreign c.loop-attr.attr-index c.attr-item.result c.loop-attr-test.true c.attr-item.is))

pub loop-attr-preserved : goal.loop-attr-preserved
loop-attr-preserved g c = record {
  put =
      Moves-is _ _ _ _ _ _ (sym (opened_more c.args.profile true c.args.name.now c.args.attrs.now c.requires.foreign c.loop-attr.attr-index c.attr-item.result c.loop-attr-test.true c.attr-item.is))
      (Moves-trans _ _ _ _ _ _ _ _ c.loop-attr.invariant.put c.in_ok-put_foreign_attribute.ensures.bytes);
  failing = λ now. c.loop-attr.invariant.failing (c.in_ok-put_foreign_attribute.ensures.failing now);
  stalling = λ now. c.loop-attr.invariant.stalling (c.in_ok-put_foreign_attribute.ensures.stalling now);
}

pub returns-clause-bytes : goal.returns-clause-bytes
returns-clause-bytes g c =
    put_after _ _ _ _ _ _ _ _ _ _ c.loop-attr.invariant.put c.put.ensures.bytes (opened_all c.args.profile true c.args.name.now c.args.attrs.now c.requires.foreign c.loop-attr.attr-index c.loop-attr-test.false)

pub loop-attr-init : goal.loop-attr-init
loop-attr-init g c = record {
  put =
      Moves-is _ _ _ _ _ _
      (ap (λ l. codes "<" ++ (l ++ [])) (local_bytes c.args.name.now c.as_str.result.now c.local_name.result.now c.local_name.utf8 c.as_str.ensures.code_points c.local_name.ensures.code_points)
      ∙ sym (append-nil (codes "<" ++ (encode_utf8_all (local_name c.args.name.now) ++ []))))
      c.in_ok-put_between.ensures.bytes;
  failing = c.in_ok-put_between.ensures.failing;
  stalling = c.in_ok-put_between.ensures.stalling;
}
