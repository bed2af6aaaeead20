use Rattle.std.proofs.Common.{drop, suc, sym, ap, ◌∙◌}
use Rattle.std.specs.List.{flat_map}
use Rattle.html_device.proofs.Puts.{Moves-is, Moves-trans, front_after, put_err}
use Rattle.html_print.proofs.Bytes.{attribute_line, attribute_lines}
use Rattle.html_device.proofs.OneByOne.{all_of, from_one, one_more}
use Rattle.html_print.proofs.attributes.put_attributes.Goals as goal

pub returns-in_err-put_attribute-clause-bytes : goal.returns-in_err-put_attribute-clause-bytes
returns-in_err-put_attribute-clause-bytes g c =
    let f = attribute_line c.args.depth c.args.foreign in
    put_err _ _ _ _ _ _ c.from_residual.ensures.0
    (front_after _ _ _ _ _ _ _ _ c.attrs.invariant.put c.in_err-put_attribute.ensures.bytes (flat_map f (drop (suc c.attrs.attr-index) c.args.attrs.now))
    (attribute_lines c.args.depth c.args.foreign c.args.attrs.now ∙ from_one f c.args.attrs.now c.attrs.attr-index c.attr-item.result _ c.attrs-test.true (ap f c.attr-item.is)))

pub attrs-preserved : goal.attrs-preserved
attrs-preserved g c =
    let f = attribute_line c.args.depth c.args.foreign in
    record {
      put =
          Moves-is _ _ _ _ _ _ (sym (one_more f c.args.attrs.now c.attrs.attr-index c.attr-item.result _ c.attrs-test.true (ap f c.attr-item.is)))
          (Moves-trans _ _ _ _ _ _ _ _ c.attrs.invariant.put c.in_ok-put_attribute.ensures.bytes);
      failing = λ now. c.attrs.invariant.failing (c.in_ok-put_attribute.ensures.failing now);
      stalling = λ now. c.attrs.invariant.stalling (c.in_ok-put_attribute.ensures.stalling now);
    }

pub returns-clause-bytes : goal.returns-clause-bytes
returns-clause-bytes g c =
    Moves-is _ _ _ _ _ _ (sym (attribute_lines c.args.depth c.args.foreign c.args.attrs.now ∙ all_of (attribute_line c.args.depth c.args.foreign) c.args.attrs.now c.attrs.attr-index c.attrs-test.false)) c.attrs.invariant.put
