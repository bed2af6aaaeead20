use Rattle.std.proofs.Common.{◌∙◌, drop, suc, sym, refl}
use Rattle.html_device.proofs.OneByOne.{all_of, from_one, one_more}
use Rattle.html_device.proofs.Puts.{Moves-is, Moves-trans, front_after, put_err}
use Rattle.html_print.specs.Errors.{located_line, located_lines}
use Rattle.html_print.proofs.errors.put_located.Goals as goal

pub returns-in_err-put_next-clause-bytes : goal.returns-in_err-put_next-clause-bytes
returns-in_err-put_next-clause-bytes g c =
    put_err _ _ _ _ _ _ c.from_residual.ensures.0
    (front_after _ _ _ _ _ _ _ _ c.errors.invariant.put (rw c.errors.invariant.input at c.in_err-put_next.ensures.bytes) (located_lines c.args.bytes.now (drop (suc c.errors.error-index) c.args.errors.now))
    (from_one (located_line c.args.bytes.now) c.args.errors.now c.errors.error-index _ _ c.errors-test.true refl))

pub errors-preserved : goal.errors-preserved
errors-preserved g c = record {
  input = c.in_ok-put_next.ensures.input ∙ c.errors.invariant.input;
  put =
      Moves-is _ _ _ _ _ _ (sym (one_more (located_line c.args.bytes.now) c.args.errors.now c.errors.error-index _ _ c.errors-test.true refl))
      (Moves-trans _ _ _ _ _ _ _ _ c.errors.invariant.put (rw c.errors.invariant.input at c.in_ok-put_next.ensures.bytes));
  failing = λ now. c.errors.invariant.failing (c.in_ok-put_next.ensures.failing now);
  stalling = λ now. c.errors.invariant.stalling (c.in_ok-put_next.ensures.stalling now);
}

pub returns-clause-bytes : goal.returns-clause-bytes
returns-clause-bytes g c = Moves-is _ _ _ _ _ _ (sym (all_of (located_line c.args.bytes.now) c.args.errors.now c.errors.error-index c.errors-test.false)) c.errors.invariant.put
