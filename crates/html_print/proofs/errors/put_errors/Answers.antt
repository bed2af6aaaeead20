use Rattle.std.proofs.Common.{drop, suc, sym, refl}
use Rattle.html_device.proofs.OneByOne.{all_of, from_one, one_more}
use Rattle.html_device.proofs.Puts.{Moves-is, Moves-trans, front_after, put_err}
use Rattle.html_print.specs.Errors.{error_line, error_lines}
use Rattle.html_print.proofs.errors.put_errors.Goals as goal

pub returns-in_err-put_error-clause-bytes : goal.returns-in_err-put_error-clause-bytes
returns-in_err-put_error-clause-bytes g c =
    put_err _ _ _ _ _ _ c.from_residual.ensures.0
    (front_after _ _ _ _ _ _ _ _ c.errors.invariant.put c.in_err-put_error.ensures.bytes (error_lines (drop (suc c.errors.error-index) c.args.errors.now))
    (from_one error_line c.args.errors.now c.errors.error-index _ _ c.errors-test.true refl))

pub errors-preserved : goal.errors-preserved
errors-preserved g c = record {
  put =
      Moves-is _ _ _ _ _ _ (sym (one_more error_line c.args.errors.now c.errors.error-index _ _ c.errors-test.true refl))
      (Moves-trans _ _ _ _ _ _ _ _ c.errors.invariant.put c.in_ok-put_error.ensures.bytes);
  failing = λ now. c.errors.invariant.failing (c.in_ok-put_error.ensures.failing now);
  stalling = λ now. c.errors.invariant.stalling (c.in_ok-put_error.ensures.stalling now);
}

pub returns-clause-bytes : goal.returns-clause-bytes
returns-clause-bytes g c = Moves-is _ _ _ _ _ _ (sym (all_of error_line c.args.errors.now c.errors.error-index c.errors-test.false)) c.errors.invariant.put
