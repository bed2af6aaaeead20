use Rattle.std.proofs.Common.{Bor, List, ℕ, drop, suc, sym}
use Rattle.std.specs.List.{flat_map}
use Rattle.html_device.proofs.Puts.{Moves-is, Moves-trans, front_after, put_err}
use Rattle.html_device.proofs.OneByOne.{all_of, from_one, one_more}
use Rattle.html_print.proofs.line.put_texts.Goals as goal

abbrev bytes : Bor (List ℕ) → List ℕ
bytes s = s.now

pub returns-in_err-put-clause-bytes : goal.returns-in_err-put-clause-bytes
returns-in_err-put-clause-bytes g c =
    put_err _ _ _ _ _ _ c.from_residual.ensures.0
    (front_after _ _ _ _ _ _ _ _ c.texts.invariant.put c.in_err-put.ensures.bytes (flat_map bytes (drop (suc c.texts.text-index) c.args.texts.now))
    (from_one bytes c.args.texts.now c.texts.text-index _ _ c.texts-test.true c.as_bytes.ensures.value))

pub texts-preserved : goal.texts-preserved
texts-preserved g c = record {
  put =
      Moves-is _ _ _ _ _ _ (sym (one_more bytes c.args.texts.now c.texts.text-index _ _ c.texts-test.true c.as_bytes.ensures.value))
      (Moves-trans _ _ _ _ _ _ _ _ c.texts.invariant.put c.in_ok-put.ensures.bytes);
  failing = λ now. c.texts.invariant.failing (c.in_ok-put.ensures.failing now);
  stalling = λ now. c.texts.invariant.stalling (c.in_ok-put.ensures.stalling now);
}

pub returns-clause-bytes : goal.returns-clause-bytes
returns-clause-bytes g c = Moves-is _ _ _ _ _ _ (sym (all_of bytes c.args.texts.now c.texts.text-index c.texts-test.false)) c.texts.invariant.put
