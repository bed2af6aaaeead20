use Rattle.std.proofs.Common.{◌+◌, ◌-◌, ◌≤◌, ◌++◌, sym, ap, ◌∙◌, arith}
use Rattle.html_device.proofs.Puts.{Moves-trans, Moves-is, front_after, put_err}
use Rattle.html_device.proofs.Spaces.{blanks, blanks_all, blanks_more, least}
use Rattle.html_device.proofs.output.Output.put_spaces.Goals as goal

pub returns-in_err-put-clause-bytes : goal.returns-in_err-put-clause-bytes
returns-in_err-put-clause-bytes g c =
    let v = c.spaces.invariant in
    let now = c.min-now.result in
    put_err _ _ _ _ _ _ c.from_residual.ensures.0
    (front_after _ _ _ _ _ _ _ _ v.put c.in_err-put.ensures.bytes (blanks (c.spaces.left - now))
    (blanks_all c.args.count v.done now c.spaces.left v.split (least now c.spaces.left c.min-now.ensures) ∙ ap (λ l. blanks v.done ++ (l ++ blanks (c.spaces.left - now))) (sym c.spaces-in-spaces.ensures)))

pub spaces-preserved : goal.spaces-preserved
spaces-preserved g c =
    let v = c.spaces.invariant in
    let now = c.min-now.result in
    let few : now ≤ c.spaces.left = least now c.spaces.left c.min-now.ensures in
    let s = v.split in
    record {
      done = v.done + now;
      split = omega arith;
      put = Moves-is _ _ _ _ _ _ (ap (λ l. blanks v.done ++ l) c.spaces-in-spaces.ensures ∙ sym (blanks_more v.done now)) (Moves-trans _ _ _ _ _ _ _ _ v.put c.in_ok-put.ensures.bytes);
      failing = λ now. v.failing (c.in_ok-put.ensures.failing now);
      stalling = λ now. v.stalling (c.in_ok-put.ensures.stalling now);
    }
