use Rattle.std.proofs.Common.{◌++◌, sym, ap, refl, append_assoc}
use Rattle.html_device.proofs.Puts.{Moves-trans, front_first, front_after, put_err, put_after}
use Rattle.html_device.proofs.output.Output.put_between.Goals as goal

pub returns-in_err-put-clause-bytes : goal.returns-in_err-put-clause-bytes
returns-in_err-put-clause-bytes g c =
    put_err _ _ _ _ _ _ c.from_residual.ensures.0
    (front_first _ _ _ _ _ c.in_err-put.ensures.bytes (c.args.text.now ++ c.args.after.now) (ap (λ l. l ++ (c.args.text.now ++ c.args.after.now)) (sym c.as_bytes.ensures.value)))

pub returns-in_err-put-2-clause-bytes : goal.returns-in_err-put-2-clause-bytes
returns-in_err-put-2-clause-bytes g c =
    put_err _ _ _ _ _ _ c.from_residual-in_err-put-2.ensures.0
    (front_after _ _ _ _ _ _ _ _ c.in_ok-put.ensures.bytes c.in_err-put-2.ensures.bytes c.args.after.now
    (rw (c.as_bytes.ensures.value, c.as_bytes-2.ensures.value) refl))

pub returns-clause-bytes : goal.returns-clause-bytes
returns-clause-bytes g c =
    put_after _ _ _ _ _ _ _ _ _ _ (Moves-trans _ _ _ _ _ _ _ _ c.in_ok-put.ensures.bytes c.in_ok-put-2.ensures.bytes) c.put-3.ensures.bytes
    (rw (c.as_bytes.ensures.value, c.as_bytes-2.ensures.value, c.as_bytes-3.ensures.value) (sym (append_assoc c.args.before.now c.args.text.now c.args.after.now)))
