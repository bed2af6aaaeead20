use Rattle.std.proofs.Common.{ℕ, List, ◌≡◌, []}
use Rattle.std.specs.Prelude.{Option, Result, Ok, Err, OnOk, OnErr}
use Rattle.std.specs.Io.KnownBytes.{Appends}
use Rattle.std.specs.Str.{encode_utf8_all}
use Rattle.html_arena.specs.Tree.{Tree}
use Rattle.html_device.specs.Device.{AppendsFront}
use Rattle.html_device.specs.declared.device.DeviceFault.{DeviceFault}
use Rattle.html_device.specs.Putting.{Moves, MovesFront}
use Rattle.html_device.proofs.Puts.{front_written, written_all, written_front}
use Rattle.html_print.specs.Printed.{IsPrinted}
use Rattle.html_print.proofs.Walks.{map_printed}
use Rattle.html_print.proofs.printing.write_lines.Goals as goal

module _ (t : Tree) (r : ℕ) (a b c : Option (List ℕ)) (h k : List ℕ) (e : h ≡ []) where
  all_flushed : (f : Result (Unit {0}) DeviceFault) → IsPrinted t r (λ s. Moves a h b k (encode_utf8_all s)) → OnOk f (Appends b c k) → OnOk f (IsPrinted t r (λ s. Appends a c (encode_utf8_all s)))
  all_flushed (Ok u) p q = map_printed t _ _ r (λ s m. written_all a b c h k (encode_utf8_all s) e m q) p
  all_flushed (Err f) p q = tt

  front_flushed : (f : Result (Unit {0}) DeviceFault) → IsPrinted t r (λ s. Moves a h b k (encode_utf8_all s)) → OnErr f (AppendsFront b c k) → OnErr f (IsPrinted t r (λ s. AppendsFront a c (encode_utf8_all s)))
  front_flushed (Ok u) p q = tt
  front_flushed (Err f) p q = map_printed t _ _ r (λ s m. written_front a b c h k (encode_utf8_all s) e m q) p

module _ (t : Tree) (r : ℕ) (a b : Option (List ℕ)) (h : List ℕ) (e : h ≡ []) where
  front_put : (f : Result (Unit {0}) DeviceFault) → IsPrinted t r (λ s. MovesFront a h b (encode_utf8_all s)) → OnErr f (IsPrinted t r (λ s. AppendsFront a b (encode_utf8_all s)))
  front_put (Ok u) p = tt
  front_put (Err f) p = map_printed t _ _ r (λ s m. front_written a b h (encode_utf8_all s) e m) p

pub returns-clause-ok : goal.returns-clause-ok
returns-clause-ok g c = all_flushed c.args.arena.now c.args.root _ _ _ _ _ c.new-output.ensures c.flush.result c.in_ok-put_lines.ensures.bytes c.flush.ensures.ok

pub returns-clause-err : goal.returns-clause-err
returns-clause-err g c = front_flushed c.args.arena.now c.args.root _ _ _ _ _ c.new-output.ensures c.flush.result c.in_ok-put_lines.ensures.bytes c.flush.ensures.err

pub returns-in_err-put_lines-clause-err : goal.returns-in_err-put_lines-clause-err
returns-in_err-put_lines-clause-err g c = front_put c.args.arena.now c.args.root _ _ _ c.new-output.ensures c.from_residual.result c.in_err-put_lines.ensures.bytes
