use Rattle.std.proofs.Common.{ℕ, List, ◌≡◌, []}
use Rattle.std.specs.Prelude.{Option, Result, Ok, Err, OnErr}
use Rattle.html_device.specs.Device.{AppendsFront}
use Rattle.html_device.specs.declared.device.DeviceFault.{DeviceFault}
use Rattle.html_device.specs.Putting.{Moves}
use Rattle.html_device.proofs.Puts.{written_front}
use Rattle.html_page.proofs.parts.write_node.Goals as goal

last_front : (a b c : Option (List ℕ)) (h k xs : List ℕ) (r : Result (Unit {0}) DeviceFault) → h ≡ [] → Moves a h b k xs → OnErr r (AppendsFront b c k) → OnErr r (AppendsFront a c xs)
last_front a b c h k xs (Ok u) e p q = tt
last_front a b c h k xs (Err f) e p q = written_front a b c h k xs e p q

pub returns-clause-err : goal.returns-clause-err
returns-clause-err g c = last_front _ _ _ _ _ _ _ c.new-output.ensures c.in_ok-put_node.ensures.bytes c.flush.ensures.err
