use Rattle.std.proofs.Common.{◌≡◌, take, true}
use Rattle.html_input.specs.Plain.{IsPlain}
use Rattle.html_input.proofs.plain.is_plain.Given as goal

abbrev pub invariant-loop-byte : goal.invariant-loop-byte
invariant-loop-byte l = l.all ≡ true → IsPlain (take l.byte-index l.bytes)
