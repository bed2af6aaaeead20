use Rattle.std.proofs.Common.{length, ◌-◌, ◌≤◌, take}
use Rattle.html_input.specs.Plain.{IsPlain}
use Rattle.html_input.proofs.plain.plain_steps.Given as goal

abbrev pub invariant-loop-len : goal.invariant-loop-len
invariant-loop-len l = (l.len ≤ length l.bytes) × IsPlain (take l.len l.bytes)

abbrev pub decreases-loop-len : goal.decreases-loop-len
decreases-loop-len l = length l.bytes - l.len
