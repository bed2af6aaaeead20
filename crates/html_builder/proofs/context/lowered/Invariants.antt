use Rattle.std.proofs.Common.{◌≡◌}
use Rattle.html_names.specs.Foreign.{lowered}
use Rattle.html_builder.proofs.context.lowered.Given as goal

abbrev pub invariant-loop-c : goal.invariant-loop-c
invariant-loop-c l = l.lower ≡ lowered l.yielded
