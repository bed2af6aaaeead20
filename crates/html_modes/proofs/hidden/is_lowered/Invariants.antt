use Rattle.std.proofs.Common.{◌≡◌, drop}
use Rattle.html_names.specs.Foreign.{is_lowered}
use Rattle.html_modes.proofs.hidden.is_lowered.Given as goal

abbrev pub invariant-loop-i : goal.invariant-loop-i
invariant-loop-i l = is_lowered l.capital l.lower ≡ is_lowered (drop l.i l.capital) (drop l.i l.lower)
