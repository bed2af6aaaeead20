use Rattle.std.proofs.Common.{◌≡◌, drop}
use Rattle.html_names.specs.Names.{begins_with}
use Rattle.html_names.proofs.names.begins_with.Given as goal

abbrev pub invariant-loop-i : goal.invariant-loop-i
invariant-loop-i l = begins_with l.front l.text ≡ begins_with (drop l.i l.front) (drop l.i l.text)
