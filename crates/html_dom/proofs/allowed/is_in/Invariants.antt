use Rattle.std.proofs.Common.{◌≡◌, drop, chars}
use Rattle.html_dom.specs.Allowed.{is_in}
use Rattle.html_dom.proofs.allowed.is_in.Given as goal

abbrev pub invariant-loop-listed : goal.invariant-loop-listed
invariant-loop-listed l = is_in (chars l.name) l.names ≡ is_in (chars l.name) (drop l.listed-index l.names)
