use Rattle.std.proofs.Common.{◌≡◌, drop}
use Rattle.html_open.specs.Attributes.{has_attr}
use Rattle.html_open.proofs.attributes.has_attr.Given as goal

abbrev pub invariant-loop-other : goal.invariant-loop-other
invariant-loop-other l = has_attr l.attr l.attrs ≡ has_attr l.attr (drop l.other-index l.attrs)
