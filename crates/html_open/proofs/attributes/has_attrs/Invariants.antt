use Rattle.std.proofs.Common.{◌≡◌, drop}
use Rattle.html_open.specs.Attributes.{has_attrs}
use Rattle.html_open.proofs.attributes.has_attrs.Given as goal

abbrev pub invariant-loop-attr : goal.invariant-loop-attr
invariant-loop-attr l = has_attrs l.own l.attrs ≡ has_attrs (drop l.attr-index l.own) l.attrs
