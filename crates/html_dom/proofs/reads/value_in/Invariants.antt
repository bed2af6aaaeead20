use Rattle.std.proofs.Common.{◌≡◌, drop, chars}
use Rattle.html_dom.specs.Reads.{value_of}
use Rattle.html_dom.proofs.reads.value_in.Given as goal

abbrev pub invariant-loop-attr : goal.invariant-loop-attr
invariant-loop-attr l = value_of (chars l.name) l.attrs ≡ value_of (chars l.name) (drop l.attr-index l.attrs)
