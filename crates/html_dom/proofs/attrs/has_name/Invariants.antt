use Rattle.std.proofs.Common.{◌≡◌, drop, chars}
use Rattle.html_arena.specs.Merge.{has_name}
use Rattle.html_dom.proofs.attrs.has_name.Given as goal

abbrev pub invariant-loop-attr : goal.invariant-loop-attr
invariant-loop-attr l = has_name (chars l.name) l.attrs ≡ has_name (chars l.name) (drop l.attr-index l.attrs)
