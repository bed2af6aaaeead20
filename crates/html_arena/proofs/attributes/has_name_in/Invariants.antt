use Rattle.std.proofs.Common.{◌≡◌, drop}
use Rattle.html_arena.specs.Merge.{has_name}
use Rattle.html_arena.proofs.attributes.has_name_in.Given as goal

abbrev pub invariant-loop-attr : goal.invariant-loop-attr
invariant-loop-attr l = has_name l.name l.attrs ≡ has_name l.name (drop l.attr-index l.attrs)
