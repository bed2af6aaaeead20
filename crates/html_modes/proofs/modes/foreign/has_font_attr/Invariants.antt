use Rattle.std.proofs.Common.{◌≡◌, drop}
use Rattle.html_modes.specs.Foreign.{has_font_attr}
use Rattle.html_modes.proofs.modes.foreign.has_font_attr.Given as goal

abbrev pub invariant-loop-attr : goal.invariant-loop-attr
invariant-loop-attr l = has_font_attr l.attrs ≡ has_font_attr (drop l.attr-index l.attrs)
