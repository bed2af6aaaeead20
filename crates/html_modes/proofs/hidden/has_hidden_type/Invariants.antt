use Rattle.std.proofs.Common.{◌≡◌, drop}
use Rattle.html_construction.specs.Words.{is_hidden}
use Rattle.html_modes.proofs.hidden.has_hidden_type.Given as goal

abbrev pub invariant-loop-attr : goal.invariant-loop-attr
invariant-loop-attr l = is_hidden l.attrs ≡ is_hidden (drop l.attr-index l.attrs)
