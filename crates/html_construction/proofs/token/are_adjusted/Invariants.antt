use Rattle.std.proofs.Common.{◌≡◌, take}
use Rattle.html_construction.specs.Tokens.{foreign_attrs}
use Rattle.html_construction.proofs.token.are_adjusted.Given as goal

abbrev pub invariant-loop-attr : goal.invariant-loop-attr
invariant-loop-attr l = foreign_attrs l.space (take l.attr-index l.attrs) ≡ take l.attr-index l.attrs
