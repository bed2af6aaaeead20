use Rattle.std.proofs.Common.{◌≡◌, take}
use Rattle.html_dom.proofs.attrs.copies.Given as goal

abbrev pub invariant-loop-attr : goal.invariant-loop-attr
invariant-loop-attr l = l.all.items ≡ take l.attr-index l.own
