use Rattle.std.proofs.Common.{◌≡◌, take, chars}
use Rattle.html_dom.specs.Attributes.{without_name}
use Rattle.html_dom.proofs.attrs.copies_without.Given as goal

abbrev pub invariant-loop-attr : goal.invariant-loop-attr
invariant-loop-attr l = l.all.items ≡ without_name (chars l.name) (take l.attr-index l.own)
