use Rattle.std.proofs.Common.{◌≡◌, take, map, chars}
use Rattle.html_dom.specs.Attributes.{chosen}
use Rattle.html_dom.proofs.attrs.copies_chosen.Given as goal

abbrev pub invariant-loop-attr : goal.invariant-loop-attr
invariant-loop-attr l = l.all.items ≡ map (chosen (chars l.name) (chars l.value)) (take l.attr-index l.own)
