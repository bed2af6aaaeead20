use Rattle.std.proofs.Common.{◌≡◌, take}
use Rattle.html_arena.specs.Merge.{lacking}
use Rattle.html_arena.specs.Weight.{capped, attrs_weight}
use Rattle.html_arena.proofs.attributes.lacking_held.Given as goal

abbrev pub invariant-loop-attr : goal.invariant-loop-attr
invariant-loop-attr l = l.held ≡ capped (attrs_weight (lacking l.own (take l.attr-index l.later)))
