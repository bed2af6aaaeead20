use Rattle.std.proofs.Common.{◌≡◌, ◌++◌, take}
use Rattle.html_arena.specs.Merge.{lacking}
use Rattle.html_arena.proofs.attributes.add_lacking.Given as goal

abbrev pub invariant-loop-attr : goal.invariant-loop-attr
invariant-loop-attr l = l.all.items ≡ l.initial.all.items ++ lacking l.own (take l.attr-index l.later)
