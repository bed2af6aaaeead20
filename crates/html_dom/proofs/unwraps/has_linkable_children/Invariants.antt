use Rattle.std.proofs.Common.{◌≡◌, length}
use Rattle.html_arena.specs.Tree.{children_of}
use Rattle.html_dom.specs.Edits.{are_linkable}
use Rattle.html_dom.proofs.unwraps.has_linkable_children.Given as goal

abbrev pub invariant-children : goal.invariant-children
invariant-children l = are_linkable l.arena (children_of l.arena l.fn.node) ≡ are_linkable l.arena l.children

abbrev pub decreases-children : goal.decreases-children
decreases-children l = length l.children
