use Rattle.std.proofs.Common.{◌≡◌, length, true}
use Rattle.html_arena.specs.Tree.{children_of}
use Rattle.html_dom.specs.Edits.{are_linkable}
use Rattle.html_dom.specs.Lifting.{IsPartRaised}
use Rattle.html_dom.proofs.unwraps.raise_children.Given as goal

abbrev pub invariant-raise : goal.invariant-raise
invariant-raise l = record {
  part : IsPartRaised l.initial.arena l.arena l.node l.parent;
  linkable : are_linkable l.arena (children_of l.arena l.node) ≡ true;
}

abbrev pub decreases-raise : goal.decreases-raise
decreases-raise l = length (children_of l.arena l.node)
