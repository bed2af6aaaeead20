use Rattle.std.proofs.Common.{◌≡◌, ◌<◌, length}
use Rattle.html_dom.specs.Places.{holder, meets_within}
use Rattle.html_dom.proofs.places.would_cycle.Given as goal

abbrev pub invariant-climb : goal.invariant-climb
invariant-climb l = record {
  inside : l.at < length l.arena.labels;
  same : meets_within l.left l.arena l.child l.at ≡ meets_within (length l.arena.labels) l.arena l.child (holder l.arena l.fn.parent);
}

abbrev pub decreases-climb : goal.decreases-climb
decreases-climb l = l.left
