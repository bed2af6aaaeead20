use Rattle.std.proofs.Common.{◌≡◌, ◌<◌, length}
use Rattle.html_dom.specs.Places.{ends_within}
use Rattle.html_dom.proofs.places.ends_above.Given as goal

abbrev pub invariant-climb : goal.invariant-climb
invariant-climb l = record {
  inside : l.at < length l.arena.labels;
  same : ends_within l.left l.arena l.at ≡ ends_within (length l.arena.labels) l.arena l.fn.node;
}

abbrev pub decreases-climb : goal.decreases-climb
decreases-climb l = l.left
