use Rattle.std.proofs.Common.{◌≡◌, length}
use Rattle.html_dom.specs.Allowed.{are_allowed}
use Rattle.html_dom.specs.Reads.{descendants_of}
use Rattle.html_dom.proofs.allowed.AllowList.holds_below.Given as goal

abbrev pub invariant-nodes : goal.invariant-nodes
invariant-nodes l = are_allowed l.self l.arena (descendants_of l.arena l.fn.node) ≡ are_allowed l.self l.arena l.nodes

abbrev pub decreases-nodes : goal.decreases-nodes
decreases-nodes l = length l.nodes
