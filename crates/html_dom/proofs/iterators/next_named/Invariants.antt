use Rattle.std.proofs.Common.{◌≡◌, filter, length, chars}
use Rattle.html_dom.specs.Reads.{is_named}
use Rattle.html_dom.proofs.iterators.next_named.Given as goal

abbrev pub invariant-nodes : goal.invariant-nodes
invariant-nodes l = filter (is_named (chars l.name) l.arena) l.initial.nodes ≡ filter (is_named (chars l.name) l.arena) l.nodes

abbrev pub decreases-nodes : goal.decreases-nodes
decreases-nodes l = length l.nodes
