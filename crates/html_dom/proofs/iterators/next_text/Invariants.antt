use Rattle.std.proofs.Common.{◌≡◌, length}
use Rattle.html_dom.specs.Reads.{texts_among}
use Rattle.html_dom.proofs.iterators.next_text.Given as goal

abbrev pub invariant-nodes : goal.invariant-nodes
invariant-nodes l = texts_among l.arena l.initial.nodes ≡ texts_among l.arena l.nodes

abbrev pub decreases-nodes : goal.decreases-nodes
decreases-nodes l = length l.nodes
