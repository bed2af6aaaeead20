use Rattle.std.proofs.Common.{◌≡◌, ◌++◌, length}
use Rattle.std.specs.Prelude.{string_bytes}
use Rattle.std.specs.Str.{encode_utf8_all}
use Rattle.html_dom.specs.Reads.{descendants_of, text_of_all}
use Rattle.html_dom.proofs.joined.text_below.Given as goal

abbrev pub invariant-nodes : goal.invariant-nodes
invariant-nodes l =
    string_bytes l.initial.out ++ encode_utf8_all (text_of_all l.arena (descendants_of l.arena l.fn.node)) ≡ string_bytes l.out ++ encode_utf8_all (text_of_all l.arena l.nodes)

abbrev pub decreases-nodes : goal.decreases-nodes
decreases-nodes l = length l.nodes
