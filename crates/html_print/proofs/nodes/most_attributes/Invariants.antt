use Rattle.std.proofs.Common.{ℕ, ◌<◌, ◌≤◌, length}
use Rattle.html_arena.specs.Data.{attrs_in}
use Rattle.html_arena.specs.Tree.{label_of}
use Rattle.html_print.proofs.nodes.most_attributes.Given as goal

-- no node so far has more
abbrev pub invariant-nodes : goal.invariant-nodes
invariant-nodes l = (k : ℕ) → k < l.index → length (attrs_in (label_of l.arena k)) ≤ l.most
