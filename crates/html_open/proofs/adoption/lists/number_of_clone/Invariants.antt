use Rattle.std.proofs.Common.{◌≡◌, ◌+◌, drop}
use Rattle.html_open.specs.Adopting.{clone_number}
use Rattle.html_open.proofs.adoption.lists.number_of_clone.Given as goal

abbrev pub invariant-loop-other : goal.invariant-loop-other
invariant-loop-other l = record {
  count : l.number ≡ l.first + l.other-index;
  rest : clone_number l.first l.originals l.node ≡ clone_number l.number (drop l.other-index l.originals) l.node;
}
