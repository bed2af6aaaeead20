use Rattle.std.proofs.Common.{◌≡◌}
use Rattle.html_open.specs.Cloning.{HaveEntered}
use Rattle.html_open.proofs.adoption.lists.enter.Given as goal

abbrev pub invariant-loop-number : goal.invariant-loop-number
invariant-loop-number l = record {
  same : l.arena ≡ record l.initial.arena { marks = l.arena.marks };
  entered : HaveEntered l.initial.arena l.arena l.first l.number;
}
