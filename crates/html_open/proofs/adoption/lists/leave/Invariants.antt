use Rattle.std.proofs.Common.{◌≡◌, take}
use Rattle.html_open.specs.Cloning.{HaveLeft}
use Rattle.html_open.proofs.adoption.lists.leave.Given as goal

abbrev pub invariant-loop-node : goal.invariant-loop-node
invariant-loop-node l = record {
  same : l.arena ≡ record l.initial.arena { marks = l.arena.marks };
  left : HaveLeft l.initial.arena l.arena (take l.node-index l.nodes);
}
