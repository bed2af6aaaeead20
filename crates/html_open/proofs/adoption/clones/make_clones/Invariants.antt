use Rattle.std.proofs.Common.{take}
use Rattle.html_open.specs.Cloning.{AreCloned}
use Rattle.html_open.proofs.Counting.{IsCountedGrown}
use Rattle.html_open.proofs.adoption.clones.make_clones.Given as goal

abbrev pub invariant-loop-node : goal.invariant-loop-node
invariant-loop-node l = record {
  cloned : AreCloned l.initial.arena l.arena (take l.node-index l.originals);
  counted : IsCountedGrown l.initial.arena l.arena;
}
