use Rattle.std.proofs.Common.{◌≡◌, ◌-◌}
use Rattle.html_open.specs.Marking.{IsCounted}
use Rattle.html_open.specs.Hanging.{Chained, chain_top}
use Rattle.html_open.proofs.adoption.chain.chain.Given as goal

abbrev pub invariant-loop-number : goal.invariant-loop-number
invariant-loop-number l = record {
  top_is : l.top ≡ chain_top l.fn.block l.first l.number;
  done : Chained l.initial.arena l.arena l.fn.block l.first l.number;
  counted : IsCounted l.initial.arena.steps l.arena.steps 0 (l.number - l.first);
}
