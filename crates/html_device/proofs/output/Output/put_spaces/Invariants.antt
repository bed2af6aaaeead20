use Rattle.std.proofs.Common.{◌≡◌, ℕ, ◌+◌, true, replicate}
use Rattle.html_device.specs.Putting.{Moves, held}
use Rattle.html_device.proofs.output.Output.put_spaces.Given as goal

-- the spaces so far are put, and the writer is no more at fault than at the start
abbrev pub invariant-spaces : goal.invariant-spaces
invariant-spaces g l = record {
  done : ℕ;
  split : l.fn.count ≡ done + l.left;
  put : Moves (g.W.Sink.taken l.fn.writer) (held l.fn.self) (g.W.Sink.taken l.writer) (held l.self) (replicate done 32);
  failing : g.W.Sink.failed l.writer ≡ true → g.W.Sink.failed l.fn.writer ≡ true;
  stalling : g.W.Sink.stalled l.writer ≡ true → g.W.Sink.stalled l.fn.writer ≡ true;
}

abbrev pub decreases-spaces : goal.decreases-spaces
decreases-spaces g l = l.left
