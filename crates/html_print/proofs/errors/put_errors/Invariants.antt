use Rattle.std.proofs.Common.{◌≡◌, true, take}
use Rattle.html_device.specs.Putting.{Moves, held}
use Rattle.html_print.specs.Errors.{error_lines}
use Rattle.html_print.proofs.errors.put_errors.Given as goal

-- the lines of the errors so far are put; and the writer is no more at fault than at the start
abbrev pub invariant-errors : goal.invariant-errors
invariant-errors g l = record {
  put : Moves (g.W.Sink.taken l.fn.writer) (held l.fn.output) (g.W.Sink.taken l.writer) (held l.output) (error_lines (take l.error-index l.errors));
  failing : g.W.Sink.failed l.writer ≡ true → g.W.Sink.failed l.fn.writer ≡ true;
  stalling : g.W.Sink.stalled l.writer ≡ true → g.W.Sink.stalled l.fn.writer ≡ true;
}
