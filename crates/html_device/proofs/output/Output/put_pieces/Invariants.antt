use Rattle.std.proofs.Common.{◌≡◌, true, take}
use Rattle.html_device.specs.Pieces.{pieces_bytes}
use Rattle.html_device.specs.Putting.{Moves, held}
use Rattle.html_device.proofs.output.Output.put_pieces.Given as goal

-- the pieces so far are put, and the writer is no more at fault than at the start
abbrev pub invariant-pieces : goal.invariant-pieces
invariant-pieces g l = record {
  put : Moves (g.W.Sink.taken l.fn.writer) (held l.fn.self) (g.W.Sink.taken l.writer) (held l.self) (pieces_bytes (take l.piece-index l.pieces));
  failing : g.W.Sink.failed l.writer ≡ true → g.W.Sink.failed l.fn.writer ≡ true;
  stalling : g.W.Sink.stalled l.writer ≡ true → g.W.Sink.stalled l.fn.writer ≡ true;
}
