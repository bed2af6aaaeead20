use Rattle.std.proofs.Common.{◌≡◌, true, take}
use Rattle.std.specs.List.{flat_map}
use Rattle.html_device.specs.Putting.{Moves, held}
use Rattle.html_print.proofs.line.put_texts.Given as goal

-- the texts so far are put; and the writer is no more at fault than at the start
abbrev pub invariant-texts : goal.invariant-texts
invariant-texts g l = record {
  put : Moves (g.W.Sink.taken l.fn.writer) (held l.fn.output) (g.W.Sink.taken l.writer) (held l.output) (flat_map (λ s. s.now) (take l.text-index l.texts));
  failing : g.W.Sink.failed l.writer ≡ true → g.W.Sink.failed l.fn.writer ≡ true;
  stalling : g.W.Sink.stalled l.writer ≡ true → g.W.Sink.stalled l.fn.writer ≡ true;
}
