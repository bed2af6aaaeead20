use Rattle.std.proofs.Common.{◌≡◌, true, ◌≤◌, length}
use Rattle.std.specs.Str.{encode_utf8_all}
use Rattle.std.specs.List.{flat_map}
use Rattle.std.specs.Str.Iter.{char_indices_offset, char_indices_rest}
use Rattle.html_page.specs.Escaped.{escaped}
use Rattle.html_device.specs.Putting.{Moves, held}
use Rattle.html_page.proofs.Runs.{IsCut}
use Rattle.html_page.proofs.escape.put_escaped.Given as goal

-- what stands before the place is put, up to a run that stands for itself; and the writer is no more at fault than at the start
abbrev pub invariant-loop-at : goal.invariant-loop-at
invariant-loop-at g l = record {
  can : (goal.iterator-loop-at g).can_next l.at-iterator;
  finite : (goal.iterator-loop-at g).is_finite l.at-iterator;
  within : l.start ≤ length l.text;
  cut : IsCut (escaped l.escape) l.text l.start (char_indices_offset l.at-iterator) (char_indices_rest l.at-iterator);
  put : Moves (g.W.Sink.taken l.initial.writer) (held l.initial.output) (g.W.Sink.taken l.writer) (held l.output) (encode_utf8_all (flat_map (escaped l.escape) cut.before));
  failing : g.W.Sink.failed l.writer ≡ true → g.W.Sink.failed l.initial.writer ≡ true;
  stalling : g.W.Sink.stalled l.writer ≡ true → g.W.Sink.stalled l.initial.writer ≡ true;
}
