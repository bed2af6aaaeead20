use Rattle.std.proofs.Common.{true, ◌≡◌, ◌<◌, ℕ, List, ◌++◌, length}
use Rattle.std.specs.List.{All}
use Rattle.std.specs.Str.{encode_utf8_all}
use Rattle.html_arena.specs.declared.walk.Event.{Event}
use Rattle.html_arena.specs.Steps.{node_in}
use Rattle.html_device.specs.Putting.{Moves, held}
use Rattle.html_page.specs.Serialised.{html_below}
use Rattle.html_page.proofs.Texts.{texts}
use Rattle.html_page.proofs.serialising.put_below.Given as goal

-- the texts of the events so far are put; and the writer is no more at fault than at the start
abbrev pub invariant-events : goal.invariant-events
invariant-events g l = record {
  done : List ℕ;
  split : html_below l.profile l.arena l.fn.root ≡ done ++ texts l.profile l.arena l.walk;
  nodes : All (λ (e : Event). node_in e < length l.arena.labels) l.walk;
  put : Moves (g.W.Sink.taken l.initial.writer) (held l.initial.output) (g.W.Sink.taken l.writer) (held l.output) (encode_utf8_all done);
  failing : g.W.Sink.failed l.writer ≡ true → g.W.Sink.failed l.initial.writer ≡ true;
  stalling : g.W.Sink.stalled l.writer ≡ true → g.W.Sink.stalled l.initial.writer ≡ true;
}

abbrev pub decreases-events : goal.decreases-events
decreases-events g l = length l.walk
