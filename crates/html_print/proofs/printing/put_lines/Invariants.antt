use Rattle.std.proofs.Common.{◌≡◌, true, ◌<◌, ◌≤◌, ◌*◌, ◌^◌, ℕ, List, ◌++◌, length}
use Rattle.std.specs.List.{All}
use Rattle.std.specs.Str.{encode_utf8_all}
use Rattle.std.specs.Vec.{vec_capacity}
use Rattle.html_arena.specs.Below.{below}
use Rattle.html_arena.specs.Data.{attrs_in}
use Rattle.html_arena.specs.Steps.{events, node_in}
use Rattle.html_arena.specs.Tree.{label_of}
use Rattle.html_arena.specs.declared.walk.Event.{Event}
use Rattle.html_arena.specs.declared.walk.Show.TheVariants.{All as Everything}
use Rattle.html_device.specs.Putting.{Moves, held}
use Rattle.html_print.proofs.Walks.{Low, Texts}
use Rattle.html_print.proofs.printing.put_lines.Given as goal

-- the texts of the events so far are put, and with any text of the others they are one of all; and the writer is no more at fault than at the start
abbrev pub invariant-events : goal.invariant-events
invariant-events g l = record {
  done : List ℕ;
  so_far : (later : List ℕ) → Texts l.arena l.depth l.walk later → Texts l.arena 0 (events (below Everything l.arena l.fn.root)) (done ++ later);
  nodes : All (λ (e : Event). node_in e < length l.arena.labels) l.walk;
  low : Low l.arena (2 * length l.arena.labels) l.depth l.walk;
  small : length l.arena.labels < 2 ^ 64;
  room : (x : ℕ) → length (attrs_in (label_of l.arena x)) ≤ vec_capacity l.ordered;
  put : Moves (g.W.Sink.taken l.fn.writer) (held l.fn.output) (g.W.Sink.taken l.writer) (held l.output) (encode_utf8_all done);
  failing : g.W.Sink.failed l.writer ≡ true → g.W.Sink.failed l.fn.writer ≡ true;
  stalling : g.W.Sink.stalled l.writer ≡ true → g.W.Sink.stalled l.fn.writer ≡ true;
}

abbrev pub decreases-events : goal.decreases-events
decreases-events g l = length l.walk
