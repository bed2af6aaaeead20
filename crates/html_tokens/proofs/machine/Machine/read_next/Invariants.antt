use Rattle.std.proofs.Common.{◌≡◌, ◌≤◌, ◌+◌, length}
use Rattle.html_tokens.specs.Bounds.{IsBounded}
use Rattle.html_tokens.specs.Stream.{AreTold, Run, IsAt}
use Rattle.html_tokens.proofs.machine.Machine.read_next.Given as goal

abbrev pub invariant-loop-self : goal.invariant-loop-self
invariant-loop-self l = record {
  goes_on : (run : Run) → IsAt l.fn.self run → IsAt l.self run;
  told : (run : Run) → IsAt l.fn.self run → AreTold l.fn.self l.fn.faults run → AreTold l.self l.faults run;
  bounded : IsBounded l.fn.self l.fn.faults → IsBounded l.self l.faults;
  finished : l.self.input.finished ≡ l.fn.self.input.finished;
  room : l.self.place + length l.self.input.queue.items ≤ l.fn.self.place + length l.fn.self.input.queue.items;
}

abbrev pub decreases-loop-self : goal.decreases-loop-self
decreases-loop-self l = length l.self.input.queue.items
