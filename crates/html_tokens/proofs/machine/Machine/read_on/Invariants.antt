use Rattle.std.proofs.Common.{◌≡◌, ◌≤◌, ◌+◌, length}
use Rattle.html_tokens.specs.Bounds.{IsBounded}
use Rattle.html_tokens.specs.Errors.{IsQuiet}
use Rattle.html_tokens.specs.Fed.{Skips}
use Rattle.html_tokens.proofs.machine.Machine.read_on.Given as goal

abbrev pub invariant-reading : goal.invariant-reading
invariant-reading l = record {
  skips : Skips l.fn.self l.self;
  quiet : IsQuiet l.fn.faults l.faults;
  bounded : IsBounded l.fn.self l.fn.faults → IsBounded l.self l.faults;
  finished : l.self.input.finished ≡ l.fn.self.input.finished;
  room : l.self.place + length l.self.input.queue.items ≤ l.fn.self.place + length l.fn.self.input.queue.items;
  fewer : length l.self.input.queue.items ≤ length l.fn.self.input.queue.items;
}

abbrev pub decreases-reading : goal.decreases-reading
decreases-reading l = length l.self.input.queue.items
