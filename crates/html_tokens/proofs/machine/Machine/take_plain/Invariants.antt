use Rattle.std.proofs.Common.{◌≡◌, ◌+◌, length}
use Rattle.html_tokens.specs.Bounds.{IsBounded}
use Rattle.html_tokens.proofs.RunLemmas.{HasTaken}
use Rattle.html_tokens.proofs.machine.Machine.take_plain.Given as goal

abbrev pub invariant-taking : goal.invariant-taking
invariant-taking l = record {
  taken : HasTaken l.fn.self l.self l.fn.faults l.faults l.fn.out.items l.out.items;
  mode : l.mode ≡ l.fn.self.mode;
  count : l.self.place + length l.self.input.queue.items ≡ l.fn.self.place + length l.fn.self.input.queue.items;
  finished : l.self.input.finished ≡ l.fn.self.input.finished;
  bounded : IsBounded l.fn.self l.fn.faults → IsBounded l.self l.faults;
}

abbrev pub decreases-taking : goal.decreases-taking
decreases-taking l = length l.self.input.queue.items
