use Rattle.std.proofs.Common.{◌≡◌, ℕ, List, ◌++◌, ◌+◌, ◌-◌, ◌≤◌, drop}
use Rattle.html_tokens.specs.Reference.{closed_within}
use Rattle.html_tokens.proofs.reference.closed_within.Given as goal

abbrev pub invariant-loop-at : goal.invariant-loop-at
invariant-loop-at l = record {
  same : (more : List ℕ) → closed_within l.bound (drop 2 l.input.queue.items ++ more) ≡ closed_within (l.bound + 2 - l.at) (drop l.at l.input.queue.items ++ more);
  within : l.at ≤ l.bound + 2;
}
