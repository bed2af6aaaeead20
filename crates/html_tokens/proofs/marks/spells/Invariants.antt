use Rattle.std.proofs.Common.{◌≡◌, ℕ, ◌≤◌, ◌+◌, ◌<◌, List, ◌++◌, length, drop}
use Rattle.html_tokens.specs.Input.{MayFollow}
use Rattle.html_tokens.specs.Marks.{spells}
use Rattle.html_tokens.proofs.marks.spells.Given as goal

abbrev pub invariant-loop-expected : goal.invariant-loop-expected
invariant-loop-expected l = record {
  at : l.at ≡ l.from + l.expected-index;
  seen : 0 < l.expected-index → l.at ≤ length l.input.queue.items;
  on : (more : List ℕ) → MayFollow l.input.finished more → spells l.name l.from (l.input.queue.items ++ more) ≡ spells (drop l.expected-index l.name) l.at (l.input.queue.items ++ more);
}
