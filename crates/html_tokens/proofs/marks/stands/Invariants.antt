use Rattle.std.proofs.Common.{◌≡◌, ℕ, ◌≤◌, ◌+◌, ◌<◌, List, ◌++◌, length, drop}
use Rattle.html_tokens.specs.Input.{MayFollow}
use Rattle.html_tokens.specs.Marks.{stands}
use Rattle.html_tokens.proofs.marks.stands.Given as goal

abbrev pub invariant-loop-letter : goal.invariant-loop-letter
invariant-loop-letter l = record {
  at : l.at ≡ l.from + l.letter-index;
  seen : 0 < l.letter-index → l.at ≤ length l.input.queue.items;
  on : (more : List ℕ) → MayFollow l.input.finished more → stands l.word l.from (l.input.queue.items ++ more) ≡ stands (drop l.letter-index l.word) l.at (l.input.queue.items ++ more);
}
