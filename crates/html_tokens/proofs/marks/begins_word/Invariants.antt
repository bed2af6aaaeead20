use Rattle.std.proofs.Common.{◌≡◌, ℕ, ◌≤◌, ◌+◌, ◌<◌, List, ◌++◌, length, drop}
use Rattle.html_tokens.specs.Input.{MayFollow}
use Rattle.html_tokens.specs.Doctype.{spells_word}
use Rattle.html_tokens.proofs.marks.begins_word.Given as goal

abbrev pub invariant-loop-letter : goal.invariant-loop-letter
invariant-loop-letter l = record {
  at : l.at ≡ l.from + l.letter-index;
  seen : 0 < l.letter-index → l.at ≤ length l.input.queue.items;
  on : (more : List ℕ) → MayFollow l.input.finished more → spells_word l.word l.from (l.input.queue.items ++ more) ≡ spells_word (drop l.letter-index l.word) l.at (l.input.queue.items ++ more);
}
