-- For this crate's own functions.
-- What is always true of the stages, whatever they were fed.
use Rattle.std.specs.Prelude.{◌≡◌, ℕ, ◌≤◌, false, List, length}
use Rattle.html_tokens.specs.Given.{Fed, is_stopped}
use Rattle.html_tokens.specs.Stream.{Run}
use Rattle.html_tokens.specs.declared.tokenizer.Tokenizer.{Tokenizer}

-- A tokenizer that was not refused is where some run leaves it, and no more tokens were taken of it than it has given. (It cannot be that there
-- is no such run: a fact of a struct has at most one proof.)
abbrev pub IsTokenizing : Tokenizer → List ℕ → Type 0
IsTokenizing t starts = is_stopped t ≡ false → ((run : Run) → Fed t run → length starts ≤ length run.given → ⊥) → ⊥
