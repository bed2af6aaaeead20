-- Claimed, but for this crate's own functions: GoesOn.
-- What a tokenizer was fed and has given, however the text was cut.
use Rattle.std.specs.Prelude.{◌≡◌, ℕ, ◌+◌, ◌≤◌, List, [], ◌∷◌, ◌++◌, length, Bool, true, false, Option}
use Rattle.std.specs.List.{AllByRecursion}
use Rattle.html_tokens.specs.Input.{MayFollow}
use Rattle.html_tokens.specs.Tokens.{tokens_after, name_after_kind}
use Rattle.html_charref.specs.Table.{IsTable}
use Rattle.html_charref.specs.declared.table.Row.{Row}
use Rattle.html_tokens.specs.Errors.{all_told, errors_after}
use Rattle.html_tokens.specs.Fed.{to_come, errors_to_come, switch_to, slack, IsDrained}
use Rattle.html_tokens.specs.declared.faults.Fault.{Fault}
use Rattle.html_tokens.specs.declared.faults.Faults.{Faults}
use Rattle.html_tokens.specs.declared.token.Token.{Token}
use Rattle.html_tokens.specs.declared.token.TextMode.{TextMode}
use Rattle.html_tokens.specs.declared.machine.Machine.{Machine}

-- the table of references, how a text is first read, and the name of the start tag before it, if any
pub record Start : Type 0 where
  pub rows : List Row
  pub mode : TextMode
  pub name : Option (List ℕ)

-- the tokens of a text, under what is said after each token of the mode for what follows
abbrev pub tokens_of : List ℕ → List (Option TextMode) → Start → List Token
tokens_of text switches start = tokens_after start.rows 0 start.mode start.name 0 text switches

-- The errors of a text, under what is said after each token of the mode for what follows: in order of their places, and at one place as the text has them.
abbrev pub errors_of : List ℕ → List (Option TextMode) → Start → List Fault
errors_of text switches start = all_told [] (errors_after start.rows 0 start.mode start.name 0 text switches)

-- What was fed, whether that is all, the tokens given, and for each what was said of the mode.
pub record Run : Type 0 where
  pub start : Start
  pub text : List ℕ
  pub finished : Bool
  pub given : List Token
  pub switches : List (Option TextMode)

-- the name of the last start tag after these tokens
abbrev pub last_name : List Token → Option (List ℕ) → Option (List ℕ)
last_name [] name = name
last_name (t ∷ ts) name = last_name ts (name_after_kind t.kind name)

abbrev pub name_of : Run → Option (List ℕ)
name_of run = last_name run.given run.start.name

-- The machine is where this run leaves it: however the run goes on, the tokens given and those that it has still to give are those of the text.
pub record IsAt (t : Machine) (run : Run) : Type 0 where
  pub tokens : (more : List ℕ) (switches : List (Option TextMode)) → MayFollow run.finished more →
      tokens_of (run.text ++ more) (run.switches ++ switches) run.start ≡ run.given ++ to_come t more switches
  pub count : t.place + length t.input.queue.items ≡ length run.text
  pub finished : t.input.finished ≡ run.finished
  pub table : t.table.now ≡ run.start.rows
  pub name : t.last_name ≡ name_of run
  pub rule : IsTable run.start.rows
  -- and where it has given the end, it has read all
  pub drained : IsDrained t

-- However a run goes on, the errors told and those that are still to come are those of the text.
abbrev pub AreTold : Machine → Faults → Run → Type 0
AreTold t faults run = faults.lost ≡ false → (more : List ℕ) (switches : List (Option TextMode)) → MayFollow run.finished more →
    errors_of (run.text ++ more) (run.switches ++ switches) run.start ≡ all_told faults.list (errors_to_come t more switches)

-- the run after a token, and what is said of the mode after it
abbrev pub gave : Run → Token → Option TextMode → Run
gave run given switch = record run { given = run.given ++ given ∷ []; switches = run.switches ++ switch ∷ [] }

abbrev pub fed : Run → List ℕ → Run
fed run piece = record run { text = run.text ++ piece }

abbrev pub ended : Run → Run
ended run = record run { finished = true }

-- The machine after the answer to a token that it gave.
abbrev pub answered : Token → Option TextMode → Machine → Machine
answered given switch t = record t { mode = switch_to given.kind switch t.mode }

-- a token ends so near to the end of the text
abbrev pub IsLate : ℕ → ℕ → Token → Type 0
IsLate slack end t = end ≤ t.span.end + slack

-- Of the tokens of the text so far, all have been given but those that end near its end.
abbrev pub IsPrompt : Run → Type 0
IsPrompt run = (late : List Token) × (tokens_of run.text run.switches run.start ≡ run.given ++ late) × AllByRecursion (IsLate (slack run.start.rows (name_of run)) (length run.text)) late

abbrev pub GoesOn : Machine → Machine → Type 0
GoesOn old new = (run : Run) → IsAt old run → IsAt new run
