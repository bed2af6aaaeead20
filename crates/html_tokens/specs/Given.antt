-- Claimed.
-- What callers of a tokenizer know of it: its run.
use Rattle.std.specs.Prelude.{◌≡◌, ◌⊎◌, ℕ, ◌+◌, ◌-◌, ◌^◌, min, List, [], length, Bool, true, false, cond, Option}
use Rattle.html_tokens.specs.Stream.{AreTold, errors_of, Run, Start, IsAt, gave, answered, tokens_of}
use Rattle.html_charref.specs.declared.table.Row.{Row}
use Rattle.html_tokens.specs.Runs.{is_text, plain_front}
use Rattle.html_tokens.specs.Tokens.{is_data}
use Rattle.html_tokens.specs.declared.token.Token.{Token}
use Rattle.html_tokens.specs.declared.token.TokenKind.{TokenKind}
use Rattle.html_tokens.specs.declared.token.TokenKind.TheVariants as kinds
use Rattle.html_tokens.specs.declared.token.TextMode.{TextMode}
use Rattle.html_tokens.specs.declared.faults.Fault.{Fault}
use Rattle.html_tokens.specs.declared.tokenizer.Tokenizer.{Tokenizer}

-- The tokenizer is where this run leaves it, and has told what the text so far tells.
unfoldable pub Fed : Tokenizer → Run → Type 0
Fed t run = IsAt t.machine run × (t.faults.lost ≡ false) × AreTold t.machine t.faults run

-- The tokenizer has just given a token, and may be told the mode of what follows.
unfoldable pub Awaits : Tokenizer → Run → Token → Type 0
Awaits t run given = ((switch : Option TextMode) → IsAt (answered given switch t.machine) (gave run given switch)) × (t.faults.lost ≡ false)
    × ((switch : Option TextMode) → AreTold (answered given switch t.machine) t.faults (gave run given switch))

-- how many code points were fed
unfoldable pub fed_len : Tokenizer → ℕ
fed_len t = t.machine.place + length t.machine.input.queue.items

-- a call was refused
unfoldable pub is_stopped : Tokenizer → Bool
is_stopped t = t.failed

-- the text fed is whole
unfoldable pub is_finished : Tokenizer → Bool
is_finished t = t.machine.input.finished

-- the errors told so far
unfoldable pub told : Tokenizer → List Fault
told t = t.faults.list

-- the code points taken so far, each by a visit of a state
unfoldable pub visits_made : Tokenizer → ℕ
visits_made t = t.machine.place

-- the comparisons of two attribute names made so far
unfoldable pub comparisons_made : Tokenizer → ℕ
comparisons_made t = t.faults.compared

-- both together, as far as 128 bits count
unfoldable pub steps_taken : Tokenizer → ℕ
steps_taken t = min (t.faults.compared + t.machine.place) (2 ^ 128 - 1)

-- What a tokenizer tells of a text: one that was begun so and fed the text to its end, with these switches after its tokens, has given all
-- tokens, has told these errors, and made so many steps.
pub record IsTold (start : Start) (text : List ℕ) (switches : List (Option TextMode)) (errors : List Fault) (steps : ℕ) : Type 0 where
  pub tokenizer : Tokenizer
  pub run : Run
  pub fed : Fed tokenizer run
  pub start_is : run.start ≡ start
  pub text_is : run.text ≡ text
  pub switches_are : run.switches ≡ switches
  pub finished : run.finished ≡ true
  pub all : tokens_of run.text run.switches run.start ≡ run.given
  pub errors_are : told tokenizer ≡ errors
  pub errors_of_text : errors ≡ errors_of text switches start
  pub steps_are : steps_taken tokenizer ≡ steps

-- the plain text that comes next, as far as it was fed
unfoldable pub plain_next : Tokenizer → List ℕ
plain_next t = cond (is_text t.machine.state) (plain_front t.machine.mode t.machine.input.queue.items) []

-- the run that begins
abbrev pub run_from : List Row → TextMode → Option (List ℕ) → Run
run_from rows mode name = record { start = record { rows = rows; mode = mode; name = name }; text = []; finished = false; given = []; switches = [] }

abbrev pub IsStart : TokenKind → Type 0
IsStart (kinds.Start name attrs self_closing) = Unit {0}
IsStart (kinds.End name) = ⊥
IsStart (kinds.Char c) = ⊥
IsStart (kinds.Comment text) = ⊥
IsStart (kinds.Doctype name public_id system_id force_quirks) = ⊥
IsStart kinds.Eof = ⊥

-- What may be said of the mode after a token: anything after a start tag, and after each token whether it is data of foreign content.
abbrev pub MaySwitch : TokenKind → TextMode → Type 0
MaySwitch kind mode = IsStart kind ⊎ (is_data mode ≡ true)
