-- Claimed, but for this crate's own functions: nothing_fed, tokens_in.
-- The tokens of an input that is read in one text mode throughout.
use Rattle.std.specs.Prelude.{◌<◌, ◌+◌, ◌*◌, ℕ, false, List, [], ◌∷◌, length, map, Option, None}
use Rattle.html_charref.specs.declared.table.Row.{Row}
use Rattle.html_input.specs.Decode.{decode, code_points}
use Rattle.html_input.specs.declared.decoder.TheConstants.{LIMIT}
use Rattle.html_tokens.specs.Given.{run_from}
use Rattle.html_tokens.specs.Stream.{Run, Start, tokens_of}
use Rattle.html_tokens.specs.declared.token.TextMode.{TextMode}
use Rattle.html_tokens.specs.declared.token.TextMode.TheVariants.{Data}
use Rattle.html_tokens.specs.declared.token.Token.{Token}
use Rattle.html_page.specs.declared.error.TokenListError.{TokenListError}
use Rattle.html_page.specs.declared.error.TokenListError.TheVariants.{OutOfMemory, InputTooLong}

-- An input behind a byte order mark of ours: that one is dropped, and so one of the input's own is text.
abbrev pub behind_mark : List ℕ → List ℕ
behind_mark bytes = 239 ∷ 187 ∷ 191 ∷ bytes

-- the text of an input, its mark included
abbrev pub marked_text : List ℕ → List ℕ
marked_text bytes = decode (behind_mark bytes)

-- where a text begins to be read
abbrev pub start_of : List Row → TextMode → Option (List ℕ) → Start
start_of rows mode name = (run_from rows mode name).start

-- the run of a tokenizer that was fed nothing
abbrev pub nothing_fed : Start → Run
nothing_fed start = record { start = start; text = []; finished = false; given = []; switches = [] }

-- the tokens of a document's text, by a table of references
abbrev pub tokens_in : List Row → List ℕ → List Token
tokens_in rows text = tokens_of text [] (start_of rows Data None)

-- nothing is said of the mode after any of these tokens
abbrev pub unsaid : List Token → List (Option TextMode)
unsaid tokens = map (λ t. None) tokens

-- the most errors and steps of a text of n code points
abbrev pub most_errors : ℕ → ℕ
most_errors n = 11 * (n + 2)

abbrev pub most_steps : ℕ → ℕ
most_steps n = 8 * (n + 2) + (n + 2) * (n + 2)

-- why there are no tokens
abbrev pub IsListCause : List ℕ → TokenListError → Type 0
IsListCause bytes OutOfMemory = Unit {0}
IsListCause bytes InputTooLong = LIMIT < length (code_points (behind_mark bytes))
IsListCause bytes _ = ⊥
