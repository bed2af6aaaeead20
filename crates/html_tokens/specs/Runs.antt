-- Claimed.
-- Runs of plain text: code points that are Chars whatever follows them.
use Rattle.std.specs.Prelude.{ℕ, ◌+◌, List, [], ◌∷◌, Bool, true, false, ◌||◌, ◌==◌, cond, not, None}
use Rattle.html_tokens.specs.Stream.{Run, gave}
use Rattle.html_tokens.specs.Tokens.{token}
use Rattle.html_tokens.specs.declared.token.Token.{Token}
use Rattle.html_tokens.specs.declared.token.TokenKind.TheVariants as kinds
use Rattle.html_tokens.specs.declared.token.TextMode.{TextMode}
use Rattle.html_tokens.specs.declared.token.TextMode.TheVariants.{Data, Rcdata, Rawtext, Script, Plaintext, Foreign}
use Rattle.html_tokens.specs.declared.token.Region.TheVariants.{Plain, Escaped, Double}
use Rattle.html_tokens.specs.declared.machine.State.{State}
use Rattle.html_tokens.specs.declared.machine.State.TheVariants.{Text, Number, Second, Ampersand, Comment, Doctype, Tag, Section, Ended}

-- The code point stands for itself, and begins no markup and no reference (HTML 13.2.5.1 to 13.2.5.5).
abbrev pub is_plain : TextMode → ℕ → Bool
is_plain Data c = not (c == 60 || c == 38)
is_plain Rcdata c = not (c == 60 || c == 38 || c == 0)
is_plain Rawtext c = not (c == 60 || c == 0)
is_plain Script c = not (c == 60 || c == 0)
is_plain Plaintext c = not (c == 0)
is_plain Foreign c = not (c == 60 || c == 38)

-- the longest front that is plain text
unfoldable pub plain_front : TextMode → List ℕ → List ℕ
plain_front mode [] = []
plain_front mode (c ∷ rest) = cond (is_plain mode c) (c ∷ plain_front mode rest) []

-- text that is in no region of a script
abbrev pub is_text : State → Bool
is_text (Text Plain) = true
is_text (Text Escaped) = false
is_text (Text Double) = false
is_text (Number draft) = false
is_text (Second c start) = false
is_text (Ampersand start) = false
is_text (Comment draft) = false
is_text (Doctype draft) = false
is_text (Tag draft) = false
is_text Section = false
is_text Ended = false

-- the tokens of plain text from a place on
abbrev pub plain_tokens : ℕ → List ℕ → List Token
plain_tokens place [] = []
plain_tokens place (c ∷ cs) = token (kinds.Char c) place (place + 1) ∷ plain_tokens (place + 1) cs

-- the run after these tokens, of none of which something is said
abbrev pub gave_all : Run → List Token → Run
gave_all run [] = run
gave_all run (t ∷ ts) = gave_all (gave run t None) ts
