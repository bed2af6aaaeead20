-- Claimed.
-- What was handed on of the bytes fed so far.
use Rattle.std.specs.Prelude.{◌≡◌, ℕ, List, ◌++◌, length, Option, None}
use Rattle.std.specs.List.{AllByRecursion}
use Rattle.html_input.specs.Fed.{Decodes}
use Rattle.html_tokens.specs.Fed.{slack}
use Rattle.html_tokens.specs.Stream.{IsLate, last_name, tokens_of}
use Rattle.html_tokens.specs.declared.token.TextMode.{TextMode}
use Rattle.html_tokens.specs.declared.token.Token.{Token}
use Rattle.html_builder.specs.Builders.{BuilderState}
use Rattle.html_builder.specs.Handed.{Handed, fates_of}
use Rattle.html_builder.specs.Saying.{HasSaid}
use Rattle.html_parser.specs.Kinds.{kinds}
use Rattle.html_parser.specs.Said.{AreSaid}
use Rattle.html_parser.specs.Start.{Start, most_input, text_start}

-- At most three bytes are undecoded; and of the tokens of the text so far, read by what they say of the text after them, tree construction was handed these, and no others but those
-- that end so near to the text's end: nearer than the longest name of the table, the name of the last start tag and eight code points.
pub record AreHandedOn (start : Start) (b : BuilderState) (bytes : List ℕ) (tokens : List Token) : Type 0 where
  pub pending : ℕ
  pub text : List ℕ
  pub decodes : Decodes (most_input start) pending bytes text
  pub handed : Handed start.setting start.limits (kinds tokens) b
  pub switches : List (Option TextMode)
  pub said : AreSaid start.setting (kinds tokens) (fates_of b) switches
  pub has_said : HasSaid start.setting start.limits start.mode (kinds tokens) switches b
  pub late : List Token
  pub list : tokens_of text switches (text_start start) ≡ tokens ++ late
  pub few : AllByRecursion (IsLate (slack start.rows (last_name tokens None)) (length text)) late
