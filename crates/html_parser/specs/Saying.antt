-- For this crate's own functions.
-- Which tokens may say how the text after them is read.
use Rattle.std.specs.Prelude.{Option, Some, None}
use Rattle.html_tokens.specs.Given.{MaySwitch}
use Rattle.html_tokens.specs.declared.token.TextMode.{TextMode}
use Rattle.html_tokens.specs.declared.token.TokenKind.{TokenKind}

-- each token may say nothing, and a mode where what it is allows that
abbrev pub MaySay : TokenKind → Option TextMode → Type 0
MaySay kind None = Unit {0}
MaySay kind (Some mode) = MaySwitch kind mode
