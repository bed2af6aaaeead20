-- Claimed.
-- Tokens that are lent.
use Rattle.std.specs.Prelude.{◌+◌, List, [], Option, Some, None}
use Rattle.std.specs.Borrow.{Bor}
use Rattle.html_tokens.specs.Runs.{plain_tokens}
use Rattle.html_tokens.specs.Tokens.{token}
use Rattle.html_tokens.specs.declared.token.Token.{Token}
use Rattle.html_tokens.specs.declared.token.TokenKind.TheVariants as kinds
use Rattle.html_token_list.specs.declared.lent.TokenRef.{TokenRef}
use Rattle.html_token_list.specs.declared.lent.TokenRef.TheVariants as lent
use Rattle.html_token_list.specs.declared.pieces.Stretch.{Stretch}
use Rattle.html_token_list.specs.Pieces.{IsCounted}

-- the token
abbrev pub shown : TokenRef → Token
shown (lent.Char c place) = token (kinds.Char c) place (place + 1)
shown (lent.Other t) = t.now

-- the tokens of a stretch, if there is one
abbrev pub tokens_in : Option (Bor Stretch) → List Token
tokens_in None = []
tokens_in (Some s) = plain_tokens s.now.start s.now.text

abbrev pub IsCountedIn : Option (Bor Stretch) → Type 0
IsCountedIn None = Unit {0}
IsCountedIn (Some s) = IsCounted s.now
