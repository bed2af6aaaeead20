-- Claimed.
-- What is said of tokens one by one.
use Rattle.std.specs.Prelude.{ℕ, List, map}
use Rattle.html_tokens.specs.declared.token.Token.{Token}
use Rattle.html_tokens.specs.declared.token.TokenKind.{TokenKind}

-- what tokens are, their spans aside
abbrev pub kinds : List Token → List TokenKind
kinds tokens = map (λ t. t.kind) tokens

-- where tokens begin
abbrev pub starts_of : List Token → List ℕ
starts_of tokens = map (λ t. t.span.start) tokens
