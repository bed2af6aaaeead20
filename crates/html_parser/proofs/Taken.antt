-- Where the tokens of plain text begin, and what they are.
use Rattle.std.proofs.Common.{ℕ, ◌+◌, ◌≡◌, List, [], ◌∷◌, ◌++◌, ◌≤◌, ◌∙◌, arith, length, length-append, refl, ap}
use Rattle.std.specs.List.{range_with_len}
use Rattle.html_tokens.specs.Runs.{plain_tokens}
use Rattle.html_tokens.specs.declared.token.Token.{Token}
use Rattle.html_tokens.specs.declared.token.TokenKind.TheVariants.{Char}
use Rattle.html_construction.specs.Built.{chars_of}
use Rattle.html_parser.specs.Kinds.{kinds, starts_of}

pub starts-plain : (place : ℕ) (text : List ℕ) → range_with_len place (length text) ≡ starts_of (plain_tokens place text)
starts-plain place [] = refl
starts-plain place (c ∷ cs) = ap (λ r. place ∷ r) (starts-plain (place + 1) cs)

pub kinds-plain : (place : ℕ) (text : List ℕ) → kinds (plain_tokens place text) ≡ chars_of text
kinds-plain place [] = refl
kinds-plain place (c ∷ cs) = ap (λ r. Char c ∷ r) (kinds-plain (place + 1) cs)

pub starts-append : (xs ys : List Token) → starts_of (xs ++ ys) ≡ starts_of xs ++ starts_of ys
starts-append [] ys = refl
starts-append (x ∷ xs) ys = ap (λ r. x.span.start ∷ r) (starts-append xs ys)

pub same_starts : (old new more : List ℕ) → new ≡ old ++ more → length old ≤ length new
same_starts old new more e =
    let all : length new ≡ length old + length more = ap length e ∙ length-append old more in
    omega arith
