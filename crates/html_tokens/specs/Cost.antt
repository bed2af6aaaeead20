-- Claimed.
-- What tokens cost: their spans are in order and disjoint, and a token holds no more code points than its span. It is no rule of the standard, but what every layer above stands on that speaks of sizes.
use Rattle.std.specs.Prelude.{◌≡◌, ℕ, ◌+◌, ◌<◌, ◌≤◌, List, [], ◌∷◌, length, Bool, true, false, Option, Some, None}
use Rattle.std.specs.List.{AllByRecursion}
use Rattle.std.specs.Str.{bytes_eq}
use Rattle.html_tokens.specs.declared.attributes.Attr.{Attr}
use Rattle.html_tokens.specs.declared.token.Token.{Token}
use Rattle.html_tokens.specs.declared.token.TokenKind.{TokenKind}
use Rattle.html_tokens.specs.declared.token.TokenKind.TheVariants as kinds

-- the code points of attributes, names and values
abbrev pub attrs_len : List Attr → ℕ
attrs_len [] = 0
attrs_len (a ∷ more) = length a.name + length a.value + attrs_len more

-- the code points of a text that may be absent
abbrev pub optional_len : Option (List ℕ) → ℕ
optional_len None = 0
optional_len (Some text) = length text

-- the code points that a token holds of its own
abbrev pub own_len : TokenKind → ℕ
own_len (kinds.Start name attrs self_closing) = length name + attrs_len attrs
own_len (kinds.End name) = length name
own_len (kinds.Char c) = 1
own_len (kinds.Comment text) = length text
own_len (kinds.Doctype name public_id system_id force_quirks) = optional_len name + optional_len public_id + optional_len system_id
own_len kinds.Eof = 0

abbrev pub is_eof : TokenKind → Bool
is_eof (kinds.Start name attrs self_closing) = false
is_eof (kinds.End name) = false
is_eof (kinds.Char c) = false
is_eof (kinds.Comment text) = false
is_eof (kinds.Doctype name public_id system_id force_quirks) = false
is_eof kinds.Eof = true

-- no attribute has the name of one before it
abbrev pub AreApart : List Attr → Type 0
AreApart [] = Unit {0}
AreApart (a ∷ more) = AllByRecursion (λ b. bytes_eq a.name b.name ≡ false) more × AreApart more

-- attribute names are not empty, and no two of them are equal
abbrev pub AreNamed : List Attr → Type 0
AreNamed attrs = AllByRecursion (λ a. 0 < length a.name) attrs × AreApart attrs

abbrev pub HasNames : TokenKind → Type 0
HasNames (kinds.Start name attrs self_closing) = AreNamed attrs
HasNames (kinds.End name) = Unit {0}
HasNames (kinds.Char c) = Unit {0}
HasNames (kinds.Comment text) = Unit {0}
HasNames (kinds.Doctype name public_id system_id force_quirks) = Unit {0}
HasNames kinds.Eof = Unit {0}

-- a token that begins at a place or after it, and holds no more than its span
pub record Fits (place : ℕ) (t : Token) : Type 0 where
  pub starts : place ≤ t.span.start
  pub holds : t.span.start + own_len t.kind ≤ t.span.end
  pub some : is_eof t.kind ≡ false → t.span.start < t.span.end
  pub names : HasNames t.kind

-- Tokens between two places: each begins where the one before it ends, or later. Nothing follows the end of the input.
abbrev pub AreBetween : ℕ → ℕ → List Token → Type 0
AreBetween place end [] = place ≤ end
AreBetween place end (t ∷ more) = Fits place t × (is_eof t.kind ≡ true → more ≡ []) × AreBetween t.span.end end more

-- the code points that tokens hold together
abbrev pub tokens_len : List Token → ℕ
tokens_len [] = 0
tokens_len (t ∷ more) = own_len t.kind + tokens_len more

-- The tokens of a text of so many code points: in order and disjoint, at most one more than code points, and together they hold no more.
pub record AreCosted (n : ℕ) (tokens : List Token) : Type 0 where
  pub order : AreBetween 0 n tokens
  pub count : length tokens ≤ n + 1
  pub own : tokens_len tokens ≤ n
