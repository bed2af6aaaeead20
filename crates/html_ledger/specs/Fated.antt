-- Claimed.
-- Which fate each token may have, over the tokens before it and their fates (13.2.6).
use Rattle.std.specs.Prelude.{ℕ, ◌≡◌, ◌⊎◌, Bool, true, false, not, IsTrue, List, take, length, slice_get, Some, ◌==◌}
use Rattle.html_names.specs.Groups.{is_outermost}
use Rattle.html_ledger.specs.declared.symbol.Symbol.{Symbol}
use Rattle.html_ledger.specs.declared.symbol.Symbol.TheVariants.{Start, End, Char, Comment, Doctype, Eof}
use Rattle.html_ledger.specs.declared.setting.Setting.{Setting}
use Rattle.html_ledger.specs.declared.fate.Fate.{Fate}
use Rattle.html_ledger.specs.declared.fate.Fate.TheVariants.{Made, Foreign, Merged, Text, Dropped, Ended}
use Rattle.html_ledger.specs.declared.fate.Cause.{Cause}
use Rattle.html_ledger.specs.Symbols.{is_char, starts}
use Rattle.html_ledger.specs.MayDrop.{AwaitsDoctype, MayBeForeign, MayDrop, MustDrop, is_foreign_root}

-- A node may be made of the token: of a start tag, of a comment, and of a doctype that may stand here.
abbrev pub MayMake : Setting → List Symbol → Symbol → Type 0
MayMake s before (Start t) = Unit {0}
MayMake s before Comment = Unit {0}
MayMake s before Doctype = AwaitsDoctype s before
MayMake s before (End t) = ⊥
MayMake s before (Char c) = ⊥
MayMake s before Eof = ⊥

-- An element of foreign content may be made of the token: of a start tag svg or math, and of any start tag where foreign content may be around it.
abbrev pub MayEmbed : Setting → List Symbol → List Fate → Symbol → Type 0
MayEmbed s before fates (Start t) = IsTrue (is_foreign_root t) ⊎ MayBeForeign s before fates
MayEmbed s before fates (End t) = ⊥
MayEmbed s before fates (Char c) = ⊥
MayEmbed s before fates Comment = ⊥
MayEmbed s before fates Doctype = ⊥
MayEmbed s before fates Eof = ⊥

-- a code point but U+0000
abbrev pub is_text_char : Symbol → Bool
is_text_char (Char c) = not (c == 0)
is_text_char _ = false

-- an end tag, or the end of the page
abbrev pub is_end : Symbol → Bool
is_end (End t) = true
is_end Eof = true
is_end _ = false

-- The token after those may have this fate: a node may be made of it; html and body may be merged; a code point may become text, U+0000 in foreign content alone;
-- each cause of a dropped token asks its own; an end tag and the end of the page are over at once, and nothing else is.
abbrev pub MayHave : Setting → List Symbol → List Fate → Symbol → Fate → Type 0
MayHave s before fates token (Made d) = MayMake s before token
MayHave s before fates token Merged = IsTrue (starts is_outermost token)
MayHave s before fates token (Foreign d) = MayEmbed s before fates token
MayHave s before fates token (Text d) = IsTrue (is_text_char token) ⊎ (IsTrue (is_char 0 token) × MayBeForeign s before fates)
MayHave s before fates token (Dropped cause) = MayDrop s before fates token cause
MayHave s before fates token Ended = IsTrue (is_end token)

-- The fate is one that the token may have, and where a cause holds in every mode it is dropped so.
pub record IsFate (s : Setting) (before : List Symbol) (fates : List Fate) (token : Symbol) (fate : Fate) : Type 0 where
  pub may : MayHave s before fates token fate
  pub must : (cause : Cause) → MustDrop s before fates token cause → fate ≡ Dropped cause

-- Of each token with its fate P is so: of its number, the tokens before it, their fates, it and its fate.
abbrev pub EachToken : (ℕ → List Symbol → List Fate → Symbol → Fate → Type 0) → List Symbol → List Fate → Type 0
EachToken P tokens fates =
    (i : ℕ) (token : Symbol) (fate : Fate) → slice_get tokens i ≡ Some token → slice_get fates i ≡ Some fate → P i (take i tokens) (take i fates) token fate

-- Each token has one fate, which it may have after those before it.
pub record Fated (s : Setting) (tokens : List Symbol) (fates : List Fate) : Type 0 where
  pub counted : length fates ≡ length tokens
  pub each : EachToken (λ i before given token fate. IsFate s before given token fate) tokens fates
