-- Claimed.
-- Which tokens have an error of tree construction (13.2.6: "parse error").
use Rattle.std.specs.Prelude.{ℕ, ◌+◌, ◌≤◌, ◌==◌, ◌⊎◌, Bool, true, false, not, IsTrue, List, [], ◌∷◌, length}
use Rattle.std.specs.List.{list_any}
use Rattle.html_names.specs.Groups.{is_outermost}
use Rattle.html_ledger.specs.declared.symbol.Symbol.{Symbol}
use Rattle.html_ledger.specs.declared.symbol.Symbol.TheVariants.{Start, End, Char, Comment, Doctype, Eof}
use Rattle.html_ledger.specs.declared.setting.Setting.{Setting}
use Rattle.html_ledger.specs.declared.fate.Fate.{Fate}
use Rattle.html_ledger.specs.declared.fate.Fate.TheVariants.{Text}
use Rattle.html_ledger.specs.Spaces.{is_space}
use Rattle.html_ledger.specs.Symbols.{ends, is_char}
use Rattle.html_ledger.specs.Fates.{is_error}
use Rattle.html_ledger.specs.MayDrop.{AwaitsDoctype}
use Rattle.html_ledger.specs.Fated.{EachToken}

-- A token that leaves the mode initial and is no doctype: all but white space and comments (13.2.6.4.1).
abbrev pub ends_initial : Symbol → Bool
ends_initial (Start t) = true
ends_initial (End t) = true
ends_initial (Char c) = not (is_space c)
ends_initial Comment = false
ends_initial Doctype = false
ends_initial Eof = true

-- U+0000 that became text, as U+FFFD (13.2.6.5).
abbrev pub is_replaced : Symbol → Fate → Bool
is_replaced token (Text d) = is_char 0 token
is_replaced token _ = false

-- The token has an error with this fate: the fate is one, U+0000 was replaced, or the token leaves the mode initial where no doctype came.
abbrev pub HasError : Setting → List Symbol → Symbol → Fate → Type 0
HasError s before token fate = IsTrue (is_error fate) ⊎ (IsTrue (is_replaced token fate) ⊎ (IsTrue (ends_initial token) × AwaitsDoctype s before))

-- An end tag whose rules may leave the tree as it is, which is an error: any but that of the body and of the root (13.2.6.4.7).
abbrev pub may_be_ignored : Symbol → Bool
may_be_ignored token = ends (λ t. not (is_outermost t)) token

-- Whether a token has an error: where it has one by itself it is told, and else only such an end tag may have one.
pub record IsTold (told : Bool) (s : Setting) (before : List Symbol) (token : Symbol) (fate : Fate) : Type 0 where
  pub must : HasError s before token fate → IsTrue told
  pub may : IsTrue told → HasError s before token fate ⊎ IsTrue (may_be_ignored token)

-- rising from low on, and all below n
abbrev pub AreBetween : ℕ → List ℕ → ℕ → Type 0
AreBetween low [] n = low ≤ n
AreBetween low (e ∷ es) n = (low ≤ e) × AreBetween (e + 1) es n

-- Rising numbers below n, each once.
abbrev pub AreNumbersBelow : ℕ → List ℕ → Type 0
AreNumbersBelow n es = AreBetween 0 es n

-- the number is among these
abbrev pub has_number : ℕ → List ℕ → Bool
has_number n es = list_any (λ e. e == n) es

-- The rising numbers of the tokens that have an error.
pub record AreErrors (s : Setting) (tokens : List Symbol) (fates : List Fate) (errors : List ℕ) : Type 0 where
  pub rising : AreNumbersBelow (length fates) errors
  pub each : EachToken (λ i before given token fate. IsTold (has_number i errors) s before token fate) tokens fates
