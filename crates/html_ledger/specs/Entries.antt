-- Claimed.
-- The ledger against the tokens handed in.
use Rattle.std.specs.Prelude.{ℕ, ◌≡◌, ◌||◌, ◌&&◌, Bool, cond, List, [], ◌∷◌, ◌++◌, length}
use Rattle.html_ledger.specs.declared.symbol.Symbol.{Symbol}
use Rattle.html_ledger.specs.declared.symbol.Symbol.TheVariants.{Char}
use Rattle.html_ledger.specs.declared.setting.Setting.{Setting}
use Rattle.html_ledger.specs.declared.fate.Fate.{Fate}
use Rattle.html_ledger.specs.declared.fate.Fate.TheVariants.{Ended}
use Rattle.html_ledger.specs.declared.history.History.{History}
use Rattle.html_ledger.specs.Symbols.{chars_of}
use Rattle.html_ledger.specs.Fated.{Fated}
use Rattle.html_ledger.specs.Flags.{history_at, after, has_error}
use Rattle.html_ledger.specs.Known.{Knows}
use Rattle.html_ledger.specs.Errors.{AreErrors, may_be_ignored}

-- the fates given, what they settle, the code points of a table's text that have no fate yet, and the numbers of the tokens with an error
pub record Entries : Type 0 where
  pub fates : List Fate
  pub history : History
  pub kept : List ℕ
  pub errors : List ℕ

-- the number of the token whose fate is given next
abbrev pub number_of : Entries → ℕ
number_of e = length e.fates

-- before the first token
abbrev pub begun : Setting → Entries
begun s = record { fates = []; history = history_at s; kept = []; errors = [] }

-- after one more fate, of a token that has an error or not
abbrev pub noted : Entries → Symbol → Fate → Bool → Entries
noted e t f told = record e {
  fates = e.fates ++ f ∷ [];
  history = after e.history t f;
  errors = cond told (e.errors ++ length e.fates ∷ []) e.errors;
}

-- after one more fate
abbrev pub given : Entries → Symbol → Fate → Entries
given e t f = noted e t f (has_error e.history t f)

-- after an end tag or the end of the page, whose rules left the tree as it was, or not
abbrev pub ended : Entries → Symbol → Bool → Entries
ended e t ignored = noted e t Ended (has_error e.history t Ended || (ignored && may_be_ignored t))

-- after code points that all have one fate, given one by one
abbrev pub given_run : Entries → List ℕ → Fate → Entries
given_run e [] f = e
given_run e (c ∷ cs) f = given_run (given e (Char c) f) cs f

-- These tokens have these fates, one each, which they may have; the flags and the errors are theirs.
pub record Settled (s : Setting) (e : Entries) (tokens : List Symbol) : Type 0 where
  pub fated : Fated s tokens e.fates
  pub known : Knows s e.history tokens e.fates
  pub told : AreErrors s tokens e.fates e.errors

-- The tokens handed in are some that have their fates, and then the code points that are kept.
pub record Fed (s : Setting) (e : Entries) (tokens : List Symbol) : Type 0 where
  pub front : List Symbol
  pub settled : Settled s e front
  pub split : tokens ≡ front ++ chars_of e.kept

-- From one state of a ledger to a later one: the tokens handed in are the same.
abbrev pub Keeps : Entries → Entries → Type 0
Keeps a b = (s : Setting) (tokens : List Symbol) → Fed s a tokens → Fed s b tokens

-- This token was handed in.
abbrev pub Takes : Symbol → Entries → Entries → Type 0
Takes t a b = (s : Setting) (tokens : List Symbol) → Fed s a tokens → Fed s b (tokens ++ t ∷ [])

-- These code points were handed in.
abbrev pub TakesRun : List ℕ → Entries → Entries → Type 0
TakesRun cs a b = (s : Setting) (tokens : List Symbol) → Fed s a tokens → Fed s b (tokens ++ chars_of cs)

-- These code points, the last that were handed in, were taken out again.
abbrev pub Releases : List ℕ → Entries → Entries → Type 0
Releases cs a b = (s : Setting) (tokens : List Symbol) → Fed s a tokens → (front : List Symbol) × Fed s b front × (tokens ≡ front ++ chars_of cs)
