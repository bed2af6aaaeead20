-- Claimed.
-- Elements that hold text alone: RCDATA, raw text and scripts (13.2.6.2 and 13.2.6.4.4).
use Rattle.std.specs.Prelude.{◌≡◌, ℕ, ◌⊎◌, Bool, true, false, List, [], ◌∷◌, length, Option, Some}
use Rattle.html_arena.specs.Tree.{Tree}
use Rattle.html_tokens.specs.declared.token.TextMode.{TextMode}
use Rattle.html_tokens.specs.declared.token.TextMode.TheVariants.{Rcdata, Rawtext, Script}
use Rattle.html_ledger.specs.declared.fate.Fate.{Fate}
use Rattle.html_ledger.specs.declared.fate.Fate.TheVariants.{Made}
use Rattle.html_ledger.specs.declared.symbol.Symbol.{Symbol}
use Rattle.html_ledger.specs.declared.symbol.Symbol.TheVariants.{Char, Start}
use Rattle.html_tree.specs.Since.{IsClosed}
use Rattle.html_construction.specs.States.{State}
use Rattle.html_modes.specs.RawText.{HoldsText, IsOpenText, run_of}
use Rattle.html_builder.specs.Switches.{switch_of}

-- a text mode in which no element begins
abbrev pub is_text_alone : Option TextMode → Bool
is_text_alone (Some Rcdata) = true
is_text_alone (Some Rawtext) = true
is_text_alone (Some Script) = true
is_text_alone _ = false

-- Where x was made of a start tag after which the text is read so, x holds one node, a text of the code points up to the next other token; or nothing,
-- where there are none. A line feed that leads them, and U+0000, is no part of it.
abbrev pub HoldsRun : Symbol → Fate → (later : List Symbol) → List Fate → Tree → Type 0
HoldsRun (Start t) (Made x) later fates n = is_text_alone (switch_of t) ≡ true → HoldsText n x (run_of later fates)
HoldsRun _ _ later fates n = Unit {0}

-- So it is with each token, by those that follow it and their fates.
abbrev pub AreRawTexts : List Symbol → List Fate → Tree → Type 0
AreRawTexts [] fates n = Unit {0}
AreRawTexts (y ∷ ys) [] n = Unit {0}
AreRawTexts (y ∷ ys) (f ∷ fs) n = HoldsRun y f ys fs n × AreRawTexts ys fs n

-- WHILE TOKENS COME

-- all of them are code points
abbrev pub are_chars : List Symbol → Bool
are_chars [] = true
are_chars (Char c ∷ ys) = are_chars ys
are_chars _ = false

-- there is another token after the code points, which have their fates
abbrev pub is_over : List Symbol → List Fate → Bool
is_over [] fates = false
is_over (Char c ∷ ys) [] = false
is_over (Char c ∷ ys) (f ∷ fs) = is_over ys fs
is_over _ fates = true

-- x was closed, and no more comes into it
pub record IsComplete (x : ℕ) (later : List Symbol) (fates : List Fate) (a : State) : Type 0 where
  pub closed : IsClosed a.tree x
  pub holds : HoldsText a.tree.tree x (run_of later fates)
  pub over : is_over later fates ≡ true

-- x is open, and more may come into it
pub record IsIncomplete (x : ℕ) (later : List Symbol) (fates : List Fate) (a : State) : Type 0 where
  pub open_text : IsOpenText x (run_of later fates) a
  pub chars : are_chars later ≡ true
  pub count : length fates ≡ length later

abbrev pub StandsSoFar : Symbol → Fate → (later : List Symbol) → List Fate → State → Type 0
StandsSoFar (Start t) (Made x) later fates a = is_text_alone (switch_of t) ≡ true → IsComplete x later fates a ⊎ IsIncomplete x later fates a
StandsSoFar _ _ later fates a = Unit {0}

-- So it is with each token so far; those that have no fate yet are code points.
abbrev pub StandSoFar : List Symbol → List Fate → State → Type 0
StandSoFar [] fates a = Unit {0}
StandSoFar (y ∷ ys) [] a = are_chars (y ∷ ys) ≡ true
StandSoFar (y ∷ ys) (f ∷ fs) a = StandsSoFar y f ys fs a × StandSoFar ys fs a
