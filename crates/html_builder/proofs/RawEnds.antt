-- Elements that hold text alone, at the end of the page.
use Rattle.std.proofs.Common.{◌≡◌, inl, inr, true, List, [], ◌∷◌, ◌++◌, sym, ◌∙◌, ap, subst}
use Rattle.std.proofs.lemmas.Bool.{false≢true}
use Rattle.html_arena.specs.Tree.{Tree}
use Rattle.html_open.specs.Marking.{bare}
use Rattle.html_tokens.specs.declared.token.TokenKind.{TokenKind}
use Rattle.html_tokens.specs.declared.token.TokenKind.TheVariants as kind
use Rattle.html_ledger.specs.declared.fate.Fate.{Fate}
use Rattle.html_ledger.specs.declared.fate.Fate.TheVariants.{Dropped, Ended, Foreign, Made, Merged, Text}
use Rattle.html_ledger.specs.declared.symbol.Symbol.{Symbol}
use Rattle.html_ledger.specs.declared.symbol.Symbol.TheVariants.{Start, End, Char, Comment, Doctype, Eof}
use Rattle.html_construction.specs.Built.{symbols}
use Rattle.html_construction.specs.States.{State}
use Rattle.html_construction.proofs.Building.{symbols-append}
use Rattle.html_modes.specs.RawText.{HoldsText, run_of}
use Rattle.html_builder.specs.Handed.{EndsAtEof}
use Rattle.html_builder.specs.RawTexts.{AreRawTexts, HoldsRun, StandSoFar, StandsSoFar, are_chars}

-- the end of the page is no code point
chars-none : (ys : List Symbol) → are_chars (ys ++ Eof ∷ []) ≡ true → ⊥
chars-none [] e = false≢true e
chars-none (Char c ∷ ys) e = chars-none ys e
chars-none (Start t ∷ ys) e = false≢true e
chars-none (End t ∷ ys) e = false≢true e
chars-none (Comment ∷ ys) e = false≢true e
chars-none (Doctype ∷ ys) e = false≢true e
chars-none (Eof ∷ ys) e = false≢true e

complete-holds : (y : Symbol) (f : Fate) (ys : List Symbol) (fs : List Fate) (a : State) (n : Tree) → bare n ≡ a.tree.tree → StandsSoFar y f (ys ++ Eof ∷ []) fs a → HoldsRun y f (ys ++ Eof ∷ []) fs n
complete-holds (Start t) (Made x) ys fs a n e h = λ r. elim (h r) [
  | inl k ↦ subst (λ (u : Tree). HoldsText u x (run_of (ys ++ Eof ∷ []) fs)) (sym e) k.holds
  | inr k ↦ absurd (chars-none ys k.chars)
]
complete-holds (Start t) (Foreign d) ys fs a n e h = tt
complete-holds (Start t) Merged ys fs a n e h = tt
complete-holds (Start t) (Text d) ys fs a n e h = tt
complete-holds (Start t) (Dropped d) ys fs a n e h = tt
complete-holds (Start t) Ended ys fs a n e h = tt
complete-holds (End t) f ys fs a n e h = tt
complete-holds (Char c) f ys fs a n e h = tt
complete-holds Comment f ys fs a n e h = tt
complete-holds Doctype f ys fs a n e h = tt
complete-holds Eof f ys fs a n e h = tt

all-hold : (ys : List Symbol) (fs : List Fate) (a : State) (n : Tree) → bare n ≡ a.tree.tree → StandSoFar (ys ++ Eof ∷ []) fs a → AreRawTexts (ys ++ Eof ∷ []) fs n
all-hold [] [] a n e h = tt
all-hold [] (f ∷ fs) a n e h = (tt, tt)
all-hold (y ∷ ys) [] a n e h = tt
all-hold (y ∷ ys) (f ∷ fs) a n e h = (complete-holds y f ys fs a n e h.0, all-hold ys fs a n e h.1)

pub raw-end : (ts : List TokenKind) (fs : List Fate) (a : State) (n : Tree) → EndsAtEof ts → bare n ≡ a.tree.tree → StandSoFar (symbols ts) fs a → AreRawTexts (symbols ts) fs n
raw-end ts fs a n z e h =
    let q : symbols ts ≡ symbols z.0 ++ Eof ∷ [] = ap symbols z.1 ∙ symbols-append z.0 (kind.Eof ∷ []) in
    subst (λ ys. AreRawTexts ys fs n) (sym q) (all-hold (symbols z.0) fs a n e (subst (λ ys. StandSoFar ys fs a) q h))
