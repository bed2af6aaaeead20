-- The names of the elements of a plain page, one by one.
use Rattle.std.proofs.Common.{ℕ, List, codes, sym, subst}
use Rattle.html_page.specs.Plain.{IsPlainName, PlainName, name_of}
use Rattle.html_page.specs.Plain.PlainName.{Div, Span, Section, Article, B, I, Em, Strong}

module _ (P : List ℕ → Type 0) (div : P (codes "div")) (span : P (codes "span")) (section : P (codes "section")) (article : P (codes "article"))
    (b : P (codes "b")) (i : P (codes "i")) (em : P (codes "em")) (strong : P (codes "strong")) where
  by-name : (name : PlainName) → P (name_of name)
  by-name Div = div
  by-name Span = span
  by-name Section = section
  by-name Article = article
  by-name B = b
  by-name I = i
  by-name Em = em
  by-name Strong = strong

  -- what is true of each of them
  pub each-name : (n : List ℕ) → IsPlainName n → P n
  each-name n h = subst P (sym h.1) (by-name h.0)
