-- Ranges of rows by the letter behind the ampersand.
use Rattle.std.proofs.Common.{◌≡◌, ℕ, zero, suc, ◌+◌, ◌⊎◌, List, [], ◌∷◌, ◌++◌, length, Some, inl, inr, refl, sym, subst, ◌∙◌, arith}
use Rattle.std.specs.List.{slice_get}
use Rattle.html_charref.specs.Table.{IsLowerBound, IsRange, AreRanges}
use Rattle.html_charref.specs.declared.table.Row.{Row}
use Rattle.html_charref.specs.declared.table.RowRange.{RowRange}

-- what stands in a list with one element more stood there before, or is that element
pushed_get : (xs : List RowRange) (y : RowRange) (i : ℕ) (r : RowRange) → slice_get (xs ++ y ∷ []) i ≡ Some r → (slice_get xs i ≡ Some r) ⊎ ((i ≡ length xs) × (y ≡ r))
pushed_get [] y zero r e = let f : y ≡ r = cc in inr (refl, f)
pushed_get [] y (suc i) r e = cc
pushed_get (x ∷ xs) y zero r e = inl e
pushed_get (x ∷ xs) y (suc i) r e = elim (pushed_get xs y i r e) [ inl f ↦ inl f | inr f ↦ (let g = f.0 in inr (omega arith, f.1)) ]

pub ranges_more : (rows : List Row) (ranges new : List RowRange) (range : RowRange) (n : ℕ) → AreRanges rows ranges → length ranges ≡ n → IsRange rows n range → new ≡ ranges ++ range ∷ [] → AreRanges rows new
ranges_more rows ranges new range n all count one e i r at =
    elim (pushed_get ranges range i r (subst (λ (l : List RowRange). slice_get l i ≡ Some r) e at)) [
      | inl f ↦ all i r f
      | inr f ↦ subst (λ (x : RowRange). IsRange rows i x) f.1 (subst (λ (k : ℕ). IsRange rows k range) (sym (f.0 ∙ count)) one)
    ]

-- a range holds for the walk that has left out no row and stands behind the ampersand
pub range_there : (rows all : List Row) (ranges : List RowRange) (start end depth letter : ℕ) (range : RowRange) → AreRanges rows ranges → slice_get ranges letter ≡ Some range →
    rows ≡ all → depth ≡ 1 → start ≡ 0 → end ≡ length rows → IsLowerBound all start end depth letter range.start × IsLowerBound all range.start end depth (letter + 1) range.end
range_there rows all ranges start end depth letter range are at same d s e =
    let r = are letter range at in
    rw (← same, d, s, e) (r.start, r.end)
