-- Rows: what one more says.
use Rattle.std.proofs.Common.{◌≡◌, ◌≢◌, ℕ, ◌+◌, ◌<◌, List, Option, Some, ◌⊎◌, inl, inr, length, get_or, set, refl, sym, ◌∙◌, ap, subst, arith}
use Rattle.std.specs.Prelude.{slice_get, slice_set}
use Rattle.std.proofs.lemmas.List.{get_or-set_same, get_or-set_other}
use Rattle.std.proofs.lemmas.Grind.{get_or_default_zero}
use Rattle.std.proofs.lemmas.Option.{get_or_from_slice_get, slice_get_read}
use Rattle.html_arena.specs.Tree.{Tree}
use Rattle.html_arena.proofs.Siblings.{cases_eqb}
use Rattle.zilqumet_c.specs.Reads.{AreRows, IsRow}
use Rattle.zilqumet_c.specs.Places.{ArePositions, IsPosition}
use Rattle.zilqumet_c.specs.declared.places.ZqPosition.{ZqPosition}
use Rattle.zilqumet_c.specs.declared.rows.ZqRow.{ZqRow}

below : (i n : ℕ) → i ≢ n → i < n + 1 → i < n
below i n apart h = omega (arith, apart, h)

within : (i n m : ℕ) → i < n → n < m → i < m
within i n m h k = omega (arith, h, k)

-- a row is written behind the first
pub more_rows : (t : Tree) (from count : ℕ) (rows : List ZqRow) (r : ZqRow) → count < length rows → AreRows t from count rows → IsRow t (from + count) r
    → AreRows t from (count + 1) (slice_set rows count r)
more_rows t from count rows r h old is i q k found = elim (cases_eqb i count) [
  | inl both ↦
      let e : i ≡ count = both.1 in
      let got : get_or (slice_set rows count r) count r ≡ q = subst (λ j. get_or (slice_set rows count r) j r ≡ q) e (get_or_from_slice_get (slice_set rows count r) i q r found) in
      let same : r ≡ q = sym (get_or-set_same rows count r r h) ∙ got in
      subst (λ j. IsRow t (from + j) q) (sym e) (subst (λ x. IsRow t (from + count) x) same is)
  | inr both ↦
      let apart : i ≢ count = both.1 in
      let got : get_or (slice_set rows count r) i q ≡ q = get_or_from_slice_get (slice_set rows count r) i q q found in
      let there : q ≡ get_or rows i q = sym got ∙ get_or-set_other rows count i r q apart in
      old i q (below i count apart k) (slice_get_read rows (length rows) i q refl (within i count (length rows) (below i count apart k) h) there)
]

pub read_place : (places : List ℕ) (i : ℕ) → i < length places → slice_get places i ≡ Some (get_or places i 0)
read_place places i h = slice_get_read places (length places) i (get_or places i 0) refl h (sym (get_or_default_zero places i (get_or places i 0) h))

some_place : (a b : ℕ) → ◌≡◌ {A = Option ℕ} (Some a) (Some b) → a ≡ b
some_place a b e = cc

-- a position is written behind the first
pub more_positions : (bytes places : List ℕ) (count : ℕ) (positions : List ZqPosition) (z : ZqPosition) → count < length positions → ArePositions bytes places count positions
    → {place : ℕ} → IsPosition bytes place z → slice_get places count ≡ Some place → ArePositions bytes places (count + 1) (slice_set positions count z)
more_positions bytes places count positions z h old {place} is there i at q k asked found = elim (cases_eqb i count) [
  | inl both ↦
      let e : i ≡ count = both.1 in
      let got : get_or (slice_set positions count z) count z ≡ q = subst (λ j. get_or (slice_set positions count z) j z ≡ q) e (get_or_from_slice_get (slice_set positions count z) i q z found) in
      let same : z ≡ q = sym (get_or-set_same positions count z z h) ∙ got in
      let of_place : Some place ≡ Some at = sym there ∙ (subst (λ j. slice_get places j ≡ Some at) e asked) in
      subst (λ p. IsPosition bytes p q) (some_place place at of_place) (subst (λ x. IsPosition bytes place x) same is)
  | inr both ↦
      let apart : i ≢ count = both.1 in
      let got : get_or (slice_set positions count z) i q ≡ q = get_or_from_slice_get (slice_set positions count z) i q q found in
      let was : q ≡ get_or positions i q = sym got ∙ get_or-set_other positions count i z q apart in
      old i at q (below i count apart k) asked (slice_get_read positions (length positions) i q refl (within i count (length positions) (below i count apart k) h) was)
]
