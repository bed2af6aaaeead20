-- Texts read unit by unit of UTF-16.
use Rattle.std.proofs.Common.{◌≡◌, ◌≢◌, Ordering, Less, Equal, Greater, inl, inr, ℕ, List, [], ◌∷◌, ◌++◌, length, refl, sym, ap, ◌∙◌}
use Rattle.std.specs.Prelude.{Some, None}
use Rattle.std.specs.Cmp.{nat_cmp_is}
use Rattle.std.specs.Cmp.Lexicographic.{slice_cmp}
use Rattle.std.specs.FinMap.{nat_cmp-IsAntisymmetric}
use Rattle.std.specs.Ordering.{nat_cmp, ordering_then}
use Rattle.std.specs.Str.{chars, IsUtf8}
use Rattle.std.specs.Str.Iter.{encode_utf16_pending, encode_utf16_rest, encode_utf16_steps}
use Rattle.std.specs.declared.str.EncodeUtf16.{EncodeUtf16}
use Rattle.std.proofs.lemmas.Str.{IsUtf8-past_char, chars-nil, chars_past_char}
use Rattle.html_print.specs.Order.{code_units}

-- the units that are still to come
abbrev pub left : EncodeUtf16 → List ℕ
left s = encode_utf16_pending s ++ code_units (chars (encode_utf16_rest s))

no_text : (s : List ℕ) → length s ≡ 0 → s ≡ []
no_text [] h = refl
no_text (x ∷ s) h = cc

module _ (s t : EncodeUtf16) where
  pub next_none : encode_utf16_steps s None t → left s ≡ []
  next_none (p, q, e) =
      ap (λ l. l ++ code_units (chars (encode_utf16_rest s))) p ∙ ap (λ l. code_units (chars l)) (no_text (encode_utf16_rest s) q) ∙ ap code_units chars-nil

  module _ (x : ℕ) (u : IsUtf8 (encode_utf16_rest s)) where
    pub next_some : encode_utf16_steps s (Some x) t → (left s ≡ x ∷ left t) × IsUtf8 (encode_utf16_rest t)
    next_some (inl (p, q, e)) = (
      ap (λ l. l ++ code_units (chars (encode_utf16_rest s))) p ∙ ap (λ l. x ∷ code_units (chars l)) (sym e)
          ∙ ap (λ l. x ∷ (l ++ code_units (chars (encode_utf16_rest t)))) (sym q),
      rw e u,
    )
    next_some (inr (p, (c, q, e))) = (
      ap (λ l. l ++ code_units (chars (encode_utf16_rest s))) p
          ∙ ap code_units (chars_past_char (encode_utf16_rest s) (encode_utf16_rest t) c u q)
          ∙ ap (λ l. l ++ code_units (chars (encode_utf16_rest t))) e,
      IsUtf8-past_char (encode_utf16_rest s) (encode_utf16_rest t) c u q,
    )

-- texts that begin apart, and those that begin alike
abbrev pub ordered : List ℕ → List ℕ → Ordering
ordered = slice_cmp nat_cmp

pub longer : (xs ys t : List ℕ) (x : ℕ) (r : Ordering) → xs ≡ x ∷ t → ys ≡ [] → ordered xs ys ≡ r → Greater ≡ r
longer xs ys t x r e f h = let k : ordered (x ∷ t) [] ≡ r = rw (e, f) at h in k

pub shorter : (xs ys t : List ℕ) (y : ℕ) (r : Ordering) → xs ≡ [] → ys ≡ y ∷ t → ordered xs ys ≡ r → Less ≡ r
shorter xs ys t y r e f h = let k : ordered [] (y ∷ t) ≡ r = rw (e, f) at h in k

pub both_end : (xs ys : List ℕ) (r : Ordering) → xs ≡ [] → ys ≡ [] → ordered xs ys ≡ r → Equal ≡ r
both_end xs ys r e f h = let k : ordered [] [] ≡ r = rw (e, f) at h in k

decides : (x y : ℕ) (q s : Ordering) → q ≡ nat_cmp x y → x ≢ y → ordering_then q s ≡ q
decides x y Less s e n = refl
decides x y Greater s e n = refl
decides x y Equal s e n = absurd (n (nat_cmp-IsAntisymmetric x y (sym e)))

pub begin_apart : (xs ys t u : List ℕ) (x y : ℕ) (q r : Ordering) → xs ≡ x ∷ t → ys ≡ y ∷ u → q ≡ nat_cmp x y → x ≢ y → ordered xs ys ≡ r → q ≡ r
begin_apart xs ys t u x y q r e f k n h =
    let j : ordering_then (nat_cmp x y) (ordered t u) ≡ r = rw (e, f) at h in
    sym (decides x y q (ordered t u) k n) ∙ ap (λ o. ordering_then o (ordered t u)) k ∙ j

pub begin_alike : (xs ys t u : List ℕ) (x y : ℕ) (r : Ordering) → xs ≡ x ∷ t → ys ≡ y ∷ u → x ≡ y → ordered xs ys ≡ r → ordered t u ≡ r
begin_alike xs ys t u x y r e f n h =
    let j : ordering_then (nat_cmp x y) (ordered t u) ≡ r = rw (e, f) at h in
    ap (λ o. ordering_then o (ordered t u)) (nat_cmp_is x y Equal n) ∙ j
