-- Which bytes of a block are not plain, by a look-up of each and a mask of bits.
use Rattle.std.proofs.Common.{◌≡◌, ℕ, zero, suc, ◌+◌, ◌-◌, ◌%◌, ◌^◌, ◌<◌, ◌≤◌, Bool, true, false, ◌&&◌, cond, List, [], ◌∷◌, T, eqb, length, take, drop, map, get_or, bit_and, refl, sym, ap, ◌∙◌, arith, w8, w64, eq-zero-or-pos, inl, inr}
use Rattle.std.specs.Int.{bit_at, trailing_zeros}
use Rattle.std.specs.List.{list_all}
use Rattle.std.proofs.lemmas.List.{get_or-map, length-map, take-take}
use Rattle.std.proofs.lemmas.List.Folds.{list_all_more}
use Rattle.std.proofs.lemmas.Nat.Bits.{bit_at-trailing_zeros, bit_at-zero}
use Rattle.std.proofs.lemmas.Simd.{bit_mask_l, mask_l-mod, tops_compared}
use lib.Lanes.{mask_l, top, zip2}
use Rattle.simdutf8.proofs.Lanes.{IsBlock, lane_fits}
use Rattle.simdutf8.proofs.Pairs.{every_below}
use Rattle.html_text.specs.Plain.{is_plain_byte}
use Rattle.html_text.specs.declared.plain.TheConstants.{OTHERS}
use Rattle.html_text.proofs.PlainTexts.{longer}

-- what a byte is compared with
abbrev pub like : ℕ → ℕ
like b = get_or (take 16 OTHERS) (bit_and b 15) 0

-- a byte is plain, or the same as that
abbrev is_told : ℕ → Bool
is_told b = cond (eqb (like b) b) true (is_plain_byte b)

told : (a b : Bool) → T (cond a true b) → a ≡ false → b ≡ true
told true b t e = absurd (cc)
told false true t e = refl
told false false t e = absurd t

plain : (b : ℕ) → b < 256 → eqb (like b) b ≡ false → is_plain_byte b ≡ true
plain b small e = told _ _ (every_below is_told 256 tt b small) e

compared : (v : List ℕ) → zip2 eqb (map like v) v ≡ map (λ b. eqb (like b) b) v
compared [] = refl
compared (b ∷ bs) = ap (λ rest. eqb (like b) b ∷ rest) (compared bs)

unset : (a : Bool) (n : ℕ) → n ≡ cond a 1 0 → n ≡ 0 → a ≡ false
unset true n e z = absurd (omega (arith, e, z))
unset false n e z = refl

-- the mask of a block, where a bit is not set
pub unmarked : (v : List ℕ) → IsBlock v → (k : ℕ) → k < 64
    → bit_at (mask_l (map (top 7) (zip2 (λ a b. cond (eqb a b) 255 0) (map like v) v)) % 2 ^ 64) k ≡ 0 → is_plain_byte (get_or v k 0) ≡ true
unmarked v block k small e =
    let other = λ (b : ℕ). eqb (like b) b in
    let marks : mask_l (map (top 7) (zip2 (λ a b. cond (eqb a b) 255 0) (map like v) v)) % 2 ^ 64 ≡ mask_l (map other v)
    = ap (λ ms. mask_l ms % 2 ^ 64) (tops_compared w8 eqb (map like v) v ∙ compared v) ∙ mask_l-mod (map other v) 64 (omega (arith, length-map v other, block.0)) in
    let bit : bit_at (mask_l (map other v)) k ≡ cond (other (get_or v k 0)) 1 0
    = bit_mask_l (map other v) k ∙ ap (λ b. cond b 1 0) (get_or-map other v k 0 false (omega (arith, block.0))) in
    plain (get_or v k 0) (lane_fits v k block.1) (unset _ _ bit (ap (λ m. bit_at m k) (sym marks) ∙ e))

both : (a b : Bool) → a ≡ true → b ≡ true → (a && b) ≡ true
both true b p q = q
both false b p q = absurd (cc)

-- the front below each byte that is plain
front : (bytes : List ℕ) (n : ℕ) → n ≤ length bytes → ((k : ℕ) → k < n → is_plain_byte (get_or bytes k 0) ≡ true) → list_all is_plain_byte (take n bytes) ≡ true
front bytes zero within each = refl
front bytes (suc n) within each =
    let more : suc n ≡ n + 1 = omega arith in
    ap (λ m. list_all is_plain_byte (take m bytes)) more ∙ list_all_more is_plain_byte bytes n 0 (omega (arith, within)) ∙ both _ _ (front bytes n (omega arith) (λ k l. each k (omega arith))) (each n (omega arith))

none : (m : ℕ) → m ≡ 0 → (k : ℕ) → bit_at m k ≡ 0
none m z k = ap (λ n. bit_at n k) z ∙ bit_at-zero k

zeros : trailing_zeros w64 0 ≡ 64
unfolding lib.Count.count_trailing_zeros
zeros = refl

-- the bytes below the lowest bit that is set, or all
pub below-marks : (m : ℕ) (bytes : List ℕ) → m < 2 ^ 64 → length bytes ≡ 64 → ((k : ℕ) → k < 64 → bit_at m k ≡ 0 → is_plain_byte (get_or bytes k 0) ≡ true)
    → (trailing_zeros w64 m ≤ 64) × (list_all is_plain_byte (take (trailing_zeros w64 m) bytes) ≡ true)
below-marks m bytes fits long each =
    elim (eq-zero-or-pos m) [
      | inl z ↦
          let whole : trailing_zeros w64 m ≡ 64 = ap (trailing_zeros w64) z ∙ zeros in
          (omega (arith, whole), front bytes (trailing_zeros w64 m) (omega (arith, whole, long)) (λ k l. each k (omega (arith, whole)) (none m z k)))
      | inr some ↦
          let low = bit_at-trailing_zeros w64 m some fits in
          (omega (arith, low.0), front bytes (trailing_zeros w64 m) (omega (arith, low.0, long)) (λ k l. each k (omega (arith, low.0)) (low.2 k l)))
    ]

-- a front of a block, behind one that is known
pub further : (known n : ℕ) (bytes : List ℕ) → n ≤ 64 → list_all is_plain_byte (take known bytes) ≡ true
    → list_all is_plain_byte (take n (take (known + 64 - known) (drop known bytes))) ≡ true → list_all is_plain_byte (take (known + n) bytes) ≡ true
further known n bytes small plain next =
    longer known n n bytes refl plain (ap (list_all is_plain_byte) (sym (take-take n (known + 64 - known) (drop known bytes) (omega arith))) ∙ next)
