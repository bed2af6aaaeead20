-- How many bytes code points stand for.
use Rattle.std.proofs.Common.{◌≡◌, ℕ, zero, suc, ◌+◌, ◌*◌, ◌≤◌, List, [], ◌∷◌, length, take, drop, ap, arith, length-append, length-take, length-drop, IsUtf8, ⊎_elim}
use Rattle.std.proofs.Math.Utf8.{encode, encodes}
use Rattle.std.proofs.lemmas.Bool.{cases_Bool, cond-true, cond-false}
use Rattle.std.proofs.lemmas.Str.{encodes-chars, length-encode, len_utf8_bounds}
use Rattle.std.specs.Prelude.{◌==◌, true, false}
use Rattle.std.specs.Str.{chars, IsValidUpTo}
use Rattle.std.specs.Str.Lossy.{utf8_valid_len, utf8_invalid_len}
use Rattle.html_input.specs.Decode.{scalar_values, without_mark, code_points}
use Rattle.html_input.proofs.IllFormed.{part_range}
use Rattle.html_input.proofs.Seams.{utf8_or_stops, scalar_values-stops, scalar_values-utf8}

-- a character takes at most four bytes
encodes_bound : (cs : List ℕ) → length (encodes cs) ≤ 4 * length cs
encodes_bound [] = omega arith
encodes_bound (c ∷ cs) = omega (arith, length-append (encode c) (encodes cs), length-encode c, len_utf8_bounds c, encodes_bound cs)

utf8_bound : (bs : List ℕ) → IsUtf8 bs → length bs ≤ 4 * length (chars bs)
utf8_bound bs u = omega (arith, ap length (encodes-chars bs u), encodes_bound (chars bs))

scalar_values_bound : (n : ℕ) (bs : List ℕ) → length bs ≤ n → length bs ≤ 4 * length (scalar_values bs)
scalar_values_bound zero bs few = omega arith
scalar_values_bound (suc n) bs few = ⊎_elim
    (λ (u : IsUtf8 bs). omega (arith, utf8_bound bs u, ap length (scalar_values-utf8 bs u)))
    (λ (v : IsValidUpTo bs (utf8_valid_len bs)).
    let m = utf8_valid_len bs in
    let short = v.short in
    let part = part_range (drop m bs) (omega (arith, length-drop m bs)) in
    let k = utf8_invalid_len (drop m bs) in
    let rest : List ℕ = drop (m + k) bs in
    let before = scalar_values_bound n rest (omega (arith, length-drop (m + k) bs, part.0)) in
    omega (
      arith,
      before,
      part.1,
      utf8_bound (take m bs) v.front,
      length-take m bs,
      length-drop (m + k) bs,
      ap length (scalar_values-stops bs m v),
      length-append (chars (take m bs)) (0xFFFD ∷ scalar_values rest),
    ))
    (utf8_or_stops bs)

-- the mark is three bytes and no code point, but four are as good
without_mark_bound : (cs : List ℕ) → length cs ≤ length (without_mark cs) + 1
without_mark_bound [] = omega arith
without_mark_bound (c ∷ cs) = ⊎_elim
    (λ (mark : c == 0xFEFF ≡ true). omega (arith, ap length (cond-true (c == 0xFEFF) cs (c ∷ cs) mark)))
    (λ (no : c == 0xFEFF ≡ false). omega (arith, ap length (cond-false (c == 0xFEFF) cs (c ∷ cs) no)))
    (cases_Bool (c == 0xFEFF))

pub bytes_bound : (bs : List ℕ) → length bs ≤ 4 * length (code_points bs) + 4
bytes_bound bs = omega (arith, scalar_values_bound (length bs) bs (omega arith), without_mark_bound (scalar_values bs))
