-- How many code points bytes and texts have.
use Rattle.std.proofs.Common.{◌≡◌, ℕ, zero, suc, ◌+◌, ◌≤◌, List, [], ◌∷◌, length, take, drop, ap, arith, length-append, length-take, length-drop, IsUtf8, ⊎_elim}
use Rattle.std.proofs.lemmas.Bool.{cases_Bool, cond-true, cond-false}
use Rattle.std.specs.Prelude.{◌==◌, true, false, if◌then◌else◌}
use Rattle.std.specs.Str.{chars, IsValidUpTo}
use Rattle.std.specs.Str.Lossy.{utf8_valid_len, utf8_invalid_len}
use Rattle.html_input.specs.Decode.{scalar_values, without_mark, code_points, decode, normalise_newlines, starts_with_line_feed}
use Rattle.html_input.proofs.Counting.{chars_few, none_left}
use Rattle.html_input.proofs.IllFormed.{part_range}
use Rattle.html_input.proofs.Seams.{utf8_or_stops, scalar_values-stops, scalar_values-utf8}

-- a scalar value takes at least one byte
scalar_values_few : (n : ℕ) (bs : List ℕ) → length bs ≤ n → length (scalar_values bs) ≤ length bs
scalar_values_few zero bs few = omega (arith, few, none_left bs (omega (arith, few)))
scalar_values_few (suc n) bs few = ⊎_elim
    (λ (u : IsUtf8 bs). omega (arith, chars_few bs u, ap length (scalar_values-utf8 bs u)))
    (λ (v : IsValidUpTo bs (utf8_valid_len bs)).
    let m = utf8_valid_len bs in
    let short = v.short in
    let part = part_range (drop m bs) (omega (arith, length-drop m bs)) in
    let k = utf8_invalid_len (drop m bs) in
    let rest : List ℕ = drop (m + k) bs in
    let before = scalar_values_few n rest (omega (arith, length-drop (m + k) bs, part.0)) in
    omega (
      arith,
      before,
      part.0,
      part.1,
      chars_few (take m bs) v.front,
      length-take m bs,
      length-drop m bs,
      length-drop (m + k) bs,
      ap length (scalar_values-stops bs m v),
      length-append (chars (take m bs)) (0xFFFD ∷ scalar_values rest),
    ))
    (utf8_or_stops bs)

without_mark_few : (cs : List ℕ) → length (without_mark cs) ≤ length cs
without_mark_few [] = omega arith
without_mark_few (c ∷ cs) = ⊎_elim
    (λ (mark : c == 0xFEFF ≡ true). omega (arith, ap length (cond-true (c == 0xFEFF) cs (c ∷ cs) mark)))
    (λ (no : c == 0xFEFF ≡ false). omega (arith, ap length (cond-false (c == 0xFEFF) cs (c ∷ cs) no)))
    (cases_Bool (c == 0xFEFF))

pub code_points_few : (bs : List ℕ) → length (code_points bs) ≤ length bs
code_points_few bs = omega (arith, scalar_values_few (length bs) bs (omega arith), without_mark_few (scalar_values bs))

-- an end of a line is at least one code point
newlines_few : (cs : List ℕ) → length (normalise_newlines cs) ≤ length cs
newlines_few [] = omega arith
newlines_few (c ∷ cs) =
    let rest = newlines_few cs in
    ⊎_elim
    (λ (carriage : c == 13 ≡ true). ⊎_elim
    (λ (line : starts_with_line_feed cs ≡ true). omega (
      arith,
      rest,
      ap length (cond-true (c == 13) (if starts_with_line_feed cs then normalise_newlines cs else 10 ∷ normalise_newlines cs) (c ∷ normalise_newlines cs) carriage),
      ap length (cond-true (starts_with_line_feed cs) (normalise_newlines cs) (10 ∷ normalise_newlines cs) line),
    ))
    (λ (line : starts_with_line_feed cs ≡ false). omega (
      arith,
      rest,
      ap length (cond-true (c == 13) (if starts_with_line_feed cs then normalise_newlines cs else 10 ∷ normalise_newlines cs) (c ∷ normalise_newlines cs) carriage),
      ap length (cond-false (starts_with_line_feed cs) (normalise_newlines cs) (10 ∷ normalise_newlines cs) line),
    ))
    (cases_Bool (starts_with_line_feed cs)))
    (λ (other : c == 13 ≡ false). omega (
      arith,
      rest,
      ap length (cond-false (c == 13) (if starts_with_line_feed cs then normalise_newlines cs else 10 ∷ normalise_newlines cs) (c ∷ normalise_newlines cs) other),
    ))
    (cases_Bool (c == 13))

pub decode_few : (bs : List ℕ) → length (decode bs) ≤ length (code_points bs)
decode_few bs = newlines_few (code_points bs)
