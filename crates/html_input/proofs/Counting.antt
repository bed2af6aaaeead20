-- How many scalar values the chunks of bytes are.
use Rattle.std.proofs.Common.{◌≡◌, ◌↔◌, ℕ, true, false, ◌+◌, ◌<◌, ◌≤◌, List, [], ◌∷◌, ◌++◌, length, drop, refl, sym, ap, subst, ◌∙◌, arith, length-append, IsUtf8}
use Rattle.std.proofs.Math.Utf8.{encode, encodes}
use Rattle.std.proofs.lemmas.Str.{encodes-chars, length-encode, len_utf8_bounds, chars-append, chars-nil, utf8_lossy_chunk, utf8_lossy_last_chunk, utf8_lossy_empty}
use Rattle.std.specs.Str.{chars}
use Rattle.std.specs.Str.Lossy.{utf8_valid_len, utf8_invalid_len, utf8_lossy}
use Rattle.std.specs.Prelude.{◌==◌}
use Rattle.std.proofs.lemmas.Bool.{cond-true, cond-false}
use Rattle.std.proofs.lemmas.Bool.Decides.{nat_tests}
use Rattle.html_input.specs.Decode.{scalar_values, without_mark}
use Rattle.html_input.specs.Count.{BeginsWithMark}
use Rattle.html_input.proofs.Seams.{replaced}

-- so many scalar values were counted in front of a rest
pub record Counted (bytes rest : List ℕ) (count : ℕ) : Type 0 where
  pub count_is : length (scalar_values bytes) ≡ count + length (scalar_values rest)
  pub few : count + length rest ≤ length bytes

encodes_least : (cs : List ℕ) → length cs ≤ length (encodes cs)
encodes_least [] = omega arith
encodes_least (c ∷ cs) = omega (arith, length-append (encode c) (encodes cs), length-encode c, len_utf8_bounds c, encodes_least cs)

pub chars_few : (bs : List ℕ) → IsUtf8 bs → length (chars bs) ≤ length bs
chars_few bs u = omega (arith, ap length (encodes-chars bs u), encodes_least (chars bs))

pub none_left : (bs : List ℕ) → length bs ≡ 0 → length (scalar_values bs) ≡ 0
unfolding scalar_values
none_left bs e = ap length (ap chars (utf8_lossy_empty bs e) ∙ chars-nil)

-- a text, and an ill-formed part
pub past_part : (bs valid invalid rest : List ℕ) → bs ≡ valid ++ (invalid ++ rest) → length valid ≡ utf8_valid_len bs → length invalid ≡ utf8_invalid_len (drop (utf8_valid_len bs) bs)
    → 0 < length invalid → IsUtf8 valid → scalar_values bs ≡ chars valid ++ 0xFFFD ∷ scalar_values rest
unfolding scalar_values
past_part bs valid invalid rest e v i some u =
    ap chars (utf8_lossy_chunk bs valid invalid rest e v i some) ∙ chars-append valid _ u ∙ ap (λ t. chars valid ++ t) (replaced (utf8_lossy rest))

-- a text at the end
pub past_text : (bs valid invalid rest : List ℕ) → bs ≡ valid ++ (invalid ++ rest) → length valid ≡ utf8_valid_len bs → length invalid ≡ 0 → length rest ≡ 0
    → IsUtf8 valid → scalar_values bs ≡ chars valid ++ scalar_values rest
unfolding scalar_values
past_text bs valid invalid rest e v i r u = ap chars (utf8_lossy_last_chunk bs valid invalid rest e v i r) ∙ chars-append valid _ u

lengths : (bs valid invalid rest : List ℕ) → bs ≡ valid ++ (invalid ++ rest) → length bs ≡ length valid + length invalid + length rest
lengths bs valid invalid rest e = omega (arith, ap length e, length-append valid (invalid ++ rest), length-append invalid rest)

pub Counted-part : (bytes bs valid invalid rest : List ℕ) (count : ℕ) → Counted bytes bs count → bs ≡ valid ++ (invalid ++ rest) → length valid ≡ utf8_valid_len bs
    → length invalid ≡ utf8_invalid_len (drop (utf8_valid_len bs) bs) → 0 < length invalid → IsUtf8 valid → Counted bytes rest (count + length (chars valid) + 1)
Counted-part bytes bs valid invalid rest count h e v i some u = record {
  count_is = omega (arith, h.count_is, ap length (past_part bs valid invalid rest e v i some u), length-append (chars valid) (0xFFFD ∷ scalar_values rest));
  few = omega (arith, h.few, lengths bs valid invalid rest e, chars_few valid u);
}

pub Counted-text : (bytes bs valid invalid rest : List ℕ) (count : ℕ) → Counted bytes bs count → bs ≡ valid ++ (invalid ++ rest) → length valid ≡ utf8_valid_len bs
    → length invalid ≡ 0 → length rest ≡ 0 → IsUtf8 valid → Counted bytes rest (count + length (chars valid))
Counted-text bytes bs valid invalid rest count h e v i r u = record {
  count_is = omega (arith, h.count_is, ap length (past_text bs valid invalid rest e v i r u), length-append (chars valid) (scalar_values rest));
  few = omega (arith, h.few, lengths bs valid invalid rest e, chars_few valid u);
}

-- a mark at the front is in the first part, where there is none at the front of the rest
pub marked-first : (xs ys : List ℕ) → (BeginsWithMark ys → ⊥) → BeginsWithMark (xs ++ ys) → BeginsWithMark xs
marked-first [] ys none h = none h
marked-first (x ∷ xs) ys none h = h

pub marked-whole : (xs ys : List ℕ) → BeginsWithMark xs → BeginsWithMark (xs ++ ys)
marked-whole [] ys h = absurd h
marked-whole (x ∷ xs) ys h = h

pub unmarked : (xs : List ℕ) → length xs ≡ 0 → BeginsWithMark xs → ⊥
unmarked [] e h = h
unmarked (x ∷ xs) e h = omega arith

pub fffd-unmarked : (xs : List ℕ) → BeginsWithMark (0xFFFD ∷ xs) → ⊥
fffd-unmarked xs h = omega (arith, h)

pub part-marked : (bs valid rest : List ℕ) → scalar_values bs ≡ chars valid ++ 0xFFFD ∷ scalar_values rest → BeginsWithMark (scalar_values bs) ↔ BeginsWithMark (chars valid)
part-marked bs valid rest e =
    (λ h. marked-first (chars valid) _ (fffd-unmarked (scalar_values rest)) (subst BeginsWithMark e h), λ h. subst BeginsWithMark (sym e) (marked-whole (chars valid) _ h))

pub text-marked : (bs valid rest : List ℕ) → scalar_values bs ≡ chars valid ++ scalar_values rest → length rest ≡ 0 → BeginsWithMark (scalar_values bs) ↔ BeginsWithMark (chars valid)
text-marked bs valid rest e r =
    (λ h. marked-first (chars valid) _ (unmarked (scalar_values rest) (none_left rest r)) (subst BeginsWithMark e h), λ h. subst BeginsWithMark (sym e) (marked-whole (chars valid) _ h))

pub without-mark-marked : (cs : List ℕ) → BeginsWithMark cs → length cs ≡ length (without_mark cs) + 1
without-mark-marked [] h = absurd h
without-mark-marked (c ∷ cs) h =
    let e : c == 0xFEFF ≡ true = grind (arith, nat_tests) in omega (arith, ap length (cond-true (c == 0xFEFF) cs (c ∷ cs) e))

pub without-mark-unmarked : (cs : List ℕ) → (BeginsWithMark cs → ⊥) → length (without_mark cs) ≡ length cs
without-mark-unmarked [] none = refl
without-mark-unmarked (c ∷ cs) none = ap length (cond-false (c == 0xFEFF) cs (c ∷ cs) (other c none))
  where
    other : (c : ℕ) → (c ≡ 0xFEFF → ⊥) → c == 0xFEFF ≡ false
    other c none = grind (arith, nat_tests)
