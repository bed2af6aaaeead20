-- What is ill-formed stays so, whatever follows the byte that shows it.
use Rattle.std.proofs.Common.{◌≡◌, ◌⊎◌, ℕ, ◌+◌, ◌-◌, ◌*◌, ◌<◌, ◌≤◌, Bool, true, false, List, [], ◌∷◌, ◌++◌, length, take, drop, refl, sym, ap, subst, ◌∙◌, arith, length-append, length-take, append_assoc, take-append-drop, take-take, get_or-take, ⊎_elim, inl, inr, IsUtf8, Option, Some, None}
use Rattle.std.specs.Prelude.{◌==◌, if◌then◌else◌, slice_index, nat_lt, nat_le, ◌&&◌, unwrap_or}
use Rattle.std.proofs.lemmas.Bool.{cases_Bool, cases_lt, cond-true, cond-false, true≢false, and_parts}
use Rattle.std.proofs.lemmas.Bool.Decides.{nat_tests}
use Rattle.std.proofs.lemmas.List.{get_or_append_left, take-append-le}
use Rattle.std.proofs.Math.Seq.{take-append_seam}
use Rattle.std.proofs.lemmas.Grind.{common_steps}
use Rattle.std.proofs.lemmas.Str.{IsUtf8-encode, length-encode, len_utf8_bounds}
use Rattle.std.specs.Str.{IsValidUpTo}
use Rattle.std.specs.Int.{is_in_range}
use Rattle.std.specs.Char.{encode_utf8}
use Rattle.std.specs.Str.{encode_utf8_all}
use Rattle.std.specs.Str.Lossy.{utf8_error_len, utf8_invalid_len, error_len_after_one, error_len_after_two, second_byte_min, second_byte_max}
use Rattle.std.proofs.str.Faults.{Ranged, no_char, valid_to}
use Rattle.std.proofs.str.Valid.{of_one, of_two}

abbrev pub first_fits : List ℕ → Bool
first_fits bs = is_in_range 0xC2 0xF4 (slice_index bs 0)

abbrev pub second_fits : List ℕ → Bool
second_fits bs = is_in_range (second_byte_min (slice_index bs 0)) (second_byte_max (slice_index bs 0)) (slice_index bs 1)

abbrev pub third_fits : List ℕ → Bool
third_fits bs = is_in_range 0x80 0xBF (slice_index bs 2)

-- how bytes that begin with no character, and yet do not end within one, show it
abbrev pub Shown : List ℕ → ℕ → Type 0
Shown bs k =
    ((k ≡ 1) × (0 < length bs) × (first_fits bs ≡ false))
    ⊎ ((k ≡ 1) × (1 < length bs) × (first_fits bs ≡ true) × (second_fits bs ≡ false))
    ⊎ ((k ≡ 2) × (2 < length bs) × (first_fits bs ≡ true) × (second_fits bs ≡ true) × (third_fits bs ≡ false))
    ⊎ ((k ≡ 3) × (3 < length bs) × (first_fits bs ≡ true) × (second_fits bs ≡ true) × (third_fits bs ≡ true))

-- a term of the type given
abbrev by : (A : Type 0) → A → A
by A a = a

in_range : (lo hi c : ℕ) → is_in_range lo hi c ≡ true → (lo ≤ c) × (c ≤ hi)
in_range lo hi c h = let both = and_parts (nat_le lo c) (nat_le c hi) h in (grind (arith, nat_tests), grind (arith, nat_tests))

not_in_range : (lo hi c : ℕ) → is_in_range lo hi c ≡ false → lo ≤ c → c ≤ hi → ⊥
not_in_range lo hi c h low high =
    let yes : is_in_range lo hi c ≡ true = grind (arith, nat_tests) in true≢false (sym yes ∙ h)

-- the error's length, by the tests
module _ (bs : List ℕ) where
  pub at_none : length bs ≡ 0 → utf8_error_len bs ≡ None
  unfolding utf8_error_len
  at_none none = cond-true _ _ _ (by (length bs == 0 ≡ true) (grind (arith, nat_tests)))

  at_first : 0 < length bs → first_fits bs ≡ false → utf8_error_len bs ≡ Some 1
  unfolding utf8_error_len
  at_first some fails = cond-false _ _ _ (by (length bs == 0 ≡ false) (grind (arith, nat_tests))) ∙ cond-false _ _ _ fails

  past_first : first_fits bs ≡ true → 0 < length bs → utf8_error_len bs ≡ error_len_after_one bs
  unfolding utf8_error_len
  past_first fits some = cond-false _ _ _ (by (length bs == 0 ≡ false) (grind (arith, nat_tests))) ∙ cond-true _ _ _ fits

  at_one : first_fits bs ≡ true → length bs ≡ 1 → utf8_error_len bs ≡ None
  at_one fits one = past_first fits (omega arith) ∙ cond-true _ _ _ (by (nat_lt (length bs) 2 ≡ true) (grind (arith, nat_tests)))

  at_second : 1 < length bs → first_fits bs ≡ true → second_fits bs ≡ false → utf8_error_len bs ≡ Some 1
  at_second some fits fails = past_first fits (omega arith) ∙ cond-false _ _ _ (by (nat_lt (length bs) 2 ≡ false) (grind (arith, nat_tests))) ∙ cond-false _ _ _ fails

  past_second : 1 < length bs → first_fits bs ≡ true → second_fits bs ≡ true → utf8_error_len bs ≡ error_len_after_two bs
  past_second some fits also = past_first fits (omega arith) ∙ cond-false _ _ _ (by (nat_lt (length bs) 2 ≡ false) (grind (arith, nat_tests))) ∙ cond-true _ _ _ also

  at_two : length bs ≡ 2 → first_fits bs ≡ true → second_fits bs ≡ true → utf8_error_len bs ≡ None
  at_two two fits also = past_second (omega arith) fits also ∙ cond-true _ _ _ (by (nat_lt (length bs) 3 ≡ true) (grind (arith, nat_tests)))

  at_third : 2 < length bs → first_fits bs ≡ true → second_fits bs ≡ true → third_fits bs ≡ false → utf8_error_len bs ≡ Some 2
  at_third some fits also fails = past_second (omega arith) fits also ∙ cond-false _ _ _ (by (nat_lt (length bs) 3 ≡ false) (grind (arith, nat_tests))) ∙ cond-false _ _ _ fails

  at_three : length bs ≡ 3 → first_fits bs ≡ true → second_fits bs ≡ true → third_fits bs ≡ true → utf8_error_len bs ≡ None
  at_three three fits also third =
      past_second (omega arith) fits also ∙ cond-false _ _ _ (by (nat_lt (length bs) 3 ≡ false) (grind (arith, nat_tests))) ∙ cond-true _ _ _ third
      ∙ cond-true _ _ _ (by (nat_lt (length bs) 4 ≡ true) (grind (arith, nat_tests)))

  at_fourth : 3 < length bs → first_fits bs ≡ true → second_fits bs ≡ true → third_fits bs ≡ true → utf8_error_len bs ≡ Some 3
  at_fourth some fits also third =
      past_second (omega arith) fits also ∙ cond-false _ _ _ (by (nat_lt (length bs) 3 ≡ false) (grind (arith, nat_tests))) ∙ cond-true _ _ _ third
      ∙ cond-false _ _ _ (by (nat_lt (length bs) 4 ≡ false) (grind (arith, nat_tests)))

pub shown_len : (bs : List ℕ) (k : ℕ) → Shown bs k → utf8_error_len bs ≡ Some k
shown_len bs k h =
    ⊎_elim (λ (a : (k ≡ 1) × (0 < length bs) × (first_fits bs ≡ false)). at_first bs a.1 a.2 ∙ ap Some (sym a.0))
    (⊎_elim (λ (a : (k ≡ 1) × (1 < length bs) × (first_fits bs ≡ true) × (second_fits bs ≡ false)). at_second bs a.1 a.2 a.3 ∙ ap Some (sym a.0))
    (⊎_elim (λ (a : (k ≡ 2) × (2 < length bs) × (first_fits bs ≡ true) × (second_fits bs ≡ true) × (third_fits bs ≡ false)). at_third bs a.1 a.2 a.3 a.4 ∙ ap Some (sym a.0))
    (λ (a : (k ≡ 3) × (3 < length bs) × (first_fits bs ≡ true) × (second_fits bs ≡ true) × (third_fits bs ≡ true)). at_fourth bs a.1 a.2 a.3 a.4 ∙ ap Some (sym a.0)))) h

pub len_shown : (bs : List ℕ) (k : ℕ) → utf8_error_len bs ≡ Some k → Shown bs k
len_shown bs k h =
    ⊎_elim (λ (some : 0 < length bs).
    ⊎_elim (λ (first : first_fits bs ≡ true).
    ⊎_elim (λ (more : 1 < length bs).
    ⊎_elim (λ (second : second_fits bs ≡ true).
    ⊎_elim (λ (many : 2 < length bs).
    ⊎_elim (λ (third : third_fits bs ≡ true).
    ⊎_elim (λ (all : 3 < length bs). inr (inr (inr (let e = at_fourth bs all first second third in cc, all, first, second, third))))
    (λ (few : length bs ≤ 3). let e = at_three bs (omega arith) first second third in cc) (cases_lt 3 (length bs)))
    (λ (no : third_fits bs ≡ false). inr (inr (inl (let e = at_third bs many first second no in cc, many, first, second, no)))) (cases_Bool (third_fits bs)))
    (λ (few : length bs ≤ 2). let e = at_two bs (omega arith) first second in cc) (cases_lt 2 (length bs)))
    (λ (no : second_fits bs ≡ false). inr (inl (let e = at_second bs more first no in cc, more, first, no))) (cases_Bool (second_fits bs)))
    (λ (few : length bs ≤ 1). let e = at_one bs first (omega arith) in cc) (cases_lt 1 (length bs)))
    (λ (no : first_fits bs ≡ false). inl (let e = at_first bs some no in cc, some, no)) (cases_Bool (first_fits bs)))
    (λ (none : length bs ≤ 0). let e = at_none bs (omega arith) in cc) (cases_lt 0 (length bs))

-- the bytes up to the one that shows it
same_at : (bs more : List ℕ) (j i : ℕ) → i < j → i < length bs → slice_index (take j bs ++ more) i ≡ slice_index bs i
same_at bs more j i below within =
    get_or_append_left (take j bs) more 0 i (omega (arith, length-take j bs)) ∙ get_or-take j bs i 0 below

first_same : (bs ws : List ℕ) → slice_index ws 0 ≡ slice_index bs 0 → first_fits ws ≡ first_fits bs
first_same bs ws a = ap (is_in_range 0xC2 0xF4) a

second_same : (bs ws : List ℕ) → slice_index ws 0 ≡ slice_index bs 0 → slice_index ws 1 ≡ slice_index bs 1 → second_fits ws ≡ second_fits bs
second_same bs ws a b = λ i. is_in_range (second_byte_min (a i)) (second_byte_max (a i)) (b i)

third_same : (bs ws : List ℕ) → slice_index ws 2 ≡ slice_index bs 2 → third_fits ws ≡ third_fits bs
third_same bs ws a = ap (is_in_range 0x80 0xBF) a

-- what follows the bytes that show it changes nothing
pub shown_before : (bs more : List ℕ) (k : ℕ) → Shown bs k → Shown (take (k + 1) bs ++ more) k
shown_before bs more k h =
    let ws = take (k + 1) bs ++ more in
    let len : length ws ≡ length (take (k + 1) bs) + length more = length-append (take (k + 1) bs) more in
    let front = length-take (k + 1) bs in
    ⊎_elim (λ (a : (k ≡ 1) × (0 < length bs) × (first_fits bs ≡ false)).
    inl (a.0, omega arith, first_same bs ws (same_at bs more (k + 1) 0 (omega arith) a.1) ∙ a.2))
    (⊎_elim (λ (a : (k ≡ 1) × (1 < length bs) × (first_fits bs ≡ true) × (second_fits bs ≡ false)).
    let zero_is = same_at bs more (k + 1) 0 (omega arith) (omega arith) in
    let one_is = same_at bs more (k + 1) 1 (omega arith) (omega arith) in
    inr (inl (a.0, omega arith, first_same bs ws zero_is ∙ a.2, second_same bs ws zero_is one_is ∙ a.3)))
    (⊎_elim (λ (a : (k ≡ 2) × (2 < length bs) × (first_fits bs ≡ true) × (second_fits bs ≡ true) × (third_fits bs ≡ false)).
    let zero_is = same_at bs more (k + 1) 0 (omega arith) (omega arith) in
    let one_is = same_at bs more (k + 1) 1 (omega arith) (omega arith) in
    let two_is = same_at bs more (k + 1) 2 (omega arith) (omega arith) in
    inr (inr (inl (a.0, omega arith, first_same bs ws zero_is ∙ a.2, second_same bs ws zero_is one_is ∙ a.3, third_same bs ws two_is ∙ a.4))))
    (λ (a : (k ≡ 3) × (3 < length bs) × (first_fits bs ≡ true) × (second_fits bs ≡ true) × (third_fits bs ≡ true)).
    let zero_is = same_at bs more (k + 1) 0 (omega arith) (omega arith) in
    let one_is = same_at bs more (k + 1) 1 (omega arith) (omega arith) in
    let two_is = same_at bs more (k + 1) 2 (omega arith) (omega arith) in
    inr (inr (inr (a.0, omega arith, first_same bs ws zero_is ∙ a.2, second_same bs ws zero_is one_is ∙ a.3, third_same bs ws two_is ∙ a.4)))))) h

-- a text begins with a character of one to four bytes
first_char : (bs : List ℕ) (m : ℕ) → 0 < length (take m bs) → IsUtf8 (take m bs) → (j : ℕ) × (0 < j) × (j ≤ 4) × (j ≤ length bs) × IsUtf8 (take j bs)
first_char bs m some ([], spells) = absurd (omega (arith, some, ap length spells.1))
first_char bs m some (c ∷ cs, spells) =
    let j = length (encode_utf8 c) in
    let bounds = len_utf8_bounds c in
    let len = length-encode c in
    let whole : bs ≡ encode_utf8 c ++ (encode_utf8_all cs ++ drop m bs) =
    sym (take-append-drop m bs) ∙ ap (λ t. t ++ drop m bs) (sym spells.1) ∙ append_assoc (encode_utf8 c) (encode_utf8_all cs) (drop m bs) in
    let front : take j bs ≡ encode_utf8 c = ap (take j) whole ∙ take-append_seam (encode_utf8 c) (encode_utf8_all cs ++ drop m bs) in (
      j,
      omega arith,
      omega arith,
      omega (arith, ap length whole, length-append (encode_utf8 c) (encode_utf8_all cs ++ drop m bs)),
      subst IsUtf8 (sym front) (IsUtf8-encode c (and_parts _ _ spells.0).0),
    )

-- a byte that may follow the first, from the ranges of a character
second_ranged : (n x y z w : ℕ) → Ranged n x y z w → 194 ≤ x → x ≤ 244 → is_in_range (second_byte_min x) (second_byte_max x) y ≡ true
second_ranged n x y z w r low high =
    let follows = (r.second (omega arith)).2 in
    let least : second_byte_min x ≤ y = ⊎_elim
    (λ (e0 : x == 0xE0 ≡ true). let is : x ≡ 0xE0 = grind (arith, nat_tests) in let more = (r.in_three (omega arith) (omega arith)).0 in
    omega (arith, cond-true {A = ℕ} (x == 0xE0) 0xA0 (if x == 0xF0 then 0x90 else 0x80) e0))
    (λ (not_e0 : x == 0xE0 ≡ false). ⊎_elim
    (λ (f0 : x == 0xF0 ≡ true). let is : x ≡ 0xF0 = grind (arith, nat_tests) in let more = (r.fourth (omega arith)).2.0 in
    omega (arith, cond-false {A = ℕ} (x == 0xE0) 0xA0 (if x == 0xF0 then 0x90 else 0x80) not_e0, cond-true {A = ℕ} (x == 0xF0) 0x90 0x80 f0))
    (λ (not_f0 : x == 0xF0 ≡ false).
    omega (arith, follows.0, cond-false {A = ℕ} (x == 0xE0) 0xA0 (if x == 0xF0 then 0x90 else 0x80) not_e0, cond-false {A = ℕ} (x == 0xF0) 0x90 0x80 not_f0))
    (cases_Bool (x == 0xF0)))
    (cases_Bool (x == 0xE0)) in
    let most : y ≤ second_byte_max x = ⊎_elim
    (λ (ed : x == 0xED ≡ true). let is : x ≡ 0xED = grind (arith, nat_tests) in let more = (r.in_three (omega arith) (omega arith)).1 in
    ⊎_elim (λ (under : (x - 224) * 64 + (y - 128) < 864). omega (arith, cond-true {A = ℕ} (x == 0xED) 0x9F (if x == 0xF4 then 0x8F else 0xBF) ed))
    (λ (over : 896 ≤ (x - 224) * 64 + (y - 128)). absurd (omega (arith, follows.1))) more)
    (λ (not_ed : x == 0xED ≡ false). ⊎_elim
    (λ (f4 : x == 0xF4 ≡ true). let is : x ≡ 0xF4 = grind (arith, nat_tests) in let more = (r.fourth (omega arith)).2.1 in
    omega (arith, cond-false {A = ℕ} (x == 0xED) 0x9F (if x == 0xF4 then 0x8F else 0xBF) not_ed, cond-true {A = ℕ} (x == 0xF4) 0x8F 0xBF f4))
    (λ (not_f4 : x == 0xF4 ≡ false).
    omega (arith, follows.1, cond-false {A = ℕ} (x == 0xED) 0x9F (if x == 0xF4 then 0x8F else 0xBF) not_ed, cond-false {A = ℕ} (x == 0xF4) 0x8F 0xBF not_f4))
    (cases_Bool (x == 0xF4)))
    (cases_Bool (x == 0xED)) in
    let low_test : nat_le (second_byte_min x) y ≡ true = grind (arith, nat_tests) in
    let high_test : nat_le y (second_byte_max x) ≡ true = grind (arith, nat_tests) in
    ap (λ b. b && nat_le y (second_byte_max x)) low_test ∙ high_test

-- the first byte of a character of two bytes or more
first_ranged : (n x y z w : ℕ) → Ranged n x y z w → 128 ≤ x → is_in_range 0xC2 0xF4 x ≡ true
first_ranged n x y z w r wide =
    let least = (r.second wide).0 in
    let most : x ≤ 244 = ⊎_elim (λ (over : 244 < x). absurd (omega (arith, (r.fourth (omega arith)).2.1))) (λ (within : x ≤ 244). within) (cases_lt 244 x) in
    let low_test : nat_le 0xC2 x ≡ true = grind (arith, nat_tests) in
    let high_test : nat_le x 0xF4 ≡ true = grind (arith, nat_tests) in
    ap (λ b. b && nat_le x 0xF4) low_test ∙ high_test

third_ranged : (n x y z w : ℕ) → Ranged n x y z w → 224 ≤ x → is_in_range 0x80 0xBF z ≡ true
third_ranged n x y z w r wide =
    let follows = (r.third wide).1 in
    let low_test : nat_le 0x80 z ≡ true = grind (arith, nat_tests) in
    let high_test : nat_le z 0xBF ≡ true = grind (arith, nat_tests) in
    ap (λ b. b && nat_le z 0xBF) low_test ∙ high_test

second_follows : (x y : ℕ) → is_in_range (second_byte_min x) (second_byte_max x) y ≡ true → (128 ≤ y) × (y < 192)
second_follows x y h =
    let both = in_range (second_byte_min x) (second_byte_max x) y h in
    (grind (arith, common_steps, nat_tests), grind (arith, common_steps, nat_tests))

pub shown_range : (bs : List ℕ) (k : ℕ) → Shown bs k → (0 < k) × (k ≤ length bs) × (k < 4)
shown_range bs k h =
    ⊎_elim (λ (a : (k ≡ 1) × (0 < length bs) × (first_fits bs ≡ false)). (omega arith, omega arith, omega arith))
    (⊎_elim (λ (a : (k ≡ 1) × (1 < length bs) × (first_fits bs ≡ true) × (second_fits bs ≡ false)). (omega arith, omega arith, omega arith))
    (⊎_elim (λ (a : (k ≡ 2) × (2 < length bs) × (first_fits bs ≡ true) × (second_fits bs ≡ true) × (third_fits bs ≡ false)). (omega arith, omega arith, omega arith))
    (λ (a : (k ≡ 3) × (3 < length bs) × (first_fits bs ≡ true) × (second_fits bs ≡ true) × (third_fits bs ≡ true)). (omega arith, omega arith, omega arith)))) h

-- where no front of one to four bytes is UTF-8, none is
no_front : (bs : List ℕ) → 0 < length bs → ((j : ℕ) → 0 < j → j ≤ 4 → j ≤ length bs → IsUtf8 (take j bs) → ⊥) → IsValidUpTo bs 0
no_front bs some none = record {
  short = some;
  front = ([], (refl, refl));
  longest = λ m more u.
      let first = first_char bs m (omega (arith, length-take m bs)) u in none first.0 first.1 first.2 first.3 first.4;
}

-- the same by the ranges of a character
out_of_range : (bs : List ℕ) → 0 < length bs
    → (Ranged (length bs - 0) (slice_index bs 0) (slice_index bs (0 + 1)) (slice_index bs (0 + 2)) (slice_index bs (0 + 3)) → ⊥) → IsValidUpTo bs 0
out_of_range bs some not = valid_to bs 0 some ([], (refl, refl)) (no_char bs 0 not)

-- no character begins bytes that show it
pub stays_ill_formed : (bs more : List ℕ) (k : ℕ) → IsValidUpTo bs 0 → Shown bs k → IsValidUpTo (take (k + 1) bs ++ more) 0
stays_ill_formed bs more k v h =
    let ws = take (k + 1) bs ++ more in
    let len = length-append (take (k + 1) bs) more in
    let front = length-take (k + 1) bs in
    ⊎_elim (λ (a : (k ≡ 1) × (0 < length bs) × (first_fits bs ≡ false)).
    let zero_is = same_at bs more (k + 1) 0 (omega arith) a.1 in
    out_of_range ws (omega arith) (λ r. ⊎_elim
    (λ (ascii : slice_index ws 0 < 128). v.longest 1 (omega arith) (of_one bs 0 a.1 (omega (arith, ascii, zero_is))))
    (λ (wide : 128 ≤ slice_index ws 0). true≢false (sym (first_ranged _ _ _ _ _ r wide) ∙ first_same bs ws zero_is ∙ a.2))
    (cases_lt (slice_index ws 0) 128)))
    (⊎_elim (λ (a : (k ≡ 1) × (1 < length bs) × (first_fits bs ≡ true) × (second_fits bs ≡ false)).
    let zero_is = same_at bs more (k + 1) 0 (omega arith) (omega arith) in
    let one_is = same_at bs more (k + 1) 1 (omega arith) (omega arith) in
    let wide = in_range 0xC2 0xF4 (slice_index bs 0) a.2 in
    out_of_range ws (omega arith) (λ r.
    true≢false (sym (second_ranged _ _ _ _ _ r (omega (arith, wide.0, zero_is)) (omega (arith, wide.1, zero_is))) ∙ second_same bs ws zero_is one_is ∙ a.3)))
    (⊎_elim (λ (a : (k ≡ 2) × (2 < length bs) × (first_fits bs ≡ true) × (second_fits bs ≡ true) × (third_fits bs ≡ false)).
    let zero_is = same_at bs more (k + 1) 0 (omega arith) (omega arith) in
    let one_is = same_at bs more (k + 1) 1 (omega arith) (omega arith) in
    let two_is = same_at bs more (k + 1) 2 (omega arith) (omega arith) in
    let wide = in_range 0xC2 0xF4 (slice_index bs 0) a.2 in
    let follows = second_follows (slice_index bs 0) (slice_index bs 1) a.3 in
    out_of_range ws (omega arith) (λ r. ⊎_elim
    (λ (two : slice_index bs 0 < 224). v.longest 2 (omega arith) (of_two bs 0 (omega arith) (wide.0, two) follows))
    (λ (three : 224 ≤ slice_index bs 0). true≢false (sym (third_ranged _ _ _ _ _ r (omega (arith, three, zero_is))) ∙ third_same bs ws two_is ∙ a.4))
    (cases_lt (slice_index bs 0) 224)))
    (λ (a : (k ≡ 3) × (3 < length bs) × (first_fits bs ≡ true) × (second_fits bs ≡ true) × (third_fits bs ≡ true)).
    no_front ws (omega arith) (λ j some few within u.
    let same : take j ws ≡ take j bs = take-append-le j (take (k + 1) bs) more (omega arith) ∙ take-take j (k + 1) bs (omega arith) in
    v.longest j some (subst IsUtf8 same u))))) h

-- the part alone
pub part_stops : (bs : List ℕ) (k : ℕ) → IsValidUpTo bs 0 → Shown bs k → IsValidUpTo (take k bs) 0 × (utf8_invalid_len (take k bs) ≡ k)
part_stops bs k v h =
    let range = shown_range bs k h in
    let part : List ℕ = take k bs in
    let same = λ (i : ℕ) (below : i < k). get_or-take k bs i 0 below in
    let len : length (take k bs) ≡ k = omega (arith, length-take k bs) in
    let stops : IsValidUpTo (take k bs) 0 = no_front (take k bs) (omega arith) (λ j some few within u.
    v.longest j some (subst IsUtf8 (take-take j k bs (omega arith)) u)) in (
      stops,
      ⊎_elim (λ (a : (k ≡ 1) × (0 < length bs) × (first_fits bs ≡ false)).
          ap (λ o. unwrap_or o (length part)) (at_first part (omega arith) (first_same bs part (same 0 (omega arith)) ∙ a.2)) ∙ sym a.0)
          (⊎_elim (λ (a : (k ≡ 1) × (1 < length bs) × (first_fits bs ≡ true) × (second_fits bs ≡ false)).
          ap (λ o. unwrap_or o (length part)) (at_one part (first_same bs part (same 0 (omega arith)) ∙ a.2) (omega arith)) ∙ len)
          (⊎_elim (λ (a : (k ≡ 2) × (2 < length bs) × (first_fits bs ≡ true) × (second_fits bs ≡ true) × (third_fits bs ≡ false)).
          ap (λ o. unwrap_or o (length part)) (at_two part (omega arith) (first_same bs part (same 0 (omega arith)) ∙ a.2) (second_same bs part (same 0 (omega arith)) (same 1 (omega arith)) ∙ a.3)) ∙ len)
          (λ (a : (k ≡ 3) × (3 < length bs) × (first_fits bs ≡ true) × (second_fits bs ≡ true) × (third_fits bs ≡ true)).
          ap (λ o. unwrap_or o (length part)) (at_three part (omega arith) (first_same bs part (same 0 (omega arith)) ∙ a.2) (second_same bs part (same 0 (omega arith)) (same 1 (omega arith)) ∙ a.3)
          (third_same bs part (same 2 (omega arith)) ∙ a.4)) ∙ len))) h,
    )

-- where one more byte shows that an unfinished character is ill-formed, the part is what was there before it
pub shown_by_next : (bs : List ℕ) (b k : ℕ) → 0 < length bs → utf8_error_len bs ≡ None → utf8_error_len (bs ++ b ∷ []) ≡ Some k → k ≡ length bs
shown_by_next bs b k some none h =
    let ws = bs ++ b ∷ [] in
    let len = length-append bs (b ∷ []) in
    let same = λ (i : ℕ) (below : i < length bs). sym (get_or_append_left bs (b ∷ []) 0 i below) in
    let refused = λ (j : ℕ) (e : utf8_error_len bs ≡ Some j). by (k ≡ length bs) cc in
    ⊎_elim (λ (a : (k ≡ 1) × (0 < length ws) × (first_fits ws ≡ false)).
    refused 1 (at_first bs some (first_same ws bs (same 0 some) ∙ a.2)))
    (⊎_elim (λ (a : (k ≡ 1) × (1 < length ws) × (first_fits ws ≡ true) × (second_fits ws ≡ false)).
    ⊎_elim (λ (many : 1 < length bs). refused 1 (at_second bs many (first_same ws bs (same 0 some) ∙ a.2) (second_same ws bs (same 0 some) (same 1 many) ∙ a.3)))
    (λ (few : length bs ≤ 1). omega arith) (cases_lt 1 (length bs)))
    (⊎_elim (λ (a : (k ≡ 2) × (2 < length ws) × (first_fits ws ≡ true) × (second_fits ws ≡ true) × (third_fits ws ≡ false)).
    ⊎_elim (λ (many : 2 < length bs).
    refused 2 (at_third bs many (first_same ws bs (same 0 some) ∙ a.2) (second_same ws bs (same 0 some) (same 1 (omega arith)) ∙ a.3) (third_same ws bs (same 2 many) ∙ a.4)))
    (λ (few : length bs ≤ 2). omega arith) (cases_lt 2 (length bs)))
    (λ (a : (k ≡ 3) × (3 < length ws) × (first_fits ws ≡ true) × (second_fits ws ≡ true) × (third_fits ws ≡ true)).
    ⊎_elim (λ (many : 3 < length bs).
    refused 3 (at_fourth bs many (first_same ws bs (same 0 some) ∙ a.2) (second_same ws bs (same 0 some) (same 1 (omega arith)) ∙ a.3) (third_same ws bs (same 2 (omega arith)) ∙ a.4)))
    (λ (few : length bs ≤ 3). omega arith) (cases_lt 3 (length bs))))) (len_shown ws k h)

-- bytes that end within a character are few
none_short : (bs : List ℕ) → utf8_error_len bs ≡ None → length bs ≤ 3
none_short bs h = ⊎_elim
    (λ (all : 3 < length bs).
    ⊎_elim (λ (first : first_fits bs ≡ true).
    ⊎_elim (λ (second : second_fits bs ≡ true).
    ⊎_elim (λ (third : third_fits bs ≡ true). let e = at_fourth bs all first second third in cc)
    (λ (no : third_fits bs ≡ false). let e = at_third bs (omega arith) first second no in cc) (cases_Bool (third_fits bs)))
    (λ (no : second_fits bs ≡ false). let e = at_second bs (omega arith) first no in cc) (cases_Bool (second_fits bs)))
    (λ (no : first_fits bs ≡ false). let e = at_first bs (omega arith) no in cc) (cases_Bool (first_fits bs)))
    (λ (few : length bs ≤ 3). few)
    (cases_lt 3 (length bs))

-- the part that one U+FFFD stands for
pub part_range : (bs : List ℕ) → 0 < length bs → (0 < utf8_invalid_len bs) × (utf8_invalid_len bs ≤ 3)
part_range bs some = at (utf8_error_len bs) refl
  where
    at : (o : Option ℕ) → utf8_error_len bs ≡ o → (0 < unwrap_or o (length bs)) × (unwrap_or o (length bs) ≤ 3)
    at None e = (some, none_short bs e)
    at (Some k) e = let range = shown_range bs k (len_shown bs k e) in (range.0, omega (arith, range.2))
