-- What the rule on names says of one.
use Rattle.std.specs.Prelude.{◌==◌, slice_index, nat_lt, nat_le}
use Rattle.std.proofs.lemmas.Bool.{cond-true, cond-false}
use Rattle.std.proofs.lemmas.Bool.Decides.{nat_tests}
use Rattle.std.proofs.lemmas.List.{drop_all}
use Rattle.std.proofs.Math.Seq.{drop-cons}
use Rattle.std.proofs.Common.{inl, inr, ⊎_elim, get_or, ℕ, suc, ◌≡◌, ◌+◌, ◌-◌, ◌<◌, ◌≤◌, List, [], ◌∷◌, ◌++◌, length, take, drop, true, false, refl, sym, ap, ◌∙◌, arith, append-nil, take-append-drop}
use Rattle.html_charref.specs.Entities.{is_name, letters_of}
use Rattle.html_charref.specs.Table.{IsName}
use Rattle.html_charref.proofs.LongestLemmas.{bool_cases, both}

same_from : (m n : ℕ) → (m == n) ≡ true → m ≡ n
same_from m n h = grind (arith, nat_tests)

below_from : (m n : ℕ) → nat_lt m n ≡ true → m < n
below_from m n h = grind (arith, nat_tests)

within_from : (m n : ℕ) → nat_le m n ≡ true → m ≤ n
within_from m n h = grind (arith, nat_tests)

-- the last of a list by itself
last_alone : (xs : List ℕ) (n : ℕ) → length xs ≡ n + 1 → drop n xs ≡ get_or xs n 0 ∷ []
last_alone xs n h = drop-cons xs n 0 (omega arith) ∙ ap (λ t. get_or xs n 0 ∷ t) (drop_all (suc n) xs (omega arith))

-- the place of the last code point, with the first one aside
last_place : (x : ℕ) (rest : List ℕ) → 0 < length rest → get_or (x ∷ rest) (length (x ∷ rest) - 1) 0 ≡ get_or rest (length rest - 1) 0
last_place x rest some =
    let e : length (x ∷ rest) - 1 ≡ suc (length rest - 1) = omega arith in
    ap (λ i. get_or (x ∷ rest) i 0) e

spelt : (x : ℕ) (rest : List ℕ) → is_name (x ∷ rest) ≡ true → IsName (x ∷ rest)
spelt x rest h =
    let key : List ℕ = x ∷ rest in
    let p = both _ _ h in
    let q = both _ _ p.0 in
    let r = both _ _ q.0 in
    let s = both _ _ r.0 in
    let first : x ≡ 38 = same_from x 38 r.1 in
    let long : 2 ≤ length key = within_from 2 (length key) s.0 in
    let some : 0 < length (letters_of key) = below_from 0 (length (letters_of key)) q.1 in
    ⊎_elim
    (λ (semicolon : (slice_index key (length key - 1) == 59) ≡ true).
    let is : letters_of key ≡ take (length key - 2) rest = cond-true _ _ _ semicolon in
    let m : length rest ≡ (length key - 2) + 1 = omega arith in
    let last : get_or rest (length key - 2) 0 ≡ 59 =
    ap (λ i. get_or rest i 0) (let e : length key - 2 ≡ length rest - 1 = omega arith in e) ∙ sym (last_place x rest (omega arith)) ∙ same_from _ 59 semicolon in
    let split : rest ≡ letters_of key ++ drop (length key - 2) rest = sym (take-append-drop (length key - 2) rest) ∙ ap (λ t. t ++ drop (length key - 2) rest) (sym is) in
    let name : IsName key = record {
      letters = letters_of key;
      ending = drop (length key - 2) rest;
      is = ap (λ c. c ∷ rest) first ∙ ap (λ t. 38 ∷ t) split;
      some = some;
      alphanumeric = p.1;
      ended = inr (last_alone rest (length key - 2) m ∙ ap (λ c. c ∷ []) last);
    } in name)
    (λ (plain : (slice_index key (length key - 1) == 59) ≡ false).
    let is : letters_of key ≡ rest = cond-false _ _ _ plain in
    let name : IsName key = record {
      letters = letters_of key;
      ending = [];
      is = ap (λ c. c ∷ rest) first ∙ ap (λ t. 38 ∷ t) (sym (ap (λ t. t ++ []) is ∙ append-nil rest));
      some = some;
      alphanumeric = p.1;
      ended = inl refl;
    } in name)
    (bool_cases (slice_index key (length key - 1) == 59))

pub is_name-IsName : (key : List ℕ) → is_name key ≡ true → IsName key
is_name-IsName [] h = absurd (cc)
is_name-IsName (x ∷ rest) h = spelt x rest h
