-- The five names that every page may use read as their characters, whatever follows them.
use Rattle.std.specs.Prelude.{nat_eq, nat_lt, slice_get, Some}
use Rattle.std.specs.Char.{is_ascii_alphanumeric}
use Rattle.std.specs.List.{starts_with, list_all}
use Rattle.std.proofs.lemmas.Bool.{true≢false}
use Rattle.std.proofs.lemmas.Bool.Decides.{nat_tests}
use Rattle.std.proofs.Common.{ℕ, ◌≡◌, ◌+◌, ◌<◌, ◌≤◌, ◌⊎◌, inl, inr, List, [], ◌∷◌, ◌++◌, length, true, false, refl, sym, ap, ◌∙◌, subst, arith, length-append, append-nil, ⊎_elim}
use Rattle.std.proofs.lemmas.Bool.{cases_lt}
use Rattle.html_charref.specs.declared.table.Row.{Row}
use Rattle.html_charref.specs.Entities.{one_character}
use Rattle.html_charref.specs.Table.{IsTable, IsName, goes_on, match_of, longest}
use Rattle.html_charref.proofs.LongestLemmas.{bool_cases, both, eq_of, begins-cases, begins-itself, longest-more, longest-is}
use Rattle.html_charref.proofs.Names.{not_below_front}
use Rattle.html_charref.proofs.Rows.{in_order}

no_letter : (x : ℕ) → x ≡ 59 → is_ascii_alphanumeric x ≡ true → ⊥
no_letter x e h = true≢false (sym h ∙ ap is_ascii_alphanumeric e)

-- letters do not go on past a semicolon
no_longer : (letters ending v : List ℕ) → list_all is_ascii_alphanumeric letters ≡ true → length ending ≤ 1 → starts_with nat_eq (letters ++ ending) (v ++ 59 ∷ []) ≡ true → length (letters ++ ending) ≤ length v + 1
no_longer [] ending v a e h = omega (arith, e)
no_longer (x ∷ letters) ending [] a e h =
    let p : (nat_eq 59 x ≡ true) × (starts_with nat_eq (letters ++ ending) [] ≡ true) = both _ _ h in
    let q : (is_ascii_alphanumeric x ≡ true) × (list_all is_ascii_alphanumeric letters ≡ true) = both _ _ a in
    let e : 59 ≡ x = eq_of 59 x p.0 in
    absurd (no_letter x (sym e) q.0)
no_longer (x ∷ letters) ending (y ∷ v) a e h =
    let p : (nat_eq y x ≡ true) × (starts_with nat_eq (letters ++ ending) (v ++ 59 ∷ []) ≡ true) = both _ _ h in
    let q : (is_ascii_alphanumeric x ≡ true) × (list_all is_ascii_alphanumeric letters ≡ true) = both _ _ a in
    omega (arith, no_longer letters ending v q.1 e p.1)

ending_short : (ending : List ℕ) → (ending ≡ []) ⊎ (ending ≡ 59 ∷ []) → length ending ≤ 1
ending_short ending (inl e) = omega (arith, ap length e)
ending_short ending (inr e) = omega (arith, ap length e)

name_short : (name v : List ℕ) → IsName name → starts_with nat_eq name (38 ∷ (v ++ 59 ∷ [])) ≡ true → length name ≤ length v + 2
name_short name v n h =
    let s : starts_with nat_eq (38 ∷ (n.letters ++ n.ending)) (38 ∷ (v ++ 59 ∷ [])) ≡ true = subst (λ (x : List ℕ). starts_with nat_eq x (38 ∷ (v ++ 59 ∷ [])) ≡ true) n.is h in
    let p : (nat_eq 38 38 ≡ true) × (starts_with nat_eq (n.letters ++ n.ending) (v ++ 59 ∷ []) ≡ true) = both _ _ s in
    omega (arith, ap length n.is, no_longer n.letters n.ending v n.alphanumeric (ending_short n.ending n.ended) p.1)

goes_not : (row : Row) (v : List ℕ) → IsName row.name → goes_on row (38 ∷ (v ++ 59 ∷ [])) ≡ false
goes_not row v n = ⊎_elim
    (λ (t : goes_on row (38 ∷ (v ++ 59 ∷ [])) ≡ true).
    let p : (nat_lt (length (38 ∷ (v ++ 59 ∷ []))) (length row.name) ≡ true) × (starts_with nat_eq row.name (38 ∷ (v ++ 59 ∷ [])) ≡ true) = both _ _ t in
    let test : nat_lt (length (38 ∷ (v ++ 59 ∷ []))) (length row.name) ≡ true = p.0 in
    let less : length (38 ∷ (v ++ 59 ∷ [])) < length row.name = grind (arith, nat_tests) in
    absurd (omega (arith, less, length-append v (59 ∷ []), name_short row.name v n p.1)))
    (λ (f : goes_on row (38 ∷ (v ++ 59 ∷ [])) ≡ false). f)
    (bool_cases (goes_on row (38 ∷ (v ++ 59 ∷ []))))

same_row : (rows : List Row) → IsTable rows → (i j : ℕ) (a b : Row) → slice_get rows i ≡ Some a → slice_get rows j ≡ Some b → a.name ≡ b.name → a ≡ b
same_row rows t i j a b p q e = ⊎_elim
    (λ (less : i < j). absurd (not_below_front b.name a.name (record { rest = []; is = e ∙ sym (append-nil b.name) }) (in_order rows t.sorted i j a b less p q)))
    (λ (other : j ≤ i). ⊎_elim
    (λ (less : j < i). absurd (not_below_front a.name b.name (record { rest = []; is = sym e ∙ sym (append-nil a.name) }) (in_order rows t.sorted j i b a less q p)))
    (λ (equal : i ≤ j). let k : i ≡ j = omega (arith, other, equal) in some_same (sym p ∙ ap (λ (n : ℕ). slice_get rows n) k ∙ q))
    (cases_lt j i))
    (cases_lt i j)
  where
    some_same : {A : Type 0} {x y : A} → Some x ≡ Some y → x ≡ y
    some_same h = cc

-- a row whose name ends with a semicolon is the longest wherever its name stands
pub core_longest : (rows : List Row) → IsTable rows → (j c : ℕ) (v rest : List ℕ) → slice_get rows j ≡ Some (one_character (38 ∷ (v ++ 59 ∷ [])) c) →
    longest rows ((38 ∷ (v ++ 59 ∷ [])) ++ rest) ≡ Some (length (38 ∷ (v ++ 59 ∷ [])), (one_character (38 ∷ (v ++ 59 ∷ [])) c).text)
core_longest rows t j c v rest at =
    let name : List ℕ = 38 ∷ (v ++ 59 ∷ []) in
    let row : Row = one_character name c in
    longest-more rows name rest (λ i r p. goes_not r v (t.spelt i r p))
    ∙ longest-is rows name (match_of row)
    (λ i r p b. ⊎_elim (λ (less : length r.name < length name). inl less) (λ (e : r.name ≡ name). inr (ap match_of (same_row rows t i j r row p at e))) (begins-cases r.name name b))
    j row at (begins-itself name) refl
