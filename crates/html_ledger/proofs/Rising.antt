-- Rising numbers: one more, how many, and which are among them.
use Rattle.std.proofs.Common.{ℕ, inl, inr, refl, ◌+◌, ◌≤◌, ◌<◌, ◌≡◌, ◌==◌, ◌||◌, true, false, List, [], ◌∷◌, ◌++◌, length, ap, ◌∙◌, arith}
use Rattle.std.proofs.Math.Bool.{or-false, or-true}
use Rattle.std.proofs.lemmas.Bool.{false≢true, cases_Bool, eqb-true, eq-eqb, false_from_ne_true}
use Rattle.std.proofs.lemmas.List.Folds.{list_any-append}
use Rattle.html_ledger.specs.Errors.{AreBetween, has_number}

pub rising-push : (low : ℕ) (es : List ℕ) (n : ℕ) → AreBetween low es n → AreBetween low (es ++ n ∷ []) (n + 1)
rising-push low [] n a = let e : n + 1 ≤ n + 1 = omega arith in (a, e)
rising-push low (e ∷ es) n a = (a.0, rising-push (e + 1) es n a.1)

pub rising-count : (low : ℕ) (es : List ℕ) (n : ℕ) → AreBetween low es n → low + length es ≤ n
rising-count low [] n a = let z : low + length (let l : List ℕ = [] in l) ≡ low = omega arith in omega arith
rising-count low (e ∷ es) n a = let w : e + 1 + length es ≤ n = rising-count (e + 1) es n a.1 in let l : low ≤ e = a.0 in omega arith

pub rising-more : (low : ℕ) (es : List ℕ) (n m : ℕ) → n ≤ m → AreBetween low es n → AreBetween low es m
rising-more low [] n m h a = omega arith
rising-more low (e ∷ es) n m h a = (a.0, rising-more (e + 1) es n m h a.1)

-- each of them is below n
pub rising-below : (low : ℕ) (es : List ℕ) (n i : ℕ) → AreBetween low es n → has_number i es ≡ true → i < n
rising-below low [] n i a h = absurd (false≢true h)
rising-below low (e ∷ es) n i a h =
    elim (cases_Bool (e == i)) [
      | inl y ↦ let same : e ≡ i = eqb-true e i y in let w : e + 1 + length es ≤ n = rising-count (e + 1) es n a.1 in omega arith
      | inr z ↦ rising-below (e + 1) es n i a.1 (rw z at h)
    ]

has-push : (es : List ℕ) (n i : ℕ) → has_number i (es ++ n ∷ []) ≡ (has_number i es || (n == i))
has-push es n i = list_any-append (λ e. e == i) es (n ∷ []) ∙ ap (λ b. has_number i es || b) (or-false (n == i))

-- a further number is among them, and no other one is added
pub has-last : (es : List ℕ) (n : ℕ) → has_number n (es ++ n ∷ []) ≡ true
has-last es n = has-push es n n ∙ ap (λ b. has_number n es || b) (eq-eqb n n refl) ∙ or-true (has_number n es)

pub has-other : (es : List ℕ) (n i : ℕ) → i < n → has_number i (es ++ n ∷ []) ≡ has_number i es
has-other es n i h =
    let no : (n == i) ≡ false = false_from_ne_true (n == i) (λ y. let same : n ≡ i = eqb-true n i y in omega arith) in
    has-push es n i ∙ ap (λ b. has_number i es || b) no ∙ or-false (has_number i es)
