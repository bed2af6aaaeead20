-- Parse errors in order of their places.
use Rattle.std.proofs.Common.{◌≡◌, ℕ, zero, suc, ◌-◌, ◌≤◌, ◌<◌, List, [], ◌∷◌, ◌++◌, length, take, drop, slice_index_or, true, false, nat_le, refl, arith, ap, sym, ◌∙◌}
use Rattle.std.proofs.lemmas.Bool.Decides.{nat_tests}
use Rattle.std.proofs.lemmas.List.{take-append-drop}
use Rattle.std.specs.List.{AllByRecursion, AllWithin}
use Rattle.html_tokens.specs.Errors.{with_told}
use Rattle.html_tokens.specs.Order.{IsAdded}
use Rattle.std.proofs.lemmas.List.{get_or_default}
use Rattle.std.specs.List.Sorted.{IsNonDecreasingBy}
use Rattle.html_tokens.specs.declared.faults.Fault.{Fault}

-- where the last of a front is at most so much, all of it is
pub front_below : (list : List Fault) (place at k : ℕ) (d e : Fault) → IsNonDecreasingBy (λ x. x.place) list → at ≤ length list → k < at
    → (slice_index_or list (at - 1) e).place ≤ place → (slice_index_or list k d).place ≤ place
front_below list place at k d e ordered fit less last =
    let up = ordered k (at - 1) e (omega (arith, less)) (omega (arith, fit, less)) in
    let same = ap (λ (x : Fault). x.place) (get_or_default list k d e (omega (arith, fit, less))) in
    omega (arith, up, last, same)

-- ONE MORE

within_front : {X : Type 0} (P : X → Type 0) (xs : List X) (at : ℕ) → at ≤ length xs → AllWithin P xs 0 at → AllByRecursion P (take at xs)
within_front P xs zero h a = tt
within_front P [] (suc n) h a = absurd (omega arith)
within_front P (x ∷ xs) (suc n) h a = (a 0 x (omega arith) (omega arith), within_front P xs n (omega arith) (λ k d l m. a (suc k) d (omega arith) (omega arith)))

within_back : {X : Type 0} (P : X → Type 0) (xs : List X) (at : ℕ) → AllWithin P xs at (length xs) → AllByRecursion P (drop at xs)
within_back P [] zero a = tt
within_back P [] (suc n) a = tt
within_back P (x ∷ xs) zero a = (a 0 x (omega arith) (omega arith), within_back P xs zero (λ k d l m. a (suc k) d (omega arith) (omega arith)))
within_back P (x ∷ xs) (suc n) a = within_back P xs n (λ k d l m. a (suc k) d (omega arith) (omega arith))

not_later : (a b : ℕ) → a ≤ b → nat_le a b ≡ true
not_later a b h = grind (arith, nat_tests)

later : (a b : ℕ) → b < a → nat_le a b ≡ false
later a b h = grind (arith, nat_tests)

told_between : (xs ys : List Fault) (f : Fault) → AllByRecursion (λ x. x.place ≤ f.place) xs → AllByRecursion (λ x. f.place < x.place) ys → with_told (xs ++ ys) f ≡ xs ++ f ∷ ys
unfolding with_told
told_between [] [] f a b = refl
told_between [] (y ∷ ys) f a b = rw (later y.place f.place b.0) refl
told_between (x ∷ xs) ys f a b = rw (not_later x.place f.place a.0) (ap (λ (l : List Fault). x ∷ l) (told_between xs ys f a.1 b))

pub told_added : (old new : List Fault) (f : Fault) → IsAdded old f new → new ≡ with_told old f
told_added old new f added =
    let front = take added.at old in
    let back = drop added.at old in
    added.is
    ∙ sym (told_between front back f (within_front _ old added.at added.fit added.before) (within_back _ old added.at added.after))
    ∙ ap (λ (l : List Fault). with_told l f) (take-append-drop added.at old)
