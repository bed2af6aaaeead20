-- Searches down the stack.
use Rattle.std.proofs.Common.{◌≡◌, ℕ, zero, suc, Bool, true, false, ◌||◌, List, [], ◌∷◌, length, get_or, Some, None, inl, inr, refl, sym, ◌∙◌, ap}
use Rattle.std.specs.List.{list_any}
use Rattle.html_open.specs.Lists.{below, last_index}
use Rattle.html_open.proofs.Keeps.{cases_bool}
use Rattle.html_open.proofs.Lists.{in_scope-at}
use Rattle.html_tree.specs.Searching.{index_before}

or-true : (b : Bool) → (b || true) ≡ true
or-true true = refl
or-true false = refl

module _ (p e : ℕ → Bool) where
  any-both : (xs : List ℕ) → list_any (λ x. p x || e x) xs ≡ false → list_any p xs ≡ false
  any-both [] h = refl
  any-both (x ∷ xs) h = elim (cases_bool (p x)) [
    | inl a ↦ absurd (let k = rw a at h in cc)
    | inr a ↦ elim (cases_bool (e x)) [
      | inl b ↦ absurd (let k = rw (a, b) at h in cc)
      | inr b ↦ (let k : list_any (λ x. p x || e x) xs ≡ false = rw (a, b) at h in rw a (any-both xs k))
    ]
  ]

  any-of : (xs : List ℕ) (i : ℕ) → last_index p xs ≡ Some i → (list_any p xs ≡ true) × (length (below p xs) ≡ i)
  any-of xs i h = elim (cases_bool (list_any p xs)) [
    | inl a ↦ (a, let k : Some (length (below p xs)) ≡ Some i = rw a at h in cc)
    | inr a ↦ absurd (let k : None ≡ Some i = rw a at h in cc)
  ]

  after-some : (x : ℕ) (xs : List ℕ) (i j : ℕ) → j ≡ i → last_index p xs ≡ Some j → last_index p (x ∷ xs) ≡ Some (suc i)
  after-some x xs i j k r = (let w = any-of xs j r in rw (w.0, or-true (p x)) (ap Some (ap suc (w.1 ∙ k))))

  -- where a search for what passes or ends it stops at what passes, that is the last that passes
  pub last-passes : (xs : List ℕ) (i : ℕ) → last_index (λ x. p x || e x) xs ≡ Some i → p (get_or xs i 0) ≡ true → last_index p xs ≡ Some i
  last-passes [] i h q = absurd (let k = h in cc)
  last-passes (x ∷ xs) zero h q = elim (cases_bool (list_any (λ x. p x || e x) xs)) [
    | inl a ↦ absurd (let k : Some (suc (length (below (λ x. p x || e x) xs))) ≡ Some 0 = rw (a, or-true (p x || e x)) at h in cc)
    | inr a ↦ (let n = any-both xs a in let q' : p x ≡ true = q in rw (n, q') refl)
  ]
  last-passes (x ∷ xs) (suc i) h q = elim (cases_bool (list_any (λ x. p x || e x) xs)) [
    | inl a ↦ (let k : length (below (λ x. p x || e x) xs) ≡ i = (let z : Some (suc (length (below (λ x. p x || e x) xs))) ≡ Some (suc i) = rw (a, or-true (p x || e x)) at h in cc) in
        after-some x xs i i refl (last-passes xs i (rw a (ap Some k)) q))
    | inr a ↦ absurd (elim (cases_bool (p x || e x)) [ inl b ↦ (let k : Some 0 ≡ Some (suc i) = rw (a, b) at h in cc) | inr b ↦ (let k : None ≡ Some (suc i) = rw (a, b) at h in cc) ])
  ]

  pub before-none : (xs : List ℕ) → None ≡ last_index (λ x. p x || e x) xs → None ≡ index_before p e xs
  before-none xs h = rw (in_scope-at p e xs None h) refl

  pub before-some : (xs : List ℕ) (i : ℕ) → Some i ≡ last_index (λ x. p x || e x) xs → p (get_or xs i 0) ≡ true → Some i ≡ index_before p e xs
  before-some xs i h q = rw (in_scope-at p e xs (Some i) h, q) (sym (last-passes xs i (sym h) q))

  pub before-other : (xs : List ℕ) (i : ℕ) → Some i ≡ last_index (λ x. p x || e x) xs → p (get_or xs i 0) ≡ false → None ≡ index_before p e xs
  before-other xs i h q = rw (in_scope-at p e xs (Some i) h, q) refl
