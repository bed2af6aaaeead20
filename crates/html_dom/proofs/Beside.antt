-- A list of children, from each to the one after it.
use Rattle.std.proofs.Common.{◌≡◌, ℕ, zero, suc, ◌≤◌, true, List, [], ◌∷◌, ◌++◌, length, refl, sym, ◌∙◌, ap, subst, arith, append_assoc}
use Rattle.html_arena.specs.Siblings.{Distinct, after, first_of, has}
use Rattle.html_arena.specs.Tree.{Tree, WellFormed, children_of, parent_of, sibling}
use Rattle.html_arena.proofs.Siblings.{Distinct-remove, after-here, cases_bool, eqb-self, has-append}
use Rattle.html_arena.proofs.Kids.{length-le_below}
use Rattle.std.proofs.Common.{inl, inr}
use Rattle.html_dom.specs.Reads.{siblings_within}

module _ (t : Tree) (w : WellFormed t) (q : ℕ) where
  siblings-rest : (n : ℕ) (done xs : List ℕ) → children_of t q ≡ done ++ xs → length xs ≤ n → siblings_within n t (first_of xs) ≡ xs
  siblings-rest zero done [] e l = refl
  siblings-rest zero done (x ∷ xs) e l = absurd (omega arith)
  siblings-rest (suc n) done [] e l = refl
  siblings-rest (suc n) done (x ∷ xs) e l =
      let here : has x (children_of t q) ≡ true = ap (has x) e ∙ has-append x done (x ∷ xs) ∙ elim (cases_bool (has x done)) [ inl v ↦ rw v refl | inr v ↦ rw (v, eqb-self x) refl ] in
      let up = w.child_has_parent q x here in
      let d : Distinct (done ++ x ∷ xs) = subst Distinct e (w.once q) in
      let r = Distinct-remove x done xs d in
      let next : sibling after (parent_of t x) t x ≡ first_of xs = ap (λ o. sibling after o t x) up ∙ ap (after x) e ∙ after-here x done xs r.1 in
      ap (λ ys. x ∷ ys) (ap (siblings_within n t) next ∙ siblings-rest n (done ++ x ∷ []) xs (e ∙ sym (append_assoc done (x ∷ []) xs)) (omega arith))

  pub siblings-all : siblings_within (length t.labels) t (first_of (children_of t q)) ≡ children_of t q
  siblings-all = siblings-rest (length t.labels) [] (children_of t q) refl (length-le_below (children_of t q) (length t.labels) (w.once q) (λ x h. w.child_in q x h))
