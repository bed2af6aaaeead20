-- Lists in which no node stands twice, and parts of them.
use Rattle.std.proofs.Common.{◌≡◌, ℕ, zero, suc, ◌+◌, ◌≤◌, Bool, true, false, cond, eqb, List, [], ◌∷◌, ◌++◌, take, Option, Some, None, inl, inr, refl, sym, ◌∙◌, ap, subst, append_assoc, append-nil, arith}
use Rattle.std.proofs.lemmas.Bool.{false≢true}
use Rattle.std.specs.List.{list_any, range_with_len}
use Rattle.html_arena.specs.Siblings.{Distinct, first_of, has, is_in}
use Rattle.html_open.specs.Lists.{above, below, up_to, without_last}
use Rattle.html_open.proofs.Keeps.{cases_bool, cases_eqb, eqb-self, has-append}
use Rattle.html_open.proofs.Ordering.{has-either, has-head}
use Rattle.html_tree.specs.Closing.{before_index, first_few, remaining}
use Rattle.html_laws.specs.Outcomes.{AreBelow, AreOnce}

-- Elements of a list in its order: each once, where those of the list stand once.
pub record IsPart (ys xs : List ℕ) : Type 0 where
  pub there : (x : ℕ) → has x ys ≡ true → has x xs ≡ true
  pub once : Distinct xs → Distinct ys

pub part-self : (xs : List ℕ) → IsPart xs xs
part-self xs = record { there = λ x h. h; once = λ d. d }

part-none : (xs : List ℕ) → IsPart [] xs
part-none xs = record { there = λ x h. absurd (false≢true h); once = λ d. tt }

part-tail : (x : ℕ) (ys xs : List ℕ) → IsPart ys xs → IsPart ys (x ∷ xs)
part-tail x ys xs k = record { there = λ y h. elim (cases_eqb y x) [ inl e ↦ rw e.0 refl | inr e ↦ rw e.0 (k.there y h) ]; once = λ d. k.once d.1 }

part-head : (x : ℕ) (ys xs : List ℕ) → IsPart ys xs → IsPart (x ∷ ys) (x ∷ xs)
part-head x ys xs k = record {
  there = λ y h. elim (has-head y x ys h) [ inl e ↦ rw (ap (λ v. eqb y v) (sym e) ∙ eqb-self y) refl | inr e ↦ (part-tail x ys xs k).there y e ];
  once = λ d. (elim (cases_bool (has x ys)) [ inl e ↦ absurd (false≢true (sym d.0 ∙ k.there x e)) | inr e ↦ e ], k.once d.1);
}

pub part-then : (zs ys xs : List ℕ) → IsPart zs ys → IsPart ys xs → IsPart zs xs
part-then zs ys xs k m = record { there = λ x h. m.there x (k.there x h); once = λ d. k.once (m.once d) }

pub part-cond : (b : Bool) (ys zs xs : List ℕ) → IsPart ys xs → IsPart zs xs → IsPart (cond b ys zs) xs
part-cond true ys zs xs k m = k
part-cond false ys zs xs k m = m

pub part-take : (n : ℕ) (xs : List ℕ) → IsPart (take n xs) xs
part-take zero xs = part-none xs
part-take (suc n) [] = part-self []
part-take (suc n) (x ∷ xs) = part-head x (take n xs) xs (part-take n xs)

module _ (p : ℕ → Bool) where
  pub part-below : (xs : List ℕ) → IsPart (below p xs) xs
  part-below [] = part-self []
  part-below (x ∷ xs) = part-cond (list_any p xs) (x ∷ below p xs) [] (x ∷ xs) (part-head x (below p xs) xs (part-below xs)) (part-none (x ∷ xs))

  pub part-up_to : (xs : List ℕ) → IsPart (up_to p xs) xs
  part-up_to [] = part-self []
  part-up_to (x ∷ xs) =
      part-cond (list_any p xs) (x ∷ up_to p xs) (cond (p x) (x ∷ []) []) (x ∷ xs) (part-head x (up_to p xs) xs (part-up_to xs))
      (part-cond (p x) (x ∷ []) [] (x ∷ xs) (part-head x [] xs (part-none xs)) (part-none (x ∷ xs)))

  parts : (b : Bool) (x : ℕ) (ls us xs : List ℕ) → IsPart (ls ++ us) xs → IsPart (cond b (x ∷ ls) [] ++ cond b us (cond (p x) xs (x ∷ xs))) (x ∷ xs)
  parts true x ls us xs k = part-head x (ls ++ us) xs k
  parts false x ls us xs k = part-cond (p x) xs (x ∷ xs) (x ∷ xs) (part-tail x xs xs (part-self xs)) (part-self (x ∷ xs))

  pub part-both : (xs : List ℕ) → IsPart (below p xs ++ above p xs) xs
  part-both [] = part-self []
  part-both (x ∷ xs) = parts (list_any p xs) x (below p xs) (above p xs) xs (part-both xs)

  pub part-without_last : (xs : List ℕ) → IsPart (without_last p xs) xs
  part-without_last xs = part-cond (list_any p xs) (below p xs ++ above p xs) xs xs (part-both xs) (part-self xs)

pub part-few : (n : ℕ) (xs : List ℕ) → IsPart (first_few n xs) xs
part-few n xs = part-take _ xs

pub part-before : (o : Option ℕ) (xs : List ℕ) → IsPart (before_index o xs) xs
part-before None xs = part-self xs
part-before (Some i) xs = part-few i xs

pub part-remaining : (x : ℕ) (xs : List ℕ) → IsPart (remaining x xs) xs
part-remaining x xs = part-cond (is_in x (first_of xs)) xs (without_last (eqb x) xs) xs (part-self xs) (part-without_last (eqb x) xs)

-- one more, that stands not there
pub once-pushed : (c : ℕ) (xs : List ℕ) → Distinct xs → has c xs ≡ false → Distinct (xs ++ c ∷ [])
once-pushed c [] d h = (refl, tt)
once-pushed c (x ∷ xs) d h = elim (cases_eqb c x) [
  | inl e ↦ absurd (false≢true (sym h ∙ rw e.0 refl))
  | inr e ↦ (has-append x xs (c ∷ []) ∙ rw d.0 (elim (cases_eqb x c) [ inl f ↦ absurd (e.1 (sym f.1)) | inr f ↦ rw f.0 refl ]), once-pushed c xs d.1 (rw e.0 at h))
]

pub not-below : (n : ℕ) (xs : List ℕ) → AreBelow n xs → has n xs ≡ false
not-below n xs k = elim (cases_bool (has n xs)) [ inl e ↦ absurd (let l = k n e in omega arith) | inr e ↦ e ]

pub below-pushed : (n : ℕ) (xs : List ℕ) → AreBelow n xs → AreBelow (n + 1) (xs ++ n ∷ [])
below-pushed n xs k = λ x h. elim (has-either x xs (n ∷ []) h) [
  | inl e ↦ let l = k x e in omega arith
  | inr e ↦ elim (has-head x n [] e) [ inl q ↦ omega (arith, q) | inr q ↦ absurd (false≢true q) ]
]

pub once-part : (n m : ℕ) (ys xs : List ℕ) → n ≤ m → IsPart ys xs → AreOnce n xs → AreOnce m ys
once-part n m ys xs l k o = record { once = k.once o.once; in_tree = λ x h. let j = o.in_tree x (k.there x h) in omega arith }

pub once-more : (n : ℕ) (xs : List ℕ) → AreOnce n xs → AreOnce (n + 1) (xs ++ n ∷ [])
once-more n xs o = record { once = once-pushed n xs o.once (not-below n xs o.in_tree); in_tree = below-pushed n xs o.in_tree }

pub once-range : (n k : ℕ) (xs : List ℕ) → AreOnce n xs → AreOnce (n + k) (xs ++ range_with_len n k)
once-range n zero xs o = subst (λ v. AreOnce v (xs ++ [])) (let e : n ≡ n + 0 = omega arith in e) (subst (AreOnce n) (sym (append-nil xs)) o)
once-range n (suc k) xs o =
    subst (λ v. AreOnce v (xs ++ n ∷ range_with_len (n + 1) k)) (let e : (n + 1) + k ≡ n + suc k = omega arith in e)
    (subst (AreOnce ((n + 1) + k)) (append_assoc xs (n ∷ []) (range_with_len (n + 1) k)) (once-range (n + 1) k (xs ++ n ∷ []) (once-more n xs o)))
