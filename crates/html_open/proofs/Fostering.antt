-- The place for a node, by indices of the stack.
use Rattle.std.proofs.Common.{◌≡◌, ℕ, zero, suc, ◌+◌, ◌-◌, ◌<◌, ◌≤◌, Bool, true, false, eqb, List, [], ◌∷◌, ◌++◌, length, take, drop, get_or, Option, Some, None, inl, inr, refl, sym, ◌∙◌, ap, subst, arith}
use Rattle.std.proofs.lemmas.List.{take_more, take_all, length-drop}
use Rattle.std.specs.List.{list_any}
use Rattle.html_arena.specs.Siblings.{has, last_of, or_else}
use Rattle.html_arena.specs.Tree.{Tree, parent_of}
use Rattle.html_open.specs.declared.places.Place.TheVariants.{Last, Before}
use Rattle.html_open.specs.Lists.{above, after_index, below, last_index, last_where, looked}
use Rattle.html_open.specs.Opened.{AreNodes}
use Rattle.html_open.specs.Placing.{CanPlace, by_table, fostered, fosters, get, inside, outside_table, place_of, place_steps, table, target_of, template}
use Rattle.html_open.proofs.Keeps.{cases_bool}
use Rattle.html_open.proofs.Lists.{after-above, below-at, has-at, last_index-any, last_where-at, not_any}

pub in-at : (t : Tree) (s : List ℕ) (k x d : ℕ) → AreNodes t s → k < length s → x ≡ get_or s k d → x < length t.labels
in-at t s k x d h l e = h x (subst (λ (y : ℕ). has y s ≡ true) (sym e) (has-at s k d l))

-- the last element by its index
pub last_of-at : (s : List ℕ) (d : ℕ) → 0 < length s → last_of s ≡ Some (get_or s (length s - 1) d)
last_of-at [] d l = absurd (omega arith)
last_of-at (x ∷ []) d l = refl
last_of-at (x ∷ y ∷ ys) d l =
    let ih = last_of-at (y ∷ ys) d (omega arith) in
    let k : length (x ∷ y ∷ ys) - 1 ≡ suc (length (y ∷ ys) - 1) = omega arith in
    ap (λ o. or_else o (Some x)) ih ∙ ap (λ n. Some (get_or (x ∷ y ∷ ys) n d)) (sym k)

last_of-push : (xs : List ℕ) (x : ℕ) → last_of (xs ++ x ∷ []) ≡ Some x
last_of-push [] x = refl
last_of-push (y ∷ xs) x = ap (λ o. or_else o (Some y)) (last_of-push xs x)

last_of-take : (s : List ℕ) (i d : ℕ) → 0 < i → i ≤ length s → last_of (take i s) ≡ Some (get_or s (i - 1) d)
last_of-take s i d p l =
    let m : i - 1 < length s = omega arith in
    let k : (i - 1) + 1 ≡ i = omega arith in
    ap (λ n. last_of (take n s)) (sym k) ∙ ap last_of (take_more s (i - 1) d m) ∙ last_of-push (take (i - 1) s) (get_or s (i - 1) d)

pub can-some : (t : Tree) (s : List ℕ) → CanPlace t s → 0 < length s
can-some t [] c = absurd c
can-some t (x ∷ s) c = omega arith

last_where-passes : {X : Type 0} (p : X → Bool) (xs : List X) (y : X) → last_where p xs ≡ Some y → p y ≡ true
last_where-passes p [] y h = absurd (let k = h in cc)
last_where-passes p (x ∷ xs) y h = elim (cases_bool (list_any p xs)) [
  | inl e ↦ last_where-passes p xs y (rw e at h)
  | inr e ↦ elim (cases_bool (p x)) [
    | inl f ↦ (let q : x ≡ y = (let k = rw (e, f) at h in cc) in subst (λ v. p v ≡ true) q f)
    | inr f ↦ absurd (let k = rw (e, f) at h in cc)
  ]
]

module _ (t : Tree) (s : List ℕ) where
  pub outside-before : (i b d p : ℕ) → last_index (table t) s ≡ Some i → b ≡ get_or s i d → parent_of t b ≡ Some p
      → Before b ≡ outside_table t s (last_where (table t) s)
  outside-before i b d p h e q =
      sym (ap (outside_table t s) (last_where-at (table t) s i d h ∙ ap Some (sym e)) ∙ ap (by_table t (below (table t) s) b) q)

  pub index-positive : (i b d : ℕ) → CanPlace t s → last_index (table t) s ≡ Some i → b ≡ get_or s i d → parent_of t b ≡ None → 0 < i
  index-positive (suc i) b d c h e q = omega arith
  index-positive zero b d c h e q = absurd (first s c (last_where-passes (table t) s (get_or s 0 d) (last_where-at (table t) s 0 d h)) e)
    where
      first : (s : List ℕ) → CanPlace t s → table t (get_or s 0 d) ≡ true → b ≡ get_or s 0 d → ⊥
      first [] c k e = c
      first (x ∷ xs) c k e = c k (ap (parent_of t) (sym e) ∙ q)

  pub outside-last : (i b d c e : ℕ) → 0 < i → i ≤ length s → last_index (table t) s ≡ Some i → b ≡ get_or s i d → parent_of t b ≡ None → c ≡ get_or s (i - 1) e
      → Last (inside t c) ≡ outside_table t s (last_where (table t) s)
  outside-last i b d c e pos le h f q g =
      let o : last_of (below (table t) s) ≡ Some c = ap last_of (below-at (table t) s i h) ∙ last_of-take s i e pos le ∙ ap Some (sym g) in
      sym (ap (outside_table t s) (last_where-at (table t) s i d h ∙ ap Some (sym f)) ∙ ap (by_table t (below (table t) s) b) q ∙ ap (λ v. Last (inside t (get v b))) o)

  pub later-is : (o : Option ℕ) (k : ℕ) → k ≡ after_index o → o ≡ last_index (table t) s → take (length s - k) (drop k s) ≡ above (table t) s
  later-is o k e h = take_all (length s - k) (drop k s) (let n = length-drop k s in omega arith) ∙ ap (λ n. drop n s) e ∙ after-above (table t) s o h

  pub above-has : (p : ℕ → Bool) (xs : List ℕ) (x : ℕ) → has x (above p xs) ≡ true → has x xs ≡ true
  above-has p [] x h = h
  above-has p (y ∷ ys) x h = elim (cases_bool (list_any p ys)) [
    | inl a ↦ tail (above-has p ys x (rw a at h))
    | inr a ↦ elim (cases_bool (p y)) [
      | inl b ↦ tail (rw (a, b) at h)
      | inr b ↦ rw (a, b) at h
    ]
  ]
    where
      tail : has x ys ≡ true → has x (y ∷ ys) ≡ true
      tail k = elim (cases_bool (eqb x y)) [ inl e ↦ rw e refl | inr e ↦ rw e k ]

  pub later-nodes : (xs : List ℕ) → xs ≡ above (table t) s → AreNodes t s → AreNodes t xs
  later-nodes xs e h x k = h x (above-has (table t) s x (subst (λ (v : List ℕ). has x v ≡ true) e k))

  pub fostered-template : (xs : List ℕ) (i x d : ℕ) → xs ≡ above (table t) s → last_index (template t) xs ≡ Some i → x ≡ get_or xs i d → Last (inside t x) ≡ fostered t s
  fostered-template xs i x d e h f =
      let a : list_any (template t) (above (table t) s) ≡ true = ap (list_any (template t)) (sym e) ∙ (last_index-any (template t) xs i h).0 in
      let w : last_where (template t) (above (table t) s) ≡ Some x = ap (last_where (template t)) (sym e) ∙ last_where-at (template t) xs i d h ∙ ap Some (sym f) in
      rw (a, w) refl

  pub fostered-outside : (xs : List ℕ) → xs ≡ above (table t) s → last_index (template t) xs ≡ None → outside_table t s (last_where (table t) s) ≡ fostered t s
  fostered-outside xs e h =
      let a : list_any (template t) (above (table t) s) ≡ false = ap (list_any (template t)) (sym e) ∙ not_any (template t) xs h in
      rw a refl

  pub place-fostered : (o : Option ℕ) (g : ℕ) (f b : Bool) → g ≡ target_of s o → b ≡ fosters t g f → b ≡ true → fostered t s ≡ place_of t s o f
  place-fostered o g f b e h k =
      let a : fosters t (target_of s o) f ≡ true = ap (λ v. fosters t v f) (sym e) ∙ sym h ∙ k in
      rw a refl

  pub place-inside : (o : Option ℕ) (g : ℕ) (f b : Bool) → g ≡ target_of s o → b ≡ fosters t g f → b ≡ false → Last (inside t g) ≡ place_of t s o f
  place-inside o g f b e h k =
      let a : fosters t (target_of s o) f ≡ false = ap (λ v. fosters t v f) (sym e) ∙ sym h ∙ k in
      rw a (ap (λ v. Last (inside t v)) e)

  pub steps-fostered : (o : Option ℕ) (g : ℕ) (f b : Bool) → g ≡ target_of s o → b ≡ fosters t g f → b ≡ true → 1 + looked (table t) s ≡ place_steps t s o f
  steps-fostered o g f b e h k =
      let a : fosters t (target_of s o) f ≡ true = ap (λ v. fosters t v f) (sym e) ∙ sym h ∙ k in
      rw a refl

  pub steps-inside : (o : Option ℕ) (g : ℕ) (f b : Bool) → g ≡ target_of s o → b ≡ fosters t g f → b ≡ false → 1 ≡ place_steps t s o f
  steps-inside o g f b e h k =
      let a : fosters t (target_of s o) f ≡ false = ap (λ v. fosters t v f) (sym e) ∙ sym h ∙ k in
      rw a refl
