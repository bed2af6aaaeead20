-- What a place for the current node leaves alone: an element off the stack that holds no element.
use Rattle.std.proofs.Common.{◌≡◌, ◌≢◌, ℕ, zero, suc, ◌<◌, Bool, true, false, List, [], ◌∷◌, length, Option, Some, None, ◌⊎◌, inl, inr, refl, sym, ◌∙◌, subst, arith}
use Rattle.std.specs.List.{list_any}
use Rattle.html_arena.specs.declared.data.NodeData.{NodeData}
use Rattle.html_arena.specs.declared.data.NodeData.TheVariants.{Document, Contents, Element, Text, Comment, Doctype}
use Rattle.html_arena.specs.Data.{IsElement, host_in, label_in}
use Rattle.html_arena.specs.Siblings.{has, last_of, first_of, or_else}
use Rattle.html_arena.specs.Tree.{Tree, WellFormed, contents_at, host_at, label_of, parent_of}
use Rattle.html_open.specs.declared.places.Place.{Place}
use Rattle.html_open.specs.declared.places.Place.TheVariants.{Last, Before}
use Rattle.html_open.specs.Lists.{above, below, last_where}
use Rattle.html_open.specs.Placing.{CanPlace, by_table, fostered, fosters, get, inside, outside_table, parent_at, place_at, place_of, table, target_of, template}
use Rattle.html_open.specs.Reopening.{HoldsNoElement}
use Rattle.html_open.proofs.Fostering.{above-has}
use Rattle.html_open.proofs.Keeps.{cases_bool, cases_eqb, eqb-self}

has-more : (x y : ℕ) (ys : List ℕ) → has x ys ≡ true → has x (y ∷ ys) ≡ true
has-more x y ys h = elim (cases_eqb x y) [ inl e ↦ rw e.0 refl | inr e ↦ rw e.0 h ]

last-in : (xs : List ℕ) (y : ℕ) → last_of xs ≡ Some y → has y xs ≡ true
last-in [] y h = absurd (let k = h in cc)
last-in (x ∷ xs) y h = by (last_of xs) (last-in xs y) h
  where
    by : (o : Option ℕ) → (o ≡ Some y → has y xs ≡ true) → or_else o (Some x) ≡ Some y → has y (x ∷ xs) ≡ true
    by None k e = (let q : x ≡ y = (let k = e in cc) in subst (λ v. has v (x ∷ xs) ≡ true) q (rw (eqb-self x) refl))
    by (Some z) k e = has-more y x xs (k e)

below-has : (p : ℕ → Bool) (xs : List ℕ) (x : ℕ) → has x (below p xs) ≡ true → has x xs ≡ true
below-has p [] x h = h
below-has p (y ∷ ys) x h = elim (cases_bool (list_any p ys)) [
  | inl a ↦ elim (cases_eqb x y) [
    | inl e ↦ rw e.0 refl
    | inr e ↦ rw e.0 (below-has p ys x (rw (a, e.0) at h))
  ]
  | inr a ↦ absurd (let k = rw a at h in cc)
]

last_where-in : (p : ℕ → Bool) (xs : List ℕ) (y : ℕ) → last_where p xs ≡ Some y → has y xs ≡ true
last_where-in p [] y h = absurd (let k = h in cc)
last_where-in p (x ∷ xs) y h = elim (cases_bool (list_any p xs)) [
  | inl a ↦ has-more y x xs (last_where-in p xs y (rw a at h))
  | inr a ↦ elim (cases_bool (p x)) [
    | inl b ↦ (let q : x ≡ y = (let k = rw (a, b) at h in cc) in subst (λ v. has v (x ∷ xs) ≡ true) q (rw (eqb-self x) refl))
    | inr b ↦ absurd (let k = rw (a, b) at h in cc)
  ]
]

any-last : (p : ℕ → Bool) (xs : List ℕ) → list_any p xs ≡ true → (y : ℕ) × (last_where p xs ≡ Some y)
any-last p [] h = absurd cc
any-last p (x ∷ xs) h = elim (cases_bool (list_any p xs)) [
  | inl a ↦ (let r = any-last p xs a in (r.0, rw a r.1))
  | inr a ↦ elim (cases_bool (p x)) [
    | inl b ↦ (x, rw (a, b) refl)
    | inr b ↦ absurd (let g : list_any p (x ∷ xs) ≡ false = rw (b, a) refl in cc)
  ]
]

-- an element is a node
pub element-in : (t : Tree) (y : ℕ) → IsElement (label_of t y) → y < length t.labels
element-in t y h = within t.labels y h
  where
    within : (ds : List NodeData) (y : ℕ) → IsElement (label_in ds y) → y < length ds
    within [] y h = absurd h
    within (d ∷ ds) zero h = omega arith
    within (d ∷ ds) (suc y) h = let k = within ds y h in omega arith

-- a place is at an element of the stack, or last in the contents of one
abbrev pub IsByStack : Tree → List ℕ → Place → Type 0
IsByStack t s (Last p) = (has p s ≡ true) ⊎ ((h : ℕ) × (host_at t p ≡ Some h))
IsByStack t s (Before b) = has b s ≡ true

module _ (t : Tree) (s : List ℕ) (w : WellFormed t) where
  inside-by : (x : ℕ) → has x s ≡ true → IsByStack t s (Last (inside t x))
  inside-by x h = by (contents_at t x) refl
    where
      by : (o : Option ℕ) → contents_at t x ≡ o → IsByStack t s (Last (get o x))
      by None e = inl h
      by (Some c) e = inr (x, (w.templates.contents_is x c e).1)

  last-by : (d : ℕ) → has d s ≡ true → (xs : List ℕ) → ((x : ℕ) → has x xs ≡ true → has x s ≡ true) → has (get (last_of xs) d) s ≡ true
  last-by d h xs n = by (last_of xs) refl
    where
      by : (o : Option ℕ) → last_of xs ≡ o → has (get o d) s ≡ true
      by None e = h
      by (Some y) e = n y (last-in xs y e)

  first-by : CanPlace t s → has (get (first_of s) 0) s ≡ true
  first-by c = by s c
    where
      by : (xs : List ℕ) → CanPlace t xs → has (get (first_of xs) 0) xs ≡ true
      by [] c = absurd c
      by (x ∷ xs) c = rw (eqb-self x) refl

  current-by : CanPlace t s → has (get (last_of s) 0) s ≡ true
  current-by c = by s c
    where
      some : (x : ℕ) (xs : List ℕ) (o : Option ℕ) → last_of xs ≡ o → has (get (or_else o (Some x)) 0) (x ∷ xs) ≡ true
      some x xs None e = rw (eqb-self x) refl
      some x xs (Some y) e = has-more y x xs (last-in xs y e)

      by : (xs : List ℕ) → CanPlace t xs → has (get (last_of xs) 0) xs ≡ true
      by [] c = absurd c
      by (x ∷ xs) c = some x xs (last_of xs) refl

  outside-by : CanPlace t s → IsByStack t s (outside_table t s (last_where (table t) s))
  outside-by c = by (last_where (table t) s) refl
    where
      table-by : (b : ℕ) → has b s ≡ true → (o : Option ℕ) → IsByStack t s (by_table t (below (table t) s) b o)
      table-by b h None = inside-by (get (last_of (below (table t) s)) b) (last-by b h (below (table t) s) (below-has (table t) s))
      table-by b h (Some p) = h

      by : (o : Option ℕ) → last_where (table t) s ≡ o → IsByStack t s (outside_table t s o)
      by None e = inl (first-by c)
      by (Some b) e = table-by b (last_where-in (table t) s b e) (parent_of t b)

  fostered-by : CanPlace t s → IsByStack t s (fostered t s)
  fostered-by c = elim (cases_bool (list_any (template t) (above (table t) s))) [
    | inl a ↦
        let r = any-last (template t) (above (table t) s) a in
        let i : has r.0 s ≡ true = above-has t s (table t) s r.0 (last_where-in (template t) (above (table t) s) r.0 r.1) in
        rw (a, r.1) (inside-by r.0 i)
    | inr a ↦ rw a (outside-by c)
  ]

  pub place-by : (f : Bool) → CanPlace t s → IsByStack t s (place_of t s None f)
  place-by f c = elim (cases_bool (fosters t (target_of s None) f)) [
    | inl a ↦ rw a (fostered-by c)
    | inr a ↦ rw a (inside-by (get (last_of s) 0) (current-by c))
  ]

  -- the same for any target on the stack
  pub place-at-by : (a : ℕ) → has a s ≡ true → (f : Bool) → CanPlace t s → IsByStack t s (place_at t s a f)
  place-at-by a h f c = elim (cases_bool (fosters t a f)) [
    | inl e ↦ rw e (fostered-by c)
    | inr e ↦ rw e (inside-by a h)
  ]

  no-host : (d : NodeData) (h : ℕ) → IsElement d → host_in d ≡ Some h → ⊥
  no-host (Element e) h i q = absurd (let k = q in cc)
  no-host Document h i q = i
  no-host (Contents k) h i q = i
  no-host (Text v) h i q = i
  no-host (Comment v k) h i q = i
  no-host (Doctype n p v k) h i q = i

  pub not-parent : (p : Place) (y : ℕ) → IsByStack t s p → ((x : ℕ) → has x s ≡ true → IsElement (label_of t x)) → IsElement (label_of t y) → has y s ≡ false → HoldsNoElement t y
      → parent_at t p ≢ Some y
  not-parent (Last q) y b els i off none e = elim b [
    | inl h ↦ (let r : q ≡ y = (let k = e in cc) in let g : has y s ≡ true = subst (λ v. has v s ≡ true) r h in absurd (let k = sym g ∙ off in cc))
    | inr h ↦ (let r : q ≡ y = (let k = e in cc) in no-host (label_of t y) h.0 i (subst (λ v. host_at t v ≡ Some h.0) r h.1))
  ]
  not-parent (Before c) y b els i off none e = none c (w.parent_has_child y c e) (els c b)
