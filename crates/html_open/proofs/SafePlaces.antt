-- The place for what a round moves is above the elements from the formatting one on.
use Rattle.std.proofs.Common.{◌≡◌, ℕ, ◌<◌, Bool, true, false, eqb, ◌&&◌, not, List, [], ◌∷◌, ◌++◌, length, Option, Some, None, inl, inr, refl, sym, ◌∙◌, ap, subst, arith}
use Rattle.std.specs.List.{list_any}
use Rattle.html_names.specs.declared.tag.Tag.{Tag}
use Rattle.html_names.specs.declared.tag.Tag.TheVariants as tag
use Rattle.html_names.specs.declared.sets.Scope.TheVariants as scope
use Rattle.html_names.specs.Sets.{ends_scope, is_formatting}
use Rattle.html_names.specs.Tags.{is_same, number}
use Rattle.html_names.proofs.Numbers.{number_injective}
use Rattle.html_arena.specs.declared.data.NodeData.{NodeData}
use Rattle.html_arena.specs.declared.data.NodeData.TheVariants.{Document, Contents, Element, Text, Comment, Doctype}
use Rattle.html_arena.specs.Data.{IsElement, host_in}
use Rattle.html_arena.specs.Siblings.{has, Distinct, first_of, last_of}
use Rattle.html_arena.specs.Tree.{Tree, WellFormed, ancestors, contents_at, label_of, parent_of, tag_at}
use Rattle.html_arena.proofs.Laws.{ancestors-root}
use Rattle.html_arena.proofs.Siblings.{eqb-apart, has-last}
use Rattle.html_open.specs.declared.places.Place.{Place}
use Rattle.html_open.specs.declared.places.Place.TheVariants.{Last, Before}
use Rattle.html_open.specs.AdoptFinding.{element_in_scope}
use Rattle.html_open.specs.Lists.{above, below, last_where}
use Rattle.html_open.specs.Opened.{AreNodes, IsOrdered}
use Rattle.html_open.specs.Placing.{by_table, fostered, fosters, get, inside, outside_table, place_at, table, template, way_up}
use Rattle.html_open.specs.Scopes.{ends}
use Rattle.html_open.proofs.Keeps.{cases_bool, eqb-self, eqb-true}
use Rattle.html_open.proofs.Ordering.{distinct-cross, has-either, has-head, has-left, has-right, ordered-cross}
use Rattle.html_open.proofs.Upwards.{above-all, has-first, has-more}

pub same-tag : (g h : Tag) → is_same g h ≡ true → g ≡ h
same-tag g h e = number_injective g h (eqb-true (number g) (number h) e)

-- a table and a template end the scope, and are no formatting elements
table-ends : (t : Tree) (x : ℕ) → table t x ≡ true → ends t scope.Default x ≡ true
table-ends t x h = ap (ends_scope scope.Default) (same-tag (tag_at t x) tag.Table h)

template-ends : (t : Tree) (x : ℕ) → template t x ≡ true → ends t scope.Default x ≡ true
template-ends t x h = ap (ends_scope scope.Default) (same-tag (tag_at t x) tag.Template h)

no-table : (t : Tree) (x : ℕ) → is_formatting (tag_at t x) ≡ true → table t x ≡ true → ⊥
no-table t x f h = (let e = ap is_formatting (same-tag (tag_at t x) tag.Table h) in let k : false ≡ true = sym e ∙ f in cc)

pub no-template : (t : Tree) (x : ℕ) → is_formatting (tag_at t x) ≡ true → template t x ≡ true → ⊥
no-template t x f h = (let e = ap is_formatting (same-tag (tag_at t x) tag.Template h) in let k : false ≡ true = sym e ∙ f in cc)

-- searches
any-of : (p : ℕ → Bool) (xs : List ℕ) (x : ℕ) → has x xs ≡ true → p x ≡ true → list_any p xs ≡ true
any-of p [] x h e = absurd (let k = h in cc)
any-of p (y ∷ ys) x h e = elim (has-head x y ys h) [
  | inl q ↦ (let k : p y ≡ true = subst (λ (z : ℕ). p z ≡ true) q e in rw k refl)
  | inr q ↦ (let k = any-of p ys x q e in elim (cases_bool (p y)) [ inl a ↦ rw a refl | inr a ↦ rw a k ])
]

pub none-of : (p : ℕ → Bool) (xs : List ℕ) → ((x : ℕ) → has x xs ≡ true → p x ≡ true → ⊥) → list_any p xs ≡ false
none-of p [] h = refl
none-of p (x ∷ xs) h = elim (cases_bool (p x)) [
  | inl e ↦ absurd (h x (has-first x xs) e)
  | inr e ↦ rw e (none-of p xs (λ y a. h y (has-more y x xs a)))
]

last_where-in : (p : ℕ → Bool) (xs : List ℕ) (x : ℕ) → last_where p xs ≡ Some x → (has x xs ≡ true) × (p x ≡ true)
last_where-in p [] x h = absurd (let k = h in cc)
last_where-in p (y ∷ ys) x h = elim (cases_bool (list_any p ys)) [
  | inl e ↦ (let r = last_where-in p ys x (rw e at h) in (has-more x y ys r.0, r.1))
  | inr e ↦ elim (cases_bool (p y)) [
    | inl f ↦ (let q : y ≡ x = (let k = rw (e, f) at h in cc) in (subst (λ (z : ℕ). has z (y ∷ ys) ≡ true) q (has-first y ys), subst (λ (z : ℕ). p z ≡ true) q f))
    | inr f ↦ absurd (let k = rw (e, f) at h in cc)
  ]
]

last_where-some : (p : ℕ → Bool) (xs : List ℕ) → list_any p xs ≡ true → (x : ℕ) × (last_where p xs ≡ Some x)
last_where-some p [] h = absurd (let k = h in cc)
last_where-some p (y ∷ ys) h = elim (cases_bool (list_any p ys)) [
  | inl e ↦ (let r = last_where-some p ys e in (r.0, rw e r.1))
  | inr e ↦ elim (cases_bool (p y)) [
    | inl f ↦ (y, rw (e, f) refl)
    | inr f ↦ absurd (let k : list_any p (y ∷ ys) ≡ false = rw (f, e) refl in cc)
  ]
]

above-in : (p : ℕ → Bool) (xs : List ℕ) (x : ℕ) → has x (above p xs) ≡ true → has x xs ≡ true
above-in p [] x h = h
above-in p (y ∷ ys) x h = elim (cases_bool (list_any p ys)) [
  | inl a ↦ has-more x y ys (above-in p ys x (rw a at h))
  | inr a ↦ elim (cases_bool (p y)) [
    | inl b ↦ has-more x y ys (rw (a, b) at h)
    | inr b ↦ rw (a, b) at h
  ]
]

pub below-in : (p : ℕ → Bool) (xs : List ℕ) (x : ℕ) → has x (below p xs) ≡ true → has x xs ≡ true
below-in p [] x h = h
below-in p (y ∷ ys) x h = elim (cases_bool (list_any p ys)) [
  | inl a ↦ elim (has-head x y (below p ys) (rw a at h)) [
    | inl q ↦ subst (λ (z : ℕ). has z (y ∷ ys) ≡ true) (sym q) (has-first y ys)
    | inr q ↦ has-more x y ys (below-in p ys x q)
  ]
  | inr a ↦ absurd (let k = rw a at h in cc)
]

any-left : (p : ℕ → Bool) (xs ys : List ℕ) → list_any p ys ≡ false → list_any p (xs ++ ys) ≡ list_any p xs
any-left p [] ys h = h
any-left p (x ∷ xs) ys h = (let e = any-left p xs ys h in elim (cases_bool (p x)) [ inl a ↦ rw a refl | inr a ↦ rw a e ])

below-left : (p : ℕ → Bool) (xs ys : List ℕ) → list_any p ys ≡ false → below p (xs ++ ys) ≡ below p xs
below-left p [] ys h = none-below p ys h
  where
    none-below : (p : ℕ → Bool) (ys : List ℕ) → list_any p ys ≡ false → below p ys ≡ []
    none-below p [] h = refl
    none-below p (y ∷ ys) h = elim (cases_bool (p y)) [
      | inl f ↦ absurd (let g : list_any p (y ∷ ys) ≡ true = rw f refl in cc)
      | inr f ↦ (let g : list_any p ys ≡ false = rw f at h in rw g refl)
    ]
below-left p (x ∷ xs) ys h =
    (let e = any-left p xs ys h in let i = below-left p xs ys h in elim (cases_bool (list_any p xs)) [
      | inl a ↦ rw (e, a) (ap (λ zs. x ∷ zs) i)
      | inr a ↦ rw (e, a) refl
    ])

-- what stands after an element of which there is one
above-here : (f : ℕ) (xs ys : List ℕ) → has f ys ≡ false → above (eqb f) (xs ++ (f ∷ ys)) ≡ ys
above-here f xs ys h = go xs
  where
    none : list_any (eqb f) ys ≡ false
    none = none-of (eqb f) ys (λ x a e. (let q = eqb-true f x e in let k : has f ys ≡ true = subst (λ (z : ℕ). has z ys ≡ true) (sym q) a in cc))

    here : list_any (eqb f) (f ∷ ys) ≡ true
    here = rw (eqb-self f) refl

    any : (zs : List ℕ) → list_any (eqb f) (zs ++ (f ∷ ys)) ≡ true
    any [] = here
    any (z ∷ zs) = (let e = any zs in elim (cases_bool (eqb f z)) [ inl a ↦ rw a refl | inr a ↦ rw a e ])

    go : (zs : List ℕ) → above (eqb f) (zs ++ (f ∷ ys)) ≡ ys
    go [] = rw (none, eqb-self f) refl
    go (z ∷ zs) = rw (any zs) (go zs)

-- after an element that is in scope, and of a formatting name, there is no table and no template
module _ (t : Tree) (f : ℕ) (X Y : List ℕ) (d : Distinct (X ++ (f ∷ Y))) (named-so : is_formatting (tag_at t f) ≡ true) (scope-is : element_in_scope t f (X ++ (f ∷ Y)) ≡ true) where
  once : has f Y ≡ false
  once = (distinct-end X).0
    where
      distinct-end : (xs : List ℕ) → (has f Y ≡ false) × Distinct Y
      distinct-end xs = right X d
        where
          right : (zs : List ℕ) → Distinct (zs ++ (f ∷ Y)) → (has f Y ≡ false) × Distinct Y
          right [] e = e
          right (z ∷ zs) e = right zs e.1

  no-end : list_any (ends t scope.Default) Y ≡ false
  no-end = split (list_any (eqb f) (X ++ (f ∷ Y))) (list_any (ends t scope.Default) (above (eqb f) (X ++ (f ∷ Y)))) scope-is (ap (list_any (ends t scope.Default)) (above-here f X Y once))
    where
      split : (a b : Bool) → (a && not b) ≡ true → b ≡ list_any (ends t scope.Default) Y → list_any (ends t scope.Default) Y ≡ false
      split true true h e = absurd (let k = h in cc)
      split true false h e = sym e
      split false true h e = absurd (let k = h in cc)
      split false false h e = sym e

  pub no-table-after : (x : ℕ) → has x (f ∷ Y) ≡ true → table t x ≡ true → ⊥
  no-table-after x h e = elim (has-head x f Y h) [
    | inl q ↦ no-table t f named-so (subst (λ (z : ℕ). table t z ≡ true) q e)
    | inr q ↦ (let k = any-of (ends t scope.Default) Y x q (table-ends t x e) in let m = no-end in cc)
  ]

  pub no-template-after : (x : ℕ) → has x (f ∷ Y) ≡ true → template t x ≡ true → ⊥
  no-template-after x h e = elim (has-head x f Y h) [
    | inl q ↦ no-template t f named-so (subst (λ (z : ℕ). template t z ≡ true) q e)
    | inr q ↦ (let k = any-of (ends t scope.Default) Y x q (template-ends t x e) in let m = no-end in cc)
  ]

module _ (t : Tree) (w : WellFormed t) (X Z : List ℕ) (a : ℕ) (foster : Bool) (nodes : AreNodes t (X ++ Z)) (elements : (x : ℕ) → has x (X ++ Z) ≡ true → IsElement (label_of t x))
    (d : Distinct (X ++ Z)) (o : IsOrdered t (X ++ Z)) (a-in : has a X ≡ true)
    (no-tables : (x : ℕ) → has x Z ≡ true → table t x ≡ true → ⊥) (no-templates : (x : ℕ) → has x Z ≡ true → template t x ≡ true → ⊥) where
  -- the nodes on the way up from a place are nodes of the tree, and none of those after
  pub record IsSafe (p : Place) : Type 0 where
    pub way_in : (y : ℕ) → has y (way_up t p) ≡ true → y < length t.labels
    pub apart : (y : ℕ) → has y Z ≡ true → has y (way_up t p) ≡ false

  line-apart : (e : ℕ) → has e X ≡ true → (y : ℕ) → has y Z ≡ true → has y (e ∷ ancestors t e) ≡ false
  line-apart e m y h = rw (eqb-apart y e (λ q. distinct-cross X Z d e y m h (sym q))) (ordered-cross t X Z o e y m h)

  line-within : (e : ℕ) → has e X ≡ true → (y : ℕ) → has y (e ∷ ancestors t e) ≡ true → y < length t.labels
  line-within e m y h = elim (has-head y e (ancestors t e) h) [
    | inl q ↦ (let b = nodes e (has-left e X Z m) in let r : y ≡ e = q in omega arith)
    | inr q ↦ above-all t (λ (z : ℕ). z < length t.labels) (λ z p l k. w.parent_in p z k) e (nodes e (has-left e X Z m)) y q
  ]

  last-safe : (e : ℕ) → has e X ≡ true → IsSafe (Last e)
  last-safe e m = record { way_in = line-within e m; apart = line-apart e m }

  before-safe : (e : ℕ) → has e X ≡ true → IsSafe (Before e)
  before-safe e m = record { way_in = line-within e m; apart = line-apart e m }

  no-host : (x : ℕ) (l : NodeData) (h : ℕ) → IsElement l → host_in l ≡ Some h → ⊥
  no-host x (Element e) h i q = (let k = q in cc)
  no-host x Document h i q = i
  no-host x (Contents c) h i q = i
  no-host x (Text c) h i q = i
  no-host x (Comment c j) h i q = i
  no-host x (Doctype b p s j) h i q = i

  inside-safe : (e : ℕ) → has e X ≡ true → IsSafe (Last (inside t e))
  inside-safe e m = go (contents_at t e) refl
    where
      go : (q : Option ℕ) → contents_at t e ≡ q → IsSafe (Last (get q e))
      go None h = last-safe e m
      go (Some c) h =
          let r = w.templates.contents_is e c h in
          let z = ancestors-root t c (w.contents_alone c e r.1) in
          record {
            way_in = λ y k. elim (has-head y c (ancestors t c) k) [
              | inl q ↦ (let b = r.0 in let s : y ≡ c = q in omega arith)
              | inr q ↦ absurd (let s = sym (ap (has y) z) ∙ q in cc)
            ];
            apart = λ y k. rw (z, eqb-apart y c (λ q. no-host c (label_of t c) e (elements c (subst (λ (v : ℕ). has v (X ++ Z) ≡ true) q (has-right y X Z k))) r.1)) refl;
          }

  in-X : (p : ℕ → Bool) → ((x : ℕ) → has x Z ≡ true → p x ≡ true → ⊥) → (x : ℕ) → has x (X ++ Z) ≡ true → p x ≡ true → has x X ≡ true
  in-X p out x h e = elim (has-either x X Z h) [ inl q ↦ q | inr q ↦ absurd (out x q e) ]

  first-in : (xs : List ℕ) → has a xs ≡ true → has (get (first_of (xs ++ Z)) 0) xs ≡ true
  first-in [] h = absurd (let k = h in cc)
  first-in (x ∷ xs) h = has-first x xs

  by-table : (b : ℕ) → has b X ≡ true → (q : Option ℕ) → IsSafe (by_table t (below (table t) (X ++ Z)) b q)
  by-table b m (Some p) = before-safe b m
  by-table b m None = go (last_of (below (table t) (X ++ Z))) refl
    where
      go : (q : Option ℕ) → last_of (below (table t) (X ++ Z)) ≡ q → IsSafe (Last (inside t (get q b)))
      go None h = inside-safe b m
      go (Some e) h =
          let k = has-last e (below (table t) (X ++ Z)) h in
          let l = ap (has e) (sym (below-left (table t) X Z (none-of (table t) Z no-tables))) ∙ k in
          inside-safe e (below-in (table t) X e l)

  outside : (q : Option ℕ) → last_where (table t) (X ++ Z) ≡ q → IsSafe (outside_table t (X ++ Z) q)
  outside None h = last-safe (get (first_of (X ++ Z)) 0) (first-in X a-in)
  outside (Some b) h = (let r = last_where-in (table t) (X ++ Z) b h in by-table b (in-X (table t) no-tables b r.0 r.1) (parent_of t b))

  fostered-safe : IsSafe (fostered t (X ++ Z))
  fostered-safe = elim (cases_bool (list_any (template t) (above (table t) (X ++ Z)))) [
    | inl e ↦
        let r = last_where-some (template t) (above (table t) (X ++ Z)) e in
        let s = last_where-in (template t) (above (table t) (X ++ Z)) r.0 r.1 in
        let m = in-X (template t) no-templates r.0 (above-in (table t) (X ++ Z) r.0 s.0) s.1 in
        rw (e, r.1) (inside-safe r.0 m)
    | inr e ↦ rw e (outside (last_where (table t) (X ++ Z)) refl)
  ]

  pub place-safe : IsSafe (place_at t (X ++ Z) a foster)
  place-safe = elim (cases_bool (fosters t a foster)) [
    | inl e ↦ rw e fostered-safe
    | inr e ↦ rw e (inside-safe a a-in)
  ]
