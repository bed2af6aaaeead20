-- After a round no later stack element is an ancestor of an earlier one.
use Rattle.std.proofs.Common.{◌≡◌, ◌≢◌, ℕ, zero, suc, ◌+◌, ◌-◌, ◌<◌, ◌≤◌, true, false, nat_le, nat_lt, List, [], ◌∷◌, ◌++◌, length, Some, ◌⊎◌, inl, inr, refl, sym, ◌∙◌, ap, subst, arith}
use Rattle.html_arena.specs.Siblings.{has, Distinct}
use Rattle.html_arena.specs.Tree.{Tree, WellFormed, ancestors, children_of, parent_of}
use Rattle.html_arena.proofs.Siblings.{eqb-apart}
use Rattle.html_open.specs.declared.places.Place.{Place}
use Rattle.html_open.specs.declared.places.Place.TheVariants.{Last, Before}
use Rattle.html_open.specs.Adopting.{clones_down}
use Rattle.html_open.specs.Hanging.{chain_top, hung_parent}
use Rattle.html_open.specs.Opened.{AreNodes, IsOrdered}
use Rattle.html_open.specs.Placing.{parent_at, way_up}
use Rattle.html_open.proofs.Hangs.{eqb-of, inside, le-of, lt-of, past, short}
use Rattle.html_open.proofs.Keeps.{cases_bool, cases_eqb, eqb-self, has-append}
use Rattle.html_open.proofs.Numbering.{has-down}
use Rattle.html_open.proofs.Upwards.{above-all, above-closed, has-first, has-more, not-above, way-closed}

pub has-left : (x : ℕ) (xs ys : List ℕ) → has x xs ≡ true → has x (xs ++ ys) ≡ true
has-left x xs ys h = has-append x xs ys ∙ rw h refl

pub has-right : (x : ℕ) (xs ys : List ℕ) → has x ys ≡ true → has x (xs ++ ys) ≡ true
has-right x xs ys h = has-append x xs ys ∙ elim (cases_bool (has x xs)) [ inl e ↦ rw e refl | inr e ↦ rw e h ]

pub has-either : (x : ℕ) (xs ys : List ℕ) → has x (xs ++ ys) ≡ true → (has x xs ≡ true) ⊎ (has x ys ≡ true)
has-either x xs ys h = elim (cases_bool (has x xs)) [
  | inl e ↦ inl e
  | inr e ↦ inr (let k = sym (has-append x xs ys) ∙ h in rw e at k)
]

pub has-head : (x y : ℕ) (ys : List ℕ) → has x (y ∷ ys) ≡ true → (x ≡ y) ⊎ (has x ys ≡ true)
has-head x y ys h = elim (cases_eqb x y) [ inl q ↦ inl q.1 | inr q ↦ inr (rw q.0 at h) ]

pub distinct-cross : (xs ys : List ℕ) → Distinct (xs ++ ys) → (x y : ℕ) → has x xs ≡ true → has y ys ≡ true → x ≢ y
distinct-cross [] ys d x y a b = absurd (let k = a in cc)
distinct-cross (z ∷ zs) ys d x y a b = λ e. elim (has-head x z zs a) [
  | inl q ↦ (let k = has-right y zs ys b in let m = d.0 in let l : has z (zs ++ ys) ≡ true = subst (λ (v : ℕ). has v (zs ++ ys) ≡ true) (sym e ∙ q) k in cc)
  | inr q ↦ distinct-cross zs ys d.1 x y q b e
]

pub distinct-right : (xs ys : List ℕ) → Distinct (xs ++ ys) → Distinct ys
distinct-right [] ys d = d
distinct-right (x ∷ xs) ys d = distinct-right xs ys d.1

pub distinct-left : (xs ys : List ℕ) → Distinct (xs ++ ys) → Distinct xs
distinct-left [] ys d = tt
distinct-left (x ∷ xs) ys d = (
  elim (cases_bool (has x xs)) [
    | inl e ↦ absurd (let k = has-left x xs ys e in let m = d.0 in cc)
    | inr e ↦ e
  ],
  distinct-left xs ys d.1,
)

pub ordered-cross : (t : Tree) (xs ys : List ℕ) → IsOrdered t (xs ++ ys) → (x y : ℕ) → has x xs ≡ true → has y ys ≡ true → has y (ancestors t x) ≡ false
ordered-cross t [] ys o x y a b = absurd (let k = a in cc)
ordered-cross t (z ∷ zs) ys o x y a b = elim (has-head x z zs a) [
  | inl q ↦ subst (λ (v : ℕ). has y (ancestors t v) ≡ false) (sym q) (o.0 y (has-right y zs ys b))
  | inr q ↦ ordered-cross t zs ys o.1 x y q b
]

ordered-right : (t : Tree) (xs ys : List ℕ) → IsOrdered t (xs ++ ys) → IsOrdered t ys
ordered-right t [] ys o = o
ordered-right t (x ∷ xs) ys o = ordered-right t xs ys o.1

ordered-left : (t : Tree) (xs ys : List ℕ) → IsOrdered t (xs ++ ys) → IsOrdered t xs
ordered-left t [] ys o = tt
ordered-left t (x ∷ xs) ys o = (λ y h. o.0 y (has-left y xs ys h), ordered-left t xs ys o.1)

ordered-make : (t : Tree) (xs ys : List ℕ) → IsOrdered t xs → IsOrdered t ys → ((x y : ℕ) → has x xs ≡ true → has y ys ≡ true → has y (ancestors t x) ≡ false) → IsOrdered t (xs ++ ys)
ordered-make t [] ys a b h = b
ordered-make t (x ∷ xs) ys a b h = (
  λ y e. elim (has-either y xs ys e) [ inl q ↦ a.0 y q | inr q ↦ h x y (has-first x xs) q ],
  ordered-make t xs ys a.1 b (λ z y e. h z y (has-more z x xs e)),
)

ordered-sub : (t v : Tree) (xs : List ℕ) → Distinct xs → ((x y : ℕ) → has x xs ≡ true → has y xs ≡ true → x ≢ y → has y (ancestors t x) ≡ false → has y (ancestors v x) ≡ false) → IsOrdered t xs → IsOrdered v xs
ordered-sub t v [] d h o = tt
ordered-sub t v (x ∷ xs) d h o = (
  λ y e. h x y (has-first x xs) (has-more y x xs e) (λ q. (let m = d.0 in let k : has x xs ≡ true = subst (λ (z : ℕ). has z xs ≡ true) (sym q) e in cc)) (o.0 y e),
  ordered-sub t v xs d.1 (λ z y a b. h z y (has-more z x xs a) (has-more y x xs b)) o.1,
)

module _ (t v : Tree) (w : WellFormed t) (X inner upper : List ℕ) (f g c : ℕ) (at : Place)
    (d : Distinct (X ++ (f ∷ (inner ++ (g ∷ upper))))) (o : IsOrdered t (X ++ (f ∷ (inner ++ (g ∷ upper))))) (nodes : AreNodes t (X ++ (f ∷ (inner ++ (g ∷ upper)))))
    (way_in : (y : ℕ) → has y (way_up t at) ≡ true → y < length t.labels) (safe : (y : ℕ) → has y (f ∷ (inner ++ (g ∷ upper))) ≡ true → has y (way_up t at) ≡ false)
    (parents : (x : ℕ) → parent_of v x ≡ hung_parent t g (length t.labels) (length t.labels + c) at x) where
  abbrev n : ℕ
  n = length t.labels

  abbrev k : ℕ
  k = length t.labels + c

  abbrev rest : List ℕ
  rest = f ∷ (inner ++ (g ∷ upper))

  g-rest : has g rest ≡ true
  g-rest = has-more g f (inner ++ (g ∷ upper)) (has-right g inner (g ∷ upper) (has-first g upper))

  upper-rest : (y : ℕ) → has y upper ≡ true → has y rest ≡ true
  upper-rest y h = has-more y f (inner ++ (g ∷ upper)) (has-right y inner (g ∷ upper) (has-more y g upper h))

  rest-in : (y : ℕ) → has y rest ≡ true → y < n
  rest-in y h = nodes y (has-right y X rest h)

  g-in : g < n
  g-in = rest-in g g-rest

  top-ne : (z : ℕ) → z < n → z ≢ g → z ≢ chain_top g n k
  top-ne z b ne e = elim (cases_eqb n k) [
    | inl q ↦ (let h : chain_top g n k ≡ g = rw q.0 refl in ne (e ∙ h))
    | inr q ↦ (let r = q.1 in let h : chain_top g n k ≡ k - 1 = rw q.0 refl in let m : z ≡ k - 1 = e ∙ h in omega arith)
  ]

  v-old : (z : ℕ) → z < n → z ≢ g → has z (children_of t g) ≡ false → parent_of v z ≡ parent_of t z
  v-old z b ne h =
      parents z
      ∙ rw (eqb-apart z (chain_top g n k) (top-ne z b ne), eqb-apart z g ne, short n z z k b, eqb-apart z k (λ q. omega arith), h) refl

  v-child : (z : ℕ) → z < n → z ≢ g → has z (children_of t g) ≡ true → parent_of v z ≡ Some k
  v-child z b ne h =
      parents z
      ∙ rw (eqb-apart z (chain_top g n k) (top-ne z b ne), eqb-apart z g ne, short n z z k b, eqb-apart z k (λ q. omega arith), h) refl

  k-top : k ≢ chain_top g n k
  k-top e = elim (cases_eqb n k) [
    | inl q ↦ (let h : chain_top g n k ≡ g = rw q.0 refl in let m : k ≡ g = e ∙ h in let b = g-in in omega arith)
    | inr q ↦ (let r = q.1 in let h : chain_top g n k ≡ k - 1 = rw q.0 refl in let m : k ≡ k - 1 = e ∙ h in omega arith)
  ]

  v-k : parent_of v k ≡ Some g
  v-k = parents k ∙ rw (eqb-apart k (chain_top g n k) k-top, eqb-apart k g (λ q. (let b = g-in in omega arith)), past n k k k (omega arith), eqb-self k) refl

  v-g-none : n ≡ k → parent_of v g ≡ parent_at t at
  v-g-none q = (let h : chain_top g n k ≡ g = rw (eqb-of n k q) refl in parents g ∙ rw (eqb-of g (chain_top g n k) (sym h)) refl)

  v-g-some : n ≢ k → parent_of v g ≡ Some n
  v-g-some q =
      (let h : chain_top g n k ≡ k - 1 = rw (eqb-apart n k q) refl in
      parents g ∙ rw (eqb-apart g (chain_top g n k) (λ e. (let m : g ≡ k - 1 = e ∙ h in let b = g-in in omega arith)), eqb-self g) refl)

  v-clone : (z : ℕ) → n ≤ z → z + 1 < k → parent_of v z ≡ Some (z + 1)
  v-clone z a b =
      (let h : chain_top g n k ≡ k - 1 = rw (eqb-apart n k (λ q. omega arith)) refl in
      parents z
      ∙ rw (eqb-apart z (chain_top g n k) (λ e. (let m : z ≡ k - 1 = e ∙ h in omega arith)), eqb-apart z g (λ q. (let b = g-in in omega arith)), inside n z z k a (omega arith)) refl)

  v-top : (z : ℕ) → n ≤ z → z + 1 ≡ k → parent_of v z ≡ parent_at t at
  v-top z a b =
      (let h : chain_top g n k ≡ k - 1 = rw (eqb-apart n k (λ q. omega arith)) refl in
      let e : z ≡ k - 1 = omega arith in
      parents z ∙ rw (eqb-of z (chain_top g n k) (e ∙ sym h)) refl)

  -- the sets of nodes that hold all above a node
  abbrev W : ℕ → Type 0
  W z = has z (way_up t at) ≡ true

  place-parent : (p : ℕ) → parent_at t at ≡ Some p → W p
  place-parent p e = go at (λ z q h r. way-closed t w at way_in z q h r) e
    where
      go : (l : Place) → ((z q : ℕ) → has z (way_up t l) ≡ true → parent_of t z ≡ Some q → has q (way_up t l) ≡ true) → parent_at t l ≡ Some p → has p (way_up t l) ≡ true
      go (Last q) h r = (let s : q ≡ p = (let j = r in cc) in subst (λ (z : ℕ). has z (q ∷ ancestors t q) ≡ true) s (has-first q (ancestors t q)))
      go (Before b) h r = h b p (has-first b (ancestors t b)) r

  not-way : (y : ℕ) → has y rest ≡ true → W y → ⊥
  not-way y h e = (let s = safe y h in cc)

  W-closed : (z p : ℕ) → W z → parent_of v z ≡ Some p → W p
  W-closed z p h e =
      let ne : z ≢ g = λ q. not-way g g-rest (subst W q h) in
      let out : has z (children_of t g) ≡ false =
      (elim (cases_bool (has z (children_of t g))) [
        | inl c ↦ absurd (not-way g g-rest (way-closed t w at way_in z g h (w.child_has_parent g z c)))
        | inr c ↦ c
      ]) in
      way-closed t w at way_in z p h (sym (v-old z (way_in z h) ne out) ∙ e)

  abbrev C : ℕ → ℕ → Type 0
  C i z = ((i ≤ z) × (z < k)) ⊎ W z

  C-closed : (i : ℕ) → n ≤ i → (z p : ℕ) → C i z → parent_of v z ≡ Some p → C i p
  C-closed i l z p (inl h) e =
      let h0 : i ≤ z = h.0 in
      let h1 : z < k = h.1 in
      elim (cases_eqb (z + 1) k) [
        | inl q ↦ inr (place-parent p (sym (v-top z (omega arith) q.1) ∙ e))
        | inr q ↦ (let r = q.1 in let s = v-clone z (omega arith) (omega arith) in let m : z + 1 ≡ p = (let j : Some (z + 1) ≡ Some p = sym s ∙ e in cc) in inl (omega arith, omega arith))
      ]
  C-closed i l z p (inr h) e = inr (W-closed z p h e)

  abbrev G : ℕ → Type 0
  G z = (z ≡ g) ⊎ C n z

  g-up : (p : ℕ) → parent_of v g ≡ Some p → G p
  g-up p e = elim (cases_eqb n k) [
    | inl q ↦ inr (inr (place-parent p (sym (v-g-none q.1) ∙ e)))
    | inr q ↦ (let r = q.1 in let m : n ≡ p = (let j : Some n ≡ Some p = sym (v-g-some r) ∙ e in cc) in inr (inl (omega arith, omega arith)))
  ]

  G-closed : (z p : ℕ) → G z → parent_of v z ≡ Some p → G p
  G-closed z p (inl h) e = g-up p (sym (ap (parent_of v) h) ∙ e)
  G-closed z p (inr h) e = inr (C-closed n (omega arith) z p h e)

  abbrev K : ℕ → Type 0
  K z = (z ≡ k) ⊎ G z

  K-closed : (z p : ℕ) → K z → parent_of v z ≡ Some p → K p
  K-closed z p (inl h) e = (let m : g ≡ p = (let j : Some g ≡ Some p = sym v-k ∙ sym (ap (parent_of v) h) ∙ e in cc) in inr (inl (sym m)))
  K-closed z p (inr h) e = inr (G-closed z p h e)

  line-in : (x : ℕ) → x < n → (z : ℕ) → has z (x ∷ ancestors t x) ≡ true → z < n
  line-in x b z h = elim (has-head z x (ancestors t x) h) [
    | inl q ↦ (let r : z ≡ x = q in omega arith)
    | inr q ↦ above-all t (λ (y : ℕ). y < n) (λ y p l e. w.parent_in p y e) x b z q
  ]

  abbrev U : ℕ → ℕ → Type 0
  U x z = (has z (x ∷ ancestors t x) ≡ true) ⊎ K z

  U-closed : (x : ℕ) → x < n → (z p : ℕ) → U x z → parent_of v z ≡ Some p → U x p
  U-closed x b z p (inl h) e = elim (cases_eqb z g) [
    | inl q ↦ inr (inr (g-up p (sym (ap (parent_of v) q.1) ∙ e)))
    | inr q ↦ elim (cases_bool (has z (children_of t g))) [
      | inl r ↦ (let m : k ≡ p = (let j : Some k ≡ Some p = sym (v-child z (line-in x b z h) q.1 r) ∙ e in cc) in inr (inl (sym m)))
      | inr r ↦ inl (has-more p x (ancestors t x) (above-closed t w x z p b h (sym (v-old z (line-in x b z h) q.1 r) ∙ e)))
    ]
  ]
  U-closed x b z p (inr h) e = inr (K-closed z p h e)

  -- nothing that g stands above
  A-closed : (x : ℕ) → has x X ≡ true → (z p : ℕ) → has z (x ∷ ancestors t x) ≡ true → parent_of v z ≡ Some p → has p (x ∷ ancestors t x) ≡ true
  A-closed x m z p h e =
      let b = nodes x (has-left x X rest m) in
      let out : has g (ancestors t x) ≡ false = ordered-cross t X rest o x g m g-rest in
      let nx : x ≢ g = distinct-cross X rest d x g m g-rest in
      let ne : z ≢ g =
      λ q. elim (has-head z x (ancestors t x) h) [
        | inl r ↦ nx (sym r ∙ q)
        | inr r ↦ (let s : has g (ancestors t x) ≡ true = subst (λ (y : ℕ). has y (ancestors t x) ≡ true) q r in cc)
      ] in
      let nc : has z (children_of t g) ≡ false =
      (elim (cases_bool (has z (children_of t g))) [
        | inl r ↦ absurd (let s = above-closed t w x z g b h (w.child_has_parent g z r) in cc)
        | inr r ↦ r
      ]) in
      has-more p x (ancestors t x) (above-closed t w x z p b h (sym (v-old z (line-in x b z h) ne nc) ∙ e))

  -- what stands before the formatting element keeps its parent
  pub front-parent : (x : ℕ) → has x X ≡ true → parent_of v x ≡ parent_of t x
  front-parent x m =
      v-old x (nodes x (has-left x X rest m)) (distinct-cross X rest d x g m g-rest)
      (elim (cases_bool (has x (children_of t g))) [
        | inl r ↦ absurd (let a = above-closed t w x x g (nodes x (has-left x X rest m)) (has-first x (ancestors t x)) (w.child_has_parent g x r) in let e = ordered-cross t X rest o x g m g-rest in cc)
        | inr r ↦ r
      ])

  low-x : (x y : ℕ) → has x X ≡ true → (has y (x ∷ ancestors t x) ≡ true → ⊥) → has y (ancestors v x) ≡ false
  low-x x y m out = not-above v (λ (z : ℕ). has z (x ∷ ancestors t x) ≡ true) (A-closed x m) x y (has-first x (ancestors t x)) out

  not-line : (x y : ℕ) → x ≢ y → has y (ancestors t x) ≡ false → has y (x ∷ ancestors t x) ≡ true → ⊥
  not-line x y ne out h = elim (has-head y x (ancestors t x) h) [ inl q ↦ ne (sym q) | inr q ↦ (let r = out in cc) ]

  high-line : (x y : ℕ) → has x X ≡ true → n ≤ y → has y (x ∷ ancestors t x) ≡ true → ⊥
  high-line x y m l h = (let b = line-in x (nodes x (has-left x X rest m)) y h in omega arith)

  not-C : (i y : ℕ) → has y rest ≡ true → n ≤ i → C i y → ⊥
  not-C i y h l (inl e) = (let b = rest-in y h in let e0 : i ≤ y = e.0 in omega arith)
  not-C i y h l (inr e) = not-way y h e

  not-C-high : (i y : ℕ) → n ≤ y → ((i ≤ y) × (y < k) → ⊥) → C i y → ⊥
  not-C-high i y l out (inl e) = out e
  not-C-high i y l out (inr e) = (let b = way_in y e in omega arith)

  g-upper : (y : ℕ) → has y upper ≡ true → y ≢ g
  g-upper y h e = (let q = distinct-right inner (g ∷ upper) (distinct-right X rest d).1 in let m = q.0 in let s : has g upper ≡ true = subst (λ (z : ℕ). has z upper ≡ true) e h in cc)

  not-G : (y : ℕ) → has y upper ≡ true → G y → ⊥
  not-G y h (inl e) = g-upper y h e
  not-G y h (inr e) = not-C n y (upper-rest y h) (omega arith) e

  not-K : (y : ℕ) → has y upper ≡ true → K y → ⊥
  not-K y h (inl e) = (let b = rest-in y (upper-rest y h) in let q : y ≡ k = e in omega arith)
  not-K y h (inr e) = not-G y h e

  not-G-k : G k → ⊥
  not-G-k (inl e) = (let b = g-in in let q : k ≡ g = e in omega arith)
  not-G-k (inr e) = not-C-high n k (omega arith) (λ h. (let h1 : k < k = h.1 in omega arith)) e

  abbrev last : List ℕ
  last = g ∷ (k ∷ upper)

  ordered-last : IsOrdered v last
  ordered-last =
      let u-d = distinct-right (g ∷ []) upper (distinct-right inner (g ∷ upper) (distinct-right X rest d).1) in
      let u-o : IsOrdered t upper = (ordered-right t inner (g ∷ upper) (ordered-right t X rest o).1).1 in (
        λ y h. elim (has-head y k upper h) [
          | inl q ↦ not-above v G G-closed g y (inl refl) (λ e. not-G-k (subst G q e))
          | inr q ↦ not-above v G G-closed g y (inl refl) (not-G y q)
        ],
        (
          λ y h. not-above v K K-closed k y (inl refl) (not-K y h),
          ordered-sub t v upper u-d (λ x y a b ne out. not-above v (U x) (U-closed x (rest-in x (upper-rest x a))) x y (inl (has-first x (ancestors t x))) (not-U x y b ne out)) u-o,
        ),
      )
    where
      not-U : (x y : ℕ) → has y upper ≡ true → x ≢ y → has y (ancestors t x) ≡ false → U x y → ⊥
      not-U x y b ne out (inl e) = not-line x y ne out e
      not-U x y b ne out (inr e) = not-K y b e

  in-down : (i x : ℕ) → has x (clones_down n i) ≡ true → (n ≤ x) × (x < n + i)
  in-down i x h =
      let e = sym (has-down n i x) ∙ h in
      elim (cases_bool (nat_le n x)) [
        | inl a ↦ (let b : nat_lt x (n + i) ≡ true = rw a at e in (le-of n x a, lt-of x (n + i) b))
        | inr a ↦ absurd (let b = rw a at e in cc)
      ]

  ordered-down : (i : ℕ) → i ≤ c → IsOrdered v (clones_down n i)
  ordered-down zero l = tt
  ordered-down (suc i) l = (
    λ y h.
        let b = in-down i y h in
        let b1 : y < n + i = b.1 in
        not-above v (C (n + i)) (C-closed (n + i) (omega arith)) (n + i) y (inl (omega arith, omega arith)) (not-C-high (n + i) y b.0 (λ e. (let e0 : n + i ≤ y = e.0 in omega arith))),
    ordered-down i (omega arith),
  )

  pub ordered-after : IsOrdered v (X ++ (clones_down n c ++ last))
  ordered-after =
      ordered-make v X (clones_down n c ++ last)
      (ordered-sub t v X (distinct-left X rest d) (λ x y a b ne out. low-x x y a (not-line x y ne out)) (ordered-left t X rest o))
      (ordered-make v (clones_down n c) last (ordered-down c (omega arith)) ordered-last (λ x y a b.
      let l = in-down c x a in
      not-above v (C x) (C-closed x l.0) x y (inl (let l1 : x < n + c = l.1 in (omega arith, omega arith))) (λ e. elim (has-head y g (k ∷ upper) b) [
        | inl q ↦ not-C x g g-rest l.0 (subst (C x) q e)
        | inr q ↦ elim (has-head y k upper q) [
          | inl r ↦ not-C-high x k (omega arith) (λ h. (let h1 : k < k = h.1 in omega arith)) (subst (C x) r e)
          | inr r ↦ not-C x y (upper-rest y r) l.0 e
        ]
      ])))
      (λ x y a b. elim (has-either y (clones_down n c) last b) [
        | inl q ↦ low-x x y a (high-line x y a (in-down c y q).0)
        | inr q ↦ elim (has-head y g (k ∷ upper) q) [
          | inl r ↦ low-x x y a (λ e. not-line x g (distinct-cross X rest d x g a g-rest) (ordered-cross t X rest o x g a g-rest) (subst (λ (z : ℕ). has z (x ∷ ancestors t x) ≡ true) r e))
          | inr r ↦ elim (has-head y k upper r) [
            | inl s ↦ low-x x y a (λ e. high-line x k a (omega arith) (subst (λ (z : ℕ). has z (x ∷ ancestors t x) ≡ true) s e))
            | inr s ↦ low-x x y a (not-line x y (distinct-cross X rest d x y a (upper-rest y s)) (ordered-cross t X rest o x y a (upper-rest y s)))
          ]
        ]
      ])
