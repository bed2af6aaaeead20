-- What adoption keeps of the contents of templates: what hangs below a root stays below it, and what is made hangs below the root of the furthest block.
use Rattle.std.proofs.Common.{◌≡◌, ◌≢◌, ℕ, zero, suc, ◌+◌, ◌-◌, ◌<◌, ◌≤◌, Bool, true, false, cond, eqb, nat_le, nat_lt, ◌&&◌, ◌||◌, not, List, [], ◌∷◌, ◌++◌, length, length-append, map, is_some, Option, Some, None, ◌⊎◌, inl, inr, refl, sym, ◌∙◌, ap, subst, append_assoc, le_refl, arith}
use Rattle.std.specs.List.{list_any}
use Rattle.std.proofs.lemmas.Bool.{false≢true}
use Rattle.std.proofs.lemmas.List.{get_or_append_left, get_or_past, length-map}
use Rattle.html_names.specs.declared.tag.Tag.{Tag}
use Rattle.html_names.specs.declared.tag.Tag.TheVariants as tag
use Rattle.html_names.specs.declared.sets.Scope.TheVariants as scope
use Rattle.html_names.specs.Sets.{ends_default_scope, is_formatting, is_special, is_template}
use Rattle.html_names.specs.Tags.{is_same}
use Rattle.html_arena.specs.declared.data.NodeData.{NodeData}
use Rattle.html_arena.specs.declared.data.NodeData.TheVariants.{Document, Contents, Element, Text, Comment, Doctype}
use Rattle.html_arena.specs.Data.{cloned, contents_in, host_in, label_in, tag_in}
use Rattle.html_arena.specs.Siblings.{Distinct, first_of, has, is_in, put_before, without}
use Rattle.html_arena.specs.Tree.{Climbs, Tree as Nodes, WellFormed, ancestors, children_of, contents_at, host_at, label_of, named, parent_of, tag_at}
use Rattle.html_arena.proofs.Siblings.{eqb-apart, has-first as first-in}
use Rattle.html_open.specs.declared.adoption.AdoptEnd.{AdoptEnd}
use Rattle.html_open.specs.declared.entry.Entry.{Entry}
use Rattle.html_open.specs.declared.entry.Entry.TheVariants.{Marker, Node}
use Rattle.html_open.specs.declared.places.Place.{Place}
use Rattle.html_open.specs.declared.places.Place.TheVariants.{Before, Last}
use Rattle.html_open.specs.AdoptFinding.{element_in_scope}
use Rattle.html_open.specs.Adopting.{Adopted, Ends, Round, Rounds, clones_down, closes, eight, fewer, forgets, no_entry, no_round, one_more, out_of_scope, popped}
use Rattle.html_open.specs.Entries.{entry_named, is_marker, is_node, last_named, node_in, nodes_of, without_node}
use Rattle.html_open.specs.Hanging.{chain_top, chained, with_put}
use Rattle.html_open.specs.Lists.{above, below, last_where}
use Rattle.html_open.specs.Marking.{IsSameTree}
use Rattle.html_open.specs.Opened.{IsOrdered, Open}
use Rattle.html_open.specs.Placing.{by_table, fosters, get, outside_table, parent_at, place_at, table, template}
use Rattle.html_open.specs.Scopes.{ends}
use Rattle.html_open.proofs.Closing.{last-pushed}
use Rattle.html_open.proofs.Finding.{last_where-passes}
use Rattle.html_open.proofs.Hangs.{eqb-of, ge-of, le-of, lt-of, past, short, inside as between}
use Rattle.html_open.proofs.Keeps.{cases_bool, cases_eqb, eqb-self, eqb-true, split-last}
use Rattle.html_open.proofs.Lasting.{entries-without}
use Rattle.html_open.proofs.Lists.{any-has}
use Rattle.html_open.proofs.Numbering.{has-down}
use Rattle.html_open.proofs.Ordering.{distinct-cross, distinct-right, has-either, has-head, has-left, has-right, ordered-cross}
use Rattle.html_open.proofs.Rounding.{get-right}
use Rattle.html_open.proofs.SafePlaces.{none-of, same-tag}
use Rattle.html_open.proofs.Upwards.{above-closed, has-first, has-more}
use Rattle.html_laws.specs.Contents.{IsOver, above as upward, itself}
use Rattle.html_laws.proofs.Hosts.{AreBased, IsLaid, IsTied, base}
use Rattle.html_laws.proofs.Basing.{based-both, based-join, host-tag, not-passing, over-root, place-based, root-one}
use Rattle.html_laws.proofs.Laying.{AreSimple}
use Rattle.html_laws.proofs.Planting.{alike-tied}
use Rattle.html_laws.proofs.Replanting.{alike-simple, front-tied, is_any, part-simple, same-alike}

-- LISTS

only : (x c : ℕ) → has x (c ∷ []) ≡ true → x ≡ c
only x c h = elim (has-head x c [] h) [ inl q ↦ q | inr q ↦ absurd (let k = q in cc) ]

one : (x y : ℕ) → x ≡ y → has x (y ∷ []) ≡ true
one x y e = rw (eqb-of x y e) refl

some-none : (o : Option ℕ) (y : ℕ) → o ≡ Some y → o ≡ None → ⊥
some-none o y e f = (let k : Some y ≡ None = sym e ∙ f in cc)

some-same : (x y : ℕ) → Some x ≡ Some y → x ≡ y
some-same x y e = cc

before-in : (c b x : ℕ) (ks : List ℕ) → has x (put_before c b ks) ≡ true → (x ≡ c) ⊎ (has x ks ≡ true)
before-in c b x [] h = inr h
before-in c b x (y ∷ ys) h = elim (cases_eqb b y) [
  | inl e ↦ has-head x c (y ∷ ys) (rw e.0 at h)
  | inr e ↦ elim (has-head x y (put_before c b ys) (rw e.0 at h)) [
    | inl i ↦ inr (rw (eqb-of x y i) refl)
    | inr i ↦ elim (before-in c b x ys i) [ inl j ↦ inl j | inr j ↦ inr (has-more x y ys j) ]
  ]
]

before-keeps : (c b x : ℕ) (ks : List ℕ) → has x ks ≡ true → has x (put_before c b ks) ≡ true
before-keeps c b x [] h = h
before-keeps c b x (y ∷ ys) h = elim (cases_eqb b y) [
  | inl e ↦ rw e.0 (has-more x c (y ∷ ys) h)
  | inr e ↦ rw e.0 (elim (has-head x y ys h) [
    | inl i ↦ rw (eqb-of x y i) refl
    | inr i ↦ has-more x y (put_before c b ys) (before-keeps c b x ys i)
  ])
]

before-there : (c b : ℕ) (ks : List ℕ) → has b ks ≡ true → has c (put_before c b ks) ≡ true
before-there c b [] h = absurd (let k = h in cc)
before-there c b (y ∷ ys) h = elim (cases_eqb b y) [
  | inl e ↦ rw e.0 (has-first c (y ∷ ys))
  | inr e ↦ rw e.0 (has-more c y (put_before c b ys) (before-there c b ys (rw e.0 at h)))
]

without-in : (b x : ℕ) (ks : List ℕ) → has x (without b ks) ≡ true → has x ks ≡ true
without-in b x [] h = h
without-in b x (y ∷ ys) h = elim (cases_eqb b y) [
  | inl e ↦ has-more x y ys (rw e.0 at h)
  | inr e ↦ elim (has-head x y (without b ys) (rw e.0 at h)) [
    | inl i ↦ rw (eqb-of x y i) refl
    | inr i ↦ has-more x y ys (without-in b x ys i)
  ]
]

without-keeps : (b x : ℕ) (ks : List ℕ) → x ≢ b → has x ks ≡ true → has x (without b ks) ≡ true
without-keeps b x [] n h = h
without-keeps b x (y ∷ ys) n h = elim (cases_eqb b y) [
  | inl e ↦ rw e.0 (elim (has-head x y ys h) [ inl i ↦ absurd (n (i ∙ sym e.1)) | inr i ↦ i ])
  | inr e ↦ rw e.0 (elim (has-head x y ys h) [
    | inl i ↦ rw (eqb-of x y i) refl
    | inr i ↦ has-more x y (without b ys) (without-keeps b x ys n i)
  ])
]

-- what stands among children with one put at a place
put-in : (t : Nodes) (at : Place) (c p x : ℕ) (ks : List ℕ) → has x (with_put t at c p ks) ≡ true → ((x ≡ c) × (parent_at t at ≡ Some p)) ⊎ (has x ks ≡ true)
put-in t (Last l) c p x ks h = elim (cases_eqb p l) [
  | inl e ↦ elim (has-either x ks (c ∷ []) (rw e.0 at h)) [
    | inl i ↦ inr i
    | inr i ↦ inl (only x c i, ap Some (sym e.1))
  ]
  | inr e ↦ inr (rw e.0 at h)
]
put-in t (Before b) c p x ks h = by (parent_of t b) refl h
  where
    by : (o : Option ℕ) → parent_of t b ≡ o → has x (cond (is_in p o) (put_before c b ks) ks) ≡ true → ((x ≡ c) × (parent_of t b ≡ Some p)) ⊎ (has x ks ≡ true)
    by None e i = inr i
    by (Some o) e i = elim (cases_eqb p o) [
      | inl f ↦ elim (before-in c b x ks (rw f.0 at i)) [ inl j ↦ inl (j, e ∙ ap Some (sym f.1)) | inr j ↦ inr j ]
      | inr f ↦ inr (rw f.0 at i)
    ]

put-keeps : (t : Nodes) (at : Place) (c p x : ℕ) (ks : List ℕ) → has x ks ≡ true → has x (with_put t at c p ks) ≡ true
put-keeps t (Last l) c p x ks h = elim (cases_eqb p l) [ inl e ↦ rw e.0 (has-left x ks (c ∷ []) h) | inr e ↦ rw e.0 h ]
put-keeps t (Before b) c p x ks h = by (parent_of t b)
  where
    by : (o : Option ℕ) → has x (cond (is_in p o) (put_before c b ks) ks) ≡ true
    by None = h
    by (Some o) = elim (cases_eqb p o) [ inl f ↦ rw f.0 (before-keeps c b x ks h) | inr f ↦ rw f.0 h ]

-- WHAT STANDS OVER A NODE

root-or-above : (t : Nodes) (a x : ℕ) → IsOver t a x → (x ≡ a) ⊎ ((p : ℕ) × (parent_of t x ≡ Some p) × IsOver t a p)
root-or-above t a _ itself = inl refl
root-or-above t a _ (upward x p e o) = inr (p, e, o)

-- a climb leads to a root
top-of : (t : Nodes) (x : ℕ) (us : List ℕ) → Climbs t x us → (s : ℕ) × (parent_of t s ≡ None) × IsOver t s x
top-of t x [] c = (x, c, itself)
top-of t x (p ∷ us) c = (let r = top-of t p us c.1 in (r.0, r.1, upward x p c.0 r.2))

over-in : (t : Nodes) → ((x p : ℕ) → parent_of t x ≡ Some p → p < length t.labels) → (a x : ℕ) → x < length t.labels → IsOver t a x → a < length t.labels
over-in t w a _ l itself = l
over-in t w a _ l (upward x p e o) = over-in t w a p (w x p e) o

over-as : (t u : Nodes) → ((x : ℕ) → parent_of u x ≡ parent_of t x) → (a x : ℕ) → IsOver t a x → IsOver u a x
over-as t u h a _ itself = itself
over-as t u h a _ (upward x p e o) = upward x p (h x ∙ e) (over-as t u h a p o)

-- THE MOVES OF A ROUND

-- how a node x has the parent p after a round: n is the number of the first clone and k that of the last, which is the new element; b is the furthest block, and
-- q is the parent at the place for the topmost
data IsStep (t : Nodes) (n k b q x p : ℕ) : Type 0 where
  stayed : parent_of t x ≡ Some p → IsStep t n k b q x p
  at_place : p ≡ q → (x ≡ b) ⊎ (n ≤ x) → IsStep t n k b q x p
  below_first : x ≡ b → n ≤ p → IsStep t n k b q x p
  in_chain : n ≤ x → n ≤ p → IsStep t n k b q x p
  new_one : x ≡ k → p ≡ b → IsStep t n k b q x p
  given : parent_of t x ≡ Some b → p ≡ k → IsStep t n k b q x p

module _ (t u : Nodes) (k b : ℕ) (at : Place) (laid : IsLaid t) (formed : WellFormed u) (block_in : b < length t.labels) (no_fewer : length t.labels ≤ k)
    (children_are : (x : ℕ) → children_of u x ≡ with_put t at (chain_top b (length t.labels) k) x (chained t b (length t.labels) k x)) where
  abbrev n : ℕ
  n = length t.labels

  child : (p x : ℕ) → has x (chained t b n k p) ≡ true → parent_of u x ≡ Some p
  child p x h = formed.child_has_parent p x (ap (has x) (children_are p) ∙ put-keeps t at (chain_top b n k) p x (chained t b n k p) h)

  new-parent : parent_of u k ≡ Some b
  new-parent = child b k (rw (short n b b k block_in, eqb-self b) (has-first k []))

  clone-parent : (x : ℕ) → n ≤ x → x + 1 < k → parent_of u x ≡ Some (x + 1)
  clone-parent x a c = child (x + 1) x (rw (between n (x + 1) (x + 1) k (omega arith) c, eqb-apart (x + 1) n (λ e. omega arith)) (one x (x + 1 - 1) (omega arith)))

  first-parent : n < k → parent_of u b ≡ Some n
  first-parent a = child n b (rw (between n n n k (omega arith) a, eqb-self n) (has-first b []))

  given-parent : (x : ℕ) → parent_of t x ≡ Some b → parent_of u x ≡ Some k
  given-parent x e = child k x (rw (past n k k k (omega arith), eqb-apart k b (λ f. omega arith), eqb-self k) (laid.parent_has_child b x e))

  kept-parent : (x p : ℕ) → x ≢ b → p ≢ b → p < n → parent_of t x ≡ Some p → parent_of u x ≡ Some p
  kept-parent x p a c l e = child p x (rw (short n p p k l, eqb-apart p b c, eqb-apart p k (λ f. omega arith)) (without-keeps b x (children_of t p) a (laid.parent_has_child p x e)))

  chained-step : (q x p : ℕ) → has x (chained t b n k p) ≡ true → IsStep t n k b q x p
  chained-step q x p h = elim (cases_bool (nat_le n p)) [
    | inl e ↦ elim (cases_bool (nat_lt p k)) [
      | inl f ↦
          let d : n ≤ p = le-of n p e in
          elim (cases_eqb p n) [
            | inl g ↦ below_first (only x b (rw (e, f, g.0) at h)) d
            | inr g ↦ (let i : x ≡ p - 1 = only x (p - 1) (rw (e, f, g.0) at h) in let j = g.1 in in_chain (omega arith) d)
          ]
      | inr f ↦ wrapped (rw (e, f) at h)
    ]
    | inr e ↦ wrapped (rw e at h)
  ]
    where
      wrapped : has x (cond (eqb p b) (k ∷ []) (cond (eqb p k) (children_of t b) (without b (children_of t p)))) ≡ true → IsStep t n k b q x p
      wrapped i = elim (cases_eqb p b) [
        | inl e ↦ new_one (only x k (rw e.0 at i)) e.1
        | inr e ↦ elim (cases_eqb p k) [
          | inl f ↦ given (laid.child_has_parent b x (rw (e.0, f.0) at i)) f.1
          | inr f ↦ stayed (laid.child_has_parent p x (without-in b x (children_of t p) (rw (e.0, f.0) at i)))
        ]
      ]

  top-is : (x : ℕ) → x ≡ chain_top b n k → (x ≡ b) ⊎ (n ≤ x)
  top-is x e = elim (cases_eqb n k) [
    | inl f ↦ (let c : chain_top b n k ≡ b = rw f.0 refl in inl (e ∙ c))
    | inr f ↦ (let g = f.1 in let c : chain_top b n k ≡ k - 1 = rw f.0 refl in let i : x ≡ k - 1 = e ∙ c in inr (omega arith))
  ]

  step : (q x p : ℕ) → parent_at t at ≡ Some q → parent_of u x ≡ Some p → IsStep t n k b q x p
  step q x p f e = elim (put-in t at (chain_top b n k) p x (chained t b n k p) (sym (ap (has x) (children_are p)) ∙ formed.parent_has_child p x e)) [
    | inl i ↦ at_place (some-same p q (sym i.1 ∙ f)) (top-is x i.0)
    | inr i ↦ chained-step q x p i
  ]

  -- the place is not below the furthest block
  module _ (q r : ℕ) (place_is : parent_at t at ≡ Some q) (place_in : q < length t.labels) (clear : (y : ℕ) → at ≡ Before y → (y ≢ b) × (parent_of t y ≢ Some b))
      (count_is : length u.labels ≡ k + 1) (root : parent_of t r ≡ None) (over_block : IsOver t r b) (over_place : IsOver t r q) where
    top-parent : parent_of u (chain_top b n k) ≡ Some q
    top-parent = formed.child_has_parent q (chain_top b n k) (ap (has (chain_top b n k)) (children_are q) ∙ there at place_is clear)
      where
        there : (a : Place) → parent_at t a ≡ Some q → ((y : ℕ) → a ≡ Before y → (y ≢ b) × (parent_of t y ≢ Some b)) → has (chain_top b n k) (with_put t a (chain_top b n k) q (chained t b n k q)) ≡ true
        there (Last l) e c = (let g : l ≡ q = some-same l q e in rw (eqb-of q l (sym g)) (has-right (chain_top b n k) (chained t b n k q) (chain_top b n k ∷ []) (has-first (chain_top b n k) [])))
        there (Before y) e c =
            let far : q ≢ b = λ z. (c y refl).1 (e ∙ ap Some z) in
            let m : has y (chained t b n k q) ≡ true = rw (short n q q k place_in, eqb-apart q b far, eqb-apart q k (λ z. omega arith)) (without-keeps b y (children_of t q) (c y refl).0 (laid.parent_has_child q y e)) in
            rw (e, eqb-self q) (before-there (chain_top b n k) y (chained t b n k q) m)

    block-parent : parent_of u b ≡ None → ⊥
    block-parent e = elim (cases_eqb n k) [
      | inl f ↦ (let c : chain_top b n k ≡ b = rw f.0 refl in some-none (parent_of u b) q (ap (parent_of u) (sym c) ∙ top-parent) e)
      | inr f ↦ (let g = f.1 in some-none (parent_of u b) n (first-parent (omega arith)) e)
    ]

    -- what is made has a parent
    made-parent : (s : ℕ) → n ≤ s → s < length u.labels → parent_of u s ≡ None → ⊥
    made-parent s a l e = elim (cases_eqb s k) [
      | inl i ↦ some-none (parent_of u k) b new-parent (ap (parent_of u) (sym i.1) ∙ e)
      | inr i ↦
          let i1 = i.1 in
          let i2 : s < k = omega (arith, count_is) in
          elim (cases_eqb (s + 1) k) [
            | inl j ↦
                let d : n ≢ k = λ z. omega arith in
                let c : chain_top b n k ≡ k - 1 = rw (eqb-apart n k d) refl in
                let j1 = j.1 in
                let m : chain_top b n k ≡ s = omega (arith, c) in
                some-none (parent_of u s) q (ap (parent_of u) (sym m) ∙ top-parent) e
            | inr j ↦ (let j1 = j.1 in some-none (parent_of u s) (s + 1) (clone-parent s a (omega arith)) e)
          ]
    ]

    kept-root : (s : ℕ) → parent_of u s ≡ None → parent_of t s ≡ None
    kept-root s e = by (parent_of t s) refl
      where
        by : (o : Option ℕ) → parent_of t s ≡ o → parent_of t s ≡ None
        by None f = f
        by (Some p) f = absurd (elim (cases_eqb s b) [
          | inl i ↦ block-parent (ap (parent_of u) (sym i.1) ∙ e)
          | inr i ↦ elim (cases_eqb p b) [
            | inl j ↦ some-none (parent_of u s) k (given-parent s (f ∙ ap Some j.1)) e
            | inr j ↦ some-none (parent_of u s) p (kept-parent s p i.1 j.1 (laid.parent_in s p f) f) e
          ]
        ])

    -- each node has a root, which was there, and was one
    rooted : (x : ℕ) → x < length u.labels → (s : ℕ) × (s < n) × (parent_of t s ≡ None) × (parent_of u s ≡ None) × IsOver u s x
    rooted x l =
        let c = formed.climbs x l in
        let z = top-of u x c.0 c.1 in
        let i : z.0 < length u.labels = over-in u (λ y p e. formed.parent_in p y e) z.0 x l z.2 in
        elim (cases_bool (nat_lt z.0 n)) [
          | inl j ↦ (z.0, lt-of z.0 n j, kept-root z.0 z.1, z.1, z.2)
          | inr j ↦ absurd (made-parent z.0 (ge-of z.0 n j) i z.1)
        ]

    -- what is new stands over nothing of the old tree but itself
    not-over : (c p : ℕ) → c < n → n ≤ p → IsOver t c p → ⊥
    not-over c p l m o = elim (root-or-above t c p o) [
      | inl e ↦ omega arith
      | inr e ↦ (let w = laid.as_many_parents in some-none (parent_of t p) e.0 e.1 (get_or_past t.parents p None (omega arith)))
    ]

    -- what a root stands over now, it stood over, or is new
    over-was : (c x : ℕ) → c < n → parent_of t c ≡ None → IsOver u c x → IsOver t c x ⊎ ((c ≡ r) × (n ≤ x))
    over-was c _ l e itself = inl itself
    over-was c _ l e (upward x p f o) = by (step q x p place_is f) (over-was c p l e o)
      where
        by : IsStep t n k b q x p → (IsOver t c p ⊎ ((c ≡ r) × (n ≤ p))) → (IsOver t c x ⊎ ((c ≡ r) × (n ≤ x)))
        by (stayed g) (inl i) = inl (upward x p g i)
        by (stayed g) (inr i) = absurd (let j = laid.parent_in x p g in let d : n ≤ p = i.1 in omega arith)
        by (at_place g s) i = go s
          where
            same : c ≡ r
            same = elim i [ inl j ↦ root-one t c r q (subst (IsOver t c) g j) over_place e root | inr j ↦ j.0 ]

            go : (x ≡ b) ⊎ (n ≤ x) → (IsOver t c x ⊎ ((c ≡ r) × (n ≤ x)))
            go (inl j) = inl (subst (λ v. IsOver t v x) (sym same) (subst (IsOver t r) (sym j) over_block))
            go (inr j) = inr (same, j)
        by (below_first g s) (inl i) = absurd (not-over c p l s i)
        by (below_first g s) (inr i) = inl (subst (λ v. IsOver t v x) (sym i.0) (subst (IsOver t r) (sym g) over_block))
        by (in_chain g s) (inl i) = absurd (not-over c p l s i)
        by (in_chain g s) (inr i) = inr (i.0, g)
        by (new_one g s) (inl i) = inr (root-one t c r b (subst (IsOver t c) s i) over_block e root, omega arith)
        by (new_one g s) (inr i) = inr (i.0, omega arith)
        by (given g s) (inl i) = absurd (not-over c p l (omega arith) i)
        by (given g s) (inr i) = inl (subst (λ v. IsOver t v x) (sym i.0) (upward x b g over_block))

    -- the roots of old nodes stay
    over-stays : (x s : ℕ) → x < n → parent_of t s ≡ None → IsOver t s x → IsOver u s x
    over-stays x s l e o =
        let z = rooted x (omega (arith, count_is)) in
        elim (over-was z.0 x z.1 z.2 z.4) [
          | inl i ↦ subst (λ v. IsOver u v x) (root-one t z.0 s x i o z.2 e) z.4
          | inr i ↦ absurd (let j : n ≤ x = i.1 in omega arith)
        ]

    -- what is new stands below the root of the furthest block
    over-new : (x : ℕ) → n ≤ x → x < length u.labels → IsOver u r x
    over-new x m l =
        let z = rooted x l in
        elim (over-was z.0 x z.1 z.2 z.4) [
          | inl i ↦ absurd (not-over z.0 x z.1 m i)
          | inr i ↦ subst (λ v. IsOver u v x) i.0 z.4
        ]

-- BASES

base-root : (t : Nodes) (r : ℕ) (s : List ℕ) → IsLaid t → parent_of t r ≡ None → parent_of t (base t r s) ≡ None
base-root t r [] l e = e
base-root t r (x ∷ s) l e = base-root t (get (contents_at t x) r) s l (by (contents_at t x) refl)
  where
    by : (o : Option ℕ) → contents_at t x ≡ o → parent_of t (get o r) ≡ None
    by None f = e
    by (Some c) f = l.alone c x (l.contents_is x c f).1

-- where no element is a template, all stand below the root
over-plain : (t : Nodes) (r : ℕ) (s : List ℕ) → ((x : ℕ) → has x s ≡ true → contents_at t x ≡ None) → AreBased t r s → (x : ℕ) → has x s ≡ true → IsOver t r x
over-plain t r [] n a x h = absurd (let k = h in cc)
over-plain t r (y ∷ ys) n a x h =
    let e = n y (has-first y ys) in
    elim (has-head x y ys h) [
      | inl i ↦ subst (IsOver t r) (sym i) (a.0 e)
      | inr i ↦ over-plain t r ys (λ z j. n z (has-more z y ys j)) (subst (λ v. AreBased t (get v r) ys) e a.1) x i
    ]

based-plain : (t : Nodes) (r : ℕ) (s : List ℕ) → ((x : ℕ) → has x s ≡ true → contents_at t x ≡ None) → ((x : ℕ) → has x s ≡ true → IsOver t r x) → AreBased t r s
based-plain t r [] n a = tt
based-plain t r (y ∷ ys) n a = (
  λ e. a y (has-first y ys),
  subst (λ v. AreBased t (get v r) ys) (sym (n y (has-first y ys))) (based-plain t r ys (λ z j. n z (has-more z y ys j)) (λ z j. a z (has-more z y ys j))),
)

-- the same elements in another tree, where they keep their contents and their roots
module _ (t u : Nodes) (laid : IsLaid t) where
  base-as : (r : ℕ) (s : List ℕ) → ((x : ℕ) → has x s ≡ true → contents_at u x ≡ contents_at t x) → base u r s ≡ base t r s
  base-as r [] h = refl
  base-as r (x ∷ s) h = ap (λ v. base u (get v r) s) (h x (has-first x s)) ∙ base-as (get (contents_at t x) r) s (λ z j. h z (has-more z x s j))

  based-as : (r : ℕ) (s : List ℕ) → parent_of t r ≡ None → ((x : ℕ) → has x s ≡ true → contents_at u x ≡ contents_at t x)
      → ((x a : ℕ) → has x s ≡ true → parent_of t a ≡ None → IsOver t a x → IsOver u a x) → AreBased t r s → AreBased u r s
  based-as r [] e h m a = tt
  based-as r (x ∷ s) e h m a =
      let c = h x (has-first x s) in (
        λ i. m x r (has-first x s) e (a.0 (sym c ∙ i)),
        subst (λ v. AreBased u (get v r) s) (sym c) (based-as (get (contents_at t x) r) s (base-root t r (x ∷ []) laid e) (λ z j. h z (has-more z x s j)) (λ z w j. m z w (has-more z x s j)) a.1),
      )

-- WHAT IS AFTER THE FORMATTING ELEMENT

above-here : (f : ℕ) (xs ys : List ℕ) → has f ys ≡ false → above (eqb f) (xs ++ (f ∷ ys)) ≡ ys
above-here f [] ys h = (let a : list_any (eqb f) ys ≡ false = any-has f ys ∙ h in rw (a, eqb-self f) refl)
above-here f (x ∷ xs) ys h = (let a : list_any (eqb f) (xs ++ (f ∷ ys)) ≡ true = any-has f (xs ++ (f ∷ ys)) ∙ has-right f xs (f ∷ ys) (has-first f ys) in rw a (above-here f xs ys h))

no-end : (t : Nodes) (f : ℕ) (xs ys : List ℕ) → Distinct (xs ++ (f ∷ ys)) → element_in_scope t f (xs ++ (f ∷ ys)) ≡ true → list_any (ends t scope.Default) ys ≡ false
no-end t f xs ys d h = by (list_any (eqb f) (xs ++ (f ∷ ys))) (list_any (ends t scope.Default) (above (eqb f) (xs ++ (f ∷ ys)))) h (ap (list_any (ends t scope.Default)) (above-here f xs ys (distinct-right xs (f ∷ ys) d).0))
  where
    by : (a c : Bool) → (a && not c) ≡ true → c ≡ list_any (ends t scope.Default) ys → list_any (ends t scope.Default) ys ≡ false
    by true true i e = absurd (let k = i in cc)
    by true false i e = sym e
    by false c i e = absurd (let k = i in cc)

pub named-last : (t : Nodes) (g : Tag) (es : List Entry) (x : ℕ) → last_named t g es ≡ Some x → named t g x ≡ true
named-last t g es x h = by (last_where (entry_named t g) (above is_marker es)) refl h
  where
    by : (e : Option Entry) → last_where (entry_named t g) (above is_marker es) ≡ e → node_in e ≡ Some x → named t g x ≡ true
    by None i j = absurd (let k = j in cc)
    by (Some Marker) i j = absurd (let k = j in cc)
    by (Some (Node y)) i j = subst (λ v. named t g v ≡ true) (some-same y x j) (last_where-passes (entry_named t g) (above is_marker es) (Node y) i)

neither-tag : (d : Tag → Bool) (v : Bool) → d tag.Template ≡ not v → d tag.Table ≡ not v → (h : Tag) → d h ≡ v → (is_same h tag.Template || is_same h tag.Table) ≡ false
neither-tag d v a c h e = elim (cases_bool (is_same h tag.Template)) [
  | inl i ↦ absurd (apart v (sym e ∙ ap d (same-tag h tag.Template i) ∙ a))
  | inr i ↦ elim (cases_bool (is_same h tag.Table)) [
    | inl j ↦ absurd (apart v (sym e ∙ ap d (same-tag h tag.Table j) ∙ c))
    | inr j ↦ rw (i, j) refl
  ]
]
  where
    apart : (v : Bool) → v ≡ not v → ⊥
    apart true k = cc
    apart false k = cc

template-is : (h : Tag) → is_template h ≡ true → h ≡ tag.Template
template-is tag.Template e = refl
template-is _ e = absurd (let k = e in cc)

template-tag : (h : Tag) → is_template h ≡ true → (is_same h tag.Template || is_same h tag.Table) ≡ false → ⊥
template-tag h e n = elim (cases_bool (is_same h tag.Template)) [
  | inl i ↦ (let k : true ≡ false = rw i at n in cc)
  | inr i ↦ false≢true (sym i ∙ ap (λ v. is_same v tag.Template) (template-is h e))
]

-- a place before a node is before a table of the stack
module _ (t : Nodes) (low high : List ℕ) (none : (x : ℕ) → has x high ≡ true → table t x ≡ false) where
  last-in : (s : List ℕ) (x : ℕ) → last_where (table t) s ≡ Some x → has x s ≡ true
  last-in [] x h = absurd (let k = h in cc)
  last-in (y ∷ s) x h = elim (cases_bool (list_any (table t) s)) [
    | inl e ↦ has-more x y s (last-in s x (rw e at h))
    | inr e ↦ elim (cases_bool (table t y)) [
      | inl f ↦ one-more (some-same y x (rw (e, f) at h))
      | inr f ↦ absurd (let k = rw (e, f) at h in cc)
    ]
  ]
    where
      one-more : y ≡ x → has x (y ∷ s) ≡ true
      one-more q = rw (eqb-of x y (sym q)) refl

  before-low : (target : ℕ) (foster : Bool) (y : ℕ) → place_at t (low ++ high) target foster ≡ Before y → has y low ≡ true
  before-low target foster y h = elim (cases_bool (fosters t target foster)) [
    | inl e ↦ elim (cases_bool (list_any (template t) (above (table t) (low ++ high)))) [
      | inl f ↦ absurd (let k = rw (e, f) at h in cc)
      | inr f ↦ by (last_where (table t) (low ++ high)) refl (rw (e, f) at h)
    ]
    | inr e ↦ absurd (let k = rw e at h in cc)
  ]
    where
      by : (o : Option ℕ) → last_where (table t) (low ++ high) ≡ o → outside_table t (low ++ high) o ≡ Before y → has y low ≡ true
      by None i j = absurd (let k = j in cc)
      by (Some x) i j = go (parent_of t x) j
        where
          go : (w : Option ℕ) → by_table t (below (table t) (low ++ high)) x w ≡ Before y → has y low ≡ true
          go None m = absurd (let k = m in cc)
          go (Some w) m =
              let q : x ≡ y = (let k = m in cc) in
              subst (λ v. has v low ≡ true) q (elim (has-either x low high (last-in (low ++ high) x i)) [
                | inl a ↦ a
                | inr a ↦ absurd (let c = none x a in let d = last_where-passes (table t) (low ++ high) x i in cc)
              ])

-- A ROUND

-- clones have no contents
cloned-plain : (f : ℕ → NodeData) (xs : List ℕ) (i : ℕ) → contents_in (label_in (map (λ x. cloned (f x)) xs) i) ≡ None
cloned-plain f [] i = refl
cloned-plain f (x ∷ xs) zero = plain (f x)
  where
    plain : (d : NodeData) → contents_in (cloned d) ≡ None
    plain (Element e) = refl
    plain Document = refl
    plain (Contents h) = refl
    plain (Text s) = refl
    plain (Comment s j) = refl
    plain (Doctype a c s j) = refl
cloned-plain f (x ∷ xs) (suc i) = cloned-plain f xs i

module _ (g : Tag) (foster : Bool) (o p : Open) (r : Round g foster o p) where
  longer-by : length p.tree.labels ≡ length o.tree.labels + (length r.cloned_elements + 1)
  longer-by =
      let a = ap length r.labels_are in
      let b = length-append o.tree.labels (map (λ x. cloned (label_of o.tree x)) (r.cloned_elements ++ r.formatting_element ∷ [])) in
      let c = length-map (r.cloned_elements ++ r.formatting_element ∷ []) (λ x. cloned (label_of o.tree x)) in
      let d = length-append r.cloned_elements (r.formatting_element ∷ []) in
      omega (arith, a, b, c, d)

  old-label : (x : ℕ) → x < length o.tree.labels → label_of p.tree x ≡ label_of o.tree x
  old-label x l =
      ap (λ (ls : List NodeData). label_in ls x) r.labels_are
      ∙ get_or_append_left o.tree.labels (map (λ y. cloned (label_of o.tree y)) (r.cloned_elements ++ r.formatting_element ∷ [])) Document x l

  new-plain : (x : ℕ) → length o.tree.labels ≤ x → contents_at p.tree x ≡ None
  new-plain x l =
      ap (λ (ls : List NodeData). contents_in (label_in ls x)) r.labels_are
      ∙ ap contents_in (get-right o.tree.labels (map (λ y. cloned (label_of o.tree y)) (r.cloned_elements ++ r.formatting_element ∷ [])) x Document l)
      ∙ cloned-plain (label_of o.tree) (r.cloned_elements ++ r.formatting_element ∷ []) (x - length o.tree.labels)

  module _ (formatting : is_formatting g ≡ true) (tied : IsTied o.tree o.stack) where
    abbrev t : Nodes
    t = o.tree

    abbrev u : Nodes
    u = p.tree

    abbrev size : ℕ
    size = length o.tree.labels

    abbrev f : ℕ
    f = r.formatting_element

    abbrev block : ℕ
    block = r.furthest_block

    abbrev low : List ℕ
    low = r.lower ++ (r.common_ancestor ∷ [])

    abbrev rest : List ℕ
    rest = r.inner ++ (r.furthest_block ∷ r.upper)

    abbrev high : List ℕ
    high = r.formatting_element ∷ (r.inner ++ (r.furthest_block ∷ r.upper))

    abbrev fresh : List ℕ
    fresh = clones_down (length o.tree.labels) (length r.cloned_elements) ++ (r.furthest_block ∷ (r.new_element ∷ r.upper))

    abbrev at : Place
    at = place_at o.tree (low ++ high) r.common_ancestor foster

    stack-is : o.stack ≡ low ++ high
    stack-is = r.stack_was ∙ sym (append_assoc r.lower (r.common_ancestor ∷ []) high)

    stack-new : p.stack ≡ low ++ fresh
    stack-new = r.stack_is ∙ sym (append_assoc r.lower (r.common_ancestor ∷ []) fresh)

    was : IsTied t (low ++ high)
    was = subst (IsTied t) stack-is tied

    distinct : Distinct (low ++ high)
    distinct = was.once

    no-ends : list_any (ends t scope.Default) rest ≡ false
    no-ends = no-end t f low rest distinct (subst (λ v. element_in_scope t f v ≡ true) stack-is r.in_scope)

    f-formatting : is_formatting (tag_at t f) ≡ true
    f-formatting = ap is_formatting (same-tag (tag_at t f) g (named-last t g o.list f r.formatting)) ∙ formatting

    neither : (x : ℕ) → has x high ≡ true → (template t x || table t x) ≡ false
    neither x h = elim (has-head x f rest h) [
      | inl i ↦ neither-tag is_formatting true refl refl (tag_at t x) (ap (λ v. is_formatting (tag_at t v)) i ∙ f-formatting)
      | inr i ↦ neither-tag ends_default_scope false refl refl (tag_at t x) (not-passing (ends t scope.Default) x rest no-ends i)
    ]

    block-rest : has block rest ≡ true
    block-rest = has-right block r.inner (block ∷ r.upper) (has-first block r.upper)

    block-high : has block high ≡ true
    block-high = has-more block f rest block-rest

    upper-high : (x : ℕ) → has x r.upper ≡ true → has x high ≡ true
    upper-high x h = has-more x f rest (has-right x r.inner (block ∷ r.upper) (has-more x block r.upper h))

    -- the furthest block is not the first node
    not-first : 0 ≢ block
    not-first e =
        let a : is_special (tag_at t 0) ≡ true = ap (λ v. is_special (tag_at t v)) e ∙ r.block_special in
        let c : tag_at t 0 ≡ tag.Html = was.laid.root_tag a in
        let d : ends_default_scope (tag_at t block) ≡ true = ap (λ v. ends_default_scope (tag_at t v)) (sym e) ∙ ap ends_default_scope c in
        let i : ends_default_scope (tag_at t block) ≡ false = not-passing (ends t scope.Default) block rest no-ends block-rest in
        cc

    high-plain : (x : ℕ) → has x high ≡ true → contents_at t x ≡ None
    high-plain x h = by (contents_at t x) refl
      where
        not-template : (template t x || table t x) ≡ false → is_template (tag_at t x) ≡ true → ⊥
        not-template n e = template-tag (tag_at t x) e n

        by : (c : Option ℕ) → contents_at t x ≡ c → c ≡ None
        by None e = refl
        by (Some c) e = absurd (not-template (neither x h) (sym (was.laid.hosts x) ∙ ap is_some e))

    root-is : parent_of t (base t 0 low) ≡ None
    root-is = base-root t 0 low was.laid was.laid.root_alone

    over-high : (x : ℕ) → has x high ≡ true → IsOver t (base t 0 low) x
    over-high x h = over-plain t (base t 0 low) high high-plain (based-both t 0 low high was.based).1 x h

    in-size : (x : ℕ) → has x (low ++ high) ≡ true → x < size
    in-size x h = was.inside x h

    block-in : block < size
    block-in = in-size block (has-right block low high block-high)

    no-fewer : size ≤ r.new_element
    no-fewer = (let e = r.new_element_is in omega (arith, e))

    count-is : length u.labels ≡ r.new_element + 1
    count-is = (let e = r.new_element_is in let c = longer-by in omega (arith, e, c))

    kids : (x : ℕ) → children_of u x ≡ with_put t at (chain_top block size r.new_element) x (chained t block size r.new_element x)
    kids x = r.children_are x ∙ ap (λ v. with_put t (place_at t v r.common_ancestor foster) (chain_top block size r.new_element) x (chained t block size r.new_element x)) stack-is

    clear : (y : ℕ) → at ≡ Before y → (y ≢ block) × (parent_of t y ≢ Some block)
    clear y e =
        let m = before-low t low high (λ x h. either-false (template t x) (table t x) (neither x h)) r.common_ancestor foster y e in
        let l : y < length u.labels = (let a = in-size y (has-left y low high m) in let c = count-is in let d = no-fewer in omega (arith, a, c, d)) in
        let l2 : r.new_element < length u.labels = (let c = count-is in omega (arith, c)) in (
          distinct-cross low high distinct y block m block-high,
          λ h.
              let a = given-parent t u r.new_element block at was.laid r.well_formed block-in no-fewer kids y h in
              let c = new-parent t u r.new_element block at was.laid r.well_formed block-in no-fewer kids in
              let d = above-closed u r.well_formed y y r.new_element l (has-first y (ancestors u y)) a in
              let i = above-closed u r.well_formed y r.new_element block l (has-more r.new_element y (ancestors u y) d) c in
              let j = ordered-cross u low fresh (subst (IsOrdered u) stack-new r.is_open.ordered) y block m (has-right block (clones_down size (length r.cloned_elements)) (block ∷ (r.new_element ∷ r.upper)) (has-first block (r.new_element ∷ r.upper))) in
              false≢true (sym j ∙ i),
        )
      where
        either-false : (a c : Bool) → (a || c) ≡ false → c ≡ false
        either-false true c h = absurd (let k = h in cc)
        either-false false c h = h

    placed : (q : ℕ) × (parent_at t at ≡ Some q) × (q < size) × IsOver t (base t 0 low) q
    placed =
        place-based t low high r.common_ancestor foster was (none-of (λ x. template t x || table t x) high (λ x h e. (let k = neither x h in false≢true (sym k ∙ e))))
        (last-pushed r.lower r.common_ancestor)

    stays : (x s : ℕ) → x < size → parent_of t s ≡ None → IsOver t s x → IsOver u s x
    stays = over-stays t u r.new_element block at was.laid r.well_formed block-in no-fewer kids placed.0 (base t 0 low) placed.1 placed.2 clear count-is root-is (over-high block block-high) placed.3

    new-below : (x : ℕ) → size ≤ x → x < length u.labels → IsOver u (base t 0 low) x
    new-below = over-new t u r.new_element block at was.laid r.well_formed block-in no-fewer kids placed.0 (base t 0 low) placed.1 placed.2 clear count-is root-is (over-high block block-high) placed.3

    over-before : (c x : ℕ) → c < size → parent_of t c ≡ None → IsOver u c x → IsOver t c x ⊎ ((c ≡ base t 0 low) × (size ≤ x))
    over-before = over-was t u r.new_element block at was.laid r.well_formed block-in no-fewer kids placed.0 (base t 0 low) placed.1 placed.2 clear count-is root-is (over-high block block-high) placed.3

    old-contents : (x : ℕ) → x < size → contents_at u x ≡ contents_at t x
    old-contents x l = ap contents_in (old-label x l)

    -- the contents of a template were there
    host-old : (c h : ℕ) → host_at u c ≡ Some h → (c < size) × (host_at t c ≡ Some h)
    host-old c h e =
        let i = r.well_formed.templates.host_is c h e in
        let l : c < size = (elim (cases_bool (nat_lt h size)) [
          | inl j ↦ (was.laid.contents_is h c (sym (old-contents h (lt-of h size j)) ∙ i.1)).0
          | inr j ↦ absurd (some-none (contents_at u h) c i.1 (new-plain h (ge-of h size j)))
        ]) in
        (l, ap host_in (sym (old-label c l)) ∙ e)

    root-alone : parent_of u 0 ≡ None
    root-alone = by (parent_of u 0) refl
      where
        z : parent_of t 0 ≡ None
        z = was.laid.root_alone

        some : 0 < size
        some = was.laid.some

        go : (q x : ℕ) → x ≡ 0 → (v : ℕ) → IsStep t size r.new_element block q x v → ⊥
        go q x i v (stayed a) = some-none (parent_of t x) v a (ap (parent_of t) i ∙ z)
        go q x i v (at_place a (inl c)) = not-first (sym i ∙ c)
        go q x i v (at_place a (inr c)) = (let d = some in omega (arith, d, i, c))
        go q x i v (below_first a c) = not-first (sym i ∙ a)
        go q x i v (in_chain a c) = (let d = some in omega (arith, d, i, a))
        go q x i v (new_one a c) = (let d = some in let w = no-fewer in omega (arith, d, w, i, a))
        go q x i v (given a c) = some-none (parent_of t x) block a (ap (parent_of t) i ∙ z)

        by : (w : Option ℕ) → parent_of u 0 ≡ w → parent_of u 0 ≡ None
        by None e = e
        by (Some v) e = absurd (go placed.0 0 refl v (step t u r.new_element block at was.laid r.well_formed block-in no-fewer kids placed.0 0 v placed.1 e))

    laid-new : IsLaid u
    laid-new = record {
      some = (let a = was.laid.some in let c = count-is in omega (arith, c));
      as_many_parents = r.well_formed.as_many_parents;
      as_many_lists = r.well_formed.as_many_lists;
      parent_in = λ x v e. r.well_formed.parent_in v x e;
      child_has_parent = r.well_formed.child_has_parent;
      parent_has_child = r.well_formed.parent_has_child;
      once = r.well_formed.once;
      hosts = r.well_formed.templates.hosts;
      contents_is = r.well_formed.templates.contents_is;
      younger = λ c h e. was.laid.younger c h (host-old c h e).1;
      alone = λ c h e. r.well_formed.contents_alone c h e;
      root_alone = root-alone;
      root_host = ap host_in (old-label 0 was.laid.some) ∙ was.laid.root_host;
      root_tag = λ e. ap tag_in (old-label 0 was.laid.some) ∙ was.laid.root_tag (ap (λ v. is_special (tag_in v)) (sym (old-label 0 was.laid.some)) ∙ e);
      no_older = λ c h x e i.
          let a = host-old c h e in
          elim (over-before c x a.0 (was.laid.alone c h a.1) i) [
            | inl j ↦ was.laid.no_older c h x a.1 j
            | inr j ↦ (let l : c < size = a.0 in let m : size ≤ x = j.1 in omega (arith, l, m))
          ];
    }

    fresh-in : (x : ℕ) → has x fresh ≡ true → ((size ≤ x) × (x < length u.labels)) ⊎ (has x high ≡ true)
    fresh-in x h =
        let c = count-is in
        let e = r.new_element_is in
        elim (has-either x (clones_down size (length r.cloned_elements)) (block ∷ (r.new_element ∷ r.upper)) h) [
          | inl i ↦
              let a = sym (has-down size (length r.cloned_elements) x) ∙ i in
              elim (cases_bool (nat_le size x)) [
                | inl j ↦ (let d : nat_lt x (size + length r.cloned_elements) ≡ true = rw j at a in let w = lt-of x (size + length r.cloned_elements) d in inl (le-of size x j, omega (arith, c, e, w)))
                | inr j ↦ absurd (let d = rw j at a in cc)
              ]
          | inr i ↦ elim (has-head x block (r.new_element ∷ r.upper) i) [
            | inl j ↦ inr (subst (λ v. has v high ≡ true) (sym j) block-high)
            | inr j ↦ elim (has-head x r.new_element r.upper j) [
              | inl w ↦ (let y : x ≡ r.new_element = w in inl (omega (arith, e, y), omega (arith, c, y)))
              | inr w ↦ inr (upper-high x w)
            ]
          ]
        ]

    fresh-plain : (x : ℕ) → has x fresh ≡ true → contents_at u x ≡ None
    fresh-plain x h = elim (fresh-in x h) [
      | inl i ↦ new-plain x i.0
      | inr i ↦ old-contents x (in-size x (has-right x low high i)) ∙ high-plain x i
    ]

    fresh-below : (x : ℕ) → has x fresh ≡ true → IsOver u (base t 0 low) x
    fresh-below x h = elim (fresh-in x h) [
      | inl i ↦ new-below x i.0 i.1
      | inr i ↦ stays x (base t 0 low) (in-size x (has-right x low high i)) root-is (over-high x i)
    ]

    low-contents : (x : ℕ) → has x low ≡ true → contents_at u x ≡ contents_at t x
    low-contents x h = old-contents x (in-size x (has-left x low high h))

    low-based : AreBased u 0 low
    low-based = based-as t u was.laid 0 low was.laid.root_alone low-contents (λ x a h e i. stays x a (in-size x (has-left x low high h)) e i) (based-both t 0 low high was.based).0

    first-same : (xs : List ℕ) (a : ℕ) (ys zs : List ℕ) → first_of ((xs ++ (a ∷ [])) ++ ys) ≡ first_of ((xs ++ (a ∷ [])) ++ zs)
    first-same [] a ys zs = refl
    first-same (x ∷ xs) a ys zs = refl

    first-was : (x : ℕ) → first_of (low ++ fresh) ≡ Some x → first_of (low ++ high) ≡ Some x
    first-was x e = first-same r.lower r.common_ancestor high fresh ∙ e

    first-new : (x : ℕ) → first_of (low ++ fresh) ≡ Some x → tag_at u x ≡ tag.Html
    first-new x e = (let i = first-was x e in ap tag_in (old-label x (in-size x (first-in x (low ++ high) i))) ∙ was.first x i)

    first-low : (xs : List ℕ) (a x : ℕ) (ys : List ℕ) → first_of ((xs ++ (a ∷ [])) ++ ys) ≡ Some x → has x (xs ++ (a ∷ [])) ≡ true
    first-low [] a x ys e = (let i : x ≡ a = (let k = e in cc) in subst (λ v. has v (a ∷ []) ≡ true) (sym i) (has-first a []))
    first-low (y ∷ xs) a x ys e = (let i : x ≡ y = (let k = e in cc) in subst (λ v. has v (y ∷ (xs ++ (a ∷ []))) ≡ true) (sym i) (has-first y (xs ++ (a ∷ []))))

    -- the first open element stays where it is
    rooted-new : (x : ℕ) → first_of (low ++ fresh) ≡ Some x → (x ≡ 0) ⊎ (parent_of u x ≡ Some 0)
    rooted-new x e = (let i = first-was x e in elim (was.rooted x i) [ inl w ↦ inl w | inr w ↦ inr (by i w (parent_of u x) refl) ])
      where
        go : (q y : ℕ) → y ≡ x → y < size → y ≢ block → parent_of t y ≡ Some 0 → (v : ℕ) → IsStep t size r.new_element block q y v → v ≡ 0
        go q y i l n w v (stayed a) = (let k = sym a ∙ w in cc)
        go q y i l n w v (at_place a (inl c)) = absurd (n c)
        go q y i l n w v (at_place a (inr c)) = absurd (let d = no-fewer in omega (arith, l, c))
        go q y i l n w v (below_first a c) = absurd (n a)
        go q y i l n w v (in_chain a c) = absurd (omega (arith, l, a))
        go q y i l n w v (new_one a c) = absurd (let d = no-fewer in omega (arith, l, d, a))
        go q y i l n w v (given a c) = absurd (not-first (let k = sym a ∙ w in cc))

        by : first_of (low ++ high) ≡ Some x → parent_of t x ≡ Some 0 → (o : Option ℕ) → parent_of u x ≡ o → parent_of u x ≡ Some 0
        by i w None k =
            let l = in-size x (first-in x (low ++ high) i) in
            let m = over-root u 0 x (stays x 0 l was.laid.root_alone (upward x 0 w itself)) k in
            absurd (some-none (parent_of t x) 0 w (subst (λ (v : ℕ). parent_of t v ≡ None) m was.laid.root_alone))
        by i w (Some v) k =
            let l = in-size x (first-in x (low ++ high) i) in
            let n = distinct-cross low high distinct x block (first-low r.lower r.common_ancestor x high i) block-high in
            k ∙ ap Some (go placed.0 x refl l n w v (step t u r.new_element block at was.laid r.well_formed block-in no-fewer kids placed.0 x v placed.1 k))

    tied-new : IsTied u (low ++ fresh)
    tied-new = record {
      laid = laid-new;
      inside = λ x h. r.is_open.stack_in x (subst (λ v. has x v ≡ true) (sym stack-new) h);
      once = subst Distinct stack-new r.is_open.stack_once;
      first = first-new;
      rooted = rooted-new;
      based = based-join u 0 low fresh low-based (subst (λ v. AreBased u v fresh) (sym (base-as t u was.laid 0 low low-contents)) (based-plain u (base t 0 low) fresh fresh-plain fresh-below));
    }

    pub round-tied : IsTied p.tree p.stack
    round-tied = subst (IsTied u) (sym stack-new) tied-new

-- FRONTS OF A STACK, AND TREES THAT ARE THE SAME BUT FOR MARKS AND STEPS

front-below : (p : ℕ → Bool) (xs : List ℕ) → (ys : List ℕ) × (xs ≡ below p xs ++ ys)
front-below p [] = ([], refl)
front-below p (x ∷ xs) = elim (cases_bool (list_any p xs)) [
  | inl e ↦ (let r = front-below p xs in (r.0, ap (λ v. x ∷ v) r.1 ∙ rw e refl))
  | inr e ↦ (x ∷ xs, rw e refl)
]

tied-same : (t u : Nodes) (s : List ℕ) → IsSameTree t u → IsTied t s → IsTied u s
tied-same t u s e h = alike-tied t u (same-alike t u e) s h

-- ADOPTION

rounds-tied : (g : Tag) (foster : Bool) (n : ℕ) (o p : Open) → is_formatting g ≡ true → IsTied o.tree o.stack → Rounds g foster n o p → IsTied p.tree p.stack
rounds-tied g foster _ _ _ f h (no_round o) = h
rounds-tied g foster _ _ _ f h (one_more n o p q rs r) = round-tied g foster p q r f (rounds-tied g foster n o p f h rs)

ends-tied : (g : Tag) (end : AdoptEnd) (o p : Open) → IsTied o.tree o.stack → Ends g end o p → IsTied p.tree p.stack
ends-tied g _ _ _ h (closes o p k) =
    let c = front-below (eqb k.formatting_element) o.stack in
    subst (IsTied p.tree) (sym k.stack_is) (tied-same o.tree p.tree (below (eqb k.formatting_element) o.stack) k.tree_is (front-tied o.tree (below (eqb k.formatting_element) o.stack) c.0 (subst (IsTied o.tree) c.1 h)))
ends-tied g _ _ _ h (forgets o p k) = subst (IsTied p.tree) (sym k.stack_is) (tied-same o.tree p.tree o.stack k.tree_is h)
ends-tied g _ _ _ h (out_of_scope o p k) = subst (IsTied p.tree) (sym k.unchanged.stack_is) (tied-same o.tree p.tree o.stack k.unchanged.tree_is h)
ends-tied g _ _ _ h (no_entry o p k) = subst (IsTied p.tree) (sym k.unchanged.stack_is) (tied-same o.tree p.tree o.stack k.unchanged.tree_is h)

pub adopted-tied : (g : Tag) (foster : Bool) (end : AdoptEnd) (o p : Open) → is_formatting g ≡ true → IsTied o.tree o.stack → Adopted g foster end o p → IsTied p.tree p.stack
adopted-tied g foster _ _ _ f h (popped o p k) = tied-same o.tree p.tree p.stack k.tree_is (front-tied o.tree p.stack (k.current ∷ []) (subst (IsTied o.tree) k.stack_was h))
adopted-tied g foster _ _ _ f h (eight o p c r) = rounds-tied g foster 8 o p f h r
adopted-tied g foster _ _ _ f h (fewer end n o p q c b r e) = ends-tied g end p q (rounds-tied g foster n o p f h r) e

-- WHAT ADOPTION KEEPS OF THE NODES

abbrev pub AreKept : Nodes → Nodes → Type 0
AreKept t u = (length t.labels ≤ length u.labels) × ((x : ℕ) → x < length t.labels → contents_at u x ≡ contents_at t x)

kept-same : (t u : Nodes) → IsSameTree t u → AreKept t u
kept-same t u e =
    let q : u.labels ≡ t.labels = ap (λ (v : Nodes). v.labels) e in
    subst (λ ls. (length t.labels ≤ length ls) × ((x : ℕ) → x < length t.labels → contents_in (label_in ls x) ≡ contents_at t x)) (sym q) (le_refl (length t.labels), λ x l. refl)

kept-then : (t u v : Nodes) → AreKept t u → AreKept u v → AreKept t v
kept-then t u v a c = (
  (let i = a.0 in let j = c.0 in omega (arith, i, j)),
  λ x l. c.1 x (let i = a.0 in omega (arith, i, l)) ∙ a.1 x l,
)

rounds-kept : (g : Tag) (foster : Bool) (n : ℕ) (o p : Open) → Rounds g foster n o p → AreKept o.tree p.tree
rounds-kept g foster _ _ _ (no_round o) = (le_refl (length o.tree.labels), λ x l. refl)
rounds-kept g foster _ _ _ (one_more n o p q rs r) =
    kept-then o.tree p.tree q.tree (rounds-kept g foster n o p rs) ((let c = longer-by g foster p q r in omega (arith, c)), λ x l. ap contents_in (old-label g foster p q r x l))

ends-kept : (g : Tag) (end : AdoptEnd) (o p : Open) → Ends g end o p → AreKept o.tree p.tree
ends-kept g _ _ _ (closes o p k) = kept-same o.tree p.tree k.tree_is
ends-kept g _ _ _ (forgets o p k) = kept-same o.tree p.tree k.tree_is
ends-kept g _ _ _ (out_of_scope o p k) = kept-same o.tree p.tree k.unchanged.tree_is
ends-kept g _ _ _ (no_entry o p k) = kept-same o.tree p.tree k.unchanged.tree_is

pub adopted-kept : (g : Tag) (foster : Bool) (end : AdoptEnd) (o p : Open) → Adopted g foster end o p
    → (length o.tree.labels ≤ length p.tree.labels) × ((x : ℕ) → x < length o.tree.labels → contents_at p.tree x ≡ contents_at o.tree x)
adopted-kept g foster _ _ _ (popped o p k) = kept-same o.tree p.tree k.tree_is
adopted-kept g foster _ _ _ (eight o p c r) = rounds-kept g foster 8 o p r
adopted-kept g foster _ _ _ (fewer end n o p q c b r e) = kept-then o.tree p.tree q.tree (rounds-kept g foster n o p r) (ends-kept g end p q e)

-- WHAT IS LISTED

formatting-simple : (t : Nodes) (xs : List ℕ) → ((x : ℕ) → has x xs ≡ true → x < length t.labels) → ((x : ℕ) → has x xs ≡ true → is_formatting (tag_at t x) ≡ true) → AreSimple t xs
formatting-simple t xs i f = record {
  inside = i;
  no_host = λ x h. by x (f x h) (host_at t x) refl;
  no_template = λ x h. no_template (tag_at t x) (f x h);
}
  where
    by : (x : ℕ) → is_formatting (tag_at t x) ≡ true → (o : Option ℕ) → host_at t x ≡ o → host_at t x ≡ None
    by x g None e = e
    by x g (Some c) e = absurd (let k = sym (ap is_formatting (host-tag (label_of t x) c e)) ∙ g in cc)

    no_template : (v : Tag) → is_formatting v ≡ true → is_template v ≡ false
    no_template tag.Template g = absurd (let k = g in cc)
    no_template v g = refl

pub entry-left : (f : ℕ) (l : List Entry) (x : ℕ) → has x (nodes_of (without_node f l)) ≡ true → has x (nodes_of l) ≡ true
entry-left f l x h = elim (cases_bool (has x (nodes_of l))) [
  | inl e ↦ e
  | inr e ↦ absurd (let k = entries-without (is_node f) l x e in cc)
]

rounds-simple : (g : Tag) (foster : Bool) (n : ℕ) (o p : Open) → AreSimple o.tree (nodes_of o.list) → Rounds g foster n o p → AreSimple p.tree (nodes_of p.list)
rounds-simple g foster _ _ _ h (no_round o) = h
rounds-simple g foster _ _ _ h (one_more n o p q rs r) = formatting-simple q.tree (nodes_of q.list) r.is_open.list_in r.is_open.formatting

same-simple : (t u : Nodes) (l m : List Entry) → IsSameTree t u → ((x : ℕ) → has x (nodes_of m) ≡ true → has x (nodes_of l) ≡ true) → AreSimple t (nodes_of l) → AreSimple u (nodes_of m)
same-simple t u l m e f h = part-simple u (nodes_of l) (nodes_of m) f (alike-simple t u (nodes_of l) (same-alike t u e) h)

ends-simple : (g : Tag) (end : AdoptEnd) (o p : Open) → AreSimple o.tree (nodes_of o.list) → Ends g end o p → AreSimple p.tree (nodes_of p.list)
ends-simple g _ _ _ h (closes o p k) = same-simple o.tree p.tree o.list p.list k.tree_is (λ x i. entry-left k.formatting_element o.list x (subst (λ (l : List Entry). has x (nodes_of l) ≡ true) k.list_is i)) h
ends-simple g _ _ _ h (forgets o p k) = same-simple o.tree p.tree o.list p.list k.tree_is (λ x i. entry-left k.formatting_element o.list x (subst (λ (l : List Entry). has x (nodes_of l) ≡ true) k.list_is i)) h
ends-simple g _ _ _ h (out_of_scope o p k) = same-simple o.tree p.tree o.list p.list k.unchanged.tree_is (λ x i. subst (λ (l : List Entry). has x (nodes_of l) ≡ true) k.unchanged.list_is i) h
ends-simple g _ _ _ h (no_entry o p k) = same-simple o.tree p.tree o.list p.list k.unchanged.tree_is (λ x i. subst (λ (l : List Entry). has x (nodes_of l) ≡ true) k.unchanged.list_is i) h

pub adopted-simple : (g : Tag) (foster : Bool) (end : AdoptEnd) (o p : Open) → AreSimple o.tree (nodes_of o.list) → Adopted g foster end o p → AreSimple p.tree (nodes_of p.list)
adopted-simple g foster _ _ _ h (popped o p k) = same-simple o.tree p.tree o.list p.list k.tree_is (λ x i. subst (λ (l : List Entry). has x (nodes_of l) ≡ true) k.list_is i) h
adopted-simple g foster _ _ _ h (eight o p c r) = rounds-simple g foster 8 o p h r
adopted-simple g foster _ _ _ h (fewer end n o p q c b r e) = ends-simple g end p q (rounds-simple g foster n o p h r) e

-- SOMETHING STAYS OPEN

-- the first open element is an html, and so no formatting element
first-apart : (t : Nodes) (s ys : List ℕ) (x : ℕ) (g : Tag) → IsTied t (s ++ x ∷ ys) → tag_at t x ≡ g → is_formatting g ≡ true → is_any s ≡ true
first-apart t [] ys x g k e f = absurd (let m = ap is_formatting (sym (k.first x refl) ∙ e) ∙ f in cc)
first-apart t (y ∷ s) ys x g k e f = refl

rounds-any : (g : Tag) (foster : Bool) (n : ℕ) (o p : Open) → is_any o.stack ≡ true → Rounds g foster n o p → is_any p.stack ≡ true
rounds-any g foster _ _ _ h (no_round o) = h
rounds-any g foster _ _ _ h (one_more n o p q rs r) = ap is_any r.stack_is ∙ by r.lower
  where
    by : (xs : List ℕ) → is_any (xs ++ (r.common_ancestor ∷ (clones_down (length p.tree.labels) (length r.cloned_elements) ++ (r.furthest_block ∷ r.new_element ∷ r.upper)))) ≡ true
    by [] = refl
    by (x ∷ xs) = refl

below-split : (f : ℕ) (s : List ℕ) → has f s ≡ true → (ys : List ℕ) × (s ≡ below (eqb f) s ++ f ∷ ys)
below-split f s h =
    let r = split-last (eqb f) s (any-has f s ∙ h) in
    (above (eqb f) s, r.1 ∙ ap (λ v. below (eqb f) s ++ v ∷ above (eqb f) s) (sym (eqb-true f r.0 r.2)))

ends-any : (g : Tag) (end : AdoptEnd) (o p : Open) → is_formatting g ≡ true → IsTied o.tree o.stack → is_any o.stack ≡ true → Ends g end o p → is_any p.stack ≡ true
ends-any g _ _ _ f t h (closes o p k) =
    let c = below-split k.formatting_element o.stack k.on_stack in
    ap is_any k.stack_is ∙ first-apart o.tree (below (eqb k.formatting_element) o.stack) c.0 k.formatting_element g (subst (IsTied o.tree) c.1 t) (same-tag (tag_at o.tree k.formatting_element) g (named-last o.tree g o.list k.formatting_element k.formatting)) f
ends-any g _ _ _ f t h (forgets o p k) = ap is_any k.stack_is ∙ h
ends-any g _ _ _ f t h (out_of_scope o p k) = ap is_any k.unchanged.stack_is ∙ h
ends-any g _ _ _ f t h (no_entry o p k) = ap is_any k.unchanged.stack_is ∙ h

pub adopted-any : (g : Tag) (foster : Bool) (end : AdoptEnd) (o p : Open) → is_formatting g ≡ true → IsTied o.tree o.stack → is_any o.stack ≡ true → Adopted g foster end o p → is_any p.stack ≡ true
adopted-any g foster _ _ _ f t h (popped o p k) = first-apart o.tree p.stack [] k.current g (subst (IsTied o.tree) k.stack_was t) (same-tag (tag_at o.tree k.current) g k.is_named) f
adopted-any g foster _ _ _ f t h (eight o p c r) = rounds-any g foster 8 o p h r
adopted-any g foster _ _ _ f t h (fewer end n o p q c b r e) = ends-any g end p q f (rounds-tied g foster n o p f t r) (rounds-any g foster n o p h r) e
