-- The moves of a round, edit by edit.
use Rattle.std.proofs.Common.{◌≡◌, ◌≢◌, ℕ, ◌+◌, ◌-◌, ◌<◌, ◌≤◌, true, false, cond, eqb, nat_lt, nat_le, ◌&&◌, List, [], ◌∷◌, ◌++◌, length, Option, Some, None, inl, inr, refl, sym, ◌∙◌, ap, arith}
use Rattle.std.proofs.lemmas.Bool.Decides.{nat_tests}
use Rattle.html_arena.specs.declared.data.NodeData.{NodeData}
use Rattle.html_arena.specs.Data.{is_linkable, label_in}
use Rattle.html_arena.specs.Laws.{IsLinked, IsMoved, IsUnlinked}
use Rattle.html_arena.specs.Siblings.{has, without, is_in, put_before}
use Rattle.html_arena.specs.Tree.{Tree, WellFormed, parent_of, children_of, ancestors, appended}
use Rattle.html_arena.proofs.Laws.{ancestors-root, not_child, without-none}
use Rattle.html_arena.proofs.Siblings.{eqb-apart}
use Rattle.html_open.specs.Hanging.{wrapped_children, wrapped_parent, chain_children, chain_parent, chain_top, StandAlone, SameNodes, Chained, Hung, IsPut, hung_parent, with_put}
use Rattle.html_open.specs.declared.places.Place.{Place}
use Rattle.html_open.specs.declared.places.Place.TheVariants.{Last, Before}
use Rattle.html_open.specs.Placing.{IsPlace, parent_at, way_up}
use Rattle.html_open.proofs.Keeps.{cases_bool, cases_eqb, eqb-self}
use Rattle.html_open.proofs.Upwards.{has-first, not_own, not-above, way-closed}

-- tests of numbers
pub lt-true : (n m : ℕ) → n < m → nat_lt n m ≡ true
lt-true n m h = grind (arith, nat_tests)

pub lt-false : (n m : ℕ) → m ≤ n → nat_lt n m ≡ false
lt-false n m h = grind (arith, nat_tests)

pub le-true : (n m : ℕ) → n ≤ m → nat_le n m ≡ true
le-true n m h = grind (arith, nat_tests)

pub le-false : (n m : ℕ) → m < n → nat_le n m ≡ false
le-false n m h = grind (arith, nat_tests)

pub le-of : (n m : ℕ) → nat_le n m ≡ true → n ≤ m
le-of n m h = grind (arith, nat_tests)

pub past : (n x y m : ℕ) → m ≤ y → (nat_le n x && nat_lt y m) ≡ false
past n x y m h = elim (cases_bool (nat_le n x)) [ inl a ↦ rw (a, lt-false y m h) refl | inr a ↦ rw a refl ]

pub short : (n x y m : ℕ) → x < n → (nat_le n x && nat_lt y m) ≡ false
short n x y m h = rw (le-false n x h) refl

pub inside : (n x y m : ℕ) → n ≤ x → y < m → (nat_le n x && nat_lt y m) ≡ true
inside n x y m a b = rw (le-true n x a, lt-true y m b) refl

pub never : (n x y : ℕ) → x ≤ y → (nat_le n x && nat_lt y n) ≡ false
never n x y h = elim (cases_bool (nat_le n x)) [ inl a ↦ (let b = le-of n x a in rw (a, lt-false y n (omega arith)) refl) | inr a ↦ rw a refl ]

pub lt-next : (y i : ℕ) → y ≢ i → nat_lt y i ≡ nat_lt y (i + 1)
lt-next y i h = grind (arith, nat_tests)

pub next : (n x y i : ℕ) → y ≢ i → (nat_le n x && nat_lt y i) ≡ (nat_le n x && nat_lt y (i + 1))
next n x y i h = ap (λ b. nat_le n x && b) (lt-next y i h)

pub lt-of : (n m : ℕ) → nat_lt n m ≡ true → n < m
lt-of n m h = grind (arith, nat_tests)

pub ge-of : (n m : ℕ) → nat_lt n m ≡ false → m ≤ n
ge-of n m h = grind (arith, nat_tests)

pub eqb-of : (x y : ℕ) → x ≡ y → eqb x y ≡ true
eqb-of x y h = grind (arith, nat_tests)

-- g is taken from its parent, its children go to k, and k becomes its one child
module _ (t t1 t2 : Tree) (g k : ℕ) (w : WellFormed t) (u : IsUnlinked t t1 g) (m : IsMoved t1 t2 g k) (g_in : g < length t.labels) (ne : g ≢ k)
    (alone : parent_of t k ≡ None) (childless : children_of t k ≡ []) where
  ne' : k ≢ g
  ne' e = ne (sym e)

  at_g : children_of t1 g ≡ children_of t g
  at_g = u.children_are g ∙ without-none g (children_of t g) (not_own t w g g_in)

  at_k : children_of t1 k ≡ []
  at_k = u.children_are k ∙ ap (without g) childless

  own : has g (children_of t g) ≡ false
  own = not_own t w g g_in

  up : (x : ℕ) → parent_of t2 x ≡ cond (has x (children_of t g)) (Some k) (cond (eqb x g) None (parent_of t x))
  up x = m.parent_is x ∙ ap (λ (xs : List ℕ). cond (has x xs) (Some k) (parent_of t1 x)) at_g ∙ ap (cond (has x (children_of t g)) (Some k)) (u.parent_is x)

  root : parent_of t2 g ≡ None
  root = up g ∙ rw (own, eqb-self g) refl

  pub wrapped-not_above : has k (g ∷ ancestors t2 g) ≡ false
  wrapped-not_above = rw (ancestors-root t2 g root, eqb-apart k g ne') refl

  pub wrapped-alone : parent_of t2 k ≡ None
  wrapped-alone = up k ∙ rw (not_child t w k g (λ h. (let a = alone in cc)), eqb-apart k g ne') alone

  down : (x : ℕ) → children_of t2 x ≡ cond (eqb x k) (children_of t g) (cond (eqb x g) [] (without g (children_of t x)))
  down x = m.children_are x ∙ ap (λ (xs : List ℕ). cond (eqb x k) xs (cond (eqb x g) [] (children_of t1 x))) (ap (λ (ys : List ℕ). ys ++ children_of t1 g) at_k ∙ at_g)
      ∙ ap (λ (xs : List ℕ). cond (eqb x k) (children_of t g) (cond (eqb x g) [] xs)) (u.children_are x)

  none-left : children_of t2 g ≡ []
  none-left = down g ∙ rw (eqb-apart g k ne, eqb-self g) refl

  module _ (t3 : Tree) (l : IsLinked t2 t3 k g (children_of t2 g ++ k ∷ [])) where
    pub wrapped-children : (x : ℕ) → children_of t3 x ≡ wrapped_children t g k x
    wrapped-children x =
        l.children_are x ∙ ap (λ (xs : List ℕ). cond (eqb x g) (xs ++ k ∷ []) (children_of t2 x)) none-left
        ∙ ap (cond (eqb x g) (k ∷ [])) (down x)
        ∙ elim (cases_eqb x g) as (λ _. cond (eqb x g) (k ∷ []) (cond (eqb x k) (children_of t g) (cond (eqb x g) [] (without g (children_of t x)))) ≡ wrapped_children t g k x) [
          | inl e ↦ rw e.0 refl
          | inr e ↦ rw e.0 refl
        ]

    pub wrapped-parents : (x : ℕ) → parent_of t3 x ≡ wrapped_parent t g k x
    wrapped-parents x = l.parent_is x ∙ ap (cond (eqb x k) (Some g)) (up x)

pub top-below : (g n m : ℕ) → g < n → n ≤ m → chain_top g n m < m
top-below g n m a b = elim (cases_eqb n m) [
  | inl e ↦ rw e.0 (let f = e.1 in omega arith)
  | inr e ↦ rw e.0 (let f = e.1 in omega arith)
]

pub top-next : (g n m : ℕ) → n ≤ m → m ≡ chain_top g n (m + 1)
top-next g n m h = rw (eqb-apart n (m + 1) (λ q. omega arith)) (omega arith)

pub chain-none : (t : Tree) (g n : ℕ) → Chained t t g n n
chain-none t g n = record {
  nodes = record { labels_are = refl; marks_are = refl; held_is = refl; limits_are = refl };
  children_are = λ x. rw (never n x x (omega arith)) refl;
  parents_are = λ x. rw (lt-false n n (omega arith), never n x (x + 1) (omega arith)) refl;
}

-- one node more is in the chain
module _ (old t u : Tree) (g n i m : ℕ) (low : g < n) (n_le : n ≤ i) (lt : i < m) (done : Chained old t g n i) (fresh : StandAlone old n m) where
  -- the node that joins stands alone
  next-children : children_of t i ≡ []
  next-children = done.children_are i ∙ rw (past n i i i (omega arith)) (fresh.no_children i n_le lt)

  next-parent : parent_of t i ≡ None
  next-parent =
      done.parents_are i
      ∙ (let e : eqb i g ≡ false = eqb-apart i g (λ q. omega arith) in
      let a : (nat_lt n i && eqb i g) ≡ false = (elim (cases_bool (nat_lt n i)) [ inl b ↦ rw (b, e) refl | inr b ↦ rw b refl ]) in
      rw (a, past n i (i + 1) i (omega arith)) (fresh.no_parent i n_le lt))

  pub chain-alone : parent_of old g ≡ None → parent_of t (chain_top g n i) ≡ None
  chain-alone h = done.parents_are (chain_top g n i) ∙ elim (cases_eqb n i) [
    | inl q ↦
        let r = q.1 in
        rw (q.0, lt-false n i (omega arith), short n g (g + 1) i low) h
    | inr q ↦
        let r = q.1 in
        let lt' : n < i = omega arith in
        let e : eqb (i - 1) g ≡ false = eqb-apart (i - 1) g (λ s. omega arith) in
        let a : (nat_lt n i && eqb (i - 1) g) ≡ false = (elim (cases_bool (nat_lt n i)) [ inl b ↦ rw (b, e) refl | inr b ↦ rw b refl ]) in
        let j : (i - 1) + 1 ≡ i = omega arith in
        rw (q.0, a, j, past n (i - 1) i i (omega arith)) (fresh.no_parent (i - 1) (omega arith) (omega arith))
  ]

  pub chain-not_above : has (chain_top g n i) (i ∷ ancestors t i) ≡ false
  chain-not_above =
      let b = top-below g n i low n_le in
      rw (ancestors-root t i next-parent, eqb-apart (chain_top g n i) i (λ e. (let c : chain_top g n i < i = b in omega arith))) refl

  module _ (l : IsLinked t u (chain_top g n i) i (children_of t i ++ chain_top g n i ∷ [])) (same : SameNodes t u) where
    child-links : (x : ℕ) → cond (eqb x i) (chain_top g n i ∷ []) (chain_children old g n i x) ≡ chain_children old g n (i + 1) x
    child-links x = elim (cases_eqb x i) [
      | inl e ↦
          rw (e.0, e.1, inside n i i (i + 1) n_le (omega arith)) (elim (cases_eqb n i) as (λ _. cond (eqb n i) g (i - 1) ∷ [] ≡ cond (eqb i n) g (i - 1) ∷ []) [
            | inl f ↦ rw (f.1, eqb-self i) refl
            | inr f ↦ rw (f.0, eqb-apart i n (λ q. f.1 (sym q))) refl
          ])
      | inr e ↦
          rw (e.0, next n x x i e.1) refl
    ]

    first-link : n ≡ i → (x : ℕ) → cond (eqb x g) (Some i) (chain_parent old g n i x) ≡ chain_parent old g n (i + 1) x
    first-link r x =
        rw (lt-false n i (omega arith), lt-true n (i + 1) (omega arith)) (elim (cases_eqb x g) [
          | inl e ↦ rw e.0 (ap Some (sym r))
          | inr e ↦ rw e.0 (elim (cases_bool (nat_le n x)) [
            | inl f ↦ (let h = le-of n x f in rw (f, lt-false (x + 1) i (omega arith), lt-false (x + 1) (i + 1) (omega arith)) refl)
            | inr f ↦ rw f refl
          ])
        ])

    later-link : n ≢ i → (x : ℕ) → cond (eqb x (i - 1)) (Some i) (chain_parent old g n i x) ≡ chain_parent old g n (i + 1) x
    later-link r x =
        let b : n < i = omega arith in
        let j : (i - 1) + 1 ≡ i = omega arith in
        let f : eqb (i - 1) g ≡ false = eqb-apart (i - 1) g (λ z. omega arith) in
        rw (lt-true n i b, lt-true n (i + 1) (omega arith)) (elim (cases_eqb x (i - 1)) [
          | inl e ↦ rw (e.0, e.1, f, j, inside n (i - 1) i (i + 1) (omega arith) (omega arith)) refl
          | inr e ↦ (let s = e.1 in rw (e.0, next n x (x + 1) i (λ z. s (omega arith))) refl)
        ])

    parent-links : (x : ℕ) → cond (eqb x (chain_top g n i)) (Some i) (chain_parent old g n i x) ≡ chain_parent old g n (i + 1) x
    parent-links x = elim (cases_eqb n i) [
      | inl q ↦ ap (λ (y : ℕ). cond (eqb x y) (Some i) (chain_parent old g n i x)) (rw q.0 refl) ∙ first-link q.1 x
      | inr q ↦ ap (λ (y : ℕ). cond (eqb x y) (Some i) (chain_parent old g n i x)) (rw q.0 refl) ∙ later-link q.1 x
    ]

    pub chain-step : Chained old u g n (i + 1)
    chain-step = record {
      nodes = record {
        labels_are = same.labels_are ∙ done.nodes.labels_are;
        marks_are = same.marks_are ∙ done.nodes.marks_are;
        held_is = same.held_is ∙ done.nodes.held_is;
        limits_are = same.limits_are ∙ done.nodes.limits_are;
      };
      children_are = λ x. l.children_are x ∙ ap (λ (ys : List ℕ). cond (eqb x i) (ys ++ chain_top g n i ∷ []) (children_of t x)) next-children ∙ ap (cond (eqb x i) (chain_top g n i ∷ [])) (done.children_are x) ∙ child-links x;
      parents_are = λ x. l.parent_is x ∙ ap (cond (eqb x (chain_top g n i)) (Some i)) (done.parents_are x) ∙ parent-links x;
    }

-- what the append of a node leaves
pub same-appended : (t u : Tree) (p c : ℕ) → u ≡ appended t p c → SameNodes t u
same-appended t u p c e = record {
  labels_are = ap (λ (v : Tree). v.labels) e;
  marks_are = ap (λ (v : Tree). v.marks) e;
  held_is = ap (λ (v : Tree). v.held) e;
  limits_are = ap (λ (v : Tree). v.limits) e;
}

module _ (t t1 t2 : Tree) (g n k : ℕ) (at : Place) (w : WellFormed t) (low : g < n) (n_le : n ≤ k) (k_in : k < length t.labels) (fresh : StandAlone t n (k + 1)) (place_in : IsPlace t at)
    (older : (y : ℕ) → has y (way_up t at) ≡ true → (y < n) × (y ≢ g)) (same1 : SameNodes t t1)
    (children1 : (x : ℕ) → children_of t1 x ≡ wrapped_children t g k x) (parents1 : (x : ℕ) → parent_of t1 x ≡ wrapped_parent t g k x) where
  g_in : g < length t.labels
  g_in = omega arith

  pub block-alone : parent_of t1 g ≡ None
  block-alone = parents1 g ∙ rw (eqb-apart g k (λ q. omega arith), not_own t w g g_in, eqb-self g) refl

  fresh-parent : (x : ℕ) → n ≤ x → x < k → parent_of t1 x ≡ None
  fresh-parent x a b =
      let h = fresh.no_parent x a (omega arith) in
      let e : eqb x k ≡ false = eqb-apart x k (λ q. omega arith) in
      let f : eqb x g ≡ false = eqb-apart x g (λ q. omega arith) in
      parents1 x ∙ rw (e, not_child t w x g (λ q. (let r = h in cc)), f) h

  pub fresh-left : StandAlone t1 n k
  fresh-left = record {
    no_parent = fresh-parent;
    no_children = λ x a b.
        let e : eqb x k ≡ false = eqb-apart x k (λ q. omega arith) in
        let f : eqb x g ≡ false = eqb-apart x g (λ q. omega arith) in
        children1 x ∙ rw (f, e) (ap (without g) (fresh.no_children x a (omega arith)));
    linkable = λ x a b. ap (λ (ls : List NodeData). is_linkable (label_in ls x)) same1.labels_are ∙ fresh.linkable x a (omega arith);
  }

  module _ (ch : Chained t1 t2 g n k) where
    -- the parents on the way up from the place are as they were
    way-same : (z : ℕ) → has z (way_up t at) ≡ true → parent_of t2 z ≡ parent_of t z
    way-same z h =
        let o = older z h in
        let o0 : z < n = o.0 in
        let a : eqb z g ≡ false = eqb-apart z g o.1 in
        let b : (nat_lt n k && eqb z g) ≡ false = (elim (cases_bool (nat_lt n k)) [ inl q ↦ rw (q, a) refl | inr q ↦ rw q refl ]) in
        let c : (nat_le n z && nat_lt (z + 1) k) ≡ false = short n z (z + 1) k o0 in
        let d : eqb z k ≡ false = eqb-apart z k (λ q. omega arith) in
        let f : has z (children_of t g) ≡ false = not_child t w z g (λ q. (older g (way-closed t w at (λ y j. let r = (older y j).0 in omega arith) z g h q)).1 refl) in
        ch.parents_are z ∙ rw (b, c) (parents1 z ∙ rw (d, f, a) refl)

    pub hang-place : IsPlace t2 at
    hang-place = go at place_in (λ z h. way-same z h)
      where
        same-length : length t2.labels ≡ length t.labels
        same-length = ap length ch.nodes.labels_are ∙ ap length same1.labels_are

        go : (p : Place) → IsPlace t p → ((z : ℕ) → has z (way_up t p) ≡ true → parent_of t2 z ≡ parent_of t z) → IsPlace t2 p
        go (Last p) b s = (let l = same-length in omega arith)
        go (Before p) b s = ((let l = same-length in let c = b.0 in omega arith), λ q. b.1 (sym (s p (has-first p (ancestors t p))) ∙ q))

    pub hang-alone : parent_of t2 (chain_top g n k) ≡ None
    hang-alone = ch.parents_are (chain_top g n k) ∙ elim (cases_eqb n k) [
      | inl q ↦
          let r = q.1 in
          rw (q.0, lt-false n k (omega arith), short n g (g + 1) k low) block-alone
      | inr q ↦
          let r = q.1 in
          let e : eqb (k - 1) g ≡ false = eqb-apart (k - 1) g (λ s. omega arith) in
          let a : (nat_lt n k && eqb (k - 1) g) ≡ false = (elim (cases_bool (nat_lt n k)) [ inl b ↦ rw (b, e) refl | inr b ↦ rw b refl ]) in
          let j : (k - 1) + 1 ≡ k = omega arith in
          rw (q.0, a, j, past n (k - 1) k k (omega arith)) (fresh-parent (k - 1) (omega arith) (omega arith))
    ]

    top-not : (z : ℕ) → has z (way_up t at) ≡ true → chain_top g n k ≢ z
    top-not z h e = (let o = older z h in elim (cases_eqb n k) [
      | inl q ↦ (let f : g ≡ z = sym (rw q.0 refl) ∙ e in o.1 (sym f))
      | inr q ↦ (let r = q.1 in let f : k - 1 ≡ z = sym (rw q.0 refl) ∙ e in let b : z < n = o.0 in omega arith)
    ])

    pub hang-not_above : has (chain_top g n k) (way_up t2 at) ≡ false
    hang-not_above = go at (λ z h. top-not z h) (λ z p h e. way-closed t w at (λ y j. let r = (older y j).0 in omega arith) z p h (sym (way-same z h) ∙ e))
      where
        go : (p : Place) → ((z : ℕ) → has z (way_up t p) ≡ true → chain_top g n k ≢ z)
            → ((z q : ℕ) → has z (way_up t p) ≡ true → parent_of t2 z ≡ Some q → has q (way_up t p) ≡ true) → has (chain_top g n k) (way_up t2 p) ≡ false
        go (Last p) n' closed =
            let h = has-first p (ancestors t p) in
            rw (eqb-apart (chain_top g n k) p (n' p h)) (not-above t2 (λ z. has z (p ∷ ancestors t p) ≡ true) closed p (chain_top g n k) h (λ e. n' (chain_top g n k) e refl))
        go (Before p) n' closed =
            let h = has-first p (ancestors t p) in
            rw (eqb-apart (chain_top g n k) p (n' p h)) (not-above t2 (λ z. has z (p ∷ ancestors t p) ≡ true) closed p (chain_top g n k) h (λ e. n' (chain_top g n k) e refl))

    module _ (t3 : Tree) (pt : IsPut t2 t3 at (chain_top g n k)) where
      same-put : (x : ℕ) (ks : List ℕ) → with_put t2 at (chain_top g n k) x ks ≡ with_put t at (chain_top g n k) x ks
      same-put x ks = go at (λ z h. way-same z h)
        where
          go : (p : Place) → ((z : ℕ) → has z (way_up t p) ≡ true → parent_of t2 z ≡ parent_of t z) → with_put t2 p (chain_top g n k) x ks ≡ with_put t p (chain_top g n k) x ks
          go (Last p) s = refl
          go (Before p) s = ap (λ (o : Option ℕ). cond (is_in x o) (put_before (chain_top g n k) p ks) ks) (s p (has-first p (ancestors t p)))

      same-parent_at : parent_at t2 at ≡ parent_at t at
      same-parent_at = go at (λ z h. way-same z h)
        where
          go : (p : Place) → ((z : ℕ) → has z (way_up t p) ≡ true → parent_of t2 z ≡ parent_of t z) → parent_at t2 p ≡ parent_at t p
          go (Last p) s = refl
          go (Before p) s = s p (has-first p (ancestors t p))

      top-one : n ≡ k → g ≡ chain_top g n k
      top-one q = sym (rw (eqb-of n k q) refl)

      top-last : n ≢ k → k - 1 ≡ chain_top g n k
      top-last q = sym (rw (eqb-apart n k q) refl)

      not-last : (x : ℕ) → x ≢ chain_top g n k → (nat_le n x && nat_lt (x + 1) k) ≡ (nat_le n x && nat_lt x k)
      not-last x ne = elim (cases_bool (nat_le n x)) [
        | inr s ↦ rw s refl
        | inl s ↦
            let h = le-of n x s in
            rw s (elim (cases_eqb (x + 1) k) [
              | inl q ↦ (let r = q.1 in let j : x ≡ k - 1 = omega arith in absurd (ne (j ∙ top-last (λ z. omega arith))))
              | inr q ↦ (let r = q.1 in lt-step x r)
            ])
      ]
        where
          lt-step : (x : ℕ) → x + 1 ≢ k → nat_lt (x + 1) k ≡ nat_lt x k
          lt-step x r = elim (cases_bool (nat_lt x k)) [
            | inl a ↦ (let b = lt-of x k a in rw a (lt-true (x + 1) k (omega arith)))
            | inr a ↦ (let b = ge-of x k a in rw a (lt-false (x + 1) k (omega arith)))
          ]

      parent-links2 : (x : ℕ) → cond (eqb x (chain_top g n k)) (parent_at t at) (chain_parent t1 g n k x) ≡ hung_parent t g n k at x
      parent-links2 x = elim (cases_eqb x (chain_top g n k)) [
        | inl e ↦ rw e.0 refl
        | inr e ↦ rw e.0 (elim (cases_eqb x g) [
          | inl f ↦
              let ne : n ≢ k = λ q. e.1 (f.1 ∙ top-one q) in
              rw (lt-true n k (omega arith), f.0) refl
          | inr f ↦
              let b : (nat_lt n k && eqb x g) ≡ false = (elim (cases_bool (nat_lt n k)) [ inl q ↦ rw (q, f.0) refl | inr q ↦ rw q refl ]) in
              rw (b, f.0, not-last x e.1) (let z : parent_of t1 x ≡ wrapped_parent t g k x = parents1 x in ap (cond (nat_le n x && nat_lt x k) (Some (x + 1))) (rw f.0 at z))
        ])
      ]

      pub hung : Hung t t3 g n k at
      hung = record {
        nodes = record {
          labels_are = pt.nodes.labels_are ∙ ch.nodes.labels_are ∙ same1.labels_are;
          marks_are = pt.nodes.marks_are ∙ ch.nodes.marks_are ∙ same1.marks_are;
          held_is = pt.nodes.held_is ∙ ch.nodes.held_is ∙ same1.held_is;
          limits_are = pt.nodes.limits_are ∙ ch.nodes.limits_are ∙ same1.limits_are;
        };
        children_are = λ x.
            pt.children_are x ∙ same-put x (children_of t2 x)
            ∙ ap (with_put t at (chain_top g n k) x) (ch.children_are x ∙ ap (cond (nat_le n x && nat_lt x k) (cond (eqb x n) g (x - 1) ∷ [])) (children1 x));
        parents_are = λ x.
            pt.parents_are x ∙ ap (λ (o : Option ℕ). cond (eqb x (chain_top g n k)) o (parent_of t2 x)) same-parent_at ∙ ap (cond (eqb x (chain_top g n k)) (parent_at t at)) (ch.parents_are x) ∙ parent-links2 x;
      }
