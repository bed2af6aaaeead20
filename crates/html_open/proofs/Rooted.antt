-- The first open element, and the nodes without a parent, through an adoption.
use Rattle.std.proofs.Common.{◌≡◌, ◌≢◌, ℕ, zero, suc, ◌+◌, ◌-◌, ◌<◌, ◌≤◌, Bool, true, false, eqb, nat_le, nat_lt, ◌&&◌, List, [], ◌∷◌, ◌++◌, length, length-append, map, drop, get_or, Some, None, inl, inr, refl, sym, ◌∙◌, ap, subst, arith}
use Rattle.std.proofs.lemmas.List.{length-map}
use Rattle.std.specs.List.{list_any}
use Rattle.html_names.specs.Tags.{is_same}
use Rattle.html_names.specs.declared.tag.Tag.{Tag}
use Rattle.html_names.specs.declared.tag.Tag.TheVariants as tag
use Rattle.html_arena.specs.Data.{cloned, label_in, tag_in}
use Rattle.html_arena.specs.Siblings.{Distinct, first_of, has}
use Rattle.html_arena.specs.Tree.{Tree, children_of, label_of, named, parent_of}
use Rattle.html_open.specs.declared.adoption.AdoptEnd.{AdoptEnd}
use Rattle.html_open.specs.declared.entry.Entry.{Entry}
use Rattle.html_open.specs.declared.entry.Entry.TheVariants.{Marker, Node}
use Rattle.html_open.specs.declared.places.Place.{Place}
use Rattle.html_open.specs.Adopting.{Ends, IsFirstFree, IsRegrouped, Popped, Round, closes, forgets, no_entry, out_of_scope}
use Rattle.html_open.specs.Entries.{has_node, is_node, nodes_of, without_node}
use Rattle.html_open.specs.Hanging.{chain_top, hung_parent}
use Rattle.html_open.specs.Lists.{above, below, without_last}
use Rattle.html_open.specs.Opened.{Open, open_at}
use Rattle.html_open.specs.Placing.{CanPlace, parent_at}
use Rattle.html_open.specs.Rooting.{KeepsRoots}
use Rattle.html_open.proofs.Descending.{Descends}
use Rattle.html_open.proofs.Finding.{above-node, last_named-in}
use Rattle.html_open.proofs.Hangs.{eqb-of, ge-of, le-true, lt-of, lt-true, short}
use Rattle.html_open.proofs.Keeps.{cases_bool, cases_eqb, has-append, nodes-append}
use Rattle.html_open.proofs.Lists.{any-has}
use Rattle.html_open.proofs.Rounds.{stepped}

-- marks and steps are of no account
pub roots-same : (s : List ℕ) (l : List Entry) (t u : Tree) → u.labels ≡ t.labels → u.parents ≡ t.parents → KeepsRoots (open_at s l t) u
roots-same s l t u e f = record {
  linked = λ x b q. (let m = ap length e in omega (arith, m, b), sym (ap (λ ps. get_or ps x None) f) ∙ q);
  roots = λ x b q off. ap (λ ps. get_or ps x None) f ∙ q;
}

pub roots-stepped : (s : List ℕ) (l : List Entry) (t v : Tree) (n : ℕ) → KeepsRoots (open_at s l (stepped t n)) v → KeepsRoots (open_at s l t) v
roots-stepped s l t v n k = record { linked = k.linked; roots = k.roots }

pub roots-rebase : (s s2 : List ℕ) (l : List Entry) (t u v : Tree) → s2 ≡ s → u ≡ record t { steps = u.steps } → KeepsRoots (open_at s2 l u) v → KeepsRoots (open_at s l t) v
roots-rebase s s2 l t u v e f k = subst (λ (x : List ℕ). KeepsRoots (open_at x l t) v) e (roots-stepped s2 l t v u.steps (subst (λ (x : Tree). KeepsRoots (open_at s2 l x) v) f k))

in-rest : (x : ℕ) (ys zs : List ℕ) → first_of ys ≡ first_of zs → Distinct ys → has x (drop 1 ys) ≡ true → has x zs ≡ true → has x (drop 1 zs) ≡ true
in-rest x [] zs e d h k = absurd (let j = h in cc)
in-rest x (y ∷ ys) [] e d h k = absurd (let j = k in cc)
in-rest x (y ∷ ys) (z ∷ zs) e d h k = elim (cases_eqb x z) [
  | inl q ↦ absurd (let a : Some y ≡ Some z = e in let b : y ≡ x = (let c : x ≡ z = q.1 in cc) in let m : has y ys ≡ true = subst (λ (v : ℕ). has v ys ≡ true) (sym b) h in let o = d.0 in cc)
  | inr q ↦ rw q.0 at k
]

-- one part after another
pub roots-then : (o p : Open) (t : Tree) → Descends o p → first_of p.stack ≡ first_of o.stack → Distinct p.stack → length o.tree.labels ≤ length p.tree.labels
    → KeepsRoots o p.tree → KeepsRoots p t → KeepsRoots o t
roots-then o p t d e once l h k = record {
  linked = λ x b q. (let a = k.linked x b q in h.linked x a.0 a.1);
  roots = λ x b q off.
      k.roots x (omega (arith, b, l)) (h.roots x b q off)
      (elim (cases_bool (has x (drop 1 p.stack))) [
        | inl m ↦ absurd (let n = in-rest x p.stack o.stack e once m (d.stack x b (tail x p.stack m)) in cc)
        | inr m ↦ m
      ]);
}
  where
    tail : (x : ℕ) (ys : List ℕ) → has x (drop 1 ys) ≡ true → has x ys ≡ true
    tail x [] m = m
    tail x (y ∷ ys) m = elim (cases_eqb x y) [ inl q ↦ rw q.0 refl | inr q ↦ rw q.0 m ]

-- a round
module _ (at b : ℕ) (target : Place) (o p : Open) (r : IsRegrouped at b target o p) (inside : at < b) (within : b < length o.stack)
    (child : (y x : ℕ) → has x (children_of o.tree y) ≡ true → parent_of o.tree x ≡ Some y) (there : parent_at o.tree target ≢ None) where
  abbrev n : ℕ
  n = length o.tree.labels

  abbrev k : ℕ
  k = length o.tree.labels + length r.cloned_elements

  abbrev g : ℕ
  g = get_or o.stack b 0

  made-length : length p.tree.labels ≡ length o.tree.labels + length r.cloned_elements + 1
  made-length =
      let a = ap length r.labels_are in
      let b = length-append o.tree.labels (map (λ x. cloned (label_of o.tree x)) (r.cloned_elements ++ get_or o.stack at 0 ∷ [])) in
      let c = length-map (r.cloned_elements ++ get_or o.stack at 0 ∷ []) (λ x. cloned (label_of o.tree x)) in
      let d = length-append r.cloned_elements (get_or o.stack at 0 ∷ []) in
      omega (arith, a, b, c, d)

  differ : (y m : ℕ) → y < m + 1 → y ≢ m → y < m
  differ y m a z = omega arith

  some-none : (x : ℕ) → Some x ≡ None → ⊥
  some-none x e = absurd (let q = e in cc)

  linked-new : (x : ℕ) → x < length p.tree.labels → parent_of p.tree x ≡ None → (x < length o.tree.labels) × (parent_of o.tree x ≡ None)
  linked-new x l e = by (sym (r.parents_are x) ∙ e)
    where
      by : hung_parent o.tree g n k target x ≡ None → (x < length o.tree.labels) × (parent_of o.tree x ≡ None)
      by h = elim (cases_eqb x (chain_top g n k)) [
        | inl q ↦ absurd (there (rw q.0 at h))
        | inr q ↦ elim (cases_eqb x g) [
          | inl i ↦ absurd (some-none n (rw (q.0, i.0) at h))
          | inr i ↦ elim (cases_bool (nat_le n x && nat_lt x k)) [
            | inl j ↦ absurd (some-none (x + 1) (rw (q.0, i.0, j) at h))
            | inr j ↦ elim (cases_eqb x k) [
              | inl m ↦ absurd (some-none g (rw (q.0, i.0, j, m.0) at h))
              | inr m ↦ elim (cases_bool (has x (children_of o.tree g))) [
                | inl c ↦ absurd (some-none k (rw (q.0, i.0, j, m.0, c) at h))
                | inr c ↦ (low j m.1, rw (q.0, i.0, j, m.0, c) at h)
              ]
            ]
          ]
        ]
      ]
        where
          low : (nat_le n x && nat_lt x k) ≡ false → x ≢ k → x < length o.tree.labels
          low j m = elim (cases_bool (nat_lt x (length o.tree.labels))) [
            | inl u ↦ lt-of x (length o.tree.labels) u
            | inr u ↦ absurd (
                let v = made-length in
                let ge = ge-of x (length o.tree.labels) u in
                let lt : x < length o.tree.labels + length r.cloned_elements = differ x (length o.tree.labels + length r.cloned_elements) (omega (arith, v, l)) m in
                let w : (nat_le n x && nat_lt x k) ≡ true = rw (le-true n x ge, lt-true x k lt) refl in
                cc)
          ]

  g-after : has g (drop 1 o.stack) ≡ true
  g-after = by o.stack b inside within
    where
      there-is : (xs : List ℕ) (i : ℕ) → i < length xs → has (get_or xs i 0) xs ≡ true
      there-is [] i l = absurd (omega arith)
      there-is (x ∷ xs) zero l = rw (eqb-of x x refl) refl
      there-is (x ∷ xs) (suc i) l = elim (cases_eqb (get_or xs i 0) x) [ inl q ↦ rw q.0 refl | inr q ↦ rw q.0 (there-is xs i (omega arith)) ]

      by : (xs : List ℕ) (i : ℕ) → at < i → i < length xs → has (get_or xs i 0) (drop 1 xs) ≡ true
      by [] i a l = absurd (omega arith)
      by (x ∷ xs) zero a l = absurd (omega arith)
      by (x ∷ xs) (suc i) a l = there-is xs i (omega arith)

  roots-old : (x : ℕ) → x < length o.tree.labels → parent_of o.tree x ≡ None → has x (drop 1 o.stack) ≡ false → parent_of p.tree x ≡ None
  roots-old x l e off =
      r.parents_are x ∙ rw (not-top, not-g, short n x x k l, not-k, not-child) e
    where
      differs : x ≢ g
      differs q = (let m : has x (drop 1 o.stack) ≡ true = subst (λ (v : ℕ). has v (drop 1 o.stack) ≡ true) (sym q) g-after in cc)

      not-g : eqb x g ≡ false
      not-g = elim (cases_eqb x g) [ inl q ↦ absurd (differs q.1) | inr q ↦ q.0 ]

      not-k : eqb x k ≡ false
      not-k = elim (cases_eqb x k) [ inl q ↦ absurd (let z : x ≡ length o.tree.labels + length r.cloned_elements = q.1 in omega arith) | inr q ↦ q.0 ]

      not-top : eqb x (chain_top g n k) ≡ false
      not-top = elim (cases_eqb n k) [
        | inl q ↦ rw q.0 not-g
        | inr q ↦ rw q.0 (elim (cases_eqb x (k - 1)) [ inl z ↦ absurd (high q.1 z.1) | inr z ↦ z.0 ])
      ]
        where
          high : n ≢ k → x ≡ k - 1 → ⊥
          high u v = absurd (let a : (length o.tree.labels) ≢ length o.tree.labels + length r.cloned_elements = u in let b : x ≡ (length o.tree.labels + length r.cloned_elements) - 1 = v in omega arith)

      not-child : has x (children_of o.tree g) ≡ false
      not-child = elim (cases_bool (has x (children_of o.tree g))) [
        | inl q ↦ absurd (some-none g (sym (child g x q) ∙ e))
        | inr q ↦ q
      ]

  pub regrouped-roots : KeepsRoots o p.tree
  regrouped-roots = record { linked = linked-new; roots = roots-old }

-- the first element of the stack
first-split : (xs : List ℕ) (a : ℕ) (ys zs : List ℕ) → first_of (xs ++ a ∷ ys) ≡ first_of (xs ++ a ∷ zs)
first-split [] a ys zs = refl
first-split (x ∷ xs) a ys zs = refl

pub round-first : (s : Tag) (foster : Bool) (o p : Open) → Round s foster o p → first_of p.stack ≡ first_of o.stack
round-first s foster o p r = ap first_of r.stack_is ∙ first-split r.lower r.common_ancestor _ _ ∙ sym (ap first_of r.stack_was)

first-below : (f : ℕ) (xs : List ℕ) → has f xs ≡ true → ((x : ℕ) → first_of xs ≡ Some x → x ≢ f) → first_of (below (eqb f) xs) ≡ first_of xs
first-below f [] h k = refl
first-below f (y ∷ ys) h k = elim (cases_eqb f y) [
  | inl q ↦ absurd (k y refl (sym q.1))
  | inr q ↦ (let a : list_any (eqb f) ys ≡ true = any-has f ys ∙ (rw q.0 at h) in rw a refl)
]

pub ends-first : (s : Tag) (end : AdoptEnd) (o p : Open) → Ends s end o p → IsFirstFree o.stack o.list → first_of p.stack ≡ first_of o.stack
ends-first s _ _ _ (closes o p k) free =
    ap first_of k.stack_is
    ∙ first-below k.formatting_element o.stack k.on_stack (λ x e q. (let a = last_named-in o.tree s o.list k.formatting_element k.formatting in let b = free x e in let c : has_node k.formatting_element o.list ≡ false = subst (λ (v : ℕ). has_node v o.list ≡ false) q b in cc))
ends-first s _ _ _ (forgets o p k) free = ap first_of k.stack_is
ends-first s _ _ _ (out_of_scope o p k) free = ap first_of k.unchanged.stack_is
ends-first s _ _ _ (no_entry o p k) free = ap first_of k.unchanged.stack_is

below-node : (p : Entry → Bool) (es : List Entry) (x : ℕ) → has x (nodes_of (below p es)) ≡ true → has x (nodes_of es) ≡ true
below-node p [] x h = h
below-node p (e ∷ es) x h = elim (cases_bool (list_any p es)) [
  | inl a ↦ by (below-node p es x) e (rw a at h)
  | inr a ↦ absurd (let k = rw a at h in cc)
]
  where
    by : (has x (nodes_of (below p es)) ≡ true → has x (nodes_of es) ≡ true) → (e : Entry) → has x (nodes_of (e ∷ below p es)) ≡ true → has x (nodes_of (e ∷ es)) ≡ true
    by r Marker k = r k
    by r (Node y) k = elim (cases_eqb x y) [ inl q ↦ rw q.0 refl | inr q ↦ rw q.0 (r (rw q.0 at k)) ]

pub without-node : (p : Entry → Bool) (es : List Entry) (x : ℕ) → has x (nodes_of (without_last p es)) ≡ true → has x (nodes_of es) ≡ true
without-node p es x h = elim (cases_bool (list_any p es)) [
  | inl a ↦ (
      let b : has x (nodes_of (below p es ++ above p es)) ≡ true = rw a at h in
      let c : has x (nodes_of (below p es) ++ nodes_of (above p es)) ≡ true = sym (ap (has x) (nodes-append (below p es) (above p es))) ∙ b in
      let d = sym (has-append x (nodes_of (below p es)) (nodes_of (above p es))) ∙ c in
      elim (cases_bool (has x (nodes_of (below p es)))) [
        | inl e ↦ below-node p es x e
        | inr e ↦ above-node p es x (rw e at d)
      ])
  | inr a ↦ rw a at h
]

-- an element that is not in the list is not in a shorter one
fewer-free : (f x : ℕ) (es : List Entry) → has_node x es ≡ false → has_node x (without_node f es) ≡ false
fewer-free f x es h = elim (cases_bool (has_node x (without_node f es))) [
  | inl e ↦ absurd (let k = without-node (is_node f) es x e in cc)
  | inr e ↦ e
]

ends-unlisted : (s : Tag) (end : AdoptEnd) (o p : Open) → Ends s end o p → (x : ℕ) → has_node x o.list ≡ false → has_node x p.list ≡ false
ends-unlisted s _ _ _ (closes o p k) x h = subst (λ (v : List Entry). has_node x v ≡ false) (sym k.list_is) (fewer-free k.formatting_element x o.list h)
ends-unlisted s _ _ _ (forgets o p k) x h = subst (λ (v : List Entry). has_node x v ≡ false) (sym k.list_is) (fewer-free k.formatting_element x o.list h)
ends-unlisted s _ _ _ (out_of_scope o p k) x h = subst (λ (v : List Entry). has_node x v ≡ false) (sym k.unchanged.list_is) h
ends-unlisted s _ _ _ (no_entry o p k) x h = subst (λ (v : List Entry). has_node x v ≡ false) (sym k.unchanged.list_is) h

pub ends-free : (s : Tag) (end : AdoptEnd) (o p : Open) → Ends s end o p → IsFirstFree o.stack o.list → IsFirstFree p.stack p.list
ends-free s end o p k free = λ x e. ends-unlisted s end o p k x (free x (sym (ends-first s end o p k free) ∙ e))

ends-tree : (s : Tag) (end : AdoptEnd) (o p : Open) → Ends s end o p → (p.tree.labels ≡ o.tree.labels) × (p.tree.parents ≡ o.tree.parents)
ends-tree s _ _ _ (closes o p k) = (ap (λ (t : Tree). t.labels) k.tree_is, ap (λ (t : Tree). t.parents) k.tree_is)
ends-tree s _ _ _ (forgets o p k) = (ap (λ (t : Tree). t.labels) k.tree_is, ap (λ (t : Tree). t.parents) k.tree_is)
ends-tree s _ _ _ (out_of_scope o p k) = (ap (λ (t : Tree). t.labels) k.unchanged.tree_is, ap (λ (t : Tree). t.parents) k.unchanged.tree_is)
ends-tree s _ _ _ (no_entry o p k) = (ap (λ (t : Tree). t.labels) k.unchanged.tree_is, ap (λ (t : Tree). t.parents) k.unchanged.tree_is)

pub ends-roots : (s : Tag) (end : AdoptEnd) (o p : Open) → Ends s end o p → KeepsRoots o p.tree
ends-roots s end o p k = (let e = ends-tree s end o p k in roots-same o.stack o.list o.tree p.tree e.0 e.1)

-- the first element takes what has no better place, as before
pub can-place-as : (t u : Tree) (xs ys : List ℕ) → u.labels ≡ t.labels → u.parents ≡ t.parents → first_of ys ≡ first_of xs → CanPlace t xs → CanPlace u ys
can-place-as t u [] ys e f h c = absurd c
can-place-as t u (x ∷ xs) [] e f h c = absurd (let k : None ≡ Some x = h in cc)
can-place-as t u (x ∷ xs) (y ∷ ys) e f h c =
    let q : y ≡ x = (let k : Some y ≡ Some x = h in cc) in
    λ a b. c (ap (λ ds. is_same (tag_in (label_in ds x)) tag.Table) (sym e) ∙ subst (λ (v : ℕ). named u tag.Table v ≡ true) q a) (ap (λ ps. get_or ps x None) (sym f) ∙ subst (λ (v : ℕ). parent_of u v ≡ None) q b)

pub ends-can-place : (s : Tag) (end : AdoptEnd) (o p : Open) → Ends s end o p → IsFirstFree o.stack o.list → CanPlace o.tree o.stack → CanPlace p.tree p.stack
ends-can-place s end o p k free c = (let e = ends-tree s end o p k in can-place-as o.tree p.tree o.stack p.stack e.0 e.1 (ends-first s end o p k free) c)

-- the current node alone was popped
last-first : (x c : ℕ) (ys : List ℕ) → first_of (ys ++ c ∷ []) ≡ Some x → x ≢ c → first_of ys ≡ Some x
last-first x c [] e n = absurd (let k : Some c ≡ Some x = e in let q : x ≡ c = cc in n q)
last-first x c (y ∷ ys) e n = e

first-longer : (c : ℕ) (ys : List ℕ) → 0 < length ys → first_of ys ≡ first_of (ys ++ c ∷ [])
first-longer c [] l = absurd (omega arith)
first-longer c (y ∷ ys) l = refl

module _ (s : Tag) (o p : Open) (k : Popped s o p) where
  pub popped-first : (x : ℕ) → first_of o.stack ≡ Some x → named o.tree s x ≡ false → first_of p.stack ≡ Some x
  popped-first x e n = last-first x k.current p.stack (sym (ap first_of k.stack_was) ∙ e) (λ q. (let a : named o.tree s k.current ≡ false = subst (λ (v : ℕ). named o.tree s v ≡ false) q n in let b = k.is_named in cc))

  stays : 0 < length p.stack → first_of p.stack ≡ first_of o.stack
  stays l = first-longer k.current p.stack l ∙ sym (ap first_of k.stack_was)

  pub popped-can-place : CanPlace o.tree o.stack → 0 < length p.stack → CanPlace p.tree p.stack
  popped-can-place c l = can-place-as o.tree p.tree o.stack p.stack (ap (λ (t : Tree). t.labels) k.tree_is) (ap (λ (t : Tree). t.parents) k.tree_is) (stays l) c

  pub popped-free : IsFirstFree o.stack o.list → IsFirstFree p.stack p.list
  popped-free free = λ x e. subst (λ (v : List Entry). has_node x v ≡ false) (sym k.list_is) (free x (sym (stays (some p.stack e)) ∙ e))
    where
      some : {x : ℕ} (ys : List ℕ) → first_of ys ≡ Some x → 0 < length ys
      some [] e = absurd (let k = e in cc)
      some (y ∷ ys) e = omega arith

  pub popped-roots : KeepsRoots o p.tree
  popped-roots = roots-same o.stack o.list o.tree p.tree (ap (λ (t : Tree). t.labels) k.tree_is) (ap (λ (t : Tree). t.parents) k.tree_is)
