-- What stays on the stack and in the list through an adoption.
use Rattle.std.proofs.Common.{◌≡◌, ℕ, ◌+◌, ◌-◌, ◌<◌, ◌≤◌, Bool, true, false, cond, eqb, nat_le, nat_lt, ◌&&◌, not, List, [], ◌∷◌, ◌++◌, length, length-append, map, get_or, inl, inr, refl, sym, ◌∙◌, ap, subst, arith}
use Rattle.std.specs.Prelude.{filter}
use Rattle.std.specs.List.{flat_map, list_any}
use Rattle.std.proofs.lemmas.List.Elements.{filter-append}
use Rattle.html_names.specs.declared.tag.Tag.{Tag}
use Rattle.html_names.specs.declared.tag.Tag.TheVariants as tag
use Rattle.html_names.specs.Sets.{is_formatting, is_special}
use Rattle.html_arena.specs.declared.data.NodeData.{NodeData}
use Rattle.html_arena.specs.Data.{label_in, tag_in}
use Rattle.html_arena.specs.Siblings.{has, is_in, first_of}
use Rattle.html_arena.specs.Tree.{Tree, label_of, tag_at}
use Rattle.html_open.specs.declared.adoption.AdoptEnd.{AdoptEnd}
use Rattle.html_open.specs.declared.entry.Entry.{Entry}
use Rattle.html_open.specs.declared.entry.Entry.TheVariants.{Marker, Node}
use Rattle.html_arena.specs.declared.arena.ArenaError.{ArenaError}
use Rattle.html_open.specs.AdoptFinding.{special}
use Rattle.html_open.specs.Adopting.{Ends, IsStopped, Popped, Round, Survives, after_nearest, alone, clone_number, clones_down, closes, forgets, heirs, no_entry, out_of_scope, relisted}
use Rattle.html_open.specs.Entries.{has_node, is_marker, is_node, nodes_of, without_node}
use Rattle.html_open.specs.Lists.{above, below}
use Rattle.html_open.specs.Opened.{IsOpen, Open, open_at}
use Rattle.html_open.proofs.Descending.{label-kept, label-new, labels-longer, round-made, round-stack}
use Rattle.html_open.proofs.Finding.{last_named-in}
use Rattle.html_open.proofs.Hangs.{le-of, lt-of}
use Rattle.html_open.proofs.Inserted.{cloned-tag}
use Rattle.html_open.proofs.Keeps.{cases_bool, cases_eqb, eqb-true, split-last}
use Rattle.html_open.proofs.Lists.{any-has}
use Rattle.html_open.proofs.Numbering.{clone-low, has-down, has-get, originals-in}
use Rattle.html_open.proofs.Ordering.{has-either, has-head, has-left, has-right}
use Rattle.html_open.proofs.Rooted.{without-node}
use Rattle.html_open.proofs.Rounding.{flat-has, relisted-nodes}
use Rattle.html_open.proofs.Rounds.{stepped}
use Rattle.html_open.proofs.SafePlaces.{below-in, same-tag}
use Rattle.html_open.proofs.Stopping.{stopped-same}
use Rattle.html_open.proofs.Upwards.{has-first, has-more}

-- no formatting element is special
pub formatting-plain : (g : Tag) → is_formatting g ≡ true → is_special g ≡ false
formatting-plain tag.A h = refl
formatting-plain tag.B h = refl
formatting-plain tag.Big h = refl
formatting-plain tag.Code h = refl
formatting-plain tag.Em h = refl
formatting-plain tag.Font h = refl
formatting-plain tag.I h = refl
formatting-plain tag.Nobr h = refl
formatting-plain tag.S h = refl
formatting-plain tag.Small h = refl
formatting-plain tag.Strike h = refl
formatting-plain tag.Strong h = refl
formatting-plain tag.Tt h = refl
formatting-plain tag.U h = refl
formatting-plain _ h = absurd (let k = h in cc)

-- what passes a test
pub filter-same : (p q : ℕ → Bool) (xs : List ℕ) → ((x : ℕ) → has x xs ≡ true → p x ≡ q x) → filter p xs ≡ filter q xs
filter-same p q [] h = refl
filter-same p q (x ∷ xs) h =
    let r = filter-same p q xs (λ y m. h y (has-more y x xs m)) in
    let e = h x (has-first x xs) in
    elim (cases_bool (q x)) [ inl a ↦ rw (e, a) (ap (λ ys. x ∷ ys) r) | inr a ↦ rw (e, a) r ]

pub filter-none : (p : ℕ → Bool) (xs : List ℕ) → ((x : ℕ) → has x xs ≡ true → p x ≡ false) → filter p xs ≡ []
filter-none p [] h = refl
filter-none p (x ∷ xs) h = rw (h x (has-first x xs)) (filter-none p xs (λ y m. h y (has-more y x xs m)))

any-none : (p : ℕ → Bool) (xs : List ℕ) → list_any p xs ≡ false → (x : ℕ) → has x xs ≡ true → p x ≡ false
any-none p [] h x m = absurd (let k = m in cc)
any-none p (y ∷ ys) h x m = elim (cases_bool (p y)) [
  | inl e ↦ absurd (let k = rw e at h in cc)
  | inr e ↦ elim (has-head x y ys m) [ inl q ↦ subst (λ (v : ℕ). p v ≡ false) (sym q) e | inr q ↦ any-none p ys (rw e at h) x q ]
]

six : (p : ℕ → Bool) (A B C D E F A' B' C' D' E' F' : List ℕ) → filter p A ≡ A' → filter p B ≡ B' → filter p C ≡ C' → filter p D ≡ D' → filter p E ≡ E' → filter p F ≡ F'
    → filter p (A ++ (B ++ (C ++ (D ++ (E ++ F))))) ≡ A' ++ (B' ++ (C' ++ (D' ++ (E' ++ F'))))
six p A B C D E F A' B' C' D' E' F' a b c d e f =
    glue A (B ++ (C ++ (D ++ (E ++ F)))) A' (B' ++ (C' ++ (D' ++ (E' ++ F')))) a
    (glue B (C ++ (D ++ (E ++ F))) B' (C' ++ (D' ++ (E' ++ F'))) b
    (glue C (D ++ (E ++ F)) C' (D' ++ (E' ++ F')) c
    (glue D (E ++ F) D' (E' ++ F') d (glue E F E' F' e f))))
  where
    glue : (X Y X' Y' : List ℕ) → filter p X ≡ X' → filter p Y ≡ Y' → filter p (X ++ Y) ≡ X' ++ Y'
    glue X Y X' Y' x y = filter-append p X Y ∙ ap (λ v. v ++ filter p Y) x ∙ ap (λ v. X' ++ v) y

-- markers
pub markers-map : (ys : List ℕ) → filter is_marker (map Node ys) ≡ []
markers-map [] = refl
markers-map (y ∷ ys) = markers-map ys

markers-relisted : (f : ℕ) (stays : ℕ → Bool) (cs : List ℕ) (n k : ℕ) (es : List Entry) → filter is_marker (flat_map (relisted f stays cs n k) es) ≡ filter is_marker es
markers-relisted f stays cs n k [] = refl
markers-relisted f stays cs n k (Marker ∷ es) = ap (λ v. Marker ∷ v) (markers-relisted f stays cs n k es)
markers-relisted f stays cs n k (Node x ∷ es) =
    filter-append is_marker (map Node (heirs f stays cs n k x)) (flat_map (relisted f stays cs n k) es)
    ∙ ap (λ v. v ++ filter is_marker (flat_map (relisted f stays cs n k) es)) (markers-map (heirs f stays cs n k x)) ∙ markers-relisted f stays cs n k es

markers-without : (f : ℕ) (es : List Entry) → filter is_marker (without_node f es) ≡ filter is_marker es
markers-without f es = elim (cases_bool (list_any (is_node f) es)) [
  | inl a ↦
      let r = split-last (is_node f) es a in
      rw a (filter-append is_marker (below (is_node f) es) (above (is_node f) es) ∙ ap (λ v. filter is_marker (below (is_node f) es) ++ v) (sym (plain r.0 (above (is_node f) es) r.2))
      ∙ sym (filter-append is_marker (below (is_node f) es) (r.0 ∷ above (is_node f) es)) ∙ ap (filter is_marker) (sym r.1))
  | inr a ↦ rw a refl
]
  where
    plain : (e : Entry) (xs : List Entry) → is_node f e ≡ true → filter is_marker (e ∷ xs) ≡ filter is_marker xs
    plain Marker xs h = absurd (let k = h in cc)
    plain (Node y) xs h = refl

-- one after another
pub survives-start : (o : Open) → Survives o o
survives-start o = record { no_fewer = omega arith; special_are = refl; markers_are = refl; on_stack = λ x b h. h; in_list = λ x b h. h }

pub survives-then : (o p q : Open) → Survives o p → Survives p q → Survives o q
survives-then o p q h k =
    let m = h.no_fewer in
    record {
      no_fewer = (let n = k.no_fewer in omega (arith, m, n));
      special_are = k.special_are ∙ h.special_are;
      markers_are = k.markers_are ∙ h.markers_are;
      on_stack = λ x b a. h.on_stack x b (k.on_stack x (omega (arith, m, b)) a);
      in_list = λ x b a. h.in_list x b (k.in_list x (omega (arith, m, b)) a);
    }

-- the labels are the same
special-as : (t u : Tree) (xs : List ℕ) → u.labels ≡ t.labels → filter (special u) xs ≡ filter (special t) xs
special-as t u xs e = ap (λ (ls : List NodeData). filter (λ x. is_special (tag_in (label_in ls x))) xs) e

pub survives-same : (o p : Open) → p.tree.labels ≡ o.tree.labels → p.stack ≡ o.stack → p.list ≡ o.list → Survives o p
survives-same o p e s l = record {
  no_fewer = (let n = ap length e in omega (arith, n));
  special_are = ap (filter (special p.tree)) s ∙ special-as o.tree p.tree o.stack e;
  markers_are = ap (filter is_marker) l;
  on_stack = λ x b h. sym (ap (has x) s) ∙ h;
  in_list = λ x b h. sym (ap (has_node x) l) ∙ h;
}

-- the current node is popped
pub survives-popped : (s : Tag) (o p : Open) → is_special s ≡ false → Popped s o p → Survives o p
survives-popped s o p plain k =
    let e = ap (λ (t : Tree). t.labels) k.tree_is in
    record {
      no_fewer = (let n = ap length e in omega (arith, n));
      special_are = special-as o.tree p.tree p.stack e
          ∙ sym (ap (filter (special o.tree)) k.stack_was ∙ filter-append (special o.tree) p.stack (k.current ∷ [])
          ∙ ap (λ v. filter (special o.tree) p.stack ++ v) (filter-none (special o.tree) (k.current ∷ []) (λ x h. elim (has-head x k.current [] h) [
            | inl q ↦ ap (special o.tree) q ∙ ap is_special (same-tag (tag_at o.tree k.current) s k.is_named) ∙ plain
            | inr q ↦ absurd (let w = q in cc)
          ])) ∙ nil (filter (special o.tree) p.stack));
      markers_are = ap (filter is_marker) k.list_is;
      on_stack = λ x b h. ap (has x) k.stack_was ∙ has-left x p.stack (k.current ∷ []) h;
      in_list = λ x b h. sym (ap (has_node x) k.list_is) ∙ h;
    }
  where
    nil : (v : List ℕ) → v ++ [] ≡ v
    nil [] = refl
    nil (a ∷ v) = ap (λ w. a ∷ w) (nil v)

-- an element that is in the list is not special
listed-plain : (o : Open) → IsOpen o → (x : ℕ) → has_node x o.list ≡ true → special o.tree x ≡ false
listed-plain o h x e = formatting-plain (tag_at o.tree x) (h.formatting x e)

-- how an adoption ends
pub survives-ends : (s : Tag) (end : AdoptEnd) (o p : Open) → IsOpen o → Ends s end o p → Survives o p
survives-ends s _ _ _ h (closes o p k) =
    let e = ap (λ (t : Tree). t.labels) k.tree_is in
    let sp = special o.tree in
    let B = below (eqb k.formatting_element) o.stack in
    let A = above (eqb k.formatting_element) o.stack in
    let r = split-last (eqb k.formatting_element) o.stack (any-has k.formatting_element o.stack ∙ k.on_stack) in
    let q : r.0 ≡ k.formatting_element = sym (eqb-true k.formatting_element r.0 r.2) in
    let gone : filter sp (r.0 ∷ A) ≡ [] = filter-none sp (r.0 ∷ A) (λ x m. elim (has-head x r.0 A m) [
      | inl z ↦ ap sp (z ∙ q) ∙ listed-plain o h k.formatting_element (last_named-in o.tree s o.list k.formatting_element k.formatting)
      | inr z ↦ any-none sp A k.no_special x z
    ]) in
    record {
      no_fewer = (let n = ap length e in omega (arith, n));
      special_are = ap (filter (special p.tree)) k.stack_is ∙ special-as o.tree p.tree B e
          ∙ sym (ap (filter sp) r.1 ∙ filter-append sp B (r.0 ∷ A) ∙ ap (λ v. filter sp B ++ v) gone ∙ nil (filter sp B));
      markers_are = ap (filter is_marker) k.list_is ∙ markers-without k.formatting_element o.list;
      on_stack = λ x b m. below-in (eqb k.formatting_element) o.stack x (sym (ap (has x) k.stack_is) ∙ m);
      in_list = λ x b m. without-node (is_node k.formatting_element) o.list x (sym (ap (has_node x) k.list_is) ∙ m);
    }
  where
    nil : (v : List ℕ) → v ++ [] ≡ v
    nil [] = refl
    nil (a ∷ v) = ap (λ w. a ∷ w) (nil v)
survives-ends s _ _ _ h (forgets o p k) =
    let e = ap (λ (t : Tree). t.labels) k.tree_is in
    record {
      no_fewer = (let n = ap length e in omega (arith, n));
      special_are = ap (filter (special p.tree)) k.stack_is ∙ special-as o.tree p.tree o.stack e;
      markers_are = ap (filter is_marker) k.list_is ∙ markers-without k.formatting_element o.list;
      on_stack = λ x b m. sym (ap (has x) k.stack_is) ∙ m;
      in_list = λ x b m. without-node (is_node k.formatting_element) o.list x (sym (ap (has_node x) k.list_is) ∙ m);
    }
survives-ends s _ _ _ h (out_of_scope o p k) = survives-same o p (ap (λ (t : Tree). t.labels) k.unchanged.tree_is) k.unchanged.stack_is k.unchanged.list_is
survives-ends s _ _ _ h (no_entry o p k) = survives-same o p (ap (λ (t : Tree). t.labels) k.unchanged.tree_is) k.unchanged.stack_is k.unchanged.list_is

-- a round
module _ (s : Tag) (foster : Bool) (o p : Open) (r : Round s foster o p) (opened : IsOpen o) where
  made-all : (x : ℕ) → x < length o.tree.labels → special p.tree x ≡ special o.tree x
  made-all x b = ap (λ (d : NodeData). is_special (tag_in d)) (label-kept o p.tree (round-made s foster o p r opened) x b)

  f-listed : has_node r.formatting_element o.list ≡ true
  f-listed = last_named-in o.tree s o.list r.formatting_element r.formatting

  -- the elements that are cloned are in the list
  cloned-listed : (x : ℕ) → has x (r.cloned_elements ++ r.formatting_element ∷ []) ≡ true → has_node x o.list ≡ true
  cloned-listed x h = elim (has-either x r.cloned_elements (r.formatting_element ∷ []) h) [
    | inl q ↦ (originals-in (λ y. has_node y o.list) r.inner x (subst (λ (v : List ℕ). has x v ≡ true) r.cloned_are q)).1
    | inr q ↦ elim (has-head x r.formatting_element [] q) [
      | inl e ↦ subst (λ (y : ℕ). has_node y o.list ≡ true) (sym e) f-listed
      | inr e ↦ absurd (let k = e in cc)
    ]
  ]

  clone-plain : (x : ℕ) → length o.tree.labels ≤ x → x ≤ length o.tree.labels + length r.cloned_elements → special p.tree x ≡ false
  clone-plain x a b =
      let e = length-append r.cloned_elements (r.formatting_element ∷ []) in
      let y = get_or (r.cloned_elements ++ r.formatting_element ∷ []) (x - length o.tree.labels) 0 in
      ap (λ (d : NodeData). is_special (tag_in d)) (label-new s foster o p r opened x a b) ∙ ap is_special (cloned-tag (label_of o.tree y))
      ∙ listed-plain o opened y (cloned-listed y (has-get (r.cloned_elements ++ r.formatting_element ∷ []) (x - length o.tree.labels) (omega (arith, e, a, b))))

  k-plain : special p.tree r.new_element ≡ false
  k-plain = (let e = r.new_element_is in clone-plain r.new_element (omega (arith, e)) (omega (arith, e)))

  down-plain : (x : ℕ) → has x (clones_down (length o.tree.labels) (length r.cloned_elements)) ≡ true → special p.tree x ≡ false
  down-plain x h =
      let e = sym (has-down (length o.tree.labels) (length r.cloned_elements) x) ∙ h in
      let a = within (nat_le (length o.tree.labels) x) (nat_lt x (length o.tree.labels + length r.cloned_elements)) e in
      let l = ge-low x (length o.tree.labels) a.0 in
      let u = lt-of x (length o.tree.labels + length r.cloned_elements) a.1 in
      clone-plain x l (omega (arith, u))
    where
      within : (a b : Bool) → (a && b) ≡ true → (a ≡ true) × (b ≡ true)
      within true b e = (refl, e)
      within false b e = absurd (let k = e in cc)

      ge-low : (x n : ℕ) → nat_le n x ≡ true → n ≤ x
      ge-low x n e = le-of n x e

  was : (x : ℕ) → has x (r.lower ++ (r.common_ancestor ∷ (r.formatting_element ∷ (r.inner ++ (r.furthest_block ∷ r.upper))))) ≡ true → x < length o.tree.labels
  was x h = opened.stack_in x (subst (λ (v : List ℕ). has x v ≡ true) (sym r.stack_was) h)

  abbrev rest : List ℕ
  rest = r.formatting_element ∷ (r.inner ++ (r.furthest_block ∷ r.upper))

  lower-in : (x : ℕ) → has x r.lower ≡ true → special p.tree x ≡ special o.tree x
  lower-in x h = made-all x (was x (has-left x r.lower (r.common_ancestor ∷ rest) h))

  a-in : (x : ℕ) → has x (r.common_ancestor ∷ []) ≡ true → special p.tree x ≡ special o.tree x
  a-in x h = elim (has-head x r.common_ancestor [] h) [
    | inl e ↦ made-all x (was x (has-right x r.lower (r.common_ancestor ∷ rest) (subst (λ (v : ℕ). has v (r.common_ancestor ∷ rest) ≡ true) (sym e) (has-first r.common_ancestor rest))))
    | inr e ↦ absurd (let k = e in cc)
  ]

  g-upper : (x : ℕ) → has x (r.furthest_block ∷ r.upper) ≡ true → special p.tree x ≡ special o.tree x
  g-upper x h = made-all x (was x (has-right x r.lower (r.common_ancestor ∷ rest) (has-more x r.common_ancestor rest (has-more x r.formatting_element (r.inner ++ (r.furthest_block ∷ r.upper)) (has-right x r.inner (r.furthest_block ∷ r.upper) h)))))

  g-in : (x : ℕ) → has x (r.furthest_block ∷ []) ≡ true → special p.tree x ≡ special o.tree x
  g-in x h = g-upper x (has-left x (r.furthest_block ∷ []) r.upper h)

  upper-in : (x : ℕ) → has x r.upper ≡ true → special p.tree x ≡ special o.tree x
  upper-in x h = g-upper x (has-more x r.furthest_block r.upper h)

  one-none : (q : ℕ → Bool) (x : ℕ) → q x ≡ false → filter q (x ∷ []) ≡ []
  one-none q x h = rw h refl

  special-round : filter (special p.tree) p.stack ≡ filter (special o.tree) o.stack
  special-round =
      ap (filter (special p.tree)) r.stack_is
      ∙ six (special p.tree) r.lower (r.common_ancestor ∷ []) (clones_down (length o.tree.labels) (length r.cloned_elements)) (r.furthest_block ∷ []) (r.new_element ∷ []) r.upper
      (filter (special o.tree) r.lower) (filter (special o.tree) (r.common_ancestor ∷ [])) [] (filter (special o.tree) (r.furthest_block ∷ [])) [] (filter (special o.tree) r.upper)
      (filter-same (special p.tree) (special o.tree) r.lower lower-in) (filter-same (special p.tree) (special o.tree) (r.common_ancestor ∷ []) a-in)
      (filter-none (special p.tree) (clones_down (length o.tree.labels) (length r.cloned_elements)) down-plain) (filter-same (special p.tree) (special o.tree) (r.furthest_block ∷ []) g-in)
      (one-none (special p.tree) r.new_element k-plain) (filter-same (special p.tree) (special o.tree) r.upper upper-in)
      ∙ sym (ap (filter (special o.tree)) r.stack_was
      ∙ six (special o.tree) r.lower (r.common_ancestor ∷ []) (r.formatting_element ∷ []) r.inner (r.furthest_block ∷ []) r.upper
      (filter (special o.tree) r.lower) (filter (special o.tree) (r.common_ancestor ∷ [])) [] [] (filter (special o.tree) (r.furthest_block ∷ [])) (filter (special o.tree) r.upper)
      refl refl (one-none (special o.tree) r.formatting_element (listed-plain o opened r.formatting_element f-listed)) (filter-none (special o.tree) r.inner (any-none (special o.tree) r.inner r.none_between)) refl refl)

  round-list : (x : ℕ) → x < length o.tree.labels → has_node x p.list ≡ true → has_node x o.list ≡ true
  round-list x b h =
      let m = sym (ap (has x) (ap nodes_of r.list_is ∙ relisted-nodes r.formatting_element (λ y. not (has y r.inner)) r.cloned_elements (length o.tree.labels) r.new_element o.list)) ∙ h in
      let q = flat-has (heirs r.formatting_element (λ y. not (has y r.inner)) r.cloned_elements (length o.tree.labels) r.new_element) (nodes_of o.list) x m in
      heir q.0 q.1 q.2
    where
      late : x ≡ r.new_element → ⊥
      late e = absurd (let i = r.new_element_is in let j : x ≡ r.new_element = e in omega (arith, i, j, b))

      only : (zs : List ℕ) → has x (alone zs r.new_element) ≡ true → ⊥
      only [] e = elim (has-head x r.new_element [] e) [ inl z ↦ late z | inr z ↦ absurd (let u = z in cc) ]
      only (z ∷ zs) e = absurd (let u = e in cc)

      near : (c : Bool) → has x (cond c (r.new_element ∷ []) []) ≡ true → ⊥
      near true e = elim (has-head x r.new_element [] e) [ inl z ↦ late z | inr z ↦ absurd (let u = z in cc) ]
      near false e = absurd (let u = e in cc)

      stays : (y : ℕ) → has_node y o.list ≡ true → (c : Bool) → has x (cond c (y ∷ []) []) ≡ true → has_node x o.list ≡ true
      stays y l true e = elim (has-head x y [] e) [ inl z ↦ subst (λ (v : ℕ). has_node v o.list ≡ true) (sym z) l | inr z ↦ absurd (let u = z in cc) ]
      stays y l false e = absurd (let u = e in cc)

      heir : (y : ℕ) → has_node y o.list ≡ true → has x (heirs r.formatting_element (λ z. not (has z r.inner)) r.cloned_elements (length o.tree.labels) r.new_element y) ≡ true → has_node x o.list ≡ true
      heir y l e = elim (cases_eqb y r.formatting_element) [
        | inl q ↦ absurd (only r.cloned_elements (rw q.0 at e))
        | inr q ↦ elim (cases_bool (has y r.cloned_elements)) [
          | inl c ↦ elim (has-head x (clone_number (length o.tree.labels) r.cloned_elements y) (after_nearest r.cloned_elements y r.new_element) (rw (q.0, c) at e)) [
            | inl z ↦ absurd (let low = clone-low (length o.tree.labels) r.cloned_elements y in let i : x ≡ clone_number (length o.tree.labels) r.cloned_elements y = z in omega (arith, low, i, b))
            | inr z ↦ absurd (near (is_in y (first_of r.cloned_elements)) z)
          ]
          | inr c ↦ stays y l (not (has y r.inner)) (rw (q.0, c) at e)
        ]
      ]

  pub survives-round : Survives o p
  survives-round = record {
    no_fewer = labels-longer o p.tree (round-made s foster o p r opened);
    special_are = special-round;
    markers_are = ap (filter is_marker) r.list_is ∙ markers-relisted r.formatting_element (λ y. not (has y r.inner)) r.cloned_elements (length o.tree.labels) r.new_element o.list;
    on_stack = round-stack s foster o p r opened;
    in_list = round-list;
  }

-- a round that was stopped
pub survives-stopped : (s : Tag) (o q : Open) (e : ArenaError) → IsOpen o → IsStopped s o q e → Survives o q
survives-stopped s o q e h k =
    let same = stopped-same s o q e k in
    record {
      no_fewer = same.0;
      special_are = ap (filter (special q.tree)) k.stack_is ∙ filter-same (special q.tree) (special o.tree) o.stack (λ x m. ap (λ (d : NodeData). is_special (tag_in d)) (same.1 x (h.stack_in x m)));
      markers_are = ap (filter is_marker) k.list_is;
      on_stack = λ x b m. sym (ap (has x) k.stack_is) ∙ m;
      in_list = λ x b m. sym (ap (has_node x) k.list_is) ∙ m;
    }

-- steps that were counted before do not matter
pub survives-rebase : (stack : List ℕ) (list : List Entry) (t : Tree) (n : ℕ) (o q : Open) → o ≡ open_at stack list (stepped t n) → Survives o q → Survives (open_at stack list t) q
survives-rebase stack list t n o q e k =
    let r = subst (λ (v : Open). Survives v q) e k in
    record { no_fewer = r.no_fewer; special_are = r.special_are; markers_are = r.markers_are; on_stack = r.on_stack; in_list = r.in_list }
