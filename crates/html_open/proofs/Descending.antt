-- What rounds leave to every reader: the labels, the entries of the list, the elements that are closed.
use Rattle.std.proofs.Common.{◌≡◌, ◌≢◌, ℕ, ◌+◌, ◌-◌, ◌<◌, ◌≤◌, Bool, true, false, cond, eqb, nat_le, nat_lt, ◌&&◌, not, List, [], ◌∷◌, ◌++◌, length, length-append, map, get_or, Option, Some, None, inl, inr, refl, sym, ◌∙◌, ap, subst, append_assoc, arith}
use Rattle.std.proofs.lemmas.List.{append-nil, get_or_append_left}
use Rattle.html_names.specs.declared.tag.Tag.{Tag}
use Rattle.html_arena.specs.declared.data.NodeData.{NodeData}
use Rattle.html_arena.specs.declared.data.NodeData.TheVariants.{Document, Contents, Element, Text, Comment, Doctype}
use Rattle.html_arena.specs.Data.{IsElement, cloned, label_in}
use Rattle.html_arena.specs.Siblings.{has, is_in, first_of, put_before, without}
use Rattle.html_arena.specs.Tree.{Tree, WellFormed, children_of, label_of, parent_of}
use Rattle.html_arena.proofs.Laws.{without-none}
use Rattle.html_arena.proofs.Siblings.{eqb-apart}
use Rattle.html_open.specs.declared.adoption.AdoptEnd.{AdoptEnd}
use Rattle.html_open.specs.declared.places.Place.{Place}
use Rattle.html_open.specs.declared.places.Place.TheVariants.{Last, Before}
use Rattle.html_open.specs.declared.entry.Entry.{Entry}
use Rattle.html_open.specs.Adopting.{Ends, MadeClones, Round, after_nearest, alone, clone_number, clones_down, closes, forgets, heirs, no_entry, out_of_scope}
use Rattle.html_open.specs.Entries.{has_node, nodes_of}
use Rattle.html_open.specs.Hanging.{chain_top, chained, with_put}
use Rattle.html_open.specs.Opened.{IsOpen, Open, open_at}
use Rattle.html_open.specs.Placing.{CanPlace, parent_at, place_at}
use Rattle.html_open.specs.Reopening.{KeepsClosed}
use Rattle.html_open.proofs.Clones.{map-append}
use Rattle.html_open.proofs.Finding.{last_named-in}
use Rattle.html_open.proofs.Hangs.{short}
use Rattle.html_open.proofs.Keeps.{cases_bool, cases_eqb}
use Rattle.html_open.proofs.Numbering.{clone-back, clone-high, clone-low, has-down, originals-in}
use Rattle.html_open.proofs.Ordering.{has-either, has-head, has-left, has-right}
use Rattle.html_open.proofs.Rounding.{flat-has, get-map, get-right, relisted-nodes}
use Rattle.html_open.proofs.Rounds.{stepped}
use Rattle.html_open.proofs.Standing.{element-in, not-parent, place-at-by}
use Rattle.html_open.proofs.Upwards.{has-first, has-more}

-- a clone of a clone is like it
pub cloned-again : (l : NodeData) → cloned (cloned l) ≡ cloned l
cloned-again (Element e) = refl
cloned-again Document = refl
cloned-again (Contents c) = refl
cloned-again (Text c) = refl
cloned-again (Comment c j) = refl
cloned-again (Doctype b p s j) = refl

-- what stays from state to state
pub record Descends (o p : Open) : Type 0 where
  pub made : MadeClones o p.tree
  pub entries : (x : ℕ) → has_node x p.list ≡ true → (y : ℕ) × (has_node y o.list ≡ true) × (cloned (label_of p.tree x) ≡ cloned (label_of o.tree y))
  pub stack : (x : ℕ) → x < length o.tree.labels → has x p.stack ≡ true → has x o.stack ≡ true
  pub closed : KeepsClosed o p.tree

pub descends-start : (o : Open) → Descends o o
descends-start o = record {
  made = record { elements = []; listed = λ x h. absurd (let k = h in cc); labels_are = sym (append-nil o.tree.labels) };
  entries = λ x h. (x, h, refl);
  stack = λ x b h. h;
  closed = λ x e off none. refl;
}

pub labels-longer : (o : Open) (t : Tree) → MadeClones o t → length o.tree.labels ≤ length t.labels
labels-longer o t m = (let a = ap length m.labels_are in let b = length-append o.tree.labels (map (λ x. cloned (label_of o.tree x)) m.elements) in omega (arith, a, b))

pub label-kept : (o : Open) (t : Tree) → MadeClones o t → (x : ℕ) → x < length o.tree.labels → label_of t x ≡ label_of o.tree x
label-kept o t m x b = ap (λ (ls : List NodeData). label_in ls x) m.labels_are ∙ get_or_append_left o.tree.labels (map (λ y. cloned (label_of o.tree y)) m.elements) Document x b

-- the elements of which those are clones
trace : (o p : Open) → ((x : ℕ) → has_node x p.list ≡ true → (y : ℕ) × (has_node y o.list ≡ true) × (cloned (label_of p.tree x) ≡ cloned (label_of o.tree y)))
    → (xs : List ℕ) → ((x : ℕ) → has x xs ≡ true → has_node x p.list ≡ true)
    → (ys : List ℕ) × ((y : ℕ) → has y ys ≡ true → has_node y o.list ≡ true) × (map (λ x. cloned (label_of p.tree x)) xs ≡ map (λ y. cloned (label_of o.tree y)) ys)
trace o p h [] l = ([], λ y k. absurd (let j = k in cc), refl)
trace o p h (x ∷ xs) l =
    let r = trace o p h xs (λ y m. l y (has-more y x xs m)) in
    let k = h x (l x (has-first x xs)) in (
      k.0 ∷ r.0,
      λ y m. elim (has-head y k.0 r.0 m) [ inl q ↦ subst (λ (z : ℕ). has_node z o.list ≡ true) (sym q) k.1 | inr q ↦ r.1 y q ],
      ap (λ (d : NodeData). d ∷ map (λ y. cloned (label_of p.tree y)) xs) k.2 ∙ ap (λ (ds : List NodeData). cloned (label_of o.tree k.0) ∷ ds) r.2,
    )

pub made-more : (o p : Open) (t : Tree) → Descends o p → MadeClones p t → MadeClones o t
made-more o p t d m =
    let r = trace o p d.entries m.elements m.listed in
    record {
      elements = d.made.elements ++ r.0;
      listed = λ x h. elim (has-either x d.made.elements r.0 h) [ inl q ↦ d.made.listed x q | inr q ↦ r.1 x q ];
      labels_are = m.labels_are ∙ ap (λ (ls : List NodeData). ls ++ map (λ x. cloned (label_of p.tree x)) m.elements) d.made.labels_are
          ∙ ap (λ (ls : List NodeData). (o.tree.labels ++ map (λ x. cloned (label_of o.tree x)) d.made.elements) ++ ls) r.2
          ∙ append_assoc o.tree.labels (map (λ x. cloned (label_of o.tree x)) d.made.elements) (map (λ x. cloned (label_of o.tree x)) r.0)
          ∙ ap (λ (ls : List NodeData). o.tree.labels ++ ls) (sym (map-append (λ x. cloned (label_of o.tree x)) d.made.elements r.0));
    }

-- a tree in which the same elements stay closed
pub closed-more : (o p : Open) (t : Tree) → WellFormed o.tree → Descends o p → KeepsClosed p t → KeepsClosed o t
closed-more o p t w d k = λ x el off none.
    let b = element-in o.tree x el in
    let e = d.closed x el off none in
    k x (subst IsElement (sym (label-kept o p.tree d.made x b)) el)
    (elim (cases_bool (has x p.stack)) [ inl h ↦ absurd (let j = d.stack x b h in cc) | inr h ↦ h ])
    (λ a h g.
    let m : has a (children_of o.tree x) ≡ true = subst (λ v. has a v ≡ true) e h in
    none a m (subst IsElement (label-kept o p.tree d.made a (w.child_in x a m)) g))
    ∙ e

module _ (s : Tag) (foster : Bool) (o p : Open) (r : Round s foster o p) (opened : IsOpen o) where
  n : ℕ
  n = length o.tree.labels

  f-listed : has_node r.formatting_element o.list ≡ true
  f-listed = last_named-in o.tree s o.list r.formatting_element r.formatting

  pub round-made : MadeClones o p.tree
  round-made = record {
    elements = r.cloned_elements ++ r.formatting_element ∷ [];
    listed = λ x h. elim (has-either x r.cloned_elements (r.formatting_element ∷ []) h) [
      | inl q ↦ (originals-in (λ y. has_node y o.list) r.inner x (subst (λ (v : List ℕ). has x v ≡ true) r.cloned_are q)).1
      | inr q ↦ elim (has-head x r.formatting_element [] q) [
        | inl e ↦ subst (λ (y : ℕ). has_node y o.list ≡ true) (sym e) f-listed
        | inr e ↦ absurd (let k = e in cc)
      ]
    ];
    labels_are = r.labels_are;
  }

  pub label-new : (x : ℕ) → length o.tree.labels ≤ x → x ≤ length o.tree.labels + length r.cloned_elements
      → label_of p.tree x ≡ cloned (label_of o.tree (get_or (r.cloned_elements ++ r.formatting_element ∷ []) (x - length o.tree.labels) 0))
  label-new x a b =
      let e = length-append r.cloned_elements (r.formatting_element ∷ []) in
      ap (λ (ls : List NodeData). label_in ls x) r.labels_are ∙ get-right o.tree.labels (map (λ y. cloned (label_of o.tree y)) (r.cloned_elements ++ r.formatting_element ∷ [])) x Document a
      ∙ get-map (λ y. cloned (label_of o.tree y)) (r.cloned_elements ++ r.formatting_element ∷ []) (x - length o.tree.labels) 0 Document (omega (arith, e))

  label-last : label_of p.tree r.new_element ≡ cloned (label_of o.tree r.formatting_element)
  label-last =
      let e = r.new_element_is in
      label-new r.new_element (omega (arith, e)) (omega (arith, e))
      ∙ ap (λ (y : ℕ). cloned (label_of o.tree y))
      (get-right r.cloned_elements (r.formatting_element ∷ []) (r.new_element - length o.tree.labels) 0 (omega (arith, e)) ∙ ap (λ (i : ℕ). get_or (r.formatting_element ∷ []) i 0) (let z : (r.new_element - length o.tree.labels) - length r.cloned_elements ≡ 0 = omega (arith, e) in z))

  label-clone : (y : ℕ) → has y r.cloned_elements ≡ true → label_of p.tree (clone_number (length o.tree.labels) r.cloned_elements y) ≡ cloned (label_of o.tree y)
  label-clone y h =
      let a = clone-low (length o.tree.labels) r.cloned_elements y in
      let b = clone-high (length o.tree.labels) r.cloned_elements y h in
      label-new (clone_number (length o.tree.labels) r.cloned_elements y) a (omega (arith, b))
      ∙ ap (λ (z : ℕ). cloned (label_of o.tree z))
      (get_or_append_left r.cloned_elements (r.formatting_element ∷ []) 0 (clone_number (length o.tree.labels) r.cloned_elements y - length o.tree.labels) (omega (arith, a, b)) ∙ clone-back (length o.tree.labels) r.cloned_elements y h)

  abbrev From : ℕ → Type 0
  From x = (y : ℕ) × (has_node y o.list ≡ true) × (cloned (label_of p.tree x) ≡ cloned (label_of o.tree y))

  from-f : (x : ℕ) → x ≡ r.new_element → From x
  from-f x e = (r.formatting_element, f-listed, ap (λ (z : ℕ). cloned (label_of p.tree z)) e ∙ ap cloned label-last ∙ cloned-again (label_of o.tree r.formatting_element))

  pub round-entries : (x : ℕ) → has_node x p.list ≡ true → (y : ℕ) × (has_node y o.list ≡ true) × (cloned (label_of p.tree x) ≡ cloned (label_of o.tree y))
  round-entries x h =
      let m = sym (ap (has x) (ap nodes_of r.list_is ∙ relisted-nodes r.formatting_element (λ y. not (has y r.inner)) r.cloned_elements (length o.tree.labels) r.new_element o.list)) ∙ h in
      let q = flat-has (heirs r.formatting_element (λ y. not (has y r.inner)) r.cloned_elements (length o.tree.labels) r.new_element) (nodes_of o.list) x m in
      heir q.0 q.1 q.2
    where
      only : (zs : List ℕ) → has x (alone zs r.new_element) ≡ true → x ≡ r.new_element
      only [] e = elim (has-head x r.new_element [] e) [ inl z ↦ z | inr z ↦ absurd (let u = z in cc) ]
      only (z ∷ zs) e = absurd (let u = e in cc)

      near : (b : Bool) → has x (cond b (r.new_element ∷ []) []) ≡ true → x ≡ r.new_element
      near true e = elim (has-head x r.new_element [] e) [ inl z ↦ z | inr z ↦ absurd (let u = z in cc) ]
      near false e = absurd (let u = e in cc)

      own : (y : ℕ) → has_node y o.list ≡ true → x ≡ y → From x
      own y l e = (y, l, ap (λ (z : ℕ). cloned (label_of p.tree z)) e ∙ ap cloned (label-kept o p.tree round-made y (opened.list_in y l)))

      stays : (y : ℕ) → has_node y o.list ≡ true → (b : Bool) → has x (cond b (y ∷ []) []) ≡ true → From x
      stays y l true e = elim (has-head x y [] e) [ inl z ↦ own y l z | inr z ↦ absurd (let u = z in cc) ]
      stays y l false e = absurd (let u = e in cc)

      heir : (y : ℕ) → has_node y o.list ≡ true → has x (heirs r.formatting_element (λ z. not (has z r.inner)) r.cloned_elements (length o.tree.labels) r.new_element y) ≡ true → From x
      heir y l e = elim (cases_eqb y r.formatting_element) [
        | inl q ↦ from-f x (only r.cloned_elements (rw q.0 at e))
        | inr q ↦ elim (cases_bool (has y r.cloned_elements)) [
          | inl c ↦ elim (has-head x (clone_number (length o.tree.labels) r.cloned_elements y) (after_nearest r.cloned_elements y r.new_element) (rw (q.0, c) at e)) [
            | inl z ↦ (y, l, ap (λ (v : ℕ). cloned (label_of p.tree v)) z ∙ ap cloned (label-clone y c) ∙ cloned-again (label_of o.tree y))
            | inr z ↦ from-f x (near (is_in y (first_of r.cloned_elements)) z)
          ]
          | inr c ↦ stays y l (not (has y r.inner)) (rw (q.0, c) at e)
        ]
      ]

  abbrev tail : List ℕ
  tail = r.formatting_element ∷ (r.inner ++ (r.furthest_block ∷ r.upper))

  was : (x : ℕ) → has x (r.lower ++ (r.common_ancestor ∷ tail)) ≡ true → has x o.stack ≡ true
  was x h = subst (λ (v : List ℕ). has x v ≡ true) (sym r.stack_was) h

  pub g-there : has r.furthest_block o.stack ≡ true
  g-there = was r.furthest_block (has-right r.furthest_block r.lower (r.common_ancestor ∷ tail) (has-more r.furthest_block r.common_ancestor tail (has-more r.furthest_block r.formatting_element (r.inner ++ (r.furthest_block ∷ r.upper)) (has-right r.furthest_block r.inner (r.furthest_block ∷ r.upper) (has-first r.furthest_block r.upper)))))

  a-there : has r.common_ancestor o.stack ≡ true
  a-there = was r.common_ancestor (has-right r.common_ancestor r.lower (r.common_ancestor ∷ tail) (has-first r.common_ancestor tail))

  pub round-stack : (x : ℕ) → x < length o.tree.labels → has x p.stack ≡ true → has x o.stack ≡ true
  round-stack x b h = elim (has-either x r.lower (r.common_ancestor ∷ (clones_down (length o.tree.labels) (length r.cloned_elements) ++ (r.furthest_block ∷ (r.new_element ∷ r.upper)))) (subst (λ (v : List ℕ). has x v ≡ true) r.stack_is h)) [
    | inl q ↦ was x (has-left x r.lower (r.common_ancestor ∷ tail) q)
    | inr q ↦ elim (has-head x r.common_ancestor (clones_down (length o.tree.labels) (length r.cloned_elements) ++ (r.furthest_block ∷ (r.new_element ∷ r.upper))) q) [
      | inl e ↦ subst (λ (z : ℕ). has z o.stack ≡ true) (sym e) a-there
      | inr e ↦ elim (has-either x (clones_down (length o.tree.labels) (length r.cloned_elements)) (r.furthest_block ∷ (r.new_element ∷ r.upper)) e) [
        | inl z ↦ absurd (low x b (sym (has-down (length o.tree.labels) (length r.cloned_elements) x) ∙ z))
        | inr z ↦ elim (has-head x r.furthest_block (r.new_element ∷ r.upper) z) [
          | inl u ↦ subst (λ (v : ℕ). has v o.stack ≡ true) (sym u) g-there
          | inr u ↦ elim (has-head x r.new_element r.upper u) [
            | inl v ↦ absurd (let i = r.new_element_is in let j : x ≡ r.new_element = v in omega (arith, i, j, b))
            | inr v ↦ was x (has-right x r.lower (r.common_ancestor ∷ tail) (has-more x r.common_ancestor tail (has-more x r.formatting_element (r.inner ++ (r.furthest_block ∷ r.upper)) (has-right x r.inner (r.furthest_block ∷ r.upper) (has-more x r.furthest_block r.upper v)))))
          ]
        ]
      ]
    ]
  ]
    where
      low : (x : ℕ) → x < length o.tree.labels → (nat_le (length o.tree.labels) x && nat_lt x (length o.tree.labels + length r.cloned_elements)) ≡ true → ⊥
      low x b e = (let z = short (length o.tree.labels) x x (length o.tree.labels + length r.cloned_elements) b in let y : true ≡ false = sym e ∙ z in cc)

  pub round-closed : WellFormed o.tree → CanPlace o.tree o.stack → KeepsClosed o p.tree
  round-closed w can = λ x el off none.
      let b = element-in o.tree x el in
      let i = r.new_element_is in
      let ng : x ≢ r.furthest_block = λ q. (let z : has x o.stack ≡ true = subst (λ (v : ℕ). has v o.stack ≡ true) (sym q) g-there in let y : true ≡ false = sym z ∙ off in cc) in
      let nk : x ≢ r.new_element = λ q. (let q' : x ≡ r.new_element = q in omega (arith, i, q', b)) in
      let out : has r.furthest_block (children_of o.tree x) ≡ false = elim (cases_bool (has r.furthest_block (children_of o.tree x))) [ inl h ↦ absurd (none r.furthest_block h (opened.elements r.furthest_block g-there)) | inr h ↦ h ] in
      r.children_are x
      ∙ ap (with_put o.tree (place_at o.tree o.stack r.common_ancestor foster) (chain_top r.furthest_block (length o.tree.labels) r.new_element) x)
      (plain x (short (length o.tree.labels) x x r.new_element b) (eqb-apart x r.furthest_block ng) (eqb-apart x r.new_element nk) ∙ without-none r.furthest_block (children_of o.tree x) out)
      ∙ elsewhere (place_at o.tree o.stack r.common_ancestor foster) x (children_of o.tree x)
      (not-parent o.tree o.stack w (place_at o.tree o.stack r.common_ancestor foster) x (place-at-by o.tree o.stack w r.common_ancestor a-there foster can) opened.elements el off none)
    where
      plain : (x : ℕ) → (nat_le (length o.tree.labels) x && nat_lt x r.new_element) ≡ false → eqb x r.furthest_block ≡ false → eqb x r.new_element ≡ false
          → chained o.tree r.furthest_block (length o.tree.labels) r.new_element x ≡ without r.furthest_block (children_of o.tree x)
      plain x a b c = rw (a, b, c) refl

      elsewhere : (q : Place) (x : ℕ) (ys : List ℕ) → parent_at o.tree q ≢ Some x → with_put o.tree q (chain_top r.furthest_block (length o.tree.labels) r.new_element) x ys ≡ ys
      elsewhere (Last l) x ys ne = rw (eqb-apart x l (λ e. ne (ap Some (sym e)))) refl
      elsewhere (Before l) x ys ne = by (parent_of o.tree l) ne
        where
          by : (u : Option ℕ) → u ≢ Some x → cond (is_in x u) (put_before (chain_top r.furthest_block (length o.tree.labels) r.new_element) l ys) ys ≡ ys
          by None k = refl
          by (Some v) k = rw (eqb-apart x v (λ e. k (ap Some (sym e)))) refl

-- one round more
pub descends-round : (s : Tag) (foster : Bool) (o p q : Open) → WellFormed o.tree → WellFormed p.tree → IsOpen p → CanPlace p.tree p.stack → Descends o p → Round s foster p q → Descends o q
descends-round s foster o p q w wp opened can d r = record {
  made = made-more o p q.tree d (round-made s foster p q r opened);
  entries = λ x h.
      let e = round-entries s foster p q r opened x h in
      let g = d.entries e.0 e.1 in
      (g.0, g.1, e.2 ∙ g.2);
  stack = λ x b h. d.stack x b (round-stack s foster p q r opened x (let l = labels-longer o p.tree d.made in omega (arith, l, b)) h);
  closed = closed-more o p q.tree w d (round-closed s foster p q r opened wp can);
}

-- an end makes no node, and moves none
ends-labels : (s : Tag) (end : AdoptEnd) (o p : Open) → Ends s end o p → p.tree.labels ≡ o.tree.labels
ends-labels s _ _ _ (closes o p k) = ap (λ (t : Tree). t.labels) k.tree_is
ends-labels s _ _ _ (forgets o p k) = ap (λ (t : Tree). t.labels) k.tree_is
ends-labels s _ _ _ (out_of_scope o p k) = ap (λ (t : Tree). t.labels) k.unchanged.tree_is
ends-labels s _ _ _ (no_entry o p k) = ap (λ (t : Tree). t.labels) k.unchanged.tree_is

ends-children : (s : Tag) (end : AdoptEnd) (o p : Open) → Ends s end o p → p.tree.children ≡ o.tree.children
ends-children s _ _ _ (closes o p k) = ap (λ (t : Tree). t.children) k.tree_is
ends-children s _ _ _ (forgets o p k) = ap (λ (t : Tree). t.children) k.tree_is
ends-children s _ _ _ (out_of_scope o p k) = ap (λ (t : Tree). t.children) k.unchanged.tree_is
ends-children s _ _ _ (no_entry o p k) = ap (λ (t : Tree). t.children) k.unchanged.tree_is

made-as : (o : Open) (t u : Tree) → u.labels ≡ t.labels → MadeClones o t → MadeClones o u
made-as o t u e m = record { elements = m.elements; listed = m.listed; labels_are = e ∙ m.labels_are }

pub ends-made : (s : Tag) (end : AdoptEnd) (o p q : Open) → Descends o p → Ends s end p q → MadeClones o q.tree
ends-made s end o p q d k = made-as o p.tree q.tree (ends-labels s end p q k) d.made

pub ends-closed : (s : Tag) (end : AdoptEnd) (o p q : Open) → Descends o p → Ends s end p q → KeepsClosed o q.tree
ends-closed s end o p q d k = λ x el off none. ap (λ (cs : List (List ℕ)). get_or cs x []) (ends-children s end p q k) ∙ d.closed x el off none

-- steps that were counted before do not matter
pub made-rebase : (stack : List ℕ) (list : List Entry) (t : Tree) (n : ℕ) (o : Open) (u : Tree) → o ≡ open_at stack list (stepped t n) → MadeClones o u → MadeClones (open_at stack list t) u
made-rebase stack list t n o u e m = (let r = subst (λ v. MadeClones v u) e m in record { elements = r.elements; listed = r.listed; labels_are = r.labels_are })

pub closed-rebased : (stack : List ℕ) (list : List Entry) (t : Tree) (n : ℕ) (o : Open) (u : Tree) → o ≡ open_at stack list (stepped t n) → KeepsClosed o u → KeepsClosed (open_at stack list t) u
closed-rebased stack list t n o u e k = subst (λ v. KeepsClosed v u) e k

-- where a tree is the same but for its steps, nothing was made or moved
pub made-none : (o : Open) (t : Tree) → t.labels ≡ o.tree.labels → MadeClones o t
made-none o t e = made-as o o.tree t e (descends-start o).made

pub closed-none : (o : Open) (t : Tree) → t.children ≡ o.tree.children → KeepsClosed o t
closed-none o t e = λ x el off none. ap (λ (cs : List (List ℕ)). get_or cs x []) e
