-- How many clones of one token's element a reopening and an adoption make.
use Rattle.std.proofs.Common.{ℕ, ◌+◌, ◌≡◌, ◌<◌, ◌≤◌, Bool, true, false, cond, List, [], ◌∷◌, ◌++◌, append_assoc, length, length-append, map, None, inl, inr, refl, sym, ap, subst, ◌∙◌, arith}
use Rattle.std.specs.List.{sum_by}
use Rattle.std.proofs.lemmas.Bool.{false≢true}
use Rattle.std.proofs.lemmas.List.{append-nil}
use Rattle.std.proofs.lemmas.List.Sums.{sum_by-append, sum_by-cons}
use Rattle.html_names.specs.declared.tag.Tag.{Tag}
use Rattle.html_arena.specs.declared.data.NewNode.TheVariants.{CloneOf}
use Rattle.html_arena.specs.declared.data.NodeData.{NodeData}
use Rattle.html_arena.specs.declared.data.NodeData.TheVariants as node
use Rattle.html_arena.specs.declared.data.Origin.TheVariants.{Token}
use Rattle.html_arena.specs.Data.{cloned, label_in, origin_in}
use Rattle.html_arena.specs.Make.{made}
use Rattle.html_arena.specs.Siblings.{Distinct, has}
use Rattle.html_arena.specs.Tree.{Tree as Nodes, label_of}
use Rattle.html_open.specs.declared.adoption.AdoptEnd.{AdoptEnd}
use Rattle.html_open.specs.Adopting.{Adopted, Ends, Round, Rounds, closes, eight, fewer, forgets, no_entry, no_round, one_more, out_of_scope, popped}
use Rattle.html_open.specs.Entries.{has_node, nodes_of}
use Rattle.html_open.specs.Lists.{above, up_to}
use Rattle.html_open.specs.Marking.{bare}
use Rattle.html_open.specs.Opened.{AreNodes, AreOneByOrigin, Open, open_at}
use Rattle.html_open.specs.Placing.{place_of}
use Rattle.html_open.specs.Reopening.{closed, stands, with_clone, with_clones}
use Rattle.html_open.proofs.Finding.{above-node, last_named-in}
use Rattle.html_arena.proofs.Siblings.{Distinct-insert}
use Rattle.html_open.proofs.Keeps.{cases_bool, cases_eqb, nodes-append}
use Rattle.html_open.proofs.Numbering.{originals-distinct, originals-in}
use Rattle.html_open.proofs.Ordering.{distinct-left, distinct-right, has-either, has-head, has-left}
use Rattle.html_open.proofs.Reopened.{split-above}
use Rattle.html_open.proofs.Upwards.{has-first}
use Rattle.html_tree.specs.Listing.{IsAdopted, IsReopened}
use Rattle.html_tree.specs.States.{IsSound, State as Tree}
use Rattle.html_tree.proofs.Inserted.{made-labels, put-labels}
use Rattle.html_construction.specs.Copies.{clone_count, clones_of, implied_in, implied_count, is_token}
use Rattle.html_construction.proofs.Copying.{Copies, count-of, most-more}
use Rattle.html_construction.proofs.Labels.{label-old}

-- ELEMENTS OF ONE TOKEN

-- how many of some nodes come from a token
abbrev of-token : Nodes → ℕ → List ℕ → ℕ
of-token t i xs = sum_by (λ x. cond (is_token i (origin_in (label_of t x))) 1 0) xs

later : (x y : ℕ) (ys : List ℕ) → has x ys ≡ true → has x (y ∷ ys) ≡ true
later x y ys h = elim (cases_eqb x y) [ inl q ↦ rw q.0 refl | inr q ↦ rw q.0 h ]

none-of : (t : Nodes) (i : ℕ) (xs : List ℕ) → ((y : ℕ) → has y xs ≡ true → origin_in (label_of t y) ≡ Token i → ⊥) → of-token t i xs ≡ 0
none-of t i [] h = refl
none-of t i (x ∷ xs) h = elim (count-of i (origin_in (label_of t x)) true) [
  | inl a ↦
      let p = sum_by-cons (λ y. cond (is_token i (origin_in (label_of t y))) 1 0) x xs in
      let q = none-of t i xs (λ y k. h y (later y x xs k)) in
      omega (arith, a, p, q)
  | inr a ↦ absurd (h x (has-first x xs) a)
]

unit : (b : Bool) → cond b 1 0 ≤ 1
unit true = omega arith
unit false = omega arith

-- at most one of some nodes does, where each token has one
one-of : (t : Nodes) (i : ℕ) (xs : List ℕ) → Distinct xs → ((x y : ℕ) → has x xs ≡ true → has y xs ≡ true → origin_in (label_of t x) ≡ Token i → origin_in (label_of t y) ≡ Token i → x ≡ y) → of-token t i xs ≤ 1
one-of t i [] d h = omega arith
one-of t i (x ∷ xs) d h =
    let p = sum_by-cons (λ y. cond (is_token i (origin_in (label_of t y))) 1 0) x xs in
    elim (count-of i (origin_in (label_of t x)) true) [
      | inl a ↦ (let r = one-of t i xs d.1 (λ y z k l. h y z (later y x xs k) (later z x xs l)) in omega (arith, a, p, r))
      | inr a ↦
          let r = none-of t i xs (λ y k o. absurd (false≢true (sym d.0 ∙ subst (λ (z : ℕ). has z xs ≡ true) (sym (h x y (has-first x xs) (later y x xs k) a o)) k))) in
          let u = unit (is_token i (origin_in (label_of t x))) in
          omega (arith, p, r, u)
    ]

-- CLONES

clone-count : (i : ℕ) (d : NodeData) → clone_count (Token i) (cloned d) ≤ cond (is_token i (origin_in d)) 1 0
clone-count i node.Document = omega arith
clone-count i (node.Contents h) = omega arith
clone-count i (node.Element e) = omega arith
clone-count i (node.Text s) = omega arith
clone-count i (node.Comment s j) = omega arith
clone-count i (node.Doctype n p s j) = omega arith

clone-implied : (d : NodeData) → implied_in (cloned d) ≡ 0
clone-implied node.Document = refl
clone-implied (node.Contents h) = refl
clone-implied (node.Element e) = refl
clone-implied (node.Text s) = refl
clone-implied (node.Comment s i) = refl
clone-implied (node.Doctype n p s i) = refl

clones-count : (t : Nodes) (i : ℕ) (xs : List ℕ) → clones_of (Token i) (map (λ x. cloned (label_of t x)) xs) ≤ of-token t i xs
clones-count t i [] = omega arith
clones-count t i (x ∷ xs) =
    let p = sum_by-cons (clone_count (Token i)) (cloned (label_of t x)) (map (λ y. cloned (label_of t y)) xs) in
    let q = sum_by-cons (λ y. cond (is_token i (origin_in (label_of t y))) 1 0) x xs in
    let r = clones-count t i xs in
    let u = clone-count i (label_of t x) in
    omega (arith, p, q, r, u)

clones-implied : (t : Nodes) (xs : List ℕ) → sum_by implied_in (map (λ x. cloned (label_of t x)) xs) ≡ 0
clones-implied t [] = refl
clones-implied t (x ∷ xs) =
    let p = sum_by-cons implied_in (cloned (label_of t x)) (map (λ y. cloned (label_of t y)) xs) in
    let r = clones-implied t xs in
    let u = clone-implied (label_of t x) in
    omega (arith, p, r, u)

-- of each token so many more clones at most, and no more names that no token asked for
abbrev Multiplies : ℕ → List NodeData → List NodeData → Type 0
Multiplies r ls ks = ((i : ℕ) → clones_of (Token i) ks ≤ clones_of (Token i) ls + r) × (implied_count ks ≤ implied_count ls + 0)

to-copies : (r : ℕ) (t u : Nodes) → Multiplies r t.labels u.labels → Copies r 0 t u
to-copies r t u m = (most-more r t.labels u.labels m.0, m.1)

-- clones of elements of which each token has one
multiplied : (t : Nodes) (xs : List ℕ) → Distinct xs → ((i x y : ℕ) → has x xs ≡ true → has y xs ≡ true → origin_in (label_of t x) ≡ Token i → origin_in (label_of t y) ≡ Token i → x ≡ y)
    → Multiplies 1 t.labels (t.labels ++ map (λ x. cloned (label_of t x)) xs)
unfolding implied_count
multiplied t xs d h = (
  (λ i.
      let p = sum_by-append (clone_count (Token i)) t.labels (map (λ x. cloned (label_of t x)) xs) in
      let q = clones-count t i xs in
      let r = one-of t i xs d (h i) in
      omega (arith, p, q, r)),
  (let p = sum_by-append implied_in t.labels (map (λ x. cloned (label_of t x)) xs) in
      let q = clones-implied t xs in
      omega (arith, p, q)),
)

-- REOPENING

clone-labels : (t : Nodes) (s : List ℕ) (f : Bool) (x : ℕ) → (with_clone t s f x).labels ≡ t.labels ++ cloned (label_of t x) ∷ []
clone-labels t s f x = put-labels (made t (CloneOf x)) (place_of t s None f) (length t.labels) ∙ made-labels t (CloneOf x)

map-same : (f g : ℕ → NodeData) (xs : List ℕ) → ((x : ℕ) → has x xs ≡ true → f x ≡ g x) → map f xs ≡ map g xs
map-same f g [] h = refl
map-same f g (x ∷ xs) h = ap (λ d. d ∷ map f xs) (h x (has-first x xs)) ∙ ap (λ ds. g x ∷ ds) (map-same f g xs (λ y k. h y (later y x xs k)))

clones-labels : (xs : List ℕ) (t : Nodes) (s : List ℕ) (f : Bool) → ((x : ℕ) → has x xs ≡ true → x < length t.labels) → (with_clones t s f xs).labels ≡ t.labels ++ map (λ x. cloned (label_of t x)) xs
clones-labels [] t s f h = sym (append-nil t.labels)
clones-labels (x ∷ xs) t s f h =
    clones-labels xs (with_clone t s f x) (s ++ length t.labels ∷ []) f
    (λ y k. let a = ap length (clone-labels t s f x) in let b = length-append t.labels (cloned (label_of t x) ∷ []) in let c = h y (later y x xs k) in omega (arith, a, b, c))
    ∙ ap (λ ls. ls ++ map (λ y. cloned (label_of (with_clone t s f x) y)) xs) (clone-labels t s f x)
    ∙ append_assoc t.labels (cloned (label_of t x) ∷ []) (map (λ y. cloned (label_of (with_clone t s f x) y)) xs)
    ∙ ap (λ ms. t.labels ++ cloned (label_of t x) ∷ ms)
    (map-same (λ y. cloned (label_of (with_clone t s f x) y)) (λ y. cloned (label_of t y)) xs
    (λ y k. ap cloned (ap (λ ls. label_in ls y) (clone-labels t s f x) ∙ label-old t.labels (cloned (label_of t x) ∷ []) y (h y (later y x xs k)))))

-- the listed elements that are opened anew are as many as they are listed
closed-distinct : (o : Open) → Distinct (nodes_of o.list) → Distinct (closed o)
closed-distinct o d =
    distinct-right (nodes_of (up_to (stands o.stack) o.list)) (closed o)
    (subst Distinct (ap nodes_of (split-above (stands o.stack) o.list) ∙ nodes-append (up_to (stands o.stack) o.list) (above (stands o.stack) o.list)) d)

reopened-open : (foster : Bool) (o : Open) (u : Nodes) → AreNodes o.tree (nodes_of o.list) → Distinct (nodes_of o.list) → AreOneByOrigin o.tree (nodes_of o.list) (nodes_of o.list)
    → bare u ≡ bare (with_clones o.tree o.stack foster (closed o)) → Multiplies 1 o.tree.labels u.labels
reopened-open foster o u n d one e =
    let inner : (x : ℕ) → has x (closed o) ≡ true → has x (nodes_of o.list) ≡ true = λ x h. above-node (stands o.stack) o.list x h in
    subst (λ (ls : List NodeData). Multiplies 1 o.tree.labels ls)
    (sym (ap (λ (t : Nodes). t.labels) e ∙ clones-labels (closed o) o.tree o.stack foster (λ x h. n x (inner x h))))
    (multiplied o.tree (closed o) (closed-distinct o d) (λ i x y h k p q. one i x y (inner x h) (inner y k) p q))

pub reopened-copies : (foster : Bool) (a b : Tree) → IsSound a → IsReopened foster a b → Copies 1 0 a.tree b.tree
reopened-copies foster a b w r =
    to-copies 1 a.tree b.tree
    (subst (λ (u : Nodes). Multiplies 1 a.tree.labels u.labels) r.new_is
    (subst (λ (t : Nodes). Multiplies 1 t.labels r.new.labels) r.old_is
    (reopened-open foster (open_at a.stack a.list r.old) r.new
    (subst (λ (t : Nodes). AreNodes t (nodes_of a.list)) (sym r.old_is) w.list_in) w.list_once
    (subst (λ (t : Nodes). AreOneByOrigin t (nodes_of a.list) (nodes_of a.list)) (sym r.old_is) w.list_origins) r.reopened.tree_is)))

-- ADOPTION

-- the stack holds each element once, and the list one of each token
abbrev IsApart : Open → Type 0
IsApart o = Distinct o.stack × AreOneByOrigin o.tree (nodes_of o.list) (nodes_of o.list)

module _ (s : Tag) (foster : Bool) where
  round-multiplies : (o p : Open) → IsApart o → Round s foster o p → Multiplies 1 o.tree.labels p.tree.labels
  round-multiplies o p w r =
      subst (λ (ls : List NodeData). Multiplies 1 o.tree.labels ls) (sym r.labels_are)
      (multiplied o.tree (r.cloned_elements ++ r.formatting_element ∷ []) distinct (λ i x y h k p q. w.1 i x y (listed x h) (listed y k) p q))
    where
      above-a : Distinct (r.formatting_element ∷ (r.inner ++ (r.furthest_block ∷ r.upper)))
      above-a = (distinct-right r.lower (r.common_ancestor ∷ r.formatting_element ∷ (r.inner ++ (r.furthest_block ∷ r.upper))) (subst Distinct r.stack_was w.0)).1

      inner-once : Distinct r.inner
      inner-once = distinct-left r.inner (r.furthest_block ∷ r.upper) above-a.1

      is-inner : (x : ℕ) → has x r.cloned_elements ≡ true → (has x r.inner ≡ true) × (has_node x o.list ≡ true)
      is-inner x h = originals-in (λ y. has_node y o.list) r.inner x (subst (λ (xs : List ℕ). has x xs ≡ true) r.cloned_are h)

      no-f : has r.formatting_element r.cloned_elements ≡ false
      no-f = elim (cases_bool (has r.formatting_element r.cloned_elements)) [
        | inl e ↦ absurd (false≢true (sym above-a.0 ∙ has-left r.formatting_element r.inner (r.furthest_block ∷ r.upper) (is-inner r.formatting_element e).0))
        | inr e ↦ e
      ]

      distinct : Distinct (r.cloned_elements ++ r.formatting_element ∷ [])
      distinct =
          Distinct-insert r.formatting_element r.cloned_elements [] (subst Distinct (sym (append-nil r.cloned_elements)) (subst Distinct (sym r.cloned_are) (originals-distinct (λ y. has_node y o.list) r.inner inner-once)))
          (subst (λ (xs : List ℕ). has r.formatting_element xs ≡ false) (sym (append-nil r.cloned_elements)) no-f)

      listed : (x : ℕ) → has x (r.cloned_elements ++ r.formatting_element ∷ []) ≡ true → has_node x o.list ≡ true
      listed x h = elim (has-either x r.cloned_elements (r.formatting_element ∷ []) h) [
        | inl k ↦ (is-inner x k).1
        | inr k ↦ elim (has-head x r.formatting_element [] k) [
          | inl e ↦ subst (λ (y : ℕ). has_node y o.list ≡ true) (sym e) (last_named-in o.tree s o.list r.formatting_element r.formatting)
          | inr e ↦ absurd (false≢true e)
        ]
      ]

  rounds-multiply : (n : ℕ) (o p : Open) → IsApart o → Rounds s foster n o p → Multiplies n o.tree.labels p.tree.labels × IsApart p
  rounds-multiply _ _ _ w (no_round o) = (((λ i. omega arith), omega arith), w)
  rounds-multiply _ _ _ w (one_more n o p q rs r) =
      let a = rounds-multiply n o p w rs in
      let b = round-multiplies p q a.1 r in
      (((λ i. let c = a.0.0 i in let d = b.0 i in omega (arith, c, d)), (let c = a.0.1 in let d = b.1 in omega (arith, c, d))), (r.is_open.stack_once, r.is_open.list_origins))

  ends-same : (end : AdoptEnd) (o p : Open) → Ends s end o p → p.tree.labels ≡ o.tree.labels
  ends-same _ _ _ (closes o p k) = ap (λ (t : Nodes). t.labels) k.tree_is
  ends-same _ _ _ (forgets o p k) = ap (λ (t : Nodes). t.labels) k.tree_is
  ends-same _ _ _ (out_of_scope o p k) = ap (λ (t : Nodes). t.labels) k.unchanged.tree_is
  ends-same _ _ _ (no_entry o p k) = ap (λ (t : Nodes). t.labels) k.unchanged.tree_is

  same-multiplies : (n : ℕ) (ls ks hs : List NodeData) → n ≤ 8 → hs ≡ ks → Multiplies n ls ks → Multiplies 8 ls hs
  same-multiplies n ls ks hs b e m =
      subst (λ (gs : List NodeData). Multiplies 8 ls gs) (sym e) ((λ i. let c = m.0 i in omega (arith, b, c)), m.1)

  adopted-multiplies : (end : AdoptEnd) (o p : Open) → IsApart o → Adopted s foster end o p → Multiplies 8 o.tree.labels p.tree.labels
  adopted-multiplies _ _ _ w (popped o p k) = same-multiplies 0 o.tree.labels o.tree.labels p.tree.labels (omega arith) (ap (λ (t : Nodes). t.labels) k.tree_is) ((λ i. omega arith), omega arith)
  adopted-multiplies _ _ _ w (eight o p x rs) = (rounds-multiply 8 o p w rs).0
  adopted-multiplies _ _ _ w (fewer end n o p q x b rs e) = same-multiplies n o.tree.labels p.tree.labels q.tree.labels (omega (arith, b)) (ends-same end p q e) (rounds-multiply n o p w rs).0

pub adopted-copies : (name : Tag) (foster : Bool) (end : AdoptEnd) (a b : Tree) → IsSound a → IsAdopted name foster end a b → Copies 8 0 a.tree b.tree
adopted-copies name foster end a b w r =
    to-copies 8 a.tree b.tree
    (subst (λ (u : Nodes). Multiplies 8 a.tree.labels u.labels) r.new_is
    (subst (λ (t : Nodes). Multiplies 8 t.labels r.new.labels) r.old_is
    (adopted-multiplies name foster end (open_at a.stack a.list r.old) (open_at b.stack b.list r.new)
    (w.stack_once, subst (λ (t : Nodes). AreOneByOrigin t (nodes_of a.list) (nodes_of a.list)) (sym r.old_is) w.list_origins) r.adopted)))
