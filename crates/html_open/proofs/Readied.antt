-- A tree whose nodes are ready for the moves of a round: the clones are made, and the marks are set.
use Rattle.std.proofs.Common.{◌≡◌, ℕ, zero, suc, ◌+◌, ◌-◌, ◌<◌, ◌≤◌, true, false, cond, eqb, nat_le, nat_lt, ◌&&◌, List, [], ◌∷◌, ◌++◌, length, length-append, map, get_or, Option, Some, None, refl, sym, ◌∙◌, ap, arith}
use Rattle.std.proofs.lemmas.List.{length-map}
use Rattle.html_arena.specs.declared.data.NodeData.{NodeData}
use Rattle.html_arena.specs.declared.data.NodeData.TheVariants.{Document, Contents, Element, Text, Comment, Doctype}
use Rattle.html_arena.specs.declared.marks.Mark.{Mark}
use Rattle.html_arena.specs.Data.{IsElement, cloned, is_linkable, label_in}
use Rattle.html_arena.specs.Siblings.{has, is_in, put_before, without}
use Rattle.html_arena.specs.Tree.{Tree, WellFormed, ancestors, children_of, label_of, marked, parent_of}
use Rattle.html_arena.proofs.Laws.{ancestors-frame, no_children, no_parent}
use Rattle.html_open.specs.declared.places.Place.{Place}
use Rattle.html_open.specs.declared.places.Place.TheVariants.{Last, Before}
use Rattle.html_open.specs.Cloning.{AreCloned, HaveEntered, HaveLeft}
use Rattle.html_open.specs.Hanging.{Hung, StandAlone, chain_top, chained, hung_parent, with_put}
use Rattle.html_open.specs.Marking.{charged}
use Rattle.html_open.specs.Placing.{IsPlace, parent_at, way_up}
use Rattle.html_open.proofs.Numbering.{has-get}
use Rattle.html_open.proofs.Rounding.{get-map, get-right}
use Rattle.html_open.proofs.Upwards.{has-first}

pub record Readied (t u : Tree) (xs left : List ℕ) (n m : ℕ) : Type 0 where
  pub labels_are : u.labels ≡ t.labels ++ map (λ x. cloned (label_of t x)) xs
  pub marks_are : (k : Mark) (x : ℕ) → marked u k x ≡ cond (nat_le n x && nat_lt x m) true (cond (has x left) false (marked t k x))
  pub same_parents : (x : ℕ) → parent_of u x ≡ parent_of t x
  pub same_children : (x : ℕ) → children_of u x ≡ children_of t x
  pub limits_are : u.limits ≡ t.limits

pub ready : (t t2 t4 t5 t6 : Tree) (a b : ℕ) (xs left : List ℕ) (n m : ℕ) → t2 ≡ charged (charged t a) b → AreCloned t2 t4 xs → t5 ≡ record t4 { marks = t5.marks } → HaveLeft t4 t5 left
    → t6 ≡ record t5 { marks = t6.marks } → HaveEntered t5 t6 n m → Readied t t6 xs left n m
ready t t2 t4 t5 t6 a b xs left n m e c f l g h = record {
  labels_are = ap (λ (v : Tree). v.labels) g ∙ ap (λ (v : Tree). v.labels) f ∙ c.labels_are ∙ ap (λ (ls : List NodeData). ls ++ map (λ x. cloned (label_in ls x)) xs) (ap (λ (v : Tree). v.labels) e);
  marks_are = λ k x.
      h k x
      ∙ ap (cond (nat_le n x && nat_lt x m) true) (l k x ∙ ap (cond (has x left) false) (c.same_marks k x ∙ ap (λ (v : Tree). marked v k x) e));
  same_parents = λ x. ap (λ (v : Tree). parent_of v x) g ∙ ap (λ (v : Tree). parent_of v x) f ∙ c.same_parents x ∙ ap (λ (v : Tree). parent_of v x) e;
  same_children = λ x. ap (λ (v : Tree). children_of v x) g ∙ ap (λ (v : Tree). children_of v x) f ∙ c.same_children x ∙ ap (λ (v : Tree). children_of v x) e;
  limits_are = ap (λ (v : Tree). v.limits) g ∙ ap (λ (v : Tree). v.limits) f ∙ c.limits_are ∙ ap (λ (v : Tree). v.limits) e;
}

element-linkable : (l : NodeData) → IsElement l → is_linkable l ≡ true
element-linkable (Element e) h = refl
element-linkable Document h = absurd h
element-linkable (Contents c) h = absurd h
element-linkable (Text c) h = absurd h
element-linkable (Comment c j) h = absurd h
element-linkable (Doctype b p s j) h = absurd h

clone-linkable : (l : NodeData) → IsElement l → is_linkable (cloned l) ≡ true
clone-linkable (Element e) h = refl
clone-linkable Document h = absurd h
clone-linkable (Contents c) h = absurd h
clone-linkable (Text c) h = absurd h
clone-linkable (Comment c j) h = absurd h
clone-linkable (Doctype b p s j) h = absurd h

-- the parent of a node that is not put at the place
abbrev hung_rest : Tree → ℕ → ℕ → ℕ → ℕ → Option ℕ
hung_rest y g n k x =
    cond (eqb x g) (Some n) (cond (nat_le n x && nat_lt x k) (Some (x + 1)) (cond (eqb x k) (Some g) (cond (has x (children_of y g)) (Some k) (cond (eqb x g) None (parent_of y x)))))

module _ (t u : Tree) (w : WellFormed t) (xs left : List ℕ) (m : ℕ) (r : Readied t u xs left (length t.labels) m) (elements : (x : ℕ) → has x xs ≡ true → IsElement (label_of t x)) where
  pub longer : length u.labels ≡ length t.labels + length xs
  longer =
      (let a = ap length r.labels_are in let b = length-append t.labels (map (λ x. cloned (label_of t x)) xs) in let c = length-map xs (λ x. cloned (label_of t x)) in omega (arith, a, b, c))

  pub label-new : (x : ℕ) → length t.labels ≤ x → x < length t.labels + length xs → label_of u x ≡ cloned (label_of t (get_or xs (x - length t.labels) 0))
  label-new x a b =
      ap (λ (ls : List NodeData). label_in ls x) r.labels_are ∙ get-right t.labels (map (λ y. cloned (label_of t y)) xs) x Document a
      ∙ get-map (λ y. cloned (label_of t y)) xs (x - length t.labels) 0 Document (omega arith)

  pub fresh : StandAlone u (length t.labels) (length t.labels + length xs)
  fresh = record {
    no_parent = λ x a b. r.same_parents x ∙ no_parent t w x a;
    no_children = λ x a b. r.same_children x ∙ no_children t w x a;
    linkable = λ x a b.
        ap is_linkable (label-new x a b)
        ∙ clone-linkable (label_of t (get_or xs (x - length t.labels) 0)) (elements (get_or xs (x - length t.labels) 0) (has-get xs (x - length t.labels) (omega arith)));
  }

  pub label-same : (x : ℕ) → x < length t.labels → label_of u x ≡ label_of t x
  label-same x b = ap (λ (ls : List NodeData). label_in ls x) r.labels_are ∙ left-part x b
    where
      left-part : (x : ℕ) → x < length t.labels → get_or (t.labels ++ map (λ y. cloned (label_of t y)) xs) x Document ≡ get_or t.labels x Document
      left-part x b = go t.labels x b
        where
          go : (ls : List NodeData) (i : ℕ) → i < length ls → get_or (ls ++ map (λ y. cloned (label_of t y)) xs) i Document ≡ get_or ls i Document
          go [] i h = absurd (omega arith)
          go (l ∷ ls) zero h = refl
          go (l ∷ ls) (suc i) h = go ls i (omega arith)

  pub linkable-old : (x : ℕ) → x < length t.labels → IsElement (label_of t x) → is_linkable (label_of u x) ≡ true
  linkable-old x b e = ap is_linkable (label-same x b) ∙ element-linkable (label_of t x) e

  ancestors-same : (x : ℕ) → x < length t.labels → ancestors u x ≡ ancestors t x
  ancestors-same x b = (let l = longer in ancestors-frame t u w x b (omega (arith, l)) (λ y h. r.same_parents y))

  pub way-same : (at : Place) → ((y : ℕ) → has y (way_up t at) ≡ true → y < length t.labels) → way_up u at ≡ way_up t at
  way-same (Last p) h = ap (λ (ys : List ℕ). p ∷ ys) (ancestors-same p (h p (has-first p (ancestors t p))))
  way-same (Before p) h = ap (λ (ys : List ℕ). p ∷ ys) (ancestors-same p (h p (has-first p (ancestors t p))))

  pub place-same : (at : Place) → IsPlace t at → IsPlace u at
  place-same (Last p) h = (let l = longer in omega (arith, l))
  place-same (Before p) h = ((let l = longer in let b = h.0 in omega (arith, l)), λ q. h.1 (sym (r.same_parents p) ∙ q))

  module _ (v : Tree) (g k : ℕ) (at : Place) (h : Hung u v g (length t.labels) k at) where
    parent_at-same : parent_at u at ≡ parent_at t at
    parent_at-same = go at
      where
        go : (l : Place) → parent_at u l ≡ parent_at t l
        go (Last p) = refl
        go (Before p) = r.same_parents p

    put-same : (c x : ℕ) (ys : List ℕ) → with_put u at c x ys ≡ with_put t at c x ys
    put-same c x ys = go at
      where
        go : (l : Place) → with_put u l c x ys ≡ with_put t l c x ys
        go (Last p) = refl
        go (Before p) = ap (λ (o : Option ℕ). cond (is_in x o) (put_before c p ys) ys) (r.same_parents p)

    rest-same : (x : ℕ) → hung_rest u g (length t.labels) k x ≡ hung_rest t g (length t.labels) k x
    rest-same x =
        ap (λ (ys : List ℕ). cond (eqb x g) (Some (length t.labels)) (cond (nat_le (length t.labels) x && nat_lt x k) (Some (x + 1)) (cond (eqb x k) (Some g) (cond (has x ys) (Some k) (cond (eqb x g) None (parent_of u x)))))) (r.same_children g)
        ∙ ap (λ (o : Option ℕ). cond (eqb x g) (Some (length t.labels)) (cond (nat_le (length t.labels) x && nat_lt x k) (Some (x + 1)) (cond (eqb x k) (Some g) (cond (has x (children_of t g)) (Some k) (cond (eqb x g) None o))))) (r.same_parents x)

    pub parents-after : (x : ℕ) → parent_of v x ≡ hung_parent t g (length t.labels) k at x
    parents-after x =
        h.parents_are x ∙ ap (λ (o : Option ℕ). cond (eqb x (chain_top g (length t.labels) k)) o (hung_rest u g (length t.labels) k x)) parent_at-same
        ∙ ap (cond (eqb x (chain_top g (length t.labels) k)) (parent_at t at)) (rest-same x)

    chained-same : (x : ℕ) → chained u g (length t.labels) k x ≡ chained t g (length t.labels) k x
    chained-same x =
        ap (λ (ys : List ℕ). cond (nat_le (length t.labels) x && nat_lt x k) (cond (eqb x (length t.labels)) g (x - 1) ∷ []) (cond (eqb x g) (k ∷ []) (cond (eqb x k) ys (without g (children_of u x))))) (r.same_children g)
        ∙ ap (λ (ys : List ℕ). cond (nat_le (length t.labels) x && nat_lt x k) (cond (eqb x (length t.labels)) g (x - 1) ∷ []) (cond (eqb x g) (k ∷ []) (cond (eqb x k) (children_of t g) (without g ys)))) (r.same_children x)

    pub children-after : (x : ℕ) → children_of v x ≡ with_put t at (chain_top g (length t.labels) k) x (chained t g (length t.labels) k x)
    children-after x = h.children_are x ∙ put-same (chain_top g (length t.labels) k) x (chained u g (length t.labels) k x) ∙ ap (with_put t at (chain_top g (length t.labels) k) x) (chained-same x)
