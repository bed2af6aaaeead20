-- What is true between calls is kept by the edits of an arena: for callers, who make, link, unlink and relabel nodes.
use Rattle.std.proofs.Common.{◌≡◌, ◌<◌, ◌≤◌, ℕ, true, false, List, [], ◌∷◌, ◌++◌, length, inl, inr, refl, sym, ◌∙◌, ap, subst, arith}
use Rattle.html_names.specs.Sets.{is_formatting}
use Rattle.html_arena.specs.declared.data.NodeData.{NodeData}
use Rattle.html_arena.specs.declared.marks.Mark.{Mark}
use Rattle.html_arena.specs.declared.marks.Mark.TheVariants.{InList, OnStack}
use Rattle.html_arena.specs.Data.{IsElement, label_in, origin_in, tag_in}
use Rattle.html_arena.specs.Laws.{IsGrown, IsLinked, IsMoved, IsRelabelled, IsUnlinked}
use Rattle.html_arena.specs.Siblings.{has}
use Rattle.html_arena.specs.Tree.{Tree, ancestors, label_of, marked}
use Rattle.html_open.specs.declared.entry.Entry.{Entry}
use Rattle.html_open.specs.Opened.{IsApart, IsOpen, IsOrdered, open_at}
use Rattle.html_open.proofs.Keeps.{cases_bool, cases_eqb, eqb-self}

-- the nodes that were there are alike: elements stay elements, with their tags and origins
pub record AreAlike (t u : Tree) : Type 0 where
  pub no_fewer : length t.labels ≤ length u.labels
  pub elements : (x : ℕ) → x < length t.labels → IsElement (label_of t x) → IsElement (label_of u x)
  pub tags : (x : ℕ) → x < length t.labels → tag_in (label_of u x) ≡ tag_in (label_of t x)
  pub origins : (x : ℕ) → x < length t.labels → origin_in (label_of u x) ≡ origin_in (label_of t x)
  pub marks : (m : Mark) (x : ℕ) → marked u m x ≡ marked t m x

pub alike-labels : (t u : Tree) → u.labels ≡ t.labels → u.marks ≡ t.marks → AreAlike t u
alike-labels t u e f = record {
  no_fewer = (let l = ap length e in omega (arith, l));
  elements = λ x b h. subst (λ (ds : List NodeData). IsElement (label_in ds x)) (sym e) h;
  tags = λ x b. ap (λ (ds : List NodeData). tag_in (label_in ds x)) e;
  origins = λ x b. ap (λ (ds : List NodeData). origin_in (label_in ds x)) e;
  marks = λ m x. subst (λ ms. marked (record t { marks = ms }) m x ≡ marked t m x) (sym f) refl;
}

-- the elements of the stack stand in order, and the nodes are alike
pub open-alike : (s : List ℕ) (l : List Entry) (t u : Tree) → AreAlike t u → IsOrdered u s → IsOpen (open_at s l t) → IsOpen (open_at s l u)
open-alike s l t u a o h =
    let more = a.no_fewer in
    record {
      stack_in = λ x b. (let k = h.stack_in x b in omega (arith, k, more));
      elements = λ x b. a.elements x (h.stack_in x b) (h.elements x b);
      stack_once = h.stack_once;
      ordered = o;
      list_in = λ x b. (let k = h.list_in x b in omega (arith, k, more));
      formatting = λ x b. ap is_formatting (a.tags x (h.list_in x b)) ∙ h.formatting x b;
      list_once = h.list_once;
      on_stack = λ x. a.marks OnStack x ∙ h.on_stack x;
      in_list = λ x. a.marks InList x ∙ h.in_list x;
      stack_origins = λ i x y b c e f. h.stack_origins i x y b c (sym (a.origins x (h.stack_in x b)) ∙ e) (sym (a.origins y (h.stack_in y c)) ∙ f);
      list_origins = λ i x y b c e f. h.list_origins i x y b c (sym (a.origins x (h.list_in x b)) ∙ e) (sym (a.origins y (h.list_in y c)) ∙ f);
      shared_origins = λ i x y b c e f. h.shared_origins i x y b c (sym (a.origins x (h.list_in x b)) ∙ e) (sym (a.origins y (h.stack_in y c)) ∙ f);
    }

-- no ancestor is new to an element of the stack
pub ordered-fewer : (t u : Tree) (s : List ℕ) → ((x y : ℕ) → has x s ≡ true → has y s ≡ true → has y (ancestors t x) ≡ false → has y (ancestors u x) ≡ false) → IsOrdered t s → IsOrdered u s
ordered-fewer t u [] f h = tt
ordered-fewer t u (x ∷ xs) f h =
    let self : has x (x ∷ xs) ≡ true = rw (eqb-self x) refl in
    (λ y b. f x y self (later y b) (h.0 y b), ordered-fewer t u xs (λ z y b c. f z y (later z b) (later y c)) h.1)
  where
    later : (y : ℕ) → has y xs ≡ true → has y (x ∷ xs) ≡ true
    later y b = elim (cases_eqb y x) [ inl q ↦ rw q.0 refl | inr q ↦ rw q.0 b ]

-- nodes are made
pub open-grown : (s : List ℕ) (l : List Entry) (t u : Tree) (k : ℕ) → IsGrown t u k → IsOpen (open_at s l t) → IsOpen (open_at s l u)
open-grown s l t u k g h =
    let more = g.longer in
    open-alike s l t u (record {
      no_fewer = omega (arith, more);
      elements = λ x b e. subst IsElement (sym (g.same_label x b)) e;
      tags = λ x b. ap tag_in (g.same_label x b);
      origins = λ x b. ap origin_in (g.same_label x b);
      marks = g.same_marks;
    }) (ordered-fewer t u s (λ x y b c e. ap (has y) (g.same_ancestors x (h.stack_in x b)) ∙ e) h.ordered) h

pub grown-apart : (s : List ℕ) (l : List Entry) (t u : Tree) (k c : ℕ) → IsGrown t u k → length t.labels ≤ c → IsOpen (open_at s l t) → IsApart u s c
grown-apart s l t u k c g b h = λ y a. g.not_above y c (h.stack_in y a) b

-- a node that no open element is, nor stands below, is linked
pub open-apart : (s : List ℕ) (l : List Entry) (t u : Tree) (c : ℕ) → u.labels ≡ t.labels → u.marks ≡ t.marks
    → ((x : ℕ) → x < length t.labels → has c (x ∷ ancestors t x) ≡ false → ancestors u x ≡ ancestors t x)
    → IsApart t s c → IsOpen (open_at s l t) → IsOpen (open_at s l u)
open-apart s l t u c e f others apart h =
    open-alike s l t u (alike-labels t u e f) (ordered-fewer t u s (λ x y b d q. ap (has y) (others x (h.stack_in x b) (apart x b)) ∙ q) h.ordered) h

pub open-linked : (s : List ℕ) (l : List Entry) (t u : Tree) (c p : ℕ) (xs : List ℕ) → IsLinked t u c p xs → IsApart t s c → IsOpen (open_at s l t) → IsOpen (open_at s l u)
open-linked s l t u c p xs k apart h = open-apart s l t u c k.same_labels k.same_marks k.above_others apart h

-- children are moved from a node that stands above no open element
pub open-moved : (s : List ℕ) (l : List Entry) (t u : Tree) (from to : ℕ) → IsMoved t u from to → ((x : ℕ) → has x s ≡ true → has from (ancestors t x) ≡ false) → IsOpen (open_at s l t)
    → IsOpen (open_at s l u)
open-moved s l t u from to k apart h =
    open-alike s l t u (alike-labels t u k.same_labels k.same_marks) (ordered-fewer t u s (λ x y b d q. ap (has y) (k.above_others x (h.stack_in x b) (apart x b)) ∙ q) h.ordered) h

-- a node is taken from its parent
has-front : (y : ℕ) (xs ys : List ℕ) → has y (xs ++ ys) ≡ false → has y xs ≡ false
has-front y [] ys h = refl
has-front y (x ∷ xs) ys h = elim (cases_eqb y x) [
  | inl q ↦ absurd (let k = rw q.0 at h in cc)
  | inr q ↦ rw q.0 (has-front y xs ys (rw q.0 at h))
]

pub open-unlinked : (s : List ℕ) (l : List Entry) (t u : Tree) (c : ℕ) → IsUnlinked t u c → IsOpen (open_at s l t) → IsOpen (open_at s l u)
open-unlinked s l t u c k h =
    open-alike s l t u (alike-labels t u k.same_labels k.same_marks) (ordered-fewer t u s (λ x y b d q. elim (cases_bool (has c (x ∷ ancestors t x))) [
      | inl m ↦ has-front y (ancestors u x) (ancestors t c) (sym (ap (has y) (k.above_child x (h.stack_in x b) m)) ∙ q)
      | inr m ↦ ap (has y) (k.above_others x (h.stack_in x b) m) ∙ q
    ]) h.ordered) h

-- a node has another label, of the same tag and origin
pub open-relabelled : (s : List ℕ) (l : List Entry) (t u : Tree) (x : ℕ) (d : NodeData) → IsRelabelled t u x d → (IsElement (label_of t x) → IsElement d) → tag_in d ≡ tag_in (label_of t x)
    → origin_in d ≡ origin_in (label_of t x) → IsOpen (open_at s l t) → IsOpen (open_at s l u)
open-relabelled s l t u x d k el tag origin h =
    let same = k.same_length in
    open-alike s l t u (record {
      no_fewer = omega (arith, same);
      elements = λ y b e. elim (cases_eqb y x) [
        | inl q ↦ subst (λ (z : ℕ). IsElement (label_of u z)) (sym q.1) (subst IsElement (sym k.label_is) (el (subst (λ (z : ℕ). IsElement (label_of t z)) q.1 e)))
        | inr q ↦ subst IsElement (sym (k.other_labels y q.1)) e
      ];
      tags = λ y b. elim (cases_eqb y x) [
        | inl q ↦ ap (λ (z : ℕ). tag_in (label_of u z)) q.1 ∙ ap tag_in k.label_is ∙ tag ∙ sym (ap (λ (z : ℕ). tag_in (label_of t z)) q.1)
        | inr q ↦ ap tag_in (k.other_labels y q.1)
      ];
      origins = λ y b. elim (cases_eqb y x) [
        | inl q ↦ ap (λ (z : ℕ). origin_in (label_of u z)) q.1 ∙ ap origin_in k.label_is ∙ origin ∙ sym (ap (λ (z : ℕ). origin_in (label_of t z)) q.1)
        | inr q ↦ ap origin_in (k.other_labels y q.1)
      ];
      marks = λ m y. subst (λ ms. marked (record t { marks = ms }) m y ≡ marked t m y) (sym k.same_marks) refl;
    }) (ordered-fewer t u s (λ y z b c q. ap (has z) (k.same_ancestors y) ∙ q) h.ordered) h
