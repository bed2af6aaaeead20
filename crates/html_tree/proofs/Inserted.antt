-- A new node at a target.
use Rattle.std.proofs.Common.{◌≡◌, ◌≢◌, ℕ, zero, suc, ◌+◌, ◌<◌, ◌≤◌, Bool, true, false, List, [], ◌∷◌, ◌++◌, length, get_or, Option, Some, None, Result, Ok, Err, OnOk, ◌⊎◌, inl, inr, refl, sym, ◌∙◌, ap, subst, arith, length-append}
use Rattle.std.proofs.lemmas.Bool.{false≢true}
use Rattle.html_names.specs.Tags.{is_same}
use Rattle.html_names.specs.declared.tag.Tag.TheVariants as tag
use Rattle.html_arena.specs.declared.data.NodeData.{NodeData}
use Rattle.html_arena.specs.declared.data.NodeData.TheVariants as node
use Rattle.html_arena.specs.declared.data.NewNode.{NewNode}
use Rattle.html_arena.specs.declared.data.NewNode.TheVariants as new
use Rattle.html_arena.specs.declared.data.Origin.{Origin}
use Rattle.html_arena.specs.declared.marks.Mark.TheVariants.{OnStack}
use Rattle.html_tokens.specs.declared.attributes.Attr.{Attr}
use Rattle.html_names.specs.Names.{tag_of}
use Rattle.html_names.specs.Sets.{is_formatting, is_template}
use Rattle.html_arena.specs.declared.data.Origin.TheVariants.{Token}
use Rattle.html_arena.specs.Data.{IsElement, host_in, label_in, origin_in, tag_in}
use Rattle.html_arena.specs.Make.{has_contents, label_for, made}
use Rattle.html_arena.specs.Siblings.{first_of, has}
use Rattle.html_arena.specs.Tree.{Tree, WellFormed, label_of, inserted, more, named, parent_of, with_marked}
use Rattle.html_arena.specs.Weight.{weight}
use Rattle.html_open.specs.declared.entry.Entry.{Entry}
use Rattle.html_open.specs.declared.places.Place.{Place}
use Rattle.html_open.specs.declared.places.Place.TheVariants.{Before, Last}
use Rattle.html_open.specs.Inserting.{HasNew}
use Rattle.html_open.specs.Marking.{bare, charged}
use Rattle.html_open.specs.Opened.{CanList, CanPush, IsOpen, IsUnseen, open_at, origin_at}
use Rattle.html_open.specs.Placing.{CanPlace, IsPlace, fosters, parent_at, place_of, place_steps, put, table, target_of}
use Rattle.html_open.specs.Reopening.{HoldsNoElement}
use Rattle.html_open.proofs.Keeps.{cases_bool, cases_eqb, eqb-self, has-append}
use Rattle.html_open.proofs.SafePlaces.{same-tag}
use Rattle.html_open.proofs.Standing.{not-parent, place-by}
use Rattle.html_tree.specs.declared.groups.Target.{Target}
use Rattle.html_tree.specs.declared.groups.Target.TheVariants as target
use Rattle.html_tree.specs.Inserting.{CanBeFirst, IsFor, IsNew, rest_of, with_new, with_open}
use Rattle.html_tree.specs.Proper.{IsProper, is_foreign_root, opens}
use Rattle.html_tree.specs.Since.{Grown, IsClosed, Keeps, Since, essence}
use Rattle.html_tree.specs.States.{State, IsUnderWay, state_of}
use Rattle.html_tree.specs.Targets.{CanTarget, place_at, place_for, target_steps}
use Rattle.html_tree.proofs.Counted.{target-bare}
use Rattle.html_tree.proofs.Kept.{keeps-since, later-under_way, looked-most, more-most, old-proper, proper-host, proper-opened, proper-shut, same-element, same-first-under_way, same-state}

-- the first element is an html, so it can take what has no better place
pub under-way-place : (s : List ℕ) (l : List Entry) (t : Tree) (n : ℕ) (h f d : Option ℕ) → IsUnderWay s l t n h f d → 0 < length s → CanPlace t s
under-way-place [] l t n h f d p b = absurd (omega arith)
under-way-place (x ∷ s) l t n h f d p b = λ e. absurd (other (label_of t x) (p.first x refl).1 e)
  where
    other : (d : NodeData) → is_same (tag_in d) tag.Html ≡ true → is_same (tag_in d) tag.Table ≡ true → ⊥
    other d p q = (let k = same-tag (tag_in d) tag.Html p in let j = subst (λ g. is_same g tag.Table ≡ true) k q in cc)

-- what is put at a target is in no element that was closed and holds no element
pub target-free : (s : List ℕ) (l : List Entry) (t : Tree) (n : ℕ) (h f d : Option ℕ) (at : Target) → IsUnderWay s l t n h f d → WellFormed t → CanTarget s at
    → (x : ℕ) → IsClosed (state_of s l t n h f d) x → HoldsNoElement t x → parent_at t (place_at t s h at) ≢ Some x
target-free s l t n h f d (target.Current foster) p w c x i none =
    not-parent t s w (place_of t s None foster) x (place-by t s w foster (under-way-place s l t n h f d p c)) p.is_open.elements i.element i.off none
target-free [] l t n h f d target.Head p w c x i none = λ e. absurd (omega arith)
target-free (y ∷ s) l t n None f d target.Head p w c x i none = λ e. (let k : y ≡ x = cc in false≢true (sym i.off ∙ subst (λ v. has v (y ∷ s) ≡ true) k (rw (eqb-self y) refl)))
target-free (y ∷ s) l t n (Some z) f d target.Head p w c x i none = λ e. (let k : z ≡ x = cc in false≢true (sym i.not_head ∙ subst (λ v. named t tag.Head v ≡ true) k (p.head z refl).1))
target-free [] l t n h f d target.First p w c x i none = λ e. absurd (omega arith)
target-free (y ∷ s) l t n h f d target.First p w c x i none = λ e. (let k : y ≡ x = cc in false≢true (sym i.off ∙ subst (λ v. has v (y ∷ s) ≡ true) k (rw (eqb-self y) refl)))
target-free s l t n h f d target.Document p w c x i none = λ e. (let k : 0 ≡ x = cc in false≢true (sym i.off ∙ first-in s x (p.root (subst (λ v. IsElement (label_of t v)) (sym k) i.element) ∙ ap Some k)))
  where
    first-in : (xs : List ℕ) (x : ℕ) → first_of xs ≡ Some x → has x xs ≡ true
    first-in [] x i = absurd (let k = i in cc)
    first-in (y ∷ xs) x i = (let k : y ≡ x = cc in subst (λ v. has v (y ∷ xs) ≡ true) k (rw (eqb-self y) refl))

-- the labels of a tree with a new node
pub made-labels : (t : Tree) (new : NewNode) → (made t new).labels ≡ t.labels ++ label_for t new ∷ rest_of (length t.labels) (has_contents new)
made-labels t new = by (has_contents new) refl
  where
    by : (b : Bool) → has_contents new ≡ b → (made t new).labels ≡ t.labels ++ label_for t new ∷ rest_of (length t.labels) (has_contents new)
    by true h = rw h refl
    by false h = rw h refl

pub put-labels : (t : Tree) (p : Place) (c : ℕ) → (put t p c).labels ≡ t.labels
put-labels t (Last q) c = refl
put-labels t (Before b) c = by (parent_of t b)
  where
    by : (o : Option ℕ) → (inserted t c b o).labels ≡ t.labels
    by None = refl
    by (Some q) = refl

no-token : (h : ℕ) (b : Bool) (y i : ℕ) → origin_in (get_or (rest_of h b) y node.Document) ≡ Token i → ⊥
no-token h true zero i e = absurd (let k = e in cc)
no-token h true (suc y) i e = absurd (let k = e in cc)
no-token h false y i e = absurd (let k = e in cc)

pub beyond : (h : ℕ) (b : Bool) (d : NodeData) (xs : List NodeData) (y i : ℕ) → length xs < y → origin_in (get_or (xs ++ d ∷ rest_of h b) y node.Document) ≡ Token i → ⊥
beyond h b d [] zero i l e = absurd (omega arith)
beyond h b d [] (suc y) i l e = no-token h b y i e
beyond h b d (x ∷ xs) zero i l e = absurd (omega arith)
beyond h b d (x ∷ xs) (suc y) i l e = beyond h b d xs y i (omega arith) e

pub beyond-contents : (h : ℕ) (b : Bool) (d : NodeData) (xs : List NodeData) (y : ℕ) → length xs < y → y < length (xs ++ d ∷ rest_of h b) → host_in (get_or (xs ++ d ∷ rest_of h b) y node.Document) ≡ Some h
beyond-contents h b d [] zero l m = absurd (omega arith)
beyond-contents h true d [] (suc zero) l m = refl
beyond-contents h true d [] (suc (suc y)) l m = absurd (omega arith)
beyond-contents h false d [] (suc y) l m = absurd (omega arith)
beyond-contents h b d (x ∷ xs) zero l m = absurd (omega arith)
beyond-contents h b d (x ∷ xs) (suc y) l m = beyond-contents h b d xs y (omega arith) (omega arith)

pub new-length : (t u : Tree) (at : Place) (new : NewNode) (k : ℕ) → IsNew t u at new k → length u.labels ≤ length t.labels + 2
new-length t u at new k e = by (has_contents new) refl
  where
    l : length u.labels ≡ length (t.labels ++ label_for t new ∷ rest_of (length t.labels) (has_contents new))
    l = ap length e.labels_are

    by : (b : Bool) → has_contents new ≡ b → length u.labels ≤ length t.labels + 2
    by true h = (let k = rw (h, length-append) at l in omega (arith, k))
    by false h = (let k = rw (h, length-append) at l in omega (arith, k))

order : (a b : ℕ) → (a < b) ⊎ ((a ≡ b) ⊎ (b < a))
order a b = grind arith

first-in : (xs : List ℕ) (x : ℕ) → first_of xs ≡ Some x → has x xs ≡ true
first-in [] x i = absurd (let k = i in cc)
first-in (y ∷ xs) x i = (let k : y ≡ x = cc in subst (λ v. has v (y ∷ xs) ≡ true) k (rw (eqb-self y) refl))

place-parent : (t : Tree) (at : Place) → IsPlace t at → parent_at t at ≡ None → ⊥
place-parent t (Last p) i e = absurd (let k = e in cc)
place-parent t (Before b) i e = i.1 e

module _ (s : List ℕ) (l : List Entry) (t u : Tree) (at : Place) (new : NewNode) (k n m : ℕ) (h f d : Option ℕ) where
  new-labels : IsNew t u at new k → (x : ℕ) → x < length t.labels → essence (label_of u x) ≡ essence (label_of t x)
  new-labels e x b = ap essence (e.laws.same_labels x b)

  new-tokens : IsNew t u at new k → ((i : ℕ) → origin_in (label_for t new) ≡ Token i → i < m) → n ≤ m → IsUnderWay s l t n h f d → (x i : ℕ) → origin_at u x ≡ Token i → i < m
  new-tokens e own nm p x i j = elim (order x (length t.labels)) [
    | inl q ↦ (let k : i < n = p.tokens x i (sym (ap origin_in (e.laws.same_labels x q)) ∙ j) in omega arith)
    | inr q ↦ elim q [
      | inl r ↦ own i (sym (ap origin_in e.laws.label_is) ∙ subst (λ v. origin_at u v ≡ Token i) r j)
      | inr r ↦ absurd (beyond (length t.labels) (has_contents new) (label_for t new) t.labels x i r (sym (ap (λ ds. origin_in (label_in ds x)) e.labels_are) ∙ j))
    ]
  ]

  -- the new node is not opened, or the first element is there already
  pub new-under_way : (s' : List ℕ) → first_of s' ≡ first_of s → IsNew t u at new k → IsOpen (open_at s' l u)
      → ((i : ℕ) → origin_in (label_for t new) ≡ Token i → i < m) → n ≤ m → IsUnderWay s l t n h f d → IsUnderWay s' l u m h f d
  new-under_way s' j e o own nm p =
      let longer = e.laws.longer in
      same-first-under_way s s' l l t u n m h f d p o j (omega arith) (new-labels e) (new-tokens e own nm p)

  -- the new node is the first element to be opened
  pub first-under_way : (s' : List ℕ) → s ≡ [] → first_of s' ≡ Some (length t.labels) → is_same (tag_in (label_for t new)) tag.Html ≡ true → IsNew t u at new k → IsOpen (open_at s' l u)
      → ((i : ℕ) → origin_in (label_for t new) ≡ Token i → i < m) → n ≤ m → IsUnderWay s l t n h f d → IsUnderWay s' l u m h f d
  first-under_way s' none j html e o own nm p =
      let longer = e.laws.longer in
      later-under_way s s' l l t u n m h f d p o
      (λ x i. (let q : length t.labels ≡ x = (let z = sym j ∙ i in cc) in
      (omega arith, subst (λ v. named u tag.Html v ≡ true) q (ap (λ v. is_same (tag_in v) tag.Html) e.laws.label_is ∙ html))))
      (λ i. absurd (let q = p.root (subst IsElement (e.laws.same_labels 0 p.some_node) i) in let z : None ≡ Some 0 = sym (ap first_of none) ∙ q in cc))
      (omega arith) (new-labels e) (new-tokens e own nm p)

  -- no token's element is there yet
  pub new-unseen : ((i : ℕ) → origin_in (label_for t new) ≡ Token i → n ≤ i) → IsUnderWay s l t n h f d → IsUnseen (open_at s l t) (label_for t new)
  new-unseen e p = record {
    on_stack = λ i y b q g. (let k = e i q in let j = p.tokens y i g in absurd (omega arith));
    in_list = λ i y b q g. (let k = e i q in let j = p.tokens y i g in absurd (omega arith));
  }

-- the states before and after
module _ (s s' : List ℕ) (l l' : List Entry) (t u v : Tree) (at : Place) (new : NewNode) (k n m : ℕ) (h f d : Option ℕ) where
  pub new-since : IsNew t u at new k → ((x : ℕ) → IsClosed (state_of s l t n h f d) x → HoldsNoElement t x → parent_at t at ≢ Some x) → n ≤ m → 0 < length t.labels
      → v.labels ≡ u.labels → v.children ≡ u.children → v.parents ≡ u.parents → more u.steps 0 ≤ v.steps
      → ((x : ℕ) → first_of s ≡ Some x → first_of s' ≡ Some x) → ((x : ℕ) → x < length t.labels → has x s ≡ false → has x s' ≡ false)
      → IsProper (state_of s' l' v m h f d) (length t.labels) → Since (state_of s l t n h f d) (state_of s' l' v m h f d)
  new-since e free nm some vl vc vp steps first off own =
      let w = e.laws in
      let longer = w.longer in
      let same : length v.labels ≡ length u.labels = ap length vl in
      let label : (x : ℕ) → x < length t.labels → label_of v x ≡ label_of t x = λ x b. ap (λ ds. label_in ds x) vl ∙ w.same_labels x b in
      record {
        first = first;
        no_fewer = omega arith;
        tokens = nm;
        labels = λ x b. ap essence (label x b);
        off = λ x i. off x i.node_in i.off;
        children = λ x i none. ap (λ cs. get_or cs x []) vc ∙ w.same_children x i.node_in (free x i none);
        texts = λ x y i none b. label y (e.well_formed.child_in x y b);
        linked = λ x b p. elim (order x (length t.labels)) [
          | inl q ↦ inr (inr (q, sym (w.same_parents x q) ∙ (sym (ap (λ ps. get_or ps x None) vp) ∙ p)))
          | inr q ↦ elim q [
            | inl r ↦ absurd (place-parent t at e.place_in (sym w.parent_is ∙ (sym (ap (λ ps. get_or ps (length t.labels) None) vp) ∙ subst (λ y. parent_of v y ≡ None) r p)))
            | inr r ↦ inl (
              length t.labels,
              ap (λ ds. host_in (label_in ds x)) (vl ∙ e.labels_are)
                  ∙ beyond-contents (length t.labels) (has_contents new) (label_for t new) t.labels x r (subst (λ ds. x < length ds) (vl ∙ e.labels_are) b),
            )
          ]
        ];
        root = λ p. ap (λ ps. get_or ps 0 None) vp ∙ w.same_parents 0 some ∙ p;
        detached = λ x p. p;
        replaced = λ x p. inl p;
        proper = λ x p b. elim (order x (length t.labels)) [
          | inl q ↦ old-proper (state_of s l t n h f d) (state_of s' l' v m h f d) (λ y b. ap essence (label y b)) (λ y i. off y i.node_in i.off)
              (λ y i none. ap (λ cs. get_or cs y []) vc ∙ w.same_children y i.node_in (free y i none)) x q (p q)
          | inr q ↦ elim q [
            | inl r ↦ subst (IsProper (state_of s' l' v m h f d)) (sym r) own
            | inr r ↦ proper-host (state_of s' l' v m h f d) x (length t.labels)
                (ap (λ ds. host_in (label_in ds x)) (vl ∙ e.labels_are)
                ∙ beyond-contents (length t.labels) (has_contents new) (label_for t new) t.labels x r (subst (λ ds. x < length ds) (vl ∙ e.labels_are) b))
          ]
        ];
        steps = (let i = e.steps_least in omega (arith, i, steps));
      }

-- a tree without marks and steps, with a new node
bare-put : (t : Tree) (p : Place) (c : ℕ) → bare (put t p c) ≡ bare (put (bare t) p c)
bare-put t (Last q) c = refl
bare-put t (Before b) c = by (parent_of t b)
  where
    by : (o : Option ℕ) → bare (inserted t c b o) ≡ bare (inserted (bare t) c b o)
    by None = refl
    by (Some q) = refl

bare-made : (t : Tree) (new : NewNode) → bare (made t new) ≡ bare (made (bare t) new)
bare-made t new = by (has_contents new) refl
  where
    by : (b : Bool) → has_contents new ≡ b → bare (made t new) ≡ bare (made (bare t) new)
    by true h = rw h refl
    by false h = rw h refl

pub bare-new : (t : Tree) (p : Place) (new : NewNode) → bare (put (made t new) p (length t.labels)) ≡ with_new (bare t) p new
bare-new t p new =
    bare-put (made t new) p (length t.labels)
    ∙ ap (λ v. bare (put v p (length t.labels))) (bare-made t new)
    ∙ sym (bare-put (made (bare t) new) p (length t.labels))

pub first-more : (s : List ℕ) (y x : ℕ) → first_of s ≡ Some x → first_of (s ++ y ∷ []) ≡ Some x
first-more [] y x e = absurd (let k = e in cc)
first-more (z ∷ s) y x e = e

pub first-same : (s : List ℕ) (y : ℕ) → 0 < length s → first_of (s ++ y ∷ []) ≡ first_of s
first-same [] y e = absurd (omega arith)
first-same (z ∷ s) y e = refl

pub off-more : (s : List ℕ) (y x : ℕ) → x < y → has x s ≡ false → has x (s ++ y ∷ []) ≡ false
off-more s y x b e = has-append x s (y ∷ []) ∙ rw e (elim (cases_eqb x y) [ inl q ↦ absurd (let z = q.1 in omega arith) | inr q ↦ rw q.0 refl ])

pub put-steps : (t : Tree) (p : Place) (c : ℕ) → (put t p c).steps ≤ t.steps + 1
put-steps t (Last q) c = omega arith
put-steps t (Before b) c = by (parent_of t b)
  where
    by : (o : Option ℕ) → (inserted t c b o).steps ≤ t.steps + 1
    by None = omega arith
    by (Some q) = omega arith

pub made-steps : (t : Tree) (new : NewNode) → (made t new).steps ≤ t.steps + 1
made-steps t new = by (has_contents new) refl
  where
    by : (b : Bool) → has_contents new ≡ b → (made t new).steps ≤ t.steps + 1
    by true h = rw h (omega arith)
    by false h = rw h (omega arith)

pub inserted-steps : (t t1 t2 : Tree) (k : ℕ) (at : Place) (new : NewNode) → t1 ≡ charged t k → t2 ≡ put (made t1 new) at (length t1.labels) → t2.steps ≤ t.steps + k + 2
inserted-steps t t1 t2 k at new e f =
    let a : t1.steps ≡ more t.steps k = ap (λ (v : Tree). v.steps) e in
    let b = made-steps t1 new in
    let c = put-steps (made t1 new) at (length t1.labels) in
    let d : t2.steps ≡ (put (made t1 new) at (length t1.labels)).steps = ap (λ (v : Tree). v.steps) f in
    let g = more-most t.steps k in
    omega (arith, a, b, c, d, g)

put-least : (t : Tree) (p : Place) (c : ℕ) → more t.steps 0 ≤ (put t p c).steps
put-least t (Last q) c = omega arith
put-least t (Before b) c = by (parent_of t b)
  where
    by : (o : Option ℕ) → more t.steps 0 ≤ (inserted t c b o).steps
    by None = omega arith
    by (Some q) = omega arith

made-least : (t : Tree) (new : NewNode) → more t.steps 0 ≤ (made t new).steps
made-least t new = by (has_contents new) refl
  where
    by : (b : Bool) → has_contents new ≡ b → more t.steps 0 ≤ (made t new).steps
    by true h = rw h (omega arith)
    by false h = rw h (omega arith)

inserted-least : (t t1 t2 : Tree) (k : ℕ) (at : Place) (new : NewNode) → t1 ≡ charged t k → t2 ≡ put (made t1 new) at (length t1.labels) → more t.steps 0 ≤ t2.steps
inserted-least t t1 t2 k at new e f =
    let a : t1.steps ≡ more t.steps k = ap (λ (v : Tree). v.steps) e in
    let b = made-least t1 new in
    let c = put-least (made t1 new) at (length t1.labels) in
    let d : t2.steps ≡ (put (made t1 new) at (length t1.labels)).steps = ap (λ (v : Tree). v.steps) f in
    omega (arith, a, b, c, d)

pub parent-charged : (t : Tree) (k : ℕ) (p : Place) → parent_at (charged t k) p ≡ parent_at t p
parent-charged t k (Last p) = refl
parent-charged t k (Before b) = refl

laws-charged : (t u : Tree) (k : ℕ) (p : Place) (d : NodeData) → HasNew (charged t k) u p d → HasNew t u p d
laws-charged t u k p d h = record {
  longer = h.longer;
  label_is = h.label_is;
  parent_is = h.parent_is ∙ parent-charged t k p;
  not_above = h.not_above;
  same_labels = h.same_labels;
  same_parents = h.same_parents;
  same_ancestors = h.same_ancestors;
  same_children = λ x b n. h.same_children x b (λ e. n (sym (parent-charged t k p) ∙ e));
  same_marks = h.same_marks;
}

pub place-most : (t : Tree) (s : List ℕ) (foster : Bool) → place_steps t s None foster ≤ length s + 1
place-most t s foster = elim (cases_bool (fosters t (target_of s None) foster)) [
  | inl e ↦ rw e (let l = looked-most (table t) s in omega arith)
  | inr e ↦ rw e (omega arith)
]

label-charged : (t : Tree) (k : ℕ) (new : NewNode) → label_for (charged t k) new ≡ label_for t new
label-charged t k new.Document = refl
label-charged t k (new.Element n a o) = refl
label-charged t k (new.CloneOf x) = refl
label-charged t k new.Text = refl
label-charged t k (new.Comment s i) = refl
label-charged t k (new.Doctype n p s i) = refl

pub held-most : (t t1 u : Tree) (k : ℕ) (at : Place) (d : NewNode) → t1 ≡ charged t k → u ≡ put (made t1 d) at (length t1.labels) → u.held ≤ t.held + weight (label_for t d)
held-most t t1 u k at d e f =
    let a : u.held ≡ (put (made t1 d) at (length t1.labels)).held = ap (λ (v : Tree). v.held) f in
    let b = put-held (made t1 d) at (length t1.labels) in
    let c = made-held t1 d in
    let g : t1.held ≡ t.held = ap (λ (v : Tree). v.held) e in
    let w : weight (label_for t1 d) ≡ weight (label_for t d) = ap weight (ap (λ v. label_for v d) e ∙ label-charged t k d) in
    omega (arith, a, b, c, g, w)
  where
    put-held : (t : Tree) (p : Place) (c : ℕ) → (put t p c).held ≡ t.held
    put-held t (Last q) c = refl
    put-held t (Before b) c = by (parent_of t b)
      where
        by : (o : Option ℕ) → (inserted t c b o).held ≡ t.held
        by None = refl
        by (Some q) = refl

    made-held : (t : Tree) (new : NewNode) → (made t new).held ≤ t.held + weight (label_for t new)
    made-held t new = by (has_contents new) refl
      where
        by : (b : Bool) → has_contents new ≡ b → (made t new).held ≤ t.held + weight (label_for t new)
        by true h = rw h (omega arith)
        by false h = rw h (omega arith)

pub is-new : (t t1 u : Tree) (k m : ℕ) (at : Place) (d : NewNode) → WellFormed t → IsPlace t at → t1 ≡ charged t k → k + 2 ≤ m
    → HasNew t1 u at (label_for t1 d) → u ≡ put (made t1 d) at (length t1.labels) → IsNew t u at d m
is-new t t1 u k m at d w p e q h f = record {
  place_in = p;
  laws = laws-charged t u k at (label_for t d) (subst (HasNew (charged t k) u at) (label-charged t k d) (subst (λ v. HasNew v u at (label_for v d)) e h));
  tree_is = ap bare f ∙ bare-new t1 at d ∙ ap (λ w. with_new w at d) (ap bare e);
  labels_are = ap (λ (v : Tree). v.labels) f ∙ put-labels (made t1 d) at (length t1.labels) ∙ made-labels t1 d
      ∙ ap (λ (v : Tree). v.labels ++ label_for v d ∷ rest_of (length v.labels) (has_contents d)) e ∙ ap (λ b. t.labels ++ b ∷ rest_of (length t.labels) (has_contents d)) (label-charged t k d);
  steps_least = inserted-least t t1 u k at d e f;
  steps_most = (let i = inserted-steps t t1 u k at d e f in omega (arith, i, q));
  held_most = held-most t t1 u k at d e f;
  well_formed = w;
}

pub place-bare : (t : Tree) (s : List ℕ) (h : Option ℕ) (at : Target) → place_at (bare t) s h at ≡ place_at t s h at
place-bare t s h (target.Current foster) = refl
place-bare t s h target.Head = refl
place-bare t s h target.First = refl
place-bare t s h target.Document = refl

pub target-most : (t : Tree) (s : List ℕ) (at : Target) → target_steps t s at + 2 ≤ length s + 3
target-most t s (target.Current foster) = (let m = place-most t s foster in omega arith)
target-most t s target.Head = omega arith
target-most t s target.First = omega arith
target-most t s target.Document = omega arith

pub on-ok : {A E P Q : Type 0} (r : Result A E) → OnOk r P → (P → Q) → OnOk r Q
on-ok (Ok x) p f = f p
on-ok (Err x) p f = tt

pub on-ok-both : {A E P Q R : Type 0} (r : Result A E) → OnOk r P → OnOk r Q → (P → Q → R) → OnOk r R
on-ok-both (Ok x) p q f = f p q
on-ok-both (Err x) p q f = tt

abbrev pub Pushable : List ℕ → Tree → Tree → NewNode → Type 0
Pushable s t u d = (l : List Entry) → IsOpen (open_at s l t) → IsElement (label_for t d) → IsUnseen (open_at s l t) (label_for t d) → CanPush (open_at s l u) (length t.labels)

abbrev pub Listable : List ℕ → Tree → Tree → NewNode → Type 0
Listable s t u d = (l : List Entry) (w : Tree) → w.labels ≡ u.labels → IsOpen (open_at s l t) → is_formatting (tag_in (label_for t d)) ≡ true → IsUnseen (open_at s l t) (label_for t d)
    → CanList (open_at (s ++ length t.labels ∷ []) l w) (length t.labels)

module _ (s : List ℕ) (t t1 u : Tree) (k : ℕ) (d : NewNode) (e : t1 ≡ charged t k) (o : (l : List Entry) → IsOpen (open_at s l t) → IsOpen (open_at s l t1)) where
  same-for : label_for t1 d ≡ label_for t d
  same-for = ap (λ w. label_for w d) e ∙ label-charged t k d

  unseen-charged : (l : List Entry) → IsUnseen (open_at s l t) (label_for t d) → IsUnseen (open_at s l t1) (label_for t1 d)
  unseen-charged l v = record {
    on_stack = λ j y b f g. v.on_stack j y b (sym (ap origin_in same-for) ∙ f) (sym (ap (λ w. origin_at w y) e) ∙ g);
    in_list = λ j y b f g. v.in_list j y b (sym (ap origin_in same-for) ∙ f) (sym (ap (λ w. origin_at w y) e) ∙ g);
  }

  pub push-charged : Pushable s t1 u d → Pushable s t u d
  push-charged p l h i v = subst (λ (w : Tree). CanPush (open_at s l u) (length w.labels)) e (p l (o l h) (subst IsElement (sym same-for) i) (unseen-charged l v))

  pub list-charged : Listable s t1 u d → Listable s t u d
  list-charged p l w q h i v =
      subst (λ (z : Tree). CanList (open_at (s ++ length z.labels ∷ []) l w) (length z.labels)) e (p l w q (o l h) (ap (λ z. is_formatting (tag_in z)) same-for ∙ i) (unseen-charged l v))

pub element-origin : (t : Tree) (name : List ℕ) (attrs : List Attr) (o : Origin) → origin_in (label_for t (new.Element name attrs o)) ≡ o
element-origin t name attrs o = by (is_template (tag_of name)) refl
  where
    by : (b : Bool) → is_template (tag_of name) ≡ b → origin_in (label_for t (new.Element name attrs o)) ≡ o
    by true h = rw h refl
    by false h = rw h refl

pub element-tag : (t : Tree) (name : List ℕ) (attrs : List Attr) (o : Origin) → tag_in (label_for t (new.Element name attrs o)) ≡ tag_of name
element-tag t name attrs o = by (is_template (tag_of name)) refl
  where
    by : (b : Bool) → is_template (tag_of name) ≡ b → tag_in (label_for t (new.Element name attrs o)) ≡ tag_of name
    by true h = rw h refl
    by false h = rw h refl

pub element-element : (t : Tree) (name : List ℕ) (attrs : List Attr) (o : Origin) → IsElement (label_for t (new.Element name attrs o))
element-element t name attrs o = by (is_template (tag_of name)) refl
  where
    by : (b : Bool) → is_template (tag_of name) ≡ b → IsElement (label_for t (new.Element name attrs o))
    by true h = rw h tt
    by false h = rw h tt

pub own-most : (t : Tree) (name : List ℕ) (attrs : List Attr) (o : Origin) (n m : ℕ) → IsFor o n m → (i : ℕ) → origin_in (label_for t (new.Element name attrs o)) ≡ Token i → i < m
own-most t name attrs o n m f i e = (f i (sym (element-origin t name attrs o) ∙ e)).1

pub own-least : (t : Tree) (name : List ℕ) (attrs : List Attr) (o : Origin) (n m : ℕ) → IsFor o n m → (i : ℕ) → origin_in (label_for t (new.Element name attrs o)) ≡ Token i → n ≤ i
own-least t name attrs o n m f i e = (f i (sym (element-origin t name attrs o) ∙ e)).0

-- what is always true, after a new element was made, before it is opened and when it is
module _ (l l' : List Entry) (t u v : Tree) (at : Place) (k n m : ℕ) (h f d : Option ℕ) (name : List ℕ) (attrs : List Attr) (o : Origin) (e : IsNew t u at (new.Element name attrs o) k) (w : IsFor o n m) (r : n ≤ m) (vl : v.labels ≡ u.labels) where
  later-labels : (x : ℕ) → x < length t.labels → essence (label_of v x) ≡ essence (label_of t x)
  later-labels x b = ap essence (ap (λ ds. label_in ds x) vl ∙ e.laws.same_labels x b)

  later-tokens : (s : List ℕ) → IsUnderWay s l t n h f d → (x i : ℕ) → origin_at v x ≡ Token i → i < m
  later-tokens s p x i j = new-tokens s l t u at (new.Element name attrs o) k n m h f d e (own-most t name attrs o n m w) r p x i (sym (ap (λ ds. origin_in (label_in ds x)) vl) ∙ j)

  longer : length t.labels ≤ length v.labels
  longer = (let g = e.laws.longer in let q : length v.labels ≡ length u.labels = ap length vl in omega arith)

  pub made-under_way : (s s' : List ℕ) → first_of s' ≡ first_of s → IsOpen (open_at s' l' v) → IsUnderWay s l t n h f d → IsUnderWay s' l' v m h f d
  made-under_way s s' j q p = same-first-under_way s s' l l' t v n m h f d p q j longer later-labels (later-tokens s p)

  pub opened-under_way : (s s' : List ℕ) → s' ≡ s ++ length t.labels ∷ [] → CanBeFirst s (tag_of name) → IsOpen (open_at s' l' v) → IsUnderWay s l t n h f d → IsUnderWay s' l' v m h f d
  opened-under_way [] s' i first q p =
      later-under_way [] s' l l' t v n m h f d p q
      (λ x z. (let y : length t.labels ≡ x = (let c : Some (length t.labels) ≡ Some x = sym (ap first_of i) ∙ z in cc) in let g = longer in let g' = e.laws.longer in let g'' : length v.labels ≡ length u.labels = ap length vl in
      (omega arith, subst (λ y. named v tag.Html y ≡ true) y (ap (λ b. is_same (tag_in b) tag.Html) (ap (λ ds. label_in ds (length t.labels)) vl ∙ e.laws.label_is) ∙ (ap (λ b. is_same b tag.Html) (element-tag t name attrs o) ∙ first)))))
      (λ z. absurd (let y = p.root (same-element (label_of v 0) (label_of t 0) (sym (later-labels 0 p.some_node)) z) in cc))
      longer later-labels (later-tokens [] p)
  opened-under_way (y ∷ s) s' i first q p = made-under_way (y ∷ s) s' (ap first_of i) q p

-- the new element was opened
module _ (a : State) (s s' : List ℕ) (l : List Entry) (t u v : Tree) (at : Target) (new : NewNode) (k n m x : ℕ) (h f d : Option ℕ) (w : state_of s l t n h f d ≡ a) (e : IsNew t u (place_at t s h at) new k) (i : s' ≡ s ++ x ∷ []) (j : x ≡ length t.labels) (q : v ≡ charged (with_marked u OnStack x true) 1) where
  pub opened-keeps : opens (tag_in (label_for t new)) ≡ true → CanTarget s at → n ≤ m → IsUnderWay s l t n h f d → Keeps a (state_of s' l v m h f d)
  opened-keeps own o r g = subst (λ (b : State). Keeps b (state_of s' l v m h f d)) w (keeps-since (state_of s l t n h f d) (state_of s' l v m h f d)
      (new-since s s' l l t u v (place_at t s h at) new k n m h f d e (target-free s l t n h f d at g e.well_formed o) r g.some_node
      (ap (λ (b : Tree). b.labels) q) (ap (λ (b : Tree). b.children) q) (ap (λ (b : Tree). b.parents) q) (let z : v.steps ≡ more u.steps 1 = ap (λ (b : Tree). b.steps) q in omega (arith, z))
      (λ y z. ap first_of i ∙ first-more s x y z) (λ y b z. ap (has y) i ∙ off-more s x y (omega arith) z)
      (proper-opened (state_of s' l v m h f d) (length t.labels) (ap opens (ap (λ (b : Tree). tag_in (label_in b.labels (length t.labels))) q ∙ ap tag_in e.laws.label_is) ∙ own))))

  pub opened-grown : Grown 2 1 0 (weight (label_for t new)) a (state_of s' l v m h f d)
  opened-grown =
      let p = new-length t u (place_at t s h at) new k e in
      let longer = e.laws.longer in
      let r : length v.labels ≡ length u.labels = ap (λ (b : Tree). length b.labels) q in
      let y : length s' ≡ length s + 1 = ap length i ∙ length-append s (x ∷ []) in
      let z : v.held ≡ u.held = ap (λ (b : Tree). b.held) q in
      let g = e.held_most in
      subst (λ (b : State). Grown 2 1 0 (weight (label_for t new)) b (state_of s' l v m h f d)) w (record { nodes_least = omega arith; nodes_most = omega arith; open_most = omega arith; entries_most = omega arith; held_most = omega arith; open_least = omega arith })

  pub opened-steps : k ≤ length s + 3 → v.steps ≤ a.steps + length a.stack + 4
  opened-steps b =
      let p = e.steps_most in
      let r : v.steps ≡ more u.steps 1 = ap (λ (b : Tree). b.steps) q in
      let z = more-most u.steps 1 in
      subst (λ (b : State). v.steps ≤ b.steps + length b.stack + 4) w (omega (arith, p, r, z, b))

  pub opened-counted : u.steps ≡ more t.steps (target_steps t s at + 2) → v.steps ≡ more a.steps (target_steps a.tree a.stack at + 3)
  opened-counted c =
      let r : v.steps ≡ more u.steps 1 = ap (λ (b : Tree). b.steps) q in
      let z : target_steps (bare t) s at ≡ target_steps t s at = target-bare t s at in
      subst (λ (b : State). v.steps ≡ more b.steps (target_steps b.tree b.stack at + 3)) w (omega (arith, c, r, z))

  pub opened-exact : state_of s' l v m h f d ≡ record a { stack = with_open a; tree = with_new a.tree (place_for a at) new; steps = v.steps; tokens = m }
  opened-exact =
      subst (λ (b : State). state_of s' l v m h f d ≡ record b { stack = with_open b; tree = with_new b.tree (place_for b at) new; steps = v.steps; tokens = m }) w
      (same-state (s ++ length t.labels ∷ []) s' l l (with_new (bare t) (place_at (bare t) s h at) new) (bare v) v.steps m h f d (i ∙ ap (λ y. s ++ y ∷ []) j) refl
      (ap bare q ∙ e.tree_is ∙ ap (λ p. with_new (bare t) p new) (sym (place-bare t s h at))))

-- the new node is not opened
module _ (a : State) (s : List ℕ) (l : List Entry) (t u : Tree) (at : Target) (new : NewNode) (k n m : ℕ) (h f d : Option ℕ) (w : state_of s l t n h f d ≡ a) (e : IsNew t u (place_at t s h at) new k) where
  pub placed-counted : u.steps ≡ more t.steps (target_steps t s at + 2) → u.steps ≡ more a.steps (target_steps a.tree a.stack at + 2)
  placed-counted c =
      let z : target_steps (bare t) s at ≡ target_steps t s at = target-bare t s at in
      subst (λ (b : State). u.steps ≡ more b.steps (target_steps b.tree b.stack at + 2)) w (omega (arith, c, z))

  pub placed-exact : state_of s l u m h f d ≡ record a { tree = with_new a.tree (place_for a at) new; steps = u.steps; tokens = m }
  placed-exact =
      subst (λ (b : State). state_of s l u m h f d ≡ record b { tree = with_new b.tree (place_for b at) new; steps = u.steps; tokens = m }) w
      (same-state s s l l (with_new (bare t) (place_at (bare t) s h at) new) (bare u) u.steps m h f d refl refl (e.tree_is ∙ ap (λ p. with_new (bare t) p new) (sym (place-bare t s h at))))

  -- no token is counted
  pub placed-same : state_of s l u n h f d ≡ record a { tree = with_new a.tree (place_for a at) new; steps = u.steps }
  placed-same =
      subst (λ (b : State). state_of s l u n h f d ≡ record b { tree = with_new b.tree (place_for b at) new; steps = u.steps }) w
      (same-state s s l l (with_new (bare t) (place_at (bare t) s h at) new) (bare u) u.steps n h f d refl refl (e.tree_is ∙ ap (λ p. with_new (bare t) p new) (sym (place-bare t s h at))))

  pub placed-keeps : is_foreign_root (tag_in (label_for t new)) ≡ false → get_or u.children (length t.labels) [] ≡ [] → CanTarget s at → n ≤ m → IsUnderWay s l t n h f d → Keeps a (state_of s l u m h f d)
  placed-keeps own none o r g = subst (λ (b : State). Keeps b (state_of s l u m h f d)) w (keeps-since (state_of s l t n h f d) (state_of s l u m h f d)
      (new-since s s l l t u u (place_at t s h at) new k n m h f d e (target-free s l t n h f d at g e.well_formed o) r g.some_node refl refl refl (omega arith) (λ y z. z) (λ y b z. z)
      (proper-shut (state_of s l u m h f d) (length t.labels) (ap (λ b. is_foreign_root (tag_in b)) e.laws.label_is ∙ own) off none)))
    where
      off : has (length t.labels) s ≡ false
      off = elim (cases_bool (has (length t.labels) s)) [
        | inl b ↦ absurd (let k = g.is_open.stack_in (length t.labels) b in omega (arith, k))
        | inr b ↦ b
      ]

  pub placed-grown : Grown 2 0 0 (weight (label_for t new)) a (state_of s l u m h f d)
  placed-grown =
      let p = new-length t u (place_at t s h at) new k e in
      let longer = e.laws.longer in
      let g = e.held_most in
      subst (λ (b : State). Grown 2 0 0 (weight (label_for t new)) b (state_of s l u m h f d)) w (record { nodes_least = omega arith; nodes_most = omega arith; open_most = omega arith; entries_most = omega arith; held_most = omega arith; open_least = omega arith })

  pub placed-steps : k ≤ length s + 3 → u.steps ≤ a.steps + length a.stack + 3
  placed-steps b =
      let p = e.steps_most in
      subst (λ (b : State). u.steps ≤ b.steps + length b.stack + 3) w (omega (arith, p, b))

pub comment-own : (t : Tree) (text : List ℕ) (n i : ℕ) → origin_in (label_for t (new.Comment text n)) ≡ Token i → i < n + 1
comment-own t text n i e = (let k : n ≡ i = (let q = e in cc) in omega arith)

pub doctype-own : (t : Tree) (name public system : Option (List ℕ)) (n i : ℕ) → origin_in (label_for t (new.Doctype name public system n)) ≡ Token i → i < n + 1
doctype-own t name public system n i e = (let k : n ≡ i = (let q = e in cc) in omega arith)
