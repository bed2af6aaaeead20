-- Edits of an arena: the first open element can still take what has no better place. What is put at a place leaves the children of
-- elements that are closed and hold no element.
use Rattle.std.proofs.Common.{◌≡◌, ◌≢◌, ℕ, ◌+◌, ◌-◌, ◌^◌, ◌<◌, min, Bool, true, false, cond, List, [], ◌∷◌, length, Option, Some, None, inl, inr, refl, sym, ◌∙◌, ap, subst, arith}
use Rattle.html_names.specs.declared.tag.Tag.TheVariants as tag
use Rattle.html_names.specs.Tags.{is_same}
use Rattle.html_arena.specs.declared.arena.Limits.{Limits}
use Rattle.html_arena.specs.declared.data.NodeData.{NodeData}
use Rattle.html_arena.specs.declared.data.NewNode.{NewNode}
use Rattle.html_arena.specs.declared.marks.Mark.{Mark}
use Rattle.html_arena.specs.declared.marks.Mark.TheVariants.{OnStack, InList}
use Rattle.html_arena.specs.Data.{label_in, tag_in}
use Rattle.html_arena.specs.Laws.{IsGrown, IsLinked, IsMoved, IsRelabelled, IsUnlinked}
use Rattle.html_arena.specs.Make.{has_contents, made, made_weight}
use Rattle.html_arena.specs.Siblings.{first_of, has}
use Rattle.html_arena.specs.Tree.{Tree, WellFormed, empty_tree, inserted, label_of, marked, more, parent_of}
use Rattle.html_open.specs.declared.entry.Entry.{Entry}
use Rattle.html_open.specs.declared.places.Place.{Place}
use Rattle.html_open.specs.declared.places.Place.TheVariants.{Before, Last}
use Rattle.html_open.specs.Hanging.{IsPut}
use Rattle.html_open.specs.Inserting.{IsOpenTarget, SparesClosed}
use Rattle.html_open.specs.Marking.{bare, charged}
use Rattle.html_open.specs.Opened.{AreNodes, IsOpen, open_at}
use Rattle.html_open.specs.Placing.{CanPlace, IsPlace, fostered, fosters, inside, parent_at, place_of, put, table, target_of}
use Rattle.html_open.proofs.Keeps.{cases_eqb, eqb-self}
use Rattle.html_open.proofs.Standing.{not-parent, place-at-by, place-by}

-- tag and parent of the first element decide
by-first : (t u : Tree) (s : List ℕ) → ((x : ℕ) → first_of s ≡ Some x → table u x ≡ true → table t x ≡ true) → ((x : ℕ) → first_of s ≡ Some x → parent_of u x ≡ None → parent_of t x ≡ None)
    → CanPlace t s → CanPlace u s
by-first t u [] f g h = absurd h
by-first t u (x ∷ s) f g h = λ e q. h (f x refl e) (g x refl q)

same-table : (t u : Tree) (x : ℕ) → tag_in (label_of u x) ≡ tag_in (label_of t x) → table u x ≡ true → table t x ≡ true
same-table t u x e h = sym (ap (λ g. is_same g tag.Table) e) ∙ h

same-labels : (t u : Tree) → u.labels ≡ t.labels → (x : ℕ) → table u x ≡ true → table t x ≡ true
same-labels t u e x = same-table t u x (ap (λ ds. tag_in (label_in ds x)) e)

first-in : (s : List ℕ) (x : ℕ) → first_of s ≡ Some x → has x s ≡ true
first-in [] x e = absurd (let k = e in cc)
first-in (y ∷ s) x e = (let q : y ≡ x = cc in subst (λ v. has v (y ∷ s) ≡ true) q (rw (eqb-self y) refl))

pub place-grown : (s : List ℕ) (t u : Tree) (k : ℕ) → IsGrown t u k → AreNodes t s → CanPlace t s → CanPlace u s
place-grown s t u k g n h = by-first t u s (λ x f. same-table t u x (ap tag_in (g.same_label x (n x (first-in s x f))))) (λ x f q. sym (g.same_parent x) ∙ q) h

-- a parent that is given
no-parent : (b : Bool) (p : ℕ) (o : Option ℕ) → cond b (Some p) o ≡ None → o ≡ None
no-parent true p o e = absurd (let k = e in cc)
no-parent false p o e = e

pub place-linked : (s : List ℕ) (t u : Tree) (c p : ℕ) (xs : List ℕ) → IsLinked t u c p xs → CanPlace t s → CanPlace u s
place-linked s t u c p xs g h = by-first t u s (λ x f. same-labels t u g.same_labels x) (λ x f q. no-parent _ p (parent_of t x) (sym (g.parent_is x) ∙ q)) h

pub place-moved : (s : List ℕ) (t u : Tree) (from to : ℕ) → IsMoved t u from to → CanPlace t s → CanPlace u s
place-moved s t u from to g h = by-first t u s (λ x f. same-labels t u g.same_labels x) (λ x f q. no-parent _ to (parent_of t x) (sym (g.parent_is x) ∙ q)) h

pub place-unlinked : (s : List ℕ) (t u : Tree) (c : ℕ) → IsUnlinked t u c → first_of s ≢ Some c → CanPlace t s → CanPlace u s
place-unlinked s t u c g n h = by-first t u s (λ x f. same-labels t u g.same_labels x) (λ x f q. elim (cases_eqb x c) [
  | inl e ↦ absurd (n (f ∙ ap Some e.1))
  | inr e ↦ sym (ap (λ b. cond b None (parent_of t x)) e.0) ∙ sym (g.parent_is x) ∙ q
]) h

pub place-relabelled : (s : List ℕ) (t u : Tree) (x : ℕ) (d : NodeData) → IsRelabelled t u x d → tag_in d ≡ tag_in (label_of t x) → CanPlace t s → CanPlace u s
place-relabelled s t u x d g e h = by-first t u s
    (λ y f. same-table t u y (elim (cases_eqb y x) [
      | inl q ↦ ap (λ z. tag_in (label_of u z)) q.1 ∙ ap tag_in g.label_is ∙ e ∙ sym (ap (λ z. tag_in (label_of t z)) q.1)
      | inr q ↦ ap tag_in (g.other_labels y q.1)
    ]))
    (λ y f q. sym (ap (λ ps. parent_of (record t { parents = ps }) y) g.same_parents) ∙ q) h

pub place-put : (t u : Tree) (p : Place) (c : ℕ) → IsPlace t p → IsPut t u p c → (s : List ℕ) → CanPlace t s → CanPlace u s
place-put t u p c i g s h = by-first t u s (λ x f. same-labels t u g.nodes.labels_are x) (λ x f q. elim (cases_eqb x c) [
  | inl e ↦ absurd (by p i (sym (ap (λ b. cond b (parent_at t p) (parent_of t x)) e.0) ∙ sym (g.parents_are x) ∙ q))
  | inr e ↦ sym (ap (λ b. cond b (parent_at t p) (parent_of t x)) e.0) ∙ sym (g.parents_are x) ∙ q
]) h
  where
    by : (at : Place) → IsPlace t at → parent_at t at ≡ None → ⊥
    by (Last q) i e = (let k = e in absurd cc)
    by (Before b) i e = i.1 e

-- nothing is open in an arena without nodes
pub empty-open : (limits : Option Limits) → IsOpen (open_at [] [] (empty_tree limits))
empty-open limits = record {
  stack_in = λ x h. absurd cc;
  elements = λ x h. absurd cc;
  stack_once = tt;
  ordered = tt;
  list_in = λ x h. absurd cc;
  formatting = λ x h. absurd cc;
  list_once = tt;
  on_stack = λ x. unmarked OnStack x;
  in_list = λ x. unmarked InList x;
  stack_origins = λ i x y h j p q. absurd cc;
  list_origins = λ i x y h j p q. absurd cc;
  shared_origins = λ i x y h j p q. absurd cc;
}
  where
    unmarked : (m : Mark) (x : ℕ) → marked (empty_tree limits) m x ≡ false
    unmarked OnStack x = refl
    unmarked InList x = refl

-- the place that the stack gives is in no element that is closed and holds no element
spares-charged : (t : Tree) (k : ℕ) (s : List ℕ) (p : Place) → SparesClosed t s p → SparesClosed (charged t k) s p
spares-charged t k s (Last q) h = λ x i o n. h x i o n
spares-charged t k s (Before b) h = λ x i o n. h x i o n

pub place-spares : (t u : Tree) (s : List ℕ) (l : List Entry) (target : Option ℕ) (f : Bool) (k : ℕ) (p : Place) → WellFormed t → CanPlace t s → u ≡ charged t k → p ≡ place_of t s target f
    → IsOpen (open_at s l t) → IsOpenTarget s target → SparesClosed u s p
place-spares t u s l None f k p w c e g h i =
    subst (λ (v : Tree). SparesClosed v s p) (sym e) (spares-charged t k s p (subst (SparesClosed t s) (sym g) (λ x j o n. not-parent t s w (place_of t s None f) x (place-by t s w f c) h.elements j o n)))
place-spares t u s l (Some a) f k p w c e g h i =
    subst (λ (v : Tree). SparesClosed v s p) (sym e) (spares-charged t k s p (subst (SparesClosed t s) (sym g) (λ x j o n. not-parent t s w (place_of t s (Some a) f) x (place-at-by t s w a i f c) h.elements j o n)))

-- what a new node at a place costs, and its tree without marks and steps
bare-put : (t : Tree) (p : Place) (c : ℕ) → bare (put t p c) ≡ bare (put (bare t) p c)
bare-put t (Last q) c = refl
bare-put t (Before b) c = by (parent_of t b)
  where
    by : (o : Option ℕ) → bare (inserted t c b o) ≡ bare (inserted (bare t) c b o)
    by None = refl
    by (Some q) = refl

bare-made : (t : Tree) (new : NewNode) → bare (made t new) ≡ bare (made (bare t) new)
bare-made t new = by (has_contents new) refl
  where
    by : (b : Bool) → has_contents new ≡ b → bare (made t new) ≡ bare (made (bare t) new)
    by true h = rw h refl
    by false h = rw h refl

pub bare-new : (t u : Tree) (p : Place) (new : NewNode) → u ≡ put (made t new) p (length t.labels) → bare u ≡ bare (put (made (bare t) new) p (length t.labels))
bare-new t u p new e =
    ap bare e ∙ bare-put (made t new) p (length t.labels)
    ∙ ap (λ v. bare (put v p (length t.labels))) (bare-made t new)
    ∙ sym (bare-put (made (bare t) new) p (length t.labels))

pub new-held : (t u : Tree) (p : Place) (c : ℕ) (new : NewNode) → u ≡ put (made t new) p c → u.held ≡ more t.held (made_weight t new)
new-held t u p c new e = ap (λ (v : Tree). v.held) e ∙ by-place (made t new) p ∙ by (has_contents new) refl
  where
    by-place : (v : Tree) (at : Place) → (put v at c).held ≡ v.held
    by-place v (Last q) = refl
    by-place v (Before b) = by-parent (parent_of v b)
      where
        by-parent : (o : Option ℕ) → (inserted v c b o).held ≡ v.held
        by-parent None = refl
        by-parent (Some q) = refl

    by : (b : Bool) → has_contents new ≡ b → (made t new).held ≡ more t.held (made_weight t new)
    by true h = rw h refl
    by false h = rw h refl

two-more : (n m : ℕ) → min (min (n + 1) m + 1) m ≡ min (n + 2) m
two-more n m = omega arith

pub new-steps : (t m u : Tree) (p : Place) (c : ℕ) (new : NewNode) → m ≡ made t new → IsPlace m p → u ≡ put m p c → u.steps ≡ more t.steps 2
new-steps t m u p c new g i e = ap (λ (v : Tree). v.steps) e ∙ by-place p i ∙ ap (λ n. more n 1) (ap (λ (v : Tree). v.steps) g ∙ by (has_contents new) refl) ∙ two-more t.steps (2 ^ 128 - 1)
  where
    by-place : (at : Place) → IsPlace m at → (put m at c).steps ≡ more m.steps 1
    by-place (Last q) i = refl
    by-place (Before b) i = by-parent (parent_of m b) refl
      where
        by-parent : (o : Option ℕ) → parent_of m b ≡ o → (inserted m c b o).steps ≡ more m.steps 1
        by-parent None h = absurd (i.1 h)
        by-parent (Some q) h = refl

    by : (b : Bool) → has_contents new ≡ b → (made t new).steps ≡ more t.steps 1
    by true h = rw h refl
    by false h = rw h refl

-- the place is there in the tree with the new node
pub place-still : (t m : Tree) (k : ℕ) (p : Place) → IsGrown t m k → IsPlace t p → IsPlace m p
place-still t m k (Last q) g i = (let l = g.longer in let j : q < length t.labels = i in omega (arith, l, j))
place-still t m k (Before b) g i = ((let l = g.longer in let j = i.0 in omega (arith, l, j)), λ e. i.1 (sym (g.same_parent b) ∙ e))

-- the place, by its parts
module _ (t : Tree) (s n : List ℕ) (target : Option ℕ) (f b : Bool) (x : ℕ) (p : Place) (e : n ≡ s) (g : x ≡ target_of n target) (h : b ≡ fosters t x f) where
  foster-is : fosters t (target_of s target) f ≡ b
  foster-is = ap (λ v. fosters t (target_of v target) f) (sym e) ∙ sym (ap (λ v. fosters t v f) g) ∙ sym h

  pub place-fostered : b ≡ true → p ≡ fostered t n → p ≡ place_of t s target f
  place-fostered i j = j ∙ ap (fostered t) e ∙ sym (ap (λ v. cond v (fostered t s) (Last (inside t (target_of s target)))) (foster-is ∙ i))

  pub place-inside : b ≡ false → p ≡ Last (inside t x) → p ≡ place_of t s target f
  place-inside i j =
      j ∙ ap (λ v. Last (inside t v)) (g ∙ ap (λ v. target_of v target) e) ∙ sym (ap (λ v. cond v (fostered t s) (Last (inside t (target_of s target)))) (foster-is ∙ i))
