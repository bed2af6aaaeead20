-- A clone of an element is put at a place.
use Rattle.std.proofs.Common.{◌≡◌, ◌≢◌, ℕ, zero, suc, ◌+◌, ◌<◌, true, false, List, [], ◌∷◌, ◌++◌, length, get_or, Option, Some, None, refl, sym, ◌∙◌, ap, subst, length-append, arith}
use Rattle.html_names.specs.Sets.{is_formatting}
use Rattle.html_arena.specs.declared.data.NodeData.{NodeData}
use Rattle.html_arena.specs.declared.data.NodeData.TheVariants.{Document, Contents, Element, Text, Comment, Doctype}
use Rattle.html_arena.specs.declared.data.NewNode.TheVariants.{CloneOf}
use Rattle.html_arena.specs.Data.{IsElement, cloned, origin_in, tag_in}
use Rattle.html_arena.specs.Laws.{IsGrown}
use Rattle.html_arena.specs.Make.{made}
use Rattle.html_arena.specs.Marks.{has_mark, no_marks}
use Rattle.html_arena.specs.Siblings.{has}
use Rattle.html_arena.specs.Tree.{Tree, ancestors, children_of, inserted, label_of, parent_of, tag_at}
use Rattle.html_open.specs.declared.places.Place.{Place}
use Rattle.html_open.specs.declared.places.Place.TheVariants.{Last, Before}
use Rattle.html_open.specs.Marking.{charged}
use Rattle.html_open.specs.Opened.{origin_at}
use Rattle.html_open.specs.Placing.{AreTemplatesEmpty, IsPlace, parent_at, put}
use Rattle.html_open.specs.ReopenedEntry.{IsInserted}
use Rattle.html_open.specs.Rooting.{KeepsParents}
use Rattle.html_open.proofs.Keeps.{has-tail}

-- what a list with one element more has at an index
pub get-last : {X : Type 0} (xs : List X) (d e : X) → get_or (xs ++ e ∷ []) (length xs) d ≡ e
get-last [] d e = refl
get-last (x ∷ xs) d e = get-last xs d e

pub get-before : {X : Type 0} (xs ys : List X) (i : ℕ) (d : X) → i < length xs → get_or (xs ++ ys) i d ≡ get_or xs i d
get-before [] ys i d l = absurd (omega arith)
get-before (x ∷ xs) ys zero d l = refl
get-before (x ∷ xs) ys (suc i) d l = get-before xs ys i d (omega arith)

pub get-default : {X : Type 0} (xs : List X) (i : ℕ) (d : X) → get_or (xs ++ d ∷ []) i d ≡ get_or xs i d
get-default [] zero d = refl
get-default [] (suc i) d = refl
get-default (x ∷ xs) zero d = refl
get-default (x ∷ xs) (suc i) d = get-default xs i d

-- a node that is put at a place keeps its label and its marks
put-labels : (t : Tree) (p : Place) (c : ℕ) → (put t p c).labels ≡ t.labels
put-labels t (Last p) c = refl
put-labels t (Before b) c = by (parent_of t b)
  where
    by : (o : Option ℕ) → (inserted t c b o).labels ≡ t.labels
    by None = refl
    by (Some p) = refl

put-marks : (t : Tree) (p : Place) (c : ℕ) → (put t p c).marks ≡ t.marks
put-marks t (Last p) c = refl
put-marks t (Before b) c = by (parent_of t b)
  where
    by : (o : Option ℕ) → (inserted t c b o).marks ≡ t.marks
    by None = refl
    by (Some p) = refl

pub parent-same : (t m : Tree) (p : Place) → ((x : ℕ) → parent_of m x ≡ parent_of t x) → parent_at m p ≡ parent_at t p
parent-same t m (Last p) h = refl
parent-same t m (Before b) h = h b

-- there is a parent for what is put there
pub parent-there : (t : Tree) (p : Place) → IsPlace t p → parent_at t p ≢ None
parent-there t (Last p) h = λ e. absurd (let k = e in cc)
parent-there t (Before b) h = h.1

pub place-as : (t u : Tree) (p : Place) → u.labels ≡ t.labels → u.parents ≡ t.parents → IsPlace t p → IsPlace u p
place-as t u (Last q) e f h = (let l = ap length e in omega (arith, l, h))
place-as t u (Before b) e f h = (let l = ap length e in let i = h.0 in omega (arith, l, i), λ q. h.1 (sym (ap (λ ps. get_or ps b None) f) ∙ q))

parent-charged : (t : Tree) (k : ℕ) (p : Place) → parent_at (charged t k) p ≡ parent_at t p
parent-charged t k (Last p) = refl
parent-charged t k (Before b) = refl

module _ (t m new : Tree) (at : Place) (c x : ℕ) where
  pub grown-inserted : m ≡ made t (CloneOf x) → IsGrown t m 1 → c ≡ length t.labels → new ≡ put m at c
      → ((y : ℕ) → y < length m.labels → has c (y ∷ ancestors m y) ≡ false → ancestors new y ≡ ancestors m y)
      → ((y : ℕ) → parent_at m at ≢ Some y → children_of new y ≡ children_of m y)
      → ((y : ℕ) → y ≢ c → parent_of new y ≡ parent_of m y)
      → parent_of new c ≡ parent_at m at → IsPlace t at
      → IsInserted t new at x
  grown-inserted e g i f others children parents own there =
      let more = g.longer in
      let up : (y : ℕ) → y < length t.labels → ancestors new y ≡ ancestors m y =
      λ y l. others y (omega arith) (g.not_above y c l (omega arith)) in
      record {
        labels_are = ap (λ (v : Tree). v.labels) f ∙ put-labels m at c ∙ ap (λ (v : Tree). v.labels) e;
        same_marks = λ k y.
            ap (λ (v : Tree). has_mark k (get_or v.marks y no_marks)) f ∙ ap (λ v. has_mark k (get_or v y no_marks)) (put-marks m at c)
            ∙ ap (λ (v : Tree). has_mark k (get_or v.marks y no_marks)) e ∙ ap (has_mark k) (get-default t.marks y no_marks);
        same_ancestors = λ y l. up y l ∙ g.same_ancestors y l;
        not_above = λ y l. rw (up y l) (without-self y c (ancestors m y) (subst (λ v. has v (y ∷ ancestors m y) ≡ false) (sym i) (g.not_above y (length t.labels) l (omega arith))) i);
        same_children = λ y l n. children y (λ q. n (sym (parent-same t m at g.same_parent) ∙ q)) ∙ g.same_children y;
        same_parents = λ y l. parents y (λ q. (let r : y ≡ length t.labels = q ∙ i in omega arith)) ∙ g.same_parent y;
        parent_is = ap (parent_of new) (sym i) ∙ own ∙ parent-same t m at g.same_parent;
        linked = λ q. parent-there t at there (sym (parent-same t m at g.same_parent) ∙ sym own ∙ ap (parent_of new) i ∙ q);
      }
    where
      without-self : (y d : ℕ) (ys : List ℕ) → has d (y ∷ ys) ≡ false → d ≡ length t.labels → has (length t.labels) ys ≡ false
      without-self y d ys h q = subst (λ v. has v ys ≡ false) q (has-tail d y ys h).1

pub inserted-charged : (t new : Tree) (k : ℕ) (at : Place) (x : ℕ) → IsInserted (charged t k) new at x → IsInserted t new at x
inserted-charged t new k at x r = record {
  labels_are = r.labels_are;
  same_marks = r.same_marks;
  same_ancestors = r.same_ancestors;
  not_above = r.not_above;
  same_children = λ y l n. r.same_children y l (λ q. n (sym (parent-charged t k at) ∙ q));
  same_parents = r.same_parents;
  parent_is = r.parent_is ∙ parent-charged t k at;
  linked = r.linked;
}

-- the clone has the tag and the origin of its original, which is an element
pub cloned-origin : (d : NodeData) → origin_in (cloned d) ≡ origin_in d
cloned-origin (Element e) = refl
cloned-origin Document = refl
cloned-origin (Contents h) = refl
cloned-origin (Text s) = refl
cloned-origin (Comment s i) = refl
cloned-origin (Doctype n p s i) = refl

pub cloned-tag : (d : NodeData) → tag_in (cloned d) ≡ tag_in d
cloned-tag (Element e) = refl
cloned-tag Document = refl
cloned-tag (Contents h) = refl
cloned-tag (Text s) = refl
cloned-tag (Comment s i) = refl
cloned-tag (Doctype n p s i) = refl

pub cloned-element : (d : NodeData) → is_formatting (tag_in d) ≡ true → IsElement (cloned d)
cloned-element (Element e) h = tt
cloned-element Document h = absurd cc
cloned-element (Contents k) h = absurd cc
cloned-element (Text s) h = absurd cc
cloned-element (Comment s i) h = absurd cc
cloned-element (Doctype n p s i) h = absurd cc

module _ (t new : Tree) (at : Place) (x : ℕ) (r : IsInserted t new at x) where
  pub longer : length new.labels ≡ length t.labels + 1
  longer = ap length r.labels_are ∙ length-append t.labels (cloned (label_of t x) ∷ [])

  pub label-new : label_of new (length t.labels) ≡ cloned (label_of t x)
  label-new = ap (λ (v : List NodeData). get_or v (length t.labels) Document) r.labels_are ∙ get-last t.labels Document (cloned (label_of t x))

  pub label-old : (y : ℕ) → y < length t.labels → label_of new y ≡ label_of t y
  label-old y l = ap (λ (v : List NodeData). get_or v y Document) r.labels_are ∙ get-before t.labels (cloned (label_of t x) ∷ []) y Document l

  pub origin-new : origin_at new (length t.labels) ≡ origin_at t x
  origin-new = ap origin_in label-new ∙ cloned-origin (label_of t x)

  pub tag-new : tag_at new (length t.labels) ≡ tag_at t x
  tag-new = ap tag_in label-new ∙ cloned-tag (label_of t x)

  pub element-new : is_formatting (tag_at t x) ≡ true → IsElement (label_of new (length t.labels))
  element-new h = subst IsElement (sym label-new) (cloned-element (label_of t x) h)

-- the parents of all others stay, and the clone has one
pub parents-inserted : (t new v : Tree) (at : Place) (x : ℕ) → IsInserted t new at x → v.labels ≡ new.labels → v.parents ≡ new.parents → (AreTemplatesEmpty t → AreTemplatesEmpty v) → KeepsParents t v
parents-inserted t new v at x r e f g =
    let l = longer t new at x r in
    let m = ap length e in
    record {
      same = λ y b. ap (λ ps. get_or ps y None) f ∙ r.same_parents y b;
      linked = λ y a b q.
          let i : y ≡ length t.labels = omega (arith, l, m, a, b) in
          r.linked (sym (ap (parent_of new) i) ∙ sym (ap (λ ps. get_or ps y None) f) ∙ q);
      templates = g;
    }
