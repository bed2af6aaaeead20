-- What is put at a place for the current node is put into no template (4.12.3).
use Rattle.std.proofs.Common.{◌≡◌, ℕ, ◌+◌, ◌<◌, ◌≤◌, nat_lt, Bool, true, false, List, [], ◌∷◌, length, get_or, is_some, Option, Some, None, inl, inr, refl, sym, ◌∙◌, ap, subst, arith}
use Rattle.std.specs.List.{list_any}
use Rattle.std.proofs.lemmas.Bool.{false≢true}
use Rattle.html_names.specs.declared.tag.Tag.TheVariants as tag
use Rattle.html_names.specs.Sets.{is_formatting, is_template}
use Rattle.html_names.specs.Tags.{is_same}
use Rattle.html_arena.specs.declared.data.NodeData.{NodeData}
use Rattle.html_arena.specs.declared.data.NodeData.TheVariants.{Document, Contents, Element, Text, Comment, Doctype}
use Rattle.html_arena.specs.Data.{host_in, label_in, tag_in}
use Rattle.html_arena.specs.Siblings.{first_of, last_of}
use Rattle.html_arena.specs.Tree.{Tree, WellFormed, contents_at, label_of, parent_of, tag_at}
use Rattle.html_open.specs.declared.places.Place.{Place}
use Rattle.html_open.specs.declared.places.Place.TheVariants.{Last}
use Rattle.html_open.specs.Lists.{above, below, last_where}
use Rattle.html_open.specs.Placing.{AreTemplatesEmpty, CanPlace, by_table, fostered, fosters, get, inside, outside_table, parent_at, place_at, place_of, table, target_of, template}
use Rattle.html_open.specs.ReopenedEntry.{IsInserted}
use Rattle.html_open.proofs.Hangs.{ge-of, lt-of}
use Rattle.html_open.proofs.Inserted.{label-old, longer, tag-new}
use Rattle.html_open.proofs.Keeps.{cases_bool}
use Rattle.html_open.proofs.SafePlaces.{no-template, same-tag}

-- the parent of what is put there is no template
abbrev pub IsFreePlace : Tree → Place → Type 0
IsFreePlace t at = (p : ℕ) → parent_at t at ≡ Some p → template t p ≡ false

pub plain-tag : (d : NodeData) → is_template (tag_in d) ≡ false → is_same (tag_in d) tag.Template ≡ false
plain-tag d h = elim (cases_bool (is_same (tag_in d) tag.Template)) [
  | inl a ↦ absurd (false≢true (sym h ∙ ap is_template (same-tag (tag_in d) tag.Template a)))
  | inr a ↦ a
]

host-plain : (d : NodeData) (x : ℕ) → host_in d ≡ Some x → is_same (tag_in d) tag.Template ≡ false
host-plain (Contents h) x e = refl
host-plain Document x e = refl
host-plain (Element r) x e = absurd (let k = e in cc)
host-plain (Text s) x e = refl
host-plain (Comment s i) x e = refl
host-plain (Doctype n p s i) x e = refl

last-free : (t : Tree) (x : ℕ) → template t x ≡ false → IsFreePlace t (Last x)
last-free t x h p e = (let q : x ≡ p = (let k = e in cc) in subst (λ v. template t v ≡ false) q h)

above-none : {X : Type 0} (p : X → Bool) (xs : List X) → list_any p xs ≡ false → above p xs ≡ xs
above-none p [] h = refl
above-none p (x ∷ xs) h = elim (cases_bool (p x)) [
  | inl a ↦ absurd (let k : true ≡ false = rw a at h in cc)
  | inr a ↦ (let k : list_any p xs ≡ false = rw a at h in rw (k, a) refl)
]

none-last : {X : Type 0} (p : X → Bool) (xs : List X) → last_where p xs ≡ None → list_any p xs ≡ false
none-last p [] h = refl
none-last p (x ∷ xs) h = elim (cases_bool (list_any p xs)) [
  | inl a ↦ absurd (let k = none-last p xs (rw a at h) in false≢true (sym k ∙ a))
  | inr a ↦ elim (cases_bool (p x)) [
    | inl b ↦ absurd (let k = rw (a, b) at h in cc)
    | inr b ↦ rw (b, a) refl
  ]
]

first-none : (p : ℕ → Bool) (x : ℕ) (xs : List ℕ) → list_any p (x ∷ xs) ≡ false → p x ≡ false
first-none p x xs h = elim (cases_bool (p x)) [
  | inl a ↦ absurd (let k : true ≡ false = rw a at h in cc)
  | inr a ↦ a
]

module _ (t : Tree) (w : WellFormed t) (none : AreTemplatesEmpty t) where
  pub inside-plain : (x : ℕ) → template t (inside t x) ≡ false
  inside-plain x = by (contents_at t x) refl
    where
      by : (o : Option ℕ) → contents_at t x ≡ o → template t (get o x) ≡ false
      by None e = plain-tag (label_of t x) (sym (w.templates.hosts x) ∙ ap is_some e)
      by (Some c) e = host-plain (label_of t c) x (w.templates.contents_is x c e).1

  module _ (s : List ℕ) (c : CanPlace t s) where
    outside-free : list_any (template t) (above (table t) s) ≡ false → IsFreePlace t (outside_table t s (last_where (table t) s))
    outside-free n = by (last_where (table t) s) refl
      where
        table-free : (b : ℕ) (o : Option ℕ) → parent_of t b ≡ o → IsFreePlace t (by_table t (below (table t) s) b o)
        table-free b None e = last-free t (inside t (get (last_of (below (table t) s)) b)) (inside-plain (get (last_of (below (table t) s)) b))
        table-free b (Some q) e = λ p k. none b p k

        first : (xs : List ℕ) → CanPlace t xs → list_any (template t) xs ≡ false → template t (get (first_of xs) 0) ≡ false
        first [] k h = absurd k
        first (x ∷ xs) k h = first-none (template t) x xs h

        by : (o : Option ℕ) → last_where (table t) s ≡ o → IsFreePlace t (outside_table t s o)
        by None e = last-free t (get (first_of s) 0) (first s c (subst (λ v. list_any (template t) v ≡ false) (above-none (table t) s (none-last (table t) s e)) n))
        by (Some b) e = table-free b (parent_of t b) refl

    fostered-free : IsFreePlace t (fostered t s)
    fostered-free = elim (cases_bool (list_any (template t) (above (table t) s))) [
      | inl a ↦ rw a (last-free t (inside t (get (last_where (template t) (above (table t) s)) 0)) (inside-plain (get (last_where (template t) (above (table t) s)) 0)))
      | inr a ↦ rw a (outside-free a)
    ]

    pub at-free : (x : ℕ) (f : Bool) → IsFreePlace t (place_at t s x f)
    at-free x f = elim (cases_bool (fosters t x f)) [
      | inl a ↦ rw a fostered-free
      | inr a ↦ rw a (last-free t (inside t x) (inside-plain x))
    ]

    pub place-free : (f : Bool) → IsFreePlace t (place_of t s None f)
    place-free f = at-free (target_of s None) f

-- the parent of the clone is no template, and so no template has children where none had
pub templates-inserted : (t new : Tree) (at : Place) (x : ℕ) → IsInserted t new at x → WellFormed new → is_formatting (tag_at t x) ≡ true
    → IsFreePlace t at → AreTemplatesEmpty t → AreTemplatesEmpty new
templates-inserted t new at x r v f free none y p q =
    let l : length new.labels ≡ length t.labels + 1 = longer t new at x r in
    let in-new : y < length new.labels = v.child_in p y (v.parent_has_child p y q) in
    let to : p < length new.labels = v.parent_in p y q in
    elim (cases_bool (nat_lt p (length t.labels))) [
      | inl e ↦
          let old : template new p ≡ template t p = ap (λ d. is_same (tag_in d) tag.Template) (label-old t new at x r p (lt-of p (length t.labels) e)) in
          old ∙ elim (cases_bool (nat_lt y (length t.labels))) [
            | inl g ↦ none y p (sym (r.same_parents y (lt-of y (length t.labels) g)) ∙ q)
            | inr g ↦
                let c : length t.labels ≤ y = ge-of y (length t.labels) g in
                let i : y ≡ length t.labels = omega (arith, l, in-new, c) in
                free p (sym r.parent_is ∙ (ap (parent_of new) (sym i) ∙ q))
          ]
      | inr e ↦
          let b : length t.labels ≤ p = ge-of p (length t.labels) e in
          let i : p ≡ length t.labels = omega (arith, l, to, b) in
          elim (cases_bool (template new p)) [
            | inl g ↦ absurd (no-template new p (ap (λ k. is_formatting (tag_at new k)) i ∙ (ap is_formatting (tag-new t new at x r) ∙ f)) g)
            | inr g ↦ g
          ]
    ]

pub templates-same : (t u : Tree) → u.labels ≡ t.labels → u.parents ≡ t.parents → AreTemplatesEmpty t → AreTemplatesEmpty u
templates-same t u e f none y p q =
    ap (λ (ls : List NodeData). is_same (tag_in (label_in ls p)) tag.Template) e ∙ none y p (sym (ap (λ ps. get_or ps y None) f) ∙ q)
