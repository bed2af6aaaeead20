-- Parts of tables keep their parents, and templates hold nothing: where nodes are made, moved, or relabelled.
use Rattle.std.proofs.Common.{◌≡◌, ℕ, zero, suc, ◌+◌, ◌-◌, ◌<◌, ◌≤◌, nat_lt, nat_le, Bool, true, false, cond, eqb, ◌&&◌, List, [], ◌∷◌, ◌++◌, length, get_or, map, take, drop, Option, Some, None, ◌⊎◌, inl, inr, refl, sym, ◌∙◌, ap, subst, arith, length-append, Result, Ok, Err, IfOk, IfErr}
use Rattle.std.proofs.lemmas.Bool.{false≢true}
use Rattle.std.proofs.lemmas.List.{length-map as length_map, take-append-drop}
use Rattle.html_names.specs.declared.tag.Tag.{Tag}
use Rattle.html_names.specs.declared.tag.Tag.TheVariants as tag
use Rattle.html_names.specs.Groups.{is_table_part}
use Rattle.html_names.specs.Sets.{ends_default_scope, is_cell, is_formatting}
use Rattle.html_names.specs.Tags.{is_same}
use Rattle.html_arena.specs.declared.data.NewNode.{NewNode}
use Rattle.html_arena.specs.declared.data.NodeData.{NodeData}
use Rattle.html_arena.specs.declared.data.NodeData.TheVariants as node
use Rattle.html_arena.specs.declared.marks.Mark.{Mark}
use Rattle.html_arena.specs.Data.{IsElement, cloned, host_in, label_in, tag_in}
use Rattle.html_arena.specs.Laws.{IsRelabelled, IsUnlinked}
use Rattle.html_arena.specs.Make.{has_contents, label_for, made}
use Rattle.html_arena.specs.Siblings.{first_of, has, is_in, last_of, or_else, put_before, without}
use Rattle.html_arena.specs.declared.arena.Limits.{Limits}
use Rattle.html_arena.specs.Tree.{Tree, WellFormed, children_of, contents_at, empty_tree, label_of, parent_of, tag_at}
use Rattle.html_open.specs.declared.adoption.AdoptEnd.{AdoptEnd}
use Rattle.html_open.specs.declared.entry.Entry.{Entry}
use Rattle.html_arena.specs.declared.arena.ArenaError.{ArenaError}
use Rattle.html_open.specs.declared.places.Place.{Place}
use Rattle.html_open.specs.declared.places.Place.TheVariants.{Before, Last}
use Rattle.html_open.specs.Adopting.{Adopted, Ends, IsRefusal, MadeClones, Round, Rounds, closes, eight, fewer, forgets, no_entry, no_round, one_more, out_of_scope, popped}
use Rattle.html_open.specs.Hanging.{chain_top, chained, with_put, wrapped_children}
use Rattle.html_open.specs.Opened.{IsOpen, Open, open_at}
use Rattle.html_open.specs.Placing.{AreTemplatesEmpty, CanPlace, IsPlace, get, inside, parent_at, place_at as place_on, place_of, template}
use Rattle.html_open.specs.Rooting.{KeepsParents}
use Rattle.html_arena.proofs.Siblings.{has-last}
use Rattle.html_open.proofs.Descending.{label-kept}
use Rattle.html_open.specs.Marking.{all_unmarked, bare}
use Rattle.html_open.proofs.Hangs.{ge-of, le-of, lt-of}
use Rattle.html_open.proofs.Inserted.{get-before}
use Rattle.html_open.proofs.Keeps.{cases_bool, cases_eqb, eqb-self}
use Rattle.html_open.proofs.SafePlaces.{no-template, same-tag}
use Rattle.html_open.proofs.Templates.{at-free, place-free}
use Rattle.html_tree.specs.declared.groups.Target.{Target}
use Rattle.html_tree.specs.declared.groups.Target.TheVariants as target
use Rattle.html_tree.specs.Inserting.{IsNew}
use Rattle.html_tree.specs.OpenTags.{tags_down}
use Rattle.html_tree.specs.Seats.{AreSeated, ArePartsSeated, CanSeat, HasSeats, IsSeated, carries_part, is_part, is_seat, may_carry, seat_at, sits_on}
use Rattle.html_tree.specs.Since.{essence}
use Rattle.html_tree.specs.States.{IsUnderWay, State, state_of}
use Rattle.html_tree.specs.Targets.{CanTarget, place_at}
use Rattle.html_tree.proofs.Inserted.{beyond-contents, under-way-place}
use Rattle.html_tree.proofs.Kept.{same-tag_in}
use Rattle.html_tree.proofs.OpenTags.{append-tags, clone-tag, same-tags}
use Rattle.html_tree.proofs.Seating.{Up, formatting-plain, g-carries, g-in, g-no-end, g-plain, made as round-clones, not-part, of-up, plain-sits, rounds-seated, up-before, up-of}

-- THE SAME NODES

-- what may hold a part depends on the essence of a node
seat-essence : (g : Tag) (x : ℕ) (d : NodeData) → is_seat g x (essence d) ≡ is_seat g x d
seat-essence g x node.Document = refl
seat-essence g x (node.Contents h) = refl
seat-essence g x (node.Element e) = refl
seat-essence g x (node.Text s) = refl
seat-essence g x (node.Comment s i) = refl
seat-essence g x (node.Doctype n p s i) = refl

seat-same : (g : Tag) (x : ℕ) (d e : NodeData) → essence e ≡ essence d → is_seat g x e ≡ is_seat g x d
seat-same g x d e q = sym (seat-essence g x e) ∙ (ap (is_seat g x) q ∙ seat-essence g x d)

-- each node of a tree has in the other what it has here, and its parent, or none
module _ (t u : Tree) (s : List ℕ) (w : WellFormed t)
    (labels : (x : ℕ) → x < length t.labels → essence (label_of u x) ≡ essence (label_of t x)) (parents : (x p : ℕ) → parent_of u x ≡ Some p → parent_of t x ≡ Some p) where
  in-tree : (x p : ℕ) → parent_of t x ≡ Some p → x < length t.labels
  in-tree x p e = w.child_in p x (w.parent_has_child p x e)

  tag-kept : (x : ℕ) → x < length t.labels → tag_at u x ≡ tag_at t x
  tag-kept x b = same-tag_in (label_of t x) (label_of u x) (labels x b)

  pub parts-same : ArePartsSeated t → ArePartsSeated u
  parts-same h x p e g =
      let k = parents x p e in
      let i = tag-kept x (in-tree x p k) in
      seat-same (tag_at u x) p (label_of t p) (label_of u p) (labels p (w.parent_in p x k))
      ∙ (ap (λ v. is_seat v p (label_of t p)) i ∙ h x p k (ap is_part (sym i) ∙ g))

  pub templates-kept : AreTemplatesEmpty t → AreTemplatesEmpty u
  templates-kept h x p e = (let k = parents x p e in ap (λ v. is_same v tag.Template) (tag-kept p (w.parent_in p x k)) ∙ h x p k)

  pub seats-same : ((x : ℕ) → has x s ≡ true → x < length t.labels) → HasSeats t s → HasSeats u s
  seats-same n h = record {
    open_elements = subst AreSeated (sym (same-tags t u s (λ x b. tag-kept x (n x b)))) h.open_elements;
    parts = parts-same h.parts;
    templates = templates-kept h.templates;
  }

-- the labels and the parents are the same
pub seats-as : (t u : Tree) (s : List ℕ) → u.labels ≡ t.labels → u.parents ≡ t.parents → HasSeats t s → HasSeats u s
seats-as t u s e f h = record {
  open_elements = subst AreSeated (sym (same-tags t u s (λ x b. ap (λ ls. tag_in (label_in ls x)) e))) h.open_elements;
  parts = λ x p i g.
      ap (λ ls. is_seat (tag_in (label_in ls x)) p (label_in ls p)) e
      ∙ h.parts x p (sym (ap (λ ps. get_or ps x None) f) ∙ i) (sym (ap (λ ls. is_part (tag_in (label_in ls x))) e) ∙ g);
  templates = λ x p i. ap (λ ls. is_same (tag_in (label_in ls p)) tag.Template) e ∙ h.templates x p (sym (ap (λ ps. get_or ps x None) f) ∙ i);
}

-- the first of the elements stay open
pub seats-taken : (t u : Tree) (s : List ℕ) (k : ℕ) → u.labels ≡ t.labels → u.parents ≡ t.parents → HasSeats t s → HasSeats u (take k s)
seats-taken t u s k e f h =
    let g = seats-as t u s e f h in
    record {
      open_elements = of-up u (take k s) (up-before u (take k s) (drop k s) (subst (Up u) (sym (take-append-drop k s)) (up-of u s g.open_elements)));
      parts = g.parts;
      templates = g.templates;
    }

-- one node is another, of the same essence
pub seats-relabelled : (t u : Tree) (s : List ℕ) (x : ℕ) (d : NodeData) → IsRelabelled t u x d → essence d ≡ essence (label_of t x) → HasSeats t s → HasSeats u s
seats-relabelled t u s x d r e h = record {
  open_elements = subst AreSeated (sym (same-tags t u s (λ y b. same-tag_in (label_of t y) (label_of u y) (labels y)))) h.open_elements;
  parts = λ y p i g.
      let k = same-tag_in (label_of t y) (label_of u y) (labels y) in
      seat-same (tag_at u y) p (label_of t p) (label_of u p) (labels p) ∙ (ap (λ v. is_seat v p (label_of t p)) k ∙ h.parts y p (sym (ap (λ ps. get_or ps y None) r.same_parents) ∙ i) (ap is_part (sym k) ∙ g));
  templates = λ y p i. ap (λ v. is_same v tag.Template) (same-tag_in (label_of t p) (label_of u p) (labels p)) ∙ h.templates y p (sym (ap (λ ps. get_or ps y None) r.same_parents) ∙ i);
}
  where
    labels : (y : ℕ) → essence (label_of u y) ≡ essence (label_of t y)
    labels y = elim (cases_eqb y x) [
      | inl q ↦ ap (λ v. essence (label_of u v)) q.1 ∙ (ap essence r.label_is ∙ (e ∙ ap (λ v. essence (label_of t v)) (sym q.1)))
      | inr q ↦ ap essence (r.other_labels y (λ z. false≢true (sym q.0 ∙ subst (λ v. eqb y v ≡ true) z (eqb-self y))))
    ]

-- a node is taken out of the tree
pub seats-unlinked : (t u : Tree) (s : List ℕ) (x : ℕ) → IsUnlinked t u x → HasSeats t s → HasSeats u s
seats-unlinked t u s x r h = record {
  open_elements = subst AreSeated (sym (same-tags t u s (λ y b. ap (λ ls. tag_in (label_in ls y)) r.same_labels))) h.open_elements;
  parts = λ y p i g.
      ap (λ ls. is_seat (tag_in (label_in ls y)) p (label_in ls p)) r.same_labels
      ∙ h.parts y p (parents y p i) (sym (ap (λ ls. is_part (tag_in (label_in ls y))) r.same_labels) ∙ g);
  templates = λ y p i. ap (λ ls. is_same (tag_in (label_in ls p)) tag.Template) r.same_labels ∙ h.templates y p (parents y p i);
}
  where
    parents : (y p : ℕ) → parent_of u y ≡ Some p → parent_of t y ≡ Some p
    parents y p i = elim (cases_eqb y x) [
      | inl q ↦ absurd (let z : None ≡ Some p = sym (r.parent_is y ∙ rw q.0 refl) ∙ i in cc)
      | inr q ↦ (let z : parent_of u y ≡ parent_of t y = r.parent_is y ∙ rw q.0 refl in sym z ∙ i)
    ]

-- nothing has a parent
pub seats-alone : (t : Tree) (s : List ℕ) → ((x : ℕ) → parent_of t x ≡ None) → AreSeated (tags_down t s) → HasSeats t s
seats-alone t s n h = record {
  open_elements = h;
  parts = λ x p i g. absurd (let z : None ≡ Some p = sym (n x) ∙ i in cc);
  templates = λ x p i. absurd (let z : None ≡ Some p = sym (n x) ∙ i in cc);
}

parent-none : (xs : List (Option ℕ)) → xs ≡ None ∷ [] → (x : ℕ) → get_or xs x None ≡ None
parent-none xs e zero = ap (λ v. get_or v zero None) e
parent-none xs e (suc x) = ap (λ v. get_or v (suc x) None) e

-- the first node
pub first-seats : (limits : Option Limits) (new : NewNode) (u v : Tree) → has_contents new ≡ false → u ≡ made (empty_tree limits) new → v.parents ≡ u.parents → (s : List ℕ) → AreSeated (tags_down v s) → HasSeats v s
first-seats limits new u v h e f s i = seats-alone v s (λ x. parent-none v.parents (f ∙ (ap (λ (t : Tree). t.parents) e ∙ rw h refl)) x) i

pub all_unmarked-parents : (t : Tree) (m : Mark) (xs : List ℕ) → (all_unmarked t m xs).parents ≡ t.parents
all_unmarked-parents t m [] = refl
all_unmarked-parents t m (x ∷ xs) = all_unmarked-parents t m xs

pub bare-seats : (t : Tree) (s : List ℕ) → HasSeats t s → HasSeats (bare t) s
bare-seats t s h = record { open_elements = h.open_elements; parts = h.parts; templates = h.templates }

-- A NEW NODE

order : (a b : ℕ) → (a < b) ⊎ ((a ≡ b) ⊎ (b < a))
order a b = grind arith

none-some : {x : ℕ} → None ≡ Some x → ⊥
none-some e = absurd (let k : None ≡ Some _ = e in cc)

place-in : (t : Tree) (at : Place) → WellFormed t → IsPlace t at → (p : ℕ) → parent_at t at ≡ Some p → p < length t.labels
place-in t (Last q) w i p e = (let k : q ≡ p = (let z = e in cc) in subst (λ v. v < length t.labels) k i)
place-in t (Before b) w i p e = w.parent_in p b e

module _ (t u : Tree) (at : Place) (new : NewNode) (k : ℕ) (e : IsNew t u at new k) (v : WellFormed u) where
  new-of : (x p : ℕ) → parent_of u x ≡ Some p → ((x < length t.labels) × (parent_of t x ≡ Some p)) ⊎ ((x ≡ length t.labels) × (parent_at t at ≡ Some p))
  new-of x p q = elim (order x (length t.labels)) [
    | inl b ↦ inl (b, sym (e.laws.same_parents x b) ∙ q)
    | inr b ↦ elim b [
      | inl i ↦ inr (i, sym e.laws.parent_is ∙ (ap (parent_of u) (sym i) ∙ q))
      | inr l ↦
          let in-new : x < length u.labels = v.child_in p x (v.parent_has_child p x q) in
          let host = beyond-contents (length t.labels) (has_contents new) (label_for t new) t.labels x l (subst (λ (ds : List NodeData). x < length ds) e.labels_are in-new) in
          absurd (none-some (sym (v.contents_alone x (length t.labels) (ap (λ ds. host_in (label_in ds x)) e.labels_are ∙ host)) ∙ q))
    ]
  ]

  -- the parent was a node before
  parent-in : (x p : ℕ) → parent_of u x ≡ Some p → p < length t.labels
  parent-in x p q = elim (new-of x p q) [ inl i ↦ e.well_formed.parent_in p x i.1 | inr i ↦ place-in t at e.well_formed e.place_in p i.1 ]

  pub new-parts : (is_part (tag_in (label_for t new)) ≡ true → (p : ℕ) → parent_at t at ≡ Some p → is_seat (tag_in (label_for t new)) p (label_of t p) ≡ true)
      → ArePartsSeated t → ArePartsSeated u
  new-parts own h x p q g =
      ap (is_seat (tag_at u x) p) (e.laws.same_labels p (parent-in x p q)) ∙ elim (new-of x p q) [
        | inl i ↦
            let a = e.laws.same_labels x i.0 in
            ap (λ d. is_seat (tag_in d) p (label_of t p)) a ∙ h x p i.1 (ap (λ d. is_part (tag_in d)) (sym a) ∙ g)
        | inr i ↦
            let a : label_of u x ≡ label_for t new = ap (label_of u) i.0 ∙ e.laws.label_is in
            ap (λ d. is_seat (tag_in d) p (label_of t p)) a ∙ own (ap (λ d. is_part (tag_in d)) (sym a) ∙ g) p i.1
      ]

  pub new-templates : ((p : ℕ) → parent_at t at ≡ Some p → template t p ≡ false) → AreTemplatesEmpty t → AreTemplatesEmpty u
  new-templates own h x p q =
      ap (λ d. is_same (tag_in d) tag.Template) (e.laws.same_labels p (parent-in x p q)) ∙ elim (new-of x p q) [ inl i ↦ h x p i.1 | inr i ↦ own p i.1 ]

-- WHERE IT IS PUT

html-plain : (g : Tag) → is_same g tag.Html ≡ true → is_same g tag.Template ≡ false
html-plain g h = subst (λ v. is_same v tag.Template ≡ false) (sym (same-tag g tag.Html h)) refl

head-plain : (g : Tag) → is_same g tag.Head ≡ true → is_same g tag.Template ≡ false
head-plain g h = subst (λ v. is_same v tag.Template ≡ false) (sym (same-tag g tag.Head h)) refl

root-plain : (d : NodeData) → (IsElement d → is_same (tag_in d) tag.Html ≡ true) → is_same (tag_in d) tag.Template ≡ false
root-plain (node.Element e) h = html-plain e.tag (h tt)
root-plain node.Document h = refl
root-plain (node.Contents k) h = refl
root-plain (node.Text s) h = refl
root-plain (node.Comment s i) h = refl
root-plain (node.Doctype n p s i) h = refl

at-last : (t : Tree) (x : ℕ) → template t x ≡ false → (p : ℕ) → Some x ≡ Some p → template t p ≡ false
at-last t x h p e = (let k : x ≡ p = (let z = e in cc) in subst (λ v. template t v ≡ false) k h)

-- what is put at a target is put into no template
pub target-empty : (s : List ℕ) (l : List Entry) (t : Tree) (n : ℕ) (h f d : Option ℕ) (at : Target) → IsUnderWay s l t n h f d → WellFormed t → AreTemplatesEmpty t → CanTarget s at
    → (p : ℕ) → parent_at t (place_at t s h at) ≡ Some p → template t p ≡ false
target-empty s l t n h f d (target.Current foster) u w none c p e = place-free t w none s (under-way-place s l t n h f d u c) foster p e
target-empty [] l t n h f d target.Head u w none c p e = absurd (omega arith)
target-empty (y ∷ s) l t n None f d target.Head u w none c p e = at-last t y (html-plain (tag_at t y) (u.first y refl).1) p e
target-empty (y ∷ s) l t n (Some z) f d target.Head u w none c p e = at-last t z (head-plain (tag_at t z) (u.head z refl).1) p e
target-empty [] l t n h f d target.First u w none c p e = absurd (omega arith)
target-empty (y ∷ s) l t n h f d target.First u w none c p e = at-last t y (html-plain (tag_at t y) (u.first y refl).1) p e
target-empty s l t n h f d target.Document u w none c p e = at-last t 0 (root-plain (label_of t 0) (λ i. (u.first 0 (u.root i)).1)) p e

seat-element : (g : Tag) (x : ℕ) (d : NodeData) → IsElement d → is_seat g x d ≡ may_carry g x (tag_in d)
seat-element g x (node.Element e) i = refl
seat-element g x node.Document i = absurd i
seat-element g x (node.Contents k) i = absurd i
seat-element g x (node.Text s) i = absurd i
seat-element g x (node.Comment s j) i = absurd i
seat-element g x (node.Doctype n p s j) i = absurd i

seat-host : (g : Tag) (c x : ℕ) (d : NodeData) → host_in d ≡ Some x → is_seat g c d ≡ true
seat-host g c x (node.Contents k) e = refl
seat-host g c x node.Document e = absurd (none-some e)
seat-host g c x (node.Element r) e = absurd (none-some e)
seat-host g c x (node.Text s) e = absurd (none-some e)
seat-host g c x (node.Comment s i) e = absurd (none-some e)
seat-host g c x (node.Doctype n p s i) e = absurd (none-some e)

-- the current node, or the contents that it stands for, may hold the part
seat-inside : (t : Tree) (g : Tag) (x : ℕ) → WellFormed t → IsElement (label_of t x) → may_carry g x (tag_at t x) ≡ true → is_seat g (inside t x) (label_of t (inside t x)) ≡ true
seat-inside t g x w i h = by (contents_at t x) refl
  where
    by : (o : Option ℕ) → contents_at t x ≡ o → is_seat g (get o x) (label_of t (get o x)) ≡ true
    by None e = seat-element g x (label_of t x) i ∙ h
    by (Some c) e = seat-host g c x (label_of t c) (w.templates.contents_is x c e).1

-- a part is put on what may hold it
pub target-seat : (s : List ℕ) (l : List Entry) (t : Tree) (n : ℕ) (h f d : Option ℕ) (at : Target) (g : Tag) → IsUnderWay s l t n h f d → WellFormed t → CanSeat (state_of s l t n h f d) g at → is_part g ≡ true
    → (p : ℕ) → parent_at t (place_at t s h at) ≡ Some p → is_seat g p (label_of t p) ≡ true
target-seat s l t n h f d (target.Current foster) g u w c part p e = by foster (c part).0 (last_of s) refl (c part).1 e
  where
    by : (b : Bool) → b ≡ false → (o : Option ℕ) → last_of s ≡ o → seat_at t g (last_of s) ≡ true → parent_at t (place_of t s None b) ≡ Some p → is_seat g p (label_of t p) ≡ true
    by true q o i j k = absurd (false≢true (sym q))
    by false q None i j k = absurd (let z : false ≡ true = sym (ap (seat_at t g) i) ∙ j in false≢true z)
    by false q (Some x) i j k =
        let c = seat-inside t g x w (u.is_open.elements x (has-last x s i)) (sym (ap (seat_at t g) i) ∙ j) in
        let y : inside t x ≡ p = (let z : Some (inside t x) ≡ Some p = sym (ap (λ o. Some (inside t (get o 0))) i) ∙ k in cc) in
        subst (λ v. is_seat g v (label_of t v) ≡ true) y c
target-seat s l t n h f d target.Head g u w c part p e = absurd (false≢true (sym c ∙ part))
target-seat s l t n h f d target.First g u w c part p e = absurd (false≢true (sym c ∙ part))
target-seat s l t n h f d target.Document g u w c part p e = absurd (false≢true (sym c ∙ part))

-- an html may carry every part, as far as tags tell
html-sits : (g : Tag) → sits_on g tag.Html ≡ true
html-sits g = by (is_cell g) (is_same g tag.Tr) (is_table_part g)
  where
    by : (a b c : Bool) → cond a true (cond b true (cond c true true)) ≡ true
    by true b c = refl
    by false true c = refl
    by false false true = refl
    by false false false = refl

carry-sits : (g : Tag) (x : ℕ) (h : Tag) → may_carry g x h ≡ true → sits_on g h ≡ true
carry-sits g x h e = elim (cases_bool (is_same h tag.Html)) [
  | inl a ↦ subst (λ v. sits_on g v ≡ true) (sym (same-tag h tag.Html a)) (html-sits g)
  | inr a ↦ (let k : sits_on g h ≡ true = rw a at e in k)
]

lasts : (x : ℕ) (xs : List ℕ) → (ys : List ℕ) × (y : ℕ) × (x ∷ xs ≡ ys ++ y ∷ []) × (last_of (x ∷ xs) ≡ Some y)
lasts x [] = ([], x, refl, refl)
lasts x (z ∷ zs) = (let r = lasts z zs in (x ∷ r.0, r.1, ap (λ v. x ∷ v) r.2, ap (λ o. or_else o (Some x)) r.3))

-- it stands on the current node
pub seated-here : (t : Tree) (g : Tag) (s : List ℕ) → seat_at t g (last_of s) ≡ true → IsSeated g (tags_down t s)
seated-here t g [] h = tt
seated-here t g (x ∷ xs) h =
    let r = lasts x xs in
    let k = carry-sits g r.1 (tag_at t r.1) (sym (ap (seat_at t g) r.3) ∙ h) in
    subst (IsSeated g) (sym (ap (tags_down t) r.2 ∙ append-tags t r.0 (r.1 ∷ []))) k

plain-seated : (g : Tag) (ys : List Tag) → is_part g ≡ false → IsSeated g ys
plain-seated g [] n = tt
plain-seated g (y ∷ ys) n = plain-sits g y n

pub target-seated : (a : State) (g : Tag) (at : Target) → CanSeat a g at → IsSeated g (tags_down a.tree a.stack)
target-seated a g (target.Current foster) c = elim (cases_bool (is_part g)) [ inl p ↦ seated-here a.tree g a.stack (c p).1 | inr p ↦ plain-seated g (tags_down a.tree a.stack) p ]
target-seated a g target.Head c = plain-seated g (tags_down a.tree a.stack) c
target-seated a g target.First c = plain-seated g (tags_down a.tree a.stack) c
target-seated a g target.Document c = plain-seated g (tags_down a.tree a.stack) c

pub plain-seat : (a : State) (g : Tag) (at : Target) → is_part g ≡ false → CanSeat a g at
plain-seat a g (target.Current foster) n = λ p. absurd (false≢true (sym n ∙ p))
plain-seat a g target.Head n = n
plain-seat a g target.First n = n
plain-seat a g target.Document n = n

module _ (s : List ℕ) (l : List Entry) (t u : Tree) (at : Target) (new : NewNode) (k n : ℕ) (h f d : Option ℕ) (e : IsNew t u (place_at t s h at) new k) (v : WellFormed u)
    (w : IsUnderWay s l t n h f d) (c : CanTarget s at) (o : CanSeat (state_of s l t n h f d) (tag_in (label_for t new)) at) where
  kept-tags : tags_down u s ≡ tags_down t s
  kept-tags = same-tags t u s (λ x b. ap tag_in (e.laws.same_labels x (w.is_open.stack_in x b)))

  -- the new node is not opened
  pub seats-new : HasSeats t s → HasSeats u s
  seats-new i = record {
    open_elements = subst AreSeated (sym kept-tags) i.open_elements;
    parts = new-parts t u (place_at t s h at) new k e v (λ p. target-seat s l t n h f d at (tag_in (label_for t new)) w e.well_formed o p) i.parts;
    templates = new-templates t u (place_at t s h at) new k e v (target-empty s l t n h f d at w e.well_formed i.templates c) i.templates;
  }

  -- it is opened
  pub seats-opened : (s' : List ℕ) (z : Tree) → s' ≡ s ++ length t.labels ∷ [] → z.labels ≡ u.labels → z.parents ≡ u.parents → HasSeats t s → HasSeats z s'
  seats-opened s' z j a b i =
      let g = seats-new i in
      let on : AreSeated (tags_down u (s ++ length t.labels ∷ [])) =
      subst AreSeated (sym (append-tags u s (length t.labels ∷ []) ∙ (ap (λ y. y ∷ tags_down u s) (ap tag_in e.laws.label_is) ∙ ap (λ y. tag_in (label_for t new) ∷ y) kept-tags)))
      (target-seated (state_of s l t n h f d) (tag_in (label_for t new)) at o, i.open_elements) in
      seats-as u z s' a b (record { open_elements = subst (λ y. AreSeated (tags_down u y)) (sym j) on; parts = g.parts; templates = g.templates })

-- CLONES

-- the nodes that were made are clones of formatting elements, and all others have their parents
pub cloned-parts : (s s' : List ℕ) (l l' : List Entry) (t u : Tree) → WellFormed t → WellFormed u → IsOpen (open_at s l t) → IsOpen (open_at s' l' u) → MadeClones (open_at s l t) u → KeepsParents t u → ArePartsSeated t → ArePartsSeated u
cloned-parts s s' l l' t u w v o o' m k h x p q g = elim (cases_bool (nat_lt x (length t.labels))) [
  | inl b ↦
      let c = lt-of x (length t.labels) b in
      let i : parent_of t x ≡ Some p = sym (k.same x c) ∙ q in
      let a = label-kept (open_at s l t) u m x c in
      ap (is_seat (tag_at u x) p) (label-kept (open_at s l t) u m p (w.parent_in p x i))
      ∙ (ap (λ d. is_seat (tag_in d) p (label_of t p)) a ∙ h x p i (ap (λ d. is_part (tag_in d)) (sym a) ∙ g))
  | inr b ↦
      let c = ge-of x (length t.labels) b in
      let f = clone-tag s s' l l' t u 0 None None None m o o'.stack_in x c (v.child_in p x (v.parent_has_child p x q)) in
      absurd (false≢true (sym (formatting-plain (tag_at u x) f) ∙ g))
]

-- A ROUND OF THE ADOPTION AGENCY

has-one : (x y : ℕ) → has x (y ∷ []) ≡ true → x ≡ y
has-one x y h = elim (cases_eqb x y) [ inl e ↦ e.1 | inr e ↦ absurd (let k : false ≡ true = rw e.0 at h in false≢true k) ]

has-append-either : (x : ℕ) (xs ys : List ℕ) → has x (xs ++ ys) ≡ true → (has x xs ≡ true) ⊎ (has x ys ≡ true)
has-append-either x [] ys h = inr h
has-append-either x (z ∷ xs) ys h = elim (cases_eqb x z) [
  | inl e ↦ inl (rw e.0 refl)
  | inr e ↦ elim (has-append-either x xs ys (rw e.0 at h)) [ inl a ↦ inl (rw e.0 a) | inr a ↦ inr a ]
]

has-put-before : (x c b : ℕ) (ks : List ℕ) → has x (put_before c b ks) ≡ true → (x ≡ c) ⊎ (has x ks ≡ true)
has-put-before x c b [] h = absurd (false≢true h)
has-put-before x c b (k ∷ ks) h = elim (cases_eqb b k) [
  | inl e ↦ (let i : has x (c ∷ k ∷ ks) ≡ true = rw e.0 at h in elim (cases_eqb x c) [ inl f ↦ inl f.1 | inr f ↦ inr (rw f.0 at i) ])
  | inr e ↦ (let i : has x (k ∷ put_before c b ks) ≡ true = rw e.0 at h in elim (cases_eqb x k) [
    | inl f ↦ inr (rw f.0 refl)
    | inr f ↦ elim (has-put-before x c b ks (rw f.0 at i)) [ inl a ↦ inl a | inr a ↦ inr (rw f.0 a) ]
  ])
]

has-without : (x c : ℕ) (ks : List ℕ) → has x (without c ks) ≡ true → has x ks ≡ true
has-without x c [] h = h
has-without x c (k ∷ ks) h = elim (cases_eqb x k) [
  | inl e ↦ rw e.0 refl
  | inr e ↦ elim (cases_eqb c k) [
    | inl f ↦ (let i : has x ks ≡ true = rw f.0 at h in rw e.0 i)
    | inr f ↦ (let i : has x (k ∷ without c ks) ≡ true = rw f.0 at h in let j : has x (without c ks) ≡ true = rw e.0 at i in rw e.0 (has-without x c ks j))
  ]
]

-- who is among the children of q, where c was put at a place
in-put : (t : Tree) (at : Place) (c q x : ℕ) (ks : List ℕ) → has x (with_put t at c q ks) ≡ true → (has x ks ≡ true) ⊎ ((x ≡ c) × (parent_at t at ≡ Some q))
in-put t (Last p) c q x ks h = elim (cases_eqb q p) [
  | inl e ↦ (let i : has x (ks ++ c ∷ []) ≡ true = rw e.0 at h in elim (has-append-either x ks (c ∷ []) i) [ inl a ↦ inl a | inr a ↦ inr (has-one x c a, ap Some (sym e.1)) ])
  | inr e ↦ inl (rw e.0 at h)
]
in-put t (Before b) c q x ks h = by (parent_of t b) refl h
  where
    by : (o : Option ℕ) → parent_of t b ≡ o → has x (cond (is_in q o) (put_before c b ks) ks) ≡ true → (has x ks ≡ true) ⊎ ((x ≡ c) × (parent_of t b ≡ Some q))
    by None e k = inl k
    by (Some p) e k = elim (cases_eqb q p) [
      | inl f ↦ (let i : has x (put_before c b ks) ≡ true = rw f.0 at k in elim (has-put-before x c b ks i) [ inl a ↦ inr (a, e ∙ ap Some (sym f.1)) | inr a ↦ inl a ])
      | inr f ↦ inl (rw f.0 at k)
    ]

both : (a b : Bool) → a && b ≡ true → (a ≡ true) × (b ≡ true)
both true b h = (refl, h)
both false b h = absurd (false≢true h)

-- x may be a child of q
abbrev Fits : Tree → ℕ → ℕ → Type 0
Fits t x q = (template t q ≡ false) × (is_part (tag_at t x) ≡ true → is_seat (tag_at t x) q (label_of t q) ≡ true)

module _ (s : Tag) (foster : Bool) (o p : Open) (i : IsOpen o) (r : Round s foster o p) (w : WellFormed o.tree) (c : CanPlace o.tree o.stack) (h : HasSeats o.tree o.stack) where
  kept : (x : ℕ) → x < (length o.tree.labels) → label_of p.tree x ≡ label_of o.tree x
  kept x b = label-kept o p.tree (round-clones s foster o p i r) x b

  clone-is : (x : ℕ) → (length o.tree.labels) ≤ x → x < length p.tree.labels → is_formatting (tag_at p.tree x) ≡ true
  clone-is x a b = clone-tag o.stack p.stack o.list p.list o.tree p.tree 0 None None None (round-clones s foster o p i r) i r.is_open.stack_in x a b

  clone-plain : (x : ℕ) → (length o.tree.labels) ≤ x → x < length p.tree.labels → is_part (tag_at p.tree x) ≡ false
  clone-plain x a b = formatting-plain (tag_at p.tree x) (clone-is x a b)

  clone-empty : (x : ℕ) → (length o.tree.labels) ≤ x → x < length p.tree.labels → template p.tree x ≡ false
  clone-empty x a b = elim (cases_bool (template p.tree x)) [ inl e ↦ absurd (no-template p.tree x (clone-is x a b) e) | inr e ↦ e ]

  g-old : r.furthest_block < (length o.tree.labels)
  g-old = i.stack_in r.furthest_block (g-in s foster o p i r)

  plain-fits : (x q : ℕ) → template p.tree q ≡ false → is_part (tag_at p.tree x) ≡ false → Fits p.tree x q
  plain-fits x q a b = (a, λ e. absurd (false≢true (sym b ∙ e)))

  -- as it was
  old-fits : (x q : ℕ) → parent_of o.tree x ≡ Some q → Fits p.tree x q
  old-fits x q e =
      let a = kept x (w.child_in q x (w.parent_has_child q x e)) in
      let b = kept q (w.parent_in q x e) in (
        ap (λ d. is_same (tag_in d) tag.Template) b ∙ h.templates x q e,
        λ k. ap (is_seat (tag_at p.tree x) q) b ∙ (ap (λ d. is_seat (tag_in d) q (label_of o.tree q)) a ∙ h.parts x q e (ap (λ d. is_part (tag_in d)) (sym a) ∙ k)),
      )

  g-empty : template p.tree r.furthest_block ≡ false
  g-empty = elim (cases_bool (template p.tree r.furthest_block)) [
    | inl e ↦ absurd (false≢true (sym (g-no-end s foster o p i r) ∙ ap (λ d. ends_default_scope (tag_in d)) (sym (kept r.furthest_block g-old)) ∙ ap ends_default_scope (same-tag (tag_at p.tree r.furthest_block) tag.Template e)))
    | inr e ↦ e
  ]

  -- what g holds is no part
  child-plain : (x : ℕ) → parent_of o.tree x ≡ Some r.furthest_block → is_part (tag_at p.tree x) ≡ false
  child-plain x e = elim (cases_bool (is_part (tag_at p.tree x))) [
    | inl k ↦
        let a = kept x (w.child_in r.furthest_block x (w.parent_has_child r.furthest_block x e)) in
        let part : is_part (tag_at o.tree x) ≡ true = ap (λ d. is_part (tag_in d)) (sym a) ∙ k in
        let carry = sym (seat-element (tag_at o.tree x) r.furthest_block (label_of o.tree r.furthest_block) (i.elements r.furthest_block (g-in s foster o p i r))) ∙ h.parts x r.furthest_block e part in
        let none : carries_part (tag_at o.tree r.furthest_block) ≡ false = ap (λ d. carries_part (tag_in d)) (sym (kept r.furthest_block g-old)) ∙ g-carries s foster o p i r h.open_elements in
        absurd (false≢true (sym (not-part (tag_at o.tree x) (tag_at o.tree r.furthest_block) (carry-sits (tag_at o.tree x) r.furthest_block (tag_at o.tree r.furthest_block) carry) none) ∙ part))
    | inr k ↦ k
  ]

  g-free : is_part (tag_at p.tree r.furthest_block) ≡ false
  g-free = g-plain s foster o p i r h.open_elements

  longer : length p.tree.labels ≡ (length o.tree.labels) + (length r.cloned_elements + 1)
  longer = ap length r.labels_are ∙ length-append o.tree.labels (map (λ x. cloned (label_of o.tree x)) (r.cloned_elements ++ r.formatting_element ∷ [])) ∙ ap (λ v. (length o.tree.labels) + v) (length_map (r.cloned_elements ++ r.formatting_element ∷ []) (λ x. cloned (label_of o.tree x)) ∙ length-append r.cloned_elements (r.formatting_element ∷ []))

  k-last : ((length o.tree.labels) ≤ r.new_element) × (r.new_element < length p.tree.labels)
  k-last = (let a = r.new_element_is in let b = longer in (omega (arith, a), omega (arith, a, b)))

  top-plain : is_part (tag_at p.tree (chain_top r.furthest_block (length o.tree.labels) r.new_element)) ≡ false
  top-plain = elim (cases_eqb (length o.tree.labels) r.new_element) [
    | inl e ↦ rw e.0 g-free
    | inr e ↦ rw e.0 (clone-plain (r.new_element - 1) (let a = k-last.0 in let b = apart (length o.tree.labels) r.new_element e.0 in omega (arith, a, b)) (let a = k-last.1 in omega (arith, a)))
  ]
    where
      apart : (x y : ℕ) → eqb x y ≡ false → (x < y) ⊎ (y < x)
      apart x y e = elim (order x y) [
        | inl a ↦ inl a
        | inr a ↦ elim a [ inl b ↦ absurd (false≢true (sym e ∙ subst (λ v. eqb x v ≡ true) b (eqb-self x))) | inr b ↦ inr b ]
      ]

  -- the chain's top is where adoption puts it
  top-fits : (q : ℕ) → q < length p.tree.labels → parent_at o.tree (place_on o.tree o.stack r.common_ancestor foster) ≡ Some q → Fits p.tree (chain_top r.furthest_block (length o.tree.labels) r.new_element) q
  top-fits q b e = plain-fits (chain_top r.furthest_block (length o.tree.labels) r.new_element) q (elim (cases_bool (nat_lt q (length o.tree.labels))) [
    | inl a ↦ ap (λ d. is_same (tag_in d) tag.Template) (kept q (lt-of q (length o.tree.labels) a)) ∙ at-free o.tree w h.templates o.stack c r.common_ancestor foster q e
    | inr a ↦ clone-empty q (ge-of q (length o.tree.labels) a) b
  ]) top-plain

  chain-fits : (x q : ℕ) → q < length p.tree.labels → has x (chained o.tree r.furthest_block (length o.tree.labels) r.new_element q) ≡ true → Fits p.tree x q
  chain-fits x q b e = elim (cases_bool (nat_le (length o.tree.labels) q && nat_lt q r.new_element)) [
    | inl a ↦
        let z = both (nat_le (length o.tree.labels) q) (nat_lt q r.new_element) a in
        let low = le-of (length o.tree.labels) q z.0 in
        plain-fits x q (clone-empty q low b) (elim (cases_eqb q (length o.tree.labels)) [
          | inl f ↦ (let k : has x (r.furthest_block ∷ []) ≡ true = rw (a, f.0) at e in subst (λ v. is_part (tag_at p.tree v) ≡ false) (sym (has-one x r.furthest_block k)) g-free)
          | inr f ↦
              let k : has x ((q - 1) ∷ []) ≡ true = rw (a, f.0) at e in
              subst (λ v. is_part (tag_at p.tree v) ≡ false) (sym (has-one x (q - 1) k))
              (clone-plain (q - 1) (elim (order (length o.tree.labels) q) [
                | inl l ↦ omega (arith, l)
                | inr l ↦ elim l [ inl m ↦ absurd (false≢true (sym f.0 ∙ subst (λ v. eqb v (length o.tree.labels) ≡ true) m (eqb-self (length o.tree.labels)))) | inr m ↦ absurd (omega (arith, m, low)) ]
              ]) (omega (arith, b)))
        ])
    | inr a ↦ (let k : has x (wrapped_children o.tree r.furthest_block r.new_element q) ≡ true = rw a at e in wrapped-fits x q b k)
  ]
    where
      wrapped-fits : (x q : ℕ) → q < length p.tree.labels → has x (wrapped_children o.tree r.furthest_block r.new_element q) ≡ true → Fits p.tree x q
      wrapped-fits x q b e = elim (cases_eqb q r.furthest_block) [
        | inl f ↦
            let k : has x (r.new_element ∷ []) ≡ true = rw f.0 at e in
            plain-fits x q (subst (λ v. template p.tree v ≡ false) (sym f.1) g-empty)
            (subst (λ v. is_part (tag_at p.tree v) ≡ false) (sym (has-one x r.new_element k)) (clone-plain r.new_element k-last.0 k-last.1))
        | inr f ↦ elim (cases_eqb q r.new_element) [
          | inl g ↦
              let k : has x (children_of o.tree r.furthest_block) ≡ true = rw (f.0, g.0) at e in
              plain-fits x q (subst (λ v. template p.tree v ≡ false) (sym g.1) (clone-empty r.new_element k-last.0 k-last.1)) (child-plain x (w.child_has_parent r.furthest_block x k))
          | inr g ↦ (let k : has x (without r.furthest_block (children_of o.tree q)) ≡ true = rw (f.0, g.0) at e in old-fits x q (w.child_has_parent q x (has-without x r.furthest_block (children_of o.tree q) k)))
        ]
      ]

  fits : (x q : ℕ) → parent_of p.tree x ≡ Some q → Fits p.tree x q
  fits x q e =
      let b = r.well_formed.parent_in q x e in
      let k : has x (with_put o.tree (place_on o.tree o.stack r.common_ancestor foster) (chain_top r.furthest_block (length o.tree.labels) r.new_element) q (chained o.tree r.furthest_block (length o.tree.labels) r.new_element q)) ≡ true = subst (λ v. has x v ≡ true) (r.children_are q) (r.well_formed.parent_has_child q x e) in
      elim (in-put o.tree (place_on o.tree o.stack r.common_ancestor foster) (chain_top r.furthest_block (length o.tree.labels) r.new_element) q x (chained o.tree r.furthest_block (length o.tree.labels) r.new_element q) k) [
        | inl a ↦ chain-fits x q b a
        | inr a ↦ subst (λ v. Fits p.tree v q) (sym a.0) (top-fits q b a.1)
      ]

  round-seats : AreSeated (tags_down p.tree p.stack) → HasSeats p.tree p.stack
  round-seats z = record { open_elements = z; parts = λ x q e. (fits x q e).1; templates = λ x q e. (fits x q e).0 }

-- ROUNDS

-- the first element is an html
abbrev BeginsHtml : Tree → List ℕ → Type 0
BeginsHtml t s = (x : ℕ) → first_of s ≡ Some x → is_same (tag_at t x) tag.Html ≡ true

html-place : (t : Tree) (xs : List ℕ) (a : ℕ) (ys : List ℕ) → BeginsHtml t (xs ++ a ∷ ys) → CanPlace t (xs ++ a ∷ ys)
html-place t [] a ys b = λ e. absurd (no-table (tag_at t a) (b a refl) e)
  where
    no-table : (g : Tag) → is_same g tag.Html ≡ true → is_same g tag.Table ≡ true → ⊥
    no-table g p q = (let k = subst (λ v. is_same v tag.Table ≡ true) (same-tag g tag.Html p) q in cc)
html-place t (x ∷ xs) a ys b = λ e. absurd (no-table (tag_at t x) (b x refl) e)
  where
    no-table : (g : Tag) → is_same g tag.Html ≡ true → is_same g tag.Table ≡ true → ⊥
    no-table g p q = (let k = subst (λ v. is_same v tag.Table ≡ true) (same-tag g tag.Html p) q in cc)

same-first : (xs : List ℕ) (a : ℕ) (ys zs : List ℕ) → first_of (xs ++ a ∷ ys) ≡ first_of (xs ++ a ∷ zs)
same-first [] a ys zs = refl
same-first (x ∷ xs) a ys zs = refl

first-in : (xs : List ℕ) (x : ℕ) → first_of xs ≡ Some x → has x xs ≡ true
first-in [] x i = absurd (none-some i)
first-in (y ∷ xs) x i = (let k : y ≡ x = (let z = i in cc) in subst (λ v. has v (y ∷ xs) ≡ true) k (rw (eqb-self y) refl))

-- what rounds keep
pub record Stands (o : Open) : Type 0 where
  pub is_open : IsOpen o
  pub well_formed : WellFormed o.tree
  pub first : BeginsHtml o.tree o.stack
  pub seats : HasSeats o.tree o.stack

round-stands : (s : Tag) (foster : Bool) (o p : Open) → Round s foster o p → Stands o → AreSeated (tags_down p.tree p.stack) → Stands p
round-stands s foster o p r k z = record {
  is_open = r.is_open;
  well_formed = r.well_formed;
  first = λ x e.
      let f : first_of o.stack ≡ Some x = ap first_of r.stack_was ∙ (same-first r.lower r.common_ancestor _ _ ∙ (sym (ap first_of r.stack_is) ∙ e)) in
      ap (λ d. is_same (tag_in d) tag.Html) (label-kept o p.tree (round-clones s foster o p k.is_open r) x (k.is_open.stack_in x (first-in o.stack x f))) ∙ k.first x f;
  seats = round-seats s foster o p k.is_open r k.well_formed
      (subst (CanPlace o.tree) (sym r.stack_was) (html-place o.tree r.lower r.common_ancestor _ (subst (BeginsHtml o.tree) r.stack_was k.first))) k.seats z;
}

rounds-stand : (s : Tag) (foster : Bool) (n : ℕ) (o p : Open) → Rounds s foster n o p → Stands o → Stands p
rounds-stand s foster n o p (no_round q) k = k
rounds-stand s foster n o p (one_more m a b d rs r) k =
    let j = rounds-stand s foster m a b rs k in
    round-stands s foster b d r j (rounds-seated s foster 1 b d j.is_open (one_more 0 b b d (no_round b) r) j.seats.open_elements)

-- an end of the rounds leaves the tree as it is
tree-same : (o p : Open) → bare p.tree ≡ bare o.tree → WellFormed o.tree → ArePartsSeated o.tree × AreTemplatesEmpty o.tree → ArePartsSeated p.tree × AreTemplatesEmpty p.tree
tree-same o p e w h = (
  parts-same o.tree p.tree o.stack w (λ x b. ap (λ (v : Tree). essence (label_of v x)) e) (λ x q k. sym (ap (λ (v : Tree). parent_of v x) e) ∙ k) h.0,
  templates-kept o.tree p.tree o.stack w (λ x b. ap (λ (v : Tree). essence (label_of v x)) e) (λ x q k. sym (ap (λ (v : Tree). parent_of v x) e) ∙ k) h.1,
)

ends-stand : (s : Tag) (end : AdoptEnd) (o p : Open) → Ends s end o p → WellFormed o.tree → ArePartsSeated o.tree × AreTemplatesEmpty o.tree → ArePartsSeated p.tree × AreTemplatesEmpty p.tree
ends-stand s end o p (closes a b k) w h = tree-same a b k.tree_is w h
ends-stand s end o p (forgets a b k) w h = tree-same a b k.tree_is w h
ends-stand s end o p (out_of_scope a b k) w h = tree-same a b k.unchanged.tree_is w h
ends-stand s end o p (no_entry a b k) w h = tree-same a b k.unchanged.tree_is w h

pair : (o : Open) → Stands o → ArePartsSeated o.tree × AreTemplatesEmpty o.tree
pair o k = (k.seats.parts, k.seats.templates)

adopted-ok : (s : Tag) (foster : Bool) (end : AdoptEnd) (o q : Open) → Stands o → Adopted s foster end o q → ArePartsSeated q.tree × AreTemplatesEmpty q.tree
adopted-ok s foster end o q k (popped a b j) = tree-same a b j.tree_is k.well_formed (pair a k)
adopted-ok s foster end o q k (eight a b e rs) = pair b (rounds-stand s foster 8 a b rs k)
adopted-ok s foster end o q k (fewer d n a b c e few rs en) = (let j = rounds-stand s foster n a b rs k in ends-stand s d b c en j.well_formed (pair b j))

adopted-err : (s : Tag) (foster : Bool) (e : ArenaError) (o q : Open) → Stands o → IsRefusal s foster o q e → ArePartsSeated q.tree × AreTemplatesEmpty q.tree
adopted-err s foster e o q k j =
    let b = rounds-stand s foster j.n o j.p j.rounds k in
    let labels : (x : ℕ) → x < length j.p.tree.labels → essence (label_of q.tree x) ≡ essence (label_of j.p.tree x) =
    λ x l. ap essence (ap (λ ds. label_in ds x) j.stopped.cut.labels_are ∙ get-before j.p.tree.labels (map (λ y. cloned (label_of j.p.tree y)) j.stopped.cut.done) x node.Document l) in
    let parents : (x z : ℕ) → parent_of q.tree x ≡ Some z → parent_of j.p.tree x ≡ Some z = λ x z i. sym (j.stopped.cut.same_parents x) ∙ i in (
      parts-same j.p.tree q.tree j.p.stack b.well_formed labels parents b.seats.parts,
      templates-kept j.p.tree q.tree j.p.stack b.well_formed labels parents b.seats.templates,
    )

-- the end tag of a formatting name keeps what stands
pub adopted-seats : (s : Tag) (foster : Bool) (r : Result AdoptEnd ArenaError) (o q : Open) → Stands o → IfOk r (λ end. Adopted s foster end o q) → IfErr r (λ e. IsRefusal s foster o q e) → AreSeated (tags_down q.tree q.stack)
    → HasSeats q.tree q.stack
adopted-seats s foster (Ok end) o q k a b z = (let j = adopted-ok s foster end o q k a in record { open_elements = z; parts = j.0; templates = j.1 })
adopted-seats s foster (Err e) o q k a b z = (let j = adopted-err s foster e o q k b in record { open_elements = z; parts = j.0; templates = j.1 })
