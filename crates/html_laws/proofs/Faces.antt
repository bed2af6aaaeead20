-- Nodes by name, by tag and as clones: how these grow.
use Rattle.std.proofs.Common.{◌≡◌, ◌<◌, ℕ, zero, suc, ◌+◌, Bool, true, false, not, cond, ◌&&◌, List, [], ◌∷◌, ◌++◌, get_or, length, map, Option, Some, None, refl, sym, ◌∙◌, ap, subst, length-append, append-nil, append_assoc, arith}
use Rattle.std.specs.Prelude.{slice_set}
use Rattle.std.specs.List.{count_by, list_all, sum_by}
use Rattle.std.proofs.Math.ListN.{get_or-append}
use Rattle.std.proofs.Math.Seq.{get_or-append_seam, map-set_same}
use Rattle.std.proofs.lemmas.List.{get_or-append-add, map-append}
use Rattle.std.proofs.lemmas.List.Sums.{sum_by-append, sum_by-cons}
use Rattle.html_names.specs.declared.tag.Tag.{Tag}
use Rattle.html_names.specs.declared.tag.Tag.TheVariants as tag
use Rattle.html_names.specs.Names.{tag_of}
use Rattle.html_names.specs.Sets.{is_template}
use Rattle.html_names.specs.Tags.{is_same, number}
use Rattle.html_arena.specs.declared.data.NewNode.{NewNode}
use Rattle.html_arena.specs.declared.data.NewNode.TheVariants as new
use Rattle.html_arena.specs.declared.data.NodeData.{NodeData}
use Rattle.html_arena.specs.declared.data.NodeData.TheVariants as node
use Rattle.html_arena.specs.declared.data.Origin.{Origin}
use Rattle.html_arena.specs.Data.{attrs_in, cloned, is_clone_in, label_in, name_in, tag_in, with_attrs, with_run}
use Rattle.html_arena.specs.Make.{has_contents, label_for, made}
use Rattle.html_arena.specs.Merge.{merged}
use Rattle.html_arena.specs.Siblings.{has}
use Rattle.html_arena.specs.Tree.{Tree as Nodes, detached, label_of, tag_at, texted_run, with_merged}
use Rattle.html_arena.proofs.Labels.{tag_of-nil}
use Rattle.html_tokens.specs.declared.attributes.Attr.{Attr}
use Rattle.html_open.proofs.Keeps.{eqb-self}
use Rattle.html_open.specs.declared.places.Place.{Place}
use Rattle.html_tree.specs.Inserting.{rest_of, with_new}
use Rattle.html_tree.specs.OpenTags.{tags_down}
use Rattle.html_tree.specs.Texts.{tree_or_new}
use Rattle.html_tree.proofs.Inserted.{made-labels, put-labels}
use Rattle.html_tree.proofs.OpenTags.{same-tags}
use Rattle.html_laws.proofs.Chains.{both, join}

-- the name, the tag, and whether it is a clone
pub record Face : Type 0 where
  pub name : List ℕ
  pub tag : Tag
  pub is_clone : Bool

abbrev pub face : NodeData → Face
face d = record { name = name_in d; tag = tag_in d; is_clone = is_clone_in d }

abbrev pub faces : Nodes → List Face
faces t = map face t.labels

abbrev pub blank : Face
blank = record { name = []; tag = tag.Other; is_clone = false }

abbrev pub element_face : List ℕ → Face
element_face name = record { name = name; tag = tag_of name; is_clone = false }

-- the tag is that of the name
abbrev pub is_tagged : Face → Bool
is_tagged f = is_same f.tag (tag_of f.name)

-- what one counts, of elements that are no clones
abbrev pub weighs : Tag → Face → ℕ
weighs g f = cond (not f.is_clone && is_same f.tag g) 1 0

abbrev pub tally : Tag → List Face → ℕ
tally g fs = sum_by (weighs g) fs

pub tally-append : (g : Tag) (us vs : List Face) → tally g (us ++ vs) ≡ tally g us + tally g vs
tally-append g us vs = sum_by-append (weighs g) us vs

pub tally-labels : (g : Tag) (ls : List NodeData) → count_by (λ d. not (is_clone_in d) && is_same (tag_in d) g) ls ≡ tally g (map face ls)
tally-labels g [] = refl
tally-labels g (d ∷ ls) =
    let p = sum_by-cons (λ (v : NodeData). cond (not (is_clone_in v) && is_same (tag_in v) g) 1 0) d ls in
    let q = sum_by-cons (weighs g) (face d) (map face ls) in
    let r = tally-labels g ls in
    p ∙ ap (λ n. cond (not (is_clone_in d) && is_same (tag_in d) g) 1 0 + n) r ∙ sym q

-- WHAT GROWS

pub record Adds (t u : Nodes) (fs : List Face) : Type 0 where
  pub are : faces u ≡ faces t ++ fs

pub adds-none : (t u : Nodes) → u.labels ≡ t.labels → Adds t u []
adds-none t u e = record { are = ap (map face) e ∙ sym (append-nil (faces t)) }

pub adds-then : (t u v : Nodes) (fs gs : List Face) → Adds t u fs → Adds u v gs → Adds t v (fs ++ gs)
adds-then t u v fs gs a b = record { are = b.are ∙ ap (λ w. w ++ gs) a.are ∙ append_assoc (faces t) fs gs }

face-at : (ls : List NodeData) (x : ℕ) → face (label_in ls x) ≡ get_or (map face ls) x blank
face-at [] zero = refl
face-at [] (suc x) = refl
face-at (l ∷ ls) zero = refl
face-at (l ∷ ls) (suc x) = face-at ls x

long-faces : (ls : List NodeData) → length (map face ls) ≡ length ls
long-faces [] = refl
long-faces (l ∷ ls) = ap suc (long-faces ls)

pub kept-face : (t u : Nodes) (fs : List Face) (x : ℕ) → Adds t u fs → x < length t.labels → face (label_of u x) ≡ face (label_of t x)
kept-face t u fs x a l =
    face-at u.labels x
    ∙ ap (λ v. get_or v x blank) a.are
    ∙ get_or-append (faces t) fs blank x (subst (λ n. x < n) (sym (long-faces t.labels)) l)
    ∙ sym (face-at t.labels x)

pub kept-tag : (t u : Nodes) (fs : List Face) (x : ℕ) → Adds t u fs → x < length t.labels → tag_at u x ≡ tag_at t x
kept-tag t u fs x a l = ap (λ (f : Face). f.tag) (kept-face t u fs x a l)

pub new-face : (t u : Nodes) (f : Face) (fs : List Face) → Adds t u (f ∷ fs) → face (label_of u (length t.labels)) ≡ f
new-face t u f fs a =
    face-at u.labels (length t.labels)
    ∙ ap (λ v. get_or v (length t.labels) blank) a.are
    ∙ ap (λ n. get_or (faces t ++ f ∷ fs) n blank) (sym (long-faces t.labels))
    ∙ get_or-append_seam (faces t) f fs blank

pub later-face : (t u : Nodes) (fs : List Face) (k : ℕ) → Adds t u fs → face (label_of u (length t.labels + k)) ≡ get_or fs k blank
later-face t u fs k a =
    face-at u.labels (length t.labels + k)
    ∙ ap (λ v. get_or v (length t.labels + k) blank) a.are
    ∙ ap (λ n. get_or (faces t ++ fs) (n + k) blank) (sym (long-faces t.labels))
    ∙ get_or-append-add (faces t) fs k blank

pub longer : (t u : Nodes) (fs : List Face) → Adds t u fs → length u.labels ≡ length t.labels + length fs
longer t u fs a = sym (long-faces u.labels) ∙ ap length a.are ∙ length-append (faces t) fs ∙ ap (λ n. n + length fs) (long-faces t.labels)

pub kept-tags : (t u : Nodes) (fs : List Face) (s : List ℕ) → Adds t u fs → ((x : ℕ) → has x s ≡ true → x < length t.labels) → tags_down u s ≡ tags_down t s
kept-tags t u fs s a i = same-tags t u s (λ x h. kept-tag t u fs x a (i x h))

pub tallied : (g : Tag) (t u : Nodes) (fs : List Face) → Adds t u fs → tally g (faces u) ≡ tally g (faces t) + tally g fs
tallied g t u fs a = ap (tally g) a.are ∙ tally-append g (faces t) fs

-- NEW NODES

abbrev pub rest_faces : Bool → List Face
rest_faces b = cond b (blank ∷ []) []

rest-map : (n : ℕ) (b : Bool) → map face (rest_of n b) ≡ rest_faces b
rest-map n true = refl
rest-map n false = refl

new-adds : (t : Nodes) (at : Place) (d : NewNode) → Adds t (with_new t at d) (face (label_for t d) ∷ rest_faces (has_contents d))
new-adds t at d = record {
  are = ap (map face) (put-labels (made t d) at (length t.labels) ∙ made-labels t d)
      ∙ map-append face t.labels (label_for t d ∷ rest_of (length t.labels) (has_contents d))
      ∙ ap (λ v. faces t ++ face (label_for t d) ∷ v) (rest-map (length t.labels) (has_contents d));
}

element-label : (t : Nodes) (name : List ℕ) (attrs : List Attr) (o : Origin) → face (label_for t (new.Element name attrs o)) ≡ element_face name
element-label t name attrs o = by (is_template (tag_of name)) refl
  where
    by : (b : Bool) → is_template (tag_of name) ≡ b → face (label_for t (new.Element name attrs o)) ≡ element_face name
    by true h = rw h refl
    by false h = rw h refl

pub element-adds : (t : Nodes) (at : Place) (name : List ℕ) (attrs : List Attr) (o : Origin) → Adds t (with_new t at (new.Element name attrs o)) (element_face name ∷ rest_faces (is_template (tag_of name)))
element-adds t at name attrs o = record {
  are = (new-adds t at (new.Element name attrs o)).are ∙ ap (λ f. faces t ++ f ∷ rest_faces (is_template (tag_of name))) (element-label t name attrs o);
}

-- the same of one that stands nowhere
pub made-adds : (t : Nodes) (name : List ℕ) (attrs : List Attr) (o : Origin) → Adds t (made t (new.Element name attrs o)) (element_face name ∷ rest_faces (is_template (tag_of name)))
made-adds t name attrs o = record {
  are = ap (map face) (made-labels t (new.Element name attrs o))
      ∙ map-append face t.labels (label_for t (new.Element name attrs o) ∷ rest_of (length t.labels) (is_template (tag_of name)))
      ∙ ap (λ v. faces t ++ face (label_for t (new.Element name attrs o)) ∷ v) (rest-map (length t.labels) (is_template (tag_of name)))
      ∙ ap (λ f. faces t ++ f ∷ rest_faces (is_template (tag_of name))) (element-label t name attrs o);
}

pub comment-adds : (t : Nodes) (at : Place) (s : List ℕ) (i : ℕ) → Adds t (with_new t at (new.Comment s i)) (blank ∷ [])
comment-adds t at s i = new-adds t at (new.Comment s i)

pub doctype-adds : (t : Nodes) (at : Place) (n p s : Option (List ℕ)) (i : ℕ) → Adds t (with_new t at (new.Doctype n p s i)) (blank ∷ [])
doctype-adds t at n p s i = new-adds t at (new.Doctype n p s i)

run-face : (d : NodeData) (run : List ℕ) → face (with_run d run) ≡ face d
run-face node.Document run = refl
run-face (node.Contents h) run = refl
run-face (node.Element e) run = refl
run-face (node.Text s) run = refl
run-face (node.Comment s i) run = refl
run-face (node.Doctype n p s i) run = refl

attrs-face : (d : NodeData) (attrs : List Attr) → face (with_attrs d attrs) ≡ face d
attrs-face node.Document attrs = refl
attrs-face (node.Contents h) attrs = refl
attrs-face (node.Element e) attrs = refl
attrs-face (node.Text s) attrs = refl
attrs-face (node.Comment s i) attrs = refl
attrs-face (node.Doctype n p s i) attrs = refl

abbrev pub text_faces : Option ℕ → List Face
text_faces None = blank ∷ []
text_faces (Some x) = []

set-faces : (ls : List NodeData) (x : ℕ) (d : NodeData) → face d ≡ face (label_in ls x) → map face (slice_set ls x d) ≡ map face ls
set-faces ls x d e = map-set_same face ls x d node.Document e

pub text-adds : (t : Nodes) (at : Place) (o : Option ℕ) (x : ℕ) (run : List ℕ) → Adds t (texted_run (tree_or_new t at o) x run) (text_faces o)
text-adds t at None x run = record { are = set-faces (with_new t at new.Text).labels x (with_run (label_of (with_new t at new.Text) x) run) (run-face (label_of (with_new t at new.Text) x) run) ∙ (new-adds t at new.Text).are }
text-adds t at (Some y) x run = record { are = set-faces t.labels x (with_run (label_of t x) run) (run-face (label_of t x) run) ∙ sym (append-nil (faces t)) }

pub merged-adds : (t : Nodes) (x : ℕ) (attrs : List Attr) → Adds t (with_merged t x attrs) []
merged-adds t x attrs = record { are = set-faces t.labels x (with_attrs (label_of t x) (merged (attrs_in (label_of t x)) attrs)) (attrs-face (label_of t x) (merged (attrs_in (label_of t x)) attrs)) ∙ sym (append-nil (faces t)) }

pub detached-adds : (t : Nodes) (c : ℕ) (o : Option ℕ) → Adds t (detached t c o) []
detached-adds t c None = adds-none t (detached t c None) refl
detached-adds t c (Some p) = adds-none t (detached t c (Some p)) refl

-- CLONES

-- a clone has the name and the tag of its original, and counts nothing
pub clone-tag : (d : NodeData) → tag_in (cloned d) ≡ tag_in d
clone-tag node.Document = refl
clone-tag (node.Contents h) = refl
clone-tag (node.Element e) = refl
clone-tag (node.Text s) = refl
clone-tag (node.Comment s i) = refl
clone-tag (node.Doctype n p s i) = refl

clone-name : (d : NodeData) → name_in (cloned d) ≡ name_in d
clone-name node.Document = refl
clone-name (node.Contents h) = refl
clone-name (node.Element e) = refl
clone-name (node.Text s) = refl
clone-name (node.Comment s i) = refl
clone-name (node.Doctype n p s i) = refl

abbrev pub clone_faces : Nodes → List ℕ → List Face
clone_faces t xs = map (λ x. face (cloned (label_of t x))) xs

pub clones-adds : (t u : Nodes) (xs : List ℕ) → u.labels ≡ t.labels ++ map (λ x. cloned (label_of t x)) xs → Adds t u (clone_faces t xs)
clones-adds t u xs e = record { are = ap (map face) e ∙ map-append face t.labels (map (λ x. cloned (label_of t x)) xs) ∙ ap (λ v. faces t ++ v) (each xs) }
  where
    each : (xs : List ℕ) → map face (map (λ x. cloned (label_of t x)) xs) ≡ clone_faces t xs
    each [] = refl
    each (x ∷ xs) = ap (λ v. face (cloned (label_of t x)) ∷ v) (each xs)

all-at : (q : Face → Bool) (fs : List Face) (x : ℕ) → list_all q fs ≡ true → q blank ≡ true → q (get_or fs x blank) ≡ true
all-at q [] zero h b = b
all-at q [] (suc x) h b = b
all-at q (f ∷ fs) zero h b = (both (q f) (list_all q fs) h).0
all-at q (f ∷ fs) (suc x) h b = all-at q fs x ((both (q f) (list_all q fs) h).1) b

blank-tagged : is_tagged blank ≡ true
blank-tagged = rw (← tag_of-nil) refl

pub tagged-at : (t : Nodes) (x : ℕ) → list_all is_tagged (faces t) ≡ true → is_same (tag_at t x) (tag_of (name_in (label_of t x))) ≡ true
tagged-at t x h = subst (λ (f : Face). is_tagged f ≡ true) (sym (face-at t.labels x)) (all-at is_tagged (faces t) x h blank-tagged)

pub clone-tagged : (t : Nodes) (xs : List ℕ) → list_all is_tagged (faces t) ≡ true → list_all is_tagged (clone_faces t xs) ≡ true
clone-tagged t [] h = refl
clone-tagged t (x ∷ xs) h =
    join (is_tagged (face (cloned (label_of t x)))) (list_all is_tagged (clone_faces t xs))
    (rw (clone-tag (label_of t x), clone-name (label_of t x)) (tagged-at t x h))
    (clone-tagged t xs h)

cloned-weighs : (d : NodeData) → weighs tag.Body (face (cloned d)) ≡ 0
cloned-weighs node.Document = refl
cloned-weighs (node.Contents h) = refl
cloned-weighs (node.Element e) = refl
cloned-weighs (node.Text s) = refl
cloned-weighs (node.Comment s i) = refl
cloned-weighs (node.Doctype n p s i) = refl

pub clone-none : (t : Nodes) (xs : List ℕ) → tally tag.Body (clone_faces t xs) ≡ 0
clone-none t [] = refl
clone-none t (x ∷ xs) =
    let p = sum_by-cons (weighs tag.Body) (face (cloned (label_of t x))) (clone_faces t xs) in
    let q = cloned-weighs (label_of t x) in
    let r = clone-none t xs in
    omega (arith, p, q, r)

pub blank-good : list_all is_tagged (blank ∷ []) ≡ true
blank-good = join (is_tagged blank) true blank-tagged refl

pub element-tagged : (name : List ℕ) → is_tagged (element_face name) ≡ true
element-tagged name = eqb-self (number (tag_of name))
