-- What is made of a tree of nodes does not hang on marks and counts.
use Rattle.std.proofs.Common.{◌≡◌, ℕ, ◌+◌, ◌≤◌, Bool, true, false, cond, List, [], ◌∷◌, ◌++◌, length, Option, Some, None, refl, sym, ◌∙◌, ap, length-append, length-set, arith}
use Rattle.html_tokens.specs.declared.attributes.Attr.{Attr}
use Rattle.html_arena.specs.declared.data.NewNode.{NewNode}
use Rattle.html_arena.specs.declared.data.NewNode.TheVariants.{CloneOf, Text}
use Rattle.html_arena.specs.declared.data.NodeData.TheVariants.{Contents}
use Rattle.html_arena.specs.Data.{attrs_in, with_attrs, with_run}
use Rattle.html_arena.specs.Make.{has_contents, label_for, made, made_weight}
use Rattle.html_arena.specs.Merge.{merged}
use Rattle.html_arena.specs.Siblings.{before}
use Rattle.html_arena.specs.Tree.{Tree as Nodes, added, added_template, detached, inserted, label_of, parent_of, sibling, texted_run, with_merged}
use Rattle.html_open.specs.declared.places.Place.{Place}
use Rattle.html_open.specs.declared.places.Place.TheVariants.{Before, Last}
use Rattle.html_open.specs.Placing.{place_of, put}
use Rattle.html_open.specs.Reopening.{with_clone, with_clones}
use Rattle.html_tree.specs.Inserting.{with_new}
use Rattle.html_tree.specs.Texts.{before_place, if_text, text_before, tree_or_new}
use Rattle.html_laws.specs.Likeness.{uncounted}

abbrev made_by : Bool → Nodes → NewNode → Nodes
made_by b t n = cond b (added_template t (label_for t n) (made_weight t n)) (added t (label_for t n) (made_weight t n))

-- what it is made of a node
label-core : (t : Nodes) (n : NewNode) → label_for (uncounted t) n ≡ label_for t n
label-core t n = refl

made-by-core : (b : Bool) (t : Nodes) (n : NewNode) → uncounted (made_by b (uncounted t) n) ≡ uncounted (made_by b t n)
made-by-core true t n = refl
made-by-core false t n = refl

pub made-core : (t : Nodes) (n : NewNode) → uncounted (made (uncounted t) n) ≡ uncounted (made t n)
made-core t n = made-by-core (has_contents n) t n

inserted-core : (t : Nodes) (c b : ℕ) (o : Option ℕ) → uncounted (inserted (uncounted t) c b o) ≡ uncounted (inserted t c b o)
inserted-core t c b None = refl
inserted-core t c b (Some p) = refl

pub put-core : (t : Nodes) (at : Place) (c : ℕ) → uncounted (put (uncounted t) at c) ≡ uncounted (put t at c)
put-core t (Last p) c = refl
put-core t (Before b) c = inserted-core t c b _

pub detached-core : (t : Nodes) (c : ℕ) (o : Option ℕ) → uncounted (detached (uncounted t) c o) ≡ uncounted (detached t c o)
detached-core t c None = refl
detached-core t c (Some p) = refl

-- a new node at a place
placed-core : (t u : Nodes) (at : Place) (c : ℕ) → uncounted t ≡ uncounted u → uncounted (put t at c) ≡ uncounted (put u at c)
placed-core t u at c e = sym (put-core t at c) ∙ ap (λ v. uncounted (put v at c)) e ∙ put-core u at c

pub new-core : (t : Nodes) (at : Place) (n : NewNode) → uncounted (with_new (uncounted t) at n) ≡ uncounted (with_new t at n)
new-core t at n = placed-core (made (uncounted t) n) (made t n) at (length t.labels) (made-core t n)

-- a clone at the place for the current node, and clones one after another
clone-core : (t : Nodes) (s : List ℕ) (foster : Bool) (x : ℕ) → uncounted (with_clone (uncounted t) s foster x) ≡ uncounted (with_clone t s foster x)
clone-core t s foster x = placed-core (made (uncounted t) (CloneOf x)) (made t (CloneOf x)) (place_of t s None foster) (length t.labels) (made-core t (CloneOf x))

pub clones-core : (xs : List ℕ) (t : Nodes) (s : List ℕ) (foster : Bool) → uncounted (with_clones (uncounted t) s foster xs) ≡ uncounted (with_clones t s foster xs)
clones-core [] t s foster = refl
clones-core (x ∷ xs) t s foster =
    let s' = s ++ length t.labels ∷ [] in
    sym (clones-core xs (with_clone (uncounted t) s foster x) s' foster)
    ∙ ap (λ v. uncounted (with_clones v s' foster xs)) (clone-core t s foster x)
    ∙ clones-core xs (with_clone t s foster x) s' foster

pub clones-one : (t u : Nodes) (s : List ℕ) (foster : Bool) (xs : List ℕ) → uncounted t ≡ uncounted u → uncounted (with_clones t s foster xs) ≡ uncounted (with_clones u s foster xs)
clones-one t u s foster xs e = sym (clones-core xs t s foster) ∙ ap (λ v. uncounted (with_clones v s foster xs)) e ∙ clones-core xs u s foster

-- the text just before a place
sibling-core : (t : Nodes) (o : Option ℕ) (b : ℕ) → sibling before o (uncounted t) b ≡ sibling before o t b
sibling-core t None b = refl
sibling-core t (Some p) b = refl

before-core : (t : Nodes) (at : Place) → before_place (uncounted t) at ≡ before_place t at
before-core t (Last p) = refl
before-core t (Before b) = sibling-core t (parent_of t b) b

pub text-before-core : (t : Nodes) (at : Place) → text_before (uncounted t) at ≡ text_before t at
text-before-core t at = ap (if_text t) (before-core t at)

-- the tree with a text at a place, and with code points added to it
pub text-core : (t : Nodes) (at : Place) (o : Option ℕ) (x : ℕ) (run : List ℕ) → uncounted (texted_run (tree_or_new (uncounted t) at o) x run) ≡ uncounted (texted_run (tree_or_new t at o) x run)
text-core t at None x run = ap (λ v. uncounted (texted_run v x run)) (new-core t at Text)
text-core t at (Some y) x run = refl

-- HOW MANY NODES THERE ARE

put-labels : (t : Nodes) (at : Place) (c : ℕ) → (put t at c).labels ≡ t.labels
put-labels t (Last p) c = refl
put-labels t (Before b) c = by _
  where
    by : (o : Option ℕ) → (inserted t c b o).labels ≡ t.labels
    by None = refl
    by (Some p) = refl

made-by-longer : (b : Bool) (t : Nodes) (n : NewNode) → length t.labels + 1 ≤ length (made_by b t n).labels
made-by-longer true t n = (let e = length-append t.labels (label_for t n ∷ Contents (length t.labels) ∷ []) in omega (arith, e))
made-by-longer false t n = (let e = length-append t.labels (label_for t n ∷ []) in omega (arith, e))

pub made-longer : (t : Nodes) (n : NewNode) → length t.labels + 1 ≤ length (made t n).labels
made-longer t n = made-by-longer (has_contents n) t n

pub new-longer : (t : Nodes) (at : Place) (n : NewNode) → length t.labels + 1 ≤ length (with_new t at n).labels
new-longer t at n = (let e = ap length (put-labels (made t n) at (length t.labels)) in let l = made-longer t n in omega (arith, e, l))

clone-longer : (t : Nodes) (s : List ℕ) (foster : Bool) (x : ℕ) → length (with_clone t s foster x).labels ≡ length t.labels + 1
clone-longer t s foster x = ap length (put-labels (made t (CloneOf x)) (place_of t s None foster) (length t.labels)) ∙ length-append t.labels (label_for t (CloneOf x) ∷ [])

pub clones-longer : (xs : List ℕ) (t : Nodes) (s : List ℕ) (foster : Bool) → length (with_clones t s foster xs).labels ≡ length t.labels + length xs
clones-longer [] t s foster = omega arith
clones-longer (x ∷ xs) t s foster =
    let l = clone-longer t s foster x in
    let k = clones-longer xs (with_clone t s foster x) (s ++ length t.labels ∷ []) foster in
    omega (arith, l, k)

pub text-longer : (t : Nodes) (at : Place) (o : Option ℕ) (x : ℕ) (run : List ℕ) → length t.labels ≤ length (texted_run (tree_or_new t at o) x run).labels
text-longer t at None x run =
    let e = length-set (with_new t at Text).labels x (with_run (label_of (with_new t at Text) x) run) in
    let l = new-longer t at Text in
    omega (arith, e, l)
text-longer t at (Some y) x run = (let e = length-set t.labels x (with_run (label_of t x) run) in omega (arith, e))

pub merged-long : (t : Nodes) (x : ℕ) (attrs : List Attr) → length (with_merged t x attrs).labels ≡ length t.labels
merged-long t x attrs = length-set t.labels x (with_attrs (label_of t x) (merged (attrs_in (label_of t x)) attrs))

pub detached-long : (t : Nodes) (c : ℕ) (o : Option ℕ) → length (detached t c o).labels ≡ length t.labels
detached-long t c None = refl
detached-long t c (Some p) = refl
