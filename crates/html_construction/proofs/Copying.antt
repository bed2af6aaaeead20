-- What calls do to clones, and to the elements that no token asked for.
use Rattle.std.proofs.Common.{ℕ, zero, suc, ◌+◌, ◌≡◌, ◌<◌, ◌≤◌, ◌⊎◌, ◌&&◌, Bool, true, false, cond, List, [], ◌∷◌, ◌++◌, length, length-append, Option, Some, None, inl, inr, refl, replicate, sym, take, ap, subst, ◌∙◌, arith}
use Rattle.std.specs.Prelude.{slice_set}
use Rattle.std.specs.List.{sum_by}
use Rattle.std.proofs.Math.Nat.{le-max_left, le-max_right, max-le}
use Rattle.std.proofs.lemmas.List.{length-replicate, length-take-le}
use Rattle.std.proofs.lemmas.List.Sums.{sum_by-append, sum_by-cons}
use Rattle.html_names.specs.declared.tag.Tag.{Tag}
use Rattle.html_names.specs.declared.tag.Tag.TheVariants as tag
use Rattle.html_names.specs.Names.{name_of, tag_of}
use Rattle.html_names.specs.Sets.{is_template}
use Rattle.html_arena.specs.declared.data.NewNode.{NewNode}
use Rattle.html_arena.specs.declared.data.NewNode.TheVariants as new
use Rattle.html_arena.specs.declared.data.NodeData.{NodeData}
use Rattle.html_arena.specs.declared.data.NodeData.TheVariants as node
use Rattle.html_arena.specs.declared.data.Origin.{Origin}
use Rattle.html_arena.specs.declared.data.Origin.TheVariants.{Implied, Nothing, Token}
use Rattle.html_arena.specs.Data.{attrs_in, is_clone_in, label_in, origin_in, with_attrs, with_run}
use Rattle.html_arena.specs.Make.{has_contents, label_for}
use Rattle.html_arena.specs.Merge.{merged}
use Rattle.html_arena.specs.declared.arena.Limits.{Limits}
use Rattle.html_arena.specs.Tree.{Tree as Nodes, empty_tree, label_of, texted_run, with_merged}
use Rattle.html_tokens.specs.declared.attributes.Attr.{Attr}
use Rattle.html_open.specs.declared.places.Place.{Place}
use Rattle.html_open.specs.Marking.{bare}
use Rattle.html_open.proofs.Keeps.{cases_eqb}
use Rattle.html_tree.specs.Inserting.{rest_of, with_new}
use Rattle.html_tree.specs.Since.{Grown as TreeGrown}
use Rattle.html_tree.specs.States.{State as Tree, document_state, fragment_state}
use Rattle.html_tree.proofs.Inserted.{made-labels}
use Rattle.html_tree.specs.Texts.{place_here, text_before, text_node, tree_or_new, with_text}
use Rattle.html_ledger.specs.declared.fate.Fate.{Fate}
use Rattle.html_ledger.specs.declared.symbol.Symbol.{Symbol}
use Rattle.html_ledger.specs.Entries.{Entries, given_run}
use Rattle.html_construction.specs.Calls.{HasFate, implied_of}
use Rattle.html_construction.specs.Copies.{clone_count, clones_of, greatest, implied_in, implied_count, is_kin, is_token, most_clones, unasked}
use Rattle.html_construction.specs.States.{State}
use Rattle.html_construction.proofs.Accounting.{new-labels}
use Rattle.html_construction.proofs.Kept.{run-given}

-- SUMS

-- another member that counts the same
pub sum-set : (f : NodeData → ℕ) (ls : List NodeData) (x : ℕ) (d : NodeData) → f d ≡ f (label_in ls x) → sum_by f (slice_set ls x d) ≡ sum_by f ls
sum-set f [] x d e = refl
sum-set f (l ∷ ls) zero d e = let p = sum_by-cons f d ls in let q = sum_by-cons f l ls in omega (arith, p, q, e)
sum-set f (l ∷ ls) (suc x) d e = let h = sum-set f ls x d e in let p = sum_by-cons f l (slice_set ls x d) in let q = sum_by-cons f l ls in omega (arith, p, q, h)

pub sum-none : {X : Type 0} (f : X → ℕ) (xs : List X) → ((x : X) → f x ≡ 0) → sum_by f xs ≡ 0
sum-none f [] h = refl
sum-none f (x ∷ xs) h = let p = sum_by-cons f x xs in let a = h x in let b = sum-none f xs h in omega (arith, p, a, b)

-- THE MOST CLONES

-- what a clone counts
pub count-of : (i : ℕ) (o : Origin) (b : Bool) → (◌≡◌ {A = ℕ} (cond (b && is_token i o) 1 0) 0) ⊎ (o ≡ Token i)
count-of i o false = inl refl
count-of i (Token j) true = elim (cases_eqb i j) [ inl q ↦ inr (ap Token (sym q.1)) | inr q ↦ inl (rw q.0 refl) ]
count-of i Implied true = inl refl
count-of i Nothing true = inl refl

count-none : (o : Origin) (b : Bool) → ((j : ℕ) → o ≡ Token j → ⊥) → (p : Origin) → ◌≡◌ {A = ℕ} (cond (b && is_kin o p) 1 0) 0
count-none o false h p = refl
count-none (Token j) true h p = absurd (h j refl)
count-none Implied true h p = refl
count-none Nothing true h p = refl

-- where there are clones, there is a node that comes from the token
some-clone : (i : ℕ) (ls : List NodeData) → (clones_of (Token i) ls ≡ 0) ⊎ ((x : ℕ) × ((x < length ls) × (origin_in (label_in ls x) ≡ Token i)))
some-clone i [] = inl refl
some-clone i (d ∷ ds) = elim (count-of i (origin_in d) (is_clone_in d)) [
  | inl a ↦ elim (some-clone i ds) [
    | inl b ↦ inl (let p = sum_by-cons (clone_count (Token i)) d ds in omega (arith, p, a, b))
    | inr b ↦ inr (suc b.0, ((let k = b.1.0 in omega (arith, k)), b.1.1))
  ]
  | inr a ↦ inr (0, (omega arith, a))
]

greatest-at : (f : NodeData → ℕ) (ls : List NodeData) (x : ℕ) → x < length ls → f (label_in ls x) ≤ greatest f ls
greatest-at f [] x h = absurd (omega (arith, h))
greatest-at f (d ∷ ds) zero h = le-max_left (f d) (greatest f ds)
greatest-at f (d ∷ ds) (suc x) h =
    let a = greatest-at f ds x (omega (arith, h)) in
    let b = le-max_right (f d) (greatest f ds) in
    omega (arith, a, b)

greatest-within : (f : NodeData → ℕ) (k : ℕ) (ls : List NodeData) → ((d : NodeData) → f d ≤ k) → greatest f ls ≤ k
greatest-within f k [] h = omega arith
greatest-within f k (d ∷ ds) h = max-le (h d) (greatest-within f k ds h)

-- no element has more clones
pub clones-most : (i : ℕ) (ls : List NodeData) → clones_of (Token i) ls ≤ most_clones ls
unfolding most_clones
clones-most i ls = elim (some-clone i ls) [
  | inl a ↦ omega (arith, a)
  | inr a ↦ subst (λ (o : Origin). clones_of o ls ≤ greatest (λ d. clones_of (origin_in d) ls) ls) a.1.1 (greatest-at (λ d. clones_of (origin_in d) ls) ls a.0 a.1.0)
]

of-origin : (k : ℕ) (ls : List NodeData) → ((i : ℕ) → clones_of (Token i) ls ≤ k) → (o : Origin) → clones_of o ls ≤ k
of-origin k ls h (Token i) = h i
of-origin k ls h Implied = let a = sum-none (clone_count Implied) ls (λ d. count-none Implied (is_clone_in d) (λ j q. absurd (let z : Implied ≡ Token j = q in cc)) (origin_in d)) in omega (arith, a)
of-origin k ls h Nothing = let a = sum-none (clone_count Nothing) ls (λ d. count-none Nothing (is_clone_in d) (λ j q. absurd (let z : Nothing ≡ Token j = q in cc)) (origin_in d)) in omega (arith, a)

pub most-within : (k : ℕ) (ls : List NodeData) → ((i : ℕ) → clones_of (Token i) ls ≤ k) → most_clones ls ≤ k
unfolding most_clones
most-within k ls h = greatest-within (λ d. clones_of (origin_in d) ls) k ls (λ d. of-origin k ls h (origin_in d))

-- no element has so many more clones
pub most-more : (r : ℕ) (ls ks : List NodeData) → ((i : ℕ) → clones_of (Token i) ks ≤ clones_of (Token i) ls + r) → most_clones ks ≤ most_clones ls + r
most-more r ls ks h = most-within (most_clones ls + r) ks (λ i. let a = h i in let b = clones-most i ls in omega (arith, a, b))

-- MORE NODES

pub count-append-implied : (ls ds : List NodeData) → implied_count (ls ++ ds) ≡ implied_count ls + implied_count ds
unfolding implied_count
count-append-implied ls ds = sum_by-append implied_in ls ds

pub most-append : (r : ℕ) (ls ds : List NodeData) → ((i : ℕ) → clones_of (Token i) ds ≤ r) → most_clones (ls ++ ds) ≤ most_clones ls + r
most-append r ls ds h = most-more r ls (ls ++ ds) (λ i. let a = h i in let b = sum_by-append (clone_count (Token i)) ls ds in omega (arith, a, b))

-- a node that is no clone, and the contents of a template
first-count : (o : Origin) (d : NodeData) → is_clone_in d ≡ false → clone_count o d ≡ 0
first-count o d e = ap (λ b. cond (b && is_kin o (origin_in d)) 1 0) e

rest-clones : (o : Origin) (n : ℕ) (b : Bool) → clones_of o (rest_of n b) ≡ 0
rest-clones o n false = refl
rest-clones o n true = refl

rest-implied : (n : ℕ) (b : Bool) → sum_by implied_in (rest_of n b) ≡ 0
rest-implied n false = refl
rest-implied n true = refl

new-clones : (o : Origin) (d : NodeData) (n : ℕ) (b : Bool) → is_clone_in d ≡ false → clones_of o (d ∷ rest_of n b) ≡ 0
new-clones o d n b e = let p = sum_by-cons (clone_count o) d (rest_of n b) in let q = rest-clones o n b in let r = first-count o d e in omega (arith, p, q, r)

new-implied : (d : NodeData) (n : ℕ) (b : Bool) → implied_count (d ∷ rest_of n b) ≡ implied_in d
unfolding implied_count
new-implied d n b = let p = sum_by-cons implied_in d (rest_of n b) in let q = rest-implied n b in omega (arith, p, q)

-- a new node, which no token asked for, or one did
pub copied-new : (m : ℕ) (t u : Nodes) (at : Place) (d : NewNode) → is_clone_in (label_for t d) ≡ false → implied_in (label_for t d) ≤ m → u ≡ with_new t at d
    → (most_clones u.labels ≤ most_clones t.labels + 0) × (implied_count u.labels ≤ implied_count t.labels + m)
copied-new m t u at d c i e =
    subst (λ (ls : List NodeData). (most_clones ls ≤ most_clones t.labels + 0) × (implied_count ls ≤ implied_count t.labels + m)) (sym (ap (λ (z : Nodes). z.labels) e ∙ new-labels t at d)) (
      most-append 0 t.labels (label_for t d ∷ rest_of n b) (λ j. let a = new-clones (Token j) (label_for t d) n b c in omega (arith, a)),
      (let p = count-append-implied t.labels (label_for t d ∷ rest_of n b) in let q = new-implied (label_for t d) n b in omega (arith, p, q, i)),
    )
  where
    n : ℕ
    n = length t.labels

    b : Bool
    b = has_contents d

-- an element of a token, or of none
element-first : (t : Nodes) (name : List ℕ) (attrs : List Attr) (o : Origin) → is_clone_in (label_for t (new.Element name attrs o)) ≡ false
element-first t name attrs o = by (is_template (tag_of name)) refl
  where
    by : (b : Bool) → is_template (tag_of name) ≡ b → is_clone_in (label_for t (new.Element name attrs o)) ≡ false
    by true h = rw h refl
    by false h = rw h refl

element-implied : (t : Nodes) (name : List ℕ) (attrs : List Attr) (o : Origin) → implied_in (label_for t (new.Element name attrs o)) ≡ unasked o
element-implied t name attrs o = by (is_template (tag_of name)) refl
  where
    by : (b : Bool) → is_template (tag_of name) ≡ b → implied_in (label_for t (new.Element name attrs o)) ≡ unasked o
    by true h = rw h refl
    by false h = rw h refl

pub copied-element : (t u : Nodes) (at : Place) (name : List ℕ) (attrs : List Attr) (k : ℕ) → u ≡ with_new t at (new.Element name attrs (Token k))
    → (most_clones u.labels ≤ most_clones t.labels + 0) × (implied_count u.labels ≤ implied_count t.labels + 0)
copied-element t u at name attrs k e = copied-new 0 t u at (new.Element name attrs (Token k)) (element-first t name attrs (Token k)) (let a = element-implied t name attrs (Token k) in omega (arith, a)) e

-- the same, where the node was put into another tree of the same labels
pub copied-moved : (t b u : Nodes) (at : Place) (name : List ℕ) (attrs : List Attr) (k : ℕ) → b.labels ≡ t.labels → u ≡ with_new b at (new.Element name attrs (Token k))
    → (most_clones u.labels ≤ most_clones t.labels + 0) × (implied_count u.labels ≤ implied_count t.labels + 0)
copied-moved t b u at name attrs k e f =
    subst (λ (ls : List NodeData). (most_clones u.labels ≤ most_clones ls + 0) × (implied_count u.labels ≤ implied_count ls + 0)) e (copied-element b u at name attrs k f)

pub copied-comment : (t u : Nodes) (at : Place) (text : List ℕ) (k : ℕ) → u ≡ with_new t at (new.Comment text k)
    → (most_clones u.labels ≤ most_clones t.labels + 0) × (implied_count u.labels ≤ implied_count t.labels + 0)
copied-comment t u at text k e = copied-new 0 t u at (new.Comment text k) refl (omega arith) e

pub copied-doctype : (t u : Nodes) (at : Place) (x y z : Option (List ℕ)) (k : ℕ) → u ≡ with_new t at (new.Doctype x y z k)
    → (most_clones u.labels ≤ most_clones t.labels + 0) × (implied_count u.labels ≤ implied_count t.labels + 0)
copied-doctype t u at x y z k e = copied-new 0 t u at (new.Doctype x y z k) refl (omega arith) e

pub copied-implied : (t u : Nodes) (at : Place) (g : Tag) → u ≡ with_new t at (implied_of g)
    → (most_clones u.labels ≤ most_clones t.labels + 0) × (implied_count u.labels ≤ implied_count t.labels + 1)
copied-implied t u at g e =
    copied-new 1 t u at (implied_of g) (element-first t (name_of g) [] Implied) (let p = element-implied t (name_of g) [] Implied in omega (arith, p)) e

-- OTHER ATTRIBUTES, AND MORE TEXT

with-attrs-count : (o : Origin) (d : NodeData) (own : List Attr) → clone_count o (with_attrs d own) ≡ clone_count o d
with-attrs-count o node.Document own = refl
with-attrs-count o (node.Contents h) own = refl
with-attrs-count o (node.Element e) own = refl
with-attrs-count o (node.Text s) own = refl
with-attrs-count o (node.Comment s i) own = refl
with-attrs-count o (node.Doctype n p s i) own = refl

with-attrs-implied : (d : NodeData) (own : List Attr) → implied_in (with_attrs d own) ≡ implied_in d
with-attrs-implied node.Document own = refl
with-attrs-implied (node.Contents h) own = refl
with-attrs-implied (node.Element e) own = refl
with-attrs-implied (node.Text s) own = refl
with-attrs-implied (node.Comment s i) own = refl
with-attrs-implied (node.Doctype n p s i) own = refl

with-run-count : (o : Origin) (d : NodeData) (cs : List ℕ) → clone_count o (with_run d cs) ≡ clone_count o d
with-run-count o node.Document cs = refl
with-run-count o (node.Contents h) cs = refl
with-run-count o (node.Element e) cs = refl
with-run-count o (node.Text s) cs = refl
with-run-count o (node.Comment s i) cs = refl
with-run-count o (node.Doctype n p s i) cs = refl

with-run-implied : (d : NodeData) (cs : List ℕ) → implied_in (with_run d cs) ≡ implied_in d
with-run-implied node.Document cs = refl
with-run-implied (node.Contents h) cs = refl
with-run-implied (node.Element e) cs = refl
with-run-implied (node.Text s) cs = refl
with-run-implied (node.Comment s i) cs = refl
with-run-implied (node.Doctype n p s i) cs = refl

-- a node that counts what the one in its place counted
copied-set : (ls ks : List NodeData) (x : ℕ) (d : NodeData) → ((o : Origin) → clone_count o d ≡ clone_count o (label_in ls x)) → implied_in d ≡ implied_in (label_in ls x) → ks ≡ slice_set ls x d
    → (most_clones ks ≤ most_clones ls + 0) × (implied_count ks ≤ implied_count ls + 0)
unfolding implied_count
copied-set ls ks x d c i e =
    subst (λ (hs : List NodeData). (most_clones hs ≤ most_clones ls + 0) × (sum_by implied_in hs ≤ sum_by implied_in ls + 0)) (sym e) (
      most-more 0 ls (slice_set ls x d) (λ j. let a = sum-set (clone_count (Token j)) ls x d (c (Token j)) in omega (arith, a)),
      (let a = sum-set implied_in ls x d i in omega (arith, a)),
    )

pub copied-merged : (t u : Nodes) (y : ℕ) (own : List Attr) → u ≡ bare (with_merged t y own) → (most_clones u.labels ≤ most_clones t.labels + 0) × (implied_count u.labels ≤ implied_count t.labels + 0)
copied-merged t u y own e =
    copied-set t.labels u.labels y (with_attrs (label_of t y) (merged (attrs_in (label_of t y)) own)) (λ o. with-attrs-count o (label_of t y) (merged (attrs_in (label_of t y)) own))
    (with-attrs-implied (label_of t y) (merged (attrs_in (label_of t y)) own)) (ap (λ (z : Nodes). z.labels) e)

copied-run : (t u : Nodes) (x : ℕ) (cs : List ℕ) → u ≡ bare (texted_run t x cs) → (most_clones u.labels ≤ most_clones t.labels + 0) × (implied_count u.labels ≤ implied_count t.labels + 0)
copied-run t u x cs e =
    copied-set t.labels u.labels x (with_run (label_of t x) cs) (λ o. with-run-count o (label_of t x) cs) (with-run-implied (label_of t x) cs) (ap (λ (z : Nodes). z.labels) e)

copied-node : (t : Nodes) (at : Place) (o : Option ℕ) → (most_clones (tree_or_new t at o).labels ≤ most_clones t.labels + 0) × (implied_count (tree_or_new t at o).labels ≤ implied_count t.labels + 0)
copied-node t at None = copied-new 0 t (with_new t at new.Text) at new.Text refl (omega arith) refl
copied-node t at (Some x) = (omega arith, omega arith)

pub copied-text : (a : Tree) (u : Nodes) (foster : Bool) (cs : List ℕ) → u ≡ with_text a foster cs → (most_clones u.labels ≤ most_clones a.tree.labels + 0) × (implied_count u.labels ≤ implied_count a.tree.labels + 0)
copied-text a u foster cs e =
    let p = copied-node a.tree (place_here a foster) (text_before a.tree (place_here a foster)) in
    let q = copied-run (tree_or_new a.tree (place_here a foster) (text_before a.tree (place_here a foster))) u (text_node a foster) cs e in
    (omega (arith, p.0, q.0), omega (arith, p.1, q.1))

-- HOW MUCH A CALL ADDS

-- from a state to a tree and a ledger
abbrev pub Adds : ℕ → ℕ → ℕ → ℕ → ℕ → State → Tree → Entries → Type 0
Adds fates nodes entries clones implied a t l =
    (length l.fates ≡ length a.ledger.fates + fates)
    × ((length t.tree.labels ≤ length a.tree.tree.labels + nodes)
    × ((length t.list ≤ length a.tree.list + entries)
    × ((length a.tree.tree.labels ≤ length t.tree.labels)
    × ((most_clones t.tree.labels ≤ most_clones a.tree.tree.labels + clones)
    × (implied_count t.tree.labels ≤ implied_count a.tree.tree.labels + implied)))))

-- the same of the clones and names of nodes
abbrev pub Copies : ℕ → ℕ → Nodes → Nodes → Type 0
Copies clones implied t u = (most_clones u.labels ≤ most_clones t.labels + clones) × (implied_count u.labels ≤ implied_count t.labels + implied)

-- the next node is made of the token
pub grown-made : (nodes entries o h : ℕ) (n g v : State) (t : Tree) (l : Entries) (y : Symbol) (f : Fate) → v ≡ g → g ≡ record n { ledger = g.ledger } → l ≡ v.ledger → HasFate y f n g → TreeGrown nodes o entries h v.tree t
    → Copies 0 0 v.tree.tree t.tree → Adds 1 nodes entries 0 0 n t l
grown-made nodes entries o h n g v t l y f e r p q w c =
    subst (λ (b : Tree). Adds 1 nodes entries 0 0 (record n { tree = b }) t l) same (fates, (w.nodes_most, (w.entries_most, (w.nodes_least, (c.0, c.1)))))
  where
    same : v.tree ≡ n.tree
    same = ap (λ (x : State). x.tree) e ∙ ap (λ (x : State). x.tree) r

    fates : length l.fates ≡ length n.ledger.fates + 1
    fates = ap (λ (x : Entries). length x.fates) (p ∙ ap (λ (x : State). x.ledger) e ∙ q.ledger_is) ∙ length-append n.ledger.fates (f ∷ [])

-- the tree changed, and so many fates were given
pub grown-tree : (more nodes entries clones implied o h : ℕ) (n v : State) (t : Tree) (l : Entries) → v ≡ n → length l.fates ≡ length v.ledger.fates + more → TreeGrown nodes o entries h v.tree t
    → Copies clones implied v.tree.tree t.tree → Adds more nodes entries clones implied n t l
grown-tree more nodes entries clones implied o h n v t l e p w c =
    subst (λ (a : State). Adds more nodes entries clones implied a t l) e (p, (w.nodes_most, (w.entries_most, (w.nodes_least, (c.0, c.1)))))

-- the tree changed, and the ledger did not
pub grown-kept : (nodes entries clones implied o h : ℕ) (n v : State) (t : Tree) → v ≡ n → TreeGrown nodes o entries h v.tree t → Copies clones implied v.tree.tree t.tree → Adds 0 nodes entries clones implied n t v.ledger
grown-kept nodes entries clones implied o h n v t e w c = grown-tree 0 nodes entries clones implied o h n v t v.ledger e (omega arith) w c

-- a fate was given
pub grown-given : (nodes entries o h : ℕ) (n v : State) (t : Tree) (l : Entries) (f : Fate) → v ≡ n → l.fates ≡ v.ledger.fates ++ f ∷ [] → TreeGrown nodes o entries h v.tree t → Copies 0 0 v.tree.tree t.tree
    → Adds 1 nodes entries 0 0 n t l
grown-given nodes entries o h n v t l f e p w c = grown-tree 1 nodes entries 0 0 o h n v t l e (ap (λ fs. length fs) p ∙ length-append v.ledger.fates (f ∷ [])) w c

-- a run of code points was added to a text
pub grown-run : (k o h : ℕ) (cs : List ℕ) (n v : State) (t : Tree) (l : Entries) (f : Fate) → k ≤ length cs → v ≡ n → l ≡ given_run v.ledger (take k cs) f → TreeGrown 1 o 0 h v.tree t → Copies 0 0 v.tree.tree t.tree
    → Adds k 1 0 0 0 n t l
grown-run k o h cs n v t l f b e p w c =
    let a = ap (λ (x : Entries). length x.fates) p in
    let d = ap (λ (fs : List Fate). length fs) (run-given v.ledger (take k cs) f) in
    let i = length-append v.ledger.fates (replicate (length (take k cs)) f) in
    let j = length-replicate (length (take k cs)) f in
    let m = length-take-le k cs b in
    grown-tree k 1 0 0 0 o h n v t l e (omega (arith, a, d, i, j, m)) w c

-- the listed elements that were not open were opened anew
pub grown-reopened : (o h : ℕ) (n v : State) (t : Tree) → v ≡ n → length n.tree.list ≤ length n.ledger.fates → TreeGrown (length v.tree.list) o 0 h v.tree t → Copies 1 0 v.tree.tree t.tree
    → Adds 0 (length n.ledger.fates) 0 1 0 n t v.ledger
grown-reopened o h n v t e k w c =
    subst (λ (a : State). length a.tree.list ≤ length a.ledger.fates → Adds 0 (length a.ledger.fates) 0 1 0 a t v.ledger) e
    (λ b. let m = w.nodes_most in (omega arith, (omega (arith, m, b), (w.entries_most, (w.nodes_least, (c.0, c.1)))))) k

-- BEFORE THE FIRST TOKEN

pub document-uncloned : (t : Tree) → ((l : Option Limits) × (k : ℕ) × (t ≡ document_state l k)) → most_clones t.tree.labels ≡ 0
unfolding most_clones
document-uncloned t b = ap (λ (a : Tree). greatest (λ d. clones_of (origin_in d) a.tree.labels) a.tree.labels) b.2

pub document-implied : (t : Tree) → ((l : Option Limits) × (k : ℕ) × (t ≡ document_state l k)) → implied_count t.tree.labels ≤ 1
unfolding implied_count
document-implied t b = let e : sum_by implied_in t.tree.labels ≡ 0 = ap (λ (a : Tree). sum_by implied_in a.tree.labels) b.2 in omega (arith, e)

fragment-labels : (t : Tree) (l : Option Limits) (k : ℕ) → t ≡ fragment_state l k → t.tree.labels ≡ label_for (empty_tree l) (implied_of tag.Html) ∷ rest_of 0 (has_contents (implied_of tag.Html))
fragment-labels t l k e = ap (λ (a : Tree). a.tree.labels) e ∙ made-labels (empty_tree l) (implied_of tag.Html)

pub fragment-uncloned : (t : Tree) → ((l : Option Limits) × (k : ℕ) × (t ≡ fragment_state l k)) → most_clones t.tree.labels ≡ 0
fragment-uncloned t b =
    let d = label_for (empty_tree b.0) (implied_of tag.Html) in
    let c = has_contents (implied_of tag.Html) in
    let m : most_clones (d ∷ rest_of 0 c) ≤ 0 = most-within 0 (d ∷ rest_of 0 c) (λ i. let a = new-clones (Token i) d 0 c (element-first (empty_tree b.0) (name_of tag.Html) [] Implied) in omega (arith, a)) in
    let e = ap most_clones (fragment-labels t b.0 b.1 b.2) in
    omega (arith, m, e)

pub fragment-implied : (t : Tree) → ((l : Option Limits) × (k : ℕ) × (t ≡ fragment_state l k)) → implied_count t.tree.labels ≤ 1
fragment-implied t b =
    let d = label_for (empty_tree b.0) (implied_of tag.Html) in
    let c = has_contents (implied_of tag.Html) in
    let m = new-implied d 0 c in
    let n : implied_in d ≡ 1 = element-implied (empty_tree b.0) (name_of tag.Html) [] Implied in
    let e = ap implied_count (fragment-labels t b.0 b.1 b.2) in
    omega (arith, m, n, e)
