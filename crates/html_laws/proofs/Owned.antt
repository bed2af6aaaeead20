-- How many html elements there are after one thing that the rules do to the nodes.
use Rattle.std.proofs.Common.{◌≡◌, ℕ, ◌+◌, ◌≤◌, Bool, true, false, cond, List, [], ◌∷◌, ◌++◌, length, map, Option, Some, None, refl, sym, ◌∙◌, ap, arith}
use Rattle.std.specs.List.{sum_by}
use Rattle.std.proofs.lemmas.List.Sums.{sum_by-append, sum_by-cons}
use Rattle.html_names.specs.declared.tag.Tag.{Tag}
use Rattle.html_names.specs.declared.tag.Tag.TheVariants as tag
use Rattle.html_names.specs.Names.{tag_of}
use Rattle.html_names.specs.Sets.{is_template}
use Rattle.html_names.specs.Tags.{is_same}
use Rattle.html_arena.specs.declared.data.NewNode.{NewNode}
use Rattle.html_arena.specs.declared.data.NewNode.TheVariants as new
use Rattle.html_arena.specs.declared.data.NodeData.{NodeData}
use Rattle.html_arena.specs.declared.data.NodeData.TheVariants as node
use Rattle.html_arena.specs.declared.data.Origin.{Origin}
use Rattle.html_arena.specs.Data.{attrs_in, cloned, with_attrs, with_run}
use Rattle.html_arena.specs.Make.{has_contents, label_for, made}
use Rattle.html_arena.specs.Merge.{merged}
use Rattle.html_arena.specs.Tree.{Tree as Nodes, detached, label_of, texted_run, with_merged}
use Rattle.html_tokens.specs.declared.attributes.Attr.{Attr}
use Rattle.html_open.specs.declared.adoption.AdoptEnd.{AdoptEnd}
use Rattle.html_open.specs.declared.adoption.AdoptEnd.TheVariants.{Done, OtherEndTag}
use Rattle.html_open.specs.declared.places.Place.{Place}
use Rattle.html_open.specs.Adopting.{Adopted, Ends, Rounds, closes, eight, fewer, forgets, no_entry, no_round, one_more, out_of_scope, popped}
use Rattle.html_open.specs.Entries.{last_named}
use Rattle.html_open.specs.Marking.{IsSameTree}
use Rattle.html_open.specs.Opened.{Open, open_at}
use Rattle.html_open.specs.Placing.{place_of}
use Rattle.html_open.specs.Reopening.{closed, with_clone, with_clones}
use Rattle.html_tree.specs.Inserting.{rest_of, with_new}
use Rattle.html_tree.specs.Listing.{IsAdopted, IsReopened}
use Rattle.html_tree.specs.States.{State as Tree}
use Rattle.html_tree.specs.Texts.{tree_or_new}
use Rattle.html_tree.proofs.Inserted.{put-labels}
use Rattle.html_construction.specs.Calls.{HasEnded, IsLinkClosed}
use Rattle.html_construction.proofs.Accounting.{new-labels}
use Rattle.html_construction.proofs.Copying.{sum-set}
use Rattle.html_laws.specs.Elements.{count_of, is_own}

-- what one node counts
abbrev pub own : NodeData → ℕ
own d = cond (is_own tag.Html d) 1 0

abbrev pub htmls : Nodes → ℕ
htmls t = count_of tag.Html t.labels

-- NEW NODES

pub rest-own : (h : ℕ) (b : Bool) → sum_by own (rest_of h b) ≡ 0
rest-own h true = refl
rest-own h false = refl

pub own-most : (d : NodeData) → own d ≤ 1
own-most d = by (is_own tag.Html d)
  where
    by : (b : Bool) → cond b 1 0 ≤ 1
    by true = omega arith
    by false = omega arith

new-own : (t : Nodes) (at : Place) (d : NewNode) → htmls (with_new t at d) ≡ htmls t + own (label_for t d)
new-own t at d =
    let n = length t.labels in
    let b = has_contents d in
    let e = ap (λ (ls : List NodeData). sum_by own ls) (new-labels t at d) in
    let p = sum_by-append own t.labels (label_for t d ∷ rest_of n b) in
    let q = sum_by-cons own (label_for t d) (rest_of n b) in
    let r = rest-own n b in
    omega (arith, e, p, q, r)

element-own : (t : Nodes) (name : List ℕ) (attrs : List Attr) (o : Origin) → own (label_for t (new.Element name attrs o)) ≡ cond (is_same (tag_of name) tag.Html) 1 0
element-own t name attrs o = by (is_template (tag_of name)) refl
  where
    by : (b : Bool) → is_template (tag_of name) ≡ b → own (label_for t (new.Element name attrs o)) ≡ cond (is_same (tag_of name) tag.Html) 1 0
    by true h = rw h refl
    by false h = rw h refl

pub no-element : (t : Nodes) (name : List ℕ) (attrs : List Attr) (o : Origin) → is_same (tag_of name) tag.Html ≡ false → own (label_for t (new.Element name attrs o)) ≡ 0
no-element t name attrs o e = element-own t name attrs o ∙ ap (λ b. cond b 1 0) e

-- another node than an html element
pub added : (t u : Nodes) (at : Place) (d : NewNode) → u ≡ with_new t at d → own (label_for t d) ≡ 0 → htmls u ≡ htmls t
added t u at d e k = (let p = ap htmls e in let q = new-own t at d in omega (arith, p, q, k))

-- the first
pub founded : (t u : Nodes) (at : Place) (d : NewNode) → u ≡ with_new t at d → htmls t ≡ 0 → htmls u ≤ 1
founded t u at d e k = (let p = ap htmls e in let q = new-own t at d in let r = own-most (label_for t d) in omega (arith, p, q, r, k))

-- OTHER TEXT, OTHER ATTRIBUTES, OTHER PLACES

run-own : (d : NodeData) (run : List ℕ) → own (with_run d run) ≡ own d
run-own node.Document run = refl
run-own (node.Contents h) run = refl
run-own (node.Element e) run = refl
run-own (node.Text s) run = refl
run-own (node.Comment s i) run = refl
run-own (node.Doctype n p s i) run = refl

attrs-own : (d : NodeData) (attrs : List Attr) → own (with_attrs d attrs) ≡ own d
attrs-own node.Document attrs = refl
attrs-own (node.Contents h) attrs = refl
attrs-own (node.Element e) attrs = refl
attrs-own (node.Text s) attrs = refl
attrs-own (node.Comment s i) attrs = refl
attrs-own (node.Doctype n p s i) attrs = refl

pub text-own : (t : Nodes) (at : Place) (o : Option ℕ) (x : ℕ) (run : List ℕ) → htmls (texted_run (tree_or_new t at o) x run) ≡ htmls t
text-own t at None x run =
    let u = with_new t at new.Text in
    let p = sum-set own u.labels x (with_run (label_of u x) run) (run-own (label_of u x) run) in
    let q = new-own t at new.Text in
    omega (arith, p, q)
text-own t at (Some y) x run = sum-set own t.labels x (with_run (label_of t x) run) (run-own (label_of t x) run)

pub merged-own : (t : Nodes) (x : ℕ) (attrs : List Attr) → htmls (with_merged t x attrs) ≡ htmls t
merged-own t x attrs =
    let all = merged (attrs_in (label_of t x)) attrs in
    sum-set own t.labels x (with_attrs (label_of t x) all) (attrs-own (label_of t x) all)

pub detached-own : (t : Nodes) (c : ℕ) (o : Option ℕ) → htmls (detached t c o) ≡ htmls t
detached-own t c None = refl
detached-own t c (Some p) = refl

-- CLONES

cloned-own : (d : NodeData) → own (cloned d) ≡ 0
cloned-own node.Document = refl
cloned-own (node.Contents h) = refl
cloned-own (node.Element e) = refl
cloned-own (node.Text s) = refl
cloned-own (node.Comment s i) = refl
cloned-own (node.Doctype n p s i) = refl

clones-own : (t : Nodes) (xs : List ℕ) → sum_by own (map (λ x. cloned (label_of t x)) xs) ≡ 0
clones-own t [] = refl
clones-own t (x ∷ xs) =
    let p = sum_by-cons own (cloned (label_of t x)) (map (λ y. cloned (label_of t y)) xs) in
    let q = cloned-own (label_of t x) in
    let r = clones-own t xs in
    omega (arith, p, q, r)

-- those of a tree, with clones of some of its elements behind them
more-own : (t u : Nodes) (xs : List ℕ) → u.labels ≡ t.labels ++ map (λ x. cloned (label_of t x)) xs → htmls u ≡ htmls t
more-own t u xs e =
    let p = ap (λ (ls : List NodeData). sum_by own ls) e in
    let q = sum_by-append own t.labels (map (λ x. cloned (label_of t x)) xs) in
    let r = clones-own t xs in
    omega (arith, p, q, r)

clone-own : (t : Nodes) (s : List ℕ) (foster : Bool) (x : ℕ) → htmls (with_clone t s foster x) ≡ htmls t
clone-own t s foster x = more-own t (with_clone t s foster x) (x ∷ []) (put-labels (made t (new.CloneOf x)) (place_of t s None foster) (length t.labels))

with-clones-own : (xs : List ℕ) (t : Nodes) (s : List ℕ) (foster : Bool) → htmls (with_clones t s foster xs) ≡ htmls t
with-clones-own [] t s foster = refl
with-clones-own (x ∷ xs) t s foster = with-clones-own xs (with_clone t s foster x) (s ++ length t.labels ∷ []) foster ∙ clone-own t s foster x

-- the same nodes
same-own : (t u : Nodes) → IsSameTree t u → htmls u ≡ htmls t
same-own t u e = ap (λ (v : Nodes). htmls v) e

pub reopened-own : (foster : Bool) (u v : Tree) → IsReopened foster u v → htmls v.tree ≡ htmls u.tree
reopened-own foster u v k =
    let xs = closed (open_at u.stack u.list k.old) in
    sym (ap (λ (t : Nodes). htmls t) k.new_is)
    ∙ same-own (with_clones k.old u.stack foster xs) k.new k.reopened.tree_is
    ∙ with-clones-own xs k.old u.stack foster
    ∙ ap (λ (t : Nodes). htmls t) k.old_is

rounds-own : (s : Tag) (foster : Bool) (n : ℕ) (o p : Open) → Rounds s foster n o p → htmls p.tree ≡ htmls o.tree
rounds-own s foster _ _ _ (no_round o) = refl
rounds-own s foster _ _ _ (one_more n o p q rs r) = more-own p.tree q.tree (r.cloned_elements ++ r.formatting_element ∷ []) r.labels_are ∙ rounds-own s foster n o p rs

ends-own : (s : Tag) (end : AdoptEnd) (o p : Open) → Ends s end o p → htmls p.tree ≡ htmls o.tree
ends-own s _ _ _ (closes o p k) = same-own o.tree p.tree k.tree_is
ends-own s _ _ _ (forgets o p k) = same-own o.tree p.tree k.tree_is
ends-own s _ _ _ (out_of_scope o p k) = same-own o.tree p.tree k.unchanged.tree_is
ends-own s _ _ _ (no_entry o p k) = same-own o.tree p.tree k.unchanged.tree_is

adopted-own : (s : Tag) (foster : Bool) (end : AdoptEnd) (o p : Open) → Adopted s foster end o p → htmls p.tree ≡ htmls o.tree
adopted-own s foster _ _ _ (popped o p k) = same-own o.tree p.tree k.tree_is
adopted-own s foster _ _ _ (eight o p c r) = rounds-own s foster 8 o p r
adopted-own s foster _ _ _ (fewer end n o p q c b r i) = ends-own s end p q i ∙ rounds-own s foster n o p r

adoption-own : (g : Tag) (foster : Bool) (end : AdoptEnd) (u v : Tree) → IsAdopted g foster end u v → htmls v.tree ≡ htmls u.tree
adoption-own g foster end u v k =
    sym (ap (λ (t : Nodes). htmls t) k.new_is)
    ∙ adopted-own g foster end (open_at u.stack u.list k.old) (open_at v.stack v.list k.new) k.adopted
    ∙ ap (λ (t : Nodes). htmls t) k.old_is

pub ended-own : (g : Tag) (foster : Bool) (u z : Tree) → HasEnded g foster u z → htmls z.tree ≡ htmls u.tree
ended-own g foster u z k = by k.end refl ∙ adoption-own g foster k.end u k.middle k.adopted
  where
    by : (e : AdoptEnd) → k.end ≡ e → htmls z.tree ≡ htmls k.middle.tree
    by Done e = ap (λ (v : Tree). htmls v.tree) (k.done e)
    by OtherEndTag e = ap (λ (v : Tree). htmls v.tree) (k.other e)

pub closed-own : (foster : Bool) (u z : Tree) → IsLinkClosed foster u z → htmls z.tree ≡ htmls u.tree
closed-own foster u z k = by (last_named u.tree tag.A u.list) refl
  where
    by : (l : Option ℕ) → last_named u.tree tag.A u.list ≡ l → htmls z.tree ≡ htmls u.tree
    by None i = ap (λ (v : Tree). htmls v.tree) (k.none i)
    by (Some x) i = (let s = k.some x i in ap (λ (v : Tree). htmls v.tree) s.2 ∙ ended-own tag.A foster u s.0 s.1)
