-- Text that is added in two parts is added as in one: at the same place, to the same text.
use Rattle.std.proofs.Common.{◌≡◌, ◌≢◌, ℕ, zero, suc, ◌+◌, ◌-◌, ◌^◌, ◌<◌, min, Bool, true, false, cond, eqb, ◌&&◌, List, [], ◌∷◌, ◌++◌, length, get_or, set, Option, Some, None, inl, inr, refl, sym, ◌∙◌, ap, subst, arith, append_assoc, length-append}
use Rattle.std.proofs.lemmas.Bool.{false≢true}
use Rattle.std.proofs.lemmas.List.{get_or-set_same, get_or-set_other, length-set, set-set}
use Rattle.std.proofs.Math.Path.{fun_ext}
use Rattle.std.specs.List.{list_any}
use Rattle.html_names.specs.Sets.{is_fostering}
use Rattle.html_names.specs.Tags.{is_same}
use Rattle.html_names.specs.declared.tag.Tag.{Tag}
use Rattle.html_names.specs.declared.tag.Tag.TheVariants as tag
use Rattle.html_arena.specs.declared.data.NewNode.TheVariants as new
use Rattle.html_arena.specs.declared.data.NodeData.{NodeData}
use Rattle.html_arena.specs.declared.data.NodeData.TheVariants as node
use Rattle.html_arena.specs.Data.{contents_in, is_text, tag_in, with_run}
use Rattle.html_arena.specs.Make.{made}
use Rattle.html_arena.specs.Siblings.{Distinct, before, first_of, last_of, put_before}
use Rattle.html_arena.specs.Tree.{Tree, WellFormed, children_of, contents_at, inserted, label_of, more, named, parent_of, sibling, tag_at, texted_run}
use Rattle.html_arena.proofs.Siblings.{before-insert_first, put_before-split, split_at}
use Rattle.html_open.specs.declared.places.Place.{Place}
use Rattle.html_open.specs.declared.places.Place.TheVariants.{Before, Last}
use Rattle.html_open.specs.Lists.{above, below, last_where}
use Rattle.html_open.specs.Marking.{bare}
use Rattle.html_open.specs.Placing.{IsPlace, by_table, fostered, get, inside, outside_table, place_of, put, table, target_of, template}
use Rattle.html_open.proofs.Closing.{last-pushed}
use Rattle.html_open.proofs.Finding.{last_where-passes}
use Rattle.html_open.proofs.Inserted.{get-default, get-last}
use Rattle.html_open.proofs.Keeps.{cases_bool, cases_eqb}
use Rattle.html_tree.specs.Inserting.{with_new}
use Rattle.html_tree.proofs.Inserted.{bare-new}
use Rattle.html_tree.specs.States.{State}
use Rattle.html_tree.specs.Texts.{TextGoesOn, before_place, if_text, node_or_next, place_here, text_before, text_node, tree_or_new, with_text}

-- LABELS

run-run : (d : NodeData) (front run : List ℕ) → with_run (with_run d front) run ≡ with_run d (front ++ run)
run-run (node.Text s) front run = ap (λ l. node.Text l) (append_assoc s front run)
run-run node.Document front run = refl
run-run (node.Contents h) front run = refl
run-run (node.Element e) front run = refl
run-run (node.Comment s j) front run = refl
run-run (node.Doctype n p s j) front run = refl

run-tag : (d : NodeData) (run : List ℕ) → tag_in (with_run d run) ≡ tag_in d
run-tag (node.Text s) run = refl
run-tag node.Document run = refl
run-tag (node.Contents h) run = refl
run-tag (node.Element e) run = refl
run-tag (node.Comment s j) run = refl
run-tag (node.Doctype n p s j) run = refl

run-contents : (d : NodeData) (run : List ℕ) → contents_in (with_run d run) ≡ contents_in d
run-contents (node.Text s) run = refl
run-contents node.Document run = refl
run-contents (node.Contents h) run = refl
run-contents (node.Element e) run = refl
run-contents (node.Comment s j) run = refl
run-contents (node.Doctype n p s j) run = refl

run-is-text : (d : NodeData) (run : List ℕ) → is_text (with_run d run) ≡ is_text d
run-is-text (node.Text s) run = refl
run-is-text node.Document run = refl
run-is-text (node.Contents h) run = refl
run-is-text (node.Element e) run = refl
run-is-text (node.Comment s j) run = refl
run-is-text (node.Doctype n p s j) run = refl

-- what text doesn't change is the same of all nodes
relabelled : {X : Type 0} (g : NodeData → X) → ((d : NodeData) (run : List ℕ) → g (with_run d run) ≡ g d) → (ls : List NodeData) (x y : ℕ) (run : List ℕ) → x < length ls
    → g (get_or (set ls x (with_run (get_or ls x node.Document) run)) y node.Document) ≡ g (get_or ls y node.Document)
relabelled g same ls x y run b = elim (cases_eqb y x) [
  | inl e ↦ ap (λ z. g (get_or (set ls x (with_run (get_or ls x node.Document) run)) z node.Document)) e.1 ∙ ap g (get_or-set_same ls x (with_run (get_or ls x node.Document) run) node.Document b) ∙ same (get_or ls x node.Document) run
      ∙ ap (λ z. g (get_or ls z node.Document)) (sym e.1)
  | inr e ↦ ap g (get_or-set_other ls x y (with_run (get_or ls x node.Document) run) node.Document e.1)
]

-- and so is what a text has in common with a document
with-text : {X : Type 0} (g : NodeData → X) → g (node.Text []) ≡ g node.Document → (ls : List NodeData) (y : ℕ) → g (get_or (ls ++ node.Text [] ∷ []) y node.Document) ≡ g (get_or ls y node.Document)
with-text g same [] zero = same
with-text g same [] (suc y) = refl
with-text g same (l ∷ ls) zero = refl
with-text g same (l ∷ ls) (suc y) = with-text g same ls y

text-inside : (ls : List NodeData) (x : ℕ) → is_text (get_or ls x node.Document) ≡ true → x < length ls
text-inside [] x e = absurd (false≢true e)
text-inside (l ∷ ls) zero e = omega arith
text-inside (l ∷ ls) (suc x) e = let k = text-inside ls x e in omega (arith, k)

-- TWO RUNS

capped-twice : (h n m k : ℕ) → min (min (h + n) k + m) k ≡ min (h + (n + m)) k
capped-twice h n m k = omega arith

run-twice : (t : Tree) (x : ℕ) (front run : List ℕ) → x < length t.labels → bare (texted_run (bare (texted_run t x front)) x run) ≡ bare (texted_run t x (front ++ run))
run-twice t x front run b =
    let d : NodeData = with_run (label_of t x) front in
    let ls : List NodeData = set t.labels x d in
    let labels : set ls x (with_run (get_or ls x node.Document) run) ≡ set t.labels x (with_run (label_of t x) (front ++ run)) =
    set-set t.labels x d (with_run (get_or ls x node.Document) run) ∙ ap (λ e. set t.labels x (with_run e run)) (get_or-set_same t.labels x d node.Document b) ∙ ap (λ e. set t.labels x e) (run-run (label_of t x) front run) in
    let held : more (more t.held (length front)) (length run) ≡ more t.held (length (front ++ run)) =
    capped-twice t.held (length front) (length run) (2 ^ 128 - 1) ∙ ap (λ n. more t.held n) (sym (length-append front run)) in
    ap (λ es. bare (record t { labels = es; held = more (more t.held (length front)) (length run) })) labels ∙ ap (λ n. bare (record t { labels = set t.labels x (with_run (label_of t x) (front ++ run)); held = n })) held

-- THE PLACE

-- the place for the current node is the same where tags and contents are, and the parents of tables
module _ (t u : Tree) (s : List ℕ) (foster : Bool) (tags : (x : ℕ) → tag_at u x ≡ tag_at t x) (contents : (x : ℕ) → contents_at u x ≡ contents_at t x)
    (parents : (b : ℕ) → table t b ≡ true → parent_of u b ≡ parent_of t b) where
  tables : table u ≡ table t
  tables = fun_ext (λ x. ap (λ g. is_same g tag.Table) (tags x))

  templates : template u ≡ template t
  templates = fun_ext (λ x. ap (λ g. is_same g tag.Template) (tags x))

  insides : inside u ≡ inside t
  insides = fun_ext (λ x. ap (λ o. get o x) (contents x))

  by-inside : (b : ℕ) (o : Option ℕ) → by_table u (below (table t) s) b o ≡ by_table t (below (table t) s) b o
  by-inside b None = ap (λ (h : ℕ → ℕ). Last (h (get (last_of (below (table t) s)) b))) insides
  by-inside b (Some p) = refl

  outside-last : (o : Option ℕ) → last_where (table t) s ≡ o → outside_table u s o ≡ outside_table t s o
  outside-last None e = refl
  outside-last (Some b) e =
      ap (λ (q : ℕ → Bool). by_table u (below q s) b (parent_of u b)) tables
      ∙ ap (λ p. by_table u (below (table t) s) b p) (parents b (last_where-passes (table t) s b e))
      ∙ by-inside b (parent_of t b)

  outside-same : outside_table u s (last_where (table u) s) ≡ outside_table t s (last_where (table t) s)
  outside-same = ap (λ (q : ℕ → Bool). outside_table u s (last_where q s)) tables ∙ outside-last (last_where (table t) s) refl

  fostered-same : fostered u s ≡ fostered t s
  fostered-same =
      ap (λ (e : Place). cond (list_any (template u) (above (table u) s)) (Last (inside u (get (last_where (template u) (above (table u) s)) 0))) e) outside-same
      ∙ ap (λ (q : ℕ → Bool). cond (list_any q (above (table u) s)) (Last (inside u (get (last_where q (above (table u) s)) 0))) (outside_table t s (last_where (table t) s))) templates
      ∙ ap (λ (q : ℕ → Bool). cond (list_any (template t) (above q s)) (Last (inside u (get (last_where (template t) (above q s)) 0))) (outside_table t s (last_where (table t) s))) tables
      ∙ ap (λ (h : ℕ → ℕ). cond (list_any (template t) (above (table t) s)) (Last (h (get (last_where (template t) (above (table t) s)) 0))) (outside_table t s (last_where (table t) s))) insides

  place-same : place_of u s None foster ≡ place_of t s None foster
  place-same =
      ap (λ (e : Place). cond (foster && is_fostering (tag_at u (target_of s None))) e (Last (inside u (target_of s None)))) fostered-same
      ∙ ap (λ (g : Tag). cond (foster && is_fostering g) (fostered t s) (Last (inside u (target_of s None)))) (tags (target_of s None))
      ∙ ap (λ (h : ℕ → ℕ). cond (foster && is_fostering (tag_at t (target_of s None))) (fostered t s) (Last (h (target_of s None)))) insides

-- A NEW TEXT

if-bare : (t : Tree) (o : Option ℕ) → if_text (bare t) o ≡ if_text t o
if-bare t None = refl
if-bare t (Some x) = refl

if-is : (t : Tree) (o : Option ℕ) (x : ℕ) → if_text t o ≡ Some x → (o ≡ Some x) × (is_text (label_of t x) ≡ true)
if-is t None x e = absurd (let q : None ≡ Some x = e in cc)
if-is t (Some y) x e = by (is_text (label_of t y)) refl
  where
    by : (b : Bool) → is_text (label_of t y) ≡ b → (Some y ≡ Some x) × (is_text (label_of t x) ≡ true)
    by true h = let q : Some y ≡ Some x = sym (ap (λ c. cond c (Some y) None) h) ∙ e in let r : y ≡ x = cc in (q, ap (λ z. is_text (label_of t z)) (sym r) ∙ h)
    by false h = absurd (let q : None ≡ Some x = sym (ap (λ c. cond c (Some y) None) h) ∙ e in cc)

text-is : (t : Tree) (x : ℕ) → is_text (label_of t x) ≡ true → if_text t (Some x) ≡ Some x
text-is t x h = ap (λ c. cond c (Some x) None) h

inserted-parents : (t : Tree) (c b : ℕ) (o : Option ℕ) (p : ℕ) → o ≡ Some p → (inserted t c b o).parents ≡ set t.parents c (Some p)
inserted-parents t c b o p e = subst (λ v. (inserted t c b v).parents ≡ set t.parents c (Some p)) (sym e) refl

inserted-children : (t : Tree) (c b : ℕ) (o : Option ℕ) (p : ℕ) → o ≡ Some p → (inserted t c b o).children ≡ set t.children p (put_before c b (children_of t p))
inserted-children t c b o p e = subst (λ v. (inserted t c b v).children ≡ set t.children p (put_before c b (children_of t p))) (sym e) refl

module _ (t : Tree) (w : WellFormed t) where
  -- the next node
  abbrev n : ℕ
  n = length t.labels

  abbrev alone : Tree
  alone = made t new.Text

  labels-at : (at : Place) → (put alone at n).labels ≡ t.labels ++ node.Text [] ∷ []
  labels-at (Last p) = refl
  labels-at (Before b) = by (parent_of alone b)
    where
      by : (o : Option ℕ) → (inserted alone n b o).labels ≡ t.labels ++ node.Text [] ∷ []
      by None = refl
      by (Some q) = refl

  -- those that there were have their parents
  parent-old : (at : Place) (b : ℕ) → b ≢ n → parent_of (put alone at n) b ≡ parent_of t b
  parent-old (Last p) b e = get_or-set_other (t.parents ++ None ∷ []) n b (Some p) None e ∙ get-default t.parents b None
  parent-old (Before c) b e = by (parent_of alone c) refl
    where
      by : (o : Option ℕ) → parent_of alone c ≡ o → parent_of (inserted alone n c (parent_of alone c)) b ≡ parent_of t b
      by None h = ap (λ o. parent_of (inserted alone n c o) b) h ∙ get-default t.parents b None
      by (Some q) h = ap (λ o. parent_of (inserted alone n c o) b) h ∙ get_or-set_other (t.parents ++ None ∷ []) n b (Some q) None e ∙ get-default t.parents b None

  -- and just before the place stands the new one
  before-new : (at : Place) → IsPlace t at → before_place (put alone at n) at ≡ Some n
  before-new (Last p) h =
      ap last_of (get_or-set_same (t.children ++ [] ∷ []) p (children_of alone p ++ n ∷ []) [] (let k = length-append t.children ([] ∷ []) in let q = w.as_many_lists in omega (arith, k, q, h)))
      ∙ last-pushed (children_of alone p) n
  before-new (Before b) h = by (parent_of t b) refl
    where
      apart : b ≢ n
      apart e = (let k = h.0 in omega (arith, e, k))

      by : (o : Option ℕ) → parent_of t b ≡ o → before_place (put alone (Before b) n) (Before b) ≡ Some n
      by None e = absurd (h.1 e)
      by (Some p) e =
          let own : parent_of alone b ≡ Some p = get-default t.parents b None ∙ e in
          let still : parent_of (put alone (Before b) n) b ≡ Some p = parent-old (Before b) b apart ∙ e in
          let k : p < length t.labels = w.parent_in p b e in
          let kids : children_of (put alone (Before b) n) p ≡ put_before n b (children_of t p) =
          ap (λ cs. get_or cs p []) (inserted-children alone n b (parent_of alone b) p own)
          ∙ get_or-set_same (t.children ++ [] ∷ []) p (put_before n b (children_of alone p)) [] (let q = length-append t.children ([] ∷ []) in let z = w.as_many_lists in omega (arith, q, z, k))
          ∙ ap (λ xs. put_before n b xs) (get-default t.children p []) in
          let r = split_at b (children_of t p) (w.parent_has_child p b e) in
          ap (λ o. sibling before o (put alone (Before b) n) b) still ∙ ap (λ xs. before b xs) kids ∙ ap (λ xs. before b (put_before n b xs)) r.2
          ∙ ap (λ xs. before b xs) (put_before-split n b r.0 r.1 r.3) ∙ before-insert_first b n r.0 (b ∷ r.1) (subst Distinct r.2 (w.once p)) apart refl

-- TEXT GOES ON

-- a text at a place, and what that leaves as it was
record Stays (t : Tree) (s : List ℕ) (foster : Bool) (mid : Tree) (x : ℕ) : Type 0 where
  inside_is : x < length mid.labels
  tags_are : (y : ℕ) → tag_at mid y ≡ tag_at t y
  contents_are : (y : ℕ) → contents_at mid y ≡ contents_at t y
  parents_are : (b : ℕ) → table t b ≡ true → parent_of mid b ≡ parent_of t b
  text_is : is_text (label_of mid x) ≡ true
  before_is : before_place mid (place_of t s None foster) ≡ Some x

before-same : (t u : Tree) (at : Place) → u.children ≡ t.children → u.parents ≡ t.parents → before_place u at ≡ before_place t at
before-same t u (Last p) c e = ap (λ cs. last_of (get_or cs p [])) c
before-same t u (Before b) c e = ap (λ o. sibling before o u b) (ap (λ ps. get_or ps b None) e) ∙ by (parent_of t b)
  where
    by : (o : Option ℕ) → sibling before o u b ≡ sibling before o t b
    by None = refl
    by (Some p) = ap (λ cs. before b (get_or cs p [])) c

module _ (a : State) (foster : Bool) (t : Tree) (bare_is : a.tree ≡ bare t) (w : WellFormed t) (there : IsPlace t (place_of t a.stack None foster)) where
  abbrev at : Place
  at = place_of t a.stack None foster

  not-table : (b : ℕ) → table t b ≡ true → b ≢ length t.labels
  not-table b h e = false≢true (sym (beyond t.labels) ∙ ap (λ z. is_same (tag_at t z) tag.Table) (sym e) ∙ h)
    where
      beyond : (ls : List NodeData) → is_same (tag_in (get_or ls (length ls) node.Document)) tag.Table ≡ false
      beyond [] = refl
      beyond (l ∷ ls) = beyond ls

  stays : (o : Option ℕ) → text_before t at ≡ o → Stays t a.stack foster (tree_or_new (bare t) at o) (node_or_next (bare t) o)
  stays (Some x) e =
      let i = if-is t (before_place t at) x e in
      record {
        inside_is = text-inside t.labels x i.1;
        tags_are = λ y. refl;
        contents_are = λ y. refl;
        parents_are = λ b h. refl;
        text_is = i.1;
        before_is = before-same t (bare t) at refl refl ∙ i.0;
      }
  stays None e =
      let m : Tree = put (made t new.Text) at (length t.labels) in
      let ls : (with_new (bare t) at new.Text).labels ≡ t.labels ++ node.Text [] ∷ [] = ap (λ (v : Tree). v.labels) (sym (bare-new t at new.Text)) ∙ labels-at t w at in
      let ps : (with_new (bare t) at new.Text).parents ≡ m.parents = ap (λ (v : Tree). v.parents) (sym (bare-new t at new.Text)) in
      let cs : (with_new (bare t) at new.Text).children ≡ m.children = ap (λ (v : Tree). v.children) (sym (bare-new t at new.Text)) in
      record {
        inside_is = (let k = ap length ls ∙ length-append t.labels (node.Text [] ∷ []) in omega (arith, k));
        tags_are = λ y. ap (λ v. tag_in (get_or v y node.Document)) ls ∙ with-text tag_in refl t.labels y;
        contents_are = λ y. ap (λ v. contents_in (get_or v y node.Document)) ls ∙ with-text contents_in refl t.labels y;
        parents_are = λ b h. ap (λ v. get_or v b None) ps ∙ parent-old t w at b (not-table b h);
        text_is = ap (λ v. is_text (get_or v (length t.labels) node.Document)) ls ∙ ap is_text (get-last t.labels node.Document (node.Text []));
        before_is = before-same m (with_new (bare t) at new.Text) at cs ps ∙ before-new t w at there;
      }

  -- what is true of a tree in which a run was added to that text
  module _ (o : Option ℕ) (e : text_before t at ≡ o) (front : List ℕ) where
    abbrev mid : Tree
    mid = tree_or_new (bare t) at o

    abbrev x : ℕ
    x = node_or_next (bare t) o

    abbrev u : Tree
    u = bare (texted_run mid x front)

    k : Stays t a.stack foster mid x
    k = stays o e

    tags-u : (y : ℕ) → tag_at u y ≡ tag_at t y
    tags-u y = relabelled tag_in run-tag mid.labels x y front k.inside_is ∙ k.tags_are y

    contents-u : (y : ℕ) → contents_at u y ≡ contents_at t y
    contents-u y = relabelled contents_in run-contents mid.labels x y front k.inside_is ∙ k.contents_are y

    place-u : place_of u a.stack None foster ≡ at
    place-u = place-same t u a.stack foster tags-u contents-u k.parents_are

    text-u : text_before u at ≡ Some x
    text-u = ap (λ v. if_text u v) (before-same mid u at refl refl ∙ k.before_is) ∙ text-is u x (relabelled is_text run-is-text mid.labels x x front k.inside_is ∙ k.text_is)

    again-u : (run : List ℕ) → bare (texted_run u x run) ≡ bare (texted_run mid x (front ++ run))
    again-u run = run-twice mid x front run k.inside_is

  here : text_before a.tree (place_here a foster) ≡ text_before t at
  here = ap (λ v. text_before v (place_of v a.stack None foster)) bare_is ∙ bare-text at
    where
      bare-text : (p : Place) → text_before (bare t) p ≡ text_before t p
      bare-text p = if-bare t (before_place (bare t) p) ∙ ap (λ v. if_text t v) (before-same t (bare t) p refl refl)

  with-is : (o : Option ℕ) → text_before t at ≡ o → (run : List ℕ) → with_text a foster run ≡ bare (texted_run (tree_or_new (bare t) at o) (node_or_next (bare t) o) run)
  with-is o e run =
      ap (λ v. bare (texted_run (tree_or_new a.tree (place_here a foster) v) (node_or_next a.tree v) run)) (here ∙ e)
      ∙ ap (λ v. bare (texted_run (tree_or_new v (place_of v a.stack None foster) o) (node_or_next v o) run)) bare_is

  node-is : (o : Option ℕ) → text_before t at ≡ o → text_node a foster ≡ node_or_next (bare t) o
  node-is o e = ap (λ v. node_or_next a.tree v) (here ∙ e) ∙ ap (λ v. node_or_next v o) bare_is

  -- a state in which the run was added
  after-text : (o : Option ℕ) (e : text_before t at ≡ o) (front : List ℕ) (b : State) → b.stack ≡ a.stack → b.tree ≡ u o e front → text_before b.tree (place_here b foster) ≡ Some (x o e front)
  after-text o e front b q r = ap (λ v. text_before v (place_of v b.stack None foster)) r ∙ ap (λ v. text_before (u o e front) (place_of (u o e front) v None foster)) q ∙ ap (λ p. text_before (u o e front) p) (place-u o e front) ∙ text-u o e front

  goes-on : (o : Option ℕ) → text_before t at ≡ o → TextGoesOn a foster
  goes-on o e = record {
    node_same = λ front.
        let b : State = record a { tree = with_text a foster front } in
        ap (λ v. node_or_next b.tree v) (after-text o e front b refl (with-is o e front)) ∙ sym (node-is o e);
    text_same = λ front run.
        let b : State = record a { tree = with_text a foster front } in
        ap (λ v. bare (texted_run (tree_or_new b.tree (place_here b foster) v) (node_or_next b.tree v) run)) (after-text o e front b refl (with-is o e front))
        ∙ ap (λ v. bare (texted_run v (x o e front) run)) (with-is o e front) ∙ again-u o e front run ∙ sym (with-is o e (front ++ run));
    tags_same = λ front y. ap (λ v. tag_at v y) (with-is o e front) ∙ tags-u o e front y ∙ ap (λ v. tag_at v y) (sym bare_is);
  }

  pub text-goes-on : TextGoesOn a foster
  text-goes-on = goes-on (text_before t at) refl
