-- Attributes that are merged, text that is added, and a body that leaves the tree.
use Rattle.std.proofs.Common.{◌≡◌, ℕ, ◌<◌, true, false, List, [], length, get_or, Option, Some, None, inl, inr, refl, sym, ◌∙◌, ap, subst, arith, ◌≤◌}
use Rattle.std.proofs.lemmas.Bool.{false≢true}
use Rattle.html_names.specs.Tags.{is_same}
use Rattle.html_names.specs.declared.tag.Tag.TheVariants as tag
use Rattle.html_arena.specs.declared.data.NodeData.{NodeData}
use Rattle.html_arena.specs.declared.data.NodeData.TheVariants as node
use Rattle.html_arena.specs.Data.{IsElement, label_in, origin_in, tag_in, with_attrs, with_run}
use Rattle.html_arena.specs.Laws.{IsRelabelled, IsUnlinked}
use Rattle.html_arena.specs.Siblings.{has}
use Rattle.html_arena.specs.Tree.{Tree, children_of, label_of, named, parent_of, more, detached}
use Rattle.html_arena.proofs.Laws.{without-none}
use Rattle.html_tokens.specs.declared.attributes.Attr.{Attr}
use Rattle.html_open.specs.declared.entry.Entry.{Entry}
use Rattle.html_open.specs.Marking.{bare, charged}
use Rattle.html_open.specs.Opened.{IsOpen, open_at}
use Rattle.html_open.specs.Reopening.{HoldsNoElement}
use Rattle.html_open.proofs.Keeps.{cases_bool, cases_eqb}
use Rattle.html_tree.specs.Since.{HasFrameset, IsClosed, Keeps, Since, SinceBy, essence}
use Rattle.html_tree.specs.States.{IsUnderWay, State, state_of}
use Rattle.html_tree.proofs.Kept.{keeps-since, old-proper, read-keeps, same-first-under_way, same-origin_in, since-by}

-- a node has another label of the same essence
module _ (s : List ℕ) (l : List Entry) (t u : Tree) (n x : ℕ) (h f d : Option ℕ) (e : NodeData) (r : IsRelabelled t u x e) (i : essence e ≡ essence (label_of t x)) where
  relabelled : (y : ℕ) → essence (label_of u y) ≡ essence (label_of t y)
  relabelled y = elim (cases_eqb y x) [
    | inl q ↦ subst (λ z. essence (label_of u z) ≡ essence (label_of t z)) (sym q.1) (ap essence r.label_is ∙ i)
    | inr q ↦ ap essence (r.other_labels y q.1)
  ]

  same-length : length u.labels ≡ length t.labels
  same-length = r.same_length

  pub relabelled-under_way : IsOpen (open_at s l u) → IsUnderWay s l t n h f d → IsUnderWay s l u n h f d
  relabelled-under_way o p = (let q = same-length in same-first-under_way s s l l t u n n h f d p o refl (omega arith) (λ y b. relabelled y)
      (λ y j k. p.tokens y j (sym (same-origin_in (label_of t y) (label_of u y) (relabelled y)) ∙ k)))

  -- x is in no element that was closed and holds no element
  pub relabelled-since : ((p : ℕ) → IsClosed (state_of s l t n h f d) p → HoldsNoElement t p → has x (children_of t p) ≡ false) → more t.steps 0 ≤ u.steps → Since (state_of s l t n h f d) (state_of s l u n h f d)
  relabelled-since free steps = (let q = same-length in record {
    first = λ y k. k;
    no_fewer = omega arith;
    tokens = omega arith;
    labels = λ y b. relabelled y;
    off = λ y k. k.off;
    children = λ y k none. ap (λ cs. get_or cs y []) r.same_lists;
    texts = λ y z k none b. r.other_labels z (λ w. false≢true (sym (free y k none) ∙ subst (λ v. has v (children_of t y) ≡ true) w b));
    linked = λ y b k. inr (inr (subst (λ v. y < v) q b, sym (ap (λ ps. get_or ps y None) r.same_parents) ∙ k));
    root = λ k. ap (λ ps. get_or ps 0 None) r.same_parents ∙ k;
    detached = λ y k. k;
    replaced = λ y k. inl k;
    proper = λ y p b. (let b' : y < length t.labels = subst (λ v. y < v) q b in
        old-proper (state_of s l t n h f d) (state_of s l u n h f d) (λ z b. relabelled z) (λ z k. k.off) (λ z k none. ap (λ cs. get_or cs z []) r.same_lists) y b' (p b'));
    steps = steps;
  })

pub merged-essence : (e : NodeData) (attrs : List Attr) → essence (with_attrs e attrs) ≡ essence e
merged-essence node.Document attrs = refl
merged-essence (node.Contents h) attrs = refl
merged-essence (node.Element e) attrs = refl
merged-essence (node.Text s) attrs = refl
merged-essence (node.Comment s i) attrs = refl
merged-essence (node.Doctype n p s i) attrs = refl

pub run-essence : (e : NodeData) (run : List ℕ) → essence (with_run e run) ≡ essence e
run-essence node.Document run = refl
run-essence (node.Contents h) run = refl
run-essence (node.Element e) run = refl
run-essence (node.Text s) run = refl
run-essence (node.Comment s i) run = refl
run-essence (node.Doctype n p s i) run = refl

-- an element is in no element that holds no element
pub element-free : (t : Tree) (x : ℕ) → IsElement (label_of t x) → (p : ℕ) → HoldsNoElement t p → has x (children_of t p) ≡ false
element-free t x i p none = elim (cases_bool (has x (children_of t p))) [ inl b ↦ absurd (none x b i) | inr b ↦ b ]

-- an open element leaves its parent
module _ (s : List ℕ) (l : List Entry) (t u : Tree) (n x : ℕ) (h f d : Option ℕ) (r : IsUnlinked t u x) where
  pub detached-under_way : IsOpen (open_at s l u) → named t tag.Body x ≡ true → x < length t.labels → IsUnderWay s l t n h f d → IsUnderWay s l u n h f (Some x)
  detached-under_way o b w p = (let q : length u.labels ≡ length t.labels = ap length r.same_labels in
      let g = same-first-under_way s s l l t u n n h f d p o refl (omega arith) (λ y b. ap (λ ls. essence (label_in ls y)) r.same_labels) (λ y j k. p.tokens y j (sym (ap (λ ls. origin_in (label_in ls y)) r.same_labels) ∙ k)) in
      record {
        is_open = g.is_open;
        some_node = g.some_node;
        first = g.first;
        root = g.root;
        tokens = g.tokens;
        head = g.head;
        form = g.form;
        detached = λ y k. (let z : x ≡ y = (let c : Some x ≡ Some y = k in cc) in
            (subst (λ v. v < length u.labels) z (omega arith), subst (λ v. named u tag.Body v ≡ true) z (ap (λ ls. is_same (tag_in (label_in ls x)) tag.Body) r.same_labels ∙ b)));
      })

  pub detached-since : IsElement (label_of t x) → d ≡ None → more t.steps 0 ≤ u.steps → SinceBy (Unit {0}) (state_of s l t n h f d) (state_of s l u n h f (Some x))
  detached-since i none steps = (let q : length u.labels ≡ length t.labels = ap length r.same_labels in record {
    first = λ y k. k;
    no_fewer = omega arith;
    tokens = omega arith;
    labels = λ y b. ap (λ ls. essence (label_in ls y)) r.same_labels;
    off = λ y k. k.off;
    children = λ y k e. r.children_are y ∙ without-none x (children_of t y) (element-free t x i y e);
    texts = λ y z k e b. ap (λ ls. label_in ls z) r.same_labels;
    linked = λ y b k. elim (cases_eqb y x) [
      | inl w ↦ inr (inl (ap Some (sym w.1)))
      | inr w ↦ inr (inr (subst (λ v. y < v) q b, (let c : parent_of u y ≡ parent_of t y = r.parent_is y ∙ rw w.0 refl in sym c ∙ k)))
    ];
    root = λ k. (elim (cases_eqb 0 x) [ inl w ↦ r.parent_is 0 ∙ rw w.0 refl | inr w ↦ (let c : parent_of u 0 ≡ parent_of t 0 = r.parent_is 0 ∙ rw w.0 refl in c ∙ k) ]);
    detached = λ y k. absurd (let c : None ≡ Some y = sym none ∙ k in cc);
    replaced = λ y k. inr tt;
    proper = λ y p b. (let b' : y < length t.labels = subst (λ v. y < v) q b in
        old-proper (state_of s l t n h f d) (state_of s l u n h f (Some x)) (λ z b. ap (λ ls. essence (label_in ls z)) r.same_labels) (λ z k. k.off)
        (λ z k e. r.children_are z ∙ without-none x (children_of t z) (element-free t x i z e)) y b' (p b'));
    steps = steps;
  })

pub detached-steps : (t u : Tree) (x : ℕ) (o : Option ℕ) → u ≡ detached t x o → more t.steps 0 ≤ u.steps
detached-steps t u x None e = (let k : u.steps ≡ more t.steps 1 = ap (λ (v : Tree). v.steps) e in omega (arith, k))
detached-steps t u x (Some p) e = (let k : u.steps ≡ more t.steps 1 = ap (λ (v : Tree). v.steps) e in omega (arith, k))

-- a step is counted first
pub keeps-charged : (a b : State) (s : List ℕ) (l : List Entry) (t t1 : Tree) (n k : ℕ) (h f d : Option ℕ) → state_of s l t n h f d ≡ a → t1 ≡ charged t k → Since (state_of s l t1 n h f d) b → Keeps a b
keeps-charged a b s l t t1 n k h f d w e i = λ z y. keeps-since (state_of s l t1 n h f d) b i z (read-keeps a s l t t1 n k h f d w e z y)

-- so is it where the node was taken out of the tree, and a frameset was made since
pub apart-charged : (a b : State) (s : List ℕ) (l : List Entry) (t t1 : Tree) (n k : ℕ) (h f d : Option ℕ) → state_of s l t n h f d ≡ a → t1 ≡ charged t k → SinceBy (Unit {0}) (state_of s l t1 n h f d) b
    → (z c : State) → Since z a → Since b c → HasFrameset c.tree → Since z c
apart-charged a b s l t t1 n k h f d w e i z c y g p =
    since-by (Unit {0}) (HasFrameset c.tree) (HasFrameset c.tree) z b c (λ u. p) (λ u. u)
    (since-by (HasFrameset (bare t1)) (Unit {0}) (Unit {0}) z (state_of s l t1 n h f d) b (λ u. tt) (λ u. u) (read-keeps a s l t t1 n k h f d w e z y) i) g

pub detached-one : (t u : Tree) (x : ℕ) (o : Option ℕ) → u ≡ detached t x o → u.steps ≡ more t.steps 1
detached-one t u x None e = ap (λ (v : Tree). v.steps) e
detached-one t u x (Some p) e = ap (λ (v : Tree). v.steps) e

pub detached-limits : (t u : Tree) (x : ℕ) (o : Option ℕ) → u ≡ detached t x o → u.limits ≡ t.limits
detached-limits t u x None e = ap (λ (v : Tree). v.limits) e
detached-limits t u x (Some p) e = ap (λ (v : Tree). v.limits) e

pub detached-held : (t u : Tree) (x : ℕ) (o : Option ℕ) → u ≡ detached t x o → u.held ≡ t.held
detached-held t u x None e = ap (λ (v : Tree). v.held) e
detached-held t u x (Some p) e = ap (λ (v : Tree). v.held) e
