-- A new node at a place: what is left of the others, and that it may be pushed.
use Rattle.std.proofs.Common.{◌≡◌, ◌≢◌, ℕ, ◌<◌, Bool, true, false, cond, List, [], ◌∷◌, ◌++◌, length, Some, inl, inr, sym, ◌∙◌, ap, arith}
use Rattle.html_names.specs.declared.tag.Tag.TheVariants as tag
use Rattle.html_names.specs.Sets.{is_formatting}
use Rattle.html_names.specs.Tags.{is_same}
use Rattle.html_arena.specs.declared.data.NewNode.{NewNode}
use Rattle.html_arena.specs.declared.data.NodeData.{NodeData}
use Rattle.html_arena.specs.declared.marks.Marks.{Marks}
use Rattle.html_arena.specs.Data.{label_in, origin_in, tag_in}
use Rattle.html_arena.specs.Laws.{IsGrown}
use Rattle.html_arena.specs.Make.{has_contents, nodes_made}
use Rattle.html_arena.specs.Marks.{has_mark, no_marks}
use Rattle.html_arena.specs.Siblings.{has}
use Rattle.html_arena.specs.Tree.{Tree, ancestors, children_of, label_of, parent_of}
use Rattle.std.proofs.Common.{get_or}
use Rattle.html_open.specs.declared.entry.Entry.{Entry}
use Rattle.html_open.specs.declared.places.Place.{Place}
use Rattle.html_open.specs.Entries.{nodes_of}
use Rattle.html_open.specs.Hanging.{IsPut}
use Rattle.html_open.specs.Inserting.{HasNew}
use Rattle.html_open.specs.Marking.{charged}
use Rattle.html_open.specs.Opened.{AreNodes, CanList, IsOpen, IsUnseen, open_at, origin_at}
use Rattle.html_open.specs.Placing.{CanPlace, parent_at}
use Rattle.html_open.proofs.Anew.{fresh-absent}
use Rattle.html_open.proofs.Inserted.{parent-same}
use Rattle.html_open.proofs.Keeps.{eqb-self, has-tail}
use Rattle.html_open.proofs.Ordering.{has-either, has-head}
use Rattle.html_open.proofs.Upwards.{has-first}

pub made-some : (n : NewNode) → 0 < nodes_made n
made-some n = by (has_contents n)
  where
    by : (b : Bool) → 0 < cond b 2 1
    by true = omega arith
    by false = omega arith

pub has-new : (t m u : Tree) (p : Place) (c k : ℕ) (d : NodeData) → IsGrown t m k → 0 < k → c ≡ length t.labels → label_of m c ≡ d → IsPut m u p c
    → ((x : ℕ) → x < length m.labels → has c (x ∷ ancestors m x) ≡ false → ancestors u x ≡ ancestors m x)
    → ((x : ℕ) → parent_at m p ≢ Some x → children_of u x ≡ children_of m x)
    → ((x : ℕ) → x ≢ c → parent_of u x ≡ parent_of m x) → HasNew t u p d
has-new t m u p c k d g pos i label q others children parents =
    let n = length t.labels in
    let more = g.longer in
    let same = q.nodes.labels_are in
    let l = ap length same in
    let at_same = parent-same t m p g.same_parent in
    let up : (x : ℕ) → x < n → ancestors u x ≡ ancestors m x = λ x b. others x (omega (arith, b, more)) (g.not_above x c b (omega (arith, i))) in
    record {
      longer = omega (arith, l, more, pos);
      label_is = ap (λ (ls : List NodeData). label_in ls n) same ∙ ap (label_of m) (sym i) ∙ label;
      parent_is = ap (parent_of u) (sym i) ∙ q.parents_are c ∙ ap (λ b. cond b (parent_at m p) (parent_of m c)) (eqb-self c) ∙ at_same;
      not_above = λ x b. ap (has n) (up x b) ∙ (has-tail n x (ancestors m x) (g.not_above x n b (omega arith))).1;
      same_labels = λ x b. ap (λ (ls : List NodeData). label_in ls x) same ∙ g.same_label x b;
      same_parents = λ x b. parents x (λ e. absurd (omega (arith, e, i, b))) ∙ g.same_parent x;
      same_ancestors = λ x b. up x b ∙ g.same_ancestors x b;
      same_children = λ x b ne. children x (λ e. ne (sym at_same ∙ e)) ∙ g.same_children x;
      same_marks = λ k x. ap (λ (ms : List Marks). has_mark k (get_or ms x no_marks)) q.nodes.marks_are ∙ g.same_marks k x;
    }

-- the new node is on the stack, and may be pushed onto the list
pub new-listable : (t v u : Tree) (p : Place) (d : NodeData) (s : List ℕ) (l : List Entry) → HasNew t v p d → u.labels ≡ v.labels → IsOpen (open_at s l t) → is_formatting (tag_in d) ≡ true
    → IsUnseen (open_at s l t) d → CanList (open_at (s ++ length t.labels ∷ []) l u) (length t.labels)
new-listable t v u p d s l r e h f k =
    let n = length t.labels in
    let longer = r.longer in
    let same = ap length e in
    let here : label_of u n ≡ d = ap (λ (ls : List NodeData). label_in ls n) e ∙ r.label_is in
    let old : (y : ℕ) → y < n → origin_at u y ≡ origin_at t y = λ y b. ap (λ (ls : List NodeData). origin_in (label_in ls y)) e ∙ ap origin_in (r.same_labels y b) in
    record {
      node_in = omega (arith, longer, same);
      formatting = ap (λ x. is_formatting (tag_in x)) here ∙ f;
      absent = fresh-absent t (nodes_of l) h.list_in;
      origin_new = λ i y b a c. k.in_list i y b (sym (ap origin_in here) ∙ a) (sym (old y (h.list_in y b)) ∙ c);
      shared = λ i y b a c. elim (has-either y s (n ∷ []) b) [
        | inl q ↦ absurd (k.on_stack i y q (sym (ap origin_in here) ∙ a) (sym (old y (h.stack_in y q)) ∙ c))
        | inr q ↦ elim (has-head y n [] q) [ inl z ↦ sym z | inr z ↦ absurd (let w = z in cc) ]
      ];
    }

-- the first element still takes what has no better place
pub can-place-new : (t v : Tree) (p : Place) (d : NodeData) (s : List ℕ) → HasNew t v p d → AreNodes t s → CanPlace t s → CanPlace v s
can-place-new t v p d [] r b h = h
can-place-new t v p d (x ∷ xs) r b h =
    let l = b x (has-first x xs) in
    λ a q. h (ap (λ y. is_same (tag_in y) tag.Table) (sym (r.same_labels x l)) ∙ a) (sym (r.same_parents x l) ∙ q)

pub can-place-charged : (s : List ℕ) (t : Tree) (n : ℕ) → CanPlace t s → CanPlace (charged t n) s
can-place-charged [] t n h = h
can-place-charged (x ∷ xs) t n h = h
