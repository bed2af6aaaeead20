-- Elements are taken off the stack, and entries off the list, one after another.
use Rattle.std.proofs.Common.{◌≡◌, ℕ, ◌<◌, ◌≤◌, true, List, [], ◌∷◌, ◌++◌, length, take, drop, Option, Some, None, refl, sym, ◌∙◌, ap, subst, append_assoc, length-append, arith}
use Rattle.std.proofs.lemmas.List.{append-nil}
use Rattle.html_arena.specs.declared.marks.Mark.{Mark}
use Rattle.html_arena.specs.declared.marks.Mark.TheVariants.{OnStack, InList}
use Rattle.html_arena.specs.declared.data.NodeData.{NodeData}
use Rattle.html_arena.specs.Siblings.{has}
use Rattle.html_arena.specs.Tree.{Tree, WellFormed}
use Rattle.html_open.specs.declared.entry.Entry.{Entry}
use Rattle.html_open.specs.declared.entry.Entry.TheVariants.{Marker, Node}
use Rattle.html_open.specs.Entries.{IsTaken, node_in, nodes_of}
use Rattle.html_open.specs.Lists.{with_last}
use Rattle.html_open.specs.Marking.{all_unmarked, charged, unmarked}
use Rattle.html_open.specs.Opened.{open_at, AreNodes, IsOpen}
use Rattle.html_open.proofs.Keeps.{take-keeps, take_list-keeps, nodes-append, has-append}

pub take-front : {X : Type 0} (xs ys : List X) → take (length xs) (xs ++ ys) ≡ xs
take-front [] ys = refl
take-front (x ∷ xs) ys = ap (λ zs. x ∷ zs) (take-front xs ys)

pub drop-front : {X : Type 0} (xs ys : List X) → drop (length xs) (xs ++ ys) ≡ ys
drop-front [] ys = refl
drop-front (x ∷ xs) ys = drop-front xs ys

pub front : {X : Type 0} (n : ℕ) (xs ys zs : List X) → zs ≡ xs ++ ys → length xs ≡ n → (xs ≡ take n zs) × (ys ≡ drop n zs)
front n xs ys zs e f = (
  sym (take-front xs ys) ∙ ap (take (length xs)) (sym e) ∙ ap (λ k. take k zs) f,
  sym (drop-front xs ys) ∙ ap (drop (length xs)) (sym e) ∙ ap (λ k. drop k zs) f,
)

-- counted steps stay counted
pub all_unmarked-charged : (t : Tree) (m : Mark) (n : ℕ) (xs : List ℕ) → all_unmarked (charged t n) m xs ≡ charged (all_unmarked t m xs) n
all_unmarked-charged t m n [] = refl
all_unmarked-charged t m n (x ∷ xs) = ap (λ (u : Tree). unmarked u m (Some x)) (all_unmarked-charged t m n xs)

unmarked-labels : (t : Tree) (m : Mark) (o : Option ℕ) → (unmarked t m o).labels ≡ t.labels
unmarked-labels t m None = refl
unmarked-labels t m (Some x) = refl

pub record Popping (len : ℕ) (s0 : List ℕ) (t0 : Tree) (s : List ℕ) (t : Tree) : Type 0 where
  pub popped : List ℕ
  pub high : len ≤ length s
  pub split : s0 ≡ s ++ popped
  pub tree_is : t ≡ all_unmarked t0 OnStack popped
  pub nodes : AreNodes t s
  pub keeps : (l : List Entry) → IsOpen (open_at s0 l t0) → IsOpen (open_at s l t)

pub popping-begin : (len : ℕ) (s : List ℕ) (t : Tree) → len ≤ length s → AreNodes t s → Popping len s t s t
popping-begin len s t h n = record { popped = []; high = h; split = sym (append-nil s); tree_is = refl; nodes = n; keeps = λ l k. k }

pub popping-step : (len : ℕ) (s0 : List ℕ) (t0 : Tree) (s : List ℕ) (t : Tree) (s' : List ℕ) (t' : Tree) (o : Option ℕ)
    → Popping len s0 t0 s t → len < length s → WellFormed t → s ≡ with_last s' o → (o ≡ None → s ≡ []) → t' ≡ unmarked t OnStack o
    → Popping len s0 t0 s' t' × (length s' < length s)
popping-step len s0 t0 s t s' t' None p l w e n f = absurd (let z = ap length (n refl) in omega arith)
popping-step len s0 t0 s t s' t' (Some x) p l w e n f =
    let size = ap length e in
    let more = length-append s' (x ∷ []) in (
      record {
        popped = x ∷ p.popped;
        high = omega arith;
        split = p.split ∙ ap (λ v. v ++ p.popped) e ∙ append_assoc s' (x ∷ []) p.popped;
        tree_is = f ∙ ap (λ (u : Tree). unmarked u OnStack (Some x)) p.tree_is;
        nodes = λ y h. subst (λ (v : Tree). y < length v.labels) (sym f) (p.nodes y (subst (λ (v : List ℕ). has y v ≡ true) (sym e) (has-append y s' (x ∷ []) ∙ rw h refl)));
        keeps = λ l k. take-keeps s s' l t t' (Some x) w.as_many_marks e f (p.keeps l k);
      },
      omega arith,
    )

pub popping-end : (len : ℕ) (s0 : List ℕ) (t0 : Tree) (s : List ℕ) (t : Tree) → Popping len s0 t0 s t → length s ≤ len → (s ≡ take len s0) × (t ≡ all_unmarked t0 OnStack (drop len s0))
popping-end len s0 t0 s t p l =
    let h = p.high in
    let n : length s ≡ len = omega arith in
    let r = front len s p.popped s0 p.split n in
    (r.0, p.tree_is ∙ ap (all_unmarked t0 OnStack) r.1)

pub record Taking (len : ℕ) (l0 : List Entry) (t0 : Tree) (l : List Entry) (t : Tree) : Type 0 where
  pub taken : List Entry
  pub high : len ≤ length l
  pub split : l0 ≡ l ++ taken
  pub tree_is : t ≡ all_unmarked t0 InList (nodes_of taken)
  pub nodes : AreNodes t (nodes_of l)
  pub keeps : (s : List ℕ) → IsOpen (open_at s l0 t0) → IsOpen (open_at s l t)

pub taking-begin : (len : ℕ) (l : List Entry) (t : Tree) → len ≤ length l → AreNodes t (nodes_of l) → Taking len l t l t
taking-begin len l t h n = record { taken = []; high = h; split = sym (append-nil l); tree_is = refl; nodes = n; keeps = λ s k. k }

tree-step : (t t' t0 : Tree) (e : Entry) (es : List Entry) → t ≡ all_unmarked t0 InList (nodes_of es) → t' ≡ unmarked t InList (node_in (Some e)) → t' ≡ all_unmarked t0 InList (nodes_of (e ∷ es))
tree-step t t' t0 Marker es a b = b ∙ a
tree-step t t' t0 (Node x) es a b = b ∙ ap (λ (u : Tree). unmarked u InList (Some x)) a

pub taking-step : (len : ℕ) (l0 : List Entry) (t0 : Tree) (l : List Entry) (t : Tree) (l' : List Entry) (t' : Tree)
    → Taking len l0 t0 l t → len < length l → WellFormed t → IsTaken l l' t t' → Taking len l0 t0 l' t' × (length l' < length l)
taking-step len l0 t0 l t l' t' p h w k =
    let size = ap length k.list_was in
    let more = length-append l' (k.entry ∷ []) in
    let labels : t'.labels ≡ t.labels = ap (λ (u : Tree). u.labels) k.tree_is ∙ unmarked-labels t InList (node_in (Some k.entry)) in (
      record {
        taken = k.entry ∷ p.taken;
        high = omega arith;
        split = p.split ∙ ap (λ v. v ++ p.taken) k.list_was ∙ append_assoc l' (k.entry ∷ []) p.taken;
        tree_is = tree-step t t' t0 k.entry p.taken p.tree_is k.tree_is;
        nodes = λ y h. subst (λ (v : List NodeData). y < length v) (sym labels)
            (p.nodes y (subst (λ (v : List ℕ). has y v ≡ true) (sym (ap nodes_of k.list_was ∙ nodes-append l' (k.entry ∷ []))) (has-append y (nodes_of l') (nodes_of (k.entry ∷ [])) ∙ rw h refl)));
        keeps = λ s i. take_list-keeps s l l' t t' k.entry w.as_many_marks k.list_was k.tree_is (p.keeps s i);
      },
      omega arith,
    )

pub taking-end : (len : ℕ) (l0 : List Entry) (t0 : Tree) (l : List Entry) (t : Tree) → Taking len l0 t0 l t → length l ≤ len
    → (l ≡ take len l0) × (t ≡ all_unmarked t0 InList (nodes_of (drop len l0)))
taking-end len l0 t0 l t p h =
    let b = p.high in
    let n : length l ≡ len = omega arith in
    let r = front len l p.taken l0 p.split n in
    (r.0, p.tree_is ∙ ap (λ v. all_unmarked t0 InList (nodes_of v)) r.1)
