-- What a round leaves that could not be ended.
use Rattle.std.proofs.Common.{◌≡◌, ℕ, zero, suc, ◌+◌, ◌-◌, ◌<◌, ◌≤◌, Bool, true, false, List, [], ◌∷◌, ◌++◌, length, Option, length-append, map, take, drop, get_or, inl, inr, sym, ◌∙◌, ap, subst, arith}
use Rattle.std.proofs.lemmas.List.{get_or_append_left}
use Rattle.std.specs.List.{sum_by}
use Rattle.html_names.specs.declared.tag.Tag.{Tag}
use Rattle.html_names.specs.declared.tag.Tag.TheVariants as tag
use Rattle.html_names.specs.Tags.{is_same}
use Rattle.html_arena.specs.declared.arena.ArenaError.{ArenaError}
use Rattle.html_arena.specs.declared.arena.Limits.{Limits}
use Rattle.html_arena.specs.declared.data.NewNode.TheVariants.{CloneOf}
use Rattle.html_arena.specs.declared.data.NodeData.{NodeData}
use Rattle.html_arena.specs.declared.data.NodeData.TheVariants.{Document}
use Rattle.html_arena.specs.Budget.{budget_of}
use Rattle.html_arena.specs.Data.{IsElement, cloned, label_in, origin_in, tag_in}
use Rattle.html_arena.specs.Make.{made_weight}
use Rattle.html_arena.specs.Siblings.{first_of, has, last_of}
use Rattle.html_arena.specs.Tree.{Tree, WellFormed, label_of, more}
use Rattle.html_arena.specs.Weight.{capped, weight}
use Rattle.html_arena.proofs.Laws.{ancestors-frame}
use Rattle.html_open.specs.declared.entry.Entry.{Entry}
use Rattle.html_arena.specs.declared.arena.ArenaError.TheVariants.{OutOfMemory, NodeBudget, HeldBudget}
use Rattle.html_open.specs.AdoptFinding.{IsBlock}
use Rattle.html_open.specs.Adopting.{IsFirstFree, IsRefusal, IsStopped, MadeClones, Rounds, no_round, originals, pops_at_once, round_originals}
use Rattle.html_open.specs.Cloning.{AreCloned, IsCut, IsFull}
use Rattle.html_open.specs.Entries.{has_node}
use Rattle.html_open.specs.Opened.{AreNodes, IsOpen, Open, open_at}
use Rattle.html_open.specs.Placing.{CanPlace}
use Rattle.html_open.specs.Reopening.{IsPassed, IsTold, KeepsClosed}
use Rattle.html_open.proofs.Cutting.{budget-is, cut-length, cut-rebase}
use Rattle.html_open.proofs.Edits.{open-alike, ordered-fewer}
use Rattle.html_open.proofs.Finding.{last_named-in}
use Rattle.html_open.proofs.Looping.{rounds-rebase}
use Rattle.html_open.proofs.Numbering.{originals-few, originals-in}
use Rattle.html_open.proofs.Ordering.{has-either, has-head, has-left, has-right}
use Rattle.html_open.proofs.Rounds.{stepped}
use Rattle.html_open.proofs.Upwards.{has-first}

-- the elements that a round clones are in the list, and at most four
originals-listed : (s : Tag) (o : Open) (at b : ℕ) → IsBlock s o at b → (x : ℕ) → has x (round_originals o at b) ≡ true → has_node x o.list ≡ true
originals-listed s o at b k x h = elim (has-either x (originals (λ y. has_node y o.list) (take (b - (at + 1)) (drop (at + 1) o.stack))) (get_or o.stack at 0 ∷ []) h) [
  | inl q ↦ (originals-in (λ y. has_node y o.list) (take (b - (at + 1)) (drop (at + 1) o.stack)) x q).1
  | inr q ↦ elim (has-head x (get_or o.stack at 0) [] q) [
    | inl e ↦ subst (λ (y : ℕ). has_node y o.list ≡ true) (sym e) (last_named-in o.tree s o.list (get_or o.stack at 0) k.formatting.entry)
    | inr e ↦ absurd (let j = e in cc)
  ]
]

originals-length : (o : Open) (at b : ℕ) → length (round_originals o at b) ≤ 4
originals-length o at b =
    let a = originals-few (λ y. has_node y o.list) (take (b - (at + 1)) (drop (at + 1) o.stack)) in
    let c = length-append (originals (λ y. has_node y o.list) (take (b - (at + 1)) (drop (at + 1) o.stack))) (get_or o.stack at 0 ∷ []) in
    omega (arith, a, c)

pub stopped-made : (s : Tag) (o q : Open) (e : ArenaError) → IsStopped s o q e → MadeClones o q.tree
stopped-made s o q e k = record {
  elements = k.cut.done;
  listed = λ x h. originals-listed s o k.at k.b k.block x (subst (λ (ys : List ℕ). has x ys ≡ true) (sym k.cut.all) (has-left x k.cut.done k.cut.rest h));
  labels_are = k.cut.labels_are;
}

pub stopped-closed : (s : Tag) (o q : Open) (e : ArenaError) → IsStopped s o q e → KeepsClosed o q.tree
stopped-closed s o q e k = λ x el off none. k.cut.same_children x

pub stopped-length : (s : Tag) (o q : Open) (e : ArenaError) → IsStopped s o q e → length q.tree.labels ≤ length o.tree.labels + 4
stopped-length s o q e k = (let a = cut-length o.tree q.tree (round_originals o k.at k.b) e k.cut in let c = originals-length o k.at k.b in omega (arith, a, c))

-- steps that were counted before do not matter
block-rebase : (s : Tag) (stack : List ℕ) (entries : List Entry) (t : Tree) (a at b : ℕ) → IsBlock s (open_at stack entries (stepped t a)) at b → IsBlock s (open_at stack entries t) at b
block-rebase s stack entries t a at b k = record {
  formatting = record {
    entry = k.formatting.entry;
    on_stack = k.formatting.on_stack;
    index_is = k.formatting.index_is;
    within = k.formatting.within;
    element_is = k.formatting.element_is;
    in_scope = k.formatting.in_scope;
  };
  block = record { within = k.block.within; after = k.block.after; passes = k.block.passes; none_before = k.block.none_before };
}

stopped-rebase : (s : Tag) (stack : List ℕ) (list : List Entry) (t : Tree) (n : ℕ) (v : Open) (e : ArenaError) → IsStopped s (open_at stack list (stepped t n)) v e → IsStopped s (open_at stack list t) v e
stopped-rebase s stack list t n v e k = record {
  at = k.at;
  b = k.b;
  block = block-rebase s stack list t n k.at k.b k.block;
  stack_is = k.stack_is;
  list_is = k.list_is;
  cut = cut-rebase t n v.tree (round_originals (open_at stack list t) k.at k.b) e k.cut;
}

pub refusal-is : (s : Tag) (foster : Bool) (stack : List ℕ) (list : List Entry) (t : Tree) (n i : ℕ) (o p v : Open) (e : ArenaError) → o ≡ open_at stack list (stepped t n)
    → pops_at_once s (open_at stack list t) (last_of stack) ≡ false → i < 8 → Rounds s foster i o p → IsStopped s p v e → IsRefusal s foster (open_at stack list t) v e
refusal-is s foster stack list t n zero _ _ v e q h l (no_round o) k = record {
  not_popped = h;
  n = zero;
  few = l;
  p = open_at stack list t;
  rounds = no_round (open_at stack list t);
  stopped = stopped-rebase s stack list t n v e (subst (λ w. IsStopped s w v e) q k);
}
refusal-is s foster stack list t n (suc i) o p v e q h l r k = record {
  not_popped = h;
  n = suc i;
  few = l;
  p = p;
  rounds = rounds-rebase s foster stack list t n i o p q r;
  stopped = k;
}

-- what is true between calls is true of the clones that were made, which stand alone
module _ (t v : Tree) (xs : List ℕ) (e : ArenaError) (k : IsCut t v xs e) where
  label-same : (x : ℕ) → x < length t.labels → label_of v x ≡ label_of t x
  label-same x b = ap (λ (ls : List NodeData). label_in ls x) k.labels_are ∙ get_or_append_left t.labels (map (λ y. cloned (label_of t y)) k.done) Document x b

  no-fewer : length t.labels ≤ length v.labels
  no-fewer = (let a = ap length k.labels_are in let b = length-append t.labels (map (λ y. cloned (label_of t y)) k.done) in omega (arith, a, b))

  pub cut-open : (s : List ℕ) (l : List Entry) → WellFormed t → IsOpen (open_at s l t) → IsOpen (open_at s l v)
  cut-open s l w h =
      open-alike s l t v (record {
        no_fewer = no-fewer;
        elements = λ x b g. subst IsElement (sym (label-same x b)) g;
        tags = λ x b. ap tag_in (label-same x b);
        origins = λ x b. ap origin_in (label-same x b);
        marks = k.same_marks;
      }) (ordered-fewer t v s (λ x y b c q. ap (has y) (ancestors-frame t v w x (h.stack_in x b) no-fewer (λ z a. k.same_parents z)) ∙ q) h.ordered) h

  pub cut-can-place : (s : List ℕ) → AreNodes t s → CanPlace t s → CanPlace v s
  cut-can-place [] b c = c
  cut-can-place (x ∷ xs) b c = λ a q. c (ap (λ d. is_same (tag_in d) tag.Table) (sym (label-same x (b x (has-first x xs)))) ∙ a) (sym (k.same_parents x) ∙ q)

-- and so of the round that was stopped
module _ (s : Tag) (o q : Open) (e : ArenaError) (k : IsStopped s o q e) where
  pub stopped-open : WellFormed o.tree → IsOpen o → IsOpen q
  stopped-open w h =
      let r : IsOpen (open_at o.stack o.list q.tree) = cut-open o.tree q.tree (round_originals o k.at k.b) e k.cut o.stack o.list w h in
      subst (λ (v : List ℕ). IsOpen (open_at v q.list q.tree)) (sym k.stack_is) (subst (λ (v : List Entry). IsOpen (open_at o.stack v q.tree)) (sym k.list_is) r)

  pub stopped-same : (length o.tree.labels ≤ length q.tree.labels) × ((x : ℕ) → x < length o.tree.labels → label_of q.tree x ≡ label_of o.tree x)
  stopped-same = (no-fewer o.tree q.tree (round_originals o k.at k.b) e k.cut, label-same o.tree q.tree (round_originals o k.at k.b) e k.cut)

  pub stopped-can-place : IsOpen o → CanPlace o.tree o.stack → CanPlace q.tree q.stack
  stopped-can-place h c = subst (CanPlace q.tree) (sym k.stack_is) (cut-can-place o.tree q.tree (round_originals o k.at k.b) e k.cut o.stack h.stack_in c)

  pub stopped-free : IsFirstFree o.stack o.list → IsFirstFree q.stack q.list
  stopped-free f = λ x a. ap (has_node x) k.list_is ∙ f x (sym (ap first_of k.stack_is) ∙ a)

-- what could not be cloned any more would pass the limits
full-passed : (o q : Open) (cause : ArenaError) (xs done rest : List ℕ) → xs ≡ done ++ rest → ((x : ℕ) → has x xs ≡ true → has_node x o.list ≡ true) → q.list ≡ o.list → IsOpen o → AreCloned o.tree q.tree done
    → q.tree.held ≡ capped (sum_by weight q.tree.labels) → IsFull o.tree done rest cause → IsPassed o.tree.limits q cause
full-passed o q cause xs done [] a l e h c held k = absurd k
full-passed o q cause xs done (x ∷ rest) a l e h c held k =
    let i : has_node x o.list ≡ true = l x (subst (λ (ys : List ℕ). has x ys ≡ true) (sym a) (has-right x done (x ∷ rest) (has-first x rest))) in
    record {
      next = x;
      listed = ap (has_node x) e ∙ i;
      answer_is = ap (λ (m : Option Limits). budget_of m (length q.tree.labels + 1) (more q.tree.held (made_weight q.tree (CloneOf x)))) (sym c.limits_are) ∙ budget-is o.tree q.tree done x (h.list_in x i) c held ∙ k;
    }

cut-cloned : (t v : Tree) (xs : List ℕ) (e : ArenaError) → (k : IsCut t v xs e) → AreCloned t v k.done
cut-cloned t v xs e k = record { labels_are = k.labels_are; same_marks = k.same_marks; same_parents = k.same_parents; same_children = k.same_children; limits_are = k.limits_are }

pub stopped-told : (s : Tag) (o q : Open) (e : ArenaError) → IsStopped s o q e → IsOpen o → q.tree.held ≡ capped (sum_by weight q.tree.labels) → IsTold o.tree.limits q e
stopped-told s o q OutOfMemory k h held = tt
stopped-told s o q NodeBudget k h held =
    full-passed o q NodeBudget (round_originals o k.at k.b) k.cut.done k.cut.rest k.cut.all (originals-listed s o k.at k.b k.block) k.list_is h (cut-cloned o.tree q.tree (round_originals o k.at k.b) NodeBudget k.cut) held k.cut.lacking
stopped-told s o q HeldBudget k h held =
    full-passed o q HeldBudget (round_originals o k.at k.b) k.cut.done k.cut.rest k.cut.all (originals-listed s o k.at k.b k.block) k.list_is h (cut-cloned o.tree q.tree (round_originals o k.at k.b) HeldBudget k.cut) held k.cut.lacking
