-- A round, and the place to which it moves what it clones.
use Rattle.std.proofs.Common.{◌≡◌, ℕ, zero, suc, ◌+◌, ◌-◌, ◌<◌, Bool, true, false, List, [], ◌∷◌, ◌++◌, length, take, drop, get_or, Some, refl, sym, ◌∙◌, ap, subst, append_assoc, arith}
use Rattle.std.specs.List.{list_any}
use Rattle.html_names.specs.declared.tag.Tag.{Tag}
use Rattle.html_names.specs.declared.tag.Tag.TheVariants as tag
use Rattle.html_names.specs.Tags.{is_same}
use Rattle.html_arena.specs.Siblings.{first_of, has}
use Rattle.html_arena.specs.Tree.{Tree, WellFormed}
use Rattle.html_open.specs.declared.entry.Entry.{Entry}
use Rattle.html_open.specs.declared.places.Place.{Place}
use Rattle.html_open.specs.declared.places.Place.TheVariants.{Last, Before}
use Rattle.html_open.specs.AdoptFinding.{element_in_scope, IsBlock, special}
use Rattle.html_open.specs.Adopting.{IsFirstFree, IsKept, IsRegrouped, Round, clones_down}
use Rattle.html_open.specs.Hanging.{chain_top, chained, with_put}
use Rattle.html_open.specs.Opened.{IsOpen, IsOrdered, Open, open_at}
use Rattle.html_open.specs.Placing.{CanPlace, IsPlace, place_at, way_up}
use Rattle.html_open.specs.Entries.{has_node, nodes_of}
use Rattle.html_open.proofs.Finding.{last_named-in}
use Rattle.html_open.proofs.Keeps.{Core, core}
use Rattle.html_open.proofs.Lists.{get_or-default}
use Rattle.html_open.proofs.Ordering.{has-left}
use Rattle.html_open.proofs.Upwards.{has-first}
use Rattle.html_open.proofs.SafePlaces.{no-table-after, no-template-after, place-safe}
use Rattle.html_open.proofs.Splitting.{before-in, between, front-is, rest-of, split}

-- other steps are counted
abbrev pub stepped : Tree → ℕ → Tree
stepped t a = record t { steps = a }

pub steps-alone : (t u : Tree) (v : ℕ) → u ≡ stepped t v → u ≡ stepped t u.steps
steps-alone t u v e = e ∙ sym (ap (λ (x : Tree). stepped t x.steps) e)

pub steps-then : (t u v : Tree) → u ≡ stepped t u.steps → v ≡ stepped u v.steps → v ≡ stepped t v.steps
steps-then t u v e f = f ∙ ap (λ (x : Tree). stepped x v.steps) e

pub open-stepped : (s : List ℕ) (l : List Entry) (t : Tree) (n : ℕ) → IsOpen (open_at s l t) → IsOpen (open_at s l (stepped t n))
open-stepped s l t n h = record {
  stack_in = h.stack_in;
  elements = h.elements;
  stack_once = h.stack_once;
  ordered = go s h.ordered;
  list_in = h.list_in;
  formatting = h.formatting;
  list_once = h.list_once;
  on_stack = h.on_stack;
  in_list = h.in_list;
  stack_origins = h.stack_origins;
  list_origins = h.list_origins;
  shared_origins = h.shared_origins;
}
  where
    go : (xs : List ℕ) → IsOrdered t xs → IsOrdered (stepped t n) xs
    go [] h = tt
    go (x ∷ xs) h = (h.0, go xs h.1)

pub before-is : (nodes s : List ℕ) → nodes ≡ s → (i x : ℕ) → i < length s → get_or nodes i x ≡ get_or s i 0
before-is nodes s e i x h = ap (λ (v : List ℕ). get_or v i x) e ∙ get_or-default s i x 0 h

-- counted steps change no place
pub way-stepped : (t : Tree) (a : ℕ) (p : Place) → way_up (stepped t a) p ≡ way_up t p
way-stepped t a (Last p) = refl
way-stepped t a (Before p) = refl

pub place-stepped : (t : Tree) (a : ℕ) (p : Place) → IsPlace t p → IsPlace (stepped t a) p
place-stepped t a (Last p) h = h
place-stepped t a (Before p) h = h

pub put-stepped : (t : Tree) (a : ℕ) (p : Place) (c x : ℕ) (ys : List ℕ) → with_put (stepped t a) p c x ys ≡ with_put t p c x ys
put-stepped t a (Last p) c x ys = refl
put-stepped t a (Before p) c x ys = refl

pub block-stepped : (s : Tag) (stack : List ℕ) (entries : List Entry) (t : Tree) (a at b : ℕ) → IsBlock s (open_at stack entries t) at b → IsBlock s (open_at stack entries (stepped t a)) at b
block-stepped s stack entries t a at b k = record {
  formatting = record {
    entry = k.formatting.entry;
    on_stack = k.formatting.on_stack;
    index_is = k.formatting.index_is;
    within = k.formatting.within;
    element_is = k.formatting.element_is;
    in_scope = k.formatting.in_scope;
  };
  block = record { within = k.block.within; after = k.block.after; passes = k.block.passes; none_before = k.block.none_before };
}

module _ (stack : List ℕ) (entries : List Entry) (t : Tree) (at b : ℕ) (w : WellFormed t) (opened : IsOpen (open_at stack entries t)) (s : Tag) (blk : IsBlock s (open_at stack entries t) at b) (pos : 0 < at) (foster : Bool) where
  abbrev f : ℕ
  f = get_or stack at 0

  abbrev inner : List ℕ
  inner = take (b - (at + 1)) (drop (at + 1) stack)

  abbrev g : ℕ
  g = get_or stack b 0

  abbrev upper : List ℕ
  upper = drop (b + 1) stack

  abbrev a : ℕ
  a = get_or stack (at - 1) 0

  abbrev X : List ℕ
  X = take at stack

  abbrev Z : List ℕ
  Z = f ∷ (inner ++ (g ∷ upper))

  lt : at < b
  lt = (let e = blk.block.after in omega arith)

  within : b < length stack
  within = blk.block.within

  split-is : stack ≡ X ++ Z
  split-is = split stack at b lt within

  c : Core (X ++ Z) (nodes_of entries) t
  c = subst (λ (v : List ℕ). Core v (nodes_of entries) t) split-is (core (open_at stack entries t) opened)

  f-listed : has f (nodes_of entries) ≡ true
  f-listed = last_named-in t s entries f blk.formatting.entry

  pub at-less : at - 1 < length stack
  at-less = (let p = lt in let q = within in omega arith)

  pub at-below : at < length stack
  at-below = (let p = lt in let q = within in omega arith)

  pub a-within : a < length t.labels
  a-within = c.stack_in a (has-left a X Z (before-in stack at b lt within pos))

  scope-at : element_in_scope t f (X ++ Z) ≡ true
  scope-at = subst (λ (v : List ℕ). element_in_scope t f v ≡ true) split-is blk.formatting.in_scope

  pub way-in : (y : ℕ) → has y (way_up t (place_at t stack a foster)) ≡ true → y < length t.labels
  way-in y h =
      (place-safe t w X Z a foster c.stack_in c.elements c.stack_once c.ordered (before-in stack at b lt within pos)
      (no-table-after t f X (inner ++ (g ∷ upper)) c.stack_once (c.formatting f f-listed) scope-at) (no-template-after t f X (inner ++ (g ∷ upper)) c.stack_once (c.formatting f f-listed) scope-at)).way_in y
      (subst (λ (v : List ℕ). has y (way_up t (place_at t v a foster)) ≡ true) split-is h)

  pub apart : (y : ℕ) → has y (drop at stack) ≡ true → has y (way_up t (place_at t stack a foster)) ≡ false
  apart y h =
      subst (λ (v : List ℕ). has y (way_up t (place_at t v a foster)) ≡ false) (sym split-is)
      ((place-safe t w X Z a foster c.stack_in c.elements c.stack_once c.ordered (before-in stack at b lt within pos)
      (no-table-after t f X (inner ++ (g ∷ upper)) c.stack_once (c.formatting f f-listed) scope-at) (no-template-after t f X (inner ++ (g ∷ upper)) c.stack_once (c.formatting f f-listed) scope-at)).apart y
      (subst (λ (v : List ℕ). has y v ≡ true) (rest-of stack at b lt within) h))

  pub round-is : (new : Open) (i : ℕ) (target : Place) → target ≡ place_at t stack a foster → IsRegrouped at b target (open_at stack entries (stepped t i)) new → WellFormed new.tree → IsOpen new
      → Round s foster (open_at stack entries t) new
  round-is new i target e r well h = record {
    lower = take (at - 1) stack;
    common_ancestor = a;
    formatting_element = f;
    inner = inner;
    furthest_block = g;
    upper = upper;
    stack_was = split-is ∙ ap (λ v. v ++ Z) (front-is stack at b lt within pos) ∙ append_assoc (take (at - 1) stack) (a ∷ []) Z;
    formatting = blk.formatting.entry;
    in_scope = blk.formatting.in_scope;
    none_between = sym (ap (list_any (special t)) (between stack at b lt within)) ∙ blk.block.none_before;
    block_special = blk.block.passes;
    cloned_elements = r.cloned_elements;
    cloned_are = r.cloned_are;
    new_element = length t.labels + length r.cloned_elements;
    new_element_is = refl;
    stack_is =
        r.stack_is ∙ ap (λ v. v ++ (clones_down (length t.labels) (length r.cloned_elements) ++ (g ∷ (length t.labels + length r.cloned_elements) ∷ upper))) (front-is stack at b lt within pos)
        ∙ append_assoc (take (at - 1) stack) (a ∷ []) (clones_down (length t.labels) (length r.cloned_elements) ++ (g ∷ (length t.labels + length r.cloned_elements) ∷ upper));
    list_is = r.list_is;
    labels_are = r.labels_are;
    children_are = λ x.
        r.children_are x ∙ put-stepped t i target (chain_top g (length t.labels) (length t.labels + length r.cloned_elements)) x (chained t g (length t.labels) (length t.labels + length r.cloned_elements) x)
        ∙ ap (λ (p : Place). with_put t p (chain_top g (length t.labels) (length t.labels + length r.cloned_elements)) x (chained t g (length t.labels) (length t.labels + length r.cloned_elements) x)) e;
    limits_are = r.limits_are;
    well_formed = well;
    is_open = h;
  }

-- the first element stays first
pub front-first : (stack new rest : List ℕ) (at : ℕ) → 0 < at → at < length stack → new ≡ take at stack ++ rest
    → (y : ℕ) × (first_of stack ≡ Some y) × (first_of new ≡ Some y) × (has y (take at stack) ≡ true)
front-first [] new rest at p l e = absurd (omega arith)
front-first (y ∷ ys) new rest zero p l e = absurd (omega arith)
front-first (y ∷ ys) new rest (suc i) p l e = (y, refl, ap first_of e, has-first y (take i ys))

pub can-place-kept : (t v : Tree) (n : ℕ) (entries list : List Entry) (stack new rest : List ℕ) (at : ℕ) → 0 < at → at < length stack → new ≡ take at stack ++ rest
    → ((x : ℕ) → has x (take at stack) ≡ true → IsKept (stepped t n) v entries list x) → CanPlace t stack → CanPlace v new
can-place-kept t v n entries list [] new rest at p l e k c = absurd (omega arith)
can-place-kept t v n entries list (y ∷ ys) new rest zero p l e k c = absurd (omega arith)
can-place-kept t v n entries list (y ∷ ys) new rest (suc i) p l e k c =
    let r = k y (has-first y (take i ys)) in
    subst (CanPlace v) (sym e) (λ h q. c (ap (λ g. is_same g tag.Table) (sym r.tag_is) ∙ h) (sym r.parent_is ∙ q))

pub first-free-kept : (t v : Tree) (entries list : List Entry) (stack new rest : List ℕ) (at : ℕ) → 0 < at → at < length stack → new ≡ take at stack ++ rest
    → ((x : ℕ) → has x (take at stack) ≡ true → IsKept t v entries list x) → IsFirstFree stack entries → IsFirstFree new list
first-free-kept t v entries list stack new rest at p l e k c = λ x h.
    let r = front-first stack new rest at p l e in
    let q : r.0 ≡ x = (let a : Some r.0 ≡ Some x = sym r.2 ∙ h in cc) in
    subst (λ (z : ℕ). has_node z list ≡ false) q ((k r.0 r.3).unlisted (c r.0 r.1))
