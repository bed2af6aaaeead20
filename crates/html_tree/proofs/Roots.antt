-- The root of a fragment, and what is always true.
use Rattle.std.proofs.Common.{◌≡◌, ℕ, zero, suc, ◌<◌, true, List, [], ◌∷◌, length, Option, Some, None, Result, Ok, Err, refl, sym, ◌∙◌, ap, subst, arith}
use Rattle.html_names.specs.Names.{tag_of}
use Rattle.html_names.specs.Tags.{is_same}
use Rattle.html_names.specs.declared.tag.Tag.TheVariants as tag
use Rattle.html_arena.specs.declared.arena.ArenaError.{ArenaError}
use Rattle.html_arena.specs.declared.arena.ArenaError.TheVariants as arena
use Rattle.html_arena.specs.declared.arena.Limits.{Limits}
use Rattle.html_arena.specs.declared.data.NewNode.TheVariants as new
use Rattle.html_arena.specs.declared.data.Origin.TheVariants.{Implied, Token}
use Rattle.html_arena.specs.Budget.{RefusedBy}
use Rattle.html_arena.specs.Data.{IsElement, label_in, origin_in, tag_in}
use Rattle.html_arena.specs.Make.{has_contents, label_for, made}
use Rattle.html_arena.specs.Siblings.{first_of}
use Rattle.html_arena.specs.Tree.{Tree, empty_tree, label_of, named}
use Rattle.html_open.specs.declared.entry.Entry.{Entry}
use Rattle.html_open.specs.Marking.{bare}
use Rattle.html_open.specs.Opened.{CanPush, IsOpen, IsOrdered, open_at, origin_at}
use Rattle.html_tree.specs.Inserting.{IsBudget, rest_of}
use Rattle.html_tree.specs.States.{IsSound, IsUnderWay, state_of}
use Rattle.html_tree.proofs.Inserted.{beyond, element-element, element-origin, element-tag, made-labels}

pub refused-budget : (r : Result (Unit {0}) ArenaError) (e : ArenaError) → RefusedBy r e → IsBudget r e
refused-budget (Ok u) e h = subst (λ v. IsBudget (Ok u) v) (sym h) tt
refused-budget (Err arena.OutOfMemory) e h = subst (λ v. IsBudget (Err arena.OutOfMemory) v) (sym h) tt
refused-budget (Err arena.NodeBudget) e h = subst (λ v. IsBudget (Err arena.NodeBudget) v) (sym h) refl
refused-budget (Err arena.HeldBudget) e h = subst (λ v. IsBudget (Err arena.HeldBudget) v) (sym h) refl

module _ (limits : Option Limits) (u : Tree) (n : List ℕ) (g : tag_of n ≡ tag.Html) (e : u ≡ made (empty_tree limits) (new.Element n [] Implied)) where
  labels : u.labels ≡ label_for (empty_tree limits) (new.Element n [] Implied) ∷ rest_of 0 (has_contents (new.Element n [] Implied))
  labels = ap (λ (v : Tree). v.labels) e ∙ made-labels (empty_tree limits) (new.Element n [] Implied)

  root-element : IsElement (label_of u 0)
  root-element = subst (λ ds. IsElement (label_in ds 0)) (sym labels) (element-element (empty_tree limits) n [] Implied)

  some-node : 0 < length u.labels
  some-node = (let k = ap length labels in omega (arith, k))

  pub root-can_push : CanPush (open_at [] [] u) 0
  root-can_push = record {
    node_in = some-node;
    element = root-element;
    absent = refl;
    not_above = λ y h. absurd cc;
    origin_new = λ i y h a b. absurd cc;
    shared = λ i y h a b. absurd cc;
  }

  no-implied : (i : ℕ) → Implied ≡ Token i → ⊥
  no-implied i h = absurd (let q : Implied ≡ Token i = h in cc)

  no-tokens : (x i : ℕ) → origin_at u x ≡ Token i → ⊥
  no-tokens zero i h = no-implied i (sym (ap (λ ds. origin_in (label_in ds 0)) labels ∙ element-origin (empty_tree limits) n [] Implied) ∙ h)
  no-tokens (suc x) i h = beyond 0 (has_contents (new.Element n [] Implied)) (label_for (empty_tree limits) (new.Element n [] Implied)) [] (suc x) i (omega arith) (sym (ap (λ ds. origin_in (label_in ds (suc x))) labels) ∙ h)

  pub root-under_way : (s : List ℕ) (v : Tree) → v.labels ≡ u.labels → s ≡ 0 ∷ [] → IsOpen (open_at s [] v) → IsUnderWay s [] v 0 None None None
  root-under_way s v vl i o = record {
    is_open = o;
    some_node = (let k = some-node in let q : length v.labels ≡ length u.labels = ap length vl in omega (arith, k, q));
    first = λ x z. (let y : 0 ≡ x = (let c : Some 0 ≡ Some x = sym (ap first_of i) ∙ z in cc) in
        let k = some-node in let q : length v.labels ≡ length u.labels = ap length vl in
        (omega (arith, k, q, y), subst (λ w. named v tag.Html w ≡ true) y (ap (λ ds. is_same (tag_in (label_in ds 0)) tag.Html) (vl ∙ labels) ∙ ap (λ b. is_same b tag.Html) (element-tag (empty_tree limits) n [] Implied ∙ g))));
    root = λ h. ap first_of i;
    tokens = λ x j h. absurd (no-tokens x j (sym (ap (λ ds. origin_in (label_in ds x)) vl) ∙ h));
    head = λ x z. absurd (let k = z in cc);
    form = λ x z. absurd (let k = z in cc);
    detached = λ x z. absurd (let k = z in cc);
  }

pub sound : (s : List ℕ) (l : List Entry) (t : Tree) (n : ℕ) (h f d : Option ℕ) → IsUnderWay s l t n h f d → IsSound (state_of s l t n h f d)
sound s l t n h f d p = record {
  stack_in = p.is_open.stack_in;
  elements = p.is_open.elements;
  stack_once = p.is_open.stack_once;
  ordered = bare-ordered s p.is_open.ordered;
  first = p.first;
  root = p.root;
  some_node = p.some_node;
  list_in = p.is_open.list_in;
  formatting = p.is_open.formatting;
  list_once = p.is_open.list_once;
  stack_origins = p.is_open.stack_origins;
  list_origins = p.is_open.list_origins;
  shared_origins = p.is_open.shared_origins;
  tokens = p.tokens;
  head = p.head;
  form = p.form;
  detached = p.detached;
}
  where
    bare-ordered : (xs : List ℕ) → IsOrdered t xs → IsOrdered (bare t) xs
    bare-ordered [] o = tt
    bare-ordered (x ∷ xs) o = (o.0, bare-ordered xs o.1)

-- without limits no budget is told
pub no-budget : (e : ArenaError) → IsBudget (Ok tt) e → e ≡ arena.OutOfMemory
no-budget arena.OutOfMemory h = refl
no-budget arena.NodeBudget h = absurd (let k = h in cc)
no-budget arena.HeldBudget h = absurd (let k = h in cc)
