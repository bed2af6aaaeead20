-- The text at a place.
use Rattle.std.proofs.Common.{◌≡◌, ℕ, ◌+◌, ◌<◌, Bool, true, false, List, [], ◌∷◌, ◌++◌, length, Option, Some, None, IfSome, ◌⊎◌, inl, inr, refl, sym, ◌∙◌, ap, subst, arith, length-append}
use Rattle.html_names.specs.Tags.{is_same}
use Rattle.html_names.specs.declared.tag.Tag.TheVariants as tag
use Rattle.html_arena.specs.declared.data.NewNode.{NewNode}
use Rattle.html_arena.specs.declared.data.NewNode.TheVariants as new
use Rattle.html_arena.specs.declared.data.NodeData.TheVariants as node
use Rattle.html_arena.specs.declared.data.Origin.TheVariants.{Nothing, Token}
use Rattle.html_arena.specs.Budget.{budget, budget_of}
use Rattle.html_arena.specs.Data.{IsElement, tag_in}
use Rattle.html_arena.specs.Make.{has_contents, made}
use Rattle.html_arena.specs.Siblings.{before, has, last_of}
use Rattle.html_arena.specs.Tree.{Tree, WellFormed, children_of, inserted, label_of, more, parent_of, sibling}
use Rattle.html_open.specs.declared.entry.Entry.{Entry}
use Rattle.html_arena.specs.declared.arena.ArenaError.{ArenaError}
use Rattle.html_open.specs.declared.places.Place.{Place}
use Rattle.html_open.specs.declared.places.Place.TheVariants.{Before, Last}
use Rattle.html_open.specs.Marking.{bare}
use Rattle.html_open.specs.Placing.{parent_at, place_of, put}
use Rattle.html_open.proofs.Keeps.{cases_bool}
use Rattle.html_open.proofs.Limits.{put-limits}
use Rattle.html_tree.specs.declared.groups.Target.TheVariants as target
use Rattle.html_tree.specs.Inserting.{IsBudget, IsLack, IsNew, IsPassed, with_new}
use Rattle.html_tree.specs.Since.{IsClosed}
use Rattle.html_tree.specs.States.{IsUnderWay, State, state_of}
use Rattle.html_tree.specs.Texts.{IsFree, IsTextLack, IsTextPassed, if_text, place_here, text_before, tree_or_new, with_text_node}
use Rattle.html_tree.proofs.Inserted.{target-free}
use Rattle.html_tree.proofs.Spelled.{lack-budget}

if-bare : (t : Tree) (o : Option ℕ) → if_text (bare t) o ≡ if_text t o
if-bare t None = refl
if-bare t (Some x) = refl

before-bare : (t : Tree) (p : Place) → text_before (bare t) p ≡ text_before t p
before-bare t (Last q) = if-bare t (last_of (children_of t q))
before-bare t (Before b) = by (parent_of t b)
  where
    by : (o : Option ℕ) → if_text (bare t) (sibling before o (bare t) b) ≡ if_text t (sibling before o t b)
    by None = refl
    by (Some q) = if-bare t (before b (children_of t q))

pub text-same : (t u : Tree) (p : Place) → bare u ≡ bare t → text_before u p ≡ text_before (bare t) p
text-same t u p e = sym (before-bare u p) ∙ ap (λ v. text_before v p) e

pub if-some : {X : Type 0} {P Q : X → Type 0} (o : Option X) → IfSome o P → ((x : X) → P x → Q x) → IfSome o Q
if-some None p f = tt
if-some (Some x) p f = f x p

-- what stands in the parent of the place for the current node is in no element that was closed and holds no element
pub free-here : (s : List ℕ) (l : List Entry) (t : Tree) (n : ℕ) (h f d : Option ℕ) (foster : Bool) (x : ℕ) → IsUnderWay s l t n h f d → WellFormed t → 0 < length s
    → parent_of t x ≡ parent_at t (place_of t s None foster) → IsFree (state_of s l t n h f d) x
free-here s l t n h f d foster x p w o e = λ q i none. elim (cases_bool (has x (children_of t q))) [
  | inl b ↦ absurd (target-free s l t n h f d (target.Current foster) p w o q i none (sym e ∙ w.child_has_parent q x b))
  | inr b ↦ b
]

-- and so is a new text there
module _ (s : List ℕ) (l : List Entry) (t u : Tree) (n k : ℕ) (h f d : Option ℕ) (foster : Bool) where
  pub new-free : IsUnderWay s l t n h f d → WellFormed u → 0 < length s → IsNew t u (place_of t s None foster) new.Text k → IsFree (state_of s l u n h f d) (length t.labels)
  new-free p w o e = λ q i none. elim (cases_bool (has (length t.labels) (children_of u q))) [
    | inl b ↦ absurd (let par : parent_of u (length t.labels) ≡ Some q = w.child_has_parent q (length t.labels) b in
        let old = older q i in
        target-free s l t n h f d (target.Current foster) p e.well_formed o q (closed q i old) (λ c j m. none c (child q c old j) (subst IsElement (sym (e.laws.same_labels c (e.well_formed.child_in q c j))) m)) (sym e.laws.parent_is ∙ par))
    | inr b ↦ b
  ]
    where
      order : (a b : ℕ) → (a < b) ⊎ ((a ≡ b) ⊎ (b < a))
      order a b = grind arith

      text-only : IsElement (node.Text []) → ⊥
      text-only i = i

      older : (q : ℕ) → IsClosed (state_of s l u n h f d) q → q < length t.labels
      older q i = elim (order q (length t.labels)) [
        | inl a ↦ a
        | inr a ↦ elim a [
          | inl b ↦ absurd (text-only (subst IsElement e.laws.label_is (subst (λ v. IsElement (label_of u v)) b i.element)))
          | inr b ↦ absurd (let g : length u.labels ≡ length (t.labels ++ node.Text [] ∷ []) = ap length e.labels_are in let m = i.node_in in let z = length-append t.labels (node.Text [] ∷ []) in omega (arith, g, m, z, b))
        ]
      ]

      closed : (q : ℕ) → IsClosed (state_of s l u n h f d) q → q < length t.labels → IsClosed (state_of s l t n h f d) q
      closed q i b = record { node_in = b; element = subst IsElement (e.laws.same_labels q b) i.element; not_head = ap (λ v. is_same (tag_in v) tag.Head) (sym (e.laws.same_labels q b)) ∙ i.not_head; off = i.off }

      child : (q c : ℕ) → q < length t.labels → has c (children_of t q) ≡ true → has c (children_of u q) ≡ true
      child q c b j = w.parent_has_child q c (e.laws.same_parents c (e.well_formed.child_in q c j) ∙ e.well_formed.child_has_parent q c j)

-- a text comes from no token
pub text-own : (m i : ℕ) → Nothing ≡ Token i → i < m
text-own m i e = absurd (let q : Nothing ≡ Token i = e in cc)

-- the budget of the first code point of a new text
put-count : (t : Tree) (p : Place) (c : ℕ) → length (put t p c).labels ≡ length t.labels
put-count t (Last q) c = refl
put-count t (Before b) c = by (parent_of t b)
  where
    by : (o : Option ℕ) → length (inserted t c b o).labels ≡ length t.labels
    by None = refl
    by (Some q) = refl

put-held : (t : Tree) (p : Place) (c : ℕ) → (put t p c).held ≡ t.held
put-held t (Last q) c = refl
put-held t (Before b) c = by (parent_of t b)
  where
    by : (o : Option ℕ) → (inserted t c b o).held ≡ t.held
    by None = refl
    by (Some q) = refl

new-budget : (t : Tree) (p : Place) → budget (with_new t p new.Text) 0 1 ≡ budget t 1 1
new-budget t p =
    let a : (with_new t p new.Text).limits ≡ t.limits = put-limits (made t new.Text) p (length t.labels) in
    let b : length (with_new t p new.Text).labels + 0 ≡ length t.labels + 1 = (let k = put-count (made t new.Text) p (length t.labels) in let z = length-append t.labels (node.Text [] ∷ []) in omega (arith, k, z)) in
    let c : more (with_new t p new.Text).held 1 ≡ more t.held 1 = (let k = put-held (made t new.Text) p (length t.labels) in omega (arith, k)) in
    ap (λ v. budget_of v (length (with_new t p new.Text).labels + 0) (more (with_new t p new.Text).held 1)) a
    ∙ ap (λ v. budget_of t.limits v (more (with_new t p new.Text).held 1)) b
    ∙ ap (λ v. budget_of t.limits (length t.labels + 1) v) c

pub text-lack : (t : Tree) (p : Place) (o : Option ℕ) (e : ArenaError) → IsLack (budget (tree_or_new t p o) 0 1) e → IsTextLack t o e
text-lack t p None e h = lack-budget (budget t 1 1) e (subst (λ v. IsLack v e) (new-budget t p) h)
text-lack t p (Some x) e h = h

-- a new node keeps the limits
pub made-limits : (t : Tree) (d : NewNode) → (made t d).limits ≡ t.limits
made-limits t d = by (has_contents d) refl
  where
    by : (b : Bool) → has_contents d ≡ b → (made t d).limits ≡ t.limits
    by true h = rw h refl
    by false h = rw h refl

pub new-limits : (t : Tree) (at : Place) (d : NewNode) → (with_new t at d).limits ≡ t.limits
new-limits t at d = put-limits (made t d) at (length t.labels) ∙ made-limits t d

-- and so does text
pub text-limits : (a : State) (foster : Bool) → (with_text_node a foster).limits ≡ a.tree.limits
text-limits a foster = by (text_before a.tree (place_here a foster))
  where
    by : (o : Option ℕ) → (tree_or_new a.tree (place_here a foster) o).limits ≡ a.tree.limits
    by None = new-limits a.tree (place_here a foster) new.Text
    by (Some x) = refl

-- one code point more than what there is with the text would pass them
pub text-passed : (a m b : State) (foster : Bool) (e : ArenaError) → m.tree ≡ with_text_node a foster → IsPassed m b 0 1 e → IsTextPassed a b e
text-passed a m b foster e q k =
    inr (subst (λ v. IsBudget (budget_of v (length b.tree.labels + 0) (more b.tree.held 1)) e) (ap (λ (t : Tree). t.limits) q ∙ text-limits a foster) k)
