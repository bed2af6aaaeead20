-- What is read of a link is a node.
use Rattle.std.proofs.Common.{◌≡◌, ℕ, ◌<◌, true, length, Option, Some, None, refl, sym, ◌∙◌}
use Rattle.std.specs.Prelude.{IfSome}
use Rattle.html_arena.specs.Data.{contents_in, host_in}
use Rattle.html_arena.specs.Siblings.{after, before, first_of, has, last_of}
use Rattle.html_arena.specs.Tree.{Tree, WellFormed, children_of, label_of, parent_of, sibling}
use Rattle.html_arena.proofs.Siblings.{has-after, has-before, has-first, has-last}

if_some : (o : Option ℕ) (P : ℕ → Type 0) → ((x : ℕ) → o ≡ Some x → P x) → IfSome o P
if_some None P h = tt
if_some (Some x) P h = h x refl

module _ (t : Tree) (w : WellFormed t) (x : ℕ) (o : Option ℕ) where
  pub parent_node : o ≡ parent_of t x → IfSome o (λ p. p < length t.labels)
  parent_node e = if_some o _ (λ p h. w.parent_in p x (sym e ∙ h))

  child_node : (c : ℕ) → has c (children_of t x) ≡ true → (c < length t.labels) × (parent_of t c ≡ Some x)
  child_node c h = (w.child_in x c h, w.child_has_parent x c h)

  pub first_node : o ≡ first_of (children_of t x) → IfSome o (λ c. (c < length t.labels) × (parent_of t c ≡ Some x))
  first_node e = if_some o _ (λ c h. child_node c (has-first c (children_of t x) (sym e ∙ h)))

  pub last_node : o ≡ last_of (children_of t x) → IfSome o (λ c. (c < length t.labels) × (parent_of t c ≡ Some x))
  last_node e = if_some o _ (λ c h. child_node c (has-last c (children_of t x) (sym e ∙ h)))

  pub contents_node : o ≡ contents_in (label_of t x) → IfSome o (λ c. (c < length t.labels) × (host_in (label_of t c) ≡ Some x))
  contents_node e = if_some o _ (λ c h. w.templates.contents_is x c (sym e ∙ h))

  pub host_node : o ≡ host_in (label_of t x) → IfSome o (λ c. (c < length t.labels) × (contents_in (label_of t c) ≡ Some x))
  host_node e = if_some o _ (λ c h. w.templates.host_is x c (sym e ∙ h))

module _ (t : Tree) (w : WellFormed t) (x : ℕ) where
  beside : (p : Option ℕ) → parent_of t x ≡ p → (y : ℕ) → sibling after p t x ≡ Some y → (y < length t.labels) × (parent_of t y ≡ p)
  beside None e y h = absurd cc
  beside (Some p) e y h = (let k = has-after x y (children_of t p) h in (w.child_in p y k, w.child_has_parent p y k))

  beside_before : (p : Option ℕ) → parent_of t x ≡ p → (y : ℕ) → sibling before p t x ≡ Some y → (y < length t.labels) × (parent_of t y ≡ p)
  beside_before None e y h = absurd cc
  beside_before (Some p) e y h = (let k = has-before x y (children_of t p) h in (w.child_in p y k, w.child_has_parent p y k))

  pub next_node : (o : Option ℕ) → o ≡ sibling after (parent_of t x) t x → IfSome o (λ y. (y < length t.labels) × (parent_of t y ≡ parent_of t x))
  next_node o e = if_some o _ (λ y h. beside (parent_of t x) refl y (sym e ∙ h))

  pub previous_node : (o : Option ℕ) → o ≡ sibling before (parent_of t x) t x → IfSome o (λ y. (y < length t.labels) × (parent_of t y ≡ parent_of t x))
  previous_node o e = if_some o _ (λ y h. beside_before (parent_of t x) refl y (sym e ∙ h))
