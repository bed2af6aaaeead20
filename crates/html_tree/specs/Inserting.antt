-- Claimed, but for this crate's own functions: rest_of, IsNew, IsFor, CanBeFirst.
-- A new node (13.2.6.1).
use Rattle.std.specs.Prelude.{◌≡◌, ℕ, ◌+◌, ◌∷◌, [], ◌++◌, List, length, ◌<◌, ◌≤◌, true, Bool, cond, Result, Ok, Err}
use Rattle.html_names.specs.declared.tag.Tag.{Tag}
use Rattle.html_names.specs.declared.tag.Tag.TheVariants as tag
use Rattle.html_names.specs.Tags.{is_same}
use Rattle.html_arena.specs.declared.arena.ArenaError.{ArenaError}
use Rattle.html_arena.specs.declared.data.Origin.{Origin}
use Rattle.html_arena.specs.declared.data.Origin.TheVariants.{Implied, Token}
use Rattle.html_arena.specs.declared.data.NewNode.{NewNode}
use Rattle.html_arena.specs.declared.data.NewNode.TheVariants.{Element}
use Rattle.html_names.specs.Names.{name_of}
use Rattle.html_arena.specs.declared.data.NodeData.{NodeData}
use Rattle.html_arena.specs.declared.data.NodeData.TheVariants.{Contents}
use Rattle.html_arena.specs.Budget.{budget, budget_of}
use Rattle.html_arena.specs.Make.{has_contents, label_for, made, made_weight, nodes_made}
use Rattle.html_arena.specs.Tree.{Tree, WellFormed, children_of, label_of, more}
use Rattle.html_arena.specs.Weight.{weight}
use Rattle.html_arena.specs.declared.arena.ArenaError.TheVariants.{OutOfMemory, NodeBudget, HeldBudget}
use Rattle.html_open.specs.declared.places.Place.{Place}
use Rattle.html_open.specs.Inserting.{HasNew}
use Rattle.html_open.specs.Marking.{bare}
use Rattle.html_open.specs.Placing.{IsPlace, put}
use Rattle.html_tree.specs.States.{State}

-- the next node is there
abbrev pub with_new : Tree → Place → NewNode → Tree
with_new t at n = bare (put (made t n) at (length t.labels))

-- x is a node of this kind that has no children
pub record IsBlank (d : NodeData) (x : ℕ) (t : Tree) : Type 0 where
  pub label_is : label_of t x ≡ d
  pub childless : children_of t x ≡ []
  pub listed : x < length t.children

-- the next node is open
abbrev pub with_open : State → List ℕ
with_open a = a.stack ++ length a.tree.labels ∷ []

-- the label of the contents of a template
abbrev pub rest_of : ℕ → Bool → List NodeData
rest_of h b = cond b (Contents h ∷ []) []

-- a new node is at a place, in at most so many steps
pub record IsNew (t u : Tree) (at : Place) (new : NewNode) (k : ℕ) : Type 0 where
  pub place_in : IsPlace t at
  pub laws : HasNew t u at (label_for t new)
  pub tree_is : bare u ≡ with_new (bare t) at new
  pub labels_are : u.labels ≡ t.labels ++ label_for t new ∷ rest_of (length t.labels) (has_contents new)
  pub steps_least : more t.steps 0 ≤ u.steps
  pub steps_most : u.steps ≤ t.steps + k
  pub held_most : u.held ≤ t.held + weight (label_for t new)
  pub well_formed : WellFormed t

-- a budget is told where it would be passed, and want of memory where it would not
abbrev pub IsLack : Result (Unit {0}) ArenaError → ArenaError → Type 0
IsLack (Err b) e = e ≡ b
IsLack (Ok u) e = e ≡ OutOfMemory

-- why a new node was refused
abbrev pub IsRefused : State → NewNode → ArenaError → Type 0
IsRefused a new e = IsLack (budget a.tree (nodes_made new) (made_weight a.tree new)) e

-- a budget is told where it would be passed
abbrev pub IsBudget : Result (Unit {0}) ArenaError → ArenaError → Type 0
IsBudget r OutOfMemory = Unit {0}
IsBudget r NodeBudget = r ≡ Err NodeBudget
IsBudget r HeldBudget = r ≡ Err HeldBudget

-- what the budget answers to the root of a fragment
abbrev pub root_budget : Tree → Result (Unit {0}) ArenaError
root_budget t = budget t (nodes_made (Element (name_of tag.Html) [] Implied)) (made_weight t (Element (name_of tag.Html) [] Implied))

-- the same of a new node for which memory may have been wanted before
abbrev pub IsTold : State → NewNode → ArenaError → Type 0
IsTold a new e = IsBudget (budget a.tree (nodes_made new) (made_weight a.tree new)) e

-- where a budget is told, what there is in the end and so many more nodes and held code points would pass the limits
abbrev pub IsPassed : State → State → ℕ → ℕ → ArenaError → Type 0
IsPassed a b nodes held e = IsBudget (budget_of a.tree.limits (length b.tree.labels + nodes) (more b.tree.held held)) e

-- the same of a new node
abbrev pub IsNodePassed : State → State → NewNode → ArenaError → Type 0
IsNodePassed a b new e = IsPassed a b (nodes_made new) (made_weight b.tree new) e

-- the token, if there is one, is one from the first number on and before the second
abbrev pub IsFor : Origin → ℕ → ℕ → Type 0
IsFor o n m = (i : ℕ) → o ≡ Token i → (n ≤ i) × (i < m)

-- the first element to be opened is an html
abbrev pub CanBeFirst : List ℕ → Tag → Type 0
CanBeFirst [] g = is_same g tag.Html ≡ true
CanBeFirst (x ∷ s) g = Unit {0}
