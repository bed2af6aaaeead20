-- For this crate's own functions.
-- One entry that is opened anew: what the parts of reopening do.
use Rattle.std.specs.Prelude.{◌≡◌, ◌≢◌, ℕ, ◌+◌, ◌<◌, Bool, true, false, cond, List, [], ◌∷◌, ◌++◌, length, slice_index_or, Option, Some, None, Ok, Err}
use Rattle.html_arena.specs.declared.arena.Limits.{Limits}
use Rattle.html_arena.specs.declared.data.NewNode.TheVariants.{CloneOf}
use Rattle.html_arena.specs.declared.marks.Mark.{Mark}
use Rattle.html_arena.specs.declared.marks.Mark.TheVariants.{OnStack, InList}
use Rattle.html_arena.specs.Budget.{budget, budget_of}
use Rattle.html_arena.specs.Data.{cloned}
use Rattle.html_arena.specs.Make.{made_weight}
use Rattle.html_arena.specs.Siblings.{has}
use Rattle.html_arena.specs.Tree.{Tree, ancestors, children_of, label_of, marked, more, parent_of, with_marked}
use Rattle.html_open.specs.declared.entry.Entry.{Entry}
use Rattle.html_open.specs.declared.entry.Entry.TheVariants.{Marker}
use Rattle.html_arena.specs.declared.arena.ArenaError.{ArenaError}
use Rattle.html_arena.specs.declared.arena.ArenaError.TheVariants.{OutOfMemory, NodeBudget, HeldBudget}
use Rattle.html_open.specs.declared.places.Place.{Place}
use Rattle.html_open.specs.Marking.{charged}
use Rattle.html_open.specs.Placing.{parent_at, place_steps}
use Rattle.html_open.specs.Reopening.{end_steps, with_clone}

-- the steps for the entry at an index, at which the search ends
abbrev pub end_steps_at : List Entry → Option ℕ → ℕ
end_steps_at list None = 0
end_steps_at list (Some i) = end_steps (Some (slice_index_or list i Marker))

-- a clone of x is put at the place for the current node and pushed, and the entry of x is its own
abbrev pub with_reopened : Tree → List ℕ → Bool → ℕ → Tree
with_reopened t stack foster x =
    charged (with_marked (charged (with_marked (with_marked (with_clone (charged t (place_steps t stack None foster)) stack foster x) InList x false)
    OnStack (length t.labels) true) 1) InList (length t.labels) true) 1

-- a clone of x is the one node more, at a place; nothing else is changed
pub record IsInserted (old new : Tree) (at : Place) (x : ℕ) : Type 0 where
  pub labels_are : new.labels ≡ old.labels ++ cloned (label_of old x) ∷ []
  pub same_marks : (m : Mark) (y : ℕ) → marked new m y ≡ marked old m y
  pub same_ancestors : (y : ℕ) → y < length old.labels → ancestors new y ≡ ancestors old y
  pub not_above : (y : ℕ) → y < length old.labels → has (length old.labels) (ancestors new y) ≡ false
  pub same_children : (y : ℕ) → y < length old.labels → parent_at old at ≢ Some y → children_of new y ≡ children_of old y
  pub same_parents : (y : ℕ) → y < length old.labels → parent_of new y ≡ parent_of old y
  pub parent_is : parent_of new (length old.labels) ≡ parent_at old at
  pub linked : parent_of new (length old.labels) ≢ None

-- the clone of x would pass the budget where one is told, and would not where memory was refused
abbrev pub IsRefused : Tree → ℕ → ArenaError → Type 0
IsRefused t x OutOfMemory = budget t 1 (made_weight t (CloneOf x)) ≡ Ok tt
IsRefused t x NodeBudget = budget t 1 (made_weight t (CloneOf x)) ≡ Err NodeBudget
IsRefused t x HeldBudget = budget t 1 (made_weight t (CloneOf x)) ≡ Err HeldBudget

-- where a budget is told, what there is in the end and the clone of x would pass it
abbrev pub IsCloneTold : Option Limits → Tree → ℕ → ArenaError → Type 0
IsCloneTold limits t x OutOfMemory = Unit {0}
IsCloneTold limits t x NodeBudget = budget_of limits (length t.labels + 1) (more t.held (made_weight t (CloneOf x))) ≡ Err NodeBudget
IsCloneTold limits t x HeldBudget = budget_of limits (length t.labels + 1) (more t.held (made_weight t (CloneOf x))) ≡ Err HeldBudget

-- the clone of x is the one node more, or there is none
pub record IsTried (old new : Tree) (x : ℕ) : Type 0 where
  pub is_made : Bool
  pub labels_are : new.labels ≡ old.labels ++ cond is_made (cloned (label_of old x) ∷ []) []
