-- Claimed.
-- A new node at a place (13.2.6.1).
use Rattle.std.specs.Prelude.{◌≡◌, ◌≢◌, ℕ, ◌<◌, true, false, List, length, Option, Some, None}
use Rattle.html_arena.specs.declared.data.NodeData.{NodeData}
use Rattle.html_arena.specs.declared.marks.Mark.{Mark}
use Rattle.html_arena.specs.Data.{IsElement}
use Rattle.html_arena.specs.Siblings.{has}
use Rattle.html_arena.specs.Tree.{Tree, ancestors, children_of, label_of, marked, parent_of}
use Rattle.html_open.specs.declared.places.Place.{Place}
use Rattle.html_open.specs.Placing.{parent_at}
use Rattle.html_open.specs.Reopening.{HoldsNoElement}

-- the next node is d, at a place; the nodes that there were are as before, but for the children of its parent
pub record HasNew (old new : Tree) (at : Place) (d : NodeData) : Type 0 where
  pub longer : length old.labels < length new.labels
  pub label_is : label_of new (length old.labels) ≡ d
  pub parent_is : parent_of new (length old.labels) ≡ parent_at old at
  pub not_above : (x : ℕ) → x < length old.labels → has (length old.labels) (ancestors new x) ≡ false
  pub same_labels : (x : ℕ) → x < length old.labels → label_of new x ≡ label_of old x
  pub same_parents : (x : ℕ) → x < length old.labels → parent_of new x ≡ parent_of old x
  pub same_ancestors : (x : ℕ) → x < length old.labels → ancestors new x ≡ ancestors old x
  pub same_children : (x : ℕ) → x < length old.labels → parent_at old at ≢ Some x → children_of new x ≡ children_of old x
  pub same_marks : (m : Mark) (x : ℕ) → marked new m x ≡ marked old m x

-- the place is in no element that is off the stack and holds no element
abbrev pub SparesClosed : Tree → List ℕ → Place → Type 0
SparesClosed t stack at = (x : ℕ) → IsElement (label_of t x) → has x stack ≡ false → HoldsNoElement t x → parent_at t at ≢ Some x

-- a target that is given is an open element
abbrev pub IsOpenTarget : List ℕ → Option ℕ → Type 0
IsOpenTarget stack None = Unit {0}
IsOpenTarget stack (Some x) = has x stack ≡ true
