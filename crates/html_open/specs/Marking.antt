-- Claimed.
-- Trees in which only marks or the count of steps differ.
use Rattle.std.specs.Prelude.{◌≡◌, ℕ, ◌+◌, ◌≤◌, false, List, [], ◌∷◌, Option, Some, None}
use Rattle.html_arena.specs.declared.marks.Mark.{Mark}
use Rattle.html_arena.specs.Tree.{Tree, more, with_marked}

-- a tree without its marks and its count of steps
abbrev pub bare : Tree → Tree
bare t = record t { marks = []; steps = 0 }

-- the tree is as it was: marks and steps are not of the tree
abbrev pub IsSameTree : Tree → Tree → Type 0
IsSameTree old new = bare new ≡ bare old

-- k steps are counted
abbrev pub charged : Tree → ℕ → Tree
charged t k = record t { steps = more t.steps k }

-- a node, if there is one, has no longer a mark
abbrev pub unmarked : Tree → Mark → Option ℕ → Tree
unmarked t m None = t
unmarked t m (Some x) = with_marked t m x false

-- none of these nodes has any longer a mark
abbrev pub all_unmarked : Tree → Mark → List ℕ → Tree
all_unmarked t m [] = t
all_unmarked t m (x ∷ xs) = with_marked (all_unmarked t m xs) m x false

-- at least so many steps have been counted and at most so many; a count stays at its greatest value
pub record IsCounted (old new low high : ℕ) : Type 0 where
  pub least : more old low ≤ new
  pub most : new ≤ old + high
