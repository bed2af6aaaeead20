-- Claimed.
-- The nodes of a tree under construction (13.2.4).
use Rattle.std.specs.Prelude.{◌≡◌}
use Rattle.html_arena.specs.Tree.{Tree, WellFormed}
use Rattle.html_open.specs.Marking.{bare}

-- They are those of a forest, but for its marks and steps.
pub record IsForest (t : Tree) : Type 0 where
  pub marked : Tree
  pub well_formed : WellFormed marked
  pub nodes_are : bare marked ≡ t
