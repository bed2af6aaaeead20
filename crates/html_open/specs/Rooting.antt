-- Claimed.
-- Which nodes have a parent (DOM 4.4): what reopening and adoption leave of that.
use Rattle.std.specs.Prelude.{◌≡◌, ◌≢◌, ℕ, ◌<◌, ◌≤◌, false, length, drop, None}
use Rattle.html_arena.specs.Siblings.{has}
use Rattle.html_arena.specs.Tree.{Tree, parent_of}
use Rattle.html_open.specs.Opened.{Open}
use Rattle.html_open.specs.Placing.{AreTemplatesEmpty}

-- all nodes that there were keep their parents, or have none as before, and each that was made has one, which is no template
pub record KeepsParents (old new : Tree) : Type 0 where
  pub same : (x : ℕ) → x < length old.labels → parent_of new x ≡ parent_of old x
  pub linked : (x : ℕ) → length old.labels ≤ x → x < length new.labels → parent_of new x ≢ None
  pub templates : AreTemplatesEmpty old → AreTemplatesEmpty new

-- what has no parent had none before: nothing was cut off, and each node that was made has one; and what had none has none, but for
-- elements that stood on the stack after the first
pub record KeepsRoots (old : Open) (new : Tree) : Type 0 where
  pub linked : (x : ℕ) → x < length new.labels → parent_of new x ≡ None → (x < length old.tree.labels) × (parent_of old.tree x ≡ None)
  pub roots : (x : ℕ) → x < length old.tree.labels → parent_of old.tree x ≡ None → has x (drop 1 old.stack) ≡ false → parent_of new x ≡ None
