-- Claimed.
-- What is true of each node, and of the body that a frameset took the place of.
use Rattle.std.specs.Prelude.{◌≡◌, ℕ, ◌<◌, length, Some}
use Rattle.html_tree.specs.Proper.{IsProper}
use Rattle.html_tree.specs.Since.{HasFrameset}
use Rattle.html_tree.specs.States.{State as Tree}

-- No node has the name of a root of foreign content, void elements are closed and have no children, and where a body was replaced, a frameset was made.
pub record IsStanding (a : Tree) : Type 0 where
  pub proper : (x : ℕ) → x < length a.tree.labels → IsProper a x
  pub framed : (x : ℕ) → a.detached ≡ Some x → HasFrameset a.tree
