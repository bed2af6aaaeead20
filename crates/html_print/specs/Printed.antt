-- Claimed.
-- What is printed of all that stands below a root.
use Rattle.std.specs.Prelude.{ℕ, List}
use Rattle.html_arena.specs.Forest.{Forest}
use Rattle.html_arena.specs.Tree.{Tree}
use Rattle.html_page.specs.Label.{Label}
use Rattle.html_page.specs.Serialised.{forest_below}
use Rattle.html_print.specs.Arranged.{IsArranged}
use Rattle.html_print.specs.Lines.{lines_of}

-- the text of the trees below a node, their attributes in order, is one for which this holds
pub record IsPrinted (t : Tree) (r : ℕ) (IsText : List ℕ → Type 0) : Type 0 where
  pub arranged : Forest Label
  pub same : IsArranged (forest_below t r) arranged
  pub text : IsText (lines_of 0 arranged)
