-- Claimed.
-- What the labels of nodes tell of clones (13.2.4.3, 13.2.6.4.7), and of elements that no token asked for (13.2.6.1).
use Rattle.std.specs.Prelude.{ℕ, Bool, false, ◌&&◌, cond, eqb, max, List, [], ◌∷◌}
use Rattle.std.specs.List.{sum_by}
use Rattle.html_arena.specs.declared.data.NodeData.{NodeData}
use Rattle.html_arena.specs.declared.data.NodeData.TheVariants as node
use Rattle.html_arena.specs.declared.data.Origin.{Origin}
use Rattle.html_arena.specs.declared.data.Origin.TheVariants.{Implied, Nothing, Token}
use Rattle.html_arena.specs.Data.{is_clone_in, origin_in}

-- the token at this index
abbrev pub is_token : ℕ → Origin → Bool
is_token i (Token j) = eqb i j
is_token i Implied = false
is_token i Nothing = false

-- both come from one token
abbrev pub is_kin : Origin → Origin → Bool
is_kin (Token i) o = is_token i o
is_kin Implied o = false
is_kin Nothing o = false

-- a clone that comes from the token of an origin counts one
abbrev pub clone_count : Origin → NodeData → ℕ
clone_count o d = cond (is_clone_in d && is_kin o (origin_in d)) 1 0

-- how many clones come from the token of an origin
abbrev pub clones_of : Origin → List NodeData → ℕ
clones_of o labels = sum_by (clone_count o) labels

-- the greatest of the numbers that a count gives
abbrev pub greatest : (NodeData → ℕ) → List NodeData → ℕ
greatest f [] = 0
greatest f (d ∷ ds) = max (f d) (greatest f ds)

-- how many clones come from the token from which the most come
unfoldable pub most_clones : List NodeData → ℕ
most_clones labels = greatest (λ d. clones_of (origin_in d) labels) labels

-- one where no token asked for the element
abbrev pub unasked : Origin → ℕ
unasked Implied = 1
unasked (Token i) = 0
unasked Nothing = 0

abbrev pub implied_in : NodeData → ℕ
implied_in (node.Element e) = cond e.is_clone 0 (unasked e.origin)
implied_in node.Document = 0
implied_in (node.Contents h) = 0
implied_in (node.Text s) = 0
implied_in (node.Comment s i) = 0
implied_in (node.Doctype n p s i) = 0

-- how many elements no token asked for
unfoldable pub implied_count : List NodeData → ℕ
implied_count labels = sum_by implied_in labels
