-- Claimed.
-- How many steps calls count.
use Rattle.std.specs.Prelude.{ℕ, ◌+◌, ◌*◌, ◌≤◌, List, length}
use Rattle.std.specs.List.{sum_by}
use Rattle.html_arena.specs.declared.data.NodeData.{NodeData}
use Rattle.html_arena.specs.declared.data.NodeData.TheVariants as node
use Rattle.html_arena.specs.declared.data.Origin.{Origin}
use Rattle.html_arena.specs.declared.data.Origin.TheVariants.{Implied, Nothing, Token}
use Rattle.html_arena.specs.Data.{attrs_in}
use Rattle.html_ledger.specs.declared.fate.Fate.{Fate}
use Rattle.html_construction.specs.Copies.{greatest}
use Rattle.html_construction.specs.States.{State}

-- one where it comes from no token
abbrev pub untold : Origin → ℕ
untold (Token i) = 0
untold Implied = 1
untold Nothing = 1

abbrev pub tokenless_in : NodeData → ℕ
tokenless_in (node.Element e) = untold e.origin
tokenless_in node.Document = 0
tokenless_in (node.Contents h) = 0
tokenless_in (node.Text s) = 0
tokenless_in (node.Comment s i) = 0
tokenless_in (node.Doctype n p s i) = 0

-- how many elements come from no token
unfoldable pub tokenless : List NodeData → ℕ
tokenless labels = sum_by tokenless_in labels

-- the most attributes that a node has
unfoldable pub broadest : List NodeData → ℕ
broadest labels = greatest (λ d. length (attrs_in d)) labels

-- No more elements are open than this, by the nodes and the fates: of each token one is open at most.
abbrev pub deepest : List NodeData → List Fate → ℕ
deepest labels fates = length fates + tokenless labels

-- the most steps of a call that walks over the open elements or over the list, twice at most
unfoldable pub reach : List NodeData → List Fate → ℕ
reach labels fates = 2 * deepest labels fates + 4

-- the most steps of a reconstruction, and of an eighth of an adoption
unfoldable pub toll : List NodeData → List Fate → ℕ
toll labels fates = length fates * (deepest labels fates + length fates + 7) + length labels + 4 * deepest labels fates + 3 * length fates + 37

-- the most attributes with which one attribute is compared, where an element is listed, or a tag is merged into one
unfoldable pub span : List NodeData → List Fate → ℕ
span labels fates = (length fates + 1) * broadest labels

abbrev pub reach_of : State → ℕ
reach_of a = reach a.tree.tree.labels a.ledger.fates

abbrev pub toll_of : State → ℕ
toll_of a = toll a.tree.tree.labels a.ledger.fates

abbrev pub span_of : State → ℕ
span_of a = span a.tree.tree.labels a.ledger.fates

-- Steps for at most so many calls, so many clones of one token's element, and so many besides. What a call may count does not fall.
abbrev pub Works : ℕ → ℕ → ℕ → State → State → Type 0
Works calls clones more a b =
    (reach_of a ≤ reach_of b)
    × ((toll_of a ≤ toll_of b)
    × (b.tree.steps ≤ a.tree.steps + calls * reach_of b + clones * toll_of b + more))
