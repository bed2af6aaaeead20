-- Claimed.
-- Which trees the nodes of an arena are.
use Rattle.std.specs.Prelude.{◌≡◌, ℕ, ◌<◌, List, [], ◌∷◌, length}
use Rattle.html_arena.specs.Tree.{Tree, label_of}
use Rattle.html_arena.specs.Below.{kids}
use Rattle.html_arena.specs.declared.walk.Show.TheVariants.{All}
use Rattle.html_arena.specs.Forest.{Forest}
use Rattle.html_arena.specs.Forest.Forest.{empty, tree}
use Rattle.html_page.specs.Label.{Label, label_for}

abbrev pub label_at : Tree → ℕ → Label
label_at t x = label_for (label_of t x)

-- the nodes `ids`, with all below them, are the trees of a forest, one for one and in order; below a template stand its
-- contents (HTML standard, 4.12.3)
abbrev pub Shows : Tree → List ℕ → Forest Label → Type 0
Shows t [] empty = Unit {0}
Shows t [] (tree label below after) = ⊥
Shows t (id ∷ ids) empty = ⊥
Shows t (id ∷ ids) (tree label below after) =
    (id < length t.labels) × (label_at t id ≡ label) × Shows t (kids All t id) below × Shows t ids after
