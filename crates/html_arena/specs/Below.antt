-- Claimed.
-- The nodes below a node, as a forest, as serialising HTML fragments sees them (13.3): a template's contents stand below the template,
-- in place of its own children, and nothing is written below a void element.
use Rattle.std.specs.Prelude.{◌≡◌, ℕ, zero, suc, Bool, false, cond, List, [], ◌∷◌, length, Option, Some, None}
use Rattle.html_names.specs.Sets.{is_void}
use Rattle.html_arena.specs.Data.{contents_in, host_in, tag_in}
use Rattle.html_arena.specs.Tree.{Tree, label_of, children_of, parent_of}
use Rattle.html_arena.specs.declared.data.NodeData.{NodeData}
use Rattle.html_arena.specs.declared.walk.Show.{Show}
use Rattle.html_arena.specs.declared.walk.Show.TheVariants.{All, Written}
use Rattle.html_arena.specs.Forest.{Forest}
use Rattle.html_arena.specs.Forest.Forest.{empty, tree}

-- what stands below the node is not shown
abbrev pub hides : Show → NodeData → Bool
hides All d = false
hides Written d = is_void (tag_in d)

abbrev pub or_self : ℕ → Option ℕ → ℕ
or_self x None = x
or_self x (Some y) = y

-- the nodes just below x
abbrev pub kids : Show → Tree → ℕ → List ℕ
kids s t x = cond (hides s (label_of t x)) [] (children_of t (or_self x (contents_in (label_of t x))))

-- the node that x stands just below, where it has the parent p
abbrev pub above_of : Tree → Option ℕ → Option ℕ
above_of t None = None
above_of t (Some p) = Some (or_self p (host_in (label_of t p)))

abbrev pub above : Tree → ℕ → Option ℕ
above t x = above_of t (parent_of t x)

-- trees in a row, with the roots xs
abbrev pub row : (ℕ → Forest ℕ) → List ℕ → Forest ℕ
row g [] = empty
row g (x ∷ xs) = tree x (g x) (row g xs)

-- what stands below x, down to so many levels
abbrev pub levels_below : ℕ → Show → Tree → ℕ → Forest ℕ
levels_below zero s t x = empty
levels_below (suc n) s t x = row (levels_below n s t) (kids s t x)

-- all that stands below x: in a well-formed tree no node is further below than there are nodes
abbrev pub below : Show → Tree → ℕ → Forest ℕ
below s t x = levels_below (length t.labels) s t x

-- the forest's roots are xs, and below each node stands what the tree has there
abbrev pub IsForestAt : Show → Tree → List ℕ → Forest ℕ → Type 0
IsForestAt s t [] empty = Unit {0}
IsForestAt s t [] (tree y f g) = ⊥
IsForestAt s t (x ∷ xs) empty = ⊥
IsForestAt s t (x ∷ xs) (tree y f g) = (y ≡ x) × IsForestAt s t (kids s t x) f × IsForestAt s t xs g
