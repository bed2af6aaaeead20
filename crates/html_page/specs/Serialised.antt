-- Claimed, but for this crate's own functions: event_text.
-- The text of all that stands below a root (HTML standard, 13.3, "Serializing HTML fragments"), and how long it is.
use Rattle.std.specs.Prelude.{ℕ, ◌<◌, ◌+◌, ◌*◌, Bool, false, cond, List, [], length, Option, Some, None}
use Rattle.std.specs.List.{AllByRecursion, sum_by}
use Rattle.html_tokens.specs.declared.attributes.Attr.{Attr}
use Rattle.html_arena.specs.declared.walk.Event.{Event}
use Rattle.html_arena.specs.declared.walk.Event.TheVariants.{Enter, Leave}
use Rattle.html_arena.specs.declared.walk.Show.TheVariants.{All}
use Rattle.html_arena.specs.Below.{above, below}
use Rattle.html_arena.specs.Data.{attrs_in}
use Rattle.html_arena.specs.Forest.{Forest, relabel}
use Rattle.html_arena.specs.Forest.Forest.{empty, tree}
use Rattle.html_arena.specs.Tree.{Tree, label_of}
use Rattle.html_arena.specs.Weight.{weight}
use Rattle.html_page.specs.declared.profile.Profile.{Profile}
use Rattle.html_page.specs.Html.{html_of, opening, closing, is_raw, is_void}
use Rattle.html_page.specs.Label.{Label}
use Rattle.html_page.specs.Shows.{label_at}

-- the trees below a node; below a template stand its contents
abbrev pub forest_below : Tree → ℕ → Forest Label
forest_below t r = relabel (label_at t) (below All t r)

-- their text; nothing is written below a void element
abbrev pub html_below : Profile → Tree → ℕ → List ℕ
html_below p t r = cond (is_void (label_at t r)) [] (html_of p (is_raw (label_at t r)) (forest_below t r))

-- a text below this node is written as it is
abbrev pub is_raw_below : Tree → Option ℕ → Bool
is_raw_below t None = false
is_raw_below t (Some p) = is_raw (label_at t p)

-- the text of a node itself, with all that stands below it
abbrev pub html_at : Profile → Tree → ℕ → List ℕ
html_at p t x = html_of p (is_raw_below t (above t x)) (tree (label_at t x) (forest_below t x) empty)

-- what is written where a walk enters or leaves a node
abbrev pub event_text : Profile → Tree → Event → List ℕ
event_text p t (Enter x) = opening p (is_raw_below t (above t x)) (label_at t x)
event_text p t (Leave x) = closing (label_at t x)

-- an attribute whose name is not empty
abbrev pub IsNamed : Attr → Type 0
IsNamed a = 0 < length a.name

-- no element has an attribute with an empty name
abbrev pub HasNames : Tree → Type 0
HasNames t = (x : ℕ) → AllByRecursion IsNamed (attrs_in (label_of t x))

-- the most code points that are written for a tree: 12 for each that it holds, and 16 for each node
abbrev pub most_written : Tree → ℕ
most_written t = 12 * sum_by weight t.labels + 16 * length t.labels
