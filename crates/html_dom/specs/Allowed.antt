-- Claimed.
-- What a list of names allows in a tree.
use Rattle.std.specs.Prelude.{ℕ, Bool, true, false, ◌||◌, ◌&&◌, List, [], ◌∷◌}
use Rattle.std.specs.List.{list_all}
use Rattle.std.specs.Str.{bytes_eq}
use Rattle.html_arena.specs.Tree.{Tree, label_of}
use Rattle.html_arena.specs.declared.data.NodeData.{NodeData}
use Rattle.html_arena.specs.declared.data.NodeData.TheVariants.{Document, Contents, Element, Text, Comment, Doctype}
use Rattle.html_dom.specs.declared.allowed.AllowList.{AllowList}

-- the name is listed
abbrev pub is_in : List ℕ → List (List ℕ) → Bool
is_in name [] = false
is_in name (y ∷ ys) = bytes_eq y name || is_in name ys

-- a text, or an element that is listed, each of whose attributes is listed
abbrev pub is_allowed : AllowList → NodeData → Bool
is_allowed l (Element e) = is_in e.name l.elements.items && list_all (λ a. is_in a.name l.attributes.items) e.attrs
is_allowed l (Text s) = true
is_allowed l Document = false
is_allowed l (Contents h) = false
is_allowed l (Comment s i) = false
is_allowed l (Doctype n p s i) = false

abbrev pub are_allowed : AllowList → Tree → List ℕ → Bool
are_allowed l t [] = true
are_allowed l t (x ∷ xs) = is_allowed l (label_of t x) && are_allowed l t xs
