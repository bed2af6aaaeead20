-- Claimed, but for this crate's own functions: named_or_html.
-- Foreign content among the open elements (13.2.6 and 13.2.6.5).
use Rattle.std.specs.Prelude.{ℕ, Bool, false, not, ◌||◌, ◌&&◌, List, [], ◌∷◌, Option, Some, None, codes, if◌then◌else◌}
use Rattle.std.specs.Str.{bytes_eq}
use Rattle.html_names.specs.declared.tag.Tag.TheVariants as tag
use Rattle.html_names.specs.Foreign.{is_foreign, is_html_encoding, is_html_point, is_lowered, is_text_point, local_name}
use Rattle.html_names.specs.Tags.{is_same}
use Rattle.html_tokens.specs.declared.attributes.Attr.{Attr}
use Rattle.html_arena.specs.Data.{attrs_in, name_in}
use Rattle.html_arena.specs.Siblings.{last_of}
use Rattle.html_arena.specs.Tree.{Tree, label_of, tag_at}
use Rattle.html_open.specs.Lists.{after_index, last_index}
use Rattle.html_tree.specs.Closing.{first_few}
use Rattle.html_tree.specs.Searching.{index_before}
use Rattle.html_tree.specs.States.{State}

-- the attribute of this name says that an annotation-xml holds HTML
abbrev pub says_html : List Attr → Bool
says_html [] = false
says_html (a ∷ rest) = if bytes_eq a.name (codes "encoding") then is_html_encoding a.value else says_html rest

-- an HTML integration point: some elements of SVG, and an annotation-xml whose attributes say so (13.2.6)
abbrev pub is_html_point_at : Tree → ℕ → Bool
is_html_point_at t x = is_html_point (tag_at t x) || (is_same (tag_at t x) tag.MathAnnotationXml && says_html (attrs_in (label_of t x)))

-- an element of HTML
abbrev pub is_html_at : Tree → ℕ → Bool
is_html_at t x = not (is_foreign (tag_at t x))

-- an element of HTML, or an integration point: there foreign content is left (13.2.6.5)
abbrev pub is_home : Tree → ℕ → Bool
is_home t x = is_html_at t x || (is_text_point (tag_at t x) || is_html_point_at t x)

-- an element of foreign content whose local name is this one in lower case
abbrev pub is_foreign_named : Tree → List ℕ → ℕ → Bool
is_foreign_named t name x = is_foreign (tag_at t x) && is_lowered (local_name (name_in (label_of t x))) name

-- a search for the element of an end tag stops at one of its name, or at one of HTML
abbrev pub named_or_html : Tree → List ℕ → ℕ → Bool
named_or_html t name x = is_foreign_named t name x || is_html_at t x

-- the index of the last open element of foreign content with this name, unless one of HTML stands after it (13.2.6.5, any other end tag)
abbrev pub found_foreign : State → List ℕ → Option ℕ
found_foreign a name = index_before (is_foreign_named a.tree name) (is_html_at a.tree) a.stack

-- how many elements stand up to the last one where foreign content is left
abbrev pub home_end : State → ℕ
home_end a = after_index (last_index (is_home a.tree) a.stack)

-- those elements; the first in any case
abbrev pub left_foreign : State → List ℕ
left_foreign a = first_few (home_end a) a.stack

abbrev pub html_point_if : Tree → Option ℕ → Bool
html_point_if t None = false
html_point_if t (Some x) = is_html_point_at t x

-- the current node is an HTML integration point
abbrev pub is_at_html_point : State → Bool
is_at_html_point a = html_point_if a.tree (last_of a.stack)
