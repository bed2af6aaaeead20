-- Claimed.
-- What parts of tables stand on (13.2.6.4.9 to 13.2.6.4.15).
use Rattle.std.specs.Prelude.{◌≡◌, ℕ, Bool, true, false, cond, eqb, ◌||◌, List, [], ◌∷◌, Option, Some, None}
use Rattle.html_names.specs.declared.tag.Tag.{Tag}
use Rattle.html_names.specs.declared.tag.Tag.TheVariants as tag
use Rattle.html_names.specs.Groups.{is_table_part}
use Rattle.html_names.specs.Sets.{is_cell, is_row_context, is_section_context, is_table_context}
use Rattle.html_names.specs.Tags.{is_same}
use Rattle.html_arena.specs.declared.data.NodeData.{NodeData}
use Rattle.html_arena.specs.declared.data.NodeData.TheVariants.{Document, Contents, Element, Text, Comment, Doctype}
use Rattle.html_arena.specs.Siblings.{last_of}
use Rattle.html_arena.specs.Tree.{Tree, label_of, parent_of, tag_at}
use Rattle.html_open.specs.Placing.{AreTemplatesEmpty}
use Rattle.html_tree.specs.declared.groups.Target.{Target}
use Rattle.html_tree.specs.declared.groups.Target.TheVariants as target
use Rattle.html_tree.specs.OpenTags.{tags_down}
use Rattle.html_tree.specs.States.{State}

-- a part of a table
abbrev pub is_part : Tag → Bool
is_part g = is_cell g || (is_same g tag.Tr || is_table_part g)

-- some part stands on it: a row, a section, a table, a template, or the html of a fragment
abbrev pub carries_part : Tag → Bool
carries_part h = is_row_context h || (is_section_context h || is_table_context h)

-- a cell stands on a row, a row on a section, a section, a caption and a colgroup on a table, or each on a template or an html
abbrev pub sits_on : Tag → Tag → Bool
sits_on g h = cond (is_cell g) (is_row_context h) (cond (is_same g tag.Tr) (is_section_context h) (cond (is_table_part g) (is_table_context h) true))

-- an element of this tag can be opened where these are open, the current node first
abbrev pub IsSeated : Tag → List Tag → Type 0
IsSeated g [] = Unit {0}
IsSeated g (h ∷ rest) = sits_on g h ≡ true

-- each of the open elements stands on the one below it, the current node first
abbrev pub AreSeated : List Tag → Type 0
AreSeated [] = Unit {0}
AreSeated (g ∷ rest) = IsSeated g rest × AreSeated rest

-- the element x, of tag h, may hold a part of this tag: an html does where it is the root of a fragment, which is node 0
abbrev pub may_carry : Tag → ℕ → Tag → Bool
may_carry g x h = cond (is_same h tag.Html) (eqb x 0) (sits_on g h)

-- the node x may be the parent of a part of this tag: the contents of a template may be that of any
abbrev pub is_seat : Tag → ℕ → NodeData → Bool
is_seat g x (Element e) = may_carry g x e.tag
is_seat g x (Contents h) = true
is_seat g x Document = false
is_seat g x (Text s) = false
is_seat g x (Comment s i) = false
is_seat g x (Doctype n p s i) = false

-- The parent of a cell is a row; of a row a section; of a section, a caption and a colgroup a table; or, of each, a template's contents, or the
-- root of a fragment.
abbrev pub ArePartsSeated : Tree → Type 0
ArePartsSeated t = (x p : ℕ) → parent_of t x ≡ Some p → is_part (tag_at t x) ≡ true → is_seat (tag_at t x) p (label_of t p) ≡ true

-- Parts of tables stand on what they may, among the open elements and in the tree, and no template has children of its own.
pub record HasSeats (t : Tree) (s : List ℕ) : Type 0 where
  pub open_elements : AreSeated (tags_down t s)
  pub parts : ArePartsSeated t
  pub templates : AreTemplatesEmpty t

-- the current node may hold a part of this tag, or, being a template, its contents may
abbrev pub seat_at : Tree → Tag → Option ℕ → Bool
seat_at t g None = false
seat_at t g (Some x) = may_carry g x (tag_at t x)

abbrev pub has_seat : State → Tag → Bool
has_seat a g = seat_at a.tree g (last_of a.stack)

-- an element of this tag can be put at a target and opened there: a part of a table in the current node alone, where that may hold it
abbrev pub CanSeat : State → Tag → Target → Type 0
CanSeat a g (target.Current foster) = is_part g ≡ true → (foster ≡ false) × (has_seat a g ≡ true)
CanSeat a g target.Head = is_part g ≡ false
CanSeat a g target.First = is_part g ≡ false
CanSeat a g target.Document = is_part g ≡ false
