-- Claimed, but for this crate's own functions: without_index, node_at, IsDisplaced, IsFirst, IsTaken.
-- The list of active formatting elements (13.2.4.3): what its calls answer and leave.
use Rattle.std.specs.Prelude.{◌≡◌, ℕ, ◌+◌, ◌*◌, ◌<◌, Bool, true, false, cond, eqb, nat_le, ◌&&◌, ◌||◌, List, [], ◌∷◌, ◌++◌, length, sum_by, count_by, slice_index_or, remove, Option, Some, None}
use Rattle.std.specs.List.{list_any}
use Rattle.html_names.specs.declared.tag.Tag.{Tag}
use Rattle.html_arena.specs.declared.marks.Mark.TheVariants.{InList}
use Rattle.html_arena.specs.Data.{attrs_in}
use Rattle.html_arena.specs.Siblings.{has}
use Rattle.html_arena.specs.Tree.{Tree, label_of, tag_at, named}
use Rattle.html_open.specs.declared.entry.Entry.{Entry}
use Rattle.html_open.specs.declared.entry.Entry.TheVariants.{Marker, Node}
use Rattle.html_open.specs.Attributes.{same_attrs}
use Rattle.html_open.specs.Marking.{unmarked}
use Rattle.html_open.specs.Lists.{above, up_to, last_where, looked, first_where, without_first, without_last, after_first, IsBelow, steps_after}

abbrev pub is_marker : Entry → Bool
is_marker Marker = true
is_marker (Node x) = false

abbrev pub is_node : ℕ → Entry → Bool
is_node x Marker = false
is_node x (Node y) = eqb x y

-- the elements in the list, without the markers
abbrev pub nodes_of : List Entry → List ℕ
nodes_of [] = []
nodes_of (Marker ∷ es) = nodes_of es
nodes_of (Node x ∷ es) = x ∷ nodes_of es

abbrev pub has_node : ℕ → List Entry → Bool
has_node x list = has x (nodes_of list)

abbrev pub entry_named : Tree → Tag → Entry → Bool
entry_named t g Marker = false
entry_named t g (Node x) = named t g x

abbrev pub node_in : Option Entry → Option ℕ
node_in None = None
node_in (Some Marker) = None
node_in (Some (Node x)) = Some x

-- the last entry of this name after the last marker
abbrev pub last_named : Tree → Tag → List Entry → Option ℕ
last_named t g list = node_in (last_where (entry_named t g) (above is_marker list))

-- where the search for an entry of this name ends
abbrev pub named_or_marker : Tree → Tag → Entry → Bool
named_or_marker t g e = is_marker e || entry_named t g e

-- an entry of the name and the set of attributes of x
abbrev pub alike : Tree → ℕ → Entry → Bool
alike t x Marker = false
alike t x (Node y) = named t (tag_at t x) y && same_attrs (attrs_in (label_of t x)) (attrs_in (label_of t y))

-- three entries after the last marker are equal to x
abbrev pub has_three : Tree → ℕ → List Entry → Bool
has_three t x list = nat_le 3 (count_by (alike t x) (above is_marker list))

-- the list without the earliest entry after the last marker that is equal to x
abbrev pub without_earliest : Tree → ℕ → List Entry → List Entry
without_earliest t x list = up_to is_marker list ++ without_first (alike t x) (above is_marker list)

-- x is added; where three entries after the last marker are equal to it, the earliest of them goes
abbrev pub pushed : Tree → ℕ → List Entry → List Entry
pushed t x list = cond (has_three t x list) (without_earliest t x list) list ++ Node x ∷ []

-- the entry that goes when x is pushed
abbrev pub displaced : Tree → ℕ → List Entry → Option ℕ
displaced t x list = cond (has_three t x list) (node_in (first_where (alike t x) (above is_marker list))) None

-- the comparisons of the attributes of x with those of an entry of its name
abbrev pub comparisons : Tree → ℕ → Entry → ℕ
comparisons t x Marker = 0
comparisons t x (Node y) = cond (named t (tag_at t x) y) (length (attrs_in (label_of t x)) * length (attrs_in (label_of t y))) 0

-- one for the push, one for each entry from the last back to the marker, the comparisons, and, where an entry goes, one for it and one
-- for each entry that is shifted
abbrev pub push_steps : Tree → ℕ → List Entry → ℕ
push_steps t x list =
    1 + looked is_marker list + sum_by (comparisons t x) (above is_marker list)
    + cond (has_three t x list) (1 + length (after_first (alike t x) (above is_marker list))) 0

-- the list without the entry of x
abbrev pub without_node : ℕ → List Entry → List Entry
without_node x list = without_last (is_node x) list

-- the entries looked at, and, where one is removed, one for it and one for each that is shifted
abbrev pub removal_steps : {X : Type 0} → (X → Bool) → List X → ℕ
removal_steps p xs = looked p xs + cond (list_any p xs) (1 + length (above p xs)) 0

-- the entries that are taken off with the last marker
abbrev pub cleared : List Entry → List ℕ
cleared list = nodes_of (above is_marker list)

-- the list without the entry at an index, and the element that stands there
abbrev pub without_index : List Entry → Option ℕ → List Entry
without_index list None = list
without_index list (Some i) = remove list i

abbrev pub node_at : List Entry → Option ℕ → Option ℕ
node_at list None = None
node_at list (Some i) = node_in (Some (slice_index_or list i Marker))

-- the index of the entry that goes when x is pushed
pub record IsDisplaced (t : Tree) (x : ℕ) (list : List Entry) (index : Option ℕ) : Type 0 where
  pub within : IsBelow (length list) index
  pub node_is : node_at list index ≡ displaced t x list
  pub list_is : without_index list index ≡ cond (has_three t x list) (without_earliest t x list) list
  pub steps_are : steps_after (length list) index ≡ cond (has_three t x list) (1 + length (after_first (alike t x) (above is_marker list))) 0

-- the first element that passes, by its index
pub record IsFirst (p : Entry → Bool) (list : List Entry) (i : ℕ) : Type 0 where
  pub within : i < length list
  pub first_is : first_where p list ≡ Some (slice_index_or list i Marker)
  pub without_is : without_first p list ≡ remove list i
  pub after_is : length (after_first p list) + i + 1 ≡ length list

-- the last entry was taken off, and where it was an element its mark
pub record IsTaken (old new : List Entry) (before after : Tree) : Type 0 where
  pub entry : Entry
  pub list_was : old ≡ new ++ entry ∷ []
  pub tree_is : after ≡ unmarked before InList (node_in (Some entry))
