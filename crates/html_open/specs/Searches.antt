-- For this crate's own functions.
-- What the searches through the stack and the list stop at.
use Rattle.std.specs.Prelude.{ℕ, ◌<◌, Bool, true, eqb, length}
use Rattle.html_arena.specs.declared.marks.Mark.TheVariants.{OnStack}
use Rattle.html_arena.specs.Tree.{Tree, marked, named}
use Rattle.html_open.specs.declared.entry.Entry.{Entry}
use Rattle.html_open.specs.declared.entry.Entry.TheVariants as entry
use Rattle.html_open.specs.declared.search.Sought.{Sought}
use Rattle.html_open.specs.declared.search.Sought.TheVariants as sought
use Rattle.html_open.specs.declared.search.SoughtEntry.{SoughtEntry}
use Rattle.html_open.specs.declared.search.SoughtEntry.TheVariants as sought_entry
use Rattle.html_open.specs.Entries.{is_marker, is_node, named_or_marker}
use Rattle.html_open.specs.Scopes.{element_or_end, match_or_end, stays}

abbrev pub is_sought : Tree → Sought → ℕ → Bool
is_sought t (sought.Node y) x = eqb y x
is_sought t (sought.InScope g s) x = match_or_end t g s x
is_sought t (sought.ElementInScope y s) x = element_or_end t y s x
is_sought t (sought.Tag g) x = named t g x
is_sought t (sought.Staying except) x = stays t except x

-- a marker, or an element that is marked as being on the stack
abbrev pub open_or_marker : Tree → Entry → Bool
open_or_marker t entry.Marker = true
open_or_marker t (entry.Node x) = marked t OnStack x

abbrev pub ends_search : Tree → SoughtEntry → Entry → Bool
ends_search t sought_entry.Marker e = is_marker e
ends_search t (sought_entry.Node x) e = is_node x e
ends_search t (sought_entry.NamedOrMarker g) e = named_or_marker t g e
ends_search t sought_entry.OpenOrMarker e = open_or_marker t e

-- the entry is a marker, or names a node of the tree
abbrev pub IsEntry : Tree → Entry → Type 0
IsEntry t entry.Marker = Unit {0}
IsEntry t (entry.Node x) = x < length t.labels
