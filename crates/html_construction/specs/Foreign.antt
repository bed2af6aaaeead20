-- Claimed.
-- The adjusted current node (13.2.4.2), and whether it is one of foreign content (13.2.6).
use Rattle.std.specs.Prelude.{◌==◌, length, Option, Some, None, if◌then◌else◌}
use Rattle.html_names.specs.declared.tag.Tag.{Tag}
use Rattle.html_names.specs.Foreign.{is_foreign}
use Rattle.html_tree.specs.Searching.{current_tag}
use Rattle.html_construction.specs.States.{State}

-- the first, or else the second
abbrev pub tag_or : Option Tag → Option Tag → Option Tag
tag_or (Some own) other = Some own
tag_or None other = other

-- of a fragment of which the root alone is open, the tag of the context, and else that of the current node
abbrev pub adjusted_tag : State → Option Tag
adjusted_tag a = if length a.tree.stack == 1 then tag_or a.context (current_tag a.tree) else current_tag a.tree

abbrev pub if_foreign : Option Tag → Option Tag
if_foreign None = None
if_foreign (Some g) = if is_foreign g then Some g else None

-- the same, where it is one of foreign content: none is, where none was made and none is the context
abbrev pub foreign_tag : State → Option Tag
foreign_tag a = if a.ledger.history.foreign then if_foreign (adjusted_tag a) else None
