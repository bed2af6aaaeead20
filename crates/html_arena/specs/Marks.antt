-- Claimed.
-- The marks of a node: presence on the stack of open elements and in the list of active formatting elements (13.2.4).
use Rattle.std.specs.Prelude.{Bool, false}
use Rattle.html_arena.specs.declared.marks.Mark.{Mark}
use Rattle.html_arena.specs.declared.marks.Mark.TheVariants.{OnStack, InList}
use Rattle.html_arena.specs.declared.marks.Marks.{Marks}

abbrev pub no_marks : Marks
no_marks = record { on_stack = false; in_list = false }

abbrev pub has_mark : Mark → Marks → Bool
has_mark OnStack m = m.on_stack
has_mark InList m = m.in_list

abbrev pub with_mark : Mark → Bool → Marks → Marks
with_mark OnStack b m = record m { on_stack = b }
with_mark InList b m = record m { in_list = b }
