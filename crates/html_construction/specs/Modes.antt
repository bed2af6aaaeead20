-- Claimed.
-- Kinds of insertion modes (13.2.4.1).
use Rattle.std.specs.Prelude.{Bool, true, false}
use Rattle.html_construction.specs.declared.mode.Mode.{Mode}
use Rattle.html_construction.specs.declared.mode.Mode.TheVariants.{BeforeHead, InHead, AfterHead, InBody, InTable, InCaption, InColumnGroup, InTableBody, InRow, InCell, InSelect, InSelectInTable, InTemplate, InFrameset, AfterFrameset, AfterAfterFrameset}

-- a mode that the open elements may call for: one that "reset the insertion mode appropriately" chooses, or a template insertion mode
abbrev pub is_reset : Mode → Bool
is_reset BeforeHead = true
is_reset InHead = true
is_reset AfterHead = true
is_reset InBody = true
is_reset InTable = true
is_reset InCaption = true
is_reset InColumnGroup = true
is_reset InTableBody = true
is_reset InRow = true
is_reset InCell = true
is_reset InSelect = true
is_reset InSelectInTable = true
is_reset InTemplate = true
is_reset InFrameset = true
is_reset _ = false

-- the modes inside a select (13.2.6.4.16 and 13.2.6.4.17)
abbrev pub is_of_selects : Mode → Bool
is_of_selects InSelect = true
is_of_selects InSelectInTable = true
is_of_selects _ = false

-- the modes of a page of frames (13.2.6.4.20, 13.2.6.4.21 and 13.2.6.4.23)
abbrev pub is_of_frames : Mode → Bool
is_of_frames InFrameset = true
is_of_frames AfterFrameset = true
is_of_frames AfterAfterFrameset = true
is_of_frames _ = false

-- the mode of a column group (13.2.6.4.12)
abbrev pub is_of_column_groups : Mode → Bool
is_of_column_groups InColumnGroup = true
is_of_column_groups _ = false
