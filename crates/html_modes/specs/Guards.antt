-- Claimed, but for this crate's own functions: is_root_end.
-- Modes and tokens as the guards tell them apart (13.2.6).
use Rattle.std.specs.Prelude.{Bool, true, false}
use Rattle.html_names.specs.declared.tag.Tag.TheVariants as tag
use Rattle.html_names.specs.Tags.{is_same}
use Rattle.html_ledger.specs.declared.symbol.Symbol.{Symbol}
use Rattle.html_ledger.specs.declared.symbol.Symbol.TheVariants.{Start, End, Char}
use Rattle.html_construction.specs.declared.mode.Mode.{Mode}
use Rattle.html_construction.specs.declared.mode.Mode.TheVariants.{InBody, Text, InTableText, InCaption, InCell}

-- a token that a rule may drop for the mode that is set
abbrev pub is_droppable : Symbol → Bool
is_droppable (Start t) = true
is_droppable (Char c) = true
is_droppable _ = false

-- the modes in which all text but U+0000 is inserted, and nothing else follows from it for the mode
abbrev pub takes_runs : Mode → Bool
takes_runs InBody = true
takes_runs Text = true
takes_runs InCaption = true
takes_runs InCell = true
takes_runs _ = false

-- the mode in which the text of a table is kept
abbrev pub is_table_text : Mode → Bool
is_table_text InTableText = true
is_table_text _ = false

-- the mode text
abbrev pub is_text : Mode → Bool
is_text Text = true
is_text _ = false

-- the end tag of the root
abbrev pub is_root_end : Symbol → Bool
is_root_end (End t) = is_same t tag.Html
is_root_end _ = false
