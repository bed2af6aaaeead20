-- Claimed.
-- The "initial" insertion mode (13.2.6.4.1).
use Rattle.std.specs.Prelude.{true, false}
use Rattle.html_ledger.specs.declared.symbol.Symbol.{Symbol}
use Rattle.html_ledger.specs.declared.symbol.Symbol.TheVariants.{Comment, Doctype}
use Rattle.html_tree.specs.declared.groups.Target.TheVariants as target
use Rattle.html_construction.specs.declared.mode.Mode.TheVariants as mode
use Rattle.html_construction.specs.Plans.{Ask, Do, Plan}
use Rattle.html_construction.specs.Words.{InsertCommentAt, Quirks, SetsQuirks, Switch}
use Rattle.html_modes.specs.RuleForms.{again, inserting_doctype, over}

-- If the DOCTYPE token matches one of these conditions (`sets_quirks`), set the Document to quirks mode.
abbrev pub setting_quirks : Plan → Plan
setting_quirks p = Ask SetsQuirks (Do (Quirks true) p) (Do (Quirks false) p)

-- A character token that is one of U+0009, U+000A, U+000C, U+000D, U+0020 is ignored before any mode's rules here (`must_drop`).
abbrev pub initial : Symbol → Plan
-- A comment token: insert a comment as the last child of the Document object.
initial Comment = Do (InsertCommentAt target.Document) over
-- A DOCTYPE token: append a DocumentType node to the Document node. Then, set the Document to quirks mode, or not (above). Then, switch the insertion mode
-- to "before html".
initial Doctype = inserting_doctype (setting_quirks (Do (Switch mode.BeforeHtml) over))
-- Anything else: set the Document to quirks mode; switch the insertion mode to "before html", then reprocess the token.
initial _ = Do (Quirks true) (Do (Switch mode.BeforeHtml) again)
