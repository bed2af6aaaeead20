-- Claimed.
-- The "after after body" insertion mode (13.2.6.4.22).
use Rattle.std.specs.Prelude.{if◌then◌else◌}
use Rattle.html_names.specs.declared.tag.Tag.TheVariants as tag
use Rattle.html_names.specs.Tags.{is_same}
use Rattle.html_ledger.specs.declared.symbol.Symbol.{Symbol}
use Rattle.html_ledger.specs.declared.symbol.Symbol.TheVariants.{Start, Char, Comment, Doctype, Eof}
use Rattle.html_ledger.specs.Spaces.{is_space}
use Rattle.html_tree.specs.declared.groups.Target.TheVariants as target
use Rattle.html_construction.specs.declared.mode.Mode.TheVariants as mode
use Rattle.html_construction.specs.Plans.{By, Do, Plan}
use Rattle.html_construction.specs.Words.{InsertCommentAt, Switch}
use Rattle.html_modes.specs.RuleForms.{again, done_with, ignored_doctype, over}

-- Anything else: switch the insertion mode to "in body" and reprocess the token.
abbrev pub back_in_body : Plan
back_in_body = Do (Switch mode.InBody) again

abbrev pub after_after_body : Symbol → Plan
-- A comment token: insert a comment as the last child of the Document object.
after_after_body Comment = Do (InsertCommentAt target.Document) over
-- A DOCTYPE token, a character token that is one of U+0009, U+000A, U+000C, U+000D, U+0020, a start tag whose tag name is "html": process the token using the
-- rules for the "in body" insertion mode, where a DOCTYPE is ignored.
after_after_body Doctype = ignored_doctype
after_after_body (Char c) = if is_space c then By mode.InBody else back_in_body
after_after_body (Start g) = if is_same g tag.Html then By mode.InBody else back_in_body
-- An end-of-file token: stop parsing.
after_after_body Eof = done_with
after_after_body _ = back_in_body
