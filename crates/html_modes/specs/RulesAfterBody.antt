-- Claimed.
-- The "after body" insertion mode (13.2.6.4.19).
use Rattle.std.specs.Prelude.{if◌then◌else◌}
use Rattle.html_names.specs.declared.tag.Tag.TheVariants as tag
use Rattle.html_names.specs.Tags.{is_same}
use Rattle.html_ledger.specs.declared.symbol.Symbol.{Symbol}
use Rattle.html_ledger.specs.declared.symbol.Symbol.TheVariants.{Start, End, Char, Comment, Doctype}
use Rattle.html_ledger.specs.Spaces.{is_space}
use Rattle.html_tree.specs.declared.groups.Target.TheVariants as target
use Rattle.html_construction.specs.declared.mode.Mode.TheVariants as mode
use Rattle.html_construction.specs.Plans.{Ask, By, Do, Plan}
use Rattle.html_construction.specs.Words.{InsertCommentAt, IsFragment, Switch}
use Rattle.html_modes.specs.RuleForms.{again, done_with, ignored_doctype, over}

-- Anything else: switch the insertion mode to "in body" and reprocess the token.
abbrev pub back_to_body : Plan
back_to_body = Do (Switch mode.InBody) again

abbrev pub after_body : Symbol → Plan
-- A character token that is one of U+0009, U+000A, U+000C, U+000D, U+0020: process the token using the rules for the "in body" insertion mode.
after_body (Char c) = if is_space c then By mode.InBody else back_to_body
-- A comment token: insert a comment as the last child of the first element in the stack of open elements (the html element).
after_body Comment = Do (InsertCommentAt target.First) over
-- A DOCTYPE token: ignore the token.
after_body Doctype = ignored_doctype
-- A start tag whose tag name is "html": process the token using the rules for the "in body" insertion mode.
after_body (Start g) = if is_same g tag.Html then By mode.InBody else back_to_body
-- An end tag whose tag name is "html": if the parser was created as part of the HTML fragment parsing algorithm, ignore the token. Otherwise, switch the
-- insertion mode to "after after body".
after_body (End g) = if is_same g tag.Html then Ask IsFragment done_with (Do (Switch mode.AfterAfterBody) done_with) else back_to_body
-- An end-of-file token: stop parsing.
after_body _ = done_with
