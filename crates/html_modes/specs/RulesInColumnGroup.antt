-- Claimed.
-- The "in column group" insertion mode (13.2.6.4.12).
use Rattle.std.specs.Prelude.{if◌then◌else◌}
use Rattle.html_names.specs.declared.tag.Tag.{Tag}
use Rattle.html_names.specs.declared.tag.Tag.TheVariants as tag
use Rattle.html_names.specs.Tags.{is_same}
use Rattle.html_ledger.specs.declared.fate.Cause.TheVariants.{InColumnGroup}
use Rattle.html_ledger.specs.declared.symbol.Symbol.{Symbol}
use Rattle.html_ledger.specs.declared.symbol.Symbol.TheVariants.{Start, End, Char, Comment, Doctype}
use Rattle.html_ledger.specs.Spaces.{is_space}
use Rattle.html_tree.specs.declared.groups.Group.TheVariants as group
use Rattle.html_construction.specs.declared.mode.Mode.TheVariants as mode
use Rattle.html_construction.specs.Plans.{Ask, By, Do, Fork, Plan, popping}
use Rattle.html_construction.specs.Words.{InsertCharacter, InsertComment, InsertVoid, IsOutsideColumnGroup, Switch}
use Rattle.html_modes.specs.RuleForms.{again, done_with, ignored, ignored_doctype, over}

-- If the current node is not a colgroup element, the second. Otherwise, pop the current node from the stack of open elements (where it is not the first:
-- own). Switch the insertion mode to "in table"; the first.
abbrev pub closing_column_group : Fork
closing_column_group p n = popping (group.Named tag.Colgroup) (Do (Switch mode.InTable) p) n

-- A start tag or a code point: close the column group and reprocess the token; or ignore the token, where it may be outside one, as it may where a run of
-- the standard leads (else it goes on in the mode "in body": own).
abbrev pub leaving_column_group : Plan
leaving_column_group = closing_column_group again (Ask IsOutsideColumnGroup (ignored InColumnGroup) (Do (Switch mode.InBody) again))

abbrev pub in_column_group_start : Tag → Plan
in_column_group_start g =
    -- A start tag whose tag name is "html": process the token using the rules for the "in body" insertion mode.
    if is_same g tag.Html then By mode.InBody else (
    -- A start tag whose tag name is "col": insert an HTML element for the token. Immediately pop the current node off the stack of open elements.
    if is_same g tag.Col then Do (InsertVoid tag.Col) over else (
    -- A start tag whose tag name is "template": process the token using the rules for the "in head" insertion mode.
    if is_same g tag.Template then By mode.InHead else
    -- Anything else: close the column group (above), reprocess the token; or ignore the token (above).
    leaving_column_group))

abbrev pub in_column_group_end : Tag → Plan
in_column_group_end g =
    -- An end tag whose tag name is "colgroup": close it (above), or ignore the token.
    if is_same g tag.Colgroup then closing_column_group done_with done_with else (
    -- An end tag whose tag name is "col": ignore the token.
    if is_same g tag.Col then done_with else (
    -- An end tag whose tag name is "template": process the token using the rules for the "in head" insertion mode.
    if is_same g tag.Template then By mode.InHead else
    -- Anything else: close the column group (above), reprocess the token; or ignore the token.
    closing_column_group again done_with))

abbrev pub in_column_group : Symbol → Plan
-- A character token that is one of U+0009, U+000A, U+000C, U+000D, U+0020: insert the character. Anything else: as for other start tags.
in_column_group (Char c) = if is_space c then Do InsertCharacter over else leaving_column_group
-- A comment token: insert a comment.
in_column_group Comment = Do InsertComment over
-- A DOCTYPE token: ignore the token.
in_column_group Doctype = ignored_doctype
in_column_group (Start g) = in_column_group_start g
in_column_group (End g) = in_column_group_end g
-- An end-of-file token: process the token using the rules for the "in body" insertion mode.
in_column_group _ = By mode.InBody
