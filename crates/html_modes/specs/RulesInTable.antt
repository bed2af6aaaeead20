-- Claimed.
-- The "in table" insertion mode (13.2.6.4.9).
use Rattle.std.specs.Prelude.{if◌then◌else◌}
use Rattle.html_names.specs.declared.sets.Scope.TheVariants as scope
use Rattle.html_names.specs.declared.tag.Tag.{Tag}
use Rattle.html_names.specs.declared.tag.Tag.TheVariants as tag
use Rattle.html_names.specs.Groups.{is_ignored_in_table, is_table_head}
use Rattle.html_names.specs.Sets.{is_cell, is_section}
use Rattle.html_names.specs.Tags.{is_same}
use Rattle.html_ledger.specs.declared.fate.Cause.TheVariants.{Misplaced}
use Rattle.html_ledger.specs.declared.symbol.Symbol.{Symbol}
use Rattle.html_ledger.specs.declared.symbol.Symbol.TheVariants.{Start, End, Char, Comment, Doctype}
use Rattle.html_tree.specs.declared.groups.Group.TheVariants as group
use Rattle.html_tree.specs.declared.groups.Stop.TheVariants as stop
use Rattle.html_tree.specs.declared.groups.TableContext.TheVariants as context
use Rattle.html_construction.specs.declared.mode.Mode.TheVariants as mode
use Rattle.html_construction.specs.Plans.{Ask, By, Do, Fork, Plan, closing, implying_part, inserting_part}
use Rattle.html_construction.specs.Words.{AddMarker, ClearTo, CollectsText, Enter, HasForm, HasTemplate, Insert, InsertClosedForm, InsertComment, InsertVoid, IsHidden, MayMisplace, Reset, Switch}
use Rattle.html_modes.specs.RuleForms.{again, done_with, fostering, ignored, ignored_doctype, over}

-- If the stack of open elements does not have a table element in table scope, the second. Otherwise: pop elements from this stack until a table element has
-- been popped from the stack; reset the insertion mode appropriately; the first.
abbrev pub closing_table : Fork
closing_table p n = closing (group.Named tag.Table) (stop.EndOf scope.Table) (Do Reset p) n

-- Clear the stack back to a table context. Insert an HTML element for a "tbody" start tag token with no attributes, then switch the insertion mode to "in
-- table body". Reprocess the current token.
abbrev pub implying_section : Plan
implying_section = Do (ClearTo context.Table) (implying_part tag.Tbody (Do (Switch mode.InTableBody) again))

-- Start tags that the modes "in table body" and "in row" have no arm of their own for.
abbrev pub in_table_other_start : Tag → Plan
in_table_other_start g =
    -- A start tag whose tag name is "table": close the table (above), or ignore the token; reprocess the token. (None is in scope in a template or a
    -- fragment alone, where the token may be misplaced; where not, an element is inserted: own.)
    if is_same g tag.Table then closing_table again (Ask (MayMisplace tag.Table) (ignored Misplaced) (Do Insert over)) else (
    -- A start tag whose tag name is one of: "style", "script", "template": process the token using the rules for the "in head" insertion mode.
    if is_table_head g then By mode.InHead else (
    -- A start tag whose tag name is "input": if the token does not have an attribute with the name "type", or if it does, but that attribute's value is not
    -- an ASCII case-insensitive match for the string "hidden", then: act as described in the "anything else" entry below. Otherwise: insert an HTML element
    -- for the token; pop that input element off the stack of open elements.
    if is_same g tag.Input then Ask IsHidden (Do (InsertVoid tag.Input) over) fostering else (
    -- A start tag whose tag name is "form": if there is a template element on the stack of open elements, or if the form element pointer is not null,
    -- ignore the token. Otherwise: insert an HTML element for the token, and set the form element pointer to point to the element created; pop that form
    -- element off the stack of open elements.
    if is_same g tag.Form then Ask HasTemplate (ignored Misplaced) (Ask HasForm (ignored Misplaced) (Do InsertClosedForm over)) else
    -- Anything else: enable foster parenting, process the token using the rules for the "in body" insertion mode, and then disable foster parenting.
    fostering)))

abbrev pub in_table_start : Tag → Plan
in_table_start g =
    -- A start tag whose tag name is "caption": clear the stack back to a table context; insert a marker at the end of the list of active formatting
    -- elements; insert an HTML element for the token, then switch the insertion mode to "in caption".
    if is_same g tag.Caption then Do (ClearTo context.Table) (Do AddMarker (inserting_part tag.Caption (Do (Switch mode.InCaption) over))) else (
    -- A start tag whose tag name is "colgroup": clear the stack back to a table context; insert an HTML element for the token, then switch the insertion mode
    -- to "in column group".
    if is_same g tag.Colgroup then Do (ClearTo context.Table) (inserting_part tag.Colgroup (Do (Switch mode.InColumnGroup) over)) else (
    -- A start tag whose tag name is "col": clear the stack back to a table context; insert an HTML element for a "colgroup" start tag token with no
    -- attributes, then switch the insertion mode to "in column group"; reprocess the current token.
    if is_same g tag.Col then Do (ClearTo context.Table) (implying_part tag.Colgroup (Do (Switch mode.InColumnGroup) again)) else (
    -- A start tag whose tag name is one of: "tbody", "tfoot", "thead": clear the stack back to a table context; insert an HTML element for the token, then
    -- switch the insertion mode to "in table body".
    if is_section g then Do (ClearTo context.Table) (inserting_part g (Do (Switch mode.InTableBody) over)) else (
    -- A start tag whose tag name is one of: "td", "th", "tr": a section is implied (above).
    if is_cell g then implying_section else (
    if is_same g tag.Tr then implying_section else
    -- The others (above).
    in_table_other_start g)))))

abbrev pub in_table_end : Tag → Plan
in_table_end g =
    -- An end tag whose tag name is "table": close the table (above), or ignore the token.
    if is_same g tag.Table then closing_table done_with done_with else (
    -- An end tag whose tag name is one of: "body", "caption", "col", "colgroup", "html", "tbody", "td", "tfoot", "th", "thead", "tr": ignore the token.
    if is_ignored_in_table g then done_with else (
    -- An end tag whose tag name is "template": process the token using the rules for the "in head" insertion mode.
    if is_same g tag.Template then By mode.InHead else
    -- Anything else: enable foster parenting, process the token using the rules for the "in body" insertion mode, and then disable foster parenting.
    fostering))

-- What the modes "in table body" and "in row" take from this one.
abbrev pub in_table_other : Symbol → Plan
-- A character token, if the current node is table, tbody, template, tfoot, thead, or tr element: let the pending table character tokens be an empty list of
-- tokens (as it is: own). Set the original insertion mode to the current insertion mode. Switch the insertion mode to "in table text" and reprocess the
-- token. Any other character token: anything else.
in_table_other (Char c) = Ask CollectsText (Do (Enter mode.InTableText) again) fostering
-- A comment token: insert a comment.
in_table_other Comment = Do InsertComment over
-- A DOCTYPE token: ignore the token.
in_table_other Doctype = ignored_doctype
in_table_other (Start g) = in_table_other_start g
in_table_other (End g) = in_table_end g
-- An end-of-file token: process the token using the rules for the "in body" insertion mode.
in_table_other _ = By mode.InBody

abbrev pub in_table : Symbol → Plan
in_table (Start g) = in_table_start g
in_table y = in_table_other y
