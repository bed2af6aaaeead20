-- Claimed.
-- The "in row" insertion mode (13.2.6.4.14).
use Rattle.std.specs.Prelude.{if◌then◌else◌}
use Rattle.html_names.specs.declared.sets.Scope.TheVariants as scope
use Rattle.html_names.specs.declared.tag.Tag.{Tag}
use Rattle.html_names.specs.declared.tag.Tag.TheVariants as tag
use Rattle.html_names.specs.Groups.{ends_row, is_ignored_in_table}
use Rattle.html_names.specs.Sets.{is_cell, is_section}
use Rattle.html_names.specs.Tags.{is_same}
use Rattle.html_ledger.specs.declared.fate.Cause.TheVariants.{Misplaced}
use Rattle.html_ledger.specs.declared.symbol.Symbol.{Symbol}
use Rattle.html_ledger.specs.declared.symbol.Symbol.TheVariants.{Start, End}
use Rattle.html_tree.specs.declared.groups.Group.TheVariants as group
use Rattle.html_tree.specs.declared.groups.Stop.TheVariants as stop
use Rattle.html_tree.specs.declared.groups.TableContext.TheVariants as context
use Rattle.html_construction.specs.declared.mode.Mode.TheVariants as mode
use Rattle.html_construction.specs.Plans.{Ask, By, Do, Fork, Plan, inserting_part, popping}
use Rattle.html_construction.specs.Words.{AddMarker, ClearTo, Finds, Switch}
use Rattle.html_modes.specs.RuleForms.{again, done_with, ignored, over}

-- If the stack of open elements does not have a tr element in table scope, the second. Otherwise: clear the stack back to a table row context; pop the
-- current node (which will be a tr element) off the stack of open elements (where it is one: own); switch the insertion mode to "in table body"; the
-- first.
abbrev pub closing_row : Fork
closing_row p n = Ask (Finds (group.Named tag.Tr) (stop.EndOf scope.Table)) (Do (ClearTo context.Row) (popping (group.Named tag.Tr) (Do (Switch mode.InTableBody) p) n)) n

abbrev pub in_row_start : Tag → Plan
in_row_start g =
    -- A start tag whose tag name is one of: "th", "td": clear the stack back to a table row context; insert an HTML element for the token, then switch the
    -- insertion mode to "in cell"; insert a marker at the end of the list of active formatting elements.
    if is_cell g then Do (ClearTo context.Row) (inserting_part g (Do (Switch mode.InCell) (Do AddMarker over))) else (
    -- A start tag whose tag name is one of: "caption", "col", "colgroup", "tbody", "tfoot", "thead", "tr": if the stack of open elements does not have a
    -- tr element in table scope, ignore the token. Otherwise: close it (above); reprocess the token.
    if ends_row g then closing_row again (ignored Misplaced) else
    -- Anything else: process the token using the rules for the "in table" insertion mode.
    By mode.InTable)

abbrev pub in_row_end : Tag → Plan
in_row_end g =
    -- An end tag whose tag name is "tr": if the stack of open elements does not have a tr element in table scope, ignore the token. Otherwise: close it
    -- (above).
    if is_same g tag.Tr then closing_row done_with done_with else (
    -- An end tag whose tag name is "table": the same; reprocess the token.
    if is_same g tag.Table then closing_row again done_with else (
    -- An end tag whose tag name is one of: "tbody", "tfoot", "thead": if the stack of open elements does not have an element in table scope with the same
    -- tag name as that of the token, ignore the token. If it does not have a tr element in table scope, ignore the token. Otherwise: close it (above);
    -- reprocess the token.
    if is_section g then Ask (Finds (group.Named g) (stop.EndOf scope.Table)) (closing_row again done_with) done_with else (
    -- An end tag whose tag name is one of: "body", "caption", "col", "colgroup", "html", "td", "th" (the others of that set come before): ignore the token.
    if is_ignored_in_table g then done_with else
    -- Anything else: process the token using the rules for the "in table" insertion mode.
    By mode.InTable)))

abbrev pub in_row : Symbol → Plan
in_row (Start g) = in_row_start g
in_row (End g) = in_row_end g
in_row _ = By mode.InTable
