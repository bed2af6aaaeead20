-- Claimed.
-- The "in table body" insertion mode (13.2.6.4.13).
use Rattle.std.specs.Prelude.{if◌then◌else◌}
use Rattle.html_names.specs.declared.sets.Scope.TheVariants as scope
use Rattle.html_names.specs.declared.tag.Tag.{Tag}
use Rattle.html_names.specs.declared.tag.Tag.TheVariants as tag
use Rattle.html_names.specs.Groups.{ends_section, is_ignored_in_table}
use Rattle.html_names.specs.Sets.{is_cell, is_section}
use Rattle.html_names.specs.Tags.{is_same}
use Rattle.html_ledger.specs.declared.fate.Cause.TheVariants.{Misplaced}
use Rattle.html_ledger.specs.declared.symbol.Symbol.{Symbol}
use Rattle.html_ledger.specs.declared.symbol.Symbol.TheVariants.{Start, End}
use Rattle.html_tree.specs.declared.groups.Group.TheVariants as group
use Rattle.html_tree.specs.declared.groups.Stop.TheVariants as stop
use Rattle.html_tree.specs.declared.groups.TableContext.TheVariants as context
use Rattle.html_construction.specs.declared.mode.Mode.TheVariants as mode
use Rattle.html_construction.specs.Plans.{Ask, By, Do, Fork, Plan, implying_part, inserting_part, popping}
use Rattle.html_construction.specs.Words.{ClearTo, Finds, Switch}
use Rattle.html_modes.specs.RuleForms.{again, done_with, ignored, over}

-- If the stack of open elements does not have a tbody, thead, or tfoot element in table scope, the second. Otherwise: clear the stack back to a table body
-- context; pop the current node off the stack of open elements (where it is such an element, as it is then: own); switch the insertion mode to "in table";
-- the first.
abbrev pub closing_section : Fork
closing_section p n = Ask (Finds group.Section (stop.EndOf scope.Table)) (Do (ClearTo context.Body) (popping group.Section (Do (Switch mode.InTable) p) n)) n

abbrev pub in_table_body_start : Tag → Plan
in_table_body_start g =
    -- A start tag whose tag name is "tr": clear the stack back to a table body context; insert an HTML element for the token, then switch the insertion
    -- mode to "in row".
    if is_same g tag.Tr then Do (ClearTo context.Body) (inserting_part tag.Tr (Do (Switch mode.InRow) over)) else (
    -- A start tag whose tag name is one of: "th", "td": clear the stack back to a table body context; insert an HTML element for a "tr" start tag token
    -- with no attributes, then switch the insertion mode to "in row"; reprocess the current token.
    if is_cell g then Do (ClearTo context.Body) (implying_part tag.Tr (Do (Switch mode.InRow) again)) else (
    -- A start tag whose tag name is one of: "caption", "col", "colgroup", "tbody", "tfoot", "thead": if the stack of open elements does not have a tbody,
    -- thead, or tfoot element in table scope, ignore the token. Otherwise: close it (above); reprocess the token.
    if ends_section g then closing_section again (ignored Misplaced) else
    -- Anything else: process the token using the rules for the "in table" insertion mode.
    By mode.InTable))

abbrev pub in_table_body_end : Tag → Plan
in_table_body_end g =
    -- An end tag whose tag name is "table": as for "caption".
    if is_same g tag.Table then closing_section again done_with else (
    -- An end tag whose tag name is one of: "tbody", "tfoot", "thead": if the stack of open elements does not have an element in table scope with the same
    -- tag name as that of the token, ignore the token. Otherwise: close it (above).
    if is_section g then Ask (Finds (group.Named g) (stop.EndOf scope.Table)) (closing_section done_with done_with) done_with else (
    -- An end tag whose tag name is one of: "body", "caption", "col", "colgroup", "html", "td", "th", "tr" (the others of that set come before): ignore the
    -- token.
    if is_ignored_in_table g then done_with else
    -- Anything else: process the token using the rules for the "in table" insertion mode.
    By mode.InTable))

abbrev pub in_table_body : Symbol → Plan
in_table_body (Start g) = in_table_body_start g
in_table_body (End g) = in_table_body_end g
in_table_body _ = By mode.InTable
