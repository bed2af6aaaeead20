-- Claimed.
-- The "in cell" insertion mode (13.2.6.4.15).
use Rattle.std.specs.Prelude.{if◌then◌else◌}
use Rattle.html_names.specs.declared.sets.Scope.TheVariants as scope
use Rattle.html_names.specs.declared.tag.Tag.{Tag}
use Rattle.html_names.specs.Groups.{ends_cell, is_ignored_in_table, is_table_piece}
use Rattle.html_names.specs.Sets.{is_cell}
use Rattle.html_ledger.specs.declared.fate.Cause.TheVariants.{Misplaced}
use Rattle.html_ledger.specs.declared.symbol.Symbol.{Symbol}
use Rattle.html_ledger.specs.declared.symbol.Symbol.TheVariants.{Start, End}
use Rattle.html_tree.specs.declared.groups.Group.{Group}
use Rattle.html_tree.specs.declared.groups.Group.TheVariants as group
use Rattle.html_tree.specs.declared.groups.Stop.TheVariants as stop
use Rattle.html_construction.specs.declared.mode.Mode.TheVariants as mode
use Rattle.html_construction.specs.Plans.{Ask, By, Do, Fork, Plan, closing}
use Rattle.html_construction.specs.Words.{ClearToMarker, Finds, Switch}
use Rattle.html_modes.specs.RuleForms.{again, done_with, ignored}

-- If the stack of open elements does not have such a cell in table scope, the second. Otherwise: generate implied end tags; pop elements from the stack of
-- open elements until it has been popped; clear the list of active formatting elements up to the last marker; switch the insertion mode to "in row"; the
-- first.
abbrev pub closing_cell : Group → Fork
closing_cell cell p n = closing cell (stop.EndOf scope.Table) (Do ClearToMarker (Do (Switch mode.InRow) p)) n

abbrev pub in_cell_start : Tag → Plan
in_cell_start g =
    -- A start tag whose tag name is one of: "caption", "col", "colgroup", "tbody", "td", "tfoot", "th", "thead", "tr": close the cell (above), a td or th
    -- element; reprocess the token. (One is in table scope; else ignore the token: own.)
    if is_table_piece g then closing_cell group.Cell again (ignored Misplaced) else
    -- Anything else: process the token using the rules for the "in body" insertion mode.
    By mode.InBody

abbrev pub in_cell_end : Tag → Plan
in_cell_end g =
    -- An end tag whose tag name is one of: "td", "th": if the stack of open elements does not have an element in table scope with the same tag name as that
    -- of the token, ignore the token. Otherwise: close it (above).
    if is_cell g then closing_cell (group.Named g) done_with done_with else (
    -- An end tag whose tag name is one of: "table", "tbody", "tfoot", "thead", "tr": if the stack of open elements does not have an element in table scope
    -- with the same tag name as that of the token, ignore the token. Otherwise, close the cell (above) and reprocess the token.
    if ends_cell g then Ask (Finds (group.Named g) (stop.EndOf scope.Table)) (closing_cell group.Cell again done_with) done_with else (
    -- An end tag whose tag name is one of: "body", "caption", "col", "colgroup", "html" (the others of that set come before): ignore the token.
    if is_ignored_in_table g then done_with else
    -- Anything else: process the token using the rules for the "in body" insertion mode.
    By mode.InBody))

abbrev pub in_cell : Symbol → Plan
in_cell (Start g) = in_cell_start g
in_cell (End g) = in_cell_end g
in_cell _ = By mode.InBody
