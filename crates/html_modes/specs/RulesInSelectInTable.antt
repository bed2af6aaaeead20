-- Claimed.
-- The "in select in table" insertion mode (13.2.6.4.17).
use Rattle.std.specs.Prelude.{if◌then◌else◌}
use Rattle.html_names.specs.declared.sets.Scope.TheVariants as scope
use Rattle.html_names.specs.Groups.{ends_select_in_table}
use Rattle.html_ledger.specs.declared.fate.Cause.TheVariants.{InSelect}
use Rattle.html_ledger.specs.declared.symbol.Symbol.{Symbol}
use Rattle.html_ledger.specs.declared.symbol.Symbol.TheVariants.{Start, End}
use Rattle.html_tree.specs.declared.groups.Group.TheVariants as group
use Rattle.html_tree.specs.declared.groups.Stop.TheVariants as stop
use Rattle.html_construction.specs.declared.mode.Mode.TheVariants as mode
use Rattle.html_construction.specs.Plans.{Ask, By, Plan}
use Rattle.html_construction.specs.Words.{Finds}
use Rattle.html_modes.specs.RuleForms.{again, done_with, ignored}
use Rattle.html_modes.specs.RulesInSelect.{closing_select}

abbrev pub in_select_in_table : Symbol → Plan
-- A start tag whose tag name is one of: "caption", "table", "tbody", "tfoot", "thead", "tr", "td", "th": pop elements from the stack of open elements until a
-- select element has been popped from the stack; reset the insertion mode appropriately; reprocess the token. (One is in select scope; else ignore the
-- token: own.)
-- Anything else: process the token using the rules for the "in select" insertion mode.
in_select_in_table (Start g) = if ends_select_in_table g then closing_select again (ignored InSelect) else By mode.InSelect
-- An end tag whose tag name is one of these: if the stack of open elements does not have an element in table scope with the same tag name as that of the
-- token, ignore the token. Otherwise: the same.
in_select_in_table (End g) = if ends_select_in_table g then Ask (Finds (group.Named g) (stop.EndOf scope.Table)) (closing_select again done_with) done_with else By mode.InSelect
in_select_in_table _ = By mode.InSelect
