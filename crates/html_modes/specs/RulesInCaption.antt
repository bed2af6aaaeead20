-- Claimed.
-- The "in caption" insertion mode (13.2.6.4.11).
use Rattle.std.specs.Prelude.{if◌then◌else◌}
use Rattle.html_names.specs.declared.sets.Scope.TheVariants as scope
use Rattle.html_names.specs.declared.tag.Tag.{Tag}
use Rattle.html_names.specs.declared.tag.Tag.TheVariants as tag
use Rattle.html_names.specs.Groups.{is_ignored_in_table, is_table_piece}
use Rattle.html_names.specs.Tags.{is_same}
use Rattle.html_ledger.specs.declared.fate.Cause.TheVariants.{Misplaced}
use Rattle.html_ledger.specs.declared.symbol.Symbol.{Symbol}
use Rattle.html_ledger.specs.declared.symbol.Symbol.TheVariants.{Start, End}
use Rattle.html_tree.specs.declared.groups.Group.TheVariants as group
use Rattle.html_tree.specs.declared.groups.Stop.TheVariants as stop
use Rattle.html_construction.specs.declared.mode.Mode.TheVariants as mode
use Rattle.html_construction.specs.Plans.{By, Do, Fork, Plan, closing}
use Rattle.html_construction.specs.Words.{ClearToMarker, Switch}
use Rattle.html_modes.specs.RuleForms.{again, done_with, ignored}

-- If the stack of open elements does not have a caption element in table scope, the second. Otherwise: generate implied end tags; pop elements from this
-- stack until a caption element has been popped from the stack; clear the list of active formatting elements up to the last marker; switch the insertion
-- mode to "in table"; the first.
abbrev pub closing_caption : Fork
closing_caption p n = closing (group.Named tag.Caption) (stop.EndOf scope.Table) (Do ClearToMarker (Do (Switch mode.InTable) p)) n

abbrev pub in_caption_start : Tag → Plan
in_caption_start g =
    -- A start tag whose tag name is one of: "caption", "col", "colgroup", "tbody", "td", "tfoot", "th", "thead", "tr": close the caption (above), or ignore
    -- the token; reprocess the token.
    if is_table_piece g then closing_caption again (ignored Misplaced) else
    -- Anything else: process the token using the rules for the "in body" insertion mode.
    By mode.InBody

abbrev pub in_caption_end : Tag → Plan
in_caption_end g =
    -- An end tag whose tag name is "caption": close it (above), or ignore the token.
    if is_same g tag.Caption then closing_caption done_with done_with else (
    -- An end tag whose tag name is "table": the same; reprocess the token.
    if is_same g tag.Table then closing_caption again done_with else (
    -- An end tag whose tag name is one of: "body", "col", "colgroup", "html", "tbody", "td", "tfoot", "th", "thead", "tr" (the other of that set comes
    -- before): ignore the token.
    if is_ignored_in_table g then done_with else
    -- Anything else: process the token using the rules for the "in body" insertion mode.
    By mode.InBody))

abbrev pub in_caption : Symbol → Plan
in_caption (Start g) = in_caption_start g
in_caption (End g) = in_caption_end g
in_caption _ = By mode.InBody
