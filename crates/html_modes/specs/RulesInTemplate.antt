-- Claimed.
-- The "in template" insertion mode (13.2.6.4.18).
use Rattle.std.specs.Prelude.{if◌then◌else◌}
use Rattle.html_names.specs.declared.tag.Tag.{Tag}
use Rattle.html_names.specs.declared.tag.Tag.TheVariants as tag
use Rattle.html_names.specs.Groups.{is_table_part}
use Rattle.html_names.specs.Sets.{is_cell, is_headish}
use Rattle.html_names.specs.Tags.{is_same}
use Rattle.html_ledger.specs.declared.symbol.Symbol.{Symbol}
use Rattle.html_ledger.specs.declared.symbol.Symbol.TheVariants.{Start, End, Eof}
use Rattle.html_construction.specs.declared.mode.Mode.{Mode}
use Rattle.html_construction.specs.declared.mode.Mode.TheVariants as mode
use Rattle.html_construction.specs.Plans.{By, Do, Plan}
use Rattle.html_construction.specs.Words.{PopTemplate, PushTemplate, Switch}
use Rattle.html_modes.specs.RuleForms.{again, done_with}
use Rattle.html_modes.specs.RulesInHead.{closing_template}

-- A start tag whose tag name is one of: "caption", "colgroup", "tbody", "tfoot", "thead": "in table"; "col": "in column group"; "tr": "in table body"; one of:
-- "td", "th": "in row"; any other start tag: "in body".
abbrev pub mode_in_template : Tag → Mode
mode_in_template g =
    if is_table_part g then mode.InTable else (
    if is_same g tag.Col then mode.InColumnGroup else (
    if is_same g tag.Tr then mode.InTableBody else (
    if is_cell g then mode.InRow else mode.InBody)))

-- Pop the current template insertion mode off the stack of template insertion modes. Push this one onto it so that it is the new current template insertion
-- mode. Switch the insertion mode to it, and reprocess the token.
abbrev pub going_on_in : Mode → Plan
going_on_in m = Do PopTemplate (Do (PushTemplate m) (Do (Switch m) again))

abbrev pub in_template : Symbol → Plan
-- A start tag whose tag name is one of: "base", "basefont", "bgsound", "link", "meta", "noframes", "script", "style", "template", "title": process the token
-- using the rules for the "in head" insertion mode. Any other: go on in its mode (above).
in_template (Start g) = if is_headish g then By mode.InHead else going_on_in (mode_in_template g)
-- An end tag whose tag name is "template": process the token using the rules for the "in head" insertion mode. Any other end tag: ignore the token.
in_template (End g) = if is_same g tag.Template then By mode.InHead else done_with
-- An end-of-file token: if there is no template element on the stack of open elements, then stop parsing. Otherwise: close it (13.2.6.4.4); reprocess the
-- token.
in_template Eof = closing_template again done_with
-- A character token, a comment token, a DOCTYPE token: process the token using the rules for the "in body" insertion mode.
in_template _ = By mode.InBody
