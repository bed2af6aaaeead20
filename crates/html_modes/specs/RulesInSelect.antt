-- Claimed.
-- The "in select" insertion mode (13.2.6.4.16).
use Rattle.std.specs.Prelude.{◌==◌, if◌then◌else◌}
use Rattle.html_names.specs.declared.sets.Scope.TheVariants as scope
use Rattle.html_names.specs.declared.tag.Tag.{Tag}
use Rattle.html_names.specs.declared.tag.Tag.TheVariants as tag
use Rattle.html_names.specs.Groups.{ends_select}
use Rattle.html_names.specs.Tags.{is_same}
use Rattle.html_ledger.specs.declared.fate.Cause.TheVariants.{InSelect, Null}
use Rattle.html_ledger.specs.declared.symbol.Symbol.{Symbol}
use Rattle.html_ledger.specs.declared.symbol.Symbol.TheVariants.{Start, End, Char, Comment, Doctype}
use Rattle.html_tree.specs.declared.groups.Group.TheVariants as group
use Rattle.html_tree.specs.declared.groups.Stop.TheVariants as stop
use Rattle.html_construction.specs.declared.mode.Mode.TheVariants as mode
use Rattle.html_construction.specs.Plans.{Ask, By, Do, Fork, Plan, closing}
use Rattle.html_construction.specs.Words.{Insert, InsertCharacter, InsertComment, InsertVoid, IsOptionInGroup, Pop, Reset}
use Rattle.html_modes.specs.RuleForms.{again, done_with, ignored, ignored_doctype, over, popping_any}

-- If the stack of open elements does not have a select element in select scope, the second. Otherwise: pop elements from the stack of open elements until
-- a select element has been popped from the stack; reset the insertion mode appropriately; the first.
abbrev pub closing_select : Fork
closing_select p n = closing (group.Named tag.Select) (stop.EndOf scope.Select) (Do Reset p) n

-- If the current node is an option element, pop that node from the stack of open elements. If the current node is an optgroup element, pop that node.
abbrev pub closing_options : Plan → Plan
closing_options p = popping_any (group.Named tag.Option) (popping_any (group.Named tag.Optgroup) p)

-- If the current node is an option element, and the node immediately before it in the stack of open elements is an optgroup element, pop the current node.
abbrev pub closing_grouped_option : Plan → Plan
closing_grouped_option p = Ask IsOptionInGroup (Do Pop p) p

-- The same; then, if the current node is an optgroup element, pop that node.
abbrev pub closing_group : Plan → Plan
closing_group p = closing_grouped_option (popping_any (group.Named tag.Optgroup) p)

abbrev pub in_select_start : Tag → Plan
in_select_start g =
    -- A start tag whose tag name is "html": process the token using the rules for the "in body" insertion mode.
    if is_same g tag.Html then By mode.InBody else (
    -- A start tag whose tag name is "option": if the current node is an option element, pop that node. Insert an HTML element for the token.
    if is_same g tag.Option then popping_any (group.Named tag.Option) (Do Insert over) else (
    -- A start tag whose tag name is "optgroup": close options (above). Insert an HTML element for the token.
    if is_same g tag.Optgroup then closing_options (Do Insert over) else (
    -- A start tag whose tag name is "hr": close options (above). Insert an HTML element for the token. Immediately pop the current node off the stack.
    if is_same g tag.Hr then closing_options (Do (InsertVoid tag.Hr) over) else (
    -- A start tag whose tag name is "select": close the select (above). In each case the token makes no element.
    if is_same g tag.Select then closing_select (ignored InSelect) (ignored InSelect) else (
    -- A start tag whose tag name is one of: "input", "keygen", "textarea": if the stack of open elements does not have a select element in select scope,
    -- ignore the token. Otherwise: close it (above); reprocess the token.
    if ends_select g then closing_select again (ignored InSelect) else (
    -- A start tag whose tag name is one of: "script", "template": process the token using the rules for the "in head" insertion mode.
    if is_same g tag.Script then By mode.InHead else (
    if is_same g tag.Template then By mode.InHead else
    -- Anything else: ignore the token.
    ignored InSelect)))))))

abbrev pub in_select_end : Tag → Plan
in_select_end g =
    -- An end tag whose tag name is "optgroup": close the group (above), or ignore the token.
    if is_same g tag.Optgroup then closing_group done_with else (
    -- An end tag whose tag name is "option": if the current node is an option element, pop that node. Otherwise, ignore the token.
    if is_same g tag.Option then popping_any (group.Named tag.Option) done_with else (
    -- An end tag whose tag name is "select": close it (above), or ignore the token.
    if is_same g tag.Select then closing_select done_with done_with else (
    -- An end tag whose tag name is "template": process the token using the rules for the "in head" insertion mode.
    if is_same g tag.Template then By mode.InHead else
    -- Anything else: ignore the token.
    done_with)))

abbrev pub in_select : Symbol → Plan
-- A character token that is U+0000 NULL: ignore the token. Any other character token: insert the token's character.
in_select (Char c) = if c == 0 then ignored Null else Do InsertCharacter over
-- A comment token: insert a comment.
in_select Comment = Do InsertComment over
-- A DOCTYPE token: ignore the token.
in_select Doctype = ignored_doctype
in_select (Start g) = in_select_start g
in_select (End g) = in_select_end g
-- An end-of-file token: process the token using the rules for the "in body" insertion mode.
in_select _ = By mode.InBody
