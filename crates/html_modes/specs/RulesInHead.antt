-- Claimed.
-- The "in head" insertion mode (13.2.6.4.4).
use Rattle.std.specs.Prelude.{if◌then◌else◌}
use Rattle.html_names.specs.declared.tag.Tag.{Tag}
use Rattle.html_names.specs.declared.tag.Tag.TheVariants as tag
use Rattle.html_names.specs.Groups.{is_head_text, is_page_part}
use Rattle.html_names.specs.Sets.{is_headish}
use Rattle.html_names.specs.Tags.{is_same}
use Rattle.html_ledger.specs.declared.fate.Cause.TheVariants.{Misplaced}
use Rattle.html_ledger.specs.declared.symbol.Symbol.{Symbol}
use Rattle.html_ledger.specs.declared.symbol.Symbol.TheVariants.{Start, End, Char, Comment, Doctype}
use Rattle.html_ledger.specs.Spaces.{is_space}
use Rattle.html_tree.specs.declared.groups.Group.TheVariants as group
use Rattle.html_tree.specs.declared.groups.Stop.TheVariants as stop
use Rattle.html_construction.specs.declared.mode.Mode.TheVariants as mode
use Rattle.html_construction.specs.Plans.{Ask, By, Do, Fork, Plan, closing, popping}
use Rattle.html_construction.specs.Words.{AddMarker, ClearToMarker, Enter, FramesetOff, HasTemplate, Insert, InsertCharacter, InsertComment, InsertVoid, PopTemplate, PushTemplate, Reset, Switch, Word}
use Rattle.html_modes.specs.RuleForms.{again, done_with, ignored, ignored_doctype, over}

-- Insert an HTML element for the token (here or, from the rules for "after head", in the head). Let the original insertion mode be the current insertion
-- mode. Switch the insertion mode to "text". (How the text is read is the tokenizer's.)
abbrev pub holding_text : Word → Plan
holding_text insert = Do insert (Do (Enter mode.Text) over)

-- Insert an HTML element for the token. Insert a marker at the end of the list of active formatting elements. Set the frameset-ok flag to "not ok". Push
-- "in template" onto the stack of template insertion modes so that it is the new current template insertion mode. Switch the insertion mode to "in
-- template".
abbrev pub opening_template : Word → Plan
opening_template insert = Do insert (Do AddMarker (Do FramesetOff (Do (PushTemplate mode.InTemplate) (Do (Switch mode.InTemplate) over))))

abbrev pub in_head_part : (insert insert_void : Word) → Tag → Plan
in_head_part insert insert_void g =
    -- A start tag whose tag name is one of: "title", "noframes", "style", "script": follow the generic RCDATA or raw text element parsing algorithm; of a
    -- script the same, without what a script engine asks for.
    if is_head_text g then holding_text insert else (
    -- A start tag whose tag name is "template": open it (above).
    if is_same g tag.Template then opening_template insert else
    -- A start tag whose tag name is one of: "base", "basefont", "bgsound", "link", "meta": insert an HTML element for the token. Immediately pop the
    -- current node off the stack of open elements.
    Do insert_void over)

-- If there is no template element on the stack of open elements, the second. Otherwise: generate all implied end tags thoroughly; pop elements from the
-- stack of open elements until a template element has been popped from the stack; clear the list of active formatting elements up to the last marker; pop
-- the current template insertion mode off the stack of template insertion modes; reset the insertion mode appropriately; the first.
abbrev pub closing_template : Fork
closing_template p n = Ask HasTemplate (closing (group.Named tag.Template) stop.Never (Do ClearToMarker (Do PopTemplate (Do Reset p))) n) n

-- Pop the current node (which will be the head element) off the stack of open elements. Switch the insertion mode to "after head". (Where it is not the
-- head, as it is then, the insertion mode is "in body": own.)
abbrev pub leaving_head : Plan → Plan
leaving_head p = popping (group.Named tag.Head) (Do (Switch mode.AfterHead) p) (Do (Switch mode.InBody) p)

abbrev pub in_head_start : Tag → Plan
in_head_start g =
    -- A start tag whose tag name is "html": process the token using the rules for the "in body" insertion mode.
    if is_same g tag.Html then By mode.InBody else (
    -- A start tag whose tag name is one of: "base", "basefont", "bgsound", "link", "meta", "title", "noframes", "style", "script", "template" (above).
    if is_headish g then in_head_part Insert (InsertVoid g) g else (
    -- A start tag whose tag name is "noscript", if the scripting flag is disabled: insert an HTML element for the token. Switch the insertion mode to "in
    -- head noscript".
    if is_same g tag.Noscript then Do Insert (Do (Switch mode.InHeadNoscript) over) else (
    -- A start tag whose tag name is "head": ignore the token.
    if is_same g tag.Head then ignored Misplaced else
    -- Anything else: leave the head (above), reprocess the token.
    leaving_head again)))

abbrev pub in_head_end : Tag → Plan
in_head_end g =
    -- An end tag whose tag name is "head": leave the head (above).
    if is_same g tag.Head then leaving_head done_with else (
    -- An end tag whose tag name is one of: "body", "html", "br" (head comes before): act as described in the "anything else" entry.
    if is_page_part g then leaving_head again else (
    -- An end tag whose tag name is "template": close it (above), or ignore the token.
    if is_same g tag.Template then closing_template done_with done_with else
    -- Any other end tag: ignore the token.
    done_with))

abbrev pub in_head : Symbol → Plan
-- A character token that is one of U+0009, U+000A, U+000C, U+000D, U+0020: insert the character. Anything else: leave the head (above), reprocess.
in_head (Char c) = if is_space c then Do InsertCharacter over else leaving_head again
-- A comment token: insert a comment.
in_head Comment = Do InsertComment over
-- A DOCTYPE token: ignore the token.
in_head Doctype = ignored_doctype
in_head (Start g) = in_head_start g
in_head (End g) = in_head_end g
in_head _ = leaving_head again
