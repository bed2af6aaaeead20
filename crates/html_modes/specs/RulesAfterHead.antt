-- Claimed.
-- The "after head" insertion mode (13.2.6.4.6).
use Rattle.std.specs.Prelude.{if◌then◌else◌}
use Rattle.html_names.specs.declared.tag.Tag.{Tag}
use Rattle.html_names.specs.declared.tag.Tag.TheVariants as tag
use Rattle.html_names.specs.Groups.{is_page_part}
use Rattle.html_names.specs.Sets.{is_headish}
use Rattle.html_names.specs.Tags.{is_same}
use Rattle.html_ledger.specs.declared.fate.Cause.TheVariants.{Misplaced}
use Rattle.html_ledger.specs.declared.symbol.Symbol.{Symbol}
use Rattle.html_ledger.specs.declared.symbol.Symbol.TheVariants.{Start, End, Char, Comment, Doctype}
use Rattle.html_ledger.specs.Spaces.{is_space}
use Rattle.html_tree.specs.declared.groups.Target.TheVariants as target
use Rattle.html_construction.specs.declared.mode.Mode.TheVariants as mode
use Rattle.html_construction.specs.Plans.{By, Do, Plan}
use Rattle.html_construction.specs.Words.{FramesetOff, Imply, Insert, InsertAt, InsertCharacter, InsertComment, InsertVoidAt, Switch}
use Rattle.html_modes.specs.RuleForms.{again, done_with, ignored, ignored_doctype, over}
use Rattle.html_modes.specs.RulesInHead.{in_head_part}

-- Anything else: insert an HTML element for a "body" start tag token with no attributes. Switch the insertion mode to "in body". Reprocess the current
-- token.
abbrev pub implying_body : Plan
implying_body = Do (Imply tag.Body) (Do (Switch mode.InBody) again)

abbrev pub after_head_start : Tag → Plan
after_head_start g =
    -- A start tag whose tag name is "html": process the token using the rules for the "in body" insertion mode.
    if is_same g tag.Html then By mode.InBody else (
    -- A start tag whose tag name is "body": insert an HTML element for the token. Set the frameset-ok flag to "not ok". Switch the insertion mode to "in
    -- body".
    if is_same g tag.Body then Do Insert (Do FramesetOff (Do (Switch mode.InBody) over)) else (
    -- A start tag whose tag name is "frameset": insert an HTML element for the token. Switch the insertion mode to "in frameset".
    if is_same g tag.Frameset then Do Insert (Do (Switch mode.InFrameset) over) else (
    -- A start tag whose tag name is one of: "base", "basefont", "bgsound", "link", "meta", "noframes", "script", "style", "template", "title": push the
    -- node pointed to by the head element pointer onto the stack of open elements; process the token using the rules for the "in head" insertion mode;
    -- remove that node from the stack. (Here the element goes last into the head: what these rules do is the same.)
    if is_headish g then in_head_part (InsertAt target.Head) (InsertVoidAt g target.Head) g else (
    -- A start tag whose tag name is "head": ignore the token.
    if is_same g tag.Head then ignored Misplaced else implying_body))))

abbrev pub after_head_end : Tag → Plan
after_head_end g =
    -- An end tag whose tag name is "template": process the token using the rules for the "in head" insertion mode.
    if is_same g tag.Template then By mode.InHead else (
    -- An end tag whose tag name is one of: "body", "html", "br": act as described in the "anything else" entry. (Of the four page parts head is none.)
    if is_same g tag.Head then done_with else (
    if is_page_part g then implying_body else
    -- Any other end tag: ignore the token.
    done_with))

abbrev pub after_head : Symbol → Plan
-- A character token that is one of U+0009, U+000A, U+000C, U+000D, U+0020: insert the character.
after_head (Char c) = if is_space c then Do InsertCharacter over else implying_body
-- A comment token: insert a comment.
after_head Comment = Do InsertComment over
-- A DOCTYPE token: ignore the token.
after_head Doctype = ignored_doctype
after_head (Start g) = after_head_start g
after_head (End g) = after_head_end g
after_head _ = implying_body
