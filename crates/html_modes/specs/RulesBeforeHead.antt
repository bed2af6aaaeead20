-- Claimed.
-- The "before head" insertion mode (13.2.6.4.3).
use Rattle.std.specs.Prelude.{if◌then◌else◌}
use Rattle.html_names.specs.declared.tag.Tag.{Tag}
use Rattle.html_names.specs.declared.tag.Tag.TheVariants as tag
use Rattle.html_names.specs.Groups.{is_page_part}
use Rattle.html_names.specs.Tags.{is_same}
use Rattle.html_ledger.specs.declared.symbol.Symbol.{Symbol}
use Rattle.html_ledger.specs.declared.symbol.Symbol.TheVariants.{Start, End, Comment, Doctype}
use Rattle.html_construction.specs.declared.mode.Mode.TheVariants as mode
use Rattle.html_construction.specs.Plans.{By, Do, Plan}
use Rattle.html_construction.specs.Words.{ImplyHead, InsertComment, InsertHead, Switch}
use Rattle.html_modes.specs.RuleForms.{again, done_with, ignored_doctype, over}

-- Anything else: insert an HTML element for a "head" start tag token with no attributes. Set the head element pointer to the newly created head element.
-- Switch the insertion mode to "in head". Reprocess the current token.
abbrev pub implying_head : Plan
implying_head = Do ImplyHead (Do (Switch mode.InHead) again)

abbrev pub before_head_start : Tag → Plan
before_head_start g =
    -- A start tag whose tag name is "html": process the token using the rules for the "in body" insertion mode.
    if is_same g tag.Html then By mode.InBody else (
    -- A start tag whose tag name is "head": insert an HTML element for the token. Set the head element pointer to the newly created head element. Switch
    -- the insertion mode to "in head".
    if is_same g tag.Head then Do InsertHead (Do (Switch mode.InHead) over) else implying_head)

abbrev pub before_head_end : Tag → Plan
before_head_end g =
    -- An end tag whose tag name is one of: "head", "body", "html", "br": act as described in the "anything else" entry.
    if is_page_part g then implying_head else
    -- Any other end tag: ignore the token.
    done_with

-- A character token that is white space is ignored before any mode's rules here (`must_drop`).
abbrev pub before_head : Symbol → Plan
-- A comment token: insert a comment.
before_head Comment = Do InsertComment over
-- A DOCTYPE token: ignore the token.
before_head Doctype = ignored_doctype
before_head (Start g) = before_head_start g
before_head (End g) = before_head_end g
before_head _ = implying_head
