-- Claimed.
-- The "before html" insertion mode (13.2.6.4.2).
use Rattle.std.specs.Prelude.{if◌then◌else◌}
use Rattle.html_names.specs.declared.tag.Tag.{Tag}
use Rattle.html_names.specs.declared.tag.Tag.TheVariants as tag
use Rattle.html_names.specs.Groups.{is_page_part}
use Rattle.html_names.specs.Tags.{is_same}
use Rattle.html_ledger.specs.declared.symbol.Symbol.{Symbol}
use Rattle.html_ledger.specs.declared.symbol.Symbol.TheVariants.{Start, End, Comment, Doctype}
use Rattle.html_tree.specs.declared.groups.Target.TheVariants as target
use Rattle.html_construction.specs.declared.mode.Mode.TheVariants as mode
use Rattle.html_construction.specs.Plans.{Do, Plan}
use Rattle.html_construction.specs.Words.{ImplyRoot, InsertCommentAt, InsertRoot, Switch}
use Rattle.html_modes.specs.RuleForms.{again, done_with, ignored_doctype, over}

-- Anything else: create an html element. Append it to the Document object. Put this element in the stack of open elements. Switch the insertion mode to
-- "before head", then reprocess the token.
abbrev pub implying_html : Plan
implying_html = Do ImplyRoot (Do (Switch mode.BeforeHead) again)

abbrev pub before_html_start : Tag → Plan
before_html_start g =
    -- A start tag whose tag name is "html": create an element for the token, append it to the Document object, put it in the stack of open elements.
    -- Switch the insertion mode to "before head".
    if is_same g tag.Html then Do InsertRoot (Do (Switch mode.BeforeHead) over) else implying_html

abbrev pub before_html_end : Tag → Plan
before_html_end g =
    -- An end tag whose tag name is one of: "head", "body", "html", "br": act as described in the "anything else" entry.
    if is_page_part g then implying_html else
    -- Any other end tag: ignore the token.
    done_with

-- A character token that is white space is ignored before any mode's rules here (`must_drop`).
abbrev pub before_html : Symbol → Plan
-- A DOCTYPE token: ignore the token.
before_html Doctype = ignored_doctype
-- A comment token: insert a comment as the last child of the Document object.
before_html Comment = Do (InsertCommentAt target.Document) over
before_html (Start g) = before_html_start g
before_html (End g) = before_html_end g
before_html _ = implying_html
