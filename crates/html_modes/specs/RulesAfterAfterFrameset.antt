-- Claimed.
-- The "after after frameset" insertion mode (13.2.6.4.23).
use Rattle.std.specs.Prelude.{if◌then◌else◌}
use Rattle.html_names.specs.declared.tag.Tag.{Tag}
use Rattle.html_names.specs.declared.tag.Tag.TheVariants as tag
use Rattle.html_names.specs.Tags.{is_same}
use Rattle.html_ledger.specs.declared.fate.Cause.TheVariants.{InFrameset}
use Rattle.html_ledger.specs.declared.symbol.Symbol.{Symbol}
use Rattle.html_ledger.specs.declared.symbol.Symbol.TheVariants.{Start, Char, Comment, Doctype}
use Rattle.html_ledger.specs.Spaces.{is_space}
use Rattle.html_tree.specs.declared.groups.Target.TheVariants as target
use Rattle.html_construction.specs.declared.mode.Mode.TheVariants as mode
use Rattle.html_construction.specs.Plans.{By, Do, Plan}
use Rattle.html_construction.specs.Words.{InsertCommentAt}
use Rattle.html_modes.specs.RuleForms.{done_with, ignored, ignored_doctype, over}

abbrev pub after_after_frameset_start : Tag → Plan
after_after_frameset_start g =
    -- A start tag whose tag name is "html": process the token using the rules for the "in body" insertion mode.
    if is_same g tag.Html then By mode.InBody else (
    -- A start tag whose tag name is "noframes": process the token using the rules for the "in head" insertion mode.
    if is_same g tag.Noframes then By mode.InHead else
    -- Anything else: ignore the token.
    ignored InFrameset)

abbrev pub after_after_frameset : Symbol → Plan
-- A comment token: insert a comment as the last child of the Document object.
after_after_frameset Comment = Do (InsertCommentAt target.Document) over
-- A DOCTYPE token, a character token that is one of U+0009, U+000A, U+000C, U+000D, U+0020: process the token using the rules for the "in body" insertion
-- mode, where a DOCTYPE is ignored. Anything else: ignore the token.
after_after_frameset Doctype = ignored_doctype
after_after_frameset (Char c) = if is_space c then By mode.InBody else ignored InFrameset
after_after_frameset (Start g) = after_after_frameset_start g
-- An end-of-file token: stop parsing. (An end tag: ignore the token.)
after_after_frameset _ = done_with
