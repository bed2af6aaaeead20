-- Claimed.
-- The "after frameset" insertion mode (13.2.6.4.21).
use Rattle.std.specs.Prelude.{if◌then◌else◌}
use Rattle.html_names.specs.declared.tag.Tag.{Tag}
use Rattle.html_names.specs.declared.tag.Tag.TheVariants as tag
use Rattle.html_names.specs.Tags.{is_same}
use Rattle.html_ledger.specs.declared.fate.Cause.TheVariants.{InFrameset}
use Rattle.html_ledger.specs.declared.symbol.Symbol.{Symbol}
use Rattle.html_ledger.specs.declared.symbol.Symbol.TheVariants.{Start, End, Char, Comment, Doctype}
use Rattle.html_ledger.specs.Spaces.{is_space}
use Rattle.html_construction.specs.declared.mode.Mode.TheVariants as mode
use Rattle.html_construction.specs.Plans.{By, Do, Plan}
use Rattle.html_construction.specs.Words.{InsertCharacter, InsertComment, Switch}
use Rattle.html_modes.specs.RuleForms.{done_with, ignored, ignored_doctype, over}

abbrev pub after_frameset_start : Tag → Plan
after_frameset_start g =
    -- A start tag whose tag name is "html": process the token using the rules for the "in body" insertion mode.
    if is_same g tag.Html then By mode.InBody else (
    -- A start tag whose tag name is "noframes": process the token using the rules for the "in head" insertion mode.
    if is_same g tag.Noframes then By mode.InHead else
    -- Anything else: ignore the token.
    ignored InFrameset)

abbrev pub after_frameset : Symbol → Plan
-- A character token that is one of U+0009, U+000A, U+000C, U+000D, U+0020: insert the character. Anything else: ignore the token.
after_frameset (Char c) = if is_space c then Do InsertCharacter over else ignored InFrameset
-- A comment token: insert a comment.
after_frameset Comment = Do InsertComment over
-- A DOCTYPE token: ignore the token.
after_frameset Doctype = ignored_doctype
after_frameset (Start g) = after_frameset_start g
-- An end tag whose tag name is "html": switch the insertion mode to "after after frameset". Anything else: ignore the token.
after_frameset (End g) = if is_same g tag.Html then Do (Switch mode.AfterAfterFrameset) done_with else done_with
-- An end-of-file token: stop parsing.
after_frameset _ = done_with
