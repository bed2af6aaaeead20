-- Claimed.
-- The "in frameset" insertion mode (13.2.6.4.20).
use Rattle.std.specs.Prelude.{if◌then◌else◌}
use Rattle.html_names.specs.declared.tag.Tag.{Tag}
use Rattle.html_names.specs.declared.tag.Tag.TheVariants as tag
use Rattle.html_names.specs.Tags.{is_same}
use Rattle.html_ledger.specs.declared.fate.Cause.TheVariants.{InFrameset}
use Rattle.html_ledger.specs.declared.symbol.Symbol.{Symbol}
use Rattle.html_ledger.specs.declared.symbol.Symbol.TheVariants.{Start, End, Char, Comment, Doctype}
use Rattle.html_ledger.specs.Spaces.{is_space}
use Rattle.html_tree.specs.declared.groups.Group.TheVariants as group
use Rattle.html_construction.specs.declared.mode.Mode.TheVariants as mode
use Rattle.html_construction.specs.Plans.{Ask, By, Do, Plan}
use Rattle.html_construction.specs.Words.{Insert, InsertCharacter, InsertComment, InsertVoid, IsCurrent, IsFragment, IsRootAlone, Pop, Switch}
use Rattle.html_modes.specs.RuleForms.{done_with, ignored, ignored_doctype, over}

-- If the current node is the root html element, ignore the token. Otherwise, pop the current node from the stack of open elements. If the parser was not
-- created as part of the HTML fragment parsing algorithm, and the current node is no longer a frameset element, then switch the insertion mode to "after
-- frameset".
abbrev pub closing_frameset : Plan → Plan
closing_frameset p =
    Ask IsRootAlone p (Do Pop (Ask IsFragment p (Ask (IsCurrent (group.Named tag.Frameset)) p (Do (Switch mode.AfterFrameset) p))))

abbrev pub in_frameset_start : Tag → Plan
in_frameset_start g =
    -- A start tag whose tag name is "html": process the token using the rules for the "in body" insertion mode.
    if is_same g tag.Html then By mode.InBody else (
    -- A start tag whose tag name is "frameset": insert an HTML element for the token.
    if is_same g tag.Frameset then Do Insert over else (
    -- A start tag whose tag name is "frame": insert an HTML element for the token. Immediately pop the current node off the stack of open elements.
    if is_same g tag.Frame then Do (InsertVoid tag.Frame) over else (
    -- A start tag whose tag name is "noframes": process the token using the rules for the "in head" insertion mode.
    if is_same g tag.Noframes then By mode.InHead else
    -- Anything else: ignore the token.
    ignored InFrameset)))

abbrev pub in_frameset : Symbol → Plan
-- A character token that is one of U+0009, U+000A, U+000C, U+000D, U+0020: insert the character. Anything else: ignore the token.
in_frameset (Char c) = if is_space c then Do InsertCharacter over else ignored InFrameset
-- A comment token: insert a comment.
in_frameset Comment = Do InsertComment over
-- A DOCTYPE token: ignore the token.
in_frameset Doctype = ignored_doctype
in_frameset (Start g) = in_frameset_start g
-- An end tag whose tag name is "frameset": close it (above). Anything else: ignore the token.
in_frameset (End g) = if is_same g tag.Frameset then closing_frameset done_with else done_with
-- An end-of-file token: stop parsing.
in_frameset _ = done_with
