-- Claimed.
-- The "in body" insertion mode (13.2.6.4.7).
use Rattle.std.specs.Prelude.{ℕ, ◌==◌, if◌then◌else◌}
use Rattle.html_ledger.specs.declared.fate.Cause.TheVariants.{Null}
use Rattle.html_ledger.specs.declared.symbol.Symbol.{Symbol}
use Rattle.html_ledger.specs.declared.symbol.Symbol.TheVariants.{Start, End, Char, Comment, Doctype}
use Rattle.html_ledger.specs.Spaces.{is_space}
use Rattle.html_construction.specs.declared.mode.Mode.TheVariants as mode
use Rattle.html_construction.specs.Plans.{Ask, By, Do, Plan, Reconstruct}
use Rattle.html_construction.specs.Words.{FramesetOff, HasTemplateMode, InsertCharacter, InsertComment}
use Rattle.html_modes.specs.RuleForms.{done_with, ignored, ignored_doctype, over}
use Rattle.html_modes.specs.RulesInBodyEnd.{in_body_end}
use Rattle.html_modes.specs.RulesInBodyStart.{in_body_start}

abbrev pub in_body_char : ℕ → Plan
in_body_char c =
    -- A character token that is U+0000 NULL: ignore the token.
    if c == 0 then ignored Null else
    -- A character token that is one of U+0009, U+000A, U+000C, U+000D, U+0020: reconstruct the active formatting elements, if any; insert the token's
    -- character. Any other character token: the same; set the frameset-ok flag to "not ok".
    Reconstruct (Do InsertCharacter (if is_space c then over else Do FramesetOff over))

abbrev pub in_body : Symbol → Plan
in_body (Char c) = in_body_char c
-- A comment token: insert a comment.
in_body Comment = Do InsertComment over
-- A DOCTYPE token: ignore the token.
in_body Doctype = ignored_doctype
in_body (Start g) = in_body_start g
in_body (End g) = in_body_end g
-- An end-of-file token: if the stack of template insertion modes is not empty, then process the token using the rules for the "in template" insertion mode.
-- Otherwise, stop parsing.
in_body _ = Ask HasTemplateMode (By mode.InTemplate) done_with
