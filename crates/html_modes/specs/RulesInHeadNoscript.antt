-- Claimed.
-- The "in head noscript" insertion mode (13.2.6.4.5).
use Rattle.std.specs.Prelude.{if◌then◌else◌}
use Rattle.html_names.specs.declared.tag.Tag.{Tag}
use Rattle.html_names.specs.declared.tag.Tag.TheVariants as tag
use Rattle.html_names.specs.Groups.{is_noscript_part}
use Rattle.html_names.specs.Tags.{is_same}
use Rattle.html_ledger.specs.declared.fate.Cause.TheVariants.{Misplaced}
use Rattle.html_ledger.specs.declared.symbol.Symbol.{Symbol}
use Rattle.html_ledger.specs.declared.symbol.Symbol.TheVariants.{Start, End, Char, Comment, Doctype}
use Rattle.html_ledger.specs.Spaces.{is_space}
use Rattle.html_tree.specs.declared.groups.Group.TheVariants as group
use Rattle.html_construction.specs.declared.mode.Mode.TheVariants as mode
use Rattle.html_construction.specs.Plans.{Ask, By, Do, Plan, popping}
use Rattle.html_construction.specs.Words.{MayMisplace, Switch}
use Rattle.html_modes.specs.RuleForms.{again, done_with, ignored, ignored_doctype}

-- Pop the current node (which will be a noscript element) from the stack of open elements; the new current node will be a head element. Switch the
-- insertion mode to "in head". (Where it is no noscript, as it is then, the insertion mode is "in body": own.)
abbrev pub leaving_noscript : Plan → Plan
leaving_noscript p = popping (group.Named tag.Noscript) (Do (Switch mode.InHead) p) (Do (Switch mode.InBody) p)

abbrev pub in_head_noscript_start : Tag → Plan
in_head_noscript_start g =
    -- A start tag whose tag name is "html": process the token using the rules for the "in body" insertion mode.
    if is_same g tag.Html then By mode.InBody else (
    -- A start tag whose tag name is one of: "basefont", "bgsound", "link", "meta", "noframes", "style": process the token using the rules for the "in
    -- head" insertion mode.
    if is_noscript_part g then By mode.InHead else (
    -- A start tag whose tag name is one of: "head", "noscript": ignore the token. (A noscript where one was made, as it was then: own.)
    if is_same g tag.Head then ignored Misplaced else (
    if is_same g tag.Noscript then Ask (MayMisplace tag.Noscript) (ignored Misplaced) (leaving_noscript again) else
    -- Anything else: leave the noscript (above), reprocess the token.
    leaving_noscript again)))

abbrev pub in_head_noscript_end : Tag → Plan
in_head_noscript_end g =
    -- An end tag whose tag name is "noscript": leave it (above).
    if is_same g tag.Noscript then leaving_noscript done_with else (
    -- An end tag whose tag name is "br": act as described in the "anything else" entry.
    if is_same g tag.Br then leaving_noscript again else
    -- Any other end tag: ignore the token.
    done_with)

abbrev pub in_head_noscript : Symbol → Plan
-- A DOCTYPE token: ignore the token.
in_head_noscript Doctype = ignored_doctype
in_head_noscript (Start g) = in_head_noscript_start g
in_head_noscript (End g) = in_head_noscript_end g
-- A character token that is one of U+0009, U+000A, U+000C, U+000D, U+0020, a comment token: process the token using the rules for the "in head" insertion
-- mode.
in_head_noscript (Char c) = if is_space c then By mode.InHead else leaving_noscript again
in_head_noscript Comment = By mode.InHead
-- Anything else: leave the noscript (above), reprocess the token.
in_head_noscript _ = leaving_noscript again
