-- Claimed.
-- The rules for parsing tokens in foreign content (13.2.6.5), of tokens that stay there. (What these rules close is closed before: Foreign.)
use Rattle.std.specs.Prelude.{◌==◌, if◌then◌else◌, ℕ}
use Rattle.html_names.specs.declared.tag.Tag.{Tag}
use Rattle.html_names.specs.Foreign.{space_of}
use Rattle.html_ledger.specs.declared.symbol.Symbol.{Symbol}
use Rattle.html_ledger.specs.declared.symbol.Symbol.TheVariants.{Start, Char, Comment, Doctype}
use Rattle.html_ledger.specs.Spaces.{is_space}
use Rattle.html_construction.specs.Plans.{Do, Plan}
use Rattle.html_construction.specs.Words.{FramesetOff, InsertCharacter, InsertComment, InsertReplacement}
use Rattle.html_modes.specs.RuleForms.{done_with, embedding, ignored_doctype, over}

-- U+0000: insert a U+FFFD REPLACEMENT CHARACTER. White space: insert the token's character. Any other: likewise, and set the frameset-ok flag to "not ok".
abbrev pub foreign_char : ℕ → Plan
foreign_char c = if c == 0 then Do InsertReplacement over else Do InsertCharacter (if is_space c then over else Do FramesetOff over)

-- The tag is that of the adjusted current node.
abbrev pub in_foreign : Tag → Symbol → Plan
-- Any other start tag: insert a foreign element, in the namespace of the adjusted current node.
in_foreign g (Start t) = embedding (space_of g)
-- A character token (above).
in_foreign g (Char c) = foreign_char c
-- A comment token: insert a comment.
in_foreign g Comment = Do InsertComment over
-- A DOCTYPE token: ignore the token.
in_foreign g Doctype = ignored_doctype
-- An end tag: it has closed what it closes. (An end-of-file token does not come here.)
in_foreign g _ = done_with
