-- Claimed.
-- The "text" insertion mode (13.2.6.4.8).
use Rattle.std.specs.Prelude.{◌==◌, if◌then◌else◌, ℕ}
use Rattle.html_ledger.specs.declared.fate.Cause.TheVariants.{Null}
use Rattle.html_ledger.specs.declared.symbol.Symbol.{Symbol}
use Rattle.html_ledger.specs.declared.symbol.Symbol.TheVariants.{End, Char}
use Rattle.html_construction.specs.Plans.{Do, Plan}
use Rattle.html_construction.specs.Words.{InsertCharacter, Leave, Pop}
use Rattle.html_modes.specs.RuleForms.{again, done_with, ignored, over}

-- Pop the current node off the stack of open elements. Switch the insertion mode to the original insertion mode.
abbrev pub leaving_text : Plan → Plan
leaving_text p = Do Pop (Do Leave p)

-- Insert the token's character. (No tokenizer gives U+0000 here; it would be ignored: own.)
abbrev pub text_char : ℕ → Plan
text_char c = if c == 0 then ignored Null else Do InsertCharacter over

abbrev pub text : Symbol → Plan
-- A character token: insert it (above).
text (Char c) = text_char c
-- An end tag whose tag name is "script", any other end tag: leave the text (above).
text (End g) = leaving_text done_with
-- An end-of-file token: leave the text (above), and reprocess the token. (The other tokens come from no tokenizer here.)
text _ = leaving_text again
