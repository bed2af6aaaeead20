-- Claimed.
-- The "in table text" insertion mode (13.2.6.4.10).
use Rattle.html_ledger.specs.declared.fate.Cause.TheVariants.{LeadingNewline, Null, PrologSpace}
use Rattle.html_ledger.specs.declared.symbol.Symbol.{Symbol}
use Rattle.html_ledger.specs.declared.symbol.Symbol.TheVariants.{Char}
use Rattle.html_construction.specs.Plans.{Ask, Do, Plan, Settle}
use Rattle.html_construction.specs.Words.{AreSpacesKept, BeginOwnPart, InsertCharacter, IsLeadingNewline, IsNull, IsPrologSpace, Keep, Leave}
use Rattle.html_modes.specs.RuleForms.{again, fostering, ignored, over}

-- One of the pending table character tokens: it is ignored where it is in every mode, as the dispatcher does for a token that comes in another mode, and
-- where it is U+0000 (own: the standard ignores that at once, and here it gets its fate with the others); else the plan.
abbrev pub settled_by : Plan → Plan
settled_by p = Ask IsPrologSpace (ignored PrologSpace) (Ask IsLeadingNewline (ignored LeadingNewline) (Ask IsNull (ignored Null) p))

-- If any of the tokens in the pending table character tokens list are character tokens that are not ASCII whitespace, then reprocess the character tokens
-- using the rules given in the "anything else" entry in the "in table" insertion mode. Otherwise, insert the characters given by the list. Then the plan.
abbrev pub settling : Plan → Plan
settling p = Ask AreSpacesKept (Settle (settled_by (Do InsertCharacter over)) p) (Settle (settled_by fostering) p)

abbrev pub in_table_text : Symbol → Plan
-- A character token that is U+0000 NULL: ignore the token (with the others: own). Any other character token: append the character token to the pending table
-- character tokens list.
in_table_text (Char c) = Do Keep over
-- Anything else: the pending table character tokens (above). Switch the insertion mode to the original insertion mode and reprocess the token.
in_table_text _ = settling (Do BeginOwnPart (Do Leave again))
