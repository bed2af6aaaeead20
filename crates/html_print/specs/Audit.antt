-- Claimed.
-- The lines of the tokens of a page, each with its fate.
use Rattle.std.specs.Prelude.{ℕ, List, [], ◌∷◌, ◌++◌, codes, decimal}
use Rattle.std.specs.Str.{encode_utf8_all}
use Rattle.html_tokens.specs.declared.token.Token.{Token}
use Rattle.html_tokens.specs.declared.token.TokenKind.{TokenKind}
use Rattle.html_tokens.specs.declared.token.TokenKind.TheVariants as kinds
use Rattle.html_ledger.specs.declared.fate.Cause.{Cause}
use Rattle.html_ledger.specs.declared.fate.Cause.TheVariants.{PrologSpace, Null, LeadingNewline, InSelect, InFrameset, Misplaced, InColumnGroup}
use Rattle.html_ledger.specs.declared.fate.Fate.{Fate}
use Rattle.html_ledger.specs.declared.fate.Fate.TheVariants as fates
use Rattle.html_device.specs.Codes.{code_text}

-- what a token is
abbrev pub kind_text : TokenKind → List ℕ
kind_text (kinds.Start name attrs self_closing) = codes "start " ++ encode_utf8_all name
kind_text (kinds.End name) = codes "end " ++ encode_utf8_all name
kind_text (kinds.Char c) = codes "char U+" ++ code_text c
kind_text (kinds.Comment s) = codes "comment"
kind_text (kinds.Doctype name public system force_quirks) = codes "doctype"
kind_text kinds.Eof = codes "eof"

abbrev pub cause_text : Cause → List ℕ
cause_text PrologSpace = codes "PrologSpace"
cause_text Null = codes "Null"
cause_text LeadingNewline = codes "LeadingNewline"
cause_text InSelect = codes "InSelect"
cause_text InFrameset = codes "InFrameset"
cause_text Misplaced = codes "Misplaced"
cause_text InColumnGroup = codes "InColumnGroup"

-- what became of it, with the number of the node or the cause
abbrev pub fate_text : Fate → List ℕ
fate_text (fates.Made node) = codes " made " ++ decimal node
fate_text (fates.Foreign node) = codes " made " ++ decimal node
fate_text fates.Merged = codes " merged"
fate_text (fates.Text node) = codes " text " ++ decimal node
fate_text (fates.Dropped cause) = codes " dropped " ++ cause_text cause
fate_text fates.Ended = codes " ended"

-- where a token begins and ends, what it is, and what became of it
abbrev pub audit_line : Token → Fate → List ℕ
audit_line t f =
    decimal t.span.start ++ (codes " " ++ (decimal t.span.end ++ (codes " " ++ (kind_text t.kind ++ (fate_text f ++ codes "\n")))))

-- a line each, in their order
abbrev pub audit_lines : List Token → List Fate → List ℕ
audit_lines [] fs = []
audit_lines (t ∷ ts) [] = []
audit_lines (t ∷ ts) (f ∷ fs) = audit_line t f ++ audit_lines ts fs
