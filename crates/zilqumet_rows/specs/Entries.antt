-- Claimed.
-- The tokens of a ledger with their fates, as C reads them.
use Rattle.std.specs.Prelude.{◌≡◌, ℕ, ◌<◌, ◌^◌, List, [], ◌∷◌, Option, None, Some, length, slice_get}
use Rattle.std.specs.Str.{chars}
use Rattle.html_ledger.specs.declared.fate.Cause.TheVariants as causes
use Rattle.html_ledger.specs.declared.fate.Fate.{Fate}
use Rattle.html_ledger.specs.declared.fate.Fate.TheVariants as fates
use Rattle.html_tokens.specs.declared.token.Token.{Token}
use Rattle.html_tokens.specs.declared.token.TokenKind.{TokenKind}
use Rattle.html_tokens.specs.declared.token.TokenKind.TheVariants as kinds
use Rattle.zilqumet_rows.specs.declared.ledger.Ledger.{Ledger}
use Rattle.zilqumet_rows.specs.declared.ledger.ZqToken.{ZqToken}

-- a node's number, or the greatest of 64 bits
abbrev pub number_of : Option ℕ → ℕ
number_of (Some x) = x
number_of None = 18446744073709551615

-- each token with its fate
abbrev pub entries : List Token → List Fate → List (Token × Fate)
entries [] fs = []
entries (t ∷ ts) [] = []
entries (t ∷ ts) (f ∷ fs) = (t, f) ∷ entries ts fs

abbrev pub entries_in : Ledger → List (Token × Fate)
entries_in l = entries l.tokens l.fates

-- the number of what a token is
abbrev pub kind_number : TokenKind → ℕ
kind_number (kinds.Start name attrs self_closing) = 1
kind_number (kinds.End name) = 2
kind_number (kinds.Char c) = 3
kind_number (kinds.Comment s) = 4
kind_number (kinds.Doctype name public system force_quirks) = 5
kind_number kinds.Eof = 6

-- the name of a tag, else no text
abbrev pub name_in : TokenKind → List ℕ
name_in (kinds.Start name attrs self_closing) = name
name_in (kinds.End name) = name
name_in _ = []

-- the code point that a token is, or 0
abbrev pub code_point_in : TokenKind → ℕ
code_point_in (kinds.Char c) = c
code_point_in _ = 0

-- the node of a fate: that which was made of the token, or whose text it is in
abbrev pub node_in : Fate → Option ℕ
node_in (fates.Made node) = Some node
node_in (fates.Foreign node) = Some node
node_in (fates.Text node) = Some node
node_in fates.Merged = None
node_in (fates.Dropped cause) = None
node_in fates.Ended = None

-- the number of a fate
abbrev pub fate_number : Fate → ℕ
fate_number (fates.Made node) = 1
fate_number (fates.Foreign node) = 1
fate_number (fates.Text node) = 2
fate_number fates.Merged = 3
fate_number (fates.Dropped cause) = 4
fate_number fates.Ended = 5

-- the number of the cause for which a token was dropped, or 0
abbrev pub cause_number : Fate → ℕ
cause_number (fates.Dropped causes.PrologSpace) = 1
cause_number (fates.Dropped causes.Null) = 2
cause_number (fates.Dropped causes.LeadingNewline) = 3
cause_number (fates.Dropped causes.InSelect) = 4
cause_number (fates.Dropped causes.InFrameset) = 5
cause_number (fates.Dropped causes.Misplaced) = 6
cause_number (fates.Dropped causes.InColumnGroup) = 7
cause_number _ = 0

-- what a row says of a token and its fate; of a name how long it is
pub record IsToken (t : Token) (f : Fate) (r : ZqToken) : Type 0 where
  pub start_is : r.start ≡ t.span.start
  pub end_is : t.span.end < 2 ^ 64 → r.end ≡ t.span.end
  pub kind_is : r.kind ≡ kind_number t.kind
  pub code_point_is : r.code_point ≡ code_point_in t.kind
  pub name_is : (bytes : List ℕ) × (chars bytes ≡ name_in t.kind) × (r.name.len ≡ length bytes)
  pub fate_is : r.fate ≡ fate_number f
  pub cause_is : r.cause ≡ cause_number f
  pub node_is : r.node ≡ number_of (node_in f)

-- the first rows are those of the first entries
abbrev pub AreTokens : List (Token × Fate) → ℕ → List ZqToken → Type 0
AreTokens es count rows = (i : ℕ) (e : Token × Fate) (r : ZqToken) → i < count → slice_get es i ≡ Some e → slice_get rows i ≡ Some r → IsToken e.0 e.1 r
