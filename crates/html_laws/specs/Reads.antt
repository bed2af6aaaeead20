-- Claimed.
-- That no start tag comes where the text of an element is read (13.2.6.4.8).
use Rattle.std.specs.Prelude.{◌≡◌, Bool, true, false, List, [], ◌∷◌}
use Rattle.html_tokens.specs.declared.token.TokenKind.{TokenKind}
use Rattle.html_ledger.specs.declared.symbol.Symbol.{Symbol}
use Rattle.html_ledger.specs.declared.symbol.Symbol.TheVariants.{Start}
use Rattle.html_ledger.specs.Symbols.{symbol_of}
use Rattle.html_construction.specs.declared.mode.Mode.TheVariants.{Text}
use Rattle.html_construction.specs.States.{State}
use Rattle.html_modes.specs.Dispatching.{Constructs}

-- a start tag
abbrev pub is_start : Symbol → Bool
is_start (Start g) = true
is_start _ = false

-- In a run of the rules no start tag comes in the insertion mode "text". (None comes from a tokenizer, which reads the text of such an element without tags.)
abbrev pub ReadsNoTag : (tokens : List TokenKind) (a z : State) → Constructs tokens a z → Type 0
ReadsNoTag [] a z c = Unit {0}
ReadsNoTag (t ∷ ts) a z c = (a.mode ≡ Text → is_start (symbol_of t) ≡ false) × ReadsNoTag ts c.0 z c.2
