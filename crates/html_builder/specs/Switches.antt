-- Claimed, but for this crate's own functions: said_after.
-- How the text after a token is read (13.2.6.2 and 13.2.6.4).
use Rattle.std.specs.Prelude.{Bool, if◌then◌else◌, List, [], ◌∷◌, Option, Some, None}
use Rattle.html_names.specs.declared.tag.Tag.{Tag}
use Rattle.html_names.specs.declared.tag.Tag.TheVariants as tag
use Rattle.html_names.specs.Names.{tag_of}
use Rattle.html_names.specs.Sets.{is_rcdata, is_rawtext}
use Rattle.html_names.specs.Tags.{is_same}
use Rattle.html_tokens.specs.declared.token.TextMode.{TextMode}
use Rattle.html_tokens.specs.declared.token.TextMode.TheVariants.{Data, Rcdata, Rawtext, Script, Plaintext}
use Rattle.html_tokens.specs.declared.token.TokenKind.{TokenKind}
use Rattle.html_tokens.specs.declared.token.TokenKind.TheVariants as kind
use Rattle.html_ledger.specs.declared.fate.Fate.{Fate}
use Rattle.html_ledger.specs.declared.symbol.Symbol.{Symbol}
use Rattle.html_ledger.specs.declared.symbol.Symbol.TheVariants.{Start}
use Rattle.html_ledger.specs.declared.fate.Fate.TheVariants.{Made}

-- after the start tag of an element that was made, where the tag changes it
unfoldable pub switch_of : Tag → Option TextMode
switch_of t =
    if is_rcdata t then Some Rcdata
    else (if is_rawtext t then Some Rawtext
    else (if is_same t tag.Script then Some Script
    else (if is_same t tag.Plaintext then Some Plaintext else None)))

-- what a token with this fate says of the text after it
abbrev pub switch_by : TokenKind → Fate → Option TextMode
switch_by (kind.Start name attrs self_closing) (Made d) = switch_of (tag_of name)
switch_by _ _ = None

-- what each token says of the text after it; the last ones may have no fate yet, and say nothing
abbrev pub switches_by : List TokenKind → List Fate → List (Option TextMode)
switches_by [] fates = []
switches_by (t ∷ ts) [] = None ∷ switches_by ts []
switches_by (t ∷ ts) (f ∷ fs) = switch_by t f ∷ switches_by ts fs

-- what a token with this fate, if it has one, says of the text after it
abbrev pub switch_after : TokenKind → Option Fate → Option TextMode
switch_after token None = None
switch_after token (Some f) = switch_by token f

-- what a token, as the rules tell tokens apart, says where a node was made of it, or not
abbrev pub said_after : Symbol → Bool → Option TextMode
said_after (Start t) made = if made then switch_of t else None
said_after _ made = None

-- an answer, or that for data
abbrev pub or_data : Option TextMode → TextMode
or_data None = Data
or_data (Some m) = m

-- in an element of this name (13.4)
abbrev pub text_mode_in : Tag → TextMode
text_mode_in t = or_data (switch_of t)
