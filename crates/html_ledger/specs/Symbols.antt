-- Claimed.
-- Tokens as the rules of tree construction tell them apart (13.2.6).
use Rattle.std.specs.Prelude.{ℕ, Bool, false, ◌==◌, not, List, [], ◌∷◌, Option, Some, None}
use Rattle.html_names.specs.declared.tag.Tag.{Tag}
use Rattle.html_names.specs.Names.{tag_of}
use Rattle.html_names.specs.Tags.{is_same}
use Rattle.html_tokens.specs.declared.token.TokenKind.{TokenKind}
use Rattle.html_tokens.specs.declared.token.TokenKind.TheVariants as kind
use Rattle.html_ledger.specs.declared.symbol.Symbol.{Symbol}
use Rattle.html_ledger.specs.declared.symbol.Symbol.TheVariants.{Start, End, Char, Comment, Doctype, Eof}
use Rattle.html_ledger.specs.Spaces.{is_space}

abbrev pub symbol_of : TokenKind → Symbol
symbol_of (kind.Start name attrs self_closing) = Start (tag_of name)
symbol_of (kind.End name) = End (tag_of name)
symbol_of (kind.Char c) = Char c
symbol_of (kind.Comment text) = Comment
symbol_of (kind.Doctype name public_id system_id force_quirks) = Doctype
symbol_of kind.Eof = Eof

abbrev pub start_of : Symbol → Option Tag
start_of (Start t) = Some t
start_of _ = None

abbrev pub end_of : Symbol → Option Tag
end_of (End t) = Some t
end_of _ = None

-- an element of this name
abbrev pub named : Tag → Tag → Bool
named x t = is_same t x

-- a start tag whose name is such
abbrev pub starts : (Tag → Bool) → Symbol → Bool
starts p (Start t) = p t
starts p _ = false

-- an end tag whose name is such
abbrev pub ends : (Tag → Bool) → Symbol → Bool
ends p (End t) = p t
ends p _ = false

-- this code point
abbrev pub is_char : ℕ → Symbol → Bool
is_char x (Char c) = c == x
is_char x _ = false

-- a code point of white space
abbrev pub is_space_char : Symbol → Bool
is_space_char (Char c) = is_space c
is_space_char _ = false

-- any other code point
abbrev pub is_visible_char : Symbol → Bool
is_visible_char (Char c) = not (is_space c)
is_visible_char _ = false

-- code points as tokens
abbrev pub chars_of : List ℕ → List Symbol
chars_of [] = []
chars_of (c ∷ cs) = Char c ∷ chars_of cs
