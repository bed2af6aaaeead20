-- Claimed, but for this crate's own functions: kinds, prolog.
-- The tokens of a plain page.
use Rattle.std.specs.Prelude.{◌≡◌, ℕ, false, List, [], ◌∷◌, ◌++◌, map, slice_get, codes, None, Some}
use Rattle.html_charref.specs.Entities.{core_rows}
use Rattle.html_charref.specs.declared.table.Row.{Row}
use Rattle.html_tokens.specs.declared.token.Token.{Token}
use Rattle.html_tokens.specs.declared.token.TokenKind.{TokenKind}
use Rattle.html_tokens.specs.declared.token.TokenKind.TheVariants.{Start, End, Char, Comment, Doctype, Eof}
use Rattle.html_arena.specs.Forest.{Forest}
use Rattle.html_arena.specs.Forest.Forest.{empty, tree}
use Rattle.html_page.specs.Label.{Label}
use Rattle.html_page.specs.Label.Label.{document, doctype, element, text, comment}
use Rattle.html_page.specs.Plain.{IsPlainPage}

-- what tokens are, their spans aside
abbrev pub kinds : List Token → List TokenKind
kinds tokens = map (λ t. t.kind) tokens

-- one Char a code point, and then others
abbrev pub chars_then : List ℕ → List TokenKind → List TokenKind
chars_then [] rest = rest
chars_then (c ∷ cs) rest = Char c ∷ chars_then cs rest

-- the tokens of trees in a row, of which no element is void, and then others: an element is its start tag, what stands
-- in it, and its end tag
abbrev pub kinds_then : Forest Label → List TokenKind → List TokenKind
kinds_then empty rest = rest
kinds_then (tree document below after) rest = kinds_then below (kinds_then after rest)
kinds_then (tree (doctype name public system) below after) rest = Doctype name public system false ∷ kinds_then after rest
kinds_then (tree (element name attrs) below after) rest = Start name attrs false ∷ kinds_then below (End name ∷ kinds_then after rest)
kinds_then (tree (text s) below after) rest = chars_then s (kinds_then after rest)
kinds_then (tree (comment s) below after) rest = Comment s ∷ kinds_then after rest

-- those before what the body holds, and those after it
abbrev pub prolog : List TokenKind
prolog =
    Doctype (Some (codes "html")) None None false ∷ Start (codes "html") [] false ∷ Start (codes "head") [] false ∷ End (codes "head") ∷ Start (codes "body") [] false ∷ []

abbrev pub epilog : List TokenKind
epilog = End (codes "body") ∷ End (codes "html") ∷ Eof ∷ []

-- the tokens of a page
abbrev pub page_kinds : Forest Label → List TokenKind
page_kinds page = kinds_then page (Eof ∷ [])

-- the tokens of some plain page
abbrev pub ArePlain : List TokenKind → Type 0
ArePlain ks = (page : Forest Label) × IsPlainPage page × (ks ≡ page_kinds page)

-- tokens with which those of some plain page begin
abbrev pub IsPlainFront : List TokenKind → Type 0
IsPlainFront front = (rest : List TokenKind) × ArePlain (front ++ rest)

-- the table has the five rows that every page may use
abbrev pub HasCore : List Row → Type 0
HasCore rows = (i : ℕ) (row : Row) → slice_get core_rows i ≡ Some row → (j : ℕ) × (slice_get rows j ≡ Some row)
