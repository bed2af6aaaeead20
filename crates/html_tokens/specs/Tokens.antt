-- Claimed, but for this crate's own functions: lowered, opened_len.
-- The tokens of a text: it is cut into pieces, each a tag, a comment or a front of text.
use Rattle.std.specs.Prelude.{ℕ, zero, suc, ◌+◌, ◌-◌, List, [], ◌∷◌, ◌++◌, length, map, drop, Bool, true, false, ◌&&◌, ◌||◌, cond, Option, Some, None, slice_get, is_none}
use Rattle.html_tokens.specs.Cut.{cut, is, comment_mark, greater_mark, section_mark, null_replaced, passes}
use Rattle.html_tokens.specs.Tag.{Tag, tag_of, between}
use Rattle.html_tokens.specs.Doctype.{Doctype, doctype_of, spells_word, doctype_word}
use Rattle.html_tokens.specs.declared.token.Token.{Token}
use Rattle.html_tokens.specs.declared.token.TokenKind.{TokenKind}
use Rattle.html_tokens.specs.declared.token.TokenKind.TheVariants as kinds
use Rattle.html_tokens.specs.declared.token.TextMode.{TextMode}
use Rattle.html_tokens.specs.declared.token.TextMode.TheVariants.{Data, Rcdata, Rawtext, Script, Plaintext, Foreign}
use Rattle.html_tokens.specs.declared.token.Region.TheVariants.{Plain}
use Rattle.html_tokens.specs.declared.token.Begin.{Begin}
use Rattle.html_tokens.specs.declared.token.Begin.TheVariants as begins
use Rattle.html_tokens.specs.Marks.{begin_at, front}
use Rattle.html_tokens.specs.Reference.{reference}
use Rattle.html_charref.specs.declared.table.Row.{Row}
use Rattle.html_tokens.specs.declared.token.Opener.{Opener}
use Rattle.html_tokens.specs.declared.token.Opener.TheVariants as opens

abbrev pub is_letter : ℕ → Bool
is_letter c = between 65 90 c || between 97 122 c

abbrev pub lowered : ℕ → ℕ
lowered c = cond (between 65 90 c) (c + 32) c

-- What a `<` in data begins: by the code points after it (HTML 13.2.5.6, 13.2.5.7, 13.2.5.42 to 13.2.5.44: tag open, end tag open, markup declaration open, comment start).
abbrev pub opener_at : Option ℕ → Option ℕ → Option ℕ → Option ℕ → Option ℕ → Bool → Opener
opener_at b c d e f doctype =
    cond (is 33 b)
    (cond (is 45 c && is 45 d)
    (cond (is 62 e) (opens.ShortComment 5) (cond (is 45 e && is 62 f) (opens.ShortComment 6) opens.Comment))
    (cond doctype opens.Doctype (opens.Bogus 2)))
    (cond (is 63 b) (opens.Bogus 1)
    (cond (is 47 b)
    (cond (is_none c) opens.Literal (cond (is 62 c) opens.Empty (cond (passes is_letter c) opens.EndTag (opens.Bogus 2))))
    (cond (passes is_letter b) opens.StartTag opens.Literal)))

abbrev pub opener : List ℕ → Opener
opener text = opener_at (slice_get text 1) (slice_get text 2) (slice_get text 3) (slice_get text 4) (slice_get text 5) (spells_word doctype_word 2 text)

-- how many code points have to be there
abbrev pub opened_len : Opener → ℕ
opened_len opens.Literal = 1
opened_len opens.StartTag = 1
opened_len opens.EndTag = 2
opened_len opens.Empty = 3
opened_len (opens.Bogus opened) = opened
opened_len opens.Comment = 4
opened_len (opens.ShortComment len) = len
opened_len opens.Doctype = 9

-- U+0000 is kept in data, and becomes U+FFFD in other text (HTML 13.2.5.1 to 13.2.5.5).
abbrev pub text_char : TextMode → ℕ → ℕ
text_char Data c = c
text_char Rcdata c = null_replaced c
text_char Rawtext c = null_replaced c
text_char Script c = null_replaced c
text_char Plaintext c = null_replaced c
text_char Foreign c = c

abbrev pub token : TokenKind → ℕ → ℕ → Token
token kind start end = record { kind = kind; span = record { start = start; end = end } }

abbrev pub char_at : TextMode → ℕ → ℕ → Token
char_at mode place c = token (kinds.Char (text_char mode c)) place (place + 1)

-- one Char a code point, the first at a place
abbrev pub chars_at : TextMode → ℕ → List ℕ → List Token
chars_at mode place [] = []
chars_at mode place (c ∷ cs) = char_at mode place c ∷ chars_at mode (place + 1) cs

-- the tokens of one piece, and how many code points it is
pub record Piece : Type 0 where
  pub tokens : List Token
  pub len : ℕ

abbrev pub piece : List Token → ℕ → Piece
piece tokens len = record { tokens = tokens; len = len }

-- a comment whose data begins after so many code points of the piece
abbrev pub comment_piece : (List ℕ → Option ℕ) → ℕ → ℕ → List ℕ → Piece
comment_piece mark opened place text =
    let data_cut = cut mark (drop opened text) in
    piece (token (kinds.Comment (map null_replaced data_cut.before)) place (place + opened + data_cut.len) ∷ []) (opened + data_cut.len)

-- the token of a tag; attributes of an end tag are dropped (HTML 13.2.5, "emit the current tag token")
abbrev pub tag_kind : Bool → Tag → TokenKind
tag_kind true t = kinds.End t.name
tag_kind false t = kinds.Start t.name t.tail.attrs t.tail.self_closing

abbrev pub when : Bool → Token → List Token
when true t = t ∷ []
when false t = []

-- a tag in which the input ends is dropped (HTML 13.2.5.8 and 13.2.5.32 to 13.2.5.40, at the end of the file)
abbrev pub tag_tokens : Bool → ℕ → ℕ → Tag → List Token
tag_tokens is_end start end t = when t.tail.closed (token (tag_kind is_end t) start end)

-- a tag whose name begins after so many code points
abbrev pub tag_piece : List Row → Bool → ℕ → ℕ → List ℕ → Piece
tag_piece rows is_end opened place text =
    let t = tag_of rows (drop opened text) in
    piece (tag_tokens is_end place (place + opened + t.tail.len) t) (opened + t.tail.len)

abbrev pub doctype_kind : Doctype → TokenKind
doctype_kind d = kinds.Doctype d.ids.name d.ids.public_id d.ids.system_id d.force_quirks

-- a doctype, after `<!DOCTYPE`
abbrev pub doctype_piece : ℕ → List ℕ → Piece
doctype_piece place text =
    let d = doctype_of (drop 9 text) in
    piece (token (doctype_kind d) place (place + 9 + d.len) ∷ []) (9 + d.len)

abbrev pub open_piece : List Row → Opener → ℕ → List ℕ → Piece
open_piece rows opens.Literal place text = piece (char_at Data place 60 ∷ []) 1
open_piece rows opens.StartTag place text = tag_piece rows false 1 place text
open_piece rows opens.EndTag place text = tag_piece rows true 2 place text
open_piece rows opens.Empty place text = piece [] 3
open_piece rows (opens.Bogus opened) place text = comment_piece greater_mark opened place text
open_piece rows opens.Comment place text = comment_piece comment_mark 4 place text
open_piece rows (opens.ShortComment len) place text = piece (token (kinds.Comment []) place (place + len) ∷ []) len
open_piece rows opens.Doctype place text = doctype_piece place text

-- The Chars of a reference: of two the first spans the `&`, and the second the rest.
abbrev pub ref_tokens : List ℕ → ℕ → ℕ → List Token
ref_tokens [] start end = []
ref_tokens (c ∷ []) start end = token (kinds.Char c) start end ∷ []
ref_tokens (c ∷ d ∷ more) start end = token (kinds.Char c) start (start + 1) ∷ token (kinds.Char d) (start + 1) end ∷ []

abbrev pub ref_piece : List Row → ℕ → List ℕ → Piece
ref_piece rows place text =
    let found = reference rows text in
    piece (ref_tokens found.codes place (place + found.len)) found.len

-- A section: each of its code points is a Char as it stands, and neither what opens it nor what closes it is any token's (HTML 13.2.5.69 to 13.2.5.71).
abbrev pub section_piece : ℕ → List ℕ → Piece
section_piece place text =
    let section = cut section_mark (drop 9 text) in
    piece (chars_at Foreign (place + 9) section.before) (9 + section.len)

-- the piece that begins
abbrev pub begun_piece : List Row → Begin → ℕ → List ℕ → Piece
begun_piece rows begins.Char place text = piece [] 1
begun_piece rows begins.Markup place text = open_piece rows (opener text) place text
begun_piece rows begins.EndMark place text = tag_piece rows true 2 place text
begun_piece rows begins.Reference place text = ref_piece rows place text
begun_piece rows begins.Section place text = section_piece place text

-- the front of text, or where there is none the piece that begins
abbrev pub text_or : List ℕ → TextMode → ℕ → Piece → Piece
text_or [] mode place other = other
text_or (c ∷ cs) mode place other = piece (chars_at mode place (c ∷ cs)) (length (c ∷ cs))

abbrev pub next : List Row → TextMode → Option (List ℕ) → ℕ → List ℕ → Piece
next rows mode name place text = text_or (front mode Plain name text) mode place (begun_piece rows (begin_at mode Plain name text) place text)

-- what the switches say for the next token
abbrev pub switch_of : List (Option TextMode) → Option TextMode
switch_of [] = None
switch_of (s ∷ ss) = s

-- data, in foreign content or not
abbrev pub is_data : TextMode → Bool
is_data Data = true
is_data Rcdata = false
is_data Rawtext = false
is_data Script = false
is_data Plaintext = false
is_data Foreign = true

-- What is said after a start tag: text that was data is read so. Other text has no start tags.
abbrev pub switched : Option TextMode → TextMode → TextMode
switched None mode = mode
switched (Some said) mode = cond (is_data mode) said mode

-- What is said after another token: data is read as that of foreign content, or no longer so.
abbrev pub stays : Option TextMode → TextMode → TextMode
stays None mode = mode
stays (Some said) mode = cond (is_data said) (switched (Some said) mode) mode

-- The mode after a token, by what is said after it; after an End token, where nothing is said, it is Data (HTML 13.2.6.2, 13.2.6.4.8, and 13.2.5.42
-- for foreign content).
abbrev pub mode_after_kind : TokenKind → Option TextMode → TextMode → TextMode
mode_after_kind (kinds.Start name attrs self_closing) said mode = switched said mode
mode_after_kind (kinds.End name) said mode = stays said Data
mode_after_kind (kinds.Char c) said mode = stays said mode
mode_after_kind (kinds.Comment text) said mode = stays said mode
mode_after_kind (kinds.Doctype name public_id system_id force_quirks) said mode = stays said mode
mode_after_kind kinds.Eof said mode = stays said mode

-- the mode after a piece, by what is said after each of its tokens
abbrev pub mode_after : List Token → List (Option TextMode) → TextMode → TextMode
mode_after [] switches mode = mode
mode_after (t ∷ ts) switches mode = mode_after ts (drop 1 switches) (mode_after_kind t.kind (switch_of switches) mode)

-- the last start tag's name, by which an end tag is appropriate (HTML 13.2.5)
abbrev pub name_after_kind : TokenKind → Option (List ℕ) → Option (List ℕ)
name_after_kind (kinds.Start name attrs self_closing) last = Some name
name_after_kind (kinds.End name) last = last
name_after_kind (kinds.Char c) last = last
name_after_kind (kinds.Comment text) last = last
name_after_kind (kinds.Doctype name public_id system_id force_quirks) last = last
name_after_kind kinds.Eof last = last

abbrev pub name_after : List Token → Option (List ℕ) → Option (List ℕ)
name_after [] last = last
name_after (t ∷ ts) last = name_after_kind t.kind last

-- The tokens of the rest of a text at a place, after so many code points that belong to the piece before.
unfoldable pub tokens_after : List Row → ℕ → TextMode → Option (List ℕ) → ℕ → List ℕ → List (Option TextMode) → List Token
tokens_after rows passed mode name place [] switches = token kinds.Eof place place ∷ []
tokens_after rows zero mode name place (c ∷ rest) switches =
    let first = next rows mode name place (c ∷ rest) in
    first.tokens ++ tokens_after rows (first.len - 1) (mode_after first.tokens switches mode) (name_after first.tokens name) (place + 1) rest (drop (length first.tokens) switches)
tokens_after rows (suc k) mode name place (c ∷ rest) switches = tokens_after rows k mode name (place + 1) rest switches

-- the tokens from a place of text in a region on
abbrev pub text_after : List Row → List ℕ → TextMode → Option (List ℕ) → ℕ → List ℕ → List (Option TextMode) → List Token
text_after rows chars mode name place text switches =
    let given = chars_at mode place chars in
    given ++ tokens_after rows (length chars) (mode_after given switches mode) name place text (drop (length given) switches)
