-- A tokenizer gives no start tag where it reads text without tags.
use Rattle.std.proofs.Common.{◌≡◌, ℕ, zero, suc, ◌+◌, ◌-◌, Bool, true, false, not, cond, ◌&&◌, ◌||◌, List, [], ◌∷◌, ◌++◌, drop, length, Option, slice_get, refl, sym, subst}
use Rattle.std.specs.List.{list_all}
use Rattle.std.proofs.lemmas.Bool.{false≢true}
use Rattle.html_charref.specs.declared.table.Row.{Row}
use Rattle.html_tokens.specs.declared.token.Begin.{Begin}
use Rattle.html_tokens.specs.declared.token.Begin.TheVariants as begins
use Rattle.html_tokens.specs.declared.token.Opener.{Opener}
use Rattle.html_tokens.specs.declared.token.Opener.TheVariants as opens
use Rattle.html_tokens.specs.declared.token.Region.TheVariants.{Plain}
use Rattle.html_tokens.specs.declared.token.TextMode.{TextMode}
use Rattle.html_tokens.specs.declared.token.TextMode.TheVariants as reads
use Rattle.html_tokens.specs.declared.token.Token.{Token}
use Rattle.html_tokens.specs.declared.token.TokenKind.{TokenKind}
use Rattle.html_tokens.specs.declared.token.TokenKind.TheVariants as kind
use Rattle.html_tokens.specs.Cut.{cut, is, section_mark}
use Rattle.html_tokens.specs.Marks.{begin_at, front, is_end_mark}
use Rattle.html_tokens.specs.Reference.{reference}
use Rattle.html_tokens.specs.Tag.{Tag, tag_of}
use Rattle.html_tokens.specs.Tokens.{begun_piece, chars_at, is_data, mode_after, mode_after_kind, name_after, next, open_piece, opener, ref_tokens, switch_of, tag_kind, tag_piece, tag_tokens, text_or, token, tokens_after, when}
use Rattle.html_laws.proofs.Chains.{both, join, left, right}

abbrev pub Said : Type 0
Said = List (Option TextMode)

abbrev pub is_start_kind : TokenKind → Bool
is_start_kind (kind.Start name attrs self_closing) = true
is_start_kind _ = false

abbrev is_char_kind : TokenKind → Bool
is_char_kind (kind.Char c) = true
is_char_kind _ = false

-- a start tag comes in data alone, where text is read so and this is said after the tokens
abbrev pub is_tagless : TextMode → List Token → Said → Bool
is_tagless m [] ss = true
is_tagless m (t ∷ ts) ss = (is_data m || not (is_start_kind t.kind)) && is_tagless (mode_after_kind t.kind (switch_of ss) m) ts (drop 1 ss)

drop-more : (n : ℕ) (ss : Said) → drop n (drop 1 ss) ≡ drop (suc n) ss
drop-more zero [] = refl
drop-more (suc n) [] = refl
drop-more n (s ∷ ss) = refl

tagless-append : (m : TextMode) (us vs : List Token) (ss : Said) → is_tagless m us ss ≡ true → is_tagless (mode_after us ss m) vs (drop (length us) ss) ≡ true → is_tagless m (us ++ vs) ss ≡ true
tagless-append m [] vs ss h k = k
tagless-append m (u ∷ us) vs ss h k =
    let c = both (is_data m || not (is_start_kind u.kind)) (is_tagless (mode_after_kind u.kind (switch_of ss) m) us (drop 1 ss)) h in
    join (is_data m || not (is_start_kind u.kind)) (is_tagless (mode_after_kind u.kind (switch_of ss) m) (us ++ vs) (drop 1 ss)) c.0
    (tagless-append (mode_after_kind u.kind (switch_of ss) m) us vs (drop 1 ss) c.1 (subst (λ v. is_tagless (mode_after us (drop 1 ss) (mode_after_kind u.kind (switch_of ss) m)) vs v ≡ true) (sym (drop-more (length us) ss)) k))

-- PIECES

-- code points, or one token, a start tag in data alone
data IsPiece (m : TextMode) : List Token → Type 0 where
  of_chars : (ts : List Token) → list_all (λ (t : Token). is_char_kind t.kind) ts ≡ true → IsPiece m ts
  of_one : (t : Token) → (is_data m || not (is_start_kind t.kind)) ≡ true → IsPiece m (t ∷ [])

char-start : (k : TokenKind) → is_char_kind k ≡ true → not (is_start_kind k) ≡ true
char-start (kind.Char c) h = refl
char-start (kind.Start name attrs self_closing) h = absurd (false≢true h)
char-start (kind.End name) h = absurd (false≢true h)
char-start (kind.Comment text) h = absurd (false≢true h)
char-start (kind.Doctype n p s f) h = absurd (false≢true h)
char-start kind.Eof h = absurd (false≢true h)

chars-tagless : (m : TextMode) (ts : List Token) (ss : Said) → list_all (λ (t : Token). is_char_kind t.kind) ts ≡ true → is_tagless m ts ss ≡ true
chars-tagless m [] ss h = refl
chars-tagless m (t ∷ ts) ss h =
    let c = both (is_char_kind t.kind) (list_all (λ (v : Token). is_char_kind v.kind) ts) h in
    join (is_data m || not (is_start_kind t.kind)) (is_tagless (mode_after_kind t.kind (switch_of ss) m) ts (drop 1 ss)) (right (is_data m) (not (is_start_kind t.kind)) (char-start t.kind c.0)) (chars-tagless (mode_after_kind t.kind (switch_of ss) m) ts (drop 1 ss) c.1)

piece-tagless : (m : TextMode) (ts : List Token) (ss : Said) → IsPiece m ts → is_tagless m ts ss ≡ true
piece-tagless m _ ss (of_chars ts h) = chars-tagless m ts ss h
piece-tagless m _ ss (of_one t h) = join (is_data m || not (is_start_kind t.kind)) true h refl

chars-chars : (mode : TextMode) (place : ℕ) (cs : List ℕ) → list_all (λ (t : Token). is_char_kind t.kind) (chars_at mode place cs) ≡ true
chars-chars mode place [] = refl
chars-chars mode place (c ∷ cs) = chars-chars mode (place + 1) cs

refs-chars : (cs : List ℕ) (start end : ℕ) → list_all (λ (t : Token). is_char_kind t.kind) (ref_tokens cs start end) ≡ true
refs-chars [] start end = refl
refs-chars (c ∷ []) start end = refl
refs-chars (c ∷ d ∷ cs) start end = refl

module _ (rows : List Row) (m : TextMode) (place : ℕ) (text : List ℕ) where
  tag-piece : (is_end : Bool) (opened : ℕ) → (is_data m || is_end) ≡ true → IsPiece m (tag_piece rows is_end opened place text).tokens
  tag-piece is_end opened h = at (tag_of rows (drop opened text))
    where
      at : (g : Tag) → IsPiece m (tag_tokens is_end place (place + opened + g.tail.len) g)
      at g = by g.tail.closed is_end h
        where
          by : (b e : Bool) → (is_data m || e) ≡ true → IsPiece m (when b (token (tag_kind e g) place (place + opened + g.tail.len)))
          by false e h = of_chars [] refl
          by true true h = of_one (token (tag_kind true g) place (place + opened + g.tail.len)) (right (is_data m) true refl)
          by true false h = of_one (token (tag_kind false g) place (place + opened + g.tail.len)) h

  open-piece : (o : Opener) → is_data m ≡ true → IsPiece m (open_piece rows o place text).tokens
  open-piece opens.Literal h = of_chars _ refl
  open-piece opens.StartTag h = tag-piece false 1 (left (is_data m) false h)
  open-piece opens.EndTag h = tag-piece true 2 (right (is_data m) true refl)
  open-piece opens.Empty h = of_chars [] refl
  open-piece (opens.Bogus n) h = of_one _ (right (is_data m) true refl)
  open-piece opens.Comment h = of_one _ (right (is_data m) true refl)
  open-piece (opens.ShortComment n) h = of_one _ (right (is_data m) true refl)
  open-piece opens.Doctype h = of_one _ (right (is_data m) true refl)

  abbrev marks_up : Begin → Bool
  marks_up begins.Markup = true
  marks_up _ = false

  begun : (b : Begin) → (marks_up b ≡ true → is_data m ≡ true) → IsPiece m (begun_piece rows b place text).tokens
  begun begins.Char h = of_chars [] refl
  begun begins.Markup h = open-piece (opener text) (h refl)
  begun begins.EndMark h = tag-piece true 2 (right (is_data m) true refl)
  begun begins.Reference h = of_chars _ (refs-chars (reference rows text).codes place (place + (reference rows text).len))
  begun begins.Section h = of_chars _ (chars-chars reads.Foreign (place + 9) (cut section_mark (drop 9 text)).before)

  markup-data : (m : TextMode) (name : Option (List ℕ)) (text : List ℕ) → marks_up (begin_at m Plain name text) ≡ true → is_data m ≡ true
  markup-data reads.Data name text h = refl
  markup-data reads.Foreign name text h = refl
  markup-data reads.Rcdata name text h = by (is 38 (slice_get text 0)) (is_end_mark name text) h
    where
      by : (b c : Bool) → marks_up (cond b begins.Reference (cond c begins.EndMark begins.Char)) ≡ true → false ≡ true
      by true c h = h
      by false true h = h
      by false false h = h
  markup-data reads.Rawtext name text h = by (is_end_mark name text) h
    where
      by : (c : Bool) → marks_up (cond c begins.EndMark begins.Char) ≡ true → false ≡ true
      by true h = h
      by false h = h
  markup-data reads.Script name text h = by (is_end_mark name text) h
    where
      by : (c : Bool) → marks_up (cond c begins.EndMark begins.Char) ≡ true → false ≡ true
      by true h = h
      by false h = h
  markup-data reads.Plaintext name text h = h

  next-piece : (name : Option (List ℕ)) → IsPiece m (next rows m name place text).tokens
  next-piece name = by (front m Plain name text)
    where
      by : (cs : List ℕ) → IsPiece m (text_or cs m place (begun_piece rows (begin_at m Plain name text) place text)).tokens
      by [] = begun (begin_at m Plain name text) (markup-data m name text)
      by (c ∷ cs) = of_chars _ (chars-chars m place (c ∷ cs))

-- ALL TOKENS OF A TEXT

pub tokens-tagless : (rows : List Row) (passed : ℕ) (mode : TextMode) (name : Option (List ℕ)) (place : ℕ) (text : List ℕ) (ss : Said) → is_tagless mode (tokens_after rows passed mode name place text ss) ss ≡ true
unfolding tokens_after
tokens-tagless rows passed mode name place [] ss = join (is_data mode || true) true (right (is_data mode) true refl) refl
tokens-tagless rows zero mode name place (c ∷ rest) ss =
    let first = next rows mode name place (c ∷ rest) in
    tagless-append mode first.tokens (tokens_after rows (first.len - 1) (mode_after first.tokens ss mode) (name_after first.tokens name) (place + 1) rest (drop (length first.tokens) ss)) ss
    (piece-tagless mode first.tokens ss (next-piece rows mode place (c ∷ rest) name))
    (tokens-tagless rows (first.len - 1) (mode_after first.tokens ss mode) (name_after first.tokens name) (place + 1) rest (drop (length first.tokens) ss))
tokens-tagless rows (suc k) mode name place (c ∷ rest) ss = tokens-tagless rows k mode name (place + 1) rest ss
