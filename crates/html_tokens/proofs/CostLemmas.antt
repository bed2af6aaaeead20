-- The tokens of a text stand in order, and hold no more code points than the text.
use Rattle.std.proofs.Common.{◌≡◌, ℕ, zero, suc, ◌+◌, ◌-◌, ◌<◌, ◌≤◌, List, [], ◌∷◌, ◌++◌, length, map, drop, Option, Some, None, Bool, true, false, ◌&&◌, cond, is_none, refl, ap, sym, subst, append-nil, ◌∙◌, arith}
use Rattle.std.proofs.lemmas.List.{length-map, length-drop}
use Rattle.std.proofs.lemmas.Bool.{false≢true}
use Rattle.std.specs.List.{slice_get}
use Rattle.std.specs.Option.{IfSome}
use Rattle.html_charref.specs.Table.{IsTable}
use Rattle.html_charref.specs.declared.table.Row.{Row}
use Rattle.html_tokens.specs.Cost.{attrs_len, is_eof, AreNamed, Fits, AreBetween, tokens_len, AreCosted}
use Rattle.html_tokens.specs.Cut.{cut, is, passes, greater_mark, comment_mark, section_mark, null_replaced}
use Rattle.html_tokens.specs.Marks.{begin_at, is_end_mark, is_stop, is_tag_name, front, opens_section, region_in, spells}
use Rattle.html_tokens.specs.Reference.{reference}
use Rattle.html_tokens.specs.Fed.{to_come}
use Rattle.html_tokens.specs.Stream.{Start, Run, IsAt, gave, answered, tokens_of}
use Rattle.html_tokens.specs.declared.machine.Machine.{Machine}
use Rattle.html_tokens.specs.Tag.{Tag, tag_of}
use Rattle.html_tokens.specs.Tokens.{Piece, token, chars_at, comment_piece, tag_kind, tag_piece, when, open_piece, opener, opened_len, ref_tokens, ref_piece, section_piece, begun_piece, text_or, next, mode_after, name_after, tokens_after, is_letter}
use Rattle.html_tokens.specs.declared.token.Begin.{Begin}
use Rattle.html_tokens.specs.declared.token.Begin.TheVariants as begins
use Rattle.html_tokens.specs.declared.token.Opener.{Opener}
use Rattle.html_tokens.specs.declared.token.Opener.TheVariants as opens
use Rattle.html_tokens.specs.declared.token.Region.{Region}
use Rattle.html_tokens.specs.declared.token.Region.TheVariants.{Plain}
use Rattle.html_tokens.specs.declared.token.TextMode.{TextMode}
use Rattle.html_tokens.specs.declared.token.TextMode.TheVariants.{Data, Rcdata, Rawtext, Script, Plaintext, Foreign}
use Rattle.html_tokens.specs.declared.token.Token.{Token}
use Rattle.html_tokens.proofs.CostCuts.{cond_both, left, right, is_there, MarkFits, greater_fits, comment_fits, section_fits, cut_fits, reference_fits}
use Rattle.html_tokens.specs.Doctype.{doctype_of, doctype_word, spells_word}
use Rattle.html_tokens.proofs.CostDoctypes.{doctype_fits, spelled_fits}
use Rattle.html_tokens.proofs.CostTags.{tag_fits}

-- tokens between two places, none of them the end of the input
abbrev AreInside : ℕ → ℕ → List Token → Type 0
AreInside place end [] = place ≤ end
AreInside place end (t ∷ more) = Fits place t × (is_eof t.kind ≡ false) × AreInside t.span.end end more

-- a piece stands in the text, and its tokens in the piece
record PieceFits (place : ℕ) (p : Piece) (n : ℕ) : Type 0 where
  inside : AreInside place (place + p.len) p.tokens
  within : p.len ≤ n

sooner : (a b end : ℕ) (ts : List Token) → a ≤ b → AreBetween b end ts → AreBetween a end ts
sooner a b end [] h f = omega arith
sooner a b end (t ∷ more) h f = let s = f.0.starts in (record { starts = omega arith; holds = f.0.holds; some = f.0.some; names = f.0.names }, f.1, f.2)

joined : (a b end : ℕ) (xs ys : List Token) → AreInside a b xs → AreBetween b end ys → AreBetween a end (xs ++ ys)
joined a b end [] ys h f = sooner a b end ys h f
joined a b end (t ∷ more) ys h f = (h.0, (λ e. absurd (false≢true (sym h.1 ∙ e))), joined t.span.end b end more ys h.2 f)

chars_inside : (mode : TextMode) (cs : List ℕ) (place end : ℕ) → end ≡ place + length cs → AreInside place end (chars_at mode place cs)
chars_inside mode [] place end e = omega arith
chars_inside mode (c ∷ cs) place end e =
    (record { starts = omega arith; holds = omega arith; some = (λ h. omega arith); names = tt }, refl, chars_inside mode cs (place + 1) end (omega arith))

chars_within : (mode : TextMode) (cs : List ℕ) (from place end : ℕ) → from ≤ place → place + length cs ≤ end → AreInside from end (chars_at mode place cs)
chars_within mode [] from place end h e = omega arith
chars_within mode (c ∷ cs) from place end h e =
    (record { starts = omega arith; holds = omega arith; some = (λ i. omega arith); names = tt }, refl, chars_within mode cs (place + 1) (place + 1) end (omega arith) (omega arith))

front_fits : (mode : TextMode) (region : Region) (name : Option (List ℕ)) (text : List ℕ) → length (front mode region name text) ≤ length text
unfolding front
front_fits mode region name [] = omega arith
front_fits mode region name (c ∷ rest) =
    let more = front mode (region_in mode region (c ∷ rest)) name rest in
    let h = front_fits mode (region_in mode region (c ∷ rest)) name rest in
    cond_both (λ (l : List ℕ). length l ≤ suc (length rest)) (is_stop (begin_at mode region name (c ∷ rest))) [] (c ∷ more) (λ e. omega arith) (λ e. omega arith)

comment_fits_piece : (mark : List ℕ → Option ℕ) → MarkFits mark → (opened place : ℕ) (text : List ℕ) → 0 < opened → opened ≤ length text → PieceFits place (comment_piece mark opened place text) (length text)
comment_fits_piece mark m opened place text s h =
    let rest = drop opened text in
    let data_cut = cut mark rest in
    let f = cut_fits mark m rest in
    let a = f.0 in
    let b : data_cut.len ≤ length text - opened = rw (← length-drop opened text) f.1 in
    let l : length (map null_replaced data_cut.before) ≡ length data_cut.before = length-map data_cut.before null_replaced in
    record { inside = (record { starts = omega arith; holds = omega arith; some = (λ e. omega arith); names = tt }, refl, omega arith); within = omega arith }

section_fits_piece : (place : ℕ) (text : List ℕ) → 9 ≤ length text → PieceFits place (section_piece place text) (length text)
section_fits_piece place text h =
    let section = cut section_mark (drop 9 text) in
    let f = cut_fits section_mark section_fits (drop 9 text) in
    let a = f.0 in
    let b : section.len ≤ length text - 9 = rw (← length-drop 9 text) f.1 in
    record { inside = chars_within Foreign section.before place (place + 9) (place + (9 + section.len)) (omega arith) (omega arith); within = omega arith }

tag_inside : (is_end closed : Bool) (t : Tag) (start end : ℕ) → start < end → start + (length t.name + attrs_len t.tail.attrs) ≤ end → AreNamed t.tail.attrs → AreInside start end (when closed (token (tag_kind is_end t) start end))
tag_inside true true t start end s h n = (record { starts = omega arith; holds = omega arith; some = (λ e. s); names = tt }, refl, omega arith)
tag_inside false true t start end s h n = (record { starts = omega arith; holds = h; some = (λ e. s); names = n }, refl, omega arith)
tag_inside is_end false t start end s h n = omega arith

tag_fits_piece : (rows : List Row) (is_end : Bool) (opened place : ℕ) (text : List ℕ) → IsTable rows → 0 < opened → opened ≤ length text → PieceFits place (tag_piece rows is_end opened place text) (length text)
tag_fits_piece rows is_end opened place text t s h =
    let whole = tag_of rows (drop opened text) in
    let f = tag_fits rows (drop opened text) t in
    let a = f.holds in
    let b : whole.tail.len ≤ length text - opened = rw (← length-drop opened text) f.within in
    let e : place + (opened + whole.tail.len) ≡ place + opened + whole.tail.len = omega arith in
    record { inside = rw e (tag_inside is_end whole.tail.closed whole place (place + opened + whole.tail.len) (omega arith) (omega arith) f.named); within = omega arith }

ref_inside : (codes : List ℕ) (start end : ℕ) → start < end → start + length codes ≤ end → AreInside start end (ref_tokens codes start end)
ref_inside [] start end s h = omega arith
ref_inside (c ∷ []) start end s h = (record { starts = omega arith; holds = omega arith; some = (λ e. s); names = tt }, refl, omega arith)
ref_inside (c ∷ d ∷ more) start end s h = (
  record { starts = omega arith; holds = omega arith; some = (λ e. omega arith); names = tt },
  refl,
  (record { starts = omega arith; holds = omega arith; some = (λ e. omega arith); names = tt }, refl, omega arith),
)

ref_fits_piece : (rows : List Row) (place : ℕ) (text : List ℕ) → IsTable rows → 0 < length text → PieceFits place (ref_piece rows place text) (length text)
ref_fits_piece rows place text t h =
    let found = reference rows text in
    let f = reference_fits rows text t h in
    let a = f.some in let b = f.codes in
    record { inside = ref_inside found.codes place (place + found.len) (omega arith) (omega arith); within = f.within }

-- the opener of markup is there
abbrev OpenerFits : ℕ → Opener → Type 0
OpenerFits n o = (0 < opened_len o) × (opened_len o ≤ n)

opener_fits : (text : List ℕ) → 0 < length text → OpenerFits (length text) (opener text)
opener_fits text h =
    let n = length text in
    let P : Opener → Type 0 = λ o. OpenerFits n o in
    let b = slice_get text 1 in
    let c = slice_get text 2 in
    let d = slice_get text 3 in
    let e = slice_get text 4 in
    let f = slice_get text 5 in
    let doctype = spells_word doctype_word 2 text in
    let bogus = cond doctype opens.Doctype (opens.Bogus 2) in
    let short = cond (is 45 e && is 62 f) (opens.ShortComment 6) opens.Comment in
    let dashes = cond (is 62 e) (opens.ShortComment 5) short in
    let bang = cond (is 45 c && is 45 d) dashes bogus in
    let letter = cond (passes is_letter c) opens.EndTag (opens.Bogus 2) in
    let closing = cond (is 62 c) opens.Empty letter in
    let slash = cond (is_none c) opens.Literal closing in
    let start = cond (passes is_letter b) opens.StartTag opens.Literal in
    let others = cond (is 47 b) slash start in
    let question = cond (is 63 b) (opens.Bogus 1) others in
    cond_both P (is 33 b) bang question
    (λ x. let i = is_there 33 text 1 x in
    cond_both P (is 45 c && is 45 d) dashes bogus
    (λ y. let j = is_there 45 text 3 (right (is 45 c) (is 45 d) y) in
    cond_both P (is 62 e) (opens.ShortComment 5) short
    (λ z. let k = is_there 62 text 4 z in (omega arith, omega arith))
    (λ z. cond_both P (is 45 e && is 62 f) (opens.ShortComment 6) opens.Comment
    (λ w. let k = is_there 62 text 5 (right (is 45 e) (is 62 f) w) in (omega arith, omega arith))
    (λ w. (omega arith, omega arith))))
    (λ y. cond_both P doctype opens.Doctype (opens.Bogus 2)
    (λ z. let j = spelled_fits doctype_word 2 text (omega arith) z in (omega arith, omega arith)) (λ z. (omega arith, omega arith))))
    (λ x. cond_both P (is 63 b) (opens.Bogus 1) others
    (λ y. (omega arith, omega arith))
    (λ y. cond_both P (is 47 b) slash start
    (λ z. let i = is_there 47 text 1 z in
    cond_both P (is_none c) opens.Literal closing (λ w. (omega arith, omega arith))
    (λ w. cond_both P (is 62 c) opens.Empty letter
    (λ v. let j = is_there 62 text 2 v in (omega arith, omega arith))
    (λ v. cond_both P (passes is_letter c) opens.EndTag (opens.Bogus 2) (λ u. (omega arith, omega arith)) (λ u. (omega arith, omega arith)))))
    (λ z. cond_both P (passes is_letter b) opens.StartTag opens.Literal (λ w. (omega arith, omega arith)) (λ w. (omega arith, omega arith)))))

open_fits : (rows : List Row) (o : Opener) (place : ℕ) (text : List ℕ) → IsTable rows → OpenerFits (length text) o → PieceFits place (open_piece rows o place text) (length text)
open_fits rows opens.Literal place text t h = record { inside = chars_inside Data (60 ∷ []) place (place + 1) (omega arith); within = h.1 }
open_fits rows opens.StartTag place text t h = tag_fits_piece rows false 1 place text t h.0 h.1
open_fits rows opens.EndTag place text t h = tag_fits_piece rows true 2 place text t h.0 h.1
open_fits rows opens.Empty place text t h = record { inside = omega arith; within = h.1 }
open_fits rows (opens.Bogus opened) place text t h = comment_fits_piece greater_mark greater_fits opened place text h.0 h.1
open_fits rows opens.Comment place text t h = comment_fits_piece comment_mark comment_fits 4 place text h.0 h.1
open_fits rows opens.Doctype place text t h =
    let d = doctype_of (drop 9 text) in
    let f = doctype_fits (drop 9 text) in
    let a = f.holds in let k = h.1 in
    let b : d.len ≤ length text - 9 = rw (← length-drop 9 text) f.within in
    record { inside = (record { starts = omega arith; holds = omega arith; some = (λ e. omega arith); names = tt }, refl, omega arith); within = omega arith }
open_fits rows (opens.ShortComment len) place text t h =
    let a = h.0 in
    record { inside = (record { starts = omega arith; holds = omega arith; some = (λ e. omega arith); names = tt }, refl, omega arith); within = h.1 }

-- an end mark has two code points at least, and what opens a section nine
abbrev EndFits : ℕ → Begin → Type 0
EndFits n b = (b ≡ begins.EndMark → 2 ≤ n) × (b ≡ begins.Section → 9 ≤ n)

end_mark_fits : (name : Option (List ℕ)) (text : List ℕ) → is_end_mark name text ≡ true → 2 ≤ length text
end_mark_fits None text h = absurd (false≢true h)
end_mark_fits (Some name) text h = let i = is_there 47 text 1 (right (is_tag_name name && is 60 (slice_get text 0)) (is 47 (slice_get text 1)) (left (is_tag_name name && is 60 (slice_get text 0) && is 47 (slice_get text 1)) (spells name 2 text) h)) in omega arith

end_or_char : (name : Option (List ℕ)) (text : List ℕ) → EndFits (length text) (cond (is_end_mark name text) begins.EndMark begins.Char)
end_or_char name text = cond_both (λ (b : Begin). EndFits (length text) b) (is_end_mark name text) begins.EndMark begins.Char (λ e. (λ f. end_mark_fits name text e, λ f. cc)) (λ e. (λ f. cc, λ f. cc))

-- what opens a section is there
opens_fits : (text : List ℕ) → opens_section text ≡ true → 9 ≤ length text
opens_fits text h =
    let b = λ (k c : ℕ). is c (slice_get text k) in
    let tail = right (b 0 60) _ h in
    let tail = right (b 1 33) _ tail in
    let tail = right (b 2 91) _ tail in
    let tail = right (b 3 67) _ tail in
    let tail = right (b 4 68) _ tail in
    let tail = right (b 5 65) _ tail in
    let tail = right (b 6 84) _ tail in
    let tail = right (b 7 65) _ tail in
    let i = is_there 91 text 8 (left (b 8 91) true tail) in omega arith

ref_or_char : (text : List ℕ) → EndFits (length text) (cond (is 38 (slice_get text 0)) begins.Reference begins.Char)
ref_or_char text = cond_both (λ (b : Begin). EndFits (length text) b) (is 38 (slice_get text 0)) begins.Reference begins.Char (λ e. (λ f. cc, λ f. cc)) (λ e. (λ f. cc, λ f. cc))

begin_fits : (mode : TextMode) (name : Option (List ℕ)) (text : List ℕ) → EndFits (length text) (begin_at mode Plain name text)
begin_fits Data name text =
    let P : Begin → Type 0 = λ b. EndFits (length text) b in
    let other = cond (is 38 (slice_get text 0)) begins.Reference begins.Char in
    cond_both P (is 60 (slice_get text 0)) begins.Markup other (λ e. (λ f. cc, λ f. cc)) (λ e. ref_or_char text)
begin_fits Rcdata name text =
    cond_both (λ (b : Begin). EndFits (length text) b) (is 38 (slice_get text 0)) begins.Reference (cond (is_end_mark name text) begins.EndMark begins.Char) (λ e. (λ f. cc, λ f. cc)) (λ e. end_or_char name text)
begin_fits Rawtext name text = end_or_char name text
begin_fits Script name text = end_or_char name text
begin_fits Plaintext name text = (λ f. cc, λ f. cc)
begin_fits Foreign name text =
    let P : Begin → Type 0 = λ b. EndFits (length text) b in
    let «open» = cond (opens_section text) begins.Section begins.Markup in
    let other = cond (is 38 (slice_get text 0)) begins.Reference begins.Char in
    cond_both P (is 60 (slice_get text 0)) «open» other
    (λ e. cond_both P (opens_section text) begins.Section begins.Markup (λ g. (λ f. cc, λ f. opens_fits text g)) (λ g. (λ f. cc, λ f. cc)))
    (λ e. ref_or_char text)

begun_fits : (rows : List Row) (b : Begin) (place : ℕ) (text : List ℕ) → IsTable rows → 0 < length text → EndFits (length text) b → PieceFits place (begun_piece rows b place text) (length text)
begun_fits rows begins.Char place text t h f = record { inside = omega arith; within = h }
begun_fits rows begins.Markup place text t h f = open_fits rows (opener text) place text t (opener_fits text h)
begun_fits rows begins.EndMark place text t h f = tag_fits_piece rows true 2 place text t (omega arith) (f.0 refl)
begun_fits rows begins.Reference place text t h f = ref_fits_piece rows place text t h
begun_fits rows begins.Section place text t h f = section_fits_piece place text (f.1 refl)

text_or_fits : (cs : List ℕ) (mode : TextMode) (place : ℕ) (other : Piece) (n : ℕ) → length cs ≤ n → PieceFits place other n → PieceFits place (text_or cs mode place other) n
text_or_fits [] mode place other n h f = f
text_or_fits (c ∷ cs) mode place other n h f = record { inside = chars_inside mode (c ∷ cs) place (place + length (c ∷ cs)) refl; within = h }

next_fits : (rows : List Row) (mode : TextMode) (name : Option (List ℕ)) (place : ℕ) (text : List ℕ) → IsTable rows → 0 < length text → PieceFits place (next rows mode name place text) (length text)
next_fits rows mode name place text t h =
    text_or_fits (front mode Plain name text) mode place (begun_piece rows (begin_at mode Plain name text) place text) (length text) (front_fits mode Plain name text)
    (begun_fits rows (begin_at mode Plain name text) place text t h (begin_fits mode name text))

tokens_between : (rows : List Row) (k : ℕ) (mode : TextMode) (name : Option (List ℕ)) (place : ℕ) (text : List ℕ) (switches : List (Option TextMode)) (from end : ℕ) → IsTable rows → k ≤ length text → from ≤ place + k → end ≡ place + length text →
    AreBetween from end (tokens_after rows k mode name place text switches)
unfolding tokens_after
tokens_between rows k mode name place [] switches from end t h f e =
    (record { starts = omega arith; holds = omega arith; some = (λ i. absurd (false≢true (sym i))); names = tt }, (λ i. refl), omega arith)
tokens_between rows zero mode name place (c ∷ rest) switches from end t h f e =
    let first = next rows mode name place (c ∷ rest) in
    let p = next_fits rows mode name place (c ∷ rest) t (omega arith) in
    let w = p.within in
    let more = tokens_between rows (first.len - 1) (mode_after first.tokens switches mode) (name_after first.tokens name) (place + 1) rest (drop (length first.tokens) switches) (place + first.len) end t (omega arith) (omega arith) (omega arith) in
    sooner from place end (first.tokens ++ tokens_after rows (first.len - 1) (mode_after first.tokens switches mode) (name_after first.tokens name) (place + 1) rest (drop (length first.tokens) switches)) (omega arith)
    (joined place (place + first.len) end first.tokens (tokens_after rows (first.len - 1) (mode_after first.tokens switches mode) (name_after first.tokens name) (place + 1) rest (drop (length first.tokens) switches)) p.inside more)
tokens_between rows (suc k) mode name place (c ∷ rest) switches from end t h f e = tokens_between rows k mode name (place + 1) rest switches from end t (omega arith) (omega arith) (omega arith)

between_le : (a b : ℕ) (ts : List Token) → AreBetween a b ts → a ≤ b
between_le a b [] h = h
between_le a b (t ∷ more) h =
    let i = between_le t.span.end b more h.2 in
    let s = h.0.starts in let d = h.0.holds in omega arith

count_one : (a b : ℕ) (t : Token) (more : List Token) (eof : Bool) → is_eof t.kind ≡ eof → Fits a t → (is_eof t.kind ≡ true → more ≡ []) → t.span.end ≤ b → t.span.end + length more ≤ b + 1 → a + length (t ∷ more) ≤ b + 1
count_one a b t more true e f last h i =
    let s = f.starts in let d = f.holds in
    rw (last e) (omega arith)
count_one a b t more false e f last h i = let s = f.starts in let d = f.some e in omega arith

count_fits : (a b : ℕ) (ts : List Token) → AreBetween a b ts → a + length ts ≤ b + 1
count_fits a b [] h = omega arith
count_fits a b (t ∷ more) h = count_one a b t more (is_eof t.kind) refl h.0 h.1 (between_le t.span.end b more h.2) (count_fits t.span.end b more h.2)

own_fits : (a b : ℕ) (ts : List Token) → AreBetween a b ts → a + tokens_len ts ≤ b
own_fits a b [] h = omega arith
own_fits a b (t ∷ more) h =
    let i = own_fits t.span.end b more h.2 in
    let s = h.0.starts in let d = h.0.holds in omega arith

costed_from : (n : ℕ) (ts : List Token) → AreBetween 0 n ts → AreCosted n ts
costed_from n ts h = let c = count_fits 0 n ts h in let o = own_fits 0 n ts h in record { order = h; count = omega arith; own = omega arith }

-- the tokens of every text
pub tokens_costed : (text : List ℕ) (switches : List (Option TextMode)) (start : Start) → IsTable start.rows → AreCosted (length text) (tokens_of text switches start)
tokens_costed text switches start t =
    costed_from (length text) (tokens_of text switches start) (tokens_between start.rows 0 start.mode start.name 0 text switches 0 (length text) t (omega arith) (omega arith) (omega arith))

no_more : (xs ys : List Token) → xs ++ ys ≡ [] → xs ≡ []
no_more [] ys h = refl
no_more (x ∷ xs) ys h = cc

between_front : (a b : ℕ) (xs ys : List Token) → AreBetween a b (xs ++ ys) → AreBetween a b xs
between_front a b [] ys h = between_le a b ys h
between_front a b (t ∷ more) ys h = (h.0, (λ e. no_more more ys (h.1 e)), between_front t.span.end b more ys h.2)

-- and of a front of them
pub front_costed : (n : ℕ) (xs ys : List Token) → AreCosted n (xs ++ ys) → AreCosted n xs
front_costed n xs ys h = costed_from n xs (between_front 0 n xs ys h.order)

-- the tokens given by a run, the one just given included
pub run_costed : (t : Machine) (run : Run) (given : Token) → IsAt t (gave run given None) → AreCosted (length run.text) (run.given ++ given ∷ [])
run_costed t run given i =
    let e : tokens_of (run.text ++ []) ((run.switches ++ None ∷ []) ++ []) run.start ≡ (run.given ++ given ∷ []) ++ to_come t [] [] = i.tokens [] [] (λ f. refl) in
    let n : length (run.text ++ []) ≡ length run.text = ap length (append-nil run.text) in
    front_costed (length run.text) (run.given ++ given ∷ []) (to_come t [] [])
    (subst (λ (m : ℕ). AreCosted m ((run.given ++ given ∷ []) ++ to_come t [] [])) n
    (subst (λ (ts : List Token). AreCosted (length (run.text ++ [])) ts) e (tokens_costed (run.text ++ []) ((run.switches ++ None ∷ []) ++ []) run.start i.rule)))

pub costed_some : (answer : Option Token) (old new : Machine) →
    IfSome answer (λ token. (run : Run) → IsAt old run → (switch : Option TextMode) → IsAt (answered token switch new) (gave run token switch)) →
    IfSome answer (λ token. (run : Run) → IsAt old run → AreCosted (length run.text) (run.given ++ token ∷ []))
costed_some None old new h = tt
costed_some (Some token) old new h = λ run i. run_costed (answered token None new) run token (h run i None)
