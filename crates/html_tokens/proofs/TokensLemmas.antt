use Rattle.std.proofs.Common.{◌≡◌, ℕ, zero, suc, ◌+◌, ◌-◌, ◌<◌, ◌≤◌, List, [], ◌∷◌, ◌++◌, length, drop, Bool, Option, None, Some, cond, true, false, refl, ap, sym, ◌∙◌, arith, length-append, add-zero, zero-add}
use Rattle.std.proofs.lemmas.List.{drop-append-le}
use Rattle.std.specs.Prelude.{◌==◌}
use Rattle.html_tokens.specs.Tokens.{tokens_after, text_after, char_at, chars_at, next, text_char, token, begun_piece, stays, mode_after, name_after, Piece}
use Rattle.html_tokens.specs.Marks.{begin_at, is_stop, front, opens_section, region_in}
use Rattle.html_tokens.specs.Fed.{coming}
use Rattle.html_charref.specs.declared.table.Row.{Row}
use Rattle.html_tokens.specs.declared.token.Region.{Region}
use Rattle.html_tokens.specs.declared.token.Region.TheVariants.{Plain, Escaped, Double}
use Rattle.html_tokens.specs.declared.token.Begin.{Begin}
use Rattle.html_tokens.specs.declared.token.Begin.TheVariants as begins
use Rattle.html_tokens.specs.declared.machine.State.TheVariants.{Text}
use Rattle.html_tokens.specs.declared.token.TextMode.{TextMode}
use Rattle.html_tokens.specs.declared.token.TextMode.TheVariants.{Data, Rcdata, Rawtext, Script, Plaintext, Foreign}
use Rattle.html_tokens.specs.declared.token.Token.{Token}
use Rattle.html_tokens.specs.declared.token.TokenKind.TheVariants.{Eof}

pub tokens_skip : (rows : List Row) (k j : ℕ) (mode : TextMode) (name : Option (List ℕ)) (place : ℕ) (text : List ℕ) (switches : List (Option TextMode)) → k ≤ length text →
    tokens_after rows (k + j) mode name place text switches ≡ tokens_after rows j mode name (place + k) (drop k text) switches
unfolding tokens_after
tokens_skip rows zero j mode name place text switches h = rw (zero-add, add-zero) refl
tokens_skip rows (suc k) j mode name place [] switches h = absurd (omega arith)
tokens_skip rows (suc k) j mode name place (c ∷ rest) switches h =
    let e : suc k + j ≡ suc (k + j) = omega arith in
    let f : place + suc k ≡ (place + 1) + k = omega arith in
    rw (e, f) (tokens_skip rows k j mode name (place + 1) rest switches (omega arith))

-- the tokens of the first piece, and those after it
abbrev pub after_piece : List Row → Piece → TextMode → Option (List ℕ) → ℕ → List ℕ → List (Option TextMode) → List Token
after_piece rows first mode name place rest switches =
    first.tokens ++ tokens_after rows (first.len - 1) (mode_after first.tokens switches mode) (name_after first.tokens name) (place + 1) rest (drop (length first.tokens) switches)

tokens_unroll : (rows : List Row) (mode : TextMode) (name : Option (List ℕ)) (place c : ℕ) (rest : List ℕ) (switches : List (Option TextMode)) →
    tokens_after rows 0 mode name place (c ∷ rest) switches ≡ after_piece rows (next rows mode name place (c ∷ rest)) mode name place rest switches
unfolding tokens_after
tokens_unroll rows mode name place c rest switches = refl

-- what begins in any region is what begins in plain text
pub begin_plain : (mode : TextMode) (region : Region) (name : Option (List ℕ)) (text : List ℕ) (b : Begin) → begin_at mode region name text ≡ b → is_stop b ≡ true → begin_at mode Plain name text ≡ b
begin_plain Data region name text b e s = e
begin_plain Rcdata region name text b e s = e
begin_plain Rawtext region name text b e s = e
begin_plain Script Plain name text b e s = e
begin_plain Script Escaped name text b e s = e
begin_plain Script Double name text b e s = cc
begin_plain Plaintext region name text b e s = e
begin_plain Foreign region name text b e s = e

-- DATA IN FOREIGN CONTENT OR NOT

-- what holds of data in foreign content and of other data alike, holds whatever is said of the mode
pub mode_cases : (P : TextMode → TextMode → Type 0) → ((m : TextMode) → P m m) → P Data Foreign → P Foreign Data → (said : Option TextMode) (mode : TextMode) → P mode (stays said mode)
mode_cases P same to back None mode = same mode
mode_cases P same to back (Some Data) Data = same Data
mode_cases P same to back (Some Data) Rcdata = same Rcdata
mode_cases P same to back (Some Data) Rawtext = same Rawtext
mode_cases P same to back (Some Data) Script = same Script
mode_cases P same to back (Some Data) Plaintext = same Plaintext
mode_cases P same to back (Some Data) Foreign = back
mode_cases P same to back (Some Rcdata) mode = same mode
mode_cases P same to back (Some Rawtext) mode = same mode
mode_cases P same to back (Some Script) mode = same mode
mode_cases P same to back (Some Plaintext) mode = same mode
mode_cases P same to back (Some Foreign) Data = to
mode_cases P same to back (Some Foreign) Rcdata = same Rcdata
mode_cases P same to back (Some Foreign) Rawtext = same Rawtext
mode_cases P same to back (Some Foreign) Script = same Script
mode_cases P same to back (Some Foreign) Plaintext = same Plaintext
mode_cases P same to back (Some Foreign) Foreign = same Foreign

pub chars_turned : (said : Option TextMode) (mode : TextMode) (place : ℕ) (cs : List ℕ) → chars_at mode place cs ≡ chars_at (stays said mode) place cs
chars_turned said mode place [] = refl
chars_turned said mode place (c ∷ cs) =
    let one : text_char mode c ≡ text_char (stays said mode) c = mode_cases (λ m n. text_char m c ≡ text_char n c) (λ m. refl) refl refl said mode in
    rw one (ap (λ (ts : List Token). char_at (stays said mode) place c ∷ ts) (chars_turned said mode (place + 1) cs))

pub stops_in : (a b : Bool) (other : Begin) → is_stop (cond a begins.Markup other) ≡ is_stop (cond a (cond b begins.Section begins.Markup) other)
stops_in true true other = refl
stops_in true false other = refl
stops_in false b other = refl

front_foreign : (region : Region) (name : Option (List ℕ)) (text : List ℕ) → front Data region name text ≡ front Foreign region name text
unfolding front
front_foreign region name [] = refl
front_foreign region name (c ∷ rest) =
    let stop : is_stop (begin_at Data region name (c ∷ rest)) ≡ is_stop (begin_at Foreign region name (c ∷ rest)) = stops_in (c == 60) (opens_section (c ∷ rest)) (cond (c == 38) begins.Reference begins.Char) in
    rw (stop, front_foreign Plain name rest) refl

pub front_turned : (said : Option TextMode) (mode : TextMode) (region : Region) (name : Option (List ℕ)) (text : List ℕ) → front mode region name text ≡ front (stays said mode) region name text
front_turned said mode region name text =
    mode_cases (λ m n. front m region name text ≡ front n region name text) (λ m. refl) (front_foreign region name text) (sym (front_foreign region name text)) said mode

-- A FRONT OF TEXT

pub front_stop : (mode : TextMode) (region : Region) (name : Option (List ℕ)) (c : ℕ) (rest : List ℕ) (b : Begin) → begin_at mode region name (c ∷ rest) ≡ b → is_stop b ≡ true → front mode region name (c ∷ rest) ≡ []
unfolding front
front_stop mode region name c rest b e s = rw (e, s) refl

pub front_go : (mode : TextMode) (region : Region) (name : Option (List ℕ)) (c : ℕ) (rest : List ℕ) → begin_at mode region name (c ∷ rest) ≡ begins.Char →
    front mode region name (c ∷ rest) ≡ c ∷ front mode (region_in mode region (c ∷ rest)) name rest
unfolding front
front_go mode region name c rest e = rw e refl

pub front_end : (mode : TextMode) (region : Region) (name : Option (List ℕ)) → front mode region name [] ≡ []
unfolding front
front_end mode region name = refl

pub tokens_end : (rows : List Row) (mode : TextMode) (name : Option (List ℕ)) (place : ℕ) (switches : List (Option TextMode)) → tokens_after rows 0 mode name place [] switches ≡ token Eof place place ∷ []
unfolding tokens_after
tokens_end rows mode name place switches = refl

tokens_pred : (rows : List Row) (k : ℕ) (mode : TextMode) (name : Option (List ℕ)) (place c : ℕ) (rest : List ℕ) (switches : List (Option TextMode)) →
    tokens_after rows (suc k - 1) mode name (place + 1) rest switches ≡ tokens_after rows (suc k) mode name place (c ∷ rest) switches
unfolding tokens_after
tokens_pred rows k mode name place c rest switches = let e : suc k - 1 ≡ k = omega arith in rw e refl

-- The tokens of text from its front on are those of the front, and those after it.
text_plain_by : (rows : List Row) (cs : List ℕ) (mode : TextMode) (name : Option (List ℕ)) (place c : ℕ) (rest : List ℕ) (switches : List (Option TextMode)) → front mode Plain name (c ∷ rest) ≡ cs →
    tokens_after rows 0 mode name place (c ∷ rest) switches ≡ text_after rows cs mode name place (c ∷ rest) switches
text_plain_by rows [] mode name place c rest switches e = refl
text_plain_by rows (d ∷ ds) mode name place c rest switches e =
    tokens_unroll rows mode name place c rest switches
    ∙ rw e (ap (λ (ts : List Token). chars_at mode place (d ∷ ds) ++ ts) (tokens_pred rows (length ds) (mode_after (chars_at mode place (d ∷ ds)) switches mode) name place c rest (drop (length (chars_at mode place (d ∷ ds))) switches)))

text_plain : (rows : List Row) (mode : TextMode) (name : Option (List ℕ)) (place : ℕ) (text : List ℕ) (switches : List (Option TextMode)) →
    tokens_after rows 0 mode name place text switches ≡ text_after rows (front mode Plain name text) mode name place text switches
text_plain rows mode name place [] switches = rw (front_end mode Plain name) refl
text_plain rows mode name place (c ∷ rest) switches = text_plain_by rows (front mode Plain name (c ∷ rest)) mode name place c rest switches refl

-- from a region on
pub text_coming : (rows : List Row) (region : Region) (mode : TextMode) (name : Option (List ℕ)) (place : ℕ) (text : List ℕ) (switches : List (Option TextMode)) →
    coming rows (Text region) mode name place text switches ≡ text_after rows (front mode region name text) mode name place text switches
text_coming rows Plain mode name place text switches = text_plain rows mode name place text switches
text_coming rows Escaped mode name place text switches = refl
text_coming rows Double mode name place text switches = refl

text_on : (rows : List Row) (cs : List ℕ) (mode : TextMode) (name : Option (List ℕ)) (place c : ℕ) (rest : List ℕ) (switch : Option TextMode) (switches : List (Option TextMode)) →
    text_after rows (c ∷ cs) mode name place (c ∷ rest) (switch ∷ switches) ≡ char_at mode place c ∷ text_after rows cs (stays switch mode) name (place + 1) rest switches
unfolding tokens_after
text_on rows cs mode name place c rest switch switches = rw (← chars_turned switch mode (place + 1) cs) refl

-- in text, one code point is one Char
pub tokens_text : (rows : List Row) (mode : TextMode) (region after : Region) (name : Option (List ℕ)) (place c : ℕ) (rest : List ℕ) (switch : Option TextMode) (switches : List (Option TextMode)) →
    begin_at mode region name (c ∷ rest) ≡ begins.Char → region_in mode region (c ∷ rest) ≡ after →
    coming rows (Text region) mode name place (c ∷ rest) (switch ∷ switches) ≡ char_at mode place c ∷ coming rows (Text after) (stays switch mode) name (place + 1) rest switches
tokens_text rows mode region after name place c rest switch switches e r =
    text_coming rows region mode name place (c ∷ rest) (switch ∷ switches)
    ∙ rw (front_go mode region name c rest e, r)
    (text_on rows (front mode after name rest) mode name place c rest switch switches
    ∙ ap (λ (ts : List Token). char_at mode place c ∷ ts)
    (ap (λ (cs : List ℕ). text_after rows cs (stays switch mode) name (place + 1) rest switches) (front_turned switch mode after name rest)
    ∙ sym (text_coming rows after (stays switch mode) name (place + 1) rest switches)))

tokens_back : (rows : List Row) (k : ℕ) (mode : TextMode) (name : Option (List ℕ)) (place c : ℕ) (rest : List ℕ) (switches : List (Option TextMode)) → 0 < k →
    tokens_after rows (k - 1) mode name (place + 1) rest switches ≡ tokens_after rows k mode name place (c ∷ rest) switches
unfolding tokens_after
tokens_back rows zero mode name place c rest switches h = absurd (omega arith)
tokens_back rows (suc j) mode name place c rest switches h = let e : suc j - 1 ≡ j = omega arith in rw e refl

-- the tokens of a piece, and those after it
abbrev pub whole_piece : List Row → Piece → TextMode → Option (List ℕ) → ℕ → List ℕ → List (Option TextMode) → List Token
whole_piece rows first mode name place text switches =
    first.tokens ++ tokens_after rows first.len (mode_after first.tokens switches mode) (name_after first.tokens name) place text (drop (length first.tokens) switches)

-- another piece than text begins
pub tokens_begun : (rows : List Row) (b : Begin) (mode : TextMode) (region : Region) (name : Option (List ℕ)) (place : ℕ) (text : List ℕ) (switches : List (Option TextMode)) (first : Piece) →
    begin_at mode region name text ≡ b → is_stop b ≡ true → begun_piece rows b place text ≡ first → 0 < first.len → 0 < length text →
    coming rows (Text region) mode name place text switches ≡ whole_piece rows first mode name place text switches
tokens_begun rows b mode region name place [] switches first e s p h k = absurd (omega arith)
tokens_begun rows b mode region name place (c ∷ rest) switches first e s p h k =
    let plain = begin_plain mode region name (c ∷ rest) b e s in
    text_coming rows region mode name place (c ∷ rest) switches
    ∙ rw (front_stop mode region name c rest b e s)
    (tokens_unroll rows mode name place c rest switches
    ∙ rw (front_stop mode Plain name c rest b plain s, plain, p)
    (ap (λ (ts : List Token). first.tokens ++ ts)
    (tokens_back rows first.len _ _ place c rest _ h)))

-- past some code points of what was fed
pub tokens_past : (rows : List Row) (k j : ℕ) (mode : TextMode) (name : Option (List ℕ)) (place : ℕ) (items more : List ℕ) (switches : List (Option TextMode)) → k ≤ length items →
    tokens_after rows (k + j) mode name place (items ++ more) switches ≡ tokens_after rows j mode name (place + k) (drop k items ++ more) switches
tokens_past rows k j mode name place items more switches h =
    tokens_skip rows k j mode name place (items ++ more) switches (omega (arith, length-append items more))
    ∙ rw (drop-append-le k items more h) refl

pub tokens_past_one : (rows : List Row) (len : ℕ) (mode : TextMode) (name : Option (List ℕ)) (place : ℕ) (items items' more : List ℕ) (switches : List (Option TextMode)) → items' ≡ drop 1 items → 0 < length items →
    tokens_after rows (suc len) mode name place (items ++ more) switches ≡ tokens_after rows len mode name (place + 1) (items' ++ more) switches
tokens_past_one rows len mode name place items items' more switches i h =
    let m : suc len ≡ 1 + len = omega arith in
    rw (m, i) (tokens_past rows 1 len mode name place items more switches h)
