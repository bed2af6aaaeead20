-- The errors of a text, piece by piece.
use Rattle.std.proofs.Common.{◌≡◌, ◌⊎◌, ℕ, zero, suc, ◌+◌, ◌-◌, ◌<◌, ◌≤◌, List, [], ◌∷◌, ◌++◌, length, drop, Bool, Option, Some, cond, true, false, refl, ap, sym, inl, inr, ◌∙◌, ◌==◌, arith, append_assoc, append-nil, length-append, add-zero, zero-add}
use Rattle.std.proofs.lemmas.Bool.{false≢true}
use Rattle.std.proofs.lemmas.List.{drop-append-le}
use Rattle.html_tokens.specs.Inside.{null_errors}
use Rattle.html_tokens.specs.Errors.{begin_told, errors_after, front_errors, inside_errors, piece_errors, region_end_errors, region_told, soon_errors, told_in}
use Rattle.html_tokens.specs.Fed.{errors_coming, region_errors, text_errors}
use Rattle.html_tokens.specs.Tokens.{begun_piece, chars_at, mode_after, name_after, next, Piece, stays}
use Rattle.html_tokens.specs.Marks.{begin_at, is_end_mark, is_stop, front, opens_section, region_in}
use Rattle.html_charref.specs.declared.table.Row.{Row}
use Rattle.html_tokens.specs.declared.faults.Fault.{Fault}
use Rattle.html_tokens.specs.declared.machine.State.TheVariants.{Text}
use Rattle.html_tokens.specs.declared.token.Begin.{Begin}
use Rattle.html_tokens.specs.declared.token.Begin.TheVariants as begins
use Rattle.html_tokens.specs.declared.token.Region.{Region}
use Rattle.html_tokens.specs.declared.token.Region.TheVariants.{Plain, Escaped, Double}
use Rattle.html_tokens.specs.declared.token.TextMode.{TextMode}
use Rattle.html_tokens.specs.declared.token.TextMode.TheVariants.{Data, Rcdata, Rawtext, Script, Plaintext, Foreign}
use Rattle.html_tokens.proofs.TokensLemmas.{begin_plain, chars_turned, front_end, front_go, front_stop, front_turned, mode_cases, stops_in}

errors_skip : (rows : List Row) (k j : ℕ) (mode : TextMode) (name : Option (List ℕ)) (place : ℕ) (text : List ℕ) (switches : List (Option TextMode)) → k ≤ length text →
    errors_after rows (k + j) mode name place text switches ≡ errors_after rows j mode name (place + k) (drop k text) switches
unfolding errors_after
errors_skip rows zero j mode name place text switches h = rw (zero-add, add-zero) refl
errors_skip rows (suc k) j mode name place [] switches h = absurd (omega arith)
errors_skip rows (suc k) j mode name place (c ∷ rest) switches h =
    let e : suc k + j ≡ suc (k + j) = omega arith in
    let f : place + suc k ≡ (place + 1) + k = omega arith in
    rw (e, f) (errors_skip rows k j mode name (place + 1) rest switches (omega arith))

-- the errors of the first piece, and those after it
abbrev after_piece : List Row → List Fault → List Fault → List Fault → Piece → TextMode → Option (List ℕ) → ℕ → List ℕ → List (Option TextMode) → List Fault
after_piece rows front told inside first mode name place rest switches =
    front ++ (told ++ (inside ++ errors_after rows (first.len - 1) (mode_after first.tokens switches mode) (name_after first.tokens name) (place + 1) rest (drop (length first.tokens) switches)))

errors_unroll : (rows : List Row) (mode : TextMode) (name : Option (List ℕ)) (place c : ℕ) (rest : List ℕ) (switches : List (Option TextMode)) →
    errors_after rows 0 mode name place (c ∷ rest) switches
    ≡ after_piece rows (front_errors mode Plain name place (c ∷ rest)) (piece_errors rows (begin_at mode Plain name (c ∷ rest)) place (c ∷ rest)) (inside_errors rows (begin_at mode Plain name (c ∷ rest)) place (c ∷ rest)) (next rows mode name place (c ∷ rest)) mode name place rest switches
unfolding errors_after
errors_unroll rows mode name place c rest switches = refl

-- THE ERRORS OF A FRONT

front_errors_end : (mode : TextMode) (region : Region) (name : Option (List ℕ)) (place : ℕ) → front_errors mode region name place [] ≡ region_end_errors region place
unfolding front_errors
front_errors_end mode region name place = refl

front_errors_stop : (mode : TextMode) (region : Region) (name : Option (List ℕ)) (place c : ℕ) (rest : List ℕ) (b : Begin) → begin_at mode region name (c ∷ rest) ≡ b → is_stop b ≡ true → front_errors mode region name place (c ∷ rest) ≡ []
unfolding front_errors
front_errors_stop mode region name place c rest b e s = rw (e, s) refl

front_errors_go : (mode : TextMode) (region : Region) (name : Option (List ℕ)) (place c : ℕ) (rest : List ℕ) → begin_at mode region name (c ∷ rest) ≡ begins.Char →
    front_errors mode region name place (c ∷ rest) ≡ null_errors (Some c) place ++ front_errors mode (region_in mode region (c ∷ rest)) name (place + 1) rest
unfolding front_errors
front_errors_go mode region name place c rest e = rw e refl

front_errors_foreign : (region : Region) (name : Option (List ℕ)) (place : ℕ) (text : List ℕ) → front_errors Data region name place text ≡ front_errors Foreign region name place text
unfolding front_errors
front_errors_foreign region name place [] = refl
front_errors_foreign region name place (c ∷ rest) =
    let stop : is_stop (begin_at Data region name (c ∷ rest)) ≡ is_stop (begin_at Foreign region name (c ∷ rest)) = stops_in (c == 60) (opens_section (c ∷ rest)) (cond (c == 38) begins.Reference begins.Char) in
    rw (stop, front_errors_foreign Plain name (place + 1) rest) refl

front_errors_turned : (said : Option TextMode) (mode : TextMode) (region : Region) (name : Option (List ℕ)) (place : ℕ) (text : List ℕ) → front_errors mode region name place text ≡ front_errors (stays said mode) region name place text
front_errors_turned said mode region name place text =
    mode_cases (λ m n. front_errors m region name place text ≡ front_errors n region name place text) (λ m. refl) (front_errors_foreign region name place text) (sym (front_errors_foreign region name place text)) said mode

-- before a code point the end tells nothing
pub region_quiet : (region : Region) (place : ℕ) (text : List ℕ) → 0 < length text → region_told region place text ≡ []
region_quiet region place [] h = absurd (omega arith)
region_quiet Plain place (c ∷ rest) h = refl
region_quiet Escaped place (c ∷ rest) h = refl
region_quiet Double place (c ∷ rest) h = refl

pub errors_end : (rows : List Row) (k : ℕ) (mode : TextMode) (name : Option (List ℕ)) (place : ℕ) (switches : List (Option TextMode)) → errors_after rows k mode name place [] switches ≡ []
unfolding errors_after
errors_end rows k mode name place switches = refl

errors_pred : (rows : List Row) (k : ℕ) (mode : TextMode) (name : Option (List ℕ)) (place c : ℕ) (rest : List ℕ) (switches : List (Option TextMode)) →
    errors_after rows (suc k - 1) mode name (place + 1) rest switches ≡ errors_after rows (suc k) mode name place (c ∷ rest) switches
unfolding errors_after
errors_pred rows k mode name place c rest switches = let e : suc k - 1 ≡ k = omega arith in rw e refl

stop_cases : (b : Begin) → (is_stop b ≡ true) ⊎ (b ≡ begins.Char)
stop_cases begins.Char = inr refl
stop_cases begins.Markup = inl refl
stop_cases begins.EndMark = inl refl
stop_cases begins.Reference = inl refl
stop_cases begins.Section = inl refl

-- where there is a front of text, nothing else begins
front_char : (mode : TextMode) (name : Option (List ℕ)) (c : ℕ) (rest : List ℕ) (d : ℕ) (ds : List ℕ) → front mode Plain name (c ∷ rest) ≡ d ∷ ds → begin_at mode Plain name (c ∷ rest) ≡ begins.Char
front_char mode name c rest d ds e = elim (stop_cases (begin_at mode Plain name (c ∷ rest))) [
  | inl s ↦ (let none = front_stop mode Plain name c rest (begin_at mode Plain name (c ∷ rest)) refl s in cc)
  | inr f ↦ f
]

-- where another piece begins, there is no front
front_nothing : (mode : TextMode) (name : Option (List ℕ)) (place c : ℕ) (rest : List ℕ) → front mode Plain name (c ∷ rest) ≡ [] → front_errors mode Plain name place (c ∷ rest) ≡ []
front_nothing mode name place c rest e = elim (stop_cases (begin_at mode Plain name (c ∷ rest))) [
  | inl s ↦ front_errors_stop mode Plain name place c rest (begin_at mode Plain name (c ∷ rest)) refl s
  | inr f ↦ absurd (let some = front_go mode Plain name c rest f in cc)
]

plain_by : (rows : List Row) (cs : List ℕ) (mode : TextMode) (name : Option (List ℕ)) (place c : ℕ) (rest : List ℕ) (switches : List (Option TextMode)) → front mode Plain name (c ∷ rest) ≡ cs →
    errors_after rows 0 mode name place (c ∷ rest) switches ≡ front_errors mode Plain name place (c ∷ rest) ++ text_errors rows cs mode name place (c ∷ rest) switches
plain_by rows [] mode name place c rest switches e = rw (front_nothing mode name place c rest e) refl
plain_by rows (d ∷ ds) mode name place c rest switches e =
    errors_unroll rows mode name place c rest switches
    ∙ rw (front_char mode name c rest d ds e, e)
    (ap (λ (es : List Fault). front_errors mode Plain name place (c ∷ rest) ++ es)
    (errors_pred rows (length ds) (mode_after (chars_at mode place (d ∷ ds)) switches mode) name place c rest (drop (length (chars_at mode place (d ∷ ds))) switches)))

plain_errors : (rows : List Row) (mode : TextMode) (name : Option (List ℕ)) (place : ℕ) (text : List ℕ) (switches : List (Option TextMode)) →
    errors_after rows 0 mode name place text switches ≡ region_errors rows Plain mode name place text switches
plain_errors rows mode name place [] switches = rw (front_end mode Plain name, front_errors_end mode Plain name place) refl
plain_errors rows mode name place (c ∷ rest) switches = plain_by rows (front mode Plain name (c ∷ rest)) mode name place c rest switches refl

-- from a region on
in_region : (rows : List Row) (region : Region) (mode : TextMode) (name : Option (List ℕ)) (place : ℕ) (text : List ℕ) (switches : List (Option TextMode)) →
    errors_coming rows (Text region) mode name place text switches ≡ region_errors rows region mode name place text switches
in_region rows Plain mode name place text switches = plain_errors rows mode name place text switches
in_region rows Escaped mode name place text switches = refl
in_region rows Double mode name place text switches = refl

errors_on : (rows : List Row) (cs : List ℕ) (mode : TextMode) (name : Option (List ℕ)) (place c : ℕ) (rest : List ℕ) (switch : Option TextMode) (switches : List (Option TextMode)) →
    text_errors rows (c ∷ cs) mode name place (c ∷ rest) (switch ∷ switches) ≡ text_errors rows cs (stays switch mode) name (place + 1) rest switches
unfolding errors_after
errors_on rows cs mode name place c rest switch switches = rw (← chars_turned switch mode (place + 1) cs) refl

-- in text, one code point is one Char, and tells whether it is U+0000
pub errors_text : (rows : List Row) (mode : TextMode) (region after : Region) (name : Option (List ℕ)) (place c : ℕ) (rest : List ℕ) (switch : Option TextMode) (switches : List (Option TextMode)) →
    begin_at mode region name (c ∷ rest) ≡ begins.Char → region_in mode region (c ∷ rest) ≡ after →
    errors_coming rows (Text region) mode name place (c ∷ rest) (switch ∷ switches) ≡ null_errors (Some c) place ++ errors_coming rows (Text after) (stays switch mode) name (place + 1) rest switches
errors_text rows mode region after name place c rest switch switches e r =
    in_region rows region mode name place (c ∷ rest) (switch ∷ switches)
    ∙ rw (front_go mode region name c rest e, front_errors_go mode region name place c rest e, r)
    (append_assoc (null_errors (Some c) place) (front_errors mode after name (place + 1) rest) _
    ∙ ap (λ (es : List Fault). null_errors (Some c) place ++ es)
    (ap (λ (es : List Fault). front_errors mode after name (place + 1) rest ++ es)
    (errors_on rows (front mode after name rest) mode name place c rest switch switches
    ∙ ap (λ (cs : List ℕ). text_errors rows cs (stays switch mode) name (place + 1) rest switches) (front_turned switch mode after name rest))
    ∙ ap (λ (es : List Fault). es ++ text_errors rows (front (stays switch mode) after name rest) (stays switch mode) name (place + 1) rest switches) (front_errors_turned switch mode after name (place + 1) rest)
    ∙ sym (in_region rows after (stays switch mode) name (place + 1) rest switches)))

errors_back : (rows : List Row) (k : ℕ) (mode : TextMode) (name : Option (List ℕ)) (place c : ℕ) (rest : List ℕ) (switches : List (Option TextMode)) → 0 < k →
    errors_after rows (k - 1) mode name (place + 1) rest switches ≡ errors_after rows k mode name place (c ∷ rest) switches
unfolding errors_after
errors_back rows zero mode name place c rest switches h = absurd (omega arith)
errors_back rows (suc j) mode name place c rest switches h = let e : suc j - 1 ≡ j = omega arith in rw e refl

-- another piece than text begins
pub errors_begun : (rows : List Row) (b : Begin) (mode : TextMode) (region : Region) (name : Option (List ℕ)) (place : ℕ) (text : List ℕ) (switches : List (Option TextMode)) (first : Piece) →
    begin_at mode region name text ≡ b → is_stop b ≡ true → begun_piece rows b place text ≡ first → 0 < first.len → 0 < length text →
    errors_coming rows (Text region) mode name place text switches
    ≡ piece_errors rows b place text ++ (inside_errors rows b place text ++ errors_after rows first.len (mode_after first.tokens switches mode) (name_after first.tokens name) place text (drop (length first.tokens) switches))
errors_begun rows b mode region name place [] switches first e s p h k = absurd (omega arith)
errors_begun rows b mode region name place (c ∷ rest) switches first e s p h k =
    let plain = begin_plain mode region name (c ∷ rest) b e s in
    in_region rows region mode name place (c ∷ rest) switches
    ∙ rw (front_stop mode region name c rest b e s, front_errors_stop mode region name place c rest b e s)
    (errors_unroll rows mode name place c rest switches
    ∙ rw (front_stop mode Plain name c rest b plain s, front_errors_stop mode Plain name place c rest b plain s, plain, p)
    (ap (λ (es : List Fault). piece_errors rows b place (c ∷ rest) ++ (inside_errors rows b place (c ∷ rest) ++ es))
    (errors_back rows first.len _ _ place c rest _ h)))

-- past some code points of what was fed
pub errors_past : (rows : List Row) (k j : ℕ) (mode : TextMode) (name : Option (List ℕ)) (place : ℕ) (items more : List ℕ) (switches : List (Option TextMode)) → k ≤ length items →
    errors_after rows (k + j) mode name place (items ++ more) switches ≡ errors_after rows j mode name (place + k) (drop k items ++ more) switches
errors_past rows k j mode name place items more switches h =
    errors_skip rows k j mode name place (items ++ more) switches (omega (arith, length-append items more))
    ∙ rw (drop-append-le k items more h) refl

pub errors_past_all : (rows : List Row) (k : ℕ) (mode : TextMode) (name : Option (List ℕ)) (place : ℕ) (items more : List ℕ) (switches : List (Option TextMode)) → k ≤ length items →
    errors_after rows k mode name place (items ++ more) switches ≡ errors_after rows 0 mode name (place + k) (drop k items ++ more) switches
errors_past_all rows k mode name place items more switches h = rw add-zero at (errors_past rows k 0 mode name place items more switches h)

pub errors_past_one : (rows : List Row) (len : ℕ) (mode : TextMode) (name : Option (List ℕ)) (place : ℕ) (items items' more : List ℕ) (switches : List (Option TextMode)) → items' ≡ drop 1 items → 0 < length items →
    errors_after rows (suc len) mode name place (items ++ more) switches ≡ errors_after rows len mode name (place + 1) (items' ++ more) switches
errors_past_one rows len mode name place items items' more switches i h =
    let m : suc len ≡ 1 + len = omega arith in
    rw (m, i) (errors_past rows 1 len mode name place items more switches h)

-- of what is no text the same is told
pub stop_told : (rows : List Row) (b : Begin) (place : ℕ) (text : List ℕ) → is_stop b ≡ true → begin_told rows b place text ≡ piece_errors rows b place text ++ soon_errors rows b place text
stop_told rows begins.Char place text s = absurd (false≢true s)
stop_told rows begins.Markup place text s = sym (append-nil (piece_errors rows begins.Markup place text))
stop_told rows begins.EndMark place text s = refl
stop_told rows begins.Reference place text s = refl
stop_told rows begins.Section place text s = refl

mark_or_char : (rows : List Row) (b : Bool) (place : ℕ) → begin_told rows (cond b begins.EndMark begins.Char) place [] ≡ []
mark_or_char rows true place = refl
mark_or_char rows false place = refl

-- at the end nothing begins
none_begins : (rows : List Row) (region : Region) (mode : TextMode) (name : Option (List ℕ)) (place : ℕ) → begin_told rows (begin_at mode region name []) place [] ≡ []
none_begins rows region Data name place = refl
none_begins rows region Rcdata name place = mark_or_char rows (is_end_mark name []) place
none_begins rows region Rawtext name place = mark_or_char rows (is_end_mark name []) place
none_begins rows Plain Script name place = mark_or_char rows (is_end_mark name []) place
none_begins rows Escaped Script name place = mark_or_char rows (is_end_mark name []) place
none_begins rows Double Script name place = refl
none_begins rows region Plaintext name place = refl
none_begins rows region Foreign name place = refl

end_by : (region : Region) (place : ℕ) → region_told region place [] ++ [] ≡ region_end_errors region place
end_by Plain place = refl
end_by Escaped place = refl
end_by Double place = refl

-- what the end tells in text
pub told_at_end : (rows : List Row) (region : Region) (mode : TextMode) (name : Option (List ℕ)) (place : ℕ) → told_in rows (Text region) mode name place [] ≡ region_end_errors region place
told_at_end rows region mode name place = rw (none_begins rows region mode name place) (end_by region place)

-- and the errors that are left there
pub errors_at_end : (rows : List Row) (region : Region) (mode : TextMode) (name : Option (List ℕ)) (place : ℕ) (switches : List (Option TextMode)) → errors_coming rows (Text region) mode name place [] switches ≡ region_end_errors region place
errors_at_end rows region mode name place switches =
    in_region rows region mode name place [] switches
    ∙ rw (front_end mode region name, front_errors_end mode region name place, errors_end rows 0 mode name place switches) (append-nil (region_end_errors region place))
