-- A doctype holds no more code points than it has.
use Rattle.std.proofs.Common.{◌≡◌, ℕ, suc, ◌+◌, ◌-◌, ◌<◌, ◌≤◌, List, [], ◌∷◌, ◌++◌, length, map, drop, Option, Some, None, Bool, true, false, ◌||◌, ◌==◌, cond, refl, sym, ◌∙◌, arith}
use Rattle.std.proofs.lemmas.List.{length-map, length-drop}
use Rattle.std.specs.Char.{to_ascii_lowercase}
use Rattle.std.specs.List.{slice_get}
use Rattle.html_tokens.specs.Cost.{optional_len}
use Rattle.html_tokens.specs.Cut.{cut, is, passes, greater_mark, stop_mark, ends_unquoted, null_replaced}
use Rattle.html_tokens.specs.Doctype.{Ids, Doctype, no_ids, with_name, with_public, with_system, closes, longer_doctype, not_space, after_spaces, up_to, bad_rest, after_system, id_mark, id_end, system_end, system_id, is_quote, quoted, after_public, public_end, public_id, wanted, wanted_public, wanted_system, spells_word, public_word, system_word, keyword_at, keyword_len, after_keyword, after_name, name_end, named, name_or_end, doctype_of}
use Rattle.html_tokens.specs.Marks.{is_lowered}
use Rattle.html_tokens.specs.Tag.{name_char}
use Rattle.html_tokens.specs.declared.doctype.Keyword.{Keyword}
use Rattle.html_tokens.specs.declared.doctype.Keyword.TheVariants as keywords
use Rattle.html_tokens.proofs.CostCuts.{cond_both, left, right, there, MarkFits, if_fits, greater_fits, stop_fits, cut_fits}

abbrev pub ids_len : Ids → ℕ
ids_len ids = optional_len ids.name + optional_len ids.public_id + optional_len ids.system_id

-- a doctype holds no more than was held before it and it has, and it stands in the text
pub record DoctypeFits (held : ℕ) (d : Doctype) (n : ℕ) : Type 0 where
  pub holds : optional_len d.ids.name + optional_len d.ids.public_id + optional_len d.ids.system_id ≤ held + d.len
  pub within : d.len ≤ n

more_held : (less more n : ℕ) (d : Doctype) → less ≤ more → DoctypeFits less d n → DoctypeFits more d n
more_held less more n d h f = let a = f.holds in record { holds = omega arith; within = f.within }

closes_fits : (ids : Ids) (force_quirks : Bool) (len held n : ℕ) → ids_len ids ≤ held → len ≤ n → DoctypeFits held (closes ids force_quirks len) n
closes_fits ids force_quirks len held n h w = record { holds = omega arith; within = w }

longer_fits : (k held : ℕ) (d : Doctype) (text : List ℕ) → k ≤ length text → DoctypeFits held d (length (drop k text)) → DoctypeFits held (longer_doctype k d) (length text)
longer_fits k held d text h f =
    let a = f.holds in
    let b : d.len ≤ length text - k = rw (← length-drop k text) f.within in
    record { holds = omega arith; within = omega arith }

-- past one code point
past_fits : (held c : ℕ) (d : Doctype) (rest : List ℕ) → DoctypeFits held d (length rest) → DoctypeFits held (longer_doctype 1 d) (suc (length rest))
past_fits held c d rest f = let a = f.holds in let b = f.within in record { holds = omega arith; within = omega arith }

spaces_fit : (held : ℕ) (next : List ℕ → Doctype) → ((text : List ℕ) → DoctypeFits held (next text) (length text)) → (text : List ℕ) → DoctypeFits held (after_spaces next text) (length text)
spaces_fit held next f text =
    let n = (cut (stop_mark not_space) text).len in
    longer_fits n held (next (drop n text)) text (cut_fits (stop_mark not_space) (stop_fits not_space) text).1 (f (drop n text))

up_to_fits : (code : ℕ → ℕ) (mark : List ℕ → Option ℕ) (held : ℕ) (next : List ℕ → List ℕ → Doctype) → MarkFits mark →
    ((front text : List ℕ) → DoctypeFits (held + length front) (next front text) (length text)) → (text : List ℕ) → DoctypeFits held (up_to code mark next [] text) (length text)
up_to_fits code mark held next m f text =
    let found = cut mark text in
    let k = cut_fits mark m text in
    let b = k.0 in let w = k.1 in
    let front = [] ++ map code found.before in
    let l : length front ≡ length found.before = length-map found.before code in
    let g = f front (drop found.len text) in
    let h = g.holds in
    let i : (next front (drop found.len text)).len ≤ length text - found.len = rw (← length-drop found.len text) g.within in
    record { holds = omega arith; within = omega arith }

bad_fits : (ids : Ids) (force_quirks : Bool) (held : ℕ) (text : List ℕ) → ids_len ids ≤ held → DoctypeFits held (bad_rest ids force_quirks text) (length text)
bad_fits ids force_quirks held text h = closes_fits ids force_quirks (cut greater_mark text).len held (length text) h (cut_fits greater_mark greater_fits text).1

after_system_fits : (ids : Ids) (held : ℕ) → ids_len ids ≤ held → (text : List ℕ) → DoctypeFits held (after_system ids text) (length text)
after_system_fits ids held h [] = closes_fits ids true 0 held 0 h (omega arith)
after_system_fits ids held h (c ∷ rest) =
    cond_both (λ (d : Doctype). DoctypeFits held d (suc (length rest))) (c == 62) (closes ids false 1) (bad_rest ids false (c ∷ rest))
    (λ e. closes_fits ids false 1 held (suc (length rest)) h (omega arith)) (λ e. bad_fits ids false held (c ∷ rest) h)

id_mark_fits : (quote : ℕ) → MarkFits (id_mark quote)
id_mark_fits quote text = if_fits 0 (length text) (is quote (slice_get text 0) || is 62 (slice_get text 0)) None (λ h. omega arith) tt

id_end_fits : (quote : ℕ) (ids : Ids) (next : List ℕ → Doctype) (held : ℕ) → ids_len ids ≤ held → ((text : List ℕ) → DoctypeFits held (next text) (length text)) → (text : List ℕ) → DoctypeFits held (id_end quote ids next text) (length text)
id_end_fits quote ids next held h f [] = closes_fits ids true 0 held 0 h (omega arith)
id_end_fits quote ids next held h f (c ∷ rest) =
    cond_both (λ (d : Doctype). DoctypeFits held d (suc (length rest))) (c == quote) (longer_doctype 1 (next rest)) (closes ids true 1)
    (λ e. past_fits held c (next rest) rest (f rest)) (λ e. closes_fits ids true 1 held (suc (length rest)) h (omega arith))

system_end_fits : (ids : Ids) (quote : ℕ) (id text : List ℕ) → DoctypeFits (ids_len ids + length id) (system_end ids quote id text) (length text)
system_end_fits ids quote id text =
    let more = with_system id ids in
    let held = ids_len ids + length id in
    id_end_fits quote more (after_spaces (after_system more)) held (omega arith) (spaces_fit held (after_system more) (after_system_fits more held (omega arith))) text

system_fits : (ids : Ids) (quote : ℕ) (text : List ℕ) → DoctypeFits (ids_len ids) (system_id ids quote [] text) (length text)
system_fits ids quote text = up_to_fits null_replaced (id_mark quote) (ids_len ids) (system_end ids quote) (id_mark_fits quote) (system_end_fits ids quote) text

quoted_fits : (id : ℕ → List ℕ → Doctype) (other : Doctype) (c held : ℕ) (rest : List ℕ) → ((quote : ℕ) (text : List ℕ) → DoctypeFits held (id quote text) (length text)) → DoctypeFits held other (suc (length rest)) →
    DoctypeFits held (quoted id other c rest) (suc (length rest))
quoted_fits id other c held rest f g =
    cond_both (λ (d : Doctype). DoctypeFits held d (suc (length rest))) (is_quote c) (longer_doctype 1 (id c rest)) other (λ e. past_fits held c (id c rest) rest (f c rest)) (λ e. g)

after_public_fits : (ids : Ids) (held : ℕ) → ids_len ids ≤ held → (text : List ℕ) → DoctypeFits held (after_public ids text) (length text)
after_public_fits ids held h [] = closes_fits ids true 0 held 0 h (omega arith)
after_public_fits ids held h (c ∷ rest) =
    let id : ℕ → List ℕ → Doctype = λ quote text. system_id ids quote [] text in
    cond_both (λ (d : Doctype). DoctypeFits held d (suc (length rest))) (c == 62) (closes ids false 1) (quoted id (bad_rest ids true (c ∷ rest)) c rest)
    (λ e. closes_fits ids false 1 held (suc (length rest)) h (omega arith))
    (λ e. quoted_fits id (bad_rest ids true (c ∷ rest)) c held rest (λ quote text. more_held (ids_len ids) held (length text) (system_id ids quote [] text) h (system_fits ids quote text)) (bad_fits ids true held (c ∷ rest) h))

public_end_fits : (ids : Ids) (quote : ℕ) (id text : List ℕ) → DoctypeFits (ids_len ids + length id) (public_end ids quote id text) (length text)
public_end_fits ids quote id text =
    let more = with_public id ids in
    let held = ids_len ids + length id in
    id_end_fits quote more (after_spaces (after_public more)) held (omega arith) (spaces_fit held (after_public more) (after_public_fits more held (omega arith))) text

public_fits : (ids : Ids) (quote : ℕ) (text : List ℕ) → DoctypeFits (ids_len ids) (public_id ids quote [] text) (length text)
public_fits ids quote text = up_to_fits null_replaced (id_mark quote) (ids_len ids) (public_end ids quote) (id_mark_fits quote) (public_end_fits ids quote) text

wanted_fits : (ids : Ids) (id : ℕ → List ℕ → Doctype) (held : ℕ) → ids_len ids ≤ held → ((quote : ℕ) (text : List ℕ) → DoctypeFits held (id quote text) (length text)) → (text : List ℕ) → DoctypeFits held (wanted ids id text) (length text)
wanted_fits ids id held h f [] = closes_fits ids true 0 held 0 h (omega arith)
wanted_fits ids id held h f (c ∷ rest) =
    cond_both (λ (d : Doctype). DoctypeFits held d (suc (length rest))) (c == 62) (closes ids true 1) (quoted id (bad_rest ids true (c ∷ rest)) c rest)
    (λ e. closes_fits ids true 1 held (suc (length rest)) h (omega arith))
    (λ e. quoted_fits id (bad_rest ids true (c ∷ rest)) c held rest f (bad_fits ids true held (c ∷ rest) h))

lowered_passes : (c : ℕ) (o : Option ℕ) → is_lowered c o ≡ passes (λ d. to_ascii_lowercase d == c) o
lowered_passes c None = refl
lowered_passes c (Some d) = refl

-- a word that is spelled is there
pub spelled_fits : (word : List ℕ) (at : ℕ) (text : List ℕ) → 0 < length word → spells_word word at text ≡ true → at + length word ≤ length text
spelled_fits [] at text s h = absurd (omega arith)
spelled_fits (n ∷ []) at text s h =
    let i = there (λ d. to_ascii_lowercase d == n) text at (sym (lowered_passes n (slice_get text at)) ∙ left (is_lowered n (slice_get text at)) true h) in omega arith
spelled_fits (n ∷ m ∷ ns) at text s h =
    let i = spelled_fits (m ∷ ns) (at + 1) text (omega arith) (right (is_lowered n (slice_get text at)) (spells_word (m ∷ ns) (at + 1) text) h) in omega arith

keyword_fits : (text : List ℕ) → keyword_len (keyword_at text) ≤ length text
keyword_fits text =
    let P : Keyword → Type 0 = λ k. keyword_len k ≤ length text in
    let other = cond (spells_word system_word 0 text) keywords.System keywords.Other in
    cond_both P (spells_word public_word 0 text) keywords.Public other
    (λ e. let i = spelled_fits public_word 0 text (omega arith) e in omega arith)
    (λ e. cond_both P (spells_word system_word 0 text) keywords.System keywords.Other (λ f. let i = spelled_fits system_word 0 text (omega arith) f in omega arith) (λ f. omega arith))

after_keyword_fits : (ids : Ids) (k : Keyword) (text : List ℕ) → keyword_len k ≤ length text → DoctypeFits (ids_len ids) (after_keyword ids k text) (length text)
after_keyword_fits ids keywords.Public text h =
    longer_fits 6 (ids_len ids) (after_spaces (wanted_public ids) (drop 6 text)) text h (spaces_fit (ids_len ids) (wanted_public ids) (wanted_fits ids (λ quote rest. public_id ids quote [] rest) (ids_len ids) (omega arith) (public_fits ids)) (drop 6 text))
after_keyword_fits ids keywords.System text h =
    longer_fits 6 (ids_len ids) (after_spaces (wanted_system ids) (drop 6 text)) text h (spaces_fit (ids_len ids) (wanted_system ids) (wanted_fits ids (λ quote rest. system_id ids quote [] rest) (ids_len ids) (omega arith) (system_fits ids)) (drop 6 text))
after_keyword_fits ids keywords.Other text h = bad_fits ids true (ids_len ids) text (omega arith)

after_name_fits : (ids : Ids) (text : List ℕ) → DoctypeFits (ids_len ids) (after_name ids text) (length text)
after_name_fits ids [] = closes_fits ids true 0 (ids_len ids) 0 (omega arith) (omega arith)
after_name_fits ids (c ∷ rest) =
    cond_both (λ (d : Doctype). DoctypeFits (ids_len ids) d (suc (length rest))) (c == 62) (closes ids false 1) (after_keyword ids (keyword_at (c ∷ rest)) (c ∷ rest))
    (λ e. closes_fits ids false 1 (ids_len ids) (suc (length rest)) (omega arith) (omega arith))
    (λ e. after_keyword_fits ids (keyword_at (c ∷ rest)) (c ∷ rest) (keyword_fits (c ∷ rest)))

name_end_fits : (ids : Ids) (name text : List ℕ) → DoctypeFits (ids_len ids + length name) (name_end ids name text) (length text)
name_end_fits ids name text =
    let more = with_name name ids in
    let held = ids_len ids + length name in
    spaces_fit held (after_name more) (λ t. more_held (ids_len more) held (length t) (after_name more t) (omega arith) (after_name_fits more t)) text

named_fits : (ids : Ids) (text : List ℕ) → DoctypeFits (ids_len ids) (named ids [] text) (length text)
named_fits ids text = up_to_fits name_char (stop_mark ends_unquoted) (ids_len ids) (name_end ids) (stop_fits ends_unquoted) (name_end_fits ids) text

name_or_end_fits : (ids : Ids) (text : List ℕ) → DoctypeFits (ids_len ids) (name_or_end ids text) (length text)
name_or_end_fits ids [] = closes_fits ids true 0 (ids_len ids) 0 (omega arith) (omega arith)
name_or_end_fits ids (c ∷ rest) =
    cond_both (λ (d : Doctype). DoctypeFits (ids_len ids) d (suc (length rest))) (c == 62) (closes ids true 1) (named ids [] (c ∷ rest))
    (λ e. closes_fits ids true 1 (ids_len ids) (suc (length rest)) (omega arith) (omega arith)) (λ e. named_fits ids (c ∷ rest))

pub doctype_fits : (text : List ℕ) → DoctypeFits 0 (doctype_of text) (length text)
doctype_fits text = spaces_fit 0 (name_or_end no_ids) (name_or_end_fits no_ids) text
