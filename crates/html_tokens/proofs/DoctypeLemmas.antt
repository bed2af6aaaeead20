-- What the steps in a doctype give.
use Rattle.std.proofs.Common.{◌≡◌, ℕ, suc, ◌+◌, ◌<◌, ◌≤◌, List, [], ◌∷◌, ◌++◌, length, map, drop, Option, Some, None, Bool, true, false, cond, ◌==◌, ◌||◌, refl, ap, sym, ◌∙◌, arith, append_assoc, append-nil, zero-add}
use Rattle.std.specs.List.{slice_get}
use Rattle.std.proofs.lemmas.Bool.Decides.{nat_tests}
use Rattle.std.proofs.lemmas.Bool.{ne_eqb}
use Rattle.html_tokens.specs.Errors.{errors_after}
use Rattle.html_tokens.specs.Inside.{MovesDoctype, PassesErrors, doctype_errors, doctype_told, draft_errors}
use Rattle.html_tokens.specs.declared.faults.Fault.{Fault}
use Rattle.html_tokens.proofs.ErrorLemmas.{errors_past, errors_past_all}
use Rattle.html_tokens.proofs.StepLemmas.{errors_opened}
use Rattle.html_tokens.specs.Cut.{Cut, cut, is_space, ends_unquoted, stop_mark, greater_mark, null_replaced}
use Rattle.html_tokens.specs.Tag.{name_char}
use Rattle.html_tokens.specs.Doctype.{Ids, Doctype, closes, longer_doctype, not_space, after_spaces, up_to, bad_rest, id_mark, id_end, is_quote, ids_of, draft_doctype, part_doctype, with_name, with_public, with_system, after_name, after_public, after_system, name_or_end, name_end, public_end, system_end, ReadsPart, EndsPart}
use Rattle.html_tokens.specs.declared.doctype.DoctypeDraft.{DoctypeDraft}
use Rattle.html_tokens.specs.declared.doctype.DoctypePart.{DoctypePart}
use Rattle.html_tokens.specs.declared.doctype.DoctypePart.TheVariants as parts
use Rattle.html_tokens.proofs.Cuts.{cut_closed, cut_longer, cut_none, empty_rest, first_of, not_empty}
use Rattle.std.proofs.Common.{length-drop}
use Rattle.std.proofs.lemmas.List.{drop-append-le}
use Rattle.html_tokens.specs.Input.{Decided, MayFollow}
use Rattle.html_tokens.specs.Doctype.{ReadsDoctype, PassesIn, keyword_at, after_keyword, wanted_public, wanted_system, new_doctype, doctype_of}
use Rattle.html_tokens.specs.declared.doctype.Keyword.{Keyword}
use Rattle.html_tokens.specs.declared.doctype.Keyword.TheVariants as keywords
use Rattle.html_tokens.specs.declared.doctype.DoctypeReading.TheVariants.{Closed, Wait as Waits}
use Rattle.html_tokens.specs.declared.input.Input.{Input}
use Rattle.html_tokens.specs.declared.token.Token.{Token}
use Rattle.html_tokens.specs.declared.token.Opener.TheVariants as opens
use Rattle.html_tokens.specs.declared.token.Begin.TheVariants as begins
use Rattle.html_tokens.specs.declared.token.Region.{Region}
use Rattle.html_tokens.specs.declared.token.TextMode.{TextMode}
use Rattle.html_tokens.specs.declared.machine.Machine.{Machine}
use Rattle.html_tokens.specs.declared.machine.Progress.{Progress}
use Rattle.html_tokens.specs.declared.machine.Progress.TheVariants.{More, Wait}
use Rattle.html_tokens.specs.declared.machine.State.TheVariants.{Text}
use Rattle.html_tokens.specs.declared.machine.State.TheVariants.{Doctype as Doctype'}
use Rattle.html_tokens.specs.Marks.{begin_at}
use Rattle.html_tokens.specs.Tokens.{tokens_after, token, doctype_kind, doctype_piece, opener, stays, switch_of}
use Rattle.html_tokens.specs.Fed.{coming, Passes, Steps, BeginsDoctype, EndsDoctype}
use Rattle.html_tokens.proofs.TokensLemmas.{tokens_begun, tokens_past}
use Rattle.html_tokens.proofs.StepLemmas.{going_on, passes_count, passes_less}
use Rattle.html_charref.specs.declared.table.Row.{Row}
use Rattle.std.proofs.Common.{add-zero}

pub differs : (a b : ℕ) → ¬ (a ≡ b) → (a == b) ≡ false
differs a b h = ne_eqb a b h

longer_zero : (d : Doctype) → longer_doctype 0 d ≡ d
longer_zero d = rw zero-add refl

longer_suc : (n : ℕ) (d : Doctype) → longer_doctype (suc n) d ≡ longer_doctype 1 (longer_doctype n d)
longer_suc n d = let e : suc n + d.len ≡ 1 + (n + d.len) = omega arith in rw e refl

glue : (front : List ℕ) (c : ℕ) (rest : List ℕ) → front ++ c ∷ rest ≡ (front ++ c ∷ []) ++ rest
glue front c rest = rw append_assoc refl

some_text : (c : ℕ) (rest : List ℕ) → 0 < length (c ∷ rest)
some_text c rest = omega arith

spaces_more : (next : List ℕ → Doctype) (c : ℕ) (rest : List ℕ) → is_space c ≡ true → after_spaces next (c ∷ rest) ≡ longer_doctype 1 (after_spaces next rest)
spaces_more next c rest e =
    ap (λ (n : Cut). longer_doctype n.len (next (drop n.len (c ∷ rest)))) (cut_longer (stop_mark not_space) c rest (rw e refl))
    ∙ longer_suc (cut (stop_mark not_space) rest).len (next (drop (cut (stop_mark not_space) rest).len rest))

spaces_done : (next : List ℕ → Doctype) (c : ℕ) (rest : List ℕ) → is_space c ≡ false → after_spaces next (c ∷ rest) ≡ next (c ∷ rest)
spaces_done next c rest e =
    ap (λ (n : Cut). longer_doctype n.len (next (drop n.len (c ∷ rest)))) (cut_closed (stop_mark not_space) (c ∷ rest) 0 (rw e refl) (some_text c rest))
    ∙ longer_zero (next (c ∷ rest))

spaces_end : (next : List ℕ → Doctype) → after_spaces next [] ≡ next []
spaces_end next = ap (λ (n : Cut). longer_doctype n.len (next (drop n.len []))) (cut_none (stop_mark not_space)) ∙ longer_zero (next [])

abbrev up_to_by : (ℕ → ℕ) → (List ℕ → List ℕ → Doctype) → List ℕ → List ℕ → Cut → Doctype
up_to_by code next front text found = longer_doctype found.len (next (front ++ map code found.before) (drop found.len text))

text_more : (code : ℕ → ℕ) (mark : List ℕ → Option ℕ) (next : List ℕ → List ℕ → Doctype) (front : List ℕ) (c : ℕ) (rest : List ℕ) → mark (c ∷ rest) ≡ None →
    up_to code mark next front (c ∷ rest) ≡ longer_doctype 1 (up_to code mark next (front ++ code c ∷ []) rest)
text_more code mark next front c rest e =
    let k = cut mark rest in
    ap (up_to_by code next front (c ∷ rest)) (cut_longer mark c rest e)
    ∙ longer_suc k.len (next (front ++ code c ∷ map code k.before) (drop k.len rest))
    ∙ ap (λ (found : List ℕ). longer_doctype 1 (longer_doctype k.len (next found (drop k.len rest)))) (glue front (code c) (map code k.before))

text_stop : (code : ℕ → ℕ) (mark : List ℕ → Option ℕ) (next : List ℕ → List ℕ → Doctype) (front : List ℕ) (c : ℕ) (rest : List ℕ) → mark (c ∷ rest) ≡ Some 0 →
    up_to code mark next front (c ∷ rest) ≡ next front (c ∷ rest)
text_stop code mark next front c rest e =
    ap (up_to_by code next front (c ∷ rest)) (cut_closed mark (c ∷ rest) 0 e (some_text c rest))
    ∙ longer_zero (next (front ++ []) (c ∷ rest))
    ∙ ap (λ (found : List ℕ). next found (c ∷ rest)) (append-nil front)

text_none : (code : ℕ → ℕ) (mark : List ℕ → Option ℕ) (next : List ℕ → List ℕ → Doctype) (front : List ℕ) → up_to code mark next front [] ≡ next front []
text_none code mark next front =
    ap (up_to_by code next front []) (cut_none mark)
    ∙ longer_zero (next (front ++ []) [])
    ∙ ap (λ (found : List ℕ). next found []) (append-nil front)

bad_more : (ids : Ids) (force_quirks : Bool) (c : ℕ) (rest : List ℕ) → ¬ (c ≡ 62) → bad_rest ids force_quirks (c ∷ rest) ≡ longer_doctype 1 (bad_rest ids force_quirks rest)
bad_more ids force_quirks c rest h =
    let e : suc (cut greater_mark rest).len ≡ 1 + (cut greater_mark rest).len = omega arith in
    ap (λ (n : Cut). closes ids force_quirks n.len) (cut_longer greater_mark c rest (rw (differs c 62 h) refl)) ∙ ap (closes ids force_quirks) e

bad_done : (ids : Ids) (force_quirks : Bool) (rest : List ℕ) → bad_rest ids force_quirks (62 ∷ rest) ≡ closes ids force_quirks 1
bad_done ids force_quirks rest = ap (λ (n : Cut). closes ids force_quirks n.len) (cut_closed greater_mark (62 ∷ rest) 1 refl (some_text 62 rest))

bad_none : (ids : Ids) (force_quirks : Bool) → bad_rest ids force_quirks [] ≡ closes ids force_quirks 0
bad_none ids force_quirks = ap (λ (n : Cut). closes ids force_quirks n.len) (cut_none greater_mark)

-- the part is this one
at_part : (d : DoctypeDraft) (part : DoctypePart) (text : List ℕ) → d.part ≡ part → draft_doctype d text ≡ part_doctype part (ids_of d) d.text text
at_part d part text e = ap (λ (p : DoctypePart). part_doctype p (ids_of d) d.text text) e

-- what a part comes to after white space
abbrev pub Follows : DoctypeDraft → DoctypePart → (List ℕ → Doctype) → Type 0
Follows d part next = (text : List ℕ) → part_doctype part (ids_of d) d.text text ≡ after_spaces next text

-- white space is passed
pub reads_space : (d : DoctypeDraft) (part : DoctypePart) (next : List ℕ → Doctype) (c : ℕ) → d.part ≡ part → Follows d part next → is_space c ≡ true → ReadsPart d c None d
reads_space d part next c e f s =
    ((λ rest. at_part d part (c ∷ rest) e ∙ f (c ∷ rest) ∙ spaces_more next c rest s ∙ ap (longer_doctype 1) (sym (at_part d part rest e ∙ f rest))), refl)

-- the doctype closes after white space
pub reads_close : (d : DoctypeDraft) (part : DoctypePart) (next : List ℕ → Doctype) (force_quirks : Bool) (c : ℕ) → d.part ≡ part → Follows d part next → c ≡ 62 →
    ((rest : List ℕ) → next (62 ∷ rest) ≡ closes (ids_of d) force_quirks 1) → ReadsPart d c (Some force_quirks) d
reads_close d part next force_quirks c e f g h =
    ((λ rest. rw g (at_part d part (62 ∷ rest) e ∙ f (62 ∷ rest) ∙ spaces_done next 62 rest refl ∙ h rest)), refl)

-- where the input ends after white space
pub reads_end : (d : DoctypeDraft) (part : DoctypePart) (next : List ℕ → Doctype) → d.part ≡ part → Follows d part next → next [] ≡ closes (ids_of d) true 0 → EndsPart d true d
reads_end d part next e f h = (at_part d part [] e ∙ f [] ∙ spaces_end next ∙ h, refl)

begun : (b : Bool) (d : DoctypeDraft) (id : DoctypePart) (c : ℕ) (rest : List ℕ) → ¬ (c ≡ 62) →
    cond b (longer_doctype 1 (part_doctype id (ids_of d) [] rest)) (bad_rest (ids_of d) true (c ∷ rest))
    ≡ longer_doctype 1 (part_doctype (cond b id (parts.BadRest true)) (ids_of d) [] rest)
begun true d id c rest h = refl
begun false d id c rest h = bad_more (ids_of d) true c rest h

-- an id begins, or a bad rest
pub reads_id : (d new : DoctypeDraft) (part id : DoctypePart) (next : List ℕ → Doctype) (c : ℕ) → d.part ≡ part → Follows d part next → is_space c ≡ false → ¬ (c ≡ 62) →
    ((rest : List ℕ) → next (c ∷ rest) ≡ cond (is_quote c) (longer_doctype 1 (part_doctype id (ids_of d) [] rest)) (bad_rest (ids_of d) true (c ∷ rest))) →
    new ≡ record d { text = []; part = cond (is_quote c) id (parts.BadRest true) } → ReadsPart d c None new
reads_id d new part id next c e f s g h n =
    rw n ((λ rest. at_part d part (c ∷ rest) e ∙ f (c ∷ rest) ∙ spaces_done next c rest s ∙ h rest ∙ begun (is_quote c) d id c rest g), refl)

-- a bad rest begins after the system id
pub reads_bad : (d : DoctypeDraft) (c : ℕ) → d.part ≡ parts.AfterSystem → is_space c ≡ false → ¬ (c ≡ 62) → ReadsPart d c None (record d { part = parts.BadRest false })
reads_bad d c e s h =
    ((λ rest. at_part d parts.AfterSystem (c ∷ rest) e ∙ spaces_done (after_system (ids_of d)) c rest s ∙ rw (differs c 62 h) (bad_more (ids_of d) false c rest h)), refl)

-- a bad rest
pub rest_more : (d : DoctypeDraft) (force_quirks : Bool) (c : ℕ) → d.part ≡ parts.BadRest force_quirks → ¬ (c ≡ 62) → ReadsPart d c None d
rest_more d force_quirks c e h =
    ((λ rest. at_part d (parts.BadRest force_quirks) (c ∷ rest) e ∙ bad_more (ids_of d) force_quirks c rest h ∙ ap (longer_doctype 1) (sym (at_part d (parts.BadRest force_quirks) rest e))), refl)

pub rest_closes : (d : DoctypeDraft) (force_quirks : Bool) (c : ℕ) → d.part ≡ parts.BadRest force_quirks → c ≡ 62 → ReadsPart d c (Some force_quirks) d
rest_closes d force_quirks c e g = ((λ rest. rw g (at_part d (parts.BadRest force_quirks) (62 ∷ rest) e ∙ bad_done (ids_of d) force_quirks rest)), refl)

pub rest_ends : (d : DoctypeDraft) (force_quirks : Bool) → d.part ≡ parts.BadRest force_quirks → EndsPart d force_quirks d
rest_ends d force_quirks e = (at_part d (parts.BadRest force_quirks) [] e ∙ bad_none (ids_of d) force_quirks, refl)

goes_on : (c : ℕ) (rest : List ℕ) → is_space c ≡ false → ¬ (c ≡ 62) → stop_mark ends_unquoted (c ∷ rest) ≡ None
goes_on c rest s h = rw (s, differs c 62 h) refl

-- a name begins
pub name_begins : (d : DoctypeDraft) (c : ℕ) (text : List ℕ) → d.part ≡ parts.BeforeName → is_space c ≡ false → ¬ (c ≡ 62) → text ≡ name_char c ∷ [] →
    ReadsPart d c None (record d { text = text; part = parts.Name })
name_begins d c text e s h t =
    rw t ((λ rest. at_part d parts.BeforeName (c ∷ rest) e ∙ spaces_done (name_or_end (ids_of d)) c rest s ∙ rw (differs c 62 h) (text_more name_char (stop_mark ends_unquoted) (name_end (ids_of d)) [] c rest (goes_on c rest s h))), refl)

-- a name goes on
pub name_more : (d : DoctypeDraft) (c : ℕ) (text : List ℕ) → d.part ≡ parts.Name → is_space c ≡ false → ¬ (c ≡ 62) → text ≡ d.text ++ name_char c ∷ [] →
    ReadsPart d c None (record d { text = text })
name_more d c text e s h t =
    rw t (
      (λ rest. at_part d parts.Name (c ∷ rest) e ∙ text_more name_char (stop_mark ends_unquoted) (name_end (ids_of d)) d.text c rest (goes_on c rest s h)
          ∙ ap (longer_doctype 1) (sym (ap (λ (p : DoctypePart). part_doctype p (ids_of d) (d.text ++ name_char c ∷ []) rest) e))),
      refl,
    )

-- a name is whole
pub name_ends : (d : DoctypeDraft) (c : ℕ) (rest : List ℕ) → d.part ≡ parts.Name → is_space c ≡ true → draft_doctype d (c ∷ rest) ≡ longer_doctype 1 (after_spaces (after_name (with_name d.text (ids_of d))) rest)
name_ends d c rest e s =
    at_part d parts.Name (c ∷ rest) e ∙ text_stop name_char (stop_mark ends_unquoted) (name_end (ids_of d)) d.text c rest (rw s refl) ∙ spaces_more (after_name (with_name d.text (ids_of d))) c rest s

pub name_closes : (d : DoctypeDraft) (c : ℕ) (rest : List ℕ) → d.part ≡ parts.Name → c ≡ 62 → draft_doctype d (c ∷ rest) ≡ closes (with_name d.text (ids_of d)) false 1
name_closes d c rest e g =
    rw g (at_part d parts.Name (62 ∷ rest) e ∙ text_stop name_char (stop_mark ends_unquoted) (name_end (ids_of d)) d.text 62 rest refl ∙ spaces_done (after_name (with_name d.text (ids_of d))) 62 rest refl)

pub name_none : (d : DoctypeDraft) → d.part ≡ parts.Name → draft_doctype d [] ≡ closes (with_name d.text (ids_of d)) true 0
name_none d e = at_part d parts.Name [] e ∙ text_none name_char (stop_mark ends_unquoted) (name_end (ids_of d)) d.text ∙ spaces_end (after_name (with_name d.text (ids_of d)))

inside : (quote c : ℕ) (rest : List ℕ) → ¬ (c ≡ quote) → ¬ (c ≡ 62) → id_mark quote (c ∷ rest) ≡ None
inside quote c rest g h = rw (differs c quote g, differs c 62 h) refl

same : (c : ℕ) → (c == c) ≡ true
same c = grind (arith, nat_tests)

at_quote : (quote : ℕ) (rest : List ℕ) → id_mark quote (quote ∷ rest) ≡ Some 0
at_quote quote rest = rw (same quote) refl

at_greater : (b : Bool) → (b || true) ≡ true
at_greater true = refl
at_greater false = refl

id_closes : (quote : ℕ) (ids : Ids) (next : List ℕ → Doctype) (rest : List ℕ) → ¬ (62 ≡ quote) → id_end quote ids next (62 ∷ rest) ≡ closes ids true 1
id_closes quote ids next rest h = rw (differs 62 quote h) refl

id_ends : (quote : ℕ) (ids : Ids) (next : List ℕ → Doctype) (rest : List ℕ) → id_end quote ids next (quote ∷ rest) ≡ longer_doctype 1 (next rest)
id_ends quote ids next rest = rw (same quote) refl

-- a public id goes on, ends at its quote, is cut off by a `>`, or by the end
pub public_more : (d : DoctypeDraft) (quote c : ℕ) (text : List ℕ) → d.part ≡ parts.Public quote → ¬ (c ≡ quote) → ¬ (c ≡ 62) → text ≡ d.text ++ null_replaced c ∷ [] →
    ReadsPart d c None (record d { text = text })
public_more d quote c text e g h t =
    rw t (
      (λ rest. at_part d (parts.Public quote) (c ∷ rest) e ∙ text_more null_replaced (id_mark quote) (public_end (ids_of d) quote) d.text c rest (inside quote c rest g h)
          ∙ ap (longer_doctype 1) (sym (ap (λ (p : DoctypePart). part_doctype p (ids_of d) (d.text ++ null_replaced c ∷ []) rest) e))),
      refl,
    )

pub public_ends : (d : DoctypeDraft) (quote c : ℕ) (rest : List ℕ) → d.part ≡ parts.Public quote → c ≡ quote → draft_doctype d (c ∷ rest) ≡ longer_doctype 1 (after_spaces (after_public (with_public d.text (ids_of d))) rest)
public_ends d quote c rest e g =
    rw g (at_part d (parts.Public quote) (quote ∷ rest) e ∙ text_stop null_replaced (id_mark quote) (public_end (ids_of d) quote) d.text quote rest (at_quote quote rest)
    ∙ id_ends quote (with_public d.text (ids_of d)) (after_spaces (after_public (with_public d.text (ids_of d)))) rest)

pub public_closes : (d : DoctypeDraft) (quote c : ℕ) (rest : List ℕ) → d.part ≡ parts.Public quote → ¬ (c ≡ quote) → c ≡ 62 → draft_doctype d (c ∷ rest) ≡ closes (with_public d.text (ids_of d)) true 1
public_closes d quote c rest e h g =
    let h' = rw g at h in
    rw g (at_part d (parts.Public quote) (62 ∷ rest) e ∙ text_stop null_replaced (id_mark quote) (public_end (ids_of d) quote) d.text 62 rest (rw (differs 62 quote h') refl)
    ∙ id_closes quote (with_public d.text (ids_of d)) (after_spaces (after_public (with_public d.text (ids_of d)))) rest h')

pub public_none : (d : DoctypeDraft) (quote : ℕ) → d.part ≡ parts.Public quote → draft_doctype d [] ≡ closes (with_public d.text (ids_of d)) true 0
public_none d quote e = at_part d (parts.Public quote) [] e ∙ text_none null_replaced (id_mark quote) (public_end (ids_of d) quote) d.text

-- the same of a system id
pub system_more : (d : DoctypeDraft) (quote c : ℕ) (text : List ℕ) → d.part ≡ parts.System quote → ¬ (c ≡ quote) → ¬ (c ≡ 62) → text ≡ d.text ++ null_replaced c ∷ [] →
    ReadsPart d c None (record d { text = text })
system_more d quote c text e g h t =
    rw t (
      (λ rest. at_part d (parts.System quote) (c ∷ rest) e ∙ text_more null_replaced (id_mark quote) (system_end (ids_of d) quote) d.text c rest (inside quote c rest g h)
          ∙ ap (longer_doctype 1) (sym (ap (λ (p : DoctypePart). part_doctype p (ids_of d) (d.text ++ null_replaced c ∷ []) rest) e))),
      refl,
    )

pub system_ends : (d : DoctypeDraft) (quote c : ℕ) (rest : List ℕ) → d.part ≡ parts.System quote → c ≡ quote → draft_doctype d (c ∷ rest) ≡ longer_doctype 1 (after_spaces (after_system (with_system d.text (ids_of d))) rest)
system_ends d quote c rest e g =
    rw g (at_part d (parts.System quote) (quote ∷ rest) e ∙ text_stop null_replaced (id_mark quote) (system_end (ids_of d) quote) d.text quote rest (at_quote quote rest)
    ∙ id_ends quote (with_system d.text (ids_of d)) (after_spaces (after_system (with_system d.text (ids_of d)))) rest)

pub system_closes : (d : DoctypeDraft) (quote c : ℕ) (rest : List ℕ) → d.part ≡ parts.System quote → ¬ (c ≡ quote) → c ≡ 62 → draft_doctype d (c ∷ rest) ≡ closes (with_system d.text (ids_of d)) true 1
system_closes d quote c rest e h g =
    let h' = rw g at h in
    rw g (at_part d (parts.System quote) (62 ∷ rest) e ∙ text_stop null_replaced (id_mark quote) (system_end (ids_of d) quote) d.text 62 rest (rw (differs 62 quote h') refl)
    ∙ id_closes quote (with_system d.text (ids_of d)) (after_spaces (after_system (with_system d.text (ids_of d)))) rest h')

pub system_none : (d : DoctypeDraft) (quote : ℕ) → d.part ≡ parts.System quote → draft_doctype d [] ≡ closes (with_system d.text (ids_of d)) true 0
system_none d quote e = at_part d (parts.System quote) [] e ∙ text_none null_replaced (id_mark quote) (system_end (ids_of d) quote) d.text

-- the input ends in the doctype
pub read_ended : (d new : DoctypeDraft) (input : Input) (force_quirks : Bool) → Decided input (λ rest. slice_get rest 0) None → EndsPart d force_quirks new → ReadsDoctype d input (Closed force_quirks 0) new
read_ended d new input force_quirks none ends = ((λ more h. rw (empty_rest _ (none more h)) ends.0), omega arith, ends.1)

-- one code point is passed
pub read_one : (d new : DoctypeDraft) (input : Input) (c : ℕ) → Decided input (λ rest. slice_get rest 0) (Some c) → 0 < length input.queue.items → ReadsPart d c None new → PassesIn d input 1 new
read_one d new input c first some reads =
    ((λ more h. ap (draft_doctype d) (first_of input.queue.items more c (first more h) some) ∙ reads.0 (drop 1 input.queue.items ++ more)), omega arith, omega arith, reads.1)

-- the doctype closes at one code point
pub read_closed : (d new : DoctypeDraft) (input : Input) (force_quirks : Bool) (c : ℕ) → Decided input (λ rest. slice_get rest 0) (Some c) → 0 < length input.queue.items → ReadsPart d c (Some force_quirks) new →
    ReadsDoctype d input (Closed force_quirks 1) new
read_closed d new input force_quirks c first some reads =
    ((λ more h. ap (draft_doctype d) (first_of input.queue.items more c (first more h) some) ∙ reads.0 (drop 1 input.queue.items ++ more)), omega arith, reads.1)

-- after the name something else stands than white space or `>`
keyword_read : (d : DoctypeDraft) (input : Input) (c : ℕ) (keyword : Keyword) → d.part ≡ parts.AfterName → Decided input (λ rest. slice_get rest 0) (Some c) → 0 < length input.queue.items →
    is_space c ≡ false → ¬ (c ≡ 62) → Decided input keyword_at keyword → (more : List ℕ) → MayFollow input.finished more →
    draft_doctype d (input.queue.items ++ more) ≡ after_keyword (ids_of d) keyword (input.queue.items ++ more)
keyword_read d input c keyword e first some s h found more f =
    let rest = drop 1 input.queue.items ++ more in
    let t : input.queue.items ++ more ≡ c ∷ rest = first_of input.queue.items more c (first more f) some in
    let off : after_name (ids_of d) (c ∷ rest) ≡ after_keyword (ids_of d) (keyword_at (c ∷ rest)) (c ∷ rest) = rw (differs c 62 h) refl in
    ap (draft_doctype d) t ∙ at_part d parts.AfterName (c ∷ rest) e ∙ spaces_done (after_name (ids_of d)) c rest s ∙ off
    ∙ ap (λ (text : List ℕ). after_keyword (ids_of d) (keyword_at text) text) (sym t)
    ∙ ap (λ (k : Keyword). after_keyword (ids_of d) k (input.queue.items ++ more)) (found more f)

pub public_read : (d : DoctypeDraft) (input : Input) (c : ℕ) → d.part ≡ parts.AfterName → Decided input (λ rest. slice_get rest 0) (Some c) → 0 < length input.queue.items →
    is_space c ≡ false → ¬ (c ≡ 62) → Decided input keyword_at keywords.Public → 6 ≤ length input.queue.items → PassesIn d input 6 (record d { part = parts.BeforePublic })
public_read d input c e first some s h found fit = (
  (λ more f. keyword_read d input c keywords.Public e first some s h found more f
      ∙ ap (λ (text : List ℕ). longer_doctype 6 (after_spaces (wanted_public (ids_of d)) text)) (drop-append-le 6 input.queue.items more fit)),
  omega arith,
  fit,
  refl,
)

pub system_read : (d : DoctypeDraft) (input : Input) (c : ℕ) → d.part ≡ parts.AfterName → Decided input (λ rest. slice_get rest 0) (Some c) → 0 < length input.queue.items →
    is_space c ≡ false → ¬ (c ≡ 62) → Decided input keyword_at keywords.System → 6 ≤ length input.queue.items → PassesIn d input 6 (record d { part = parts.BeforeSystem })
system_read d input c e first some s h found fit = (
  (λ more f. keyword_read d input c keywords.System e first some s h found more f
      ∙ ap (λ (text : List ℕ). longer_doctype 6 (after_spaces (wanted_system (ids_of d)) text)) (drop-append-le 6 input.queue.items more fit)),
  omega arith,
  fit,
  refl,
)

pub other_read : (d : DoctypeDraft) (input : Input) (c : ℕ) → d.part ≡ parts.AfterName → Decided input (λ rest. slice_get rest 0) (Some c) → 0 < length input.queue.items →
    is_space c ≡ false → ¬ (c ≡ 62) → Decided input keyword_at keywords.Other → PassesIn d input 1 (record d { part = parts.BadRest true })
other_read d input c e first some s h found = (
  (λ more f. keyword_read d input c keywords.Other e first some s h found more f
      ∙ ap (bad_rest (ids_of d) true) (first_of input.queue.items more c (first more f) some)
      ∙ bad_more (ids_of d) true c (drop 1 input.queue.items ++ more) h),
  omega arith,
  omega arith,
  refl,
)

-- the errors from a doctype on, which is this
abbrev doctype_after : List Row → ℕ → Doctype → TextMode → Option (List ℕ) → List ℕ → List (Option TextMode) → List Fault
doctype_after rows place d mode name rest switches = errors_after rows d.len (stays (switch_of switches) mode) name place rest (drop 1 switches)

-- the tokens from a doctype on, which is this and began there
abbrev doctype_coming : List Row → ℕ → ℕ → Doctype → TextMode → Option (List ℕ) → List ℕ → List (Option TextMode) → List Token
doctype_coming rows start place d mode name rest switches = token (doctype_kind d) start (place + d.len) ∷ tokens_after rows d.len (stays (switch_of switches) mode) name place rest (drop 1 switches)

new_doctype_of : (d : DoctypeDraft) (start : ℕ) (rest : List ℕ) → new_doctype d start → draft_doctype d rest ≡ doctype_of rest
new_doctype_of d start rest n = rw (n.1, n.2, n.3, n.4) refl

doctype_begins : (rows : List Row) (region : Region) (mode : TextMode) (name : Option (List ℕ)) (place : ℕ) (items more : List ℕ) (switches : List (Option TextMode)) →
    begin_at mode region name (items ++ more) ≡ begins.Markup → opener (items ++ more) ≡ opens.Doctype → 9 ≤ length items →
    coming rows (Text region) mode name place (items ++ more) switches
    ≡ doctype_coming rows place (place + 9) (doctype_of (drop 9 items ++ more)) mode name (drop 9 items ++ more) switches
doctype_begins rows region mode name place items more switches e o k =
    let d = doctype_of (drop 9 items ++ more) in
    tokens_begun rows begins.Markup mode region name place (items ++ more) switches (doctype_piece place (items ++ more)) e refl (rw o refl) (omega arith) (not_empty items more (omega arith))
    ∙ rw (drop-append-le 9 items more k)
    (ap (λ (ts : List Token). token (doctype_kind d) place (place + 9 + d.len) ∷ ts) (tokens_past rows 9 d.len (stays (switch_of switches) mode) name place items more (drop 1 switches) k))

pub doctype_opens : (old new : Machine) (region : Region) → old.state ≡ Text region → BeginsDoctype old new → 9 ≤ length old.input.queue.items →
    Decided old.input (begin_at old.mode region old.last_name) begins.Markup → Decided old.input opener opens.Doctype → Steps old More new
doctype_opens old new region s (d, n, p) k begun found = (
  (λ more switches f. rw (s, p.state, p.mode, p.name, p.place, p.items, p.table, n.0)
      (doctype_begins old.table.now region old.mode old.last_name old.place old.input.queue.items more switches (begun more f) (found more f) k
      ∙ ap (λ (x : Doctype). doctype_coming old.table.now old.place (old.place + 9) x old.mode old.last_name (drop 9 old.input.queue.items ++ more) switches)
      (sym (new_doctype_of d old.place (drop 9 old.input.queue.items ++ more) n)))),
  passes_less old new 9 _ p (omega arith) k,
  passes_count old new 9 _ p k (λ e. e),
  p.name,
  (λ more switches f. rw (s, p.state, p.mode, p.name, p.place, p.items, p.table, n.1, n.2, n.3, n.4, n.5)
      (let items = old.input.queue.items in
      let whole = doctype_of (drop 9 items ++ more) in
      errors_opened old.table.now begins.Markup region old.mode old.last_name old.place 9 whole.len items more switches (doctype_piece old.place (items ++ more)) (doctype_errors parts.BeforeName false 0 (old.place + 9) (drop 9 items ++ more))
      (begun more f) refl (rw (found more f) refl) (rw (drop-append-le 9 items more k) refl) (omega arith) k (rw (found more f, drop-append-le 9 items more k) refl))),
)

doctype_on : (rows : List Row) (start place n : ℕ) (d : Doctype) (mode : TextMode) (name : Option (List ℕ)) (items more : List ℕ) (switches : List (Option TextMode)) → n ≤ length items →
    doctype_coming rows start place (longer_doctype n d) mode name (items ++ more) switches ≡ doctype_coming rows start (place + n) d mode name (drop n items ++ more) switches
doctype_on rows start place n d mode name items more switches k =
    let e : place + (n + d.len) ≡ place + n + d.len = omega arith in
    rw e (ap (λ (ts : List Token). token (doctype_kind d) start (place + n + d.len) ∷ ts) (tokens_past rows n d.len (stays (switch_of switches) mode) name place items more (drop 1 switches) k))

told_then : (whole told later before after : List Fault) → whole ≡ told ++ later → before ≡ after → whole ++ before ≡ told ++ (later ++ after)
told_then whole told later before after e h = rw (e, h, append_assoc) refl

pub doctype_more : (old new : Machine) (d d' : DoctypeDraft) (n : ℕ) → old.state ≡ Doctype' d → PassesIn d old.input n d' → PassesErrors d old.input n d' →
    Passes (record old { state = Doctype' d' }) n (Doctype' d') new → Steps old More new
doctype_more old new d d' n s (e, g, k, b) errors p = (
  (λ more switches f. rw (s, p.state, p.mode, p.name, p.place, p.items, p.table, b)
      (ap (λ (x : Doctype). doctype_coming old.table.now d.start old.place x old.mode old.last_name (old.input.queue.items ++ more) switches) (e more f)
      ∙ doctype_on old.table.now d.start old.place n (draft_doctype d' (drop n old.input.queue.items ++ more)) old.mode old.last_name old.input.queue.items more switches k)),
  rw p.items (simp length-drop (omega arith)),
  record { count = rw (p.place, p.items) (simp length-drop (omega arith)); finished = p.finished; table = p.table; drained = going_on old new _ p.state (λ e. e) },
  p.name,
  (λ more switches f. rw (s, p.state, p.mode, p.name, p.place, p.items, p.table)
      (told_then (draft_errors d old.place (old.input.queue.items ++ more)) (doctype_told d.part d.spaced old.place (old.input.queue.items ++ more)) (draft_errors d' (old.place + n) (drop n old.input.queue.items ++ more)) _ _
      (errors old.place more f)
      (ap (λ (x : Doctype). doctype_after old.table.now old.place x old.mode old.last_name (old.input.queue.items ++ more) switches) (e more f)
      ∙ errors_past old.table.now n (draft_doctype d' (drop n old.input.queue.items ++ more)).len (stays (switch_of switches) old.mode) old.last_name old.place old.input.queue.items more (drop 1 switches) k))),
)

told_both_then : (whole told before after : List Fault) → whole ≡ told → before ≡ after → whole ++ before ≡ told ++ after
told_both_then whole told before after e h = rw (e, h) refl

pub doctype_given : (old new : Machine) (d d' : DoctypeDraft) (force_quirks : Bool) (n : ℕ) (progress : Progress) → old.state ≡ Doctype' d → ReadsDoctype d old.input (Closed force_quirks n) d' → MovesDoctype d old.input (Closed force_quirks n) d' →
    EndsDoctype (record old { state = Doctype' d' }) force_quirks n progress new → Steps old progress new
doctype_given old new d d' force_quirks n progress s (e, k, b) moves ends =
    let given = (ends d' refl).0 in
    let p = (ends d' refl).1 in
    let whole = closes (ids_of d') force_quirks n in
    rw given (
      (λ more switch switches f. rw (s, p.state, p.mode, p.name, p.place, p.items, p.table, b)
          (ap (λ (x : Doctype). doctype_coming old.table.now d.start old.place x old.mode old.last_name (old.input.queue.items ++ more) (switch ∷ switches)) (e more f)
          ∙ ap (λ (ts : List Token). token (doctype_kind whole) d.start (old.place + n) ∷ ts) (rw add-zero at (tokens_past old.table.now n 0 (stays switch old.mode) old.last_name old.place old.input.queue.items more switches k)))),
      record { count = rw (p.place, p.items) (simp length-drop (omega arith)); finished = p.finished; table = p.table; drained = going_on old new _ p.state (λ e. e) },
      p.name,
      (λ more switch switches f. rw (s, p.state, p.mode, p.name, p.place, p.items, p.table)
          (told_both_then (draft_errors d old.place (old.input.queue.items ++ more)) (doctype_told d.part d.spaced old.place (old.input.queue.items ++ more)) _ _ (moves.0 old.place more f)
          (ap (λ (x : Doctype). doctype_after old.table.now old.place x old.mode old.last_name (old.input.queue.items ++ more) (switch ∷ switches)) (e more f)
          ∙ errors_past_all old.table.now n (stays switch old.mode) old.last_name old.place old.input.queue.items more switches k))),
    )

pub doctype_waits : (old : Machine) (d d' : DoctypeDraft) → old.state ≡ Doctype' d → ReadsDoctype d old.input Waits d' → Steps old Wait (record old { state = Doctype' d' })
doctype_waits old d d' s (n, short) = (rw (n, ← s) refl, (short.0, omega arith))
