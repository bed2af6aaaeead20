-- What the code points of a tag tell, part by part.
use Rattle.std.proofs.Common.{◌≡◌, ◌⊎◌, ℕ, zero, suc, ◌+◌, ◌-◌, ◌≤◌, List, [], ◌∷◌, ◌++◌, length, take, drop, Bool, true, false, not, ◌&&◌, ◌||◌, ◌==◌, cond, Option, Some, None, Result, Ok, Err, refl, ap, ap₂, sym, ◌∙◌, inl, inr, arith, append-nil, append_assoc, add-zero, zero-add}
use Rattle.std.specs.List.{slice_get}
use Rattle.std.specs.Result.{IfOk, OnOk}
use Rattle.std.proofs.lemmas.Bool.{cases_eq, false≢true}
use Rattle.std.proofs.lemmas.Bool.Decides.{nat_tests}
use Rattle.std.proofs.lemmas.List.{take-append-drop, length-take-le}
use Rattle.html_charref.specs.declared.number.Base.{Base}
use Rattle.html_charref.specs.declared.number.Base.TheVariants.{Decimal, Hex}
use Rattle.html_charref.specs.declared.table.Row.{Row}
use Rattle.html_tokens.specs.AttrNames.{AttrNames, name_errors, names_by, next_names}
use Rattle.html_tokens.specs.Copied.{AllPass, copied_in, is_copied}
use Rattle.html_tokens.specs.Cut.{ends_unquoted, is_space}
use Rattle.html_tokens.specs.Doctype.{is_quote}
use Rattle.html_tokens.specs.Inside.{fault_when, null_errors}
use Rattle.html_tokens.specs.InsideTags.{closes_before, MovesRef, MovesTag, SettlesPart, TurnsTo, after_value, all_char_errors, ends_in, ends_tag, looks_on, looks_on_in, may_tell, may_tell_in, next_part, part_char_errors, part_end_told, part_errors, part_ref_errors, part_told, quote_errors, ref_rest, settle_told, tag_char_errors, tag_part_errors, unquoted_errors, value_errors}
use Rattle.html_tokens.specs.InsideReferences.{ampersand_errors, ampersand_told, are_no_letters, begun_ref_errors, later_ref_errors, number_end_errors, number_errors, soon_ref_errors, value_ref_errors, value_told}
use Rattle.html_tokens.specs.Reference.{ends_digits, ends_letters, is_digit, literal, numbered, Numbered, Reference, ref_opener}
use Rattle.html_tokens.specs.Tag.{between, ends_attr, ends_name, is_unsettled, IsInside, name_char, reads_refs}
use Rattle.html_tokens.specs.Value.{Begins, ref_len, value_reference}
use Rattle.html_tokens.specs.declared.token.RefOpener.TheVariants.{Literal}
use Rattle.html_tokens.specs.declared.copied.Copied.TheVariants as copied
use Rattle.html_tokens.specs.declared.fault_name.FaultName.TheVariants as names
use Rattle.html_tokens.specs.declared.faults.Fault.{Fault}
use Rattle.html_tokens.specs.declared.reference.ValueRef.{ValueRef}
use Rattle.html_tokens.specs.declared.reference.ValueRef.TheVariants as refs
use Rattle.html_tokens.specs.declared.tag.Part.{Part}
use Rattle.html_tokens.specs.declared.tag.Part.TheVariants as parts
use Rattle.html_tokens.specs.declared.tag.TagDraft.{TagDraft}
use Rattle.html_tokens.specs.declared.tag.TagReading.{TagReading}
use Rattle.html_tokens.specs.declared.tag.TagReading.TheVariants.{More, Closed}
use Rattle.html_tokens.specs.declared.tag.ValueEnd.{ValueEnd}
use Rattle.html_tokens.specs.declared.tag.ValueEnd.TheVariants as ends
use Rattle.html_tokens.proofs.EndLemmas.{differs}
use Rattle.html_tokens.proofs.ReferenceLemmas.{digit_first, digits_stop, errors_digit, errors_end, errors_stop, letter_apart, letters_end, letters_few, letters_many, letters_on, letters_stop, not_semicolon}
use Rattle.std.proofs.Common.{◌*◌}
use Rattle.std.specs.Char.{digit_value, is_ascii_alphanumeric}
use Rattle.html_charref.specs.Number.{capped, radix}

pub neither : (a b : Bool) → not (a || b) ≡ true → (a ≡ false) × (not b ≡ true)
neither true b h = absurd (false≢true h)
neither false b h = (refl, h)

pub is_not : (b : Bool) → not b ≡ true → b ≡ false
is_not true h = absurd (false≢true h)
is_not false h = refl

pub first_false : (a b : Bool) → (a || b) ≡ false → a ≡ false
first_false true b h = absurd (false≢true (sym h))
first_false false b h = refl

pub second_false : (a b : Bool) → (a || b) ≡ false → b ≡ false
second_false true b h = absurd (false≢true (sym h))
second_false false b h = h

told_alone : (part : Part) (c : ℕ) (found after : Option ℕ) (place : ℕ) → looks_on part c ≡ false → tag_char_errors part c found place ≡ tag_char_errors part c after place
told_alone parts.Name c found after place h = rw h refl
told_alone parts.Attributes c found after place h = rw h refl
told_alone parts.AttrName c found after place h = rw h refl
told_alone parts.AfterName c found after place h = rw h refl
told_alone parts.Value c found after place h = refl
told_alone (parts.Inside ends.DoubleQuote) c found after place h = rw (second_false (c == 47) (c == 34) h) refl
told_alone (parts.Inside ends.SingleQuote) c found after place h = rw (second_false (c == 47) (c == 39) h) refl
told_alone (parts.Inside ends.Space) c found after place h = refl
told_alone (parts.Number ends.DoubleQuote base v start) c found after place h = rw (second_false (c == 47) (c == 34) h) refl
told_alone (parts.Number ends.SingleQuote base v start) c found after place h = rw (second_false (c == 47) (c == 39) h) refl
told_alone (parts.Number ends.Space base v start) c found after place h = refl
told_alone (parts.Ampersand ends.DoubleQuote start) c found after place h = rw (second_false (c == 47) (c == 34) h) refl
told_alone (parts.Ampersand ends.SingleQuote start) c found after place h = rw (second_false (c == 47) (c == 39) h) refl
told_alone (parts.Ampersand ends.Space start) c found after place h = refl

ends_alone : (part : Part) (c : ℕ) (found after : Option ℕ) → looks_on part c ≡ false → ends_tag part c found ≡ ends_tag part c after
ends_alone parts.Name c found after h = rw h refl
ends_alone parts.Attributes c found after h = rw h refl
ends_alone parts.AttrName c found after h = rw h refl
ends_alone parts.AfterName c found after h = rw h refl
ends_alone parts.Value c found after h = refl
ends_alone (parts.Inside end) c found after h = refl
ends_alone (parts.Number end base v start) c found after h = refl
ends_alone (parts.Ampersand end start) c found after h = refl

slash_in : (end : ValueEnd) (c : ℕ) → c ≡ 47 → looks_on_in end c ≡ true
slash_in ends.DoubleQuote c e = rw e refl
slash_in ends.SingleQuote c e = rw e refl
slash_in ends.Space c e = rw e refl

-- a `/` is judged by the code point after it
pub looks_slash : (part : Part) (c : ℕ) → c ≡ 47 → looks_on part c ≡ true
looks_slash parts.Name c e = rw e refl
looks_slash parts.Attributes c e = rw e refl
looks_slash parts.AttrName c e = rw e refl
looks_slash parts.AfterName c e = rw e refl
looks_slash parts.Value c e = rw e refl
looks_slash (parts.Inside end) c e = slash_in end c e
looks_slash (parts.Number end base v start) c e = slash_in end c e
looks_slash (parts.Ampersand end start) c e = slash_in end c e

bool_is : (b : Bool) → (b ≡ true) ⊎ (b ≡ false)
bool_is true = inl refl
bool_is false = inr refl

-- the code point after it is known where it is judged by it
told_by : (part : Part) (c : ℕ) (found after : Option ℕ) (place : ℕ) → (looks_on part c ≡ true → found ≡ after) → tag_char_errors part c found place ≡ tag_char_errors part c after place
told_by part c found after place h = elim (bool_is (looks_on part c)) [
  | inl e ↦ ap (λ (x : Option ℕ). tag_char_errors part c x place) (h e)
  | inr e ↦ told_alone part c found after place e
]

ends_by : (part : Part) (c : ℕ) (found after : Option ℕ) → (looks_on part c ≡ true → found ≡ after) → ends_tag part c found ≡ ends_tag part c after
ends_by part c found after h = elim (bool_is (looks_on part c)) [
  | inl e ↦ ap (λ (x : Option ℕ). ends_tag part c x) (h e)
  | inr e ↦ ends_alone part c found after e
]

no_ref : (part : Part) (c : ℕ) → (reads_refs part ≡ true → c ≡ 38 → ⊥) → (reads_refs part && c == 38) ≡ false
no_ref part c h = elim (bool_is (reads_refs part)) [
  | inl e ↦ rw (e, differs c 38 (h e)) refl
  | inr e ↦ rw e refl
]

pub told_first : (rows : List Row) (seen : AttrNames) (part : Part) (c : ℕ) (rest : List ℕ) (after : Option ℕ) (place : ℕ) → (reads_refs part ≡ true → c ≡ 38 → ⊥) → (looks_on part c ≡ true → slice_get rest 0 ≡ after) → part_told rows seen part place (c ∷ rest) ≡ all_char_errors seen part c after place
told_first rows seen part c rest after place r h =
    rw (no_ref part c r) (append-nil (all_char_errors seen part c (slice_get rest 0) place) ∙ ap (λ (es : List Fault). name_errors seen part (Some c) place ++ es) (told_by part c (slice_get rest 0) after place h))

-- OUTSIDE OF NUMBERS

plain_part : (rows : List Row) (seen : AttrNames) (part : Part) (place : ℕ) (text : List ℕ) → is_unsettled part ≡ false → part_errors rows seen part place text ≡ tag_part_errors rows seen part 0 place text
plain_part rows seen parts.Name place text h = refl
plain_part rows seen parts.Attributes place text h = refl
plain_part rows seen parts.AttrName place text h = refl
plain_part rows seen parts.AfterName place text h = refl
plain_part rows seen parts.Value place text h = refl
plain_part rows seen (parts.Inside end) place text h = refl
plain_part rows seen (parts.Number end base v start) place text h = absurd (false≢true (sym h))
plain_part rows seen (parts.Ampersand end start) place text h = absurd (false≢true (sym h))

either_plain : (b : Bool) (x y : Part) → is_unsettled x ≡ false → is_unsettled y ≡ false → is_unsettled (cond b x y) ≡ false
either_plain true x y p q = p
either_plain false x y p q = q

value_plain : (end : ValueEnd) (c : ℕ) → is_unsettled (after_value end c) ≡ false
value_plain ends.DoubleQuote c = either_plain (c == 34) _ _ refl refl
value_plain ends.SingleQuote c = either_plain (c == 39) _ _ refl refl
value_plain ends.Space c = either_plain (ends_unquoted c) _ _ refl refl

next_plain : (part : Part) (c : ℕ) → is_unsettled (next_part part c) ≡ false
next_plain parts.Name c = either_plain (ends_name c) _ _ refl refl
next_plain parts.Attributes c = either_plain (ends_name c) _ _ refl refl
next_plain parts.AttrName c = either_plain (is_space c) _ _ refl (either_plain (c == 61) _ _ refl (either_plain (ends_name c) _ _ refl refl))
next_plain parts.AfterName c = either_plain (is_space c) _ _ refl (either_plain (c == 61) _ _ refl (either_plain (ends_name c) _ _ refl refl))
next_plain parts.Value c = either_plain (is_space c) _ _ refl (either_plain (c == 34) _ _ refl (either_plain (c == 39) _ _ refl (value_plain ends.Space c)))
next_plain (parts.Inside end) c = value_plain end c
next_plain (parts.Number end base v start) c = value_plain end c
next_plain (parts.Ampersand end start) c = value_plain end c

unroll : (rows : List Row) (seen : AttrNames) (part : Part) (place c : ℕ) (rest : List ℕ) → tag_part_errors rows seen part 0 place (c ∷ rest)
    ≡ all_char_errors seen part c (slice_get rest 0) place ++ (part_ref_errors rows part c place rest ++ cond (ends_tag part c (slice_get rest 0)) [] (tag_part_errors rows (next_names seen part c) (next_part part c) (ref_rest rows part c rest) (place + 1) rest))
unfolding tag_part_errors
unroll rows seen part place c rest = refl

past : (rows : List Row) (seen : AttrNames) (part : Part) (k place c : ℕ) (rest : List ℕ) → tag_part_errors rows seen part (suc k) place (c ∷ rest) ≡ tag_part_errors rows seen part k (place + 1) rest
unfolding tag_part_errors
past rows seen part k place c rest = refl

-- a code point is passed
pub goes : (rows : List Row) (seen : AttrNames) (part : Part) (place c : ℕ) (rest : List ℕ) (after : Option ℕ) → is_unsettled part ≡ false → (reads_refs part ≡ true → c ≡ 38 → ⊥) → (looks_on part c ≡ true → slice_get rest 0 ≡ after) → ends_tag part c after ≡ false →
    part_errors rows seen part place (c ∷ rest) ≡ all_char_errors seen part c after place ++ part_errors rows (next_names seen part c) (next_part part c) (place + 1) rest
goes rows seen part place c rest after n r h e =
    plain_part rows seen part place (c ∷ rest) n ∙ unroll rows seen part place c rest
    ∙ rw (told_by part c (slice_get rest 0) after place h, ends_by part c (slice_get rest 0) after h, e, no_ref part c r)
    (ap (λ (es : List Fault). all_char_errors seen part c after place ++ es) (sym (plain_part rows (next_names seen part c) (next_part part c) (place + 1) rest (next_plain part c))))

is_no_and : (c : ℕ) → (c == 62) ≡ true → (c == 38) ≡ false
is_no_and c h = elim (cases_eq c 62) [ inl e ↦ rw e refl | inr e ↦ absurd (false≢true (sym (differs c 62 e) ∙ h)) ]

-- no `&` ends a tag
ends_no_ref : (part : Part) (c : ℕ) (after : Option ℕ) → ends_tag part c after ≡ true → (reads_refs part && c == 38) ≡ false
ends_no_ref parts.Name c after h = refl
ends_no_ref parts.Attributes c after h = refl
ends_no_ref parts.AttrName c after h = refl
ends_no_ref parts.AfterName c after h = refl
ends_no_ref parts.Value c after h = is_no_and c h
ends_no_ref (parts.Inside ends.DoubleQuote) c after h = absurd (false≢true h)
ends_no_ref (parts.Inside ends.SingleQuote) c after h = absurd (false≢true h)
ends_no_ref (parts.Inside ends.Space) c after h = is_no_and c h
ends_no_ref (parts.Number ends.DoubleQuote base v start) c after h = absurd (false≢true h)
ends_no_ref (parts.Number ends.SingleQuote base v start) c after h = absurd (false≢true h)
ends_no_ref (parts.Number ends.Space base v start) c after h = is_no_and c h
ends_no_ref (parts.Ampersand ends.DoubleQuote start) c after h = absurd (false≢true h)
ends_no_ref (parts.Ampersand ends.SingleQuote start) c after h = absurd (false≢true h)
ends_no_ref (parts.Ampersand ends.Space start) c after h = is_no_and c h

ends_part : (rows : List Row) (seen : AttrNames) (part : Part) (place c : ℕ) (rest : List ℕ) (after : Option ℕ) → is_unsettled part ≡ false → (looks_on part c ≡ true → slice_get rest 0 ≡ after) → ends_tag part c after ≡ true →
    part_errors rows seen part place (c ∷ rest) ≡ all_char_errors seen part c after place
ends_part rows seen part place c rest after n h e =
    plain_part rows seen part place (c ∷ rest) n ∙ unroll rows seen part place c rest
    ∙ rw (told_by part c (slice_get rest 0) after place h, ends_by part c (slice_get rest 0) after h, e, ends_no_ref part c after e) (append-nil (all_char_errors seen part c after place))

moves_by : (reading : TagReading) (old new : Part) (c : ℕ) (after : Option ℕ) → is_unsettled old ≡ false → (reads_refs old ≡ true → c ≡ 38 → ⊥) → TurnsTo old c after reading new → MovesTag old c after reading new
moves_by More old new c after n r (e, t) = λ rows seen place rest h. rw t (goes rows seen old place c rest after n r h e)
moves_by (Closed b k) old new c after n r e = λ rows seen place rest h. ends_part rows seen old place c rest after n h e

-- what closes a tag
pub closes_by : (old new : Part) (c : ℕ) (after : Option ℕ) (self_closing : Bool) (n : ℕ) → is_unsettled old ≡ false → ends_tag old c after ≡ true → MovesTag old c after (Closed self_closing n) new
closes_by old new c after self_closing n p e = λ rows seen place rest h. ends_part rows seen old place c rest after p h e

pub turns_move : {E : Type 0} (r : Result TagReading E) (old new : Part) (c : ℕ) (after : Option ℕ) → is_unsettled old ≡ false → (reads_refs old ≡ true → c ≡ 38 → ⊥) → IfOk r (λ reading. TurnsTo old c after reading new) → IfOk r (λ reading. MovesTag old c after reading new)
turns_move (Ok reading) old new c after n p t = moves_by reading old new c after n p t
turns_move (Err e) old new c after n p t = tt

-- the same code point is read in another part
turns_on : (reading : TagReading) (old mid new : Part) (c : ℕ) (after : Option ℕ) → ends_tag old c after ≡ ends_tag mid c after → next_part old c ≡ next_part mid c → TurnsTo mid c after reading new → TurnsTo old c after reading new
turns_on More old mid new c after e f t = (e ∙ t.0, t.1 ∙ sym f)
turns_on (Closed b k) old mid new c after e f t = e ∙ t

pub turns_from : {E : Type 0} (r : Result TagReading E) (old mid new : Part) (c : ℕ) (after : Option ℕ) → ends_tag old c after ≡ ends_tag mid c after → next_part old c ≡ next_part mid c → IfOk r (λ reading. TurnsTo mid c after reading new) → IfOk r (λ reading. TurnsTo old c after reading new)
turns_from (Ok reading) old mid new c after e f t = turns_on reading old mid new c after e f t
turns_from (Err x) old mid new c after e f t = tt

moves_on : (reading : TagReading) (old mid new : Part) (c : ℕ) (after : Option ℕ) → SettlesPart old c mid → MovesTag mid c after reading new → MovesTag old c after reading new
moves_on More old mid new c after s m = λ rows seen place rest h.
    s.0 rows seen place rest ∙ ap (λ (es : List Fault). settle_told old c ++ es) (m rows seen place rest (λ l. h (sym s.2 ∙ l)))
    ∙ sym (append_assoc (settle_told old c) (all_char_errors seen mid c after place) (part_errors rows (next_names seen mid c) new (place + 1) rest))
    ∙ ap₂ (λ (es : List Fault) (names : AttrNames). es ++ part_errors rows names new (place + 1) rest) (sym (s.1 seen after place)) (sym (s.3 seen))
moves_on (Closed b k) old mid new c after s m = λ rows seen place rest h. s.0 rows seen place rest ∙ ap (λ (es : List Fault). settle_told old c ++ es) (m rows seen place rest (λ l. h (sym s.2 ∙ l))) ∙ sym (s.1 seen after place)

pub moves_settled : {E : Type 0} (r : Result TagReading E) (old mid new : Part) (c : ℕ) (after : Option ℕ) → SettlesPart old c mid → IfOk r (λ reading. MovesTag mid c after reading new) → IfOk r (λ reading. MovesTag old c after reading new)
moves_settled (Ok reading) old mid new c after s m = moves_on reading old mid new c after s m
moves_settled (Err e) old mid new c after s m = tt

-- NUMBERS

apart : (base : Base) (c k : ℕ) → is_digit base c ≡ true → is_digit base k ≡ false → (c == k) ≡ false
apart base c k d e = differs c k (λ f. absurd (false≢true (sym e ∙ ap (λ (x : ℕ). is_digit base x) (sym f) ∙ d)))

no_digit : (base : Base) → (is_digit base 34 ≡ false) × (is_digit base 39 ≡ false) × (is_digit base 60 ≡ false) × (is_digit base 61 ≡ false) × (is_digit base 96 ≡ false) × (is_digit base 38 ≡ false) × (is_digit base 59 ≡ false) × (is_digit base 0 ≡ false)
no_digit Hex = (refl, refl, refl, refl, refl, refl, refl, refl)
no_digit Decimal = (refl, refl, refl, refl, refl, refl, refl, refl)

-- a digit tells nothing
digit_told : (end : ValueEnd) (base : Base) (c : ℕ) (after : Option ℕ) (place : ℕ) → is_digit base c ≡ true → value_errors end c after place ≡ []
digit_told ends.DoubleQuote base c after place d = rw (apart base c 34 d (no_digit base).0) refl
digit_told ends.SingleQuote base c after place d = rw (apart base c 39 d (no_digit base).1) refl
digit_told ends.Space base c after place d =
    let n = no_digit base in
    rw (apart base c 34 d n.0, apart base c 39 d n.1, apart base c 60 d n.2, apart base c 61 d n.3, apart base c 96 d n.4) refl

-- nor does a `;`
semicolon_told : (end : ValueEnd) (after : Option ℕ) (place : ℕ) → value_errors end 59 after place ≡ []
semicolon_told ends.DoubleQuote after place = refl
semicolon_told ends.SingleQuote after place = refl
semicolon_told ends.Space after place = refl

number_on : (rows : List Row) (seen : AttrNames) (end : ValueEnd) (base : Base) (v start k place c : ℕ) (rest : List ℕ) → (numbered base v (c ∷ rest)).len ≡ suc k →
    part_errors rows seen (parts.Number end base v start) place (c ∷ rest) ≡ number_errors base v start (c ∷ rest) ++ tag_part_errors rows seen (parts.Inside end) k (place + 1) rest
number_on rows seen end base v start k place c rest e = ap (λ (n : ℕ). number_errors base v start (c ∷ rest) ++ tag_part_errors rows seen (parts.Inside end) n place (c ∷ rest)) e ∙ ap (λ (es : List Fault). number_errors base v start (c ∷ rest) ++ es) (past rows seen (parts.Inside end) k place c rest)

pub moves_digit : (end : ValueEnd) (base : Base) (v w start c : ℕ) (after : Option ℕ) → is_digit base c ≡ true → w ≡ capped (v * radix base + digit_value c) → MovesTag (parts.Number end base v start) c after More (parts.Number end base w start)
moves_digit end base v w start c after d e = λ rows seen place rest h.
    rw (d, digit_told end base c after place d, apart base c 0 d (no_digit base).7)
    (number_on rows seen end base v start (numbered base w rest).len place c rest (ap (λ (n : Numbered). n.len) (digit_first base v c rest d))
    ∙ ap (λ (es : List Fault). es ++ tag_part_errors rows seen (parts.Inside end) (numbered base w rest).len (place + 1) rest) (errors_digit base v w start c rest d e))

pub moves_semicolon : (end : ValueEnd) (base : Base) (v start c : ℕ) (after : Option ℕ) → c ≡ 59 → MovesTag (parts.Number end base v start) c after More (parts.Inside end)
moves_semicolon end base v start c after e = λ rows seen place rest h.
    let d = (no_digit base).6 in
    rw (e, semicolon_told end after place, d)
    (number_on rows seen end base v start 0 place 59 rest (ap (λ (n : Numbered). n.len) (digits_stop base v 59 rest d))
    ∙ ap₂ (λ (es fs : List Fault). es ++ fs) (errors_stop base v start 59 rest d ∙ sym (append-nil _ ∙ append-nil _)) refl)

stops_len : (base : Base) (v c : ℕ) (rest : List ℕ) → is_digit base c ≡ false → ¬ (c ≡ 59) → (numbered base v (c ∷ rest)).len ≡ 0
stops_len base v c rest d s = ap (λ (n : Numbered). n.len) (digits_stop base v c rest d) ∙ not_semicolon c s

pub settles_number : (end : ValueEnd) (base : Base) (v start c : ℕ) → is_digit base c ≡ false → ¬ (c ≡ 59) → SettlesPart (parts.Number end base v start) c (parts.Inside end)
settles_number end base v start c d s = (
  (λ rows seen place rest. rw (d, differs c 59 s)
      (ap₂ (λ (es : List Fault) (n : ℕ). es ++ tag_part_errors rows seen (parts.Inside end) n place (c ∷ rest)) (errors_stop base v start c rest d ∙ ap (λ (b : Bool). number_end_errors b v start) (differs c 59 s)) (stops_len base v c rest d s))),
  (λ seen after place. rw (d, differs c 59 s) (append_assoc (number_end_errors false v start) (value_errors end c after place) (null_errors (Some c) place))),
  refl,
  (λ seen. refl),
)

-- a number that goes on stays as it is
pub settles_on : (end : ValueEnd) (base : Base) (v start c : ℕ) → (is_digit base c || c == 59) ≡ true → SettlesPart (parts.Number end base v start) c (parts.Number end base v start)
settles_on end base v start c h = ((λ rows seen place rest. rw h refl), (λ seen after place. rw h refl), refl, (λ seen. refl))

pub settles_same : (part : Part) (c : ℕ) → is_unsettled part ≡ false → SettlesPart part c part
settles_same parts.Name c h = ((λ rows seen place rest. refl), (λ seen after place. refl), refl, (λ seen. refl))
settles_same parts.Attributes c h = ((λ rows seen place rest. refl), (λ seen after place. refl), refl, (λ seen. refl))
settles_same parts.AttrName c h = ((λ rows seen place rest. refl), (λ seen after place. refl), refl, (λ seen. refl))
settles_same parts.AfterName c h = ((λ rows seen place rest. refl), (λ seen after place. refl), refl, (λ seen. refl))
settles_same parts.Value c h = ((λ rows seen place rest. refl), (λ seen after place. refl), refl, (λ seen. refl))
settles_same (parts.Inside end) c h = ((λ rows seen place rest. refl), (λ seen after place. refl), refl, (λ seen. refl))
settles_same (parts.Number end base v start) c h = absurd (false≢true (sym h))
settles_same (parts.Ampersand end start) c h = absurd (false≢true (sym h))

-- a code point is passed, and tells nothing
pub passes_quietly : (rows : List Row) (seen : AttrNames) (part next : Part) (place c : ℕ) (rest : List ℕ) → is_unsettled part ≡ false → (reads_refs part ≡ true → c ≡ 38 → ⊥) → ends_tag part c (slice_get rest 0) ≡ false → tag_char_errors part c (slice_get rest 0) place ≡ [] → next_part part c ≡ next → name_errors seen part (Some c) place ≡ [] →
    part_errors rows seen part place (c ∷ rest) ≡ part_errors rows (next_names seen part c) next (place + 1) rest
passes_quietly rows seen part next place c rest n r e t p m =
    goes rows seen part place c rest (slice_get rest 0) n r (λ h. refl) e ∙ rw (m, t, p) refl

-- LETTERS AND DIGITS AFTER A `&`

-- neither comes, nor a `;`
pub letters_none : (place : ℕ) (text : List ℕ) → are_no_letters text ≡ true → (ampersand_errors place text ≡ []) × (ampersand_told place (slice_get text 0) ≡ [])
letters_none place [] h = (letters_end place, refl)
letters_none place (c ∷ rest) h =
    let n = neither (is_ascii_alphanumeric c) (c == 59) h in
    let s = is_not (c == 59) n.1 in
    (letters_stop place c rest n.0 ∙ rw s refl, rw s refl)

a_letter : (c : ℕ) → ends_letters c ≡ false → is_ascii_alphanumeric c ≡ true
a_letter c h = elim (bool_is (is_ascii_alphanumeric c)) [ inl e ↦ e | inr e ↦ absurd (false≢true (sym h ∙ rw e refl)) ]

a_digit : (base : Base) (c : ℕ) → ends_digits base c ≡ false → is_digit base c ≡ true
a_digit base c h = elim (bool_is (is_digit base c)) [ inl e ↦ e | inr e ↦ absurd (false≢true (sym h ∙ rw e refl)) ]

-- a letter or digit tells nothing in a value
letter_told : (end : ValueEnd) (c : ℕ) (after : Option ℕ) (place : ℕ) → is_ascii_alphanumeric c ≡ true → value_errors end c after place ≡ []
letter_told ends.DoubleQuote c after place l = rw (letter_apart c 34 l refl) refl
letter_told ends.SingleQuote c after place l = rw (letter_apart c 39 l refl) refl
letter_told ends.Space c after place l = rw (letter_apart c 34 l refl, letter_apart c 39 l refl, letter_apart c 60 l refl, letter_apart c 61 l refl, letter_apart c 96 l refl) refl

letter_goes : (end : ValueEnd) (c : ℕ) → is_ascii_alphanumeric c ≡ true → after_value end c ≡ parts.Inside end
letter_goes ends.DoubleQuote c l = rw (letter_apart c 34 l refl) refl
letter_goes ends.SingleQuote c l = rw (letter_apart c 39 l refl) refl
letter_goes ends.Space c l = rw (letter_apart c 9 l refl, letter_apart c 10 l refl, letter_apart c 12 l refl, letter_apart c 32 l refl, letter_apart c 62 l refl) refl

letter_stays : (end : ValueEnd) (c : ℕ) → is_ascii_alphanumeric c ≡ true → ends_in end c ≡ false
letter_stays ends.DoubleQuote c l = refl
letter_stays ends.SingleQuote c l = refl
letter_stays ends.Space c l = letter_apart c 62 l refl

pub moves_letter : (end : ValueEnd) (start c : ℕ) (after : Option ℕ) → is_ascii_alphanumeric c ≡ true → MovesTag (parts.Ampersand end start) c after More (parts.Ampersand end start)
moves_letter end start c after l = λ rows seen place rest h.
    rw (letter_apart c 59 l refl, letter_told end c after place l, letter_apart c 0 l refl)
    (ap₂ (λ (es fs : List Fault). es ++ fs) (letters_on start c rest l)
    (passes_quietly rows seen (parts.Inside end) (parts.Inside end) place c rest refl (λ r e. absurd (false≢true (sym (letter_apart c 38 l refl) ∙ rw e refl))) (letter_stays end c l)
    (rw (letter_told end c (slice_get rest 0) place l, letter_apart c 0 l refl) refl) (letter_goes end c l) refl))

pub settles_letters : (end : ValueEnd) (start c : ℕ) → is_ascii_alphanumeric c ≡ false → SettlesPart (parts.Ampersand end start) c (parts.Inside end)
settles_letters end start c l = (
  (λ rows seen place rest. ap (λ (es : List Fault). es ++ tag_part_errors rows seen (parts.Inside end) 0 place (c ∷ rest)) (letters_stop start c rest l)),
  (λ seen after place. append_assoc (ampersand_told start (Some c)) (value_errors end c after place) (null_errors (Some c) place)),
  refl,
  (λ seen. refl),
)

-- letters and digits that go on stay as they are
pub settles_letter : (end : ValueEnd) (start c : ℕ) → is_ascii_alphanumeric c ≡ true → SettlesPart (parts.Ampersand end start) c (parts.Ampersand end start)
settles_letter end start c l = ((λ rows seen place rest. rw (letter_apart c 59 l refl) refl), (λ seen after place. rw (letter_apart c 59 l refl) refl), refl, (λ seen. refl))

-- REFERENCES

skipped : (rows : List Row) (seen : AttrNames) (part : Part) (k j place : ℕ) (text : List ℕ) → k ≤ length text → tag_part_errors rows seen part (k + j) place text ≡ tag_part_errors rows seen part j (place + k) (drop k text)
skipped rows seen part zero j place text h = rw (zero-add, add-zero) refl
skipped rows seen part (suc k) j place [] h = absurd (omega arith)
skipped rows seen part (suc k) j place (c ∷ rest) h =
    let e : suc k + j ≡ suc (k + j) = omega arith in
    let f : place + suc k ≡ place + 1 + k = omega arith in
    rw (e, f) (past rows seen part (k + j) place c rest ∙ skipped rows seen part k j (place + 1) rest (omega arith))

-- a `&` in a value tells nothing but of its reference
and_quiet : (part : Part) (after : Option ℕ) (place : ℕ) → reads_refs part ≡ true → tag_char_errors part 38 after place ≡ part_end_told part
and_quiet parts.Name after place h = absurd (false≢true h)
and_quiet parts.Attributes after place h = absurd (false≢true h)
and_quiet parts.AttrName after place h = absurd (false≢true h)
and_quiet parts.AfterName after place h = absurd (false≢true h)
and_quiet parts.Value after place h = refl
and_quiet (parts.Inside ends.DoubleQuote) after place h = refl
and_quiet (parts.Inside ends.SingleQuote) after place h = refl
and_quiet (parts.Inside ends.Space) after place h = refl
and_quiet (parts.Number ends.DoubleQuote base v start) after place h = rw (no_digit base).5 (append-nil _ ∙ append-nil _)
and_quiet (parts.Number ends.SingleQuote base v start) after place h = rw (no_digit base).5 (append-nil _ ∙ append-nil _)
and_quiet (parts.Number ends.Space base v start) after place h = rw (no_digit base).5 (append-nil _ ∙ append-nil _)
and_quiet (parts.Ampersand ends.DoubleQuote start) after place h = refl
and_quiet (parts.Ampersand ends.SingleQuote start) after place h = refl
and_quiet (parts.Ampersand ends.Space start) after place h = refl

-- nor of the names
and_alone : (seen : AttrNames) (part : Part) (after : Option ℕ) (place : ℕ) → reads_refs part ≡ true → all_char_errors seen part 38 after place ≡ part_end_told part
and_alone seen parts.Name after place h = absurd (false≢true h)
and_alone seen parts.Attributes after place h = absurd (false≢true h)
and_alone seen parts.AttrName after place h = absurd (false≢true h)
and_alone seen parts.AfterName after place h = absurd (false≢true h)
and_alone seen parts.Value after place h = and_quiet parts.Value after place h
and_alone seen (parts.Inside end) after place h = and_quiet (parts.Inside end) after place h
and_alone seen (parts.Number end base v start) after place h = and_quiet (parts.Number end base v start) after place h
and_alone seen (parts.Ampersand end start) after place h = and_quiet (parts.Ampersand end start) after place h

pub and_told : (rows : List Row) (seen : AttrNames) (part : Part) (place : ℕ) (rest : List ℕ) → reads_refs part ≡ true → part_told rows seen part place (38 ∷ rest) ≡ part_end_told part ++ value_told rows place (38 ∷ rest)
and_told rows seen part place rest h = rw (and_alone seen part (slice_get rest 0) place h, h) refl

and_passed : (rows : List Row) (seen : AttrNames) (end : ValueEnd) (k place : ℕ) (rest : List ℕ) → (value_reference rows (38 ∷ rest)).len ≡ suc k → tag_part_errors rows seen (parts.Inside end) 0 place (38 ∷ rest) ≡ value_ref_errors rows place (38 ∷ rest) ++ tag_part_errors rows seen (parts.Inside end) k (place + 1) rest
and_passed rows seen ends.DoubleQuote k place rest e = let f : suc k - 1 ≡ k = omega arith in unroll rows seen (parts.Inside ends.DoubleQuote) place 38 rest ∙ rw (e, f) refl
and_passed rows seen ends.SingleQuote k place rest e = let f : suc k - 1 ≡ k = omega arith in unroll rows seen (parts.Inside ends.SingleQuote) place 38 rest ∙ rw (e, f) refl
and_passed rows seen ends.Space k place rest e = let f : suc k - 1 ≡ k = omega arith in unroll rows seen (parts.Inside ends.Space) place 38 rest ∙ rw (e, f) refl

ref_passed : (rows : List Row) (seen : AttrNames) (end : ValueEnd) (k j place : ℕ) (rest : List ℕ) → (value_reference rows (38 ∷ rest)).len ≡ suc (k + j) → k ≤ length rest →
    tag_part_errors rows seen (parts.Inside end) 0 place (38 ∷ rest) ≡ value_ref_errors rows place (38 ∷ rest) ++ tag_part_errors rows seen (parts.Inside end) j (place + suc k) (drop k rest)
ref_passed rows seen end k j place rest e h =
    let f : place + suc k ≡ place + 1 + k = omega arith in
    rw f (and_passed rows seen end (k + j) place rest e ∙ ap (λ (es : List Fault). value_ref_errors rows place (38 ∷ rest) ++ es) (skipped rows seen (parts.Inside end) k j (place + 1) rest h))

no_number : (rows : List Row) (place : ℕ) (text : List ℕ) → later_ref_errors (ref_opener text) rows place text ≡ soon_ref_errors (ref_opener text) rows place text → value_ref_errors rows place text ≡ value_told rows place text
no_number rows place text e = ap (λ (es : List Fault). begun_ref_errors (ref_opener text) (value_reference rows text) place text ++ es) e

codes_moved : (end : ValueEnd) (n first : ℕ) (second : Option ℕ) (place : ℕ) → MovesRef (parts.Inside end) (refs.Codes n first second) place (parts.Inside end)
codes_moved end zero first second place = λ rows seen rest b some fit. absurd (omega arith)
codes_moved end (suc k) first second place = λ rows seen rest b some fit.
    let e : suc k ≡ suc (k + 0) = omega arith in
    ref_passed rows seen end k 0 place rest (ap (λ (r : Reference). r.len) b.1 ∙ e) (omega arith)
    ∙ ap (λ (es : List Fault). es ++ tag_part_errors rows seen (parts.Inside end) 0 (place + suc k) (drop k rest)) (no_number rows place (38 ∷ rest) (rw (b.0, b.2, b.3) refl))

number_moved : (end : ValueEnd) (base : Base) (n place : ℕ) → MovesRef (parts.Inside end) (refs.Numeric base n) place (parts.Number end base 0 place)
number_moved end base zero place = λ rows seen rest b some fit. absurd (omega arith)
number_moved end base (suc k) place = λ rows seen rest b some fit.
    let m = numbered base 0 (drop k rest) in
    let e : suc k + m.len ≡ suc (k + m.len) = omega arith in
    ref_passed rows seen end k m.len place rest (rw b e) (omega arith) ∙ rw b refl

inside_moved : (part : Part) (found : ValueRef) (place n first : ℕ) (second : Option ℕ) → found ≡ refs.Codes n first second → IsInside part → MovesRef part found place part
inside_moved parts.Name found place n first second f i = absurd i
inside_moved parts.Attributes found place n first second f i = absurd i
inside_moved parts.AttrName found place n first second f i = absurd i
inside_moved parts.AfterName found place n first second f i = absurd i
inside_moved parts.Value found place n first second f i = absurd i
inside_moved (parts.Inside end) found place n first second f i = rw f (codes_moved end n first second place)
inside_moved (parts.Number end base v start) found place n first second f i = absurd i
inside_moved (parts.Ampersand end start) found place n first second f i = absurd i

-- one code point is passed that is text
literal_moved : (end : ValueEnd) (rows : List Row) (seen : AttrNames) (place : ℕ) (rest : List ℕ) → value_reference rows (38 ∷ rest) ≡ literal → later_ref_errors (ref_opener (38 ∷ rest)) rows place (38 ∷ rest) ≡ soon_ref_errors (ref_opener (38 ∷ rest)) rows place (38 ∷ rest) →
    part_errors rows seen (parts.Inside end) place (38 ∷ rest) ≡ value_told rows place (38 ∷ rest) ++ part_errors rows seen (parts.Inside end) (place + 1) rest
literal_moved end rows seen place rest e n =
    ref_passed rows seen end 0 0 place rest (ap (λ (r : Reference). r.len) e) (omega arith) ∙ ap (λ (es : List Fault). es ++ tag_part_errors rows seen (parts.Inside end) 0 (place + 1) rest) (no_number rows place (38 ∷ rest) n)

no_digits : (rows : List Row) (text : List ℕ) → ref_opener text ≡ Literal → value_reference rows text ≡ literal
no_digits rows text e = rw e refl

letters_moved : (end : ValueEnd) (place : ℕ) → MovesRef (parts.Inside end) refs.Letters place (parts.Ampersand end place)
letters_moved end place = λ rows seen rest b some fit.
    let whole : value_ref_errors rows place (38 ∷ rest) ≡ ampersand_errors place rest = rw (b.0, b.1) (ap (λ (c : Bool). fault_when c names.UnknownNamedCharacterReference place) (letters_many rows (38 ∷ rest) b.2)) in
    let told : value_told rows place (38 ∷ rest) ≡ [] = rw (b.0, b.1, b.2) refl in
    let after = tag_part_errors rows seen (parts.Inside end) 0 (place + 1) rest in
    ref_passed rows seen end 0 0 place rest (rw (b.0, b.1) refl) (omega arith)
    ∙ ap (λ (es : List Fault). es ++ after) whole
    ∙ ap (λ (es : List Fault). es ++ (ampersand_errors place rest ++ after)) (sym told)

-- a `;` closes the letters and digits, which are few
few_soon : (rows : List Row) (place : ℕ) (rest : List ℕ) → Begins rows refs.Unknown (38 ∷ rest) → later_ref_errors (ref_opener (38 ∷ rest)) rows place (38 ∷ rest) ≡ soon_ref_errors (ref_opener (38 ∷ rest)) rows place (38 ∷ rest)
few_soon rows place rest b = rw (b.0, b.1, b.2) (ap (λ (c : Bool). fault_when c names.UnknownNamedCharacterReference place) (letters_few rows (38 ∷ rest) true b.2))

few_moved : (part : Part) (found : ValueRef) (place : ℕ) → found ≡ refs.Unknown → IsInside part → MovesRef part found place part
few_moved parts.Name found place f i = absurd i
few_moved parts.Attributes found place f i = absurd i
few_moved parts.AttrName found place f i = absurd i
few_moved parts.AfterName found place f i = absurd i
few_moved parts.Value found place f i = absurd i
few_moved (parts.Inside end) found place f i = rw f (λ rows seen rest b some fit. literal_moved end rows seen place rest (rw (b.0, b.1) refl) (few_soon rows place rest b))
few_moved (parts.Number end base v start) found place f i = absurd i
few_moved (parts.Ampersand end start) found place f i = absurd i

unknown_moved : (part new : Part) (found : ValueRef) (place : ℕ) → found ≡ refs.Letters → IsInside part → ((end : ValueEnd) → part ≡ parts.Inside end → new ≡ parts.Ampersand end place) → MovesRef part found place new
unknown_moved parts.Name new found place f i m = absurd i
unknown_moved parts.Attributes new found place f i m = absurd i
unknown_moved parts.AttrName new found place f i m = absurd i
unknown_moved parts.AfterName new found place f i m = absurd i
unknown_moved parts.Value new found place f i m = absurd i
unknown_moved (parts.Inside end) new found place f i m = rw (f, m end refl) (letters_moved end place)
unknown_moved (parts.Number end base v start) new found place f i m = absurd i
unknown_moved (parts.Ampersand end start) new found place f i m = absurd i

no_digits_moved : (part : Part) (found : ValueRef) (place : ℕ) → found ≡ refs.Literal → IsInside part → MovesRef part found place part
no_digits_moved parts.Name found place f i = absurd i
no_digits_moved parts.Attributes found place f i = absurd i
no_digits_moved parts.AttrName found place f i = absurd i
no_digits_moved parts.AfterName found place f i = absurd i
no_digits_moved parts.Value found place f i = absurd i
no_digits_moved (parts.Inside end) found place f i = rw f (λ rows seen rest b some fit. literal_moved end rows seen place rest (no_digits rows (38 ∷ rest) b) (rw b refl))
no_digits_moved (parts.Number end base v start) found place f i = absurd i
no_digits_moved (parts.Ampersand end start) found place f i = absurd i

numeric_moved : (part new : Part) (found : ValueRef) (place : ℕ) (base : Base) (n : ℕ) → found ≡ refs.Numeric base n → IsInside part → ((end : ValueEnd) → part ≡ parts.Inside end → new ≡ parts.Number end base 0 place) → MovesRef part found place new
numeric_moved parts.Name new found place base n f i m = absurd i
numeric_moved parts.Attributes new found place base n f i m = absurd i
numeric_moved parts.AttrName new found place base n f i m = absurd i
numeric_moved parts.AfterName new found place base n f i m = absurd i
numeric_moved parts.Value new found place base n f i m = absurd i
numeric_moved (parts.Inside end) new found place base n f i m = rw (f, m end refl) (number_moved end base n place)
numeric_moved (parts.Number end base' v start) new found place base n f i m = absurd i
numeric_moved (parts.Ampersand end start) new found place base n f i m = absurd i

pub codes_move : {X E : Type 0} (r : Result X E) (old new : TagDraft) (found : ValueRef) (place : ℕ) (v : List ℕ) (n first : ℕ) (second : Option ℕ) → found ≡ refs.Codes n first second → IsInside old.part → OnOk r (new ≡ record old { attr_value = v }) → OnOk r (MovesRef old.part found place new.part)
codes_move (Ok x) old new found place v n first second f i e = rw e (inside_moved old.part found place n first second f i)
codes_move (Err x) old new found place v n first second f i e = tt

pub few_move : {X E : Type 0} (r : Result X E) (old new : TagDraft) (found : ValueRef) (place : ℕ) (v : List ℕ) → found ≡ refs.Unknown → IsInside old.part → OnOk r (new ≡ record old { attr_value = v }) → OnOk r (MovesRef old.part found place new.part)
few_move (Ok x) old new found place v f i e = rw e (few_moved old.part found place f i)
few_move (Err x) old new found place v f i e = tt

pub unknown_move : (old mid new : Part) (found : ValueRef) (place : ℕ) → found ≡ refs.Letters → IsInside old → mid ≡ old → ((end : ValueEnd) → mid ≡ parts.Inside end → new ≡ parts.Ampersand end place) → MovesRef old found place new
unknown_move old mid new found place f i e m = unknown_moved old new found place f i (λ end p. m end (e ∙ p))

pub literal_move : {X E : Type 0} (r : Result X E) (old new : TagDraft) (found : ValueRef) (place : ℕ) (v : List ℕ) → found ≡ refs.Literal → IsInside old.part → OnOk r (new ≡ record old { attr_value = v }) → OnOk r (MovesRef old.part found place new.part)
literal_move (Ok x) old new found place v f i e = rw e (no_digits_moved old.part found place f i)
literal_move (Err x) old new found place v f i e = tt

pub numeric_move : (old new : Part) (found : ValueRef) (place : ℕ) (base : Base) (n : ℕ) → found ≡ refs.Numeric base n → IsInside old → ((end : ValueEnd) → old ≡ parts.Inside end → new ≡ parts.Number end base 0 place) → MovesRef old found place new
numeric_move old new found place base n f i m = numeric_moved old new found place base n f i m

-- a `&` begins a value, or ends a number
pub value_settles : SettlesPart parts.Value 38 (parts.Inside ends.Space)
value_settles = ((λ rows seen place rest. unroll rows seen parts.Value place 38 rest ∙ sym (unroll rows seen (parts.Inside ends.Space) place 38 rest)), (λ seen after place. refl), refl, (λ seen. refl))

pub and_settles : {X E : Type 0} (r : Result X E) (old new : TagDraft) (end : ValueEnd) (base : Base) (v start : ℕ) (w : List ℕ) → old.part ≡ parts.Number end base v start → OnOk r (new ≡ record old { part = parts.Inside end; attr_value = w }) → OnOk r (SettlesPart old.part 38 new.part)
and_settles (Ok x) old new end base v start w p e = rw (e, p) (settles_number end base v start 38 (no_digit base).5 (λ e. absurd (omega arith)))
and_settles (Err x) old new end base v start w p e = tt

-- what of a number a `&` ends
and_ends : (part : Part) → settle_told part 38 ≡ part_end_told part
and_ends parts.Name = refl
and_ends parts.Attributes = refl
and_ends parts.AttrName = refl
and_ends parts.AfterName = refl
and_ends parts.Value = refl
and_ends (parts.Inside end) = refl
and_ends (parts.Number end base v start) = rw (no_digit base).5 refl
and_ends (parts.Ampersand end start) = refl

inside_end : (part : Part) → IsInside part → part_end_told part ≡ []
inside_end parts.Name i = refl
inside_end parts.Attributes i = refl
inside_end parts.AttrName i = refl
inside_end parts.AfterName i = refl
inside_end parts.Value i = refl
inside_end (parts.Inside end) i = refl
inside_end (parts.Number end base v start) i = absurd i
inside_end (parts.Ampersand end start) i = absurd i

pub refs_move : {X E : Type 0} (r : Result X E) (old mid new : Part) (found : ValueRef) (place : ℕ) → SettlesPart old 38 mid → IsInside mid → OnOk r (MovesRef mid found place new) → OnOk r (MovesRef old found place new)
refs_move (Ok x) old mid new found place s i m = λ rows seen rest b some fit.
    let told = value_told rows place (38 ∷ rest) in
    let later = part_errors rows seen new (place + ref_len found) (drop (ref_len found) (38 ∷ rest)) in
    s.0 rows seen place rest
    ∙ ap₂ (λ (es fs : List Fault). es ++ fs) (and_ends old) (m rows seen rest b some fit ∙ ap (λ (es : List Fault). (es ++ told) ++ later) (inside_end mid i))
    ∙ sym (append_assoc (part_end_told old) told later)
refs_move (Err x) old mid new found place s i m = tt

-- WHAT TELLS NOTHING

record IsAttrPlain (c : ℕ) : Type 0 where
  double : (c == 34) ≡ false
  single : (c == 39) ≡ false
  less : (c == 60) ≡ false

none_attr : (c : ℕ) → (c == 34 || (c == 39 || c == 60)) ≡ false → IsAttrPlain c
none_attr c h =
    let b = second_false (c == 34) _ h in
    record { double = first_false (c == 34) _ h; single = first_false (c == 39) _ b; less = second_false (c == 39) (c == 60) b }

quiet_value : (c place : ℕ) → (c == 62 || (c == 60 || (c == 61 || c == 96))) ≡ false → cond (is_quote c) [] (fault_when (c == 62) names.MissingAttributeValue place ++ unquoted_errors c place) ≡ []
quiet_value c place h =
    let a = first_false (c == 62) _ h in
    let b = second_false (c == 62) _ h in
    let d = first_false (c == 60) _ b in
    let e = second_false (c == 60) _ b in
    let f = first_false (c == 61) _ e in
    let g = second_false (c == 61) _ e in
    elim (bool_is (is_quote c)) [
      | inl q ↦ rw q refl
      | inr q ↦ rw (q, a, first_false (c == 34) (c == 39) q, second_false (c == 34) (c == 39) q, d, f, g) refl
    ]

quiet_part : (part : Part) (c : ℕ) (after : Option ℕ) (place : ℕ) → may_tell_in part c ≡ false → ¬ (c ≡ 47) → part_char_errors part c after place ≡ []
quiet_part parts.Name c after place h s = rw (differs c 47 s) refl
quiet_part parts.Attributes c after place h s =
    let n = none_attr c (second_false (c == 61) _ h) in
    rw (differs c 47 s, first_false (c == 61) _ h, n.double, n.single, n.less) refl
quiet_part parts.AttrName c after place h s = let n = none_attr c h in rw (differs c 47 s, n.double, n.single, n.less) refl
quiet_part parts.AfterName c after place h s = let n = none_attr c h in rw (differs c 47 s, n.double, n.single, n.less) refl
quiet_part parts.Value c after place h s = quiet_value c place h
quiet_part (parts.Inside ends.DoubleQuote) c after place h s = rw h refl
quiet_part (parts.Inside ends.SingleQuote) c after place h s = rw h refl
quiet_part (parts.Inside ends.Space) c after place h s = rw h refl
quiet_part (parts.Number end base v start) c after place h s = let d = a_digit base c h in rw (d, digit_told end base c after place d) refl
quiet_part (parts.Ampersand end start) c after place h s = let l = a_letter c h in rw (letter_apart c 59 l refl, letter_told end c after place l) refl

-- a code point that may tell no error
pub quiet_char : (part : Part) (c : ℕ) (after : Option ℕ) (place : ℕ) → may_tell part c ≡ false → ¬ (c ≡ 47) → tag_char_errors part c after place ≡ []
quiet_char part c after place h s = rw (first_false (c == 0) _ h, quiet_part part c after place (second_false (c == 0) _ h) s) refl

quiet_looks_in : (part : Part) (c : ℕ) → may_tell_in part c ≡ false → ¬ (c ≡ 47) → looks_on part c ≡ false
quiet_looks_in parts.Name c h s = differs c 47 s
quiet_looks_in parts.Attributes c h s = differs c 47 s
quiet_looks_in parts.AttrName c h s = differs c 47 s
quiet_looks_in parts.AfterName c h s = differs c 47 s
quiet_looks_in parts.Value c h s = differs c 47 s
quiet_looks_in (parts.Inside ends.DoubleQuote) c h s = rw (differs c 47 s, h) refl
quiet_looks_in (parts.Inside ends.SingleQuote) c h s = rw (differs c 47 s, h) refl
quiet_looks_in (parts.Inside ends.Space) c h s = differs c 47 s
quiet_looks_in (parts.Number ends.DoubleQuote base v start) c h s = rw (differs c 47 s, apart base c 34 (a_digit base c h) (no_digit base).0) refl
quiet_looks_in (parts.Number ends.SingleQuote base v start) c h s = rw (differs c 47 s, apart base c 39 (a_digit base c h) (no_digit base).1) refl
quiet_looks_in (parts.Number ends.Space base v start) c h s = differs c 47 s
quiet_looks_in (parts.Ampersand ends.DoubleQuote start) c h s = rw (differs c 47 s, letter_apart c 34 (a_letter c h) refl) refl
quiet_looks_in (parts.Ampersand ends.SingleQuote start) c h s = rw (differs c 47 s, letter_apart c 39 (a_letter c h) refl) refl
quiet_looks_in (parts.Ampersand ends.Space start) c h s = differs c 47 s

-- nor is it judged by the one after it
pub quiet_looks : (part : Part) (c : ℕ) → may_tell part c ≡ false → ¬ (c ≡ 47) → looks_on part c ≡ false
quiet_looks part c h s = quiet_looks_in part c (second_false (c == 0) _ h) s

-- a quote that closes a value before what ends a name
both_true : (a b : Bool) → (a && b) ≡ true → (a ≡ true) × (b ≡ true)
both_true true b h = (refl, h)
both_true false b h = absurd (false≢true h)

none_either : (b : Bool) (place : ℕ) → fault_when (b && false) names.MissingWhitespaceBetweenAttributes (place + 1) ++ [] ≡ []
none_either true place = refl
none_either false place = refl

quote_quiet : (quote c next place : ℕ) → (quote == 0) ≡ false → (c == quote && ends_name next) ≡ true → quote_errors quote c (Some next) place ++ null_errors (Some c) place ≡ []
quote_quiet quote c next place z h = elim (cases_eq c quote) [
  | inl e ↦ rw (e, z, (both_true (c == quote) (ends_name next) h).1) (none_either (quote == quote) place)
  | inr e ↦ absurd (false≢true (sym (differs c quote e) ∙ (both_true (c == quote) (ends_name next) h).0))
]

pub close_quiet : (part : Part) (c next place : ℕ) → closes_before part c next ≡ true → tag_char_errors part c (Some next) place ≡ []
close_quiet parts.Name c next place h = absurd (false≢true h)
close_quiet parts.Attributes c next place h = absurd (false≢true h)
close_quiet parts.AttrName c next place h = absurd (false≢true h)
close_quiet parts.AfterName c next place h = absurd (false≢true h)
close_quiet parts.Value c next place h = absurd (false≢true h)
close_quiet (parts.Inside ends.DoubleQuote) c next place h = quote_quiet 34 c next place refl h
close_quiet (parts.Inside ends.SingleQuote) c next place h = quote_quiet 39 c next place refl h
close_quiet (parts.Inside ends.Space) c next place h = absurd (false≢true h)
close_quiet (parts.Number end base v start) c next place h = absurd (false≢true h)
close_quiet (parts.Ampersand end start) c next place h = absurd (false≢true h)

-- FRONTS

pub cut_in_two : (n : ℕ) (text more : List ℕ) → text ++ more ≡ take n text ++ (drop n text ++ more)
cut_in_two n text more = ap (λ (x : List ℕ). x ++ more) (sym (take-append-drop n text)) ∙ append_assoc (take n text) (drop n text) more

-- where one of these code points is passed so, a front of them is
front_of : (p : ℕ → Bool) (part : Part) → ((c : ℕ) → p c ≡ true → (rows : List Row) (seen : AttrNames) (place : ℕ) (rest : List ℕ) → part_errors rows seen part place (c ∷ rest) ≡ part_errors rows seen part (place + 1) rest) →
    (xs : List ℕ) → AllPass p xs → (rows : List Row) (seen : AttrNames) (place : ℕ) (more : List ℕ) → part_errors rows seen part place (xs ++ more) ≡ part_errors rows seen part (place + length xs) more
front_of p part one [] a rows seen place more = rw add-zero refl
front_of p part one (c ∷ xs) a rows seen place more =
    let e : place + suc (length xs) ≡ place + 1 + length xs = omega arith in
    rw e (one c a.0 rows seen place (xs ++ more) ∙ front_of p part one xs a.1 rows seen (place + 1) more)

parts_front : (p : ℕ → Bool) (part : Part) → ((c : ℕ) → p c ≡ true → (rows : List Row) (seen : AttrNames) (place : ℕ) (rest : List ℕ) → part_errors rows seen part place (c ∷ rest) ≡ part_errors rows seen part (place + 1) rest) →
    (text : List ℕ) (n : ℕ) → n ≤ length text → AllPass p (take n text) → (rows : List Row) (seen : AttrNames) (place : ℕ) (more : List ℕ) → part_errors rows seen part place (text ++ more) ≡ part_errors rows seen part (place + n) (drop n text ++ more)
parts_front p part one text n h a rows seen place more =
    ap (λ (x : List ℕ). part_errors rows seen part place x) (cut_in_two n text more)
    ∙ front_of p part one (take n text) a rows seen place (drop n text ++ more)
    ∙ ap (λ (k : ℕ). part_errors rows seen part (place + k) (drop n text ++ more)) (length-take-le n text h)

-- what a name takes as it stands
pub record IsNamePart (c : ℕ) : Type 0 where
  pub ends : ends_name c ≡ false
  pub equals : (c == 61) ≡ false
  pub space : is_space c ≡ false
  pub slash : (c == 47) ≡ false
  pub greater : (c == 62) ≡ false
  pub double : (c == 34) ≡ false
  pub single : (c == 39) ≡ false
  pub less : (c == 60) ≡ false
  pub null : (c == 0) ≡ false

pub name_part : (c : ℕ) → is_copied copied.Name c ≡ true → IsNamePart c
name_part c h =
    let a = neither (ends_attr c) _ h in
    let b = neither (c == 0) _ a.1 in
    let d = neither (c == 34) _ b.1 in
    let e = neither (c == 39) _ d.1 in
    let f = neither (c == 60) _ e.1 in
    let n : ends_name c ≡ false = first_false (ends_name c) (c == 61) a.0 in
    let s : (is_space c || c == 47) ≡ false = first_false (is_space c || c == 47) (c == 62) n in
    record {
      ends = n;
      equals = second_false (ends_name c) (c == 61) a.0;
      space = first_false (is_space c) (c == 47) s;
      slash = second_false (is_space c) (c == 47) s;
      greater = second_false (is_space c || c == 47) (c == 62) n;
      double = d.0;
      single = e.0;
      less = f.0;
      null = b.0;
    }

name_one : (c : ℕ) → is_copied copied.Name c ≡ true → (rows : List Row) (seen : AttrNames) (place : ℕ) (rest : List ℕ) → part_errors rows seen parts.Name place (c ∷ rest) ≡ part_errors rows seen parts.Name (place + 1) rest
name_one c h rows seen place rest =
    let n = name_part c h in
    passes_quietly rows seen parts.Name parts.Name place c rest refl (λ r. absurd (false≢true r)) (rw (n.greater, n.slash) refl) (rw (n.slash, n.null) refl) (rw n.ends refl) refl

-- a name takes it as it stands
pub name_stands : (c : ℕ) → is_copied copied.Name c ≡ true → (ends_attr c ≡ false) × (name_char c ≡ c)
name_stands c h =
    let a = neither (ends_attr c) _ h in
    let b = neither (c == 0) _ a.1 in
    let d = neither (c == 34) _ b.1 in
    let e = neither (c == 39) _ d.1 in
    let f = neither (c == 60) _ e.1 in
    let g = is_not (between 65 90 c) f.1 in
    (a.0, rw (g, b.0) refl)

attr_name_one : (c : ℕ) → is_copied copied.Name c ≡ true → (rows : List Row) (kept : List (List ℕ)) (name : List ℕ) (place : ℕ) (rest : List ℕ) →
    part_errors rows (record { kept = kept; name = name }) parts.AttrName place (c ∷ rest) ≡ part_errors rows (record { kept = kept; name = name ++ c ∷ [] }) parts.AttrName (place + 1) rest
attr_name_one c h rows kept name place rest =
    let n = name_part c h in
    let s = name_stands c h in
    passes_quietly rows (record { kept = kept; name = name }) parts.AttrName parts.AttrName place c rest refl (λ r. absurd (false≢true r)) (rw (n.greater, n.slash) refl) (rw (n.slash, n.double, n.single, n.less, n.null) refl) (rw (n.ends, n.space, n.equals) refl) (rw s.0 refl)
    ∙ rw (s.0, s.1) refl

attr_names_on : (xs : List ℕ) → AllPass (is_copied copied.Name) xs → (rows : List Row) (kept : List (List ℕ)) (name : List ℕ) (place : ℕ) (more : List ℕ) →
    part_errors rows (record { kept = kept; name = name }) parts.AttrName place (xs ++ more) ≡ part_errors rows (record { kept = kept; name = name ++ xs }) parts.AttrName (place + length xs) more
attr_names_on [] a rows kept name place more = rw (add-zero, append-nil) refl
attr_names_on (c ∷ xs) a rows kept name place more =
    let e : place + suc (length xs) ≡ place + 1 + length xs = omega arith in
    rw e
    (attr_name_one c a.0 rows kept name place (xs ++ more) ∙ attr_names_on xs a.1 rows kept (name ++ c ∷ []) (place + 1) more
    ∙ ap (λ (x : List ℕ). part_errors rows (record { kept = kept; name = x }) parts.AttrName (place + 1 + length xs) more) (append_assoc name (c ∷ []) xs))

not_and : (c : ℕ) → (c == 38) ≡ false → c ≡ 38 → ⊥
not_and c h e = absurd (false≢true (sym h ∙ rw e refl))

double_one : (c : ℕ) → is_copied copied.DoubleQuoted c ≡ true → (rows : List Row) (seen : AttrNames) (place : ℕ) (rest : List ℕ) → part_errors rows seen (parts.Inside ends.DoubleQuote) place (c ∷ rest) ≡ part_errors rows seen (parts.Inside ends.DoubleQuote) (place + 1) rest
double_one c h rows seen place rest =
    let z = neither (c == 0) _ h in
    let b = neither (c == 34) _ z.1 in
    passes_quietly rows seen (parts.Inside ends.DoubleQuote) (parts.Inside ends.DoubleQuote) place c rest refl (λ r e. not_and c (is_not (c == 38) b.1) e) refl (rw (b.0, z.0) refl) (rw b.0 refl) refl

single_one : (c : ℕ) → is_copied copied.SingleQuoted c ≡ true → (rows : List Row) (seen : AttrNames) (place : ℕ) (rest : List ℕ) → part_errors rows seen (parts.Inside ends.SingleQuote) place (c ∷ rest) ≡ part_errors rows seen (parts.Inside ends.SingleQuote) (place + 1) rest
single_one c h rows seen place rest =
    let z = neither (c == 0) _ h in
    let b = neither (c == 39) _ z.1 in
    passes_quietly rows seen (parts.Inside ends.SingleQuote) (parts.Inside ends.SingleQuote) place c rest refl (λ r e. not_and c (is_not (c == 38) b.1) e) refl (rw (b.0, z.0) refl) (rw b.0 refl) refl

pub record IsUnquotedPart (c : ℕ) : Type 0 where
  pub ends : ends_unquoted c ≡ false
  pub space : is_space c ≡ false
  pub greater : (c == 62) ≡ false
  pub double : (c == 34) ≡ false
  pub single : (c == 39) ≡ false
  pub reference : (c == 38) ≡ false
  pub less : (c == 60) ≡ false
  pub equals : (c == 61) ≡ false
  pub grave : (c == 96) ≡ false
  pub null : (c == 0) ≡ false

pub unquoted_part : (c : ℕ) → is_copied copied.Unquoted c ≡ true → IsUnquotedPart c
unquoted_part c h =
    let a = neither (ends_unquoted c) _ h in
    let b = neither (c == 0) _ a.1 in
    let d = neither (c == 34) _ b.1 in
    let e = neither (c == 39) _ d.1 in
    let f = neither (c == 38) _ e.1 in
    let g = neither (c == 60) _ f.1 in
    let i = neither (c == 61) _ g.1 in
    record {
      ends = a.0;
      space = first_false (is_space c) (c == 62) a.0;
      greater = second_false (is_space c) (c == 62) a.0;
      double = d.0;
      single = e.0;
      reference = f.0;
      less = g.0;
      equals = i.0;
      grave = is_not (c == 96) i.1;
      null = b.0;
    }

unquoted_one : (c : ℕ) → is_copied copied.Unquoted c ≡ true → (rows : List Row) (seen : AttrNames) (place : ℕ) (rest : List ℕ) → part_errors rows seen (parts.Inside ends.Space) place (c ∷ rest) ≡ part_errors rows seen (parts.Inside ends.Space) (place + 1) rest
unquoted_one c h rows seen place rest =
    let u = unquoted_part c h in
    passes_quietly rows seen (parts.Inside ends.Space) (parts.Inside ends.Space) place c rest refl (λ r e. not_and c u.reference e) u.greater (rw (u.double, u.single, u.less, u.equals, u.grave, u.null) refl) (rw u.ends refl) refl

-- a value without quotes begins, and ends
pub value_opens_told : (rows : List Row) (seen : AttrNames) (place c : ℕ) (rest : List ℕ) → is_copied copied.Unquoted c ≡ true → part_errors rows seen parts.Value place (c ∷ rest) ≡ part_errors rows seen (parts.Inside ends.Space) place (c ∷ rest)
value_opens_told rows seen place c rest h =
    let u = unquoted_part c h in
    passes_quietly rows seen parts.Value (parts.Inside ends.Space) place c rest refl (λ r e. not_and c u.reference e) u.greater (rw (u.double, u.single, u.greater, u.less, u.equals, u.grave, u.null) refl) (rw (u.ends, u.space, u.double, u.single) refl) refl
    ∙ sym (unquoted_one c h rows seen place rest)

space_ends : (c : ℕ) → ends_unquoted c ≡ true → (c ≡ 9) ⊎ (c ≡ 10) ⊎ (c ≡ 12) ⊎ (c ≡ 32) ⊎ (c ≡ 62)
space_ends c h = grind (arith, nat_tests)

name_ends : (c : ℕ) → ends_name c ≡ true → (c ≡ 9) ⊎ (c ≡ 10) ⊎ (c ≡ 12) ⊎ (c ≡ 32) ⊎ (c ≡ 47) ⊎ (c ≡ 62)
name_ends c h = grind (arith, nat_tests)

turned : (rows : List Row) (seen : AttrNames) (part : Part) (place c : ℕ) (rest : List ℕ) → tag_char_errors part c (slice_get rest 0) place ≡ tag_char_errors parts.Attributes c (slice_get rest 0) place → ends_tag part c (slice_get rest 0) ≡ ends_tag parts.Attributes c (slice_get rest 0) →
    next_part part c ≡ next_part parts.Attributes c → (reads_refs part && c == 38) ≡ false → name_errors seen part (Some c) place ≡ [] → next_names seen part c ≡ next_names seen parts.Attributes c →
    tag_part_errors rows seen part 0 place (c ∷ rest) ≡ tag_part_errors rows seen parts.Attributes 0 place (c ∷ rest)
turned rows seen part place c rest t e n r m q = unroll rows seen part place c rest ∙ rw (m, t, e, n, r, q) refl ∙ sym (unroll rows seen parts.Attributes place c rest)

pub space_closes_told : (rows : List Row) (seen : AttrNames) (place c : ℕ) (rest : List ℕ) → ends_unquoted c ≡ true → part_errors rows seen (parts.Inside ends.Space) place (c ∷ rest) ≡ part_errors rows seen parts.Attributes place (c ∷ rest)
space_closes_told rows seen place c rest h = elim (space_ends c h) [
  | inl e ↦ rw e (turned rows seen (parts.Inside ends.Space) place 9 rest refl refl refl refl refl refl)
  | inr (inl e) ↦ rw e (turned rows seen (parts.Inside ends.Space) place 10 rest refl refl refl refl refl refl)
  | inr (inr (inl e)) ↦ rw e (turned rows seen (parts.Inside ends.Space) place 12 rest refl refl refl refl refl refl)
  | inr (inr (inr (inl e))) ↦ rw e (turned rows seen (parts.Inside ends.Space) place 32 rest refl refl refl refl refl refl)
  | inr (inr (inr (inr e))) ↦ rw e (turned rows seen (parts.Inside ends.Space) place 62 rest refl refl refl refl refl refl)
]

pub name_ends_told : (rows : List Row) (seen : AttrNames) (place c : ℕ) (rest : List ℕ) → ends_name c ≡ true → part_errors rows seen parts.Name place (c ∷ rest) ≡ part_errors rows seen parts.Attributes place (c ∷ rest)
name_ends_told rows seen place c rest h = elim (name_ends c h) [
  | inl e ↦ rw e (turned rows seen parts.Name place 9 rest refl refl refl refl refl refl)
  | inr (inl e) ↦ rw e (turned rows seen parts.Name place 10 rest refl refl refl refl refl refl)
  | inr (inr (inl e)) ↦ rw e (turned rows seen parts.Name place 12 rest refl refl refl refl refl refl)
  | inr (inr (inr (inl e))) ↦ rw e (turned rows seen parts.Name place 32 rest refl refl refl refl refl refl)
  | inr (inr (inr (inr (inl e)))) ↦ rw e (turned rows seen parts.Name place 47 rest (ap (λ (es : List Fault). es ++ []) (sym (append-nil _))) refl refl refl refl refl)
  | inr (inr (inr (inr (inr e)))) ↦ rw e (turned rows seen parts.Name place 62 rest refl refl refl refl refl refl)
]

pub name_front_told : (part : Part) (text : List ℕ) (n : ℕ) → part ≡ parts.Name → n ≤ length text → AllPass (is_copied copied.Name) (take n text) → (rows : List Row) (seen : AttrNames) (place : ℕ) (more : List ℕ) → part_errors rows seen part place (text ++ more) ≡ part_errors rows seen part (place + n) (drop n text ++ more)
name_front_told part text n p h a rows seen place more = rw p (parts_front (is_copied copied.Name) parts.Name name_one text n h a rows seen place more)

attr_names_front : (text : List ℕ) (n : ℕ) → n ≤ length text → AllPass (is_copied copied.Name) (take n text) → (rows : List Row) (kept : List (List ℕ)) (name : List ℕ) (place : ℕ) (more : List ℕ) →
    part_errors rows (record { kept = kept; name = name }) parts.AttrName place (text ++ more) ≡ part_errors rows (record { kept = kept; name = name ++ take n text }) parts.AttrName (place + n) (drop n text ++ more)
attr_names_front text n h a rows kept name place more =
    ap (λ (x : List ℕ). part_errors rows (record { kept = kept; name = name }) parts.AttrName place x) (cut_in_two n text more)
    ∙ attr_names_on (take n text) a rows kept name place (drop n text ++ more)
    ∙ ap (λ (k : ℕ). part_errors rows (record { kept = kept; name = name ++ take n text }) parts.AttrName (place + k) (drop n text ++ more)) (length-take-le n text h)

pub attr_name_front_told : (part : Part) (text : List ℕ) (n : ℕ) → part ≡ parts.AttrName → n ≤ length text → AllPass (is_copied copied.Name) (take n text) → (rows : List Row) (kept : List (List ℕ)) (name : List ℕ) (place : ℕ) (more : List ℕ) →
    part_errors rows (names_by part kept name) part place (text ++ more) ≡ part_errors rows (names_by part kept (name ++ take n text)) part (place + n) (drop n text ++ more)
attr_name_front_told part text n p h a rows kept name place more = rw p (attr_names_front text n h a rows kept name place more)

value_front_told : (end : ValueEnd) (text : List ℕ) (n : ℕ) → n ≤ length text → AllPass (is_copied (copied_in end)) (take n text) → (rows : List Row) (seen : AttrNames) (place : ℕ) (more : List ℕ) → part_errors rows seen (parts.Inside end) place (text ++ more) ≡ part_errors rows seen (parts.Inside end) (place + n) (drop n text ++ more)
value_front_told ends.DoubleQuote text n h a rows seen place more = parts_front (is_copied copied.DoubleQuoted) (parts.Inside ends.DoubleQuote) double_one text n h a rows seen place more
value_front_told ends.SingleQuote text n h a rows seen place more = parts_front (is_copied copied.SingleQuoted) (parts.Inside ends.SingleQuote) single_one text n h a rows seen place more
value_front_told ends.Space text n h a rows seen place more = parts_front (is_copied copied.Unquoted) (parts.Inside ends.Space) unquoted_one text n h a rows seen place more

pub inside_front_told : (end : ValueEnd) (part : Part) (text : List ℕ) (n : ℕ) → part ≡ parts.Inside end → n ≤ length text → AllPass (is_copied (copied_in end)) (take n text) → (rows : List Row) (seen : AttrNames) (place : ℕ) (more : List ℕ) → part_errors rows seen part place (text ++ more) ≡ part_errors rows seen part (place + n) (drop n text ++ more)
inside_front_told end part text n p h a rows seen place more = rw p (value_front_told end text n h a rows seen place more)

-- at the end of the text a number ends, or a name
pub part_ends : (rows : List Row) (seen : AttrNames) (part : Part) (place : ℕ) → part_errors rows seen part place [] ≡ part_end_told part ++ name_errors seen part None place
unfolding tag_part_errors
part_ends rows seen parts.Name place = refl
part_ends rows seen parts.Attributes place = refl
part_ends rows seen parts.AttrName place = refl
part_ends rows seen parts.AfterName place = refl
part_ends rows seen parts.Value place = refl
part_ends rows seen (parts.Inside end) place = refl
part_ends rows seen (parts.Number end base v start) place = ap (λ (es : List Fault). es ++ []) (errors_end base v start)
part_ends rows seen (parts.Ampersand end start) place = ap (λ (es : List Fault). es ++ []) (letters_end start)
