-- The numbers of references, and what references tell.
use Rattle.std.proofs.Common.{Some, ◌≡◌, ℕ, zero, suc, ◌+◌, ◌*◌, ◌-◌, ◌<◌, ◌≤◌, List, [], ◌∷◌, ◌++◌, drop, get_or, length, map, Bool, true, false, not, cond, ◌==◌, ◌&&◌, Option, None, refl, append-nil, ap, sym, ◌∙◌, arith, zero-add}
use Rattle.std.specs.Char.{digit_value, is_ascii_alphanumeric}
use Rattle.std.specs.Int.Digits.{number_from_digits_after}
use Rattle.std.specs.List.{slice_get}
use Rattle.std.proofs.lemmas.Bool.{false≢true, ne_eqb}
use Rattle.std.proofs.lemmas.List.{drop_more}
use Rattle.std.proofs.lemmas.Bool.Decides.{nat_tests}
use Rattle.html_charref.specs.Number.{char_of, radix, capped}
use Rattle.html_charref.specs.declared.number.Base.{Base}
use Rattle.html_charref.specs.declared.number.Base.TheVariants.{Decimal, Hex}
use Rattle.html_charref.specs.declared.table.Row.{Row}
use Rattle.html_charref.proofs.NumberLemmas.{capped-step, char_of-capped, fault_of-capped}
use Rattle.html_tokens.specs.Cut.{cut, is, passes, stop_mark}
use Rattle.html_tokens.specs.Inside.{fault_when}
use Rattle.html_tokens.specs.declared.fault_name.FaultName.TheVariants as names
use Rattle.html_tokens.specs.InsideReferences.{ampersand_errors, ampersand_told, found_told, is_number_closed, number_end_errors, number_errors, number_told, value_told}
use Rattle.html_tokens.specs.Reference.{are_letters_closed, closed_within, closes_letters, ends_digits, is_digit, letters_after, letters_bound, Numbered, numbered, ref_opener, semicolon}
use Rattle.html_charref.specs.Table.{longest, longest_len}
use Rattle.std.specs.Option.{MatchOption}
use Rattle.html_tokens.specs.Input.{Decided, IsShort}
use Rattle.html_tokens.specs.declared.input.Input.{Input}
use Rattle.html_tokens.specs.declared.token.RefOpener.TheVariants.{Named}
use Rattle.html_tokens.specs.Value.{Begins, ref_len}
use Rattle.html_tokens.specs.declared.reference.ValueRef.{ValueRef}
use Rattle.html_tokens.specs.declared.reference.ValueRef.TheVariants as refs

capped-capped : (v : ℕ) → capped (capped v) ≡ capped v
capped-capped v = omega arith

-- the number so far counts only up to the first number past the code points
number_capped : (b v : ℕ) (ds : List ℕ) → 0 < b → capped (number_from_digits_after b (capped v) ds) ≡ capped (number_from_digits_after b v ds)
number_capped b v [] h = capped-capped v
number_capped b v (d ∷ ds) h =
    sym (number_capped b (capped v * b + d) ds h)
    ∙ ap (λ x. capped (number_from_digits_after b x ds)) (capped-step v b d h)
    ∙ number_capped b (v * b + d) ds h

pub char_capped : (b v w : ℕ) (ds : List ℕ) → 0 < b → w ≡ capped v → char_of (number_from_digits_after b w ds) ≡ char_of (number_from_digits_after b v ds)
char_capped b v w ds h e =
    rw e (sym (char_of-capped (number_from_digits_after b (capped v) ds)) ∙ ap char_of (number_capped b v ds h) ∙ char_of-capped (number_from_digits_after b v ds))

pub some_radix : (base : Base) → 0 < radix base
some_radix Decimal = omega arith
some_radix Hex = omega arith

suc-plus : (a b : ℕ) → suc a + b ≡ suc (a + b)
suc-plus a b = omega arith

pub not_semicolon : (c : ℕ) → ¬ (c ≡ 59) → semicolon (c ∷ []) ≡ 0
not_semicolon c h = grind (arith, nat_tests)

pub digit_first : (base : Base) (v c : ℕ) (rest : List ℕ) → is_digit base c ≡ true →
    numbered base v (c ∷ rest) ≡ record { value = (numbered base (v * radix base + digit_value c) rest).value; len = suc (numbered base (v * radix base + digit_value c) rest).len }
unfolding cut
digit_first base v c rest e = rw (e, suc-plus) refl

pub digits_stop : (base : Base) (v c : ℕ) (rest : List ℕ) → is_digit base c ≡ false → numbered base v (c ∷ rest) ≡ record { value = v; len = semicolon (c ∷ rest) }
unfolding cut
digits_stop base v c rest e = rw (e, zero-add) refl

pub digits_end : (base : Base) (v : ℕ) → numbered base v [] ≡ record { value = v; len = 0 }
unfolding cut
digits_end base v = refl

-- WHAT NUMBERS TELL

end_capped : (closed : Bool) (n place : ℕ) → number_end_errors closed (capped n) place ≡ number_end_errors closed n place
unfolding number_end_errors
end_capped closed n place = rw (fault_of-capped n) refl

errors_capped : (closed : Bool) (b v w place : ℕ) (ds : List ℕ) → 0 < b → w ≡ capped v → number_end_errors closed (number_from_digits_after b w ds) place ≡ number_end_errors closed (number_from_digits_after b v ds) place
errors_capped closed b v w place ds h e =
    rw e (sym (end_capped closed (number_from_digits_after b (capped v) ds) place) ∙ ap (λ (n : ℕ). number_end_errors closed n place) (number_capped b v ds h) ∙ end_capped closed (number_from_digits_after b v ds) place)

closed_on : (base : Base) (c : ℕ) (rest : List ℕ) → is_digit base c ≡ true → is_number_closed base (c ∷ rest) ≡ is_number_closed base rest
unfolding cut
closed_on base c rest d = rw d refl

closed_here : (base : Base) (c : ℕ) (rest : List ℕ) → is_digit base c ≡ false → is_number_closed base (c ∷ rest) ≡ (c == 59)
unfolding cut
closed_here base c rest d = rw d refl

closed_nowhere : (base : Base) → is_number_closed base [] ≡ false
unfolding cut
closed_nowhere base = refl

-- a digit more
pub errors_digit : (base : Base) (v w place c : ℕ) (rest : List ℕ) → is_digit base c ≡ true → w ≡ capped (v * radix base + digit_value c) → number_errors base v place (c ∷ rest) ≡ number_errors base w place rest
errors_digit base v w place c rest d e =
    ap (λ (n : ℕ). number_end_errors (is_number_closed base (c ∷ rest)) n place) (ap (λ (n : Numbered). n.value) (digit_first base v c rest d))
    ∙ ap (λ (b : Bool). number_end_errors b (numbered base (v * radix base + digit_value c) rest).value place) (closed_on base c rest d)
    ∙ sym (errors_capped (is_number_closed base rest) (radix base) (v * radix base + digit_value c) w place (map digit_value (cut (stop_mark (ends_digits base)) rest).before) (some_radix base) e)

-- no digit more
pub errors_stop : (base : Base) (v place c : ℕ) (rest : List ℕ) → is_digit base c ≡ false → number_errors base v place (c ∷ rest) ≡ number_end_errors (c == 59) v place
errors_stop base v place c rest d =
    ap (λ (n : ℕ). number_end_errors (is_number_closed base (c ∷ rest)) n place) (ap (λ (n : Numbered). n.value) (digits_stop base v c rest d))
    ∙ ap (λ (b : Bool). number_end_errors b v place) (closed_here base c rest d)

pub errors_end : (base : Base) (v place : ℕ) → number_errors base v place [] ≡ number_end_errors false v place
errors_end base v place =
    ap (λ (n : ℕ). number_end_errors (is_number_closed base []) n place) (ap (λ (n : Numbered). n.value) (digits_end base v))
    ∙ ap (λ (b : Bool). number_end_errors b v place) (closed_nowhere base)

-- where no digit comes, all is told
pub number_whole : (base : Base) (v place : ℕ) (text : List ℕ) → passes (is_digit base) (slice_get text 0) ≡ false → number_errors base v place text ≡ number_told base v place (slice_get text 0)
number_whole base v place [] d = errors_end base v place
number_whole base v place (c ∷ rest) d = rw d (errors_stop base v place c rest d)

-- WHAT LETTERS AND DIGITS TELL

closed_letters : (c : ℕ) (rest : List ℕ) → is_ascii_alphanumeric c ≡ true → are_letters_closed (c ∷ rest) ≡ are_letters_closed rest
unfolding cut
closed_letters c rest l = rw l refl

closed_off : (c : ℕ) (rest : List ℕ) → is_ascii_alphanumeric c ≡ false → are_letters_closed (c ∷ rest) ≡ (c == 59)
unfolding cut
closed_off c rest l = rw l refl

closed_none : are_letters_closed [] ≡ false
unfolding cut
closed_none = refl

not_true : (b : Bool) → ¬ (b ≡ true) → b ≡ false
not_true true n = absurd (n refl)
not_true false n = refl

some_same : {b c : Bool} → Some b ≡ Some c → b ≡ c
some_same e = cc

letters_by : (is_letter : Bool) (found : Option Bool) (closed b : Bool) → (found ≡ Some b → closed ≡ b) → cond is_letter found (Some false) ≡ Some b → (is_letter && closed) ≡ b
letters_by true found closed b h e = h e
letters_by false found closed b h e = some_same e

many_by : (is_letter : Bool) (found : Option Bool) (closed : Bool) → cond is_letter found (Some false) ≡ None → (is_letter && closed) ≡ closed
many_by true found closed e = refl
many_by false found closed e = let h : Some false ≡ None = e in cc

known_by : (c : ℕ) (rest : List ℕ) (found : Option Bool) (b is_letter : Bool) → is_ascii_alphanumeric c ≡ is_letter → (found ≡ Some b → are_letters_closed rest ≡ b) → cond is_letter found (Some (c == 59)) ≡ Some b → are_letters_closed (c ∷ rest) ≡ b
known_by c rest found b true l h e = closed_letters c rest l ∙ h e
known_by c rest found b false l h e = closed_off c rest l ∙ some_same e

-- where the letters and digits are few, this is known of them
letters_known : (k : ℕ) (text : List ℕ) (b : Bool) → closed_within k text ≡ Some b → are_letters_closed text ≡ b
unfolding closed_within
letters_known zero text b e = let h : None ≡ Some b = e in cc
letters_known (suc k) [] b e = closed_none ∙ some_same e
letters_known (suc k) (c ∷ rest) b e = known_by c rest (closed_within k rest) b (is_ascii_alphanumeric c) refl (λ h. letters_known k rest b h) e

-- after a letter or digit, one fewer may come
pub after_letter : (k : ℕ) (text : List ℕ) → passes is_ascii_alphanumeric (slice_get text 1) ≡ true → closed_within (suc k) (drop 1 text) ≡ closed_within k (drop 2 text)
unfolding closed_within
after_letter k [] l = absurd (false≢true l)
after_letter k (c ∷ []) l = absurd (false≢true l)
after_letter k (c ∷ d ∷ rest) l = rw l refl

letters_two : (rows : List Row) (k : ℕ) (text : List ℕ) (found : Option Bool) → k ≡ longest_len rows + 7 → passes is_ascii_alphanumeric (slice_get text 1) ≡ true → closed_within k (drop 2 text) ≡ found → letters_after rows text ≡ found
letters_two rows k text found e l h =
    let bound : letters_bound rows ≡ suc k = omega arith in
    rw l (ap (λ (n : ℕ). closed_within n (drop 1 text)) bound ∙ after_letter k text l ∙ h)

-- what is known after the first of them
pub letters_one : (input : Input) (rows : List Row) (k : ℕ) (r : Option (Option Bool)) → k ≡ longest_len rows + 7 → Decided input (λ rest. passes is_ascii_alphanumeric (slice_get rest 1)) true →
    MatchOption r (IsShort input (k + 1)) (λ found. Decided input (λ rest. closed_within k (drop 2 rest)) found) → MatchOption r (IsShort input (letters_bound rows)) (λ found. Decided input (letters_after rows) found)
letters_one input rows k None e l h = (h.0, (let fit : length input.queue.items ≤ k + 1 = h.1 in omega arith))
letters_one input rows k (Some found) e l h = λ more f. letters_two rows k (input.queue.items ++ more) found e (l more f) (h more f)

-- few come after a `&`, and it is known whether a `;` closes them
pub letters_few : (rows : List Row) (text : List ℕ) (b : Bool) → letters_after rows text ≡ Some b → closes_letters text ≡ b
letters_few rows text b e = letters_by (passes is_ascii_alphanumeric (slice_get text 1)) (closed_within (letters_bound rows) (drop 1 text)) (are_letters_closed (drop 1 text)) b (λ h. letters_known (letters_bound rows) (drop 1 text) b h) e

-- so that the `&` is text
pub few_codes : (rows : List Row) (text : List ℕ) → ref_opener text ≡ Named → longest rows text ≡ None → letters_after rows text ≡ Some false → Begins rows (refs.Codes 1 38 None) text
few_codes rows text e n l = (e, rw (e, n) refl, rw n (letters_few rows text false l), rw (n, l) refl)

-- more come
pub letters_many : (rows : List Row) (text : List ℕ) → letters_after rows text ≡ None → closes_letters text ≡ are_letters_closed (drop 1 text)
letters_many rows text e = many_by (passes is_ascii_alphanumeric (slice_get text 1)) (closed_within (letters_bound rows) (drop 1 text)) (are_letters_closed (drop 1 text)) e

-- the same in a rest
pub end_past : (k : ℕ) (items more : List ℕ) (at c : ℕ) → at < length items → c ≡ get_or items at c → is_ascii_alphanumeric c ≡ true → closed_within (suc k) (drop at items ++ more) ≡ closed_within k (drop (at + 1) items ++ more)
unfolding closed_within
end_past k items more at c h e l =
    ap (λ (xs : List ℕ). closed_within (suc k) (xs ++ more)) (drop_more items at c h ∙ ap (λ (d : ℕ). d ∷ drop (at + 1) items) (sym e)) ∙ rw l refl

pub end_at : (k : ℕ) (items more : List ℕ) (at c : ℕ) → at < length items → c ≡ get_or items at c → is_ascii_alphanumeric c ≡ false → closed_within (suc k) (drop at items ++ more) ≡ Some (c == 59)
unfolding closed_within
end_at k items more at c h e l =
    ap (λ (xs : List ℕ). closed_within (suc k) (xs ++ more)) (drop_more items at c h ∙ ap (λ (d : ℕ). d ∷ drop (at + 1) items) (sym e)) ∙ rw l refl

pub end_beyond : (text : List ℕ) → closed_within 0 text ≡ None
unfolding closed_within
end_beyond text = refl

pub end_of_text : (k : ℕ) → closed_within (suc k) [] ≡ Some false
unfolding closed_within
end_of_text k = refl

-- a letter or digit more
pub letters_on : (place c : ℕ) (rest : List ℕ) → is_ascii_alphanumeric c ≡ true → ampersand_errors place (c ∷ rest) ≡ ampersand_errors place rest
letters_on place c rest l = ap (λ (b : Bool). fault_when b names.UnknownNamedCharacterReference place) (closed_letters c rest l)

-- none more
pub letters_stop : (place c : ℕ) (rest : List ℕ) → is_ascii_alphanumeric c ≡ false → ampersand_errors place (c ∷ rest) ≡ ampersand_told place (Some c)
letters_stop place c rest l = ap (λ (b : Bool). fault_when b names.UnknownNamedCharacterReference place) (closed_off c rest l)

pub letters_end : (place : ℕ) → ampersand_errors place [] ≡ []
letters_end place = ap (λ (b : Bool). fault_when b names.UnknownNamedCharacterReference place) closed_none

pub letter_apart : (c k : ℕ) → is_ascii_alphanumeric c ≡ true → is_ascii_alphanumeric k ≡ false → (c == k) ≡ false
letter_apart c k l n = ne_eqb c k (λ e. absurd (false≢true (sym n ∙ ap (λ (x : ℕ). is_ascii_alphanumeric x) (sym e) ∙ l)))

-- what was found to begin tells what the text has
pub found_tells : (rows : List Row) (text : List ℕ) (place : ℕ) (found : ValueRef) (lacking : Bool) → Begins rows found text → not (is 59 (slice_get text (ref_len found - 1))) ≡ lacking → value_told rows place text ≡ found_told found lacking place
found_tells rows text place (refs.Numeric base n) lacking b l = rw b refl
found_tells rows text place refs.Letters lacking b l = rw (b.0, b.1, b.2) refl
found_tells rows text place refs.Unknown lacking b l = rw (b.0, b.1, b.2) refl
found_tells rows text place refs.Literal lacking b l = rw b refl
found_tells rows text place (refs.Codes n first second) lacking b l = rw (b.1, b.0, l, b.3) (append-nil (found_told (refs.Codes n first second) lacking place))
