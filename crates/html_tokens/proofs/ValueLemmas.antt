-- Values, and the references in them.
use Rattle.std.proofs.Common.{◌≡◌, ℕ, zero, suc, ◌+◌, ◌-◌, ◌≤◌, List, [], ◌∷◌, ◌++◌, length, map, drop, Option, None, true, false, ◌==◌, Result, Ok, Err, refl, ap, sym, ◌∙◌, arith, append-nil, append_assoc}
use Rattle.std.specs.Result.{IfOk}
use Rattle.std.proofs.lemmas.Bool.Decides.{nat_tests}
use Rattle.html_charref.specs.declared.table.Row.{Row}
use Rattle.std.proofs.Common.{◌*◌}
use Rattle.std.specs.Char.{digit_value, is_ascii_alphanumeric}
use Rattle.html_charref.specs.Number.{char_of, capped, radix}
use Rattle.html_charref.specs.declared.number.Base.{Base}
use Rattle.html_charref.specs.declared.number.Base.TheVariants.{Decimal, Hex}
use Rattle.html_tokens.specs.Reference.{is_digit, numbered, Numbered, ends_digits}
use Rattle.html_tokens.specs.Tag.{with_attrs, with_attr, attr, Tail, longer_tail}
use Rattle.html_tokens.specs.declared.tag.ValueEnd.{ValueEnd}
use Rattle.html_tokens.proofs.ReferenceLemmas.{digits_stop, digit_first, letter_apart, not_semicolon, char_capped, some_radix}
use Rattle.html_tokens.specs.Copied.{cut_by}
use Rattle.html_tokens.specs.Cut.{Cut, cut, is_space, ends_unquoted, stop_mark}
use Rattle.html_tokens.specs.Value.{Begins, end_mark, ref_len, value_cut, with_codes, value_reference}
use Rattle.html_tokens.specs.Tag.{draft_tag, longer_tag, ReadsTag, AddsAttr, Settles, value, after_name, tail, tail_by, tag_by, ReadsRef, OpensRef, IsInside}
use Rattle.html_tokens.specs.declared.reference.ValueRef.{ValueRef}
use Rattle.html_tokens.specs.declared.reference.ValueRef.TheVariants as refs
use Rattle.html_charref.specs.Entities.{codes_with}
use Rattle.std.specs.Result.{OnOk}
use Rattle.html_tokens.specs.declared.tag.Part.{Part}
use Rattle.html_tokens.specs.Reference.{literal, ref_opener}
use Rattle.html_tokens.specs.declared.token.RefOpener.TheVariants.{Numeric}
use Rattle.html_tokens.specs.Tag.{Tag as WholeTag}
use Rattle.html_tokens.specs.declared.tag.TagDraft.{TagDraft}
use Rattle.html_tokens.specs.declared.tag.Part.TheVariants as parts
use Rattle.html_tokens.specs.declared.tag.ValueEnd.TheVariants as ends
use Rattle.html_tokens.specs.declared.tag.TagReading.{TagReading}
use Rattle.html_tokens.specs.declared.tag.TagReading.TheVariants.{More, Closed}

not_eq : (c d : ℕ) → ¬ (c ≡ d) → (c == d) ≡ false
not_eq c d h = grind (arith, nat_tests)

-- the same code point is read from a draft that comes to the same
reads_on : (reading : TagReading) (old mid new : TagDraft) (c : ℕ) (after : Option ℕ) → ((rows : List Row) (rest : List ℕ) → draft_tag rows old (c ∷ rest) ≡ draft_tag rows mid (c ∷ rest)) → mid.start ≡ old.start → mid.is_end ≡ old.is_end →
    ReadsTag mid c after reading new → ReadsTag old c after reading new
reads_on More old mid new c after same s i r = ((λ rows rest h. same rows rest ∙ r.0 rows rest h), r.1 ∙ s, r.2 ∙ i)
reads_on (Closed b n) old mid new c after same s i r = ((λ rows rest h. same rows rest ∙ r.0 rows rest h), r.1 ∙ s, r.2 ∙ i, r.3)

pub reads_from : {E : Type 0} (r : Result TagReading E) (old mid new : TagDraft) (c : ℕ) (after : Option ℕ) → ((rows : List Row) (rest : List ℕ) → draft_tag rows old (c ∷ rest) ≡ draft_tag rows mid (c ∷ rest)) → mid.start ≡ old.start → mid.is_end ≡ old.is_end →
    IfOk r (λ reading. ReadsTag mid c after reading new) → IfOk r (λ reading. ReadsTag old c after reading new)
reads_from (Ok reading) old mid new c after same s i r = reads_on reading old mid new c after same s i r
reads_from (Err e) old mid new c after same s i r = tt

pub after_name_closes : (old mid : TagDraft) (c : ℕ) → old.part ≡ parts.AfterName → is_space c ≡ false → ¬ (c ≡ 61) → AddsAttr old mid →
    (rows : List Row) (rest : List ℕ) → draft_tag rows old (c ∷ rest) ≡ draft_tag rows mid (c ∷ rest)
unfolding after_name
after_name_closes old mid c p s e a rows rest = let f = not_eq c 61 e in rw (p, a, s, f, append-nil old.attr_value) refl

pub unquoted_closes : (old mid : TagDraft) (c : ℕ) → old.part ≡ parts.Inside ends.Space → ends_unquoted c ≡ true → AddsAttr old mid →
    (rows : List Row) (rest : List ℕ) → draft_tag rows old (c ∷ rest) ≡ draft_tag rows mid (c ∷ rest)
unfolding value_cut
unquoted_closes old mid c p s a rows rest = rw (p, a, s, append-nil old.attr_value) refl

pub value_starts : (old : TagDraft) (c : ℕ) → old.part ≡ parts.Value → is_space c ≡ false → ¬ (c ≡ 34) → ¬ (c ≡ 39) →
    (rows : List Row) (rest : List ℕ) → draft_tag rows old (c ∷ rest) ≡ draft_tag rows (record old { part = parts.Inside ends.Space }) (c ∷ rest)
unfolding value
value_starts old c p s d q rows rest = let e = not_eq c 34 d in let f = not_eq c 39 q in rw (p, s, e, f) refl

-- the tag whose value has this number at the front
abbrev number_tag : List Row → TagDraft → ValueEnd → Numbered → List ℕ → WholeTag
number_tag rows old end n text =
    let after = value_cut rows end n.len text in
    record { name = old.name ++ []; tail = with_attrs old.attrs (with_attr (attr old.attr_name (old.attr_value ++ char_of n.value ∷ after.before)) (tail rows after.len text)) }

value_past : (rows : List Row) (end : ValueEnd) (k c : ℕ) (rest : List ℕ) → value_cut rows end (suc k) (c ∷ rest) ≡ with_codes [] (value_cut rows end k rest)
unfolding value_cut
value_past rows end k c rest = refl

tail_past : (rows : List Row) (k c : ℕ) (rest : List ℕ) → tail rows (suc k) (c ∷ rest) ≡ longer_tail (tail rows k rest)
unfolding tail
tail_past rows k c rest = refl

-- a code point that belongs to the number
number_past : (rows : List Row) (old : TagDraft) (end : ValueEnd) (n : Numbered) (c : ℕ) (rest : List ℕ) → number_tag rows old end (record { value = n.value; len = suc n.len }) (c ∷ rest) ≡ longer_tag (number_tag rows old end n rest)
number_past rows old end n c rest = rw (value_past rows end n.len c rest, tail_past rows (value_cut rows end n.len rest).len c rest) refl

-- a code point that is no part of a number leaves it as it is
pub number_settles : (old : TagDraft) (end : ValueEnd) (base : Base) (v start c : ℕ) → old.part ≡ parts.Number end base v start → is_digit base c ≡ false → ¬ (c ≡ 59) →
    (rows : List Row) (rest : List ℕ) → draft_tag rows old (c ∷ rest) ≡ draft_tag rows (record old { part = parts.Inside end; attr_value = old.attr_value ++ char_of v ∷ [] }) (c ∷ rest)
number_settles old end base v start c p d s rows rest =
    let stops : numbered base v (c ∷ rest) ≡ record { value = v; len = 0 } = digits_stop base v c rest d ∙ ap (λ (k : ℕ). record { value = v; len = k }) (not_semicolon c s) in
    let after = value_cut rows end 0 (c ∷ rest) in
    rw p (ap (λ (n : Numbered). number_tag rows old end n (c ∷ rest)) stops
    ∙ ap (λ (v : List ℕ). record { name = old.name ++ []; tail = with_attrs old.attrs (with_attr (attr old.attr_name v) (tail rows after.len (c ∷ rest))) }) (sym (append_assoc old.attr_value (char_of v ∷ []) after.before)))

-- a digit belongs to the number
pub number_digit : (old : TagDraft) (end : ValueEnd) (base : Base) (u w start c : ℕ) → old.part ≡ parts.Number end base u start → is_digit base c ≡ true → w ≡ capped (u * radix base + digit_value c) →
    (rows : List Row) (rest : List ℕ) → draft_tag rows old (c ∷ rest) ≡ longer_tag (draft_tag rows (record old { part = parts.Number end base w start }) rest)
number_digit old end base u w start c p d e rows rest =
    let v = u * radix base + digit_value c in
    let n = numbered base v rest in
    let same : char_of (numbered base w rest).value ≡ char_of n.value = char_capped (radix base) v w (map digit_value (cut (stop_mark (ends_digits base)) rest).before) (some_radix base) e in
    let after = value_cut rows end n.len rest in
    rw p (ap (λ (m : Numbered). number_tag rows old end m (c ∷ rest)) (digit_first base u c rest d) ∙ number_past rows old end n c rest
    ∙ ap (λ (x : ℕ). longer_tag (record { name = old.name ++ []; tail = with_attrs old.attrs (with_attr (attr old.attr_name (old.attr_value ++ x ∷ after.before)) (tail rows after.len rest)) })) (sym same))

no_and : (base : Base) → is_digit base 38 ≡ false
no_and Hex = refl
no_and Decimal = refl

and_other : (c : ℕ) → c ≡ 38 → ((c ≡ 59) → ⊥) × ((c ≡ 34) → ⊥) × ((c ≡ 39) → ⊥)
and_other c e = ((λ f. absurd (omega arith)), (λ f. absurd (omega arith)), (λ f. absurd (omega arith)))

no_digit : (base : Base) → is_digit base 59 ≡ false
no_digit Hex = refl
no_digit Decimal = refl

-- a `;` closes it
pub number_closes : (old : TagDraft) (end : ValueEnd) (base : Base) (v start c : ℕ) → old.part ≡ parts.Number end base v start → c ≡ 59 →
    (rows : List Row) (rest : List ℕ) → draft_tag rows old (c ∷ rest) ≡ longer_tag (draft_tag rows (record old { part = parts.Inside end; attr_value = old.attr_value ++ char_of v ∷ [] }) rest)
number_closes old end base v start c p e rows rest =
    let after = value_cut rows end 0 rest in
    rw (p, e) (ap (λ (m : Numbered). number_tag rows old end m (59 ∷ rest)) (digits_stop base v 59 rest (no_digit base)) ∙ number_past rows old end (record { value = v; len = 0 }) 59 rest
    ∙ ap (λ (v : List ℕ). longer_tag (record { name = old.name ++ []; tail = with_attrs old.attrs (with_attr (attr old.attr_name v) (tail rows after.len rest)) })) (sym (append_assoc old.attr_value (char_of v ∷ []) after.before)))

cut_one : (k : ℕ) (after : Cut) → with_codes [] (cut_by k after) ≡ cut_by (suc k) after
cut_one k after = let e : suc (k + after.len) ≡ suc k + after.len = omega arith in ap (λ (n : ℕ). record { before = after.before; len = n }) e

tail_one : (k : ℕ) (t : Tail) → longer_tail (tail_by k t) ≡ tail_by (suc k) t
tail_one k t = let e : suc (k + t.len) ≡ suc k + t.len = omega arith in ap (λ (n : ℕ). record { attrs = t.attrs; self_closing = t.self_closing; closed = t.closed; len = n }) e

pub value_skip : (rows : List Row) (end : ValueEnd) (k : ℕ) (text : List ℕ) → k ≤ length text → value_cut rows end k text ≡ cut_by k (value_cut rows end 0 (drop k text))
value_skip rows end zero text h = let e : 0 + (value_cut rows end 0 text).len ≡ (value_cut rows end 0 text).len = omega arith in ap (λ (n : ℕ). record { before = (value_cut rows end 0 text).before; len = n }) (sym e)
value_skip rows end (suc k) [] h = absurd (omega arith)
value_skip rows end (suc k) (c ∷ rest) h =
    value_past rows end k c rest ∙ ap (λ (after : Cut). with_codes [] after) (value_skip rows end k rest (omega arith)) ∙ cut_one k (value_cut rows end 0 (drop k rest))

pub value_skips : (rows : List Row) (end : ValueEnd) (k j : ℕ) (text : List ℕ) → k ≤ length text → value_cut rows end (k + j) text ≡ cut_by k (value_cut rows end j (drop k text))
value_skips rows end zero j text h =
    let e : 0 + j ≡ j = omega arith in
    let f : 0 + (value_cut rows end j text).len ≡ (value_cut rows end j text).len = omega arith in
    ap (λ (n : ℕ). value_cut rows end n text) e ∙ ap (λ (n : ℕ). record { before = (value_cut rows end j text).before; len = n }) (sym f)
value_skips rows end (suc k) j [] h = absurd (omega arith)
value_skips rows end (suc k) j (c ∷ rest) h =
    let e : suc k + j ≡ suc (k + j) = omega arith in
    ap (λ (n : ℕ). value_cut rows end n (c ∷ rest)) e ∙ value_past rows end (k + j) c rest ∙ ap (λ (after : Cut). with_codes [] after) (value_skips rows end k j rest (omega arith)) ∙ cut_one k (value_cut rows end j (drop k rest))

pub tail_skip : (rows : List Row) (k j : ℕ) (text : List ℕ) → k ≤ length text → tail rows (k + j) text ≡ tail_by k (tail rows j (drop k text))
tail_skip rows zero j text h =
    let e : 0 + j ≡ j = omega arith in
    let f : 0 + (tail rows j text).len ≡ (tail rows j text).len = omega arith in
    ap (λ (n : ℕ). tail rows n text) e ∙ ap (λ (n : ℕ). record { attrs = (tail rows j text).attrs; self_closing = (tail rows j text).self_closing; closed = (tail rows j text).closed; len = n }) (sym f)
tail_skip rows (suc k) j [] h = absurd (omega arith)
tail_skip rows (suc k) j (c ∷ rest) h =
    let e : suc k + j ≡ suc (k + j) = omega arith in
    ap (λ (n : ℕ). tail rows n (c ∷ rest)) e ∙ tail_past rows (k + j) c rest ∙ ap (λ (t : Tail). longer_tail t) (tail_skip rows k j rest (omega arith)) ∙ tail_one k (tail rows j (drop k rest))

-- a `&` closes no value
ref_inside : (rows : List Row) (end : ValueEnd) (rest : List ℕ) (codes : List ℕ) (k : ℕ) → value_reference rows (38 ∷ rest) ≡ record { codes = codes; len = suc k } →
    value_cut rows end 0 (38 ∷ rest) ≡ with_codes codes (value_cut rows end k rest)
unfolding value_cut
ref_inside rows ends.DoubleQuote rest codes k e = let p : suc k - 1 ≡ k = omega arith in rw (e, p) refl
ref_inside rows ends.SingleQuote rest codes k e = let p : suc k - 1 ≡ k = omega arith in rw (e, p) refl
ref_inside rows ends.Space rest codes k e = let p : suc k - 1 ≡ k = omega arith in rw (e, p) refl

-- a reference in a value is read as a whole
pub ref_reads : (rows : List Row) (d : TagDraft) (end : ValueEnd) (rest codes : List ℕ) (k : ℕ) → d.part ≡ parts.Inside end → value_reference rows (38 ∷ rest) ≡ record { codes = codes; len = suc k } → k ≤ length rest →
    draft_tag rows d (38 ∷ rest) ≡ tag_by (suc k) (draft_tag rows (record d { attr_value = d.attr_value ++ codes }) (drop k rest))
ref_reads rows d end rest codes k p e h =
    let after = value_cut rows end 0 (drop k rest) in
    let whole : value_cut rows end 0 (38 ∷ rest) ≡ with_codes codes (cut_by k after) = ref_inside rows end rest codes k e ∙ ap (λ (x : Cut). with_codes codes x) (value_skip rows end k rest h) in
    let n : suc (k + after.len) ≡ suc k + after.len = omega arith in
    rw p
    (ap (λ (x : Cut). record { name = d.name ++ []; tail = with_attrs d.attrs (with_attr (attr d.attr_name (d.attr_value ++ x.before)) (tail rows x.len (38 ∷ rest))) }) whole
    ∙ ap (λ (m : ℕ). record { name = d.name ++ []; tail = with_attrs d.attrs (with_attr (attr d.attr_name (d.attr_value ++ (codes ++ after.before))) (tail rows m (38 ∷ rest))) }) n
    ∙ ap (λ (t : Tail). record { name = d.name ++ []; tail = with_attrs d.attrs (with_attr (attr d.attr_name (d.attr_value ++ (codes ++ after.before))) t) }) (tail_skip rows (suc k) after.len (38 ∷ rest) (omega arith))
    ∙ ap (λ (v : List ℕ). tag_by (suc k) (record { name = d.name ++ []; tail = with_attrs d.attrs (with_attr (attr d.attr_name v) (tail rows after.len (drop k rest))) })) (sym (append_assoc d.attr_value codes after.before)))

-- a number in a value begins
number_reads : (rows : List Row) (d : TagDraft) (end : ValueEnd) (base : Base) (start : ℕ) (rest : List ℕ) (k : ℕ) → d.part ≡ parts.Inside end → ref_opener (38 ∷ rest) ≡ Numeric base (suc k) → k ≤ length rest →
    draft_tag rows d (38 ∷ rest) ≡ tag_by (suc k) (draft_tag rows (record d { part = parts.Number end base 0 start }) (drop k rest))
number_reads rows d end base start rest k p e h =
    let n = numbered base 0 (drop k rest) in
    let after = value_cut rows end n.len (drop k rest) in
    let codes = char_of n.value ∷ [] in
    let l : suc k + n.len ≡ suc (k + n.len) = omega arith in
    let whole_ref : value_reference rows (38 ∷ rest) ≡ record { codes = codes; len = suc (k + n.len) } = rw e (ap (λ (m : ℕ). record { codes = codes; len = m }) l) in
    let whole : value_cut rows end 0 (38 ∷ rest) ≡ with_codes codes (cut_by k after) = ref_inside rows end rest codes (k + n.len) whole_ref ∙ ap (λ (x : Cut). with_codes codes x) (value_skips rows end k n.len rest h) in
    let m : suc (k + after.len) ≡ suc k + after.len = omega arith in
    rw p
    (ap (λ (x : Cut). record { name = d.name ++ []; tail = with_attrs d.attrs (with_attr (attr d.attr_name (d.attr_value ++ x.before)) (tail rows x.len (38 ∷ rest))) }) whole
    ∙ ap (λ (m : ℕ). record { name = d.name ++ []; tail = with_attrs d.attrs (with_attr (attr d.attr_name (d.attr_value ++ (codes ++ after.before))) (tail rows m (38 ∷ rest))) }) m
    ∙ ap (λ (t : Tail). record { name = d.name ++ []; tail = with_attrs d.attrs (with_attr (attr d.attr_name (d.attr_value ++ (codes ++ after.before))) t) }) (tail_skip rows (suc k) after.len (38 ∷ rest) (omega arith)))

-- the same code point is read
pub reads_settled : {E : Type 0} (r : Result TagReading E) (old mid new : TagDraft) (c : ℕ) (after : Option ℕ) → Settles old c mid →
    IfOk r (λ reading. ReadsTag mid c after reading new) → IfOk r (λ reading. ReadsTag old c after reading new)
reads_settled r old mid new c after s h = reads_from r old mid new c after s.0 s.1 s.2 h

pub refs_read : {X E : Type 0} (r : Result X E) (old mid new : TagDraft) (found : ValueRef) → OpensRef old mid → OnOk r (ReadsRef mid found new) → OnOk r (ReadsRef old found new)
refs_read (Ok x) old mid new found o r = ((λ rows rest b g h. o.0 rows rest ∙ r.0 rows rest b g h), r.1 ∙ o.1, r.2 ∙ o.2)
refs_read (Err e) old mid new found o r = tt

-- what stands for a reference is added to the value
pub codes_read : (d : TagDraft) (part : Part) (n first : ℕ) (second : Option ℕ) → d.part ≡ part → IsInside part → ReadsRef d (refs.Codes n first second) (record d { attr_value = d.attr_value ++ codes_with first second })
codes_read d parts.Name n first second p i = absurd i
codes_read d parts.Attributes n first second p i = absurd i
codes_read d parts.AttrName n first second p i = absurd i
codes_read d parts.AfterName n first second p i = absurd i
codes_read d parts.Value n first second p i = absurd i
codes_read d (parts.Inside end) zero first second p i = ((λ rows rest b g h. absurd (omega arith)), refl, refl)
codes_read d (parts.Inside end) (suc k) first second p i = ((λ rows rest b g h. ref_reads rows d end rest (codes_with first second) k p b.1 (omega arith)), refl, refl)
codes_read d (parts.Number end base value start) n first second p i = absurd i
codes_read d (parts.Ampersand end start) n first second p i = absurd i

-- a number begins
pub number_read : (d new : TagDraft) (part : Part) (base : Base) (n start : ℕ) → d.part ≡ part → IsInside part → ((end : ValueEnd) → d.part ≡ parts.Inside end → new ≡ record d { part = parts.Number end base 0 start }) →
    ReadsRef d (refs.Numeric base n) new
number_read d new parts.Name base n start p i m = absurd i
number_read d new parts.Attributes base n start p i m = absurd i
number_read d new parts.AttrName base n start p i m = absurd i
number_read d new parts.AfterName base n start p i m = absurd i
number_read d new parts.Value base n start p i m = absurd i
number_read d new (parts.Inside end) base zero start p i m = ((λ rows rest b g h. absurd (omega arith)), rw (m end p) refl, rw (m end p) refl)
number_read d new (parts.Inside end) base (suc k) start p i m = ((λ rows rest b g h. rw (m end p) (number_reads rows d end base start rest k p b (omega arith))), rw (m end p) refl, rw (m end p) refl)
number_read d new (parts.Number end base value place) base' n start p i m = absurd i
number_read d new (parts.Ampersand end place) base' n start p i m = absurd i

-- a `&` ends a number, or begins a value
pub ref_opens : (old new : TagDraft) (end : ValueEnd) (base : Base) (v start : ℕ) → old.part ≡ parts.Number end base v start → new ≡ record old { part = parts.Inside end; attr_value = old.attr_value ++ char_of v ∷ [] } → OpensRef old new
ref_opens old new end base v start p n = rw n ((λ rows rest. number_settles old end base v start 38 p (no_and base) (and_other 38 refl).0 rows rest), refl, refl, tt)

pub value_opens : (old : TagDraft) → old.part ≡ parts.Value → OpensRef old (record old { part = parts.Inside ends.Space })
value_opens old p = ((λ rows rest. value_starts old 38 p refl (and_other 38 refl).1 (and_other 38 refl).2 rows rest), refl, refl, tt)

pub number_opens : {X E : Type 0} (r : Result X E) (old new : TagDraft) (end : ValueEnd) (base : Base) (v start : ℕ) → old.part ≡ parts.Number end base v start → OnOk r (new ≡ record old { part = parts.Inside end; attr_value = old.attr_value ++ char_of v ∷ [] }) → OnOk r (OpensRef old new)
number_opens (Ok x) old new end base v start p n = ref_opens old new end base v start p n
number_opens (Err e) old new end base v start p n = tt

pub codes_pushed : (d new : TagDraft) (found : ValueRef) (n first : ℕ) (second : Option ℕ) → found ≡ refs.Codes n first second → IsInside d.part → new ≡ record d { attr_value = d.attr_value ++ codes_with first second } → ReadsRef d found new
codes_pushed d new found n first second f i e = rw (e, f) (codes_read d d.part n first second refl i)

pub number_pushed : (d new : TagDraft) (found : ValueRef) (base : Base) (n start : ℕ) → found ≡ refs.Numeric base n → IsInside d.part → ((end : ValueEnd) → d.part ≡ parts.Inside end → new ≡ record d { part = parts.Number end base 0 start }) → ReadsRef d found new
number_pushed d new found base n start f i m = rw f (number_read d new d.part base n start refl i m)

pub codes_read_from : {X E : Type 0} (r : Result X E) (d new : TagDraft) (found : ValueRef) (n first : ℕ) (second : Option ℕ) → found ≡ refs.Codes n first second → IsInside d.part → OnOk r (new ≡ record d { attr_value = d.attr_value ++ codes_with first second }) → OnOk r (ReadsRef d found new)
codes_read_from (Ok x) d new found n first second f i e = codes_pushed d new found n first second f i e
codes_read_from (Err e) d new found n first second f i h = tt

literal_read : (d : TagDraft) (found : ValueRef) (part : Part) → d.part ≡ part → IsInside part → ((rows : List Row) (text : List ℕ) → Begins rows found text → value_reference rows text ≡ literal) → ref_len found ≡ 1 → ReadsRef d found (record d { attr_value = d.attr_value ++ codes_with 38 None })
literal_read d found parts.Name p i e l = absurd i
literal_read d found parts.Attributes p i e l = absurd i
literal_read d found parts.AttrName p i e l = absurd i
literal_read d found parts.AfterName p i e l = absurd i
literal_read d found parts.Value p i e l = absurd i
literal_read d found (parts.Inside end) p i e l = ((λ rows rest b g h. rw l (ref_reads rows d end rest (codes_with 38 None) 0 p (e rows (38 ∷ rest) b) (omega arith))), refl, refl)
literal_read d found (parts.Number end base value start) p i e l = absurd i
literal_read d found (parts.Ampersand end start) p i e l = absurd i

pub literal_read_from : {X E : Type 0} (r : Result X E) (d new : TagDraft) (found : ValueRef) → found ≡ refs.Literal → IsInside d.part → OnOk r (new ≡ record d { attr_value = d.attr_value ++ codes_with 38 None }) → OnOk r (ReadsRef d found new)
literal_read_from (Ok x) d new found f i e = rw (e, f) (literal_read d refs.Literal d.part refl i (λ rows text b. rw b refl) refl)
literal_read_from (Err e) d new found f i h = tt

-- letters and digits begin, after the `&`
unknown_read : (d new : TagDraft) (found : ValueRef) (start : ℕ) (part : Part) → d.part ≡ part → found ≡ refs.Letters → IsInside part →
    ((end : ValueEnd) → d.part ≡ parts.Inside end → new ≡ record d { part = parts.Ampersand end start; attr_value = d.attr_value ++ codes_with 38 None }) → ReadsRef d found new
unknown_read d new found start parts.Name p f i m = absurd i
unknown_read d new found start parts.Attributes p f i m = absurd i
unknown_read d new found start parts.AttrName p f i m = absurd i
unknown_read d new found start parts.AfterName p f i m = absurd i
unknown_read d new found start parts.Value p f i m = absurd i
unknown_read d new found start (parts.Inside end) p f i m =
    rw (f, m end p) ((λ rows rest b g h. ref_reads rows d end rest (codes_with 38 None) 0 p (rw (b.0, b.1) refl) (omega arith) ∙ ap (λ (t : WholeTag). tag_by 1 t) (rw p refl)), refl, refl)
unknown_read d new found start (parts.Number end base value place) p f i m = absurd i
unknown_read d new found start (parts.Ampersand end place) p f i m = absurd i

-- they are few, and a `;` comes after them
pub few_read_from : {X E : Type 0} (r : Result X E) (d new : TagDraft) (found : ValueRef) → found ≡ refs.Unknown → IsInside d.part → OnOk r (new ≡ record d { attr_value = d.attr_value ++ codes_with 38 None }) → OnOk r (ReadsRef d found new)
few_read_from (Ok x) d new found f i e = rw (e, f) (literal_read d refs.Unknown d.part refl i (λ rows text b. rw (b.0, b.1) refl) refl)
few_read_from (Err e) d new found f i h = tt

pub unknown_read_from : (d mid new : TagDraft) (found : ValueRef) (start : ℕ) → found ≡ refs.Letters → IsInside d.part → mid ≡ record d { attr_value = d.attr_value ++ codes_with 38 None } →
    ((end : ValueEnd) → mid.part ≡ parts.Inside end → new ≡ record mid { part = parts.Ampersand end start }) → ReadsRef d found new
unknown_read_from d mid new found start f i e m = unknown_read d new found start d.part refl f i (λ end p. m end (rw e p) ∙ rw e refl)

letter_mark : (end : ValueEnd) (c : ℕ) (rest : List ℕ) → is_ascii_alphanumeric c ≡ true → end_mark end (c ∷ rest) ≡ None
letter_mark ends.DoubleQuote c rest l = rw (letter_apart c 34 l refl) refl
letter_mark ends.SingleQuote c rest l = rw (letter_apart c 39 l refl) refl
letter_mark ends.Space c rest l = rw (letter_apart c 9 l refl, letter_apart c 10 l refl, letter_apart c 12 l refl, letter_apart c 32 l refl, letter_apart c 62 l refl) refl

-- a letter or digit belongs to the value
pub letter_read : (d : TagDraft) (end : ValueEnd) (start c : ℕ) → d.part ≡ parts.Ampersand end start → is_ascii_alphanumeric c ≡ true → (rows : List Row) (rest : List ℕ) →
    draft_tag rows d (c ∷ rest) ≡ longer_tag (draft_tag rows (record d { attr_value = d.attr_value ++ c ∷ [] }) rest)
unfolding value_cut tail
letter_read d end start c p l rows rest = rw (p, letter_mark end c rest l, letter_apart c 38 l refl, letter_apart c 0 l refl, append_assoc) refl
