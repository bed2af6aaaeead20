-- Fronts that are copied as they stand.
use Rattle.std.proofs.Common.{◌≡◌, ℕ, suc, ◌+◌, ◌≤◌, List, [], ◌∷◌, ◌++◌, length, take, drop, Bool, true, false, not, ◌&&◌, ◌==◌, None, refl, ap, sym, ◌∙◌, arith, append_assoc, append-nil, zero-add, add-zero}
use Rattle.std.proofs.lemmas.List.{length-take-le}
use Rattle.std.proofs.lemmas.Bool.{false≢true}
use Rattle.html_charref.specs.declared.table.Row.{Row}
use Rattle.html_tokens.specs.Copied.{AllPass, is_copied, is_without, copied_in, copied_by, CopiesTag, CopiesComment, cut_by}
use Rattle.std.proofs.Common.{Result, Ok, Err}
use Rattle.std.specs.Result.{IfOk}
use Rattle.html_tokens.specs.Inside.{comment_char_errors, comment_errors}
use Rattle.html_tokens.specs.Cut.{Cut, cut, null_replaced, ends_unquoted}
use Rattle.html_tokens.specs.Draft.{draft_cut, mark_of, passed}
use Rattle.html_tokens.specs.declared.comment.CommentDraft.{CommentDraft}
use Rattle.html_tokens.specs.declared.comment.CommentKind.{CommentKind}
use Rattle.html_tokens.specs.declared.comment.CommentKind.TheVariants.{Declared, Bogus}
use Rattle.html_tokens.proofs.CommentLemmas.{more_errors}
use Rattle.html_tokens.proofs.Cuts.{longer_draft}
use Rattle.html_tokens.proofs.PartLemmas.{attr_name_front_told, cut_in_two, first_false, inside_front_told, is_not, name_front_told, name_stands, neither}
use Rattle.html_tokens.specs.AttrNames.{names_in, names_of}
use Rattle.html_tokens.specs.InsideTags.{part_errors}
use Rattle.html_tokens.specs.Value.{value_cut, end_mark}
use Rattle.html_tokens.specs.Tag.{ends_name, tail, after_some, draft_tag, longer_tag, tag_by}
use Rattle.html_tokens.specs.Tag.{Tag as WholeTag}
use Rattle.html_tokens.specs.Runs.{is_plain}
use Rattle.html_tokens.specs.declared.token.TextMode.{TextMode}
use Rattle.html_tokens.specs.declared.token.TextMode.TheVariants.{Data, Rcdata, Rawtext, Script, Plaintext, Foreign}
use Rattle.html_tokens.specs.declared.copied.Copied.TheVariants as copied
use Rattle.html_tokens.specs.declared.tag.TagDraft.{TagDraft}
use Rattle.html_tokens.specs.declared.tag.Part.TheVariants as parts
use Rattle.html_tokens.specs.declared.tag.ValueEnd.{ValueEnd}
use Rattle.html_tokens.specs.declared.tag.ValueEnd.TheVariants as ends

pub not-false : (b : Bool) → not b ≡ false → b ≡ true
not-false true h = refl
not-false false h = absurd (false≢true (sym h))

pub AllPass-push : (p : ℕ → Bool) (xs : List ℕ) (c : ℕ) → AllPass p xs → p c ≡ true → AllPass p (xs ++ c ∷ [])
AllPass-push p [] c a h = (h, tt)
AllPass-push p (x ∷ xs) c a h = (a.0, AllPass-push p xs c a.1 h)

AllPass-map : (p q : ℕ → Bool) → ((c : ℕ) → p c ≡ true → q c ≡ true) → (xs : List ℕ) → AllPass p xs → AllPass q xs
AllPass-map p q h [] a = tt
AllPass-map p q h (x ∷ xs) a = (h x a.0, AllPass-map p q h xs a.1)

-- Without U+0000, `&` and `<`, all is plain text in each mode.
pub clean_in : (mode : TextMode) (c : ℕ) → (c == 0) ≡ false → (c == 60) ≡ false → (c == 38) ≡ false → is_plain mode c ≡ true
clean_in Data c a b d = rw (b, d) refl
clean_in Rcdata c a b d = rw (b, d, a) refl
clean_in Rawtext c a b d = rw (b, a) refl
clean_in Script c a b d = rw (b, a) refl
clean_in Plaintext c a b d = rw a refl
clean_in Foreign c a b d = rw (b, d) refl

clean_one : (mode : TextMode) (c : ℕ) → is_without 60 38 c ≡ true → is_plain mode c ≡ true
clean_one mode c h =
    let a = neither (c == 0) _ h in
    let b = neither (c == 60) _ a.1 in
    clean_in mode c a.0 b.0 (is_not (c == 38) b.1)

pub clean_plain : (mode : TextMode) (text : List ℕ) → AllPass (is_without 60 38) text → AllPass (is_plain mode) text
clean_plain mode text a = AllPass-map (is_without 60 38) (is_plain mode) (clean_one mode) text a

pub both-left : (a b : Bool) → a && b ≡ true → a ≡ true
both-left true b e = refl
both-left false b e = e

pub both-right : (a b : Bool) → a && b ≡ true → b ≡ true
both-right true b e = e
both-right false b e = absurd (false≢true e)

pub AllPass-pushed : (p : ℕ → Bool) (xs : List ℕ) (c : ℕ) → AllPass p (xs ++ c ∷ []) → AllPass p xs × (p c ≡ true)
AllPass-pushed p [] c a = (tt, a.0)
AllPass-pushed p (x ∷ xs) c a = let rest = AllPass-pushed p xs c a.1 in ((a.0, rest.0), rest.1)

pub AllPass-append : (p : ℕ → Bool) (xs ys : List ℕ) → AllPass p xs → AllPass p ys → AllPass p (xs ++ ys)
AllPass-append p [] ys a b = b
AllPass-append p (x ∷ xs) ys a b = (a.0, AllPass-append p xs ys a.1 b)

tag_by_none : (t : WholeTag) → tag_by 0 t ≡ t
tag_by_none t = rw zero-add refl

tag_by_more : (k : ℕ) (t : WholeTag) → longer_tag (tag_by k t) ≡ tag_by (suc k) t
tag_by_more k t = let e : suc (k + t.tail.len) ≡ suc k + t.tail.len = omega arith in rw e refl

-- Where one code point is copied so, a front of them is.
tag_copies : (p : ℕ → Bool) (Q : TagDraft → Type 0) (put : TagDraft → List ℕ → TagDraft) →
    ((d : TagDraft) (c : ℕ) → Q d → p c ≡ true → (rows : List Row) (rest : List ℕ) → draft_tag rows d (c ∷ rest) ≡ longer_tag (draft_tag rows (put d (c ∷ [])) rest)) →
    ((d : TagDraft) (c : ℕ) → Q d → Q (put d (c ∷ []))) → ((d : TagDraft) → put d [] ≡ d) → ((d : TagDraft) (c : ℕ) (cs : List ℕ) → put (put d (c ∷ [])) cs ≡ put d (c ∷ cs)) →
    (xs : List ℕ) (d : TagDraft) → Q d → AllPass p xs → (rows : List Row) (more : List ℕ) → draft_tag rows d (xs ++ more) ≡ tag_by (length xs) (draft_tag rows (put d xs) more)
tag_copies p Q put one keeps none join [] d q a rows more = rw (none d) (sym (tag_by_none (draft_tag rows d more)))
tag_copies p Q put one keeps none join (c ∷ xs) d q a rows more =
    one d c q a.0 rows (xs ++ more)
    ∙ ap longer_tag (tag_copies p Q put one keeps none join xs (put d (c ∷ [])) (keeps d c q) a.1 rows more)
    ∙ tag_by_more (length xs) (draft_tag rows (put (put d (c ∷ [])) xs) more)
    ∙ ap (λ (e : TagDraft). tag_by (suc (length xs)) (draft_tag rows e more)) (join d c xs)

name_one : (d : TagDraft) (c : ℕ) → d.part ≡ parts.Name → is_copied copied.Name c ≡ true → (rows : List Row) (rest : List ℕ) →
    draft_tag rows d (c ∷ rest) ≡ longer_tag (draft_tag rows (record d { name = d.name ++ c ∷ [] }) rest)
unfolding cut tail
name_one d c p h rows rest =
    let s = name_stands c h in
    let e : ends_name c ≡ false = first_false (ends_name c) (c == 61) s.0 in
    rw (p, e, s.1, append_assoc) refl

attr_name_one : (d : TagDraft) (c : ℕ) → d.part ≡ parts.AttrName → is_copied copied.Name c ≡ true → (rows : List Row) (rest : List ℕ) →
    draft_tag rows d (c ∷ rest) ≡ longer_tag (draft_tag rows (record d { attr_name = d.attr_name ++ c ∷ [] }) rest)
unfolding cut tail after_some
attr_name_one d c p h rows rest =
    let s = name_stands c h in
    rw (p, s.0, s.1, append_assoc) refl

value_one : (end : ValueEnd) (d : TagDraft) (c : ℕ) → d.part ≡ parts.Inside end → ((rest : List ℕ) → end_mark end (c ∷ rest) ≡ None) → (c == 38) ≡ false → null_replaced c ≡ c → (rows : List Row) (rest : List ℕ) →
    draft_tag rows d (c ∷ rest) ≡ longer_tag (draft_tag rows (record d { attr_value = d.attr_value ++ c ∷ [] }) rest)
unfolding value_cut tail
value_one end d c p m a z rows rest = rw (p, m rest, a, z, append_assoc) refl

not_null : (c : ℕ) → (c == 0) ≡ false → null_replaced c ≡ c
not_null c z = rw z refl

double_one : (d : TagDraft) (c : ℕ) → d.part ≡ parts.Inside ends.DoubleQuote → is_copied copied.DoubleQuoted c ≡ true → (rows : List Row) (rest : List ℕ) →
    draft_tag rows d (c ∷ rest) ≡ longer_tag (draft_tag rows (record d { attr_value = d.attr_value ++ c ∷ [] }) rest)
double_one d c p h rows rest =
    let a = neither (c == 0) _ h in
    let b = neither (c == 34) _ a.1 in
    value_one ends.DoubleQuote d c p (λ rest. rw b.0 refl) (is_not (c == 38) b.1) (not_null c a.0) rows rest

single_one : (d : TagDraft) (c : ℕ) → d.part ≡ parts.Inside ends.SingleQuote → is_copied copied.SingleQuoted c ≡ true → (rows : List Row) (rest : List ℕ) →
    draft_tag rows d (c ∷ rest) ≡ longer_tag (draft_tag rows (record d { attr_value = d.attr_value ++ c ∷ [] }) rest)
single_one d c p h rows rest =
    let a = neither (c == 0) _ h in
    let b = neither (c == 39) _ a.1 in
    value_one ends.SingleQuote d c p (λ rest. rw b.0 refl) (is_not (c == 38) b.1) (not_null c a.0) rows rest

unquoted_one : (d : TagDraft) (c : ℕ) → d.part ≡ parts.Inside ends.Space → is_copied copied.Unquoted c ≡ true → (rows : List Row) (rest : List ℕ) →
    draft_tag rows d (c ∷ rest) ≡ longer_tag (draft_tag rows (record d { attr_value = d.attr_value ++ c ∷ [] }) rest)
unquoted_one d c p h rows rest =
    let a = neither (ends_unquoted c) _ h in
    let b = neither (c == 0) _ a.1 in
    let e = neither (c == 34) _ b.1 in
    let f = neither (c == 39) _ e.1 in
    let g = neither (c == 38) _ f.1 in
    value_one ends.Space d c p (λ rest. rw a.0 refl) g.0 (not_null c b.0) rows rest

tag_front : (p : ℕ → Bool) (Q : TagDraft → Type 0) (put : TagDraft → List ℕ → TagDraft) →
    ((d : TagDraft) (c : ℕ) → Q d → p c ≡ true → (rows : List Row) (rest : List ℕ) → draft_tag rows d (c ∷ rest) ≡ longer_tag (draft_tag rows (put d (c ∷ [])) rest)) →
    ((d : TagDraft) (c : ℕ) → Q d → Q (put d (c ∷ []))) → ((d : TagDraft) → put d [] ≡ d) → ((d : TagDraft) (c : ℕ) (cs : List ℕ) → put (put d (c ∷ [])) cs ≡ put d (c ∷ cs)) →
    (d : TagDraft) (text : List ℕ) (n : ℕ) → Q d → n ≤ length text → AllPass p (take n text) → (rows : List Row) (more : List ℕ) → draft_tag rows d (text ++ more) ≡ tag_by n (draft_tag rows (put d (take n text)) (drop n text ++ more))
tag_front p Q put one keeps none join d text n q h a rows more =
    ap (λ (x : List ℕ). draft_tag rows d x) (cut_in_two n text more)
    ∙ tag_copies p Q put one keeps none join (take n text) d q a rows (drop n text ++ more)
    ∙ ap (λ (k : ℕ). tag_by k (draft_tag rows (put d (take n text)) (drop n text ++ more))) (length-take-le n text h)

pub name_front : (d : TagDraft) (text : List ℕ) (n : ℕ) → d.part ≡ parts.Name → n ≤ length text → AllPass (is_copied copied.Name) (take n text) → CopiesTag d text n (record d { name = d.name ++ take n text })
name_front d text n p h a = (
  tag_front (is_copied copied.Name) (λ (e : TagDraft). e.part ≡ parts.Name) (λ (e : TagDraft) (xs : List ℕ). record e { name = e.name ++ xs })
      (λ e c. name_one e c) (λ e c q. q) (λ e. rw (append-nil e.name) refl) (λ e c cs. rw append_assoc refl) d text n p h a,
  h,
  refl,
  refl,
  (λ rows place more. name_front_told d.part text n p h a rows (names_in d) place more),
)

pub attr_name_front : (d : TagDraft) (text : List ℕ) (n : ℕ) → d.part ≡ parts.AttrName → n ≤ length text → AllPass (is_copied copied.Name) (take n text) → CopiesTag d text n (record d { attr_name = d.attr_name ++ take n text })
attr_name_front d text n p h a = (
  tag_front (is_copied copied.Name) (λ (e : TagDraft). e.part ≡ parts.AttrName) (λ (e : TagDraft) (xs : List ℕ). record e { attr_name = e.attr_name ++ xs })
      (λ e c. attr_name_one e c) (λ e c q. q) (λ e. rw (append-nil e.attr_name) refl) (λ e c cs. rw append_assoc refl) d text n p h a,
  h,
  refl,
  refl,
  (λ rows place more. attr_name_front_told d.part text n p h a rows (names_of d.attrs) d.attr_name place more),
)

value_front : (p : ℕ → Bool) (end : ValueEnd) →
    ((d : TagDraft) (c : ℕ) → d.part ≡ parts.Inside end → p c ≡ true → (rows : List Row) (rest : List ℕ) → draft_tag rows d (c ∷ rest) ≡ longer_tag (draft_tag rows (record d { attr_value = d.attr_value ++ c ∷ [] }) rest)) →
    (d : TagDraft) (text : List ℕ) (n : ℕ) → d.part ≡ parts.Inside end → n ≤ length text → AllPass p (take n text) →
    ((rows : List Row) (place : ℕ) (more : List ℕ) → part_errors rows (names_in d) d.part place (text ++ more) ≡ part_errors rows (names_in d) d.part (place + n) (drop n text ++ more)) → CopiesTag d text n (record d { attr_value = d.attr_value ++ take n text })
value_front p end one d text n q h a told = (
  tag_front p (λ (e : TagDraft). e.part ≡ parts.Inside end) (λ (e : TagDraft) (xs : List ℕ). record e { attr_value = e.attr_value ++ xs })
      one (λ e c q. q) (λ e. rw (append-nil e.attr_value) refl) (λ e c cs. rw append_assoc refl) d text n q h a,
  h,
  refl,
  refl,
  told,
)

pub inside_front : (end : ValueEnd) (d : TagDraft) (text : List ℕ) (n : ℕ) → d.part ≡ parts.Inside end → n ≤ length text → AllPass (is_copied (copied_in end)) (take n text) → CopiesTag d text n (record d { attr_value = d.attr_value ++ take n text })
inside_front ends.DoubleQuote d text n q h a = value_front (is_copied copied.DoubleQuoted) ends.DoubleQuote double_one d text n q h a (λ rows place more. inside_front_told ends.DoubleQuote d.part text n q h a rows (names_in d) place more)
inside_front ends.SingleQuote d text n q h a = value_front (is_copied copied.SingleQuoted) ends.SingleQuote single_one d text n q h a (λ rows place more. inside_front_told ends.SingleQuote d.part text n q h a rows (names_in d) place more)
inside_front ends.Space d text n q h a = value_front (is_copied copied.Unquoted) ends.Space unquoted_one d text n q h a (λ rows place more. inside_front_told ends.Space d.part text n q h a rows (names_in d) place more)

-- nothing is copied
pub none_front : (d : TagDraft) (text : List ℕ) → CopiesTag d text 0 d
none_front d text = ((λ rows more. sym (tag_by_none (draft_tag rows d (text ++ more)))), omega arith, refl, refl, (λ rows place more. rw add-zero refl))

pub name_copied : {E : Type 0} (r : Result ℕ E) (d : TagDraft) (text new : List ℕ) → d.part ≡ parts.Name →
    IfOk r (λ n. n ≤ length text) → IfOk r (λ n. AllPass (is_copied copied.Name) (take n text)) → IfOk r (λ n. new ≡ d.name ++ take n text) → IfOk r (λ n. CopiesTag d text n (record d { name = new }))
name_copied (Ok n) d text new p h a e = rw e (name_front d text n p h a)
name_copied (Err x) d text new p h a e = tt

pub attr_name_copied : {E : Type 0} (r : Result ℕ E) (d : TagDraft) (text new : List ℕ) → d.part ≡ parts.AttrName →
    IfOk r (λ n. n ≤ length text) → IfOk r (λ n. AllPass (is_copied copied.Name) (take n text)) → IfOk r (λ n. new ≡ d.attr_name ++ take n text) → IfOk r (λ n. CopiesTag d text n (record d { attr_name = new }))
attr_name_copied (Ok n) d text new p h a e = rw e (attr_name_front d text n p h a)
attr_name_copied (Err x) d text new p h a e = tt

pub value_copied : {E : Type 0} (r : Result ℕ E) (end : ValueEnd) (d : TagDraft) (text new : List ℕ) → d.part ≡ parts.Inside end →
    IfOk r (λ n. n ≤ length text) → IfOk r (λ n. AllPass (is_copied (copied_in end)) (take n text)) → IfOk r (λ n. new ≡ d.attr_value ++ take n text) → IfOk r (λ n. CopiesTag d text n (record d { attr_value = new }))
value_copied (Ok n) end d text new p h a e = rw e (inside_front end d text n p h a)
value_copied (Err x) end d text new p h a e = tt

-- comments
cut_by_none : (after : Cut) → cut_by 0 after ≡ after
cut_by_none after = rw zero-add refl

cut_by_more : (k : ℕ) (after : Cut) → passed (cut_by k after) ≡ cut_by (suc k) after
cut_by_more k after = let e : suc (k + after.len) ≡ suc k + after.len = omega arith in rw e refl

comment_one : (kind : CommentKind) (c : ℕ) → is_copied (copied_by kind) c ≡ true → ((rest : List ℕ) → mark_of kind (c ∷ rest) ≡ None) × (null_replaced c ≡ c)
comment_one Declared c h =
    let a = neither (c == 0) _ h in
    let b = neither (c == 45) _ a.1 in
    ((λ rest. rw b.0 refl), not_null c a.0)
comment_one Bogus c h =
    let a = neither (c == 0) _ h in
    ((λ rest. rw (is_not (c == 62) a.1) refl), not_null c a.0)

comment_copies : (d : CommentDraft) (xs : List ℕ) → AllPass (is_copied (copied_by d.kind)) xs → (more : List ℕ) →
    draft_cut d (xs ++ more) ≡ cut_by (length xs) (draft_cut (record d { «data» = d.«data» ++ xs }) more)
comment_copies d [] a more = rw (append-nil d.«data») (sym (cut_by_none (draft_cut d more)))
comment_copies d (c ∷ xs) a more =
    let one = comment_one d.kind c a.0 in
    longer_draft d c (xs ++ more) (one.0 (xs ++ more))
    ∙ rw one.1 (ap passed (comment_copies (record d { «data» = d.«data» ++ c ∷ [] }) xs a.1 more)
    ∙ cut_by_more (length xs) (draft_cut (record d { «data» = (d.«data» ++ c ∷ []) ++ xs }) more)
    ∙ ap (λ (x : List ℕ). cut_by (suc (length xs)) (draft_cut (record d { «data» = x }) more)) (append_assoc d.«data» (c ∷ []) xs))

-- nor begins a `<!--`
none_nested : (kind : CommentKind) (place c : ℕ) (rest : List ℕ) → is_copied (copied_by kind) c ≡ true → comment_char_errors kind place (c ∷ rest) ≡ []
none_nested Declared place c rest h =
    let a = neither (c == 0) _ h in
    let b = neither (c == 45) _ a.1 in
    rw (is_not (c == 60) b.1, a.0) refl
none_nested Bogus place c rest h = rw (neither (c == 0) _ h).0 refl

-- no code point that is copied closes a comment
errors_copied : (kind : CommentKind) (place : ℕ) (xs : List ℕ) → AllPass (is_copied (copied_by kind)) xs → (more : List ℕ) → comment_errors kind place (xs ++ more) ≡ comment_errors kind (place + length xs) more
errors_copied kind place [] a more = rw add-zero refl
errors_copied kind place (c ∷ xs) a more =
    let e : place + suc (length xs) ≡ (place + 1) + length xs = omega arith in
    more_errors kind place c (xs ++ more) ((comment_one kind c a.0).0 (xs ++ more)) ∙ rw (none_nested kind place c (xs ++ more) a.0, e) (errors_copied kind (place + 1) xs a.1 more)

comment_front : (d : CommentDraft) (text : List ℕ) (n : ℕ) → n ≤ length text → AllPass (is_copied (copied_by d.kind)) (take n text) → CopiesComment d text n (record d { «data» = d.«data» ++ take n text })
comment_front d text n h a = (
  (λ more. ap (λ (x : List ℕ). draft_cut d x) (cut_in_two n text more)
      ∙ comment_copies d (take n text) a (drop n text ++ more)
      ∙ ap (λ (k : ℕ). cut_by k (draft_cut (record d { «data» = d.«data» ++ take n text }) (drop n text ++ more))) (length-take-le n text h)),
  h,
  refl,
  (λ place more. ap (λ (x : List ℕ). comment_errors d.kind place x) (cut_in_two n text more)
      ∙ errors_copied d.kind place (take n text) a (drop n text ++ more)
      ∙ ap (λ (k : ℕ). comment_errors d.kind (place + k) (drop n text ++ more)) (length-take-le n text h)),
)

pub comment_copied : {E : Type 0} (r : Result ℕ E) (d : CommentDraft) (text new : List ℕ) →
    IfOk r (λ n. n ≤ length text) → IfOk r (λ n. AllPass (is_copied (copied_by d.kind)) (take n text)) → IfOk r (λ n. new ≡ d.«data» ++ take n text) → IfOk r (λ n. CopiesComment d text n (record d { «data» = new }))
comment_copied (Ok n) d text new h a e = rw e (comment_front d text n h a)
comment_copied (Err x) d text new h a e = tt
