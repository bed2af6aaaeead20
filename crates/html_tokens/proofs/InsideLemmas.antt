-- The parse errors inside of pieces.
use Rattle.std.proofs.Common.{◌≡◌, ℕ, zero, suc, ◌+◌, ◌<◌, ◌≤◌, List, [], ◌∷◌, ◌++◌, length, drop, Bool, true, false, cond, Option, Some, None, refl, ap, sym, inl, inr, ◌∙◌, arith, add-zero, append-nil, length-append, length-drop}
use Rattle.std.specs.List.{slice_get}
use Rattle.std.proofs.lemmas.List.{drop-append-le}
use Rattle.std.proofs.lemmas.Bool.{cases_eq}
use Rattle.html_tokens.specs.Cut.{is_space}
use Rattle.html_tokens.specs.Doctype.{keyword_at}
use Rattle.html_tokens.specs.Inside.{ClosesComment, MovesDoctype, closes_part, doctype_front_errors, doctype_errors, doctype_told, is_closed, is_keyword, kind_errors, part_after, word_part}
use Rattle.html_tokens.specs.Input.{Decided, MayFollow}
use Rattle.html_tokens.specs.declared.doctype.DoctypeDraft.{DoctypeDraft}
use Rattle.html_tokens.specs.declared.doctype.DoctypePart.{DoctypePart}
use Rattle.html_tokens.specs.declared.doctype.DoctypePart.TheVariants as parts
use Rattle.html_tokens.specs.declared.doctype.DoctypeReading.TheVariants.{More, Keyword as Word, Closed}
use Rattle.html_tokens.specs.declared.doctype.Keyword.{Keyword}
use Rattle.html_tokens.specs.declared.doctype.Keyword.TheVariants as keywords
use Rattle.html_tokens.specs.Errors.{Opens}
use Rattle.html_tokens.specs.Fed.{TellsAt}
use Rattle.html_tokens.specs.declared.faults.Faults.{Faults}
use Rattle.html_tokens.specs.declared.input.Input.{Input}
use Rattle.html_tokens.specs.declared.machine.Machine.{Machine}
use Rattle.html_tokens.specs.declared.comment.CommentDraft.{CommentDraft}
use Rattle.html_tokens.specs.declared.machine.State.TheVariants.{Comment, Doctype}
use Rattle.html_tokens.proofs.CommentLemmas.{comment_ends}
use Rattle.html_tokens.proofs.ToldLemmas.{tells_decided}
use Rattle.html_tokens.proofs.Cuts.{empty_rest, first_of}
use Rattle.html_tokens.proofs.DoctypeLemmas.{differs}

-- outside of the part after the name no keyword begins
other_told : (part : DoctypePart) (spaced : Bool) (place : ℕ) (text : List ℕ) → ¬ (part ≡ parts.AfterName) → doctype_told part spaced place text ≡ doctype_front_errors part spaced (slice_get text 0) place
other_told parts.BeforeName spaced place text off = refl
other_told parts.Name spaced place text off = refl
other_told parts.AfterName spaced place text off = absurd (off refl)
other_told parts.BeforePublic spaced place text off = refl
other_told (parts.Public quote) spaced place text off = refl
other_told parts.AfterPublic spaced place text off = refl
other_told parts.BeforeSystem spaced place text off = refl
other_told (parts.System quote) spaced place text off = refl
other_told parts.AfterSystem spaced place text off = refl
other_told (parts.BadRest force_quirks) spaced place text off = refl

moved : (part : DoctypePart) (spaced : Bool) (place c : ℕ) (rest : List ℕ) → ¬ (part ≡ parts.AfterName) → closes_part part c ≡ false →
    doctype_errors part spaced 0 place (c ∷ rest) ≡ doctype_told part spaced place (c ∷ rest) ++ doctype_errors (part_after part c keywords.Other) (is_space c) 0 (place + 1) rest
unfolding doctype_errors
moved parts.BeforeName spaced place c rest off e = rw e refl
moved parts.Name spaced place c rest off e = rw e refl
moved parts.AfterName spaced place c rest off e = absurd (off refl)
moved parts.BeforePublic spaced place c rest off e = rw e refl
moved (parts.Public quote) spaced place c rest off e = rw e refl
moved parts.AfterPublic spaced place c rest off e = rw e refl
moved parts.BeforeSystem spaced place c rest off e = rw e refl
moved (parts.System quote) spaced place c rest off e = rw e refl
moved parts.AfterSystem spaced place c rest off e = rw e refl
moved (parts.BadRest force_quirks) spaced place c rest off e = rw e refl

closed_errors : (part : DoctypePart) (spaced : Bool) (place c : ℕ) (rest : List ℕ) → closes_part part c ≡ true → doctype_errors part spaced 0 place (c ∷ rest) ≡ doctype_told part spaced place (c ∷ rest)
unfolding doctype_errors
closed_errors part spaced place c rest e = rw e (append-nil (doctype_told part spaced place (c ∷ rest)))

ended_errors : (part : DoctypePart) (spaced : Bool) (place : ℕ) → doctype_errors part spaced 0 place [] ≡ doctype_told part spaced place []
unfolding doctype_errors
ended_errors part spaced place = refl

ended_told : (part : DoctypePart) (spaced : Bool) (place : ℕ) → doctype_told part spaced place [] ≡ doctype_front_errors part spaced None place
ended_told parts.BeforeName spaced place = refl
ended_told parts.Name spaced place = refl
ended_told parts.AfterName spaced place = refl
ended_told parts.BeforePublic spaced place = refl
ended_told (parts.Public quote) spaced place = refl
ended_told parts.AfterPublic spaced place = refl
ended_told parts.BeforeSystem spaced place = refl
ended_told (parts.System quote) spaced place = refl
ended_told parts.AfterSystem spaced place = refl
ended_told (parts.BadRest force_quirks) spaced place = refl

-- one code point is passed
pub moves_on : (d new : DoctypeDraft) (input : Input) (c : ℕ) → ¬ (d.part ≡ parts.AfterName) → Decided input (λ rest. slice_get rest 0) (Some c) → 0 < length input.queue.items →
    closes_part d.part c ≡ false → new.part ≡ part_after d.part c keywords.Other → new.spaced ≡ is_space c → MovesDoctype d input More new
moves_on d new input c off first some e part spaced = (
  (λ place more f.
      let t = first_of input.queue.items more c (first more f) some in
      rw (t, part, spaced) (moved d.part d.spaced place c (drop 1 input.queue.items ++ more) off e)),
  (λ place more f. other_told d.part d.spaced place (input.queue.items ++ more) off),
)

-- the doctype closes
pub moves_closed : (d new : DoctypeDraft) (input : Input) (force_quirks : Bool) (c : ℕ) → ¬ (d.part ≡ parts.AfterName) → Decided input (λ rest. slice_get rest 0) (Some c) → 0 < length input.queue.items →
    closes_part d.part c ≡ true → MovesDoctype d input (Closed force_quirks 1) new
moves_closed d new input force_quirks c off first some e = (
  (λ place more f.
      let t = first_of input.queue.items more c (first more f) some in
      rw t (closed_errors d.part d.spaced place c (drop 1 input.queue.items ++ more) e)),
  (λ place more f. other_told d.part d.spaced place (input.queue.items ++ more) off),
)

-- the text ends
pub moves_ended : (d new : DoctypeDraft) (input : Input) (force_quirks : Bool) → Decided input (λ rest. slice_get rest 0) None → MovesDoctype d input (Closed force_quirks 0) new
moves_ended d new input force_quirks none = (
  (λ place more f. rw (empty_rest _ (none more f)) (ended_errors d.part d.spaced place)),
  (λ place more f. rw (empty_rest _ (none more f)) (ended_told d.part d.spaced place)),
)

-- AFTER THE NAME

after_name_on : (spaced : Bool) (place c : ℕ) (rest : List ℕ) → keyword_at (c ∷ rest) ≡ keywords.Other → ¬ (c ≡ 62) →
    doctype_errors parts.AfterName spaced 0 place (c ∷ rest) ≡ doctype_told parts.AfterName spaced place (c ∷ rest) ++ doctype_errors (cond (is_space c) parts.AfterName (parts.BadRest true)) (is_space c) 0 (place + 1) rest
unfolding doctype_errors
after_name_on spaced place c rest k h = rw (k, differs c 62 h) refl

name_told : (spaced : Bool) (place : ℕ) (text : List ℕ) → keyword_at text ≡ keywords.Other → doctype_told parts.AfterName spaced place text ≡ doctype_front_errors parts.AfterName spaced (slice_get text 0) place
name_told spaced place text k = rw k refl

-- no keyword begins, and one code point is passed
pub moves_after_name : (d new : DoctypeDraft) (input : Input) (c : ℕ) → d.part ≡ parts.AfterName → Decided input (λ rest. slice_get rest 0) (Some c) → 0 < length input.queue.items →
    ¬ (c ≡ 62) → Decided input keyword_at keywords.Other → new.part ≡ cond (is_space c) parts.AfterName (parts.BadRest true) → new.spaced ≡ is_space c → MovesDoctype d input More new
moves_after_name d new input c at first some h other part spaced = (
  (λ place more f.
      let t = first_of input.queue.items more c (first more f) some in
      let k = rw t at (other more f) in
      rw (at, t, part, spaced) (after_name_on d.spaced place c (drop 1 input.queue.items ++ more) k h)),
  (λ place more f. rw at (name_told d.spaced place (input.queue.items ++ more) (other more f))),
)

spaces : (c : ℕ) (rest : List ℕ) → is_space c ≡ true → keyword_at (c ∷ rest) ≡ keywords.Other
spaces c rest e = elim (cases_eq c 9) [
  | inl a ↦ rw a refl
  | inr a ↦ elim (cases_eq c 10) [
    | inl b ↦ rw b refl
    | inr b ↦ elim (cases_eq c 12) [
      | inl x ↦ rw x refl
      | inr x ↦ elim (cases_eq c 32) [
        | inl y ↦ rw y refl
        | inr y ↦ absurd (let z = rw (differs c 9 a, differs c 10 b, differs c 12 x, differs c 32 y) at e in cc)
      ]
    ]
  ]
]

-- white space is no keyword
pub space_decides : (input : Input) (c : ℕ) → Decided input (λ rest. slice_get rest 0) (Some c) → 0 < length input.queue.items → is_space c ≡ true → Decided input keyword_at keywords.Other
space_decides input c first some e = λ more f. rw (first_of input.queue.items more c (first more f) some) (spaces c (drop 1 input.queue.items ++ more) e)

-- `>` after the name
pub moves_name_closed : (d new : DoctypeDraft) (input : Input) (c : ℕ) → d.part ≡ parts.AfterName → Decided input (λ rest. slice_get rest 0) (Some c) → 0 < length input.queue.items → c ≡ 62 → MovesDoctype d input (Closed false 1) new
moves_name_closed d new input c at first some e = (
  (λ place more f.
      let t = first_of input.queue.items more c (first more f) some in
      rw (at, t, e) (closed_errors parts.AfterName d.spaced place 62 (drop 1 input.queue.items ++ more) refl)),
  (λ place more f.
      let t = first_of input.queue.items more c (first more f) some in
      rw (at, t, e) (name_told d.spaced place (62 ∷ (drop 1 input.queue.items ++ more)) refl)),
)

skipped : (part : DoctypePart) (spaced : Bool) (k place : ℕ) (text : List ℕ) → k ≤ length text → doctype_errors part spaced k place text ≡ doctype_errors part spaced 0 (place + k) (drop k text)
unfolding doctype_errors
skipped part spaced zero place text h = rw add-zero refl
skipped part spaced (suc k) place [] h = absurd (omega arith)
skipped part spaced (suc k) place (c ∷ rest) h =
    let e : place + suc k ≡ (place + 1) + k = omega arith in
    rw e (skipped part spaced k (place + 1) rest (omega arith))

word_errors : (keyword : Keyword) (spaced : Bool) (place c : ℕ) (rest : List ℕ) → keyword_at (c ∷ rest) ≡ keyword → is_keyword keyword ≡ true → is_space c ≡ false → ¬ (c ≡ 62) → 5 ≤ length rest →
    doctype_errors parts.AfterName spaced 0 place (c ∷ rest) ≡ doctype_errors (word_part keyword) false 0 (place + 6) (drop 5 rest)
unfolding doctype_errors
word_errors keyword spaced place c rest k i s h fit =
    let e : place + 6 ≡ place + 1 + 5 = omega arith in
    rw (k, i, s, differs c 62 h, e) (skipped (word_part keyword) false 5 (place + 1) rest fit)

word_told : (keyword : Keyword) (spaced : Bool) (place : ℕ) (text : List ℕ) → keyword_at text ≡ keyword → is_keyword keyword ≡ true → doctype_told parts.AfterName spaced place text ≡ []
word_told keyword spaced place text k i = rw (k, i) refl

rest_fit : (items more : List ℕ) → 6 ≤ length items → 5 ≤ length (drop 1 items ++ more)
rest_fit items more fit = let n = length-append (drop 1 items) more in let k = length-drop 1 items in omega (arith, n, k, fit)

-- a keyword is passed
pub moves_word : (d new : DoctypeDraft) (input : Input) (c : ℕ) (keyword : Keyword) → d.part ≡ parts.AfterName → Decided input (λ rest. slice_get rest 0) (Some c) → 6 ≤ length input.queue.items →
    is_space c ≡ false → ¬ (c ≡ 62) → Decided input keyword_at keyword → is_keyword keyword ≡ true → new.part ≡ word_part keyword → new.spaced ≡ false → MovesDoctype d input (Word 6) new
moves_word d new input c keyword at first fit s h found i part spaced = (
  (λ place more f.
      let items = input.queue.items in
      let t = first_of items more c (first more f) (omega arith) in
      let rest = drop 1 items ++ more in
      let left : 5 ≤ length rest = rest_fit items more fit in
      let k = rw t at (found more f) in
      let on : drop 6 items ++ more ≡ drop 5 rest = sym (drop-append-le 6 items more fit) ∙ ap (λ (x : List ℕ). drop 6 x) t in
      rw (at, word_told keyword d.spaced place (items ++ more) (found more f) i, part, spaced, on, t) (word_errors keyword d.spaced place c rest k i s h left)),
  (λ place more f. rw at (word_told keyword d.spaced place (input.queue.items ++ more) (found more f) i)),
)

-- what stands there was told
pub doctype_tells : (t : Machine) (d : DoctypeDraft) (first : Option ℕ) (old new : Faults) → t.state ≡ Doctype d →
    ((place : ℕ) (more : List ℕ) → MayFollow t.input.finished more → doctype_told d.part d.spaced place (t.input.queue.items ++ more) ≡ doctype_front_errors d.part d.spaced (slice_get (t.input.queue.items ++ more) 0) place) →
    Decided t.input (λ rest. slice_get rest 0) first → Opens (doctype_front_errors d.part d.spaced first t.place) old new → TellsAt t old new
doctype_tells t d first old new s told found opens =
    tells_decided t (doctype_front_errors d.part d.spaced first t.place) old new
    (λ more f. rw s (told t.place more f ∙ ap (λ (x : Option ℕ). doctype_front_errors d.part d.spaced x t.place) (found more f))) opens

-- COMMENTS

third : (items more : List ℕ) → 3 ≤ length items → slice_get (items ++ more) 2 ≡ slice_get items 2
third [] more h = absurd (omega arith)
third (a ∷ []) more h = absurd (omega arith)
third (a ∷ b ∷ []) more h = absurd (omega arith)
third (a ∷ b ∷ c ∷ rest) more h = refl

-- what closes a comment was fed
pub closed_fed : (items more : List ℕ) (n : ℕ) → n ≤ length items → is_closed n (items ++ more) ≡ is_closed n items
closed_fed items more n h = elim (cases_eq n 3) [
  | inl e ↦ rw (third items more (omega (arith, e, h))) refl
  | inr e ↦ rw (differs n 3 e) refl
]

-- what closes a comment was told
pub comment_tells : (t : Machine) (d : CommentDraft) (n : ℕ) (old new : Faults) → t.state ≡ Comment d → n ≤ length t.input.queue.items →
    ((more : List ℕ) → MayFollow t.input.finished more → ClosesComment d.kind (t.input.queue.items ++ more) n) → Opens (kind_errors d.kind (is_closed n t.input.queue.items) n t.place) old new → TellsAt t old new
comment_tells t d n old new s fit closes opens =
    let items = t.input.queue.items in
    tells_decided t (kind_errors d.kind (is_closed n items) n t.place) old new
    (λ more f. rw s ((comment_ends d.kind t.place n (items ++ more) (closes more f)).1 ∙ ap (λ (b : Bool). kind_errors d.kind b n t.place) (closed_fed items more n fit))) opens
