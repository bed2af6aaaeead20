-- What steps after a `&` and letters or digits give and tell.
use Rattle.std.proofs.Common.{◌≡◌, ◌⊎◌, ℕ, ◌+◌, ◌<◌, List, [], ◌∷◌, ◌++◌, length, drop, Option, Some, true, refl, ap, ap₂, sym, ◌∙◌, inl, inr, arith, append_assoc, append-nil}
use Rattle.std.specs.Char.{is_ascii_alphanumeric}
use Rattle.std.specs.List.{slice_get}
use Rattle.html_tokens.specs.Bounds.{Bounded}
use Rattle.html_tokens.specs.Errors.{all_told, begin_told}
use Rattle.html_tokens.specs.declared.token.Token.{Token}
use Rattle.html_tokens.specs.Fed.{IsSilent, Passes, SameCount, Steps, Tells, TellsAt, told_at}
use Rattle.html_tokens.specs.Input.{Decided, MayFollow}
use Rattle.html_tokens.specs.Inside.{null_errors}
use Rattle.html_tokens.specs.InsideReferences.{ampersand_errors, ampersand_told, are_no_letters}
use Rattle.html_tokens.specs.Marks.{begin_at}
use Rattle.html_tokens.specs.Runs.{is_plain}
use Rattle.html_tokens.specs.Tokens.{token}
use Rattle.html_tokens.specs.declared.faults.Fault.{Fault}
use Rattle.html_tokens.specs.declared.faults.Faults.{Faults}
use Rattle.html_tokens.specs.declared.machine.Machine.{Machine}
use Rattle.html_tokens.specs.declared.machine.Progress.{Progress}
use Rattle.html_tokens.specs.declared.machine.Progress.TheVariants.{Given, More, Wait}
use Rattle.html_tokens.specs.declared.machine.State.TheVariants.{Text, Ampersand}
use Rattle.html_tokens.specs.declared.token.Region.TheVariants.{Plain}
use Rattle.html_tokens.specs.declared.token.TextMode.{TextMode}
use Rattle.html_tokens.specs.declared.token.TokenKind.TheVariants as kinds
use Rattle.html_tokens.proofs.CopyLemmas.{clean_in}
use Rattle.html_tokens.proofs.Cuts.{first_of}
use Rattle.html_tokens.proofs.PartLemmas.{letters_none}
use Rattle.html_tokens.proofs.ReferenceLemmas.{letter_apart, letters_on, letters_stop}
use Rattle.html_tokens.proofs.RunLemmas.{plain_begins, plain_steps}
use Rattle.html_tokens.proofs.StepLemmas.{going_on}

-- a letter or digit, or a `;`, is plain text
letter_plain : (mode : TextMode) (c : ℕ) → (is_ascii_alphanumeric c ≡ true) ⊎ (c ≡ 59) → is_plain mode c ≡ true
letter_plain mode c (inl l) = clean_in mode c (letter_apart c 0 l refl) (letter_apart c 60 l refl) (letter_apart c 38 l refl)
letter_plain mode c (inr e) = rw e (clean_in mode 59 refl refl refl)

no_null : (c place : ℕ) → (is_ascii_alphanumeric c ≡ true) ⊎ (c ≡ 59) → null_errors (Some c) place ≡ []
no_null c place (inl l) = rw (letter_apart c 0 l refl) refl
no_null c place (inr e) = rw e refl

-- it tells nothing in text
none_told : (t : Machine) (c : ℕ) → (is_ascii_alphanumeric c ≡ true) ⊎ (c ≡ 59) → Decided t.input (λ rest. slice_get rest 0) (Some c) → 0 < length t.input.queue.items → (more : List ℕ) → MayFollow t.input.finished more →
    begin_told t.table.now (begin_at t.mode Plain t.last_name (t.input.queue.items ++ more)) t.place (t.input.queue.items ++ more) ≡ []
none_told t c l first some more f =
    let text = first_of t.input.queue.items more c (first more f) some in
    rw (text, plain_begins t.mode t.last_name c (drop 1 t.input.queue.items ++ more) (letter_plain t.mode c l)) (no_null c t.place l)

quiet_on : (before after told now whole left : List Fault) → before ≡ after → told ≡ [] → now ≡ [] → whole ≡ now ++ left → before ++ whole ≡ (told ++ now) ++ (after ++ left)
quiet_on before after told now whole left e t n w = rw (e, t, n, w, n) refl

told_on : (before told now whole left : List Fault) → before ≡ told → whole ≡ now ++ left → before ++ whole ≡ (told ++ now) ++ left
told_on before told now whole left e w = rw (e, w) (sym (append_assoc told now left))

none_on : (before told now whole left : List Fault) → before ≡ [] → told ≡ [] → whole ≡ now ++ left → before ++ whole ≡ (told ++ now) ++ left
none_on before told now whole left e t w = rw (e, t, w) refl

items_first : (items : List ℕ) (c : ℕ) → slice_get (items ++ []) 0 ≡ Some c → 0 < length items → items ≡ c ∷ drop 1 items
items_first [] c e h = absurd (omega arith)
items_first (d ∷ items) c e h = let f : d ≡ c = cc in rw f refl

-- the same machine, in text
abbrev pub text_of : Machine → Machine
text_of t = record t { state = Text Plain }

-- a letter or digit is given
pub letter_steps : (old new : Machine) (start c : ℕ) (progress : Progress) → old.state ≡ Ampersand start → Decided old.input (λ rest. slice_get rest 0) (Some c) → 0 < length old.input.queue.items → is_ascii_alphanumeric c ≡ true →
    (progress ≡ Given (token (kinds.Char c) old.place (old.place + 1))) × Passes old 1 (Ampersand start) new → Steps old progress new
letter_steps old new start c progress s first some l (given, p) =
    let items = old.input.queue.items in
    let q : Passes (text_of old) 1 (Text Plain) (text_of new) = record { items = p.items; finished = p.finished; place = p.place; mode = p.mode; name = p.name; state = refl; table = p.table } in
    let steps = plain_steps (text_of old) (text_of new) c (drop 1 items) refl (letter_plain old.mode c (inl l)) (items_first items c (first [] (λ _. refl)) some) q (omega arith) in
    rw given (
      (λ more switch switches f. rw (s, p.state) (steps.0 more switch switches f)),
      record { count = steps.1.count; finished = steps.1.finished; table = steps.1.table; drained = going_on old new _ p.state (λ e. e) },
      steps.2,
      (λ more switch switches f.
          let text = first_of items more c (first more f) some in
          let left : ampersand_errors start (items ++ more) ≡ ampersand_errors start (new.input.queue.items ++ more) =
          ap (λ (x : List ℕ). ampersand_errors start x) text ∙ letters_on start c (drop 1 items ++ more) l ∙ ap (λ (x : List ℕ). ampersand_errors start (x ++ more)) (sym p.items) in
          let told : ampersand_told start (slice_get (items ++ more) 0) ≡ [] = ap (λ (x : Option ℕ). ampersand_told start x) (first more f) ∙ rw (letter_apart c 59 l refl) refl in
          rw (s, p.state) (quiet_on _ _ _ _ _ _ left told (none_told old c (inl l) first some more f) (steps.3 more switch switches f))),
    )

-- the `;` after them is given
pub semicolon_steps : (old new : Machine) (start c : ℕ) (progress : Progress) → old.state ≡ Ampersand start → Decided old.input (λ rest. slice_get rest 0) (Some c) → 0 < length old.input.queue.items → c ≡ 59 →
    (progress ≡ Given (token (kinds.Char c) old.place (old.place + 1))) × Passes old 1 (Text Plain) new → Steps old progress new
semicolon_steps old new start c progress s first some e (given, p) =
    let items = old.input.queue.items in
    let q : Passes (text_of old) 1 (Text Plain) new = record { items = p.items; finished = p.finished; place = p.place; mode = p.mode; name = p.name; state = p.state; table = p.table } in
    let steps = plain_steps (text_of old) new c (drop 1 items) refl (letter_plain old.mode c (inr e)) (items_first items c (first [] (λ _. refl)) some) q (omega arith) in
    rw given (
      (λ more switch switches f. rw s (steps.0 more switch switches f)),
      record { count = steps.1.count; finished = steps.1.finished; table = steps.1.table; drained = going_on old new _ p.state (λ e. e) },
      steps.2,
      (λ more switch switches f.
          let text = first_of items more c (first more f) some in
          let told : ampersand_errors start (items ++ more) ≡ ampersand_told start (slice_get (items ++ more) 0) =
          ap (λ (x : List ℕ). ampersand_errors start x) text ∙ letters_stop start c (drop 1 items ++ more) (rw e refl) ∙ ap (λ (x : Option ℕ). ampersand_told start x) (sym (first more f)) in
          rw s (told_on _ _ _ _ _ told (steps.3 more switch switches f))),
    )

-- what is told there
pub letter_tells : (old : Machine) (start c : ℕ) → old.state ≡ Ampersand start → (is_ascii_alphanumeric c ≡ true) ⊎ (c ≡ 59) → Decided old.input (λ rest. slice_get rest 0) (Some c) → 0 < length old.input.queue.items →
    (more : List ℕ) → MayFollow old.input.finished more → told_at old more ≡ ampersand_told start (Some c)
letter_tells old start c s l first some = λ more f.
    rw s (ap₂ (λ (es fs : List Fault). es ++ fs) (ap (λ (x : Option ℕ). ampersand_told start x) (first more f)) (none_told old c l first some more f) ∙ append-nil (ampersand_told start (Some c)))

pub given_tells : (old : Machine) (progress : Progress) {given : Token} (f f' : Faults) → progress ≡ Given given → TellsAt old f f' → Tells old progress f f'
given_tells old progress f f' g tells = rw g tells

-- a letter or digit tells nothing
pub letter_silent : (old : Machine) (start c : ℕ) → old.state ≡ Ampersand start → is_ascii_alphanumeric c ≡ true → Decided old.input (λ rest. slice_get rest 0) (Some c) → 0 < length old.input.queue.items → IsSilent old
letter_silent old start c s l first some = λ more f. letter_tells old start c s (inl l) first some more f ∙ rw (letter_apart c 59 l refl) refl

same_count : (old new : Machine) → SameCount (text_of old) new → SameCount old new
same_count old new k = record { count = k.count; finished = k.finished; table = k.table; drained = λ d h. k.drained (λ e. absurd e) h }

-- where none comes, text is read on
pub letters_left : (old new : Machine) (start : ℕ) (progress : Progress) → old.state ≡ Ampersand start → Decided old.input are_no_letters true → ¬ (progress ≡ Wait) → Steps (text_of old) progress new → Steps old progress new
letters_left old new start (Given given) s none off steps = (
  (λ more switch switches f. rw s (steps.0 more switch switches f)),
  same_count old new steps.1,
  steps.2,
  (λ more switch switches f. let n = letters_none start (old.input.queue.items ++ more) (none more f) in rw s (none_on _ _ _ _ _ n.0 n.1 (steps.3 more switch switches f))),
)
letters_left old new start More s none off steps = (
  (λ more switches f. rw s (steps.0 more switches f)),
  steps.1,
  same_count old new steps.2,
  steps.3,
  (λ more switches f. let n = letters_none start (old.input.queue.items ++ more) (none more f) in rw s (none_on _ _ _ _ _ n.0 n.1 (steps.4 more switches f))),
)
letters_left old new start Wait s none off steps = absurd (off refl)

-- where more input is wanted for that, all is as it was
pub letters_wait : (old mid : Machine) (start : ℕ) → old.state ≡ Ampersand start → Steps (text_of old) Wait mid → Steps old Wait (record mid { state = Ampersand start })
letters_wait old mid start s (e, short) = (rw (e, ← s) refl, short)

same_told : (old : Machine) (start : ℕ) → old.state ≡ Ampersand start → Decided old.input are_no_letters true → (more : List ℕ) → MayFollow old.input.finished more → told_at (text_of old) more ≡ told_at old more
same_told old start s none more f =
    let text = old.input.queue.items ++ more in
    let n = letters_none start text (none more f) in
    rw s (ap (λ (es : List Fault). es ++ begin_told old.table.now (begin_at old.mode Plain old.last_name text) old.place text) (sym n.1))

left_tells : (old : Machine) (start : ℕ) (f f' : Faults) → old.state ≡ Ampersand start → Decided old.input are_no_letters true → TellsAt (text_of old) f f' → TellsAt old f f'
left_tells old start f f' s none t = λ kept. ((t kept).0, λ more g. (t kept).1 more g ∙ ap (λ (es : List Fault). all_told f.list es) (same_told old start s none more g))

pub letters_left_tell : (old : Machine) (start : ℕ) (progress : Progress) (f f' : Faults) → old.state ≡ Ampersand start → Decided old.input are_no_letters true → Tells (text_of old) progress f f' → Tells old progress f f'
letters_left_tell old start (Given given) f f' s none t = left_tells old start f f' s none t
letters_left_tell old start More f f' s none t = left_tells old start f f' s none t
letters_left_tell old start Wait f f' s none t = t

-- the bounds are the same in text
pub letters_bounded : (start place : ℕ) (f : Faults) → Bounded (Ampersand start) place f → Bounded (Text Plain) place f
letters_bounded start place f b = record { told = b.told; compared = b.compared; attrs = b.attrs }

pub text_bounded : (start place : ℕ) (f : Faults) → Bounded (Text Plain) place f → Bounded (Ampersand start) place f
text_bounded start place f b = record { told = b.told; compared = b.compared; attrs = b.attrs }
