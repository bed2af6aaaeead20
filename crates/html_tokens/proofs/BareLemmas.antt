-- Tags without attributes that were not fed before.
use Rattle.std.proofs.Common.{IfOk, OnOk, Result, Ok, Err, ◌≡◌, ◌≢◌, ℕ, zero, suc, ◌+◌, ◌<◌, ◌≤◌, ◌⊎◌, inl, inr, List, [], ◌∷◌, ◌++◌, ◌==◌, All, Bool, Option, Some, length, take, drop, true, false, refl, ap, ap₂, sym, ◌∙◌, arith, subst, length-append}
use Rattle.std.specs.List.{list_all, slice_get}
use Rattle.std.specs.Str.{IsAscii, IsUtf8, chars}
use Rattle.std.proofs.Math.Seq.{drop-length, take-add, take-append_seam}
use Rattle.std.proofs.lemmas.Bool.{false≢true}
use Rattle.std.proofs.lemmas.Bool.Decides.{nat_tests}
use Rattle.std.proofs.lemmas.List.Elements.{All-cons, All-nil}
use Rattle.std.proofs.lemmas.Option.{slice_get_within}
use Rattle.std.proofs.lemmas.Str.{IsUtf8-from_ascii, chars-IsAscii}
use Rattle.std.proofs.lemmas.Str.Ascii.{IsAscii-from_all}
use Rattle.html_tokens.specs.Errors.{opened_errors, opening_errors}
use Rattle.html_tokens.specs.Fed.{IsSilent}
use Rattle.html_tokens.specs.Stream.{AreTold}
use Rattle.html_tokens.specs.declared.faults.Faults.{Faults}
use Rattle.html_tokens.proofs.PlainLemmas.{told_at_text}
use Rattle.html_tokens.proofs.ToldLemmas.{quiet_same, tells_quiet, told_given}
use Rattle.html_tokens.specs.Bare.{Bare, IsBareName, is_bare_char, opening, spelling}
use Rattle.html_tokens.specs.Copied.{AllPass, is_copied}
use Rattle.html_tokens.specs.Doctype.{doctype_word, spells_word}
use Rattle.html_tokens.specs.Fed.{Steps}
use Rattle.html_tokens.specs.Runs.{is_text}
use Rattle.html_tokens.specs.Stream.{IsAt, Run, answered, fed, gave}
use Rattle.html_tokens.specs.Tag.{between}
use Rattle.html_tokens.specs.Tokens.{open_piece, opener, opener_at, token}
use Rattle.html_tokens.specs.declared.copied.Copied.TheVariants as copied
use Rattle.html_tokens.specs.declared.faults.Faults.{Faults}
use Rattle.html_tokens.specs.declared.machine.Machine.{Machine}
use Rattle.html_tokens.specs.declared.machine.Progress.TheVariants.{Given}
use Rattle.html_tokens.specs.declared.token.Opener.TheVariants as opens
use Rattle.html_tokens.specs.declared.token.TextMode.{TextMode}
use Rattle.html_tokens.specs.declared.token.TextMode.TheVariants.{Data}
use Rattle.html_tokens.specs.declared.token.Token.{Token}
use Rattle.html_tokens.specs.declared.token.TokenKind.TheVariants as kinds
use Rattle.html_tokens.proofs.CopyLemmas.{both-left, both-right}
use Rattle.html_tokens.proofs.PlainLemmas.{fed_at, with_text}
use Rattle.html_tokens.proofs.RunLemmas.{text_state}
use Rattle.html_tokens.proofs.ShortLemmas.{ends_short, short_gives}
use Rattle.html_tokens.proofs.StreamLemmas.{run_given}

-- THE CODE POINTS OF A NAME

Between : ℕ → ℕ → ℕ → Type 0
Between low high c = (low ≤ c) × (c ≤ high)

-- a small letter or a digit
ranges : (c : ℕ) → is_bare_char c ≡ true → Between 97 122 c ⊎ Between 48 57 c
unfolding Between
ranges c h = grind (arith, nat_tests)

letters : (c : ℕ) → between 97 122 c ≡ true → Between 97 122 c
unfolding Between
letters c h = grind (arith, nat_tests)

differs : (c k : ℕ) → (c < k) ⊎ (k < c) → (c == k) ≡ false
differs c k (inl h) = grind (arith, nat_tests)
differs c k (inr h) = grind (arith, nat_tests)

outside : (low high c : ℕ) → high < c → between low high c ≡ false
outside low high c h = grind (arith, nat_tests)

under : (low high c : ℕ) → c < low → between low high c ≡ false
under low high c h = grind (arith, nat_tests)

copied_letter : (c : ℕ) → 97 ≤ c → c ≤ 122 → is_copied copied.Name c ≡ true
copied_letter c l h = rw (
  differs c 9 (inr (omega arith)),
  differs c 10 (inr (omega arith)),
  differs c 12 (inr (omega arith)),
  differs c 32 (inr (omega arith)),
  differs c 47 (inr (omega arith)),
  differs c 62 (inr (omega arith)),
  differs c 61 (inr (omega arith)),
  differs c 0 (inr (omega arith)),
  differs c 34 (inr (omega arith)),
  differs c 39 (inr (omega arith)),
  differs c 60 (inr (omega arith)),
  outside 65 90 c (omega arith),
) refl

copied_digit : (c : ℕ) → 48 ≤ c → c ≤ 57 → is_copied copied.Name c ≡ true
copied_digit c l h = rw (
  differs c 9 (inr (omega arith)),
  differs c 10 (inr (omega arith)),
  differs c 12 (inr (omega arith)),
  differs c 32 (inr (omega arith)),
  differs c 47 (inr (omega arith)),
  differs c 62 (inl (omega arith)),
  differs c 61 (inl (omega arith)),
  differs c 0 (inr (omega arith)),
  differs c 34 (inr (omega arith)),
  differs c 39 (inr (omega arith)),
  differs c 60 (inl (omega arith)),
  under 65 90 c (omega arith),
) refl

copied_bare : (c : ℕ) → is_bare_char c ≡ true → is_copied copied.Name c ≡ true
unfolding Between
copied_bare c h = elim (ranges c h) [
  | inl r ↦ copied_letter c r.0 r.1
  | inr r ↦ copied_digit c r.0 r.1
]

all_copied : (cs : List ℕ) → list_all is_bare_char cs ≡ true → AllPass (is_copied copied.Name) cs
all_copied [] h = tt
all_copied (c ∷ cs) h = (copied_bare c (both-left _ _ h), all_copied cs (both-right _ _ h))

-- what holds of each code point of a tag
named : (P : ℕ → Type 0) → ((c : ℕ) → is_bare_char c ≡ true → P c) → P 62 → (cs : List ℕ) → list_all is_bare_char cs ≡ true → All P (cs ++ 62 ∷ [])
named P f last [] h = All-cons P 62 [] last (All-nil P)
named P f last (c ∷ cs) h = All-cons P c (cs ++ 62 ∷ []) (f c (both-left _ _ h)) (named P f last cs (both-right _ _ h))

spelled : (P : ℕ → Type 0) → ((c : ℕ) → is_bare_char c ≡ true → P c) → P 62 → P 60 → P 47 → (is_end : Bool) (name : List ℕ) → IsBareName name → All P (opening is_end ++ (name ++ 62 ∷ []))
spelled P f last less slash false name b = All-cons P 60 (name ++ 62 ∷ []) less (named P f last name b.all)
spelled P f last less slash true name b = All-cons P 60 (47 ∷ (name ++ 62 ∷ [])) less (All-cons P 47 (name ++ 62 ∷ []) slash (named P f last name b.all))

low : (c : ℕ) → is_bare_char c ≡ true → c < 128
unfolding Between
low c h = elim (ranges c h) [
  | inl r ↦ (let a = r.1 in omega (arith, a))
  | inr r ↦ (let a = r.1 in omega (arith, a))
]

not_return : (c : ℕ) → is_bare_char c ≡ true → c ≢ 13
unfolding Between
not_return c h e = elim (ranges c h) [
  | inl r ↦ (let a = r.0 in omega (arith, a, e))
  | inr r ↦ (let a = r.0 in omega (arith, a, e))
]

pub spelled_plain : (tag : Bare) → IsBareName tag.name → All (λ c. c ≢ 13) (spelling tag)
spelled_plain tag b = spelled (λ c. c ≢ 13) not_return (λ e. omega (arith, e)) (λ e. omega (arith, e)) (λ e. omega (arith, e)) tag.is_end tag.name b

pub spelled_ascii : (tag : Bare) → IsBareName tag.name → IsAscii (spelling tag)
spelled_ascii tag b = IsAscii-from_all (spelling tag) (spelled (λ c. c < 128) low (omega arith) (omega arith) (omega arith) tag.is_end tag.name b)

all_low : (cs : List ℕ) → list_all is_bare_char cs ≡ true → All (λ c. c < 128) cs
all_low [] h = All-nil (λ c. c < 128)
all_low (c ∷ cs) h = All-cons (λ c. c < 128) c cs (low c (both-left _ _ h)) (all_low cs (both-right _ _ h))

pub name_ascii : (name : List ℕ) → list_all is_bare_char name ≡ true → IsAscii name
name_ascii name h = IsAscii-from_all name (all_low name h)

pub spelled_chars : (text : List ℕ) (tag : Bare) → text ≡ spelling tag → IsBareName tag.name → chars text ≡ spelling tag
spelled_chars text tag e b = ap chars e ∙ chars-IsAscii (spelling tag) (spelled_ascii tag b)

pub name_chars : (name : List ℕ) → IsBareName name → chars name ≡ name
name_chars name b = chars-IsAscii name (name_ascii name b.all)

-- A TAG AT THE FRONT OF BYTES

some_same : {x y : ℕ} → Some x ≡ Some y → x ≡ y
some_same e = cc

one_more : (xs : List ℕ) (n c : ℕ) → n < length xs → slice_get xs n ≡ Some c → take (n + 1) xs ≡ take n xs ++ c ∷ []
one_more [] n c h e = elim h [ ]
one_more (x ∷ xs) zero c h e = cc
one_more (x ∷ xs) (suc n) c h e =
    let k : suc n + 1 ≡ suc (n + 1) = omega arith in
    ap (λ m. take m (x ∷ xs)) k ∙ ap (λ v. x ∷ v) (one_more xs n c (omega arith) e)

pub text_is : (bytes front rest : List ℕ) (o n : ℕ) → rest ≡ drop o bytes → take o bytes ≡ front → slice_get rest n ≡ Some 62 → take (o + n + 1) bytes ≡ front ++ (take n rest ++ 62 ∷ [])
text_is bytes front rest o n r h e =
    let k : o + n + 1 ≡ o + (n + 1) = omega arith in
    ap (λ m. take m bytes) k ∙ take-add o (n + 1) bytes
    ∙ ap₂ (λ a b. a ++ b) h (ap (λ v. take (n + 1) v) (sym r) ∙ one_more rest n 62 (slice_get_within rest n 62 e) e)

-- a name of which the first is a letter
pub name_is : (xs : List ℕ) (n first : ℕ) → slice_get xs 0 ≡ Some first → slice_get xs n ≡ Some 62 → between 97 122 first ≡ true → list_all is_bare_char (take n xs) ≡ true → IsBareName (take n xs)
name_is [] n first f l letter all = cc
name_is (x ∷ xs) zero first f l letter all =
    let same : 62 ≡ first = some_same (sym l ∙ f) in
    let wrong : between 97 122 62 ≡ true = subst (λ v. between 97 122 v ≡ true) (sym same) letter in
    absurd (false≢true wrong)
name_is (x ∷ xs) (suc n) first f l letter all = record {
  first = x;
  rest = take n xs;
  split = refl;
  letter = subst (λ v. between 97 122 v ≡ true) (sym (some_same f)) letter;
  all = all;
}

-- what two texts are
pub spelled_by : (read kept text name : List ℕ) (is_end : Bool) → read ≡ text → kept ≡ name → text ≡ spelling (record { is_end = is_end; name = name }) → IsBareName name
    → (read ≡ spelling (record { is_end = is_end; name = kept })) × IsBareName kept
spelled_by read kept text name is_end e f a b = (e ∙ a ∙ ap (λ v. spelling (record { is_end = is_end; name = v })) (sym f), subst IsBareName (sym f) b)

pub text_utf8 : (text name : List ℕ) (is_end : Bool) → text ≡ spelling (record { is_end = is_end; name = name }) → IsBareName name → IsUtf8 text
text_utf8 text name is_end e b = subst IsUtf8 (sym e) (IsUtf8-from_ascii _ (spelled_ascii (record { is_end = is_end; name = name }) b))

pub name_utf8 : (name : List ℕ) → IsBareName name → IsUtf8 name
name_utf8 name b = IsUtf8-from_ascii name (name_ascii name b.all)

-- THE MACHINE

opens_start : (c : ℕ) (d e f g : Option ℕ) (w : Bool) → between 97 122 c ≡ true → opener_at (Some c) d e f g w ≡ opens.StartTag
unfolding Between
opens_start c d e f g w h =
    let r = letters c h in
    let l = r.0 in
    rw (differs c 33 (inr (omega (arith, l))), differs c 63 (inr (omega (arith, l))), differs c 47 (inr (omega (arith, l))), outside 65 90 c (omega (arith, l)), h) refl

opens_end : (c : ℕ) (e f g : Option ℕ) (w : Bool) → between 97 122 c ≡ true → opener_at (Some 47) (Some c) e f g w ≡ opens.EndTag
unfolding Between
opens_end c e f g w h =
    let r = letters c h in
    let l = r.0 in
    rw (differs c 62 (inr (omega (arith, l))), outside 65 90 c (omega (arith, l)), h) refl

start_opener : (c : ℕ) (rest : List ℕ) → between 97 122 c ≡ true → opener (60 ∷ c ∷ rest) ≡ opens.StartTag
start_opener c rest h =
    let text : List ℕ = 60 ∷ c ∷ rest in
    opens_start c (slice_get text 2) (slice_get text 3) (slice_get text 4) (slice_get text 5) (spells_word doctype_word 2 text) h

end_opener : (c : ℕ) (rest : List ℕ) → between 97 122 c ≡ true → opener (60 ∷ 47 ∷ c ∷ rest) ≡ opens.EndTag
end_opener c rest h =
    let text : List ℕ = 60 ∷ 47 ∷ c ∷ rest in
    opens_end c (slice_get text 3) (slice_get text 4) (slice_get text 5) (spells_word doctype_word 2 text) h

at_end : (xs : List ℕ) (c : ℕ) → slice_get (xs ++ c ∷ []) (length xs) ≡ Some c
at_end [] c = refl
at_end (x ∷ xs) c = at_end xs c

-- the machine behind a tag
abbrev pub behind_end : Machine → List ℕ → Machine
behind_end t name = record t { place = t.place + length (spelling (record { is_end = true; name = name })) }

abbrev pub behind_start : Machine → List ℕ → Machine
behind_start t name = record t { place = t.place + length (spelling (record { is_end = false; name = name })); last_name = Some name }

module _ (t : Machine) (name : List ℕ) (state : is_text t.state ≡ true) (none : t.input.queue.items ≡ []) (mode : t.mode ≡ Data) (b : IsBareName name) where
  more_name : length (name ++ 62 ∷ []) ≡ length name + 1
  more_name = length-append name (62 ∷ [])

  start_steps : (given : Token) → given ≡ token (kinds.Start name [] false) t.place (t.place + length (spelling (record { is_end = false; name = name })))
      → Steps (with_text t (60 ∷ (name ++ 62 ∷ []))) (Given given) (behind_start t name)
  start_steps given g =
      let n = length name in
      let text : List ℕ = 60 ∷ (name ++ 62 ∷ []) in
      let seam : take n (name ++ 62 ∷ []) ≡ name = take-append_seam name (62 ∷ []) in
      let size : length text ≡ 1 + n + 1 = let k = more_name in omega (arith, k) in
      let old = with_text t text in
      short_gives old (behind_start t name) false 1 n given (text_state t.state state) (omega arith) (omega (arith, size))
      (λ more h. rw mode refl)
      (λ more h. ap (λ o. open_piece t.table.now o t.place (text ++ more)) (ap (λ v. opener ((60 ∷ (v ++ 62 ∷ [])) ++ more)) b.split ∙ start_opener b.first ((b.rest ++ 62 ∷ []) ++ more) b.letter))
      (λ more h. ap (λ o. opened_errors t.table.now o t.place (text ++ more)) (ap (λ v. opener ((60 ∷ (v ++ 62 ∷ [])) ++ more)) b.split ∙ start_opener b.first ((b.rest ++ 62 ∷ []) ++ more) b.letter))
      (subst (AllPass (is_copied copied.Name)) (sym seam) (all_copied name b.all))
      (at_end name 62)
      (ends_short old (behind_start t name) false 1 n given
      (g ∙ ap₂ (λ v k. token (kinds.Start v [] false) t.place (t.place + k)) (sym seam) size)
      (none ∙ sym (drop-length text) ∙ ap (λ k. drop k text) size)
      refl (ap (λ k. t.place + k) size) refl (ap (λ v. Some v) (sym seam)) (text_state t.state state) refl)

  end_steps : (given : Token) → given ≡ token (kinds.End name) t.place (t.place + length (spelling (record { is_end = true; name = name })))
      → Steps (with_text t (60 ∷ 47 ∷ (name ++ 62 ∷ []))) (Given given) (behind_end t name)
  end_steps given g =
      let n = length name in
      let text : List ℕ = 60 ∷ 47 ∷ (name ++ 62 ∷ []) in
      let seam : take n (name ++ 62 ∷ []) ≡ name = take-append_seam name (62 ∷ []) in
      let size : length text ≡ 2 + n + 1 = let k = more_name in omega (arith, k) in
      let old = with_text t text in
      short_gives old (behind_end t name) true 2 n given (text_state t.state state) (omega arith) (omega (arith, size))
      (λ more h. rw mode refl)
      (λ more h. ap (λ o. open_piece t.table.now o t.place (text ++ more)) (ap (λ v. opener ((60 ∷ 47 ∷ (v ++ 62 ∷ [])) ++ more)) b.split ∙ end_opener b.first ((b.rest ++ 62 ∷ []) ++ more) b.letter))
      (λ more h. ap (λ o. opened_errors t.table.now o t.place (text ++ more)) (ap (λ v. opener ((60 ∷ 47 ∷ (v ++ 62 ∷ [])) ++ more)) b.split ∙ end_opener b.first ((b.rest ++ 62 ∷ []) ++ more) b.letter))
      (subst (AllPass (is_copied copied.Name)) (sym seam) (all_copied name b.all))
      (at_end name 62)
      (ends_short old (behind_end t name) true 2 n given
      (g ∙ ap₂ (λ v k. token (kinds.End v) t.place (t.place + k)) (sym seam) size)
      (none ∙ sym (drop-length text) ∙ ap (λ k. drop k text) size)
      refl (ap (λ k. t.place + k) size) mode refl (text_state t.state state) refl)

  pub start_taken : (given : Token) → given ≡ token (kinds.Start name [] false) t.place (t.place + length (spelling (record { is_end = false; name = name }))) → t.input.finished ≡ false
      → (run : Run) → IsAt t run → (switch : Option TextMode) → IsAt (answered given switch (behind_start t name)) (gave (fed run (spelling (record { is_end = false; name = name }))) given switch)
  start_taken given g going run i switch =
      let text : List ℕ = 60 ∷ (name ++ 62 ∷ []) in
      run_given (with_text t text) (behind_start t name) (fed run text) given switch (start_steps given g) (fed_at t text state none run going i)

  pub end_taken : (given : Token) → given ≡ token (kinds.End name) t.place (t.place + length (spelling (record { is_end = true; name = name }))) → t.input.finished ≡ false
      → (run : Run) → IsAt t run → (switch : Option TextMode) → IsAt (answered given switch (behind_end t name)) (gave (fed run (spelling (record { is_end = true; name = name }))) given switch)
  end_taken given g going run i switch =
      let text : List ℕ = 60 ∷ 47 ∷ (name ++ 62 ∷ []) in
      run_given (with_text t text) (behind_end t name) (fed run text) given switch (end_steps given g) (fed_at t text state none run going i)

  -- neither tells an error
  start_silent : IsSilent (with_text t (60 ∷ (name ++ 62 ∷ [])))
  start_silent = λ more h.
      let text : List ℕ = (60 ∷ (name ++ 62 ∷ [])) ++ more in
      rw (text_state t.state state, mode)
      (ap (λ o. opening_errors o t.place text) (ap (λ v. opener ((60 ∷ (v ++ 62 ∷ [])) ++ more)) b.split ∙ start_opener b.first ((b.rest ++ 62 ∷ []) ++ more) b.letter))

  end_silent : IsSilent (with_text t (60 ∷ 47 ∷ (name ++ 62 ∷ [])))
  end_silent = λ more h.
      let text : List ℕ = (60 ∷ 47 ∷ (name ++ 62 ∷ [])) ++ more in
      rw (text_state t.state state, mode)
      (ap (λ o. opening_errors o t.place text) (ap (λ v. opener ((60 ∷ 47 ∷ (v ++ 62 ∷ [])) ++ more)) b.split ∙ end_opener b.first ((b.rest ++ 62 ∷ []) ++ more) b.letter))

  pub start_told : (given : Token) → given ≡ token (kinds.Start name [] false) t.place (t.place + length (spelling (record { is_end = false; name = name }))) → t.input.finished ≡ false
      → (f : Faults) (run : Run) → IsAt t run → AreTold t f run → (switch : Option TextMode) → AreTold (answered given switch (behind_start t name)) f (gave (fed run (spelling (record { is_end = false; name = name }))) given switch)
  start_told given g going f run i told switch =
      let text : List ℕ = 60 ∷ (name ++ 62 ∷ []) in
      told_given (with_text t text) (behind_start t name) f f (fed run text) given switch (start_steps given g) (tells_quiet (with_text t text) (Given given) f f start_silent (quiet_same f)) (fed_at t text state none run going i)
      (told_at_text t text state none f run going i told)

  pub end_told : (given : Token) → given ≡ token (kinds.End name) t.place (t.place + length (spelling (record { is_end = true; name = name }))) → t.input.finished ≡ false
      → (f : Faults) (run : Run) → IsAt t run → AreTold t f run → (switch : Option TextMode) → AreTold (answered given switch (behind_end t name)) f (gave (fed run (spelling (record { is_end = true; name = name }))) given switch)
  end_told given g going f run i told switch =
      let text : List ℕ = 60 ∷ 47 ∷ (name ++ 62 ∷ []) in
      told_given (with_text t text) (behind_end t name) f f (fed run text) given switch (end_steps given g) (tells_quiet (with_text t text) (Given given) f f end_silent (quiet_same f)) (fed_at t text state none run going i)
      (told_at_text t text state none f run going i told)

-- what the machine answers
pub start_answer : {E : Type 0} (r : Result Token E) (t new : Machine) (is_end : Bool) (name : List ℕ) → is_end ≡ false → is_text t.state ≡ true → t.input.queue.items ≡ [] → t.mode ≡ Data → IsBareName name → t.input.finished ≡ false
    → IfOk r (λ given. given ≡ token (kinds.Start name [] false) t.place (t.place + length (spelling (record { is_end = is_end; name = name }))))
    → OnOk r (new ≡ record t { place = t.place + length (spelling (record { is_end = is_end; name = name })); last_name = Some name })
    → IfOk r (λ given. (run : Run) → IsAt t run → (switch : Option TextMode) → IsAt (answered given switch new) (gave (fed run (spelling (record { is_end = is_end; name = name }))) given switch))
start_answer (Ok given) t new false name e state none mode b going g n = λ run i switch. rw n (start_taken t name state none mode b given g going run i switch)
start_answer (Ok given) t new true name e state none mode b going g n = absurd (false≢true (sym e))
start_answer (Err x) t new is_end name e state none mode b going g n = tt

pub end_answer : {E : Type 0} (r : Result Token E) (t new : Machine) (is_end : Bool) (name : List ℕ) → is_end ≡ true → is_text t.state ≡ true → t.input.queue.items ≡ [] → t.mode ≡ Data → IsBareName name → t.input.finished ≡ false
    → IfOk r (λ given. given ≡ token (kinds.End name) t.place (t.place + length (spelling (record { is_end = is_end; name = name }))))
    → OnOk r (new ≡ record t { place = t.place + length (spelling (record { is_end = is_end; name = name })) })
    → IfOk r (λ given. (run : Run) → IsAt t run → (switch : Option TextMode) → IsAt (answered given switch new) (gave (fed run (spelling (record { is_end = is_end; name = name }))) given switch))
end_answer (Ok given) t new true name e state none mode b going g n = λ run i switch. rw n (end_taken t name state none mode b given g going run i switch)
end_answer (Ok given) t new false name e state none mode b going g n = absurd (false≢true e)
end_answer (Err x) t new is_end name e state none mode b going g n = tt

-- what it tells
pub start_tells : {E : Type 0} (r : Result Token E) (t new : Machine) (is_end : Bool) (name : List ℕ) → is_end ≡ false → is_text t.state ≡ true → t.input.queue.items ≡ [] → t.mode ≡ Data → IsBareName name → t.input.finished ≡ false
    → IfOk r (λ given. given ≡ token (kinds.Start name [] false) t.place (t.place + length (spelling (record { is_end = is_end; name = name }))))
    → OnOk r (new ≡ record t { place = t.place + length (spelling (record { is_end = is_end; name = name })); last_name = Some name })
    → IfOk r (λ given. (f : Faults) (run : Run) → IsAt t run → AreTold t f run → (switch : Option TextMode) → AreTold (answered given switch new) f (gave (fed run (spelling (record { is_end = is_end; name = name }))) given switch))
start_tells (Ok given) t new false name e state none mode b going g n = λ f run i told switch. rw n (start_told t name state none mode b given g going f run i told switch)
start_tells (Ok given) t new true name e state none mode b going g n = absurd (false≢true (sym e))
start_tells (Err x) t new is_end name e state none mode b going g n = tt

pub end_tells : {E : Type 0} (r : Result Token E) (t new : Machine) (is_end : Bool) (name : List ℕ) → is_end ≡ true → is_text t.state ≡ true → t.input.queue.items ≡ [] → t.mode ≡ Data → IsBareName name → t.input.finished ≡ false
    → IfOk r (λ given. given ≡ token (kinds.End name) t.place (t.place + length (spelling (record { is_end = is_end; name = name }))))
    → OnOk r (new ≡ record t { place = t.place + length (spelling (record { is_end = is_end; name = name })) })
    → IfOk r (λ given. (f : Faults) (run : Run) → IsAt t run → AreTold t f run → (switch : Option TextMode) → AreTold (answered given switch new) f (gave (fed run (spelling (record { is_end = is_end; name = name }))) given switch))
end_tells (Ok given) t new true name e state none mode b going g n = λ f run i told switch. rw n (end_told t name state none mode b given g going f run i told switch)
end_tells (Ok given) t new false name e state none mode b going g n = absurd (false≢true e)
end_tells (Err x) t new is_end name e state none mode b going g n = tt
