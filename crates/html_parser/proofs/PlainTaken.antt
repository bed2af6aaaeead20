-- The stages after a plain text that was taken by itself.
use Rattle.std.proofs.Common.{ℕ, zero, suc, ◌+◌, ◌-◌, ◌<◌, ◌≤◌, ◌≡◌, ◌≢◌, ◌∙◌, ◌⊎◌, inl, inr, arith, Bool, true, false, ◌&&◌, List, [], ◌∷◌, ◌++◌, All, cond, length, drop, take, replicate, None, refl, sym, ap, ap₂, subst, append_assoc, length-append, take-append-drop, encode_utf8_all}
use Rattle.std.specs.List.{list_all}
use Rattle.std.proofs.lemmas.Bool.{false≢true}
use Rattle.std.proofs.lemmas.List.{append-nil}
use Rattle.std.proofs.lemmas.List.Elements.{All-cons, All-nil}
use Rattle.std.proofs.lemmas.List.Folds.{list_all-append}
use Rattle.html_text.specs.Plain.{is_plain_byte, is_plain_char}
use Rattle.html_input.specs.Fed.{Fed as Decodes}
use Rattle.html_tokens.specs.Given.{Fed, is_stopped as tokenizer_stopped}
use Rattle.html_tokens.specs.Input.{MayFollow}
use Rattle.html_tokens.specs.Runs.{gave_all, plain_tokens}
use Rattle.html_tokens.specs.Stream.{Run, fed, tokens_of}
use Rattle.html_tokens.specs.declared.token.Token.{Token}
use Rattle.html_tokens.specs.declared.tokenizer.Tokenizer.{Tokenizer}
use Rattle.html_builder.specs.Handed.{AddsFates, HandsIn, HaveFates, Handed, IsTextCause, LeadsTo, fates_of, is_stopped as builder_stopped, parses_foreign}
use Rattle.html_builder.specs.Errors.{IsTextTold}
use Rattle.html_builder.specs.Saying.{HasSaid, StaysHtml}
use Rattle.html_builder.specs.declared.error.BuildError.{BuildError}
use Rattle.html_construction.specs.States.{State}
use Rattle.html_builder.specs.declared.error.BuildError.TheVariants as build
use Rattle.html_construction.specs.Built.{chars_of}
use Rattle.html_parser.specs.Causes.{IsFeedCause, IsTokenAt, IsTokenCause, build_cause}
use Rattle.html_parser.specs.Kinds.{kinds, starts_of}
use Rattle.html_parser.specs.Said.{AreSaid}
use Rattle.html_parser.specs.Staged.{HasRead, HasTaken, IsRun}
use Rattle.html_parser.specs.Start.{Start, most_input}
use Rattle.html_parser.specs.Tokenizing.{IsTokenizing}
use Rattle.html_parser.specs.declared.error.ParseError.{ParseError}
use Rattle.html_parser.specs.declared.error.ParseError.TheVariants.{OutOfMemory}
use Rattle.html_parser.specs.declared.stages.Stages.{Stages}
use Rattle.html_builder.proofs.SayingOn.{text-said}
use Rattle.html_parser.proofs.Causing.{said_each}
use Rattle.html_parser.proofs.Ends.{kinds-append}
use Rattle.html_parser.proofs.Feeds.{TakesSome, cause_longer, feed_cause, read_of}
use Rattle.html_parser.proofs.Fronts.{front_longer, is_front}
use Rattle.html_parser.proofs.Switching.{kept-more, says-text}
use Rattle.html_parser.proofs.Taken.{kinds-plain, starts-append}
use Rattle.html_parser.proofs.Tokenizing.{fewer, given-all, moved}
use Rattle.html_parser.proofs.Unsaid.{char-token, gave-finished, gave-start, gave-switches, gave-text, text_listed}

-- A PLAIN TEXT

both : (a b : Bool) → (a && b) ≡ true → (a ≡ true) × (b ≡ true)
both true b e = (refl, e)
both false b e = absurd (false≢true e)

no-return : (c : ℕ) → is_plain_char c ≡ true → c ≢ 13
no-return c h e = (let p : is_plain_char 13 ≡ true = subst (λ x. is_plain_char x ≡ true) e h in false≢true p)

pub free_of : (cs : List ℕ) → list_all is_plain_char cs ≡ true → All (λ c. c ≢ 13) cs
free_of [] h = All-nil (λ c. c ≢ 13)
free_of (c ∷ cs) h = (let p = both _ _ h in All-cons (λ c. c ≢ 13) c cs (no-return c p.0) (free_of cs p.1))

-- WHAT IS ALWAYS TRUE OF THE STAGES

starts-length : (tokens : List Token) → length (starts_of tokens) ≡ length tokens
starts-length [] = refl
starts-length (t ∷ ts) = ap suc (starts-length ts)

each : (a : List ℕ) (run : Run) (tokens : List Token) → length (a ++ starts_of tokens) + length run.given ≤ length a + length (gave_all run tokens).given
each a run tokens =
    let p : length (a ++ starts_of tokens) ≡ length a + length (starts_of tokens) = length-append a (starts_of tokens) in
    let q : length (starts_of tokens) ≡ length tokens = starts-length tokens in
    let r : length (gave_all run tokens).given ≡ length run.given + length tokens
    = ap length (given-all run tokens) ∙ length-append run.given tokens in
    omega arith

plain_more : (old new : Tokenizer) (a text : List ℕ) (tokens : List Token) → tokenizer_stopped old ≡ false → IsTokenizing old a
    → ((run : Run) → Fed old run → Fed new (gave_all (fed run text) tokens)) → IsTokenizing new (a ++ starts_of tokens)
plain_more old new a text tokens going t step =
    moved old new a (a ++ starts_of tokens) going t (λ run f. (gave_all (fed run text) tokens, step run f, each a (fed run text) tokens))

-- a plain text that was fed and given, of which all was taken or nothing
pub plain_either : (old new : Tokenizer) (a b text : List ℕ) (tokens : List Token) → tokenizer_stopped old ≡ false → IsTokenizing old a
    → ((run : Run) → Fed old run → Fed new (gave_all (fed run text) tokens)) → (b ≡ a) ⊎ (b ≡ a ++ starts_of tokens) → IsTokenizing new b
plain_either old new a b text tokens going t step either = elim either [
  | inl e ↦ subst (IsTokenizing new) (sym e) (fewer new a (starts_of tokens) (plain_more old new a text tokens going t step))
  | inr e ↦ subst (IsTokenizing new) (sym e) (plain_more old new a text tokens going t step)
]

-- NOTHING WAS TAKEN

pub stages_same : (start : Start) (bytes : List ℕ) (run : Run) (old new : Stages) → new.decoder ≡ old.decoder → new.tokenizer ≡ old.tokenizer
    → new.builder ≡ old.builder → new.kept ≡ old.kept → IsRun start false old bytes run → HasRead start new (bytes ++ [])
stages_same start bytes run old new d t b k r = record {
  run = run;
  is_run = record {
    begun = r.begun;
    ended = r.ended;
    decoded = subst (λ x. Decodes (most_input start) false new.decoder x run.text) (sym (append-nil bytes))
        (subst (λ x. Decodes (most_input start) false x bytes run.text) (sym d) r.decoded);
    tokenized = subst (λ x. Fed x run) (sym t) r.tokenized;
    handed = rw b r.handed;
    said = rw b r.said;
    has_said = rw b r.has_said;
    foreign = rw b r.foreign;
    starts = rw k r.starts;
    tokens = rw k r.tokens;
    running = rw t r.running;
    building = rw b r.building;
  };
}

-- A TEXT WAS TAKEN

-- What a call did that decoded a plain text, fed the tokenizer with it, and handed its tokens on.
pub record HandsPlain (old new : Stages) (piece : List ℕ) (place : ℕ) (text : List ℕ) : Type 0 where
  pub decodes : (limit : ℕ) (bytes before : List ℕ) → Decodes limit false old.decoder bytes before → Decodes limit false new.decoder (bytes ++ piece) (before ++ text)
  pub given : (run : Run) → Fed old.tokenizer run → Fed new.tokenizer (gave_all (fed run text) (plain_tokens place text))
  pub takes : HandsIn (chars_of text) old.builder new.builder
  pub leads : LeadsTo (chars_of text) old.builder new.builder
  pub html : StaysHtml old.builder
  pub grows : AddsFates old.builder new.builder
  pub starts : new.kept.starts ≡ old.kept.starts ++ starts_of (plain_tokens place text)
  pub tokens : old.kept.keeps_tokens ≡ true → new.kept.tokens ≡ old.kept.tokens ++ plain_tokens place text
  pub keeps : new.kept.keeps_tokens ≡ old.kept.keeps_tokens
  pub running : tokenizer_stopped new.tokenizer ≡ false
  pub building : builder_stopped new.builder ≡ builder_stopped old.builder
  pub parses : parses_foreign new.builder ≡ parses_foreign old.builder

pub plain_read : (start : Start) (bytes piece : List ℕ) (run : Run) (old new : Stages) (place : ℕ) (text : List ℕ) → HandsPlain old new piece place text
    → HaveFates start.setting (kinds run.given) (fates_of old.builder) → IsRun start false old bytes run → HasRead start new (bytes ++ piece)
plain_read start bytes piece run old new place text s h r =
    let base = fed run text in
    let tokens = plain_tokens place text in
    let after = gave_all base tokens in
    let given : after.given ≡ run.given ++ tokens = given-all base tokens in
    let are : kinds after.given ≡ kinds run.given ++ chars_of text
    = ap kinds given ∙ kinds-append run.given tokens ∙ ap (λ ks. kinds run.given ++ ks) (kinds-plain place text) in
    let grown = s.grows start.setting start.limits (kinds run.given) r.handed in
    record {
      run = after;
      is_run = record {
        begun = gave-start base tokens ∙ r.begun;
        ended = gave-finished base tokens ∙ r.ended;
        decoded = subst (λ x. Decodes (most_input start) false new.decoder (bytes ++ piece) x) (sym (gave-text base tokens))
            (s.decodes (most_input start) bytes run.text r.decoded);
        tokenized = s.given run r.tokenized;
        handed = subst (λ ks. Handed start.setting start.limits ks new.builder) (sym are) (s.takes start.setting start.limits (kinds run.given) r.handed);
        said = subst (λ ks. AreSaid start.setting ks (fates_of new.builder) after.switches) (sym are)
            (subst (λ fs. AreSaid start.setting (kinds run.given ++ chars_of text) fs after.switches) (sym grown.1)
            (subst (AreSaid start.setting (kinds run.given ++ chars_of text) (fates_of old.builder ++ grown.0)) (sym (gave-switches base place text))
            (says-text start.setting (kinds run.given) text (fates_of old.builder) grown.0 run.switches h r.said)));
        has_said = subst (λ ks. HasSaid start.setting start.limits start.mode ks after.switches new.builder) (sym are)
            (subst (λ ms. HasSaid start.setting start.limits start.mode (kinds run.given ++ chars_of text) ms new.builder) (sym (gave-switches base place text))
            (text-said start.setting start.limits start.mode (kinds run.given) run.switches text old.builder new.builder s.leads s.parses s.html r.has_said));
        foreign = s.parses ∙ r.foreign;
        starts = s.starts ∙ ap (λ x. x ++ starts_of tokens) r.starts ∙ sym (ap starts_of given ∙ starts-append run.given tokens);
        tokens = λ keeps.
            let kept = sym s.keeps ∙ keeps in
            s.tokens kept ∙ ap (λ x. x ++ tokens) (r.tokens kept) ∙ sym given;
        running = s.running;
        building = s.building ∙ r.building;
      };
    }

-- WHY A TEXT WAS REFUSED

-- a code point of a plain text that was fed, given and then refused
char-at : (start : Start) (p : Stages) (bytes : List ℕ) (run : Run) (t : Tokenizer) (place : ℕ) (text : List ℕ) (at : ℕ) → IsRun start false p bytes run
    → HaveFates start.setting (kinds run.given) (fates_of p.builder) → Fed t (gave_all (fed run text) (plain_tokens place text))
    → place ≤ at → at < place + length text → IsTokenAt start false (run.text ++ text) at
char-at start p bytes run t place text at r h f low high =
    let fates = fates_of p.builder in
    let k : ℕ = at - place in
    let within : k < length text = omega (arith, low, high) in
    let first = plain_tokens place (take k text) in
    let nones = replicate (length (take k text)) None in
    let are : kinds (run.given ++ first) ≡ kinds run.given ++ chars_of (take k text)
    = kinds-append run.given first ∙ ap (λ ks. kinds run.given ++ ks) (kinds-plain place (take k text)) in
    let said : AreSaid start.setting (kinds run.given ++ chars_of (take k text)) (fates ++ []) (run.switches ++ nones)
    = says-text start.setting (kinds run.given) (take k text) fates [] run.switches h r.said in
    record {
      before = run.given ++ first;
      fates = fates;
      token = char-token place text k;
      fated = subst (λ ks. HaveFates start.setting ks fates) (sym are) (kept-more start.setting (kinds run.given) (take k text) fates h);
      said = run.switches ++ nones;
      are_said = subst (λ ks. AreSaid start.setting ks fates (run.switches ++ nones)) (sym are)
          (subst (λ fs. AreSaid start.setting (kinds run.given ++ chars_of (take k text)) fs (run.switches ++ nones)) (append-nil fates) said);
      listed = λ more switches follow.
          let l = text_listed t (fed run text) place text k (said_each start false p bytes run r) f within more (None ∷ switches) (subst (λ b. MayFollow b more) (sym r.ended) follow) in (
            l.0,
            ap₂ (λ s begun. tokens_of ((run.text ++ text) ++ more) s begun) (append_assoc run.switches nones (None ∷ switches)) (sym r.begun)
                ∙ l.1,
          );
      place = omega (arith, low);
    }

text_refused : (start : Start) (p : Stages) (bytes : List ℕ) (run : Run) (t : Tokenizer) (place : ℕ) (text : List ℕ) (z : State) (e : BuildError) → IsRun start false p bytes run
    → HaveFates start.setting (kinds run.given) (fates_of p.builder) → Fed t (gave_all (fed run text) (plain_tokens place text))
    → IsTextCause start.setting start.limits (kinds run.given) (fates_of p.builder) text place e → IsTextTold start.limits z e → IsTokenCause start false (run.text ++ text) (build_cause e)
text_refused start p bytes run t place text z build.OutOfMemory r h f c told = tt
text_refused start p bytes run t place text z (build.NodeBudget at) r h f (low, high, set) told =
    let token = char-at start p bytes run t place text at r h f low high in
    (record { token = token; state = z; passed = told token.token.kind }, set)
text_refused start p bytes run t place text z (build.HeldBudget at) r h f (low, high, set) told =
    let token = char-at start p bytes run t place text at r h f low high in
    (record { token = token; state = z; passed = told token.token.kind }, set)
text_refused start p bytes run t place text z (build.ForeignContent name at) r h f c told = absurd c
text_refused start p bytes run t place text z build.BadContext r h f c told = absurd c
text_refused start p bytes run t place text z build.Stopped r h f c told = absurd c

pub plain_refused : (start : Start) (p : Stages) (bytes piece : List ℕ) (run : Run) (t : Tokenizer) (place : ℕ) (text : List ℕ) (z : State) (e : BuildError) → IsRun start false p bytes run
    → (decoder : _) → Decodes (most_input start) false decoder (bytes ++ piece) (run.text ++ text)
    → HaveFates start.setting (kinds run.given) (fates_of p.builder) → Fed t (gave_all (fed run text) (plain_tokens place text))
    → IsTextCause start.setting start.limits (kinds run.given) (fates_of p.builder) text place e → IsTextTold start.limits z e → IsFeedCause start (bytes ++ piece) (build_cause e)
plain_refused start p bytes piece run t place text z e r decoder d h f c told =
    feed_cause start (bytes ++ piece) (run.text ++ text) (build_cause e) (is_front d) (text_refused start p bytes run t place text z e r h f c told)

pub memory_refused : (start : Start) (p : Stages) (bytes piece : List ℕ) (run : Run) → IsRun start false p bytes run → IsFeedCause start (bytes ++ piece) OutOfMemory
memory_refused start p bytes piece run r = (run.text, front_longer bytes piece run.text (is_front r.decoded), tt)

-- A FRONT OF A PIECE

pub some_read : (old mid new : Stages) (piece rest : List ℕ) (n : ℕ) (later : List ℕ) → TakesSome old mid piece rest → later ≡ drop n rest
    → ((start : Start) (bytes : List ℕ) (run : Run) → IsRun start false mid bytes run → HasRead start new (bytes ++ take n rest))
    → new.kept.keeps_tokens ≡ mid.kept.keeps_tokens → TakesSome old new piece later
some_read old mid new piece rest n later s e step same = record {
  front = s.front ++ take n rest;
  split = s.split ∙ ap (λ r. s.front ++ r) (sym (take-append-drop n rest) ∙ ap (λ r. take n rest ++ r) (sym e)) ∙ sym (append_assoc s.front (take n rest) later);
  reads = λ start bytes run r.
      let h = s.reads start bytes run r in
      subst (HasRead start new) (append_assoc bytes s.front (take n rest)) (step start (bytes ++ s.front) h.run h.is_run);
  keeps = same ∙ s.keeps;
}

pub front_refused : (start : Start) (bytes piece : List ℕ) (n : ℕ) (e : ParseError) → IsFeedCause start (bytes ++ take n piece) e → IsFeedCause start (bytes ++ piece) e
front_refused start bytes piece n e h =
    subst (λ b. IsFeedCause start b e) (append_assoc bytes (take n piece) (drop n piece) ∙ ap (λ p. bytes ++ p) (take-append-drop n piece))
    (cause_longer start (bytes ++ take n piece) (drop n piece) e h)

-- nothing, and then a front
pub read_after : (start : Start) (mid new : Stages) (bytes front : List ℕ) → HasRead start mid (bytes ++ [])
    → ((b : List ℕ) (run : Run) → IsRun start false mid b run → HasTaken start new (b ++ front)) → HasRead start new (bytes ++ front)
read_after start mid new bytes front h step =
    subst (λ b. HasRead start new (b ++ front)) (append-nil bytes) (read_of start new ((bytes ++ []) ++ front) (step (bytes ++ []) h.run h.is_run))

pub refused_after : (start : Start) (mid : Stages) (bytes front : List ℕ) (e : ParseError) → HasRead start mid (bytes ++ [])
    → ((b : List ℕ) (run : Run) → IsRun start false mid b run → IsFeedCause start (b ++ front) e) → IsFeedCause start (bytes ++ front) e
refused_after start mid bytes front e h step =
    subst (λ b. IsFeedCause start (b ++ front) e) (append-nil bytes) (step (bytes ++ []) h.run h.is_run)

take-none : (xs : List ℕ) → take 0 xs ≡ []
take-none [] = refl
take-none (x ∷ xs) = refl

-- a front of a front
pub take-less : (n m : ℕ) (xs : List ℕ) → n ≤ m → take n (take m xs) ≡ take n xs
take-less zero m xs h = take-none (take m xs) ∙ sym (take-none xs)
take-less (suc n) zero xs h = absurd (omega arith)
take-less (suc n) (suc m) [] h = refl
take-less (suc n) (suc m) (x ∷ xs) h = ap (λ v. x ∷ v) (take-less n m xs (omega arith))

pub front_read : (start : Start) (new : Stages) (bytes piece : List ℕ) (n m : ℕ) → n ≤ m → HasRead start new (bytes ++ take n (take m piece)) → HasRead start new (bytes ++ take n piece)
front_read start new bytes piece n m h r = subst (λ x. HasRead start new (bytes ++ x)) (take-less n m piece h) r

pub none_read : (start : Start) (new : Stages) (bytes piece : List ℕ) (n : ℕ) → n ≤ 0 → HasRead start new (bytes ++ take n piece) → HasRead start new (bytes ++ [])
none_read start new bytes piece n h r =
    let z : n ≡ 0 = omega (arith, h) in
    subst (λ x. HasRead start new (bytes ++ x)) (ap (λ k. take k piece) z ∙ take-none piece) r

-- of nothing, and of a text that was taken whole
pub zero_read : (start : Start) (new : Stages) (bytes piece : List ℕ) → HasRead start new (bytes ++ []) → HasRead start new (bytes ++ take 0 piece)
zero_read start new bytes piece r = subst (λ x. HasRead start new (bytes ++ x)) (sym (take-none piece)) r

pub same_read : (start : Start) (bytes piece : List ℕ) (run : Run) (p : Stages) → IsRun start false p bytes run → HasRead start p (bytes ++ take 0 piece)
same_read start bytes piece run p r = zero_read start p bytes piece (stages_same start bytes run p p refl refl refl refl r)

pub bytes_front : (bs : List ℕ) (n : ℕ) → list_all is_plain_byte bs ≡ true → list_all is_plain_byte (take n bs) ≡ true
bytes_front bs n h = (both _ _ (sym (list_all-append is_plain_byte (take n bs) (drop n bs)) ∙ ap (list_all is_plain_byte) (take-append-drop n bs) ∙ h)).0

pub whole_read : (start : Start) (new : Stages) (bytes piece text : List ℕ) (n : ℕ) → take n piece ≡ encode_utf8_all text
    → HasRead start new (bytes ++ encode_utf8_all text) → HasRead start new (bytes ++ take n piece)
whole_read start new bytes piece text n e r = subst (λ x. HasRead start new (bytes ++ x)) (sym e) r

pub cond_read : (start : Start) (new : Stages) (bytes piece text : List ℕ) (n : ℕ) (taken : Bool) → take n piece ≡ encode_utf8_all text
    → HasRead start new (bytes ++ cond taken (encode_utf8_all text) []) → HasRead start new (bytes ++ take (cond taken n 0) piece)
cond_read start new bytes piece text n true e r = whole_read start new bytes piece text n e r
cond_read start new bytes piece text n false e r = zero_read start new bytes piece r

pub text_refused_in : (start : Start) (bytes piece text : List ℕ) (n : ℕ) (e : ParseError) → take n piece ≡ encode_utf8_all text
    → IsFeedCause start (bytes ++ encode_utf8_all text) e → IsFeedCause start (bytes ++ piece) e
text_refused_in start bytes piece text n e is h = front_refused start bytes piece n e (subst (λ x. IsFeedCause start (bytes ++ x) e) (sym is) h)
