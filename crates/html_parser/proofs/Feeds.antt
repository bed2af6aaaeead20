-- The stages after a piece of the input.
use Rattle.std.proofs.Common.{ℕ, ◌≡◌, ◌∙◌, ◌<◌, Bool, true, false, Some, List, [], ◌++◌, length, Result, Ok, Err, inr, refl, sym, ap, subst, append_assoc, arith}
use Rattle.std.specs.Prelude.{◌↔◌, ◌||◌}
use Rattle.std.proofs.lemmas.List.{append-nil}
use Rattle.html_input.proofs.Feeding.{Fed-all}
use Rattle.html_input.specs.Added.{added}
use Rattle.html_input.specs.Decode.{code_points, decode}
use Rattle.html_input.specs.Fed.{Fed as Decodes}
use Rattle.html_input.specs.declared.error.InputError.{InputError}
use Rattle.html_input.specs.declared.error.InputError.TheVariants as input
use Rattle.html_tokens.specs.Given.{Fed, is_finished, is_stopped, steps_taken}
use Rattle.html_tokens.specs.Stream.{Run, ended, fed, tokens_of}
use Rattle.html_tokens.specs.declared.tokenizer.TokenError.{TokenError}
use Rattle.html_tokens.specs.declared.tokenizer.TokenError.TheVariants as tokens
use Rattle.html_tokens.specs.declared.tokenizer.Tokenizer.{Tokenizer}
use Rattle.html_parser.specs.Causes.{IsCause, IsFeedCause, IsFront, IsTokenCause, input_cause, token_cause}
use Rattle.html_parser.specs.Spent.{AreFewSteps, AreTooManySteps}
use Rattle.html_parser.specs.Staged.{HasRead, HasTaken, IsEnded, IsHandedOn, IsRun}
use Rattle.html_builder.specs.Handed.{Handed}
use Rattle.html_parser.specs.Kinds.{kinds}
use Rattle.html_parser.specs.Start.{Start, most_input, text_start}
use Rattle.html_parser.specs.Tokenizing.{IsTokenizing}
use Rattle.html_parser.specs.declared.error.ParseError.{ParseError}
use Rattle.html_parser.specs.declared.error.ParseError.TheVariants.{OutOfMemory, InputTooLong, ForeignContent, BadContext, Read, Write, Stopped, NodeBudget, HeldBudget, StepBudget}
use Rattle.html_parser.specs.declared.stages.Stages.{Stages}
use Rattle.html_parser.proofs.Fronts.{front_longer, is_front}
use Rattle.html_parser.proofs.Openings.{finished_is}
use Rattle.html_parser.proofs.Tokenizing.{moved}

-- WHAT WAS ADDED TO NO TEXT

pub added_none : (old new text : List ℕ) → old ≡ [] → text ≡ new → new ≡ old ++ added old new → added old new ≡ text
added_none old new text none is all = sym (is ∙ all ∙ ap (λ o. o ++ added old new) none)

-- A PIECE

neither : (a b : Bool) → a ≡ false → b ≡ false → (a || b) ≡ true → ⊥
neither false false e f h = let no : false ≡ true = h in cc
neither true b e f h = let no : true ≡ false = e in cc
neither false true e f h = let no : true ≡ false = f in cc

first_not : (a b : Bool) → ((a || b) ≡ true → ⊥) → a ≡ false
first_not false b h = refl
first_not true b h = absurd (h refl)

-- a tokenizer that took a piece was not stopped
pub took : (r : Result (Unit {0}) TokenError) (x : Unit {0}) (t : Tokenizer) → r ≡ Ok x → (r ≡ Err tokens.Stopped) ↔ ((is_stopped t || is_finished t) ≡ true) → is_stopped t ≡ false
took r x t was stopped = first_not (is_stopped t) (is_finished t) (λ e. let no : Ok x ≡ Err tokens.Stopped = sym was ∙ stopped.1 e in cc)

-- what is always true of the stages, after a piece
pub piece_taken : (old new : Tokenizer) (a text : List ℕ) → is_stopped old ≡ false → IsTokenizing old a → ((run : Run) → Fed old run → Fed new (fed run text)) → IsTokenizing new a
piece_taken old new a text going t step = moved old new a a going t (λ run f. (fed run text, step run f, omega arith))

-- and after the end
pub end_taken : (old new : Tokenizer) (a : List ℕ) → is_stopped old ≡ false → IsTokenizing old a → ((run : Run) → Fed old run → Fed new (ended run)) → IsTokenizing new a
end_taken old new a going t step = moved old new a a going t (λ run f. (ended run, step run f, omega arith))

-- What a call did that decoded a piece, and fed the tokenizer with its text.
pub record TakesPiece (old new : Stages) (piece text : List ℕ) : Type 0 where
  pub decodes : (limit : ℕ) (bytes before : List ℕ) → Decodes limit false old.decoder bytes before → Decodes limit false new.decoder (bytes ++ piece) (before ++ text)
  pub given : (run : Run) → Fed old.tokenizer run → Fed new.tokenizer (fed run text)
  pub builder : new.builder ≡ old.builder
  pub kept : new.kept ≡ old.kept
  pub running : is_stopped new.tokenizer ≡ false

pub piece_run : (start : Start) (bytes piece text : List ℕ) (run : Run) (old new : Stages) → TakesPiece old new piece text → IsRun start false old bytes run
    → IsRun start false new (bytes ++ piece) (fed run text)
piece_run start bytes piece text run old new s r = record {
  begun = r.begun;
  ended = r.ended;
  decoded = s.decodes (most_input start) bytes run.text r.decoded;
  tokenized = s.given run r.tokenized;
  handed = rw s.builder r.handed;
  said = rw s.builder r.said;
  has_said = rw s.builder r.has_said;
  foreign = rw s.builder r.foreign;
  starts = rw s.kept r.starts;
  tokens = rw s.kept r.tokens;
  running = s.running;
  building = rw s.builder r.building;
}

-- WHY A PIECE IS REFUSED

pub feed_cause : (start : Start) (bytes text : List ℕ) (e : ParseError) → IsFront bytes text → IsTokenCause start false text e → IsFeedCause start bytes e
feed_cause start bytes text OutOfMemory f c = (text, f, c)
feed_cause start bytes text InputTooLong f c = absurd c
feed_cause start bytes text (ForeignContent name at) f c = (text, f, c)
feed_cause start bytes text BadContext f c = absurd c
feed_cause start bytes text Read f c = absurd c
feed_cause start bytes text Write f c = absurd c
feed_cause start bytes text Stopped f c = absurd c
feed_cause start bytes text (NodeBudget at) f c = (text, f, c)
feed_cause start bytes text (HeldBudget at) f c = (text, f, c)
feed_cause start bytes text (StepBudget at) f c = (text, f, c)

-- by the decoder
pub decoder_refused : (start : Start) (bytes piece : List ℕ) (run : Run) (p : Stages) (e : InputError) → IsRun start false p bytes run
    → (e ≡ input.InputTooLong → (more : List ℕ) → most_input start < length (code_points ((bytes ++ piece) ++ more))) → (e ≡ input.Stopped → ⊥)
    → IsFeedCause start (bytes ++ piece) (input_cause e)
decoder_refused start bytes piece run p input.OutOfMemory r long running = (run.text, front_longer bytes piece run.text (is_front r.decoded), tt)
decoder_refused start bytes piece run p input.InputTooLong r long running = long refl
decoder_refused start bytes piece run p input.Stopped r long running = absurd (running refl)

-- by the tokenizer
pub tokenizer_refused : (start : Start) (finished : Bool) (text : List ℕ) (e : TokenError) → (e ≡ tokens.Stopped → ⊥) → IsTokenCause start finished text (token_cause e)
tokenizer_refused start finished text tokens.OutOfMemory running = tt
tokenizer_refused start finished text tokens.Stopped running = absurd (running refl)

pub never_stopped : (start : Start) (bytes : List ℕ) (run : Run) (p : Stages) (r : Result (Unit {0}) TokenError) (e : TokenError) → IsRun start false p bytes run
    → r ≡ Err e → (r ≡ Err tokens.Stopped) ↔ ((is_stopped p.tokenizer || is_finished p.tokenizer) ≡ true) → e ≡ tokens.Stopped → ⊥
never_stopped start bytes run p r e h was stopped is =
    neither (is_stopped p.tokenizer) (is_finished p.tokenizer) h.running (finished_is p.tokenizer run h.tokenized ∙ h.ended) (stopped.0 (was ∙ ap Err is))

pub was_going : (r : Result (Unit {0}) TokenError) (e : TokenError) (t : Tokenizer) → is_stopped t ≡ false → r ≡ Err e
    → (r ≡ Err tokens.Stopped) ↔ (is_stopped t ≡ true) → e ≡ tokens.Stopped → ⊥
was_going r e t going was stopped is = let no : false ≡ true = sym going ∙ stopped.0 (was ∙ ap Err is) in cc

-- MORE PIECES

pub read_of : (start : Start) (p : Stages) (bytes : List ℕ) → HasTaken start p bytes → HasRead start p bytes
read_of start p bytes h = record { run = h.handed.further.run; is_run = h.handed.further.is_run }

pub read_none : (start : Start) (p : Stages) (bytes : List ℕ) (run : Run) → IsRun start false p bytes run → HasRead start p (bytes ++ [])
read_none start p bytes run r = record { run = run; is_run = subst (λ b. IsRun start false p b run) (sym (append-nil bytes)) r }

-- a cause that fewer bytes show is one that more show
pub cause_longer : (start : Start) (bytes more : List ℕ) (e : ParseError) → IsFeedCause start bytes e → IsFeedCause start (bytes ++ more) e
cause_longer start bytes more OutOfMemory (text, f, c) = (text, front_longer bytes more text f, c)
cause_longer start bytes more InputTooLong c = λ others. subst (λ b. most_input start < length (code_points b)) (sym (append_assoc bytes more others)) (c (more ++ others))
cause_longer start bytes more (ForeignContent name at) (text, f, c) = (text, front_longer bytes more text f, c)
cause_longer start bytes more BadContext (text, f, c) = absurd c
cause_longer start bytes more Read (text, f, c) = absurd c
cause_longer start bytes more Write (text, f, c) = absurd c
cause_longer start bytes more Stopped (text, f, c) = absurd c
cause_longer start bytes more (NodeBudget at) (text, f, c) = (text, front_longer bytes more text f, c)
cause_longer start bytes more (HeldBudget at) (text, f, c) = (text, front_longer bytes more text f, c)
cause_longer start bytes more (StepBudget at) (text, f, c) = (text, front_longer bytes more text f, c)

-- Of a piece a front was taken.
pub record TakesSome (old now : Stages) (piece rest : List ℕ) : Type 0 where
  pub front : List ℕ
  pub split : piece ≡ front ++ rest
  pub reads : (start : Start) (bytes : List ℕ) (run : Run) → IsRun start false old bytes run → HasRead start now (bytes ++ front)
  pub keeps : now.kept.keeps_tokens ≡ old.kept.keeps_tokens

pub some_none : (p : Stages) (piece : List ℕ) → TakesSome p p piece piece
some_none p piece = record { front = []; split = refl; reads = λ start bytes run r. read_none start p bytes run r; keeps = refl }

pub some_more : (old mid new : Stages) (piece rest bit later : List ℕ) → TakesSome old mid piece rest → rest ≡ bit ++ later
    → ((start : Start) (bytes : List ℕ) (run : Run) → IsRun start false mid bytes run → HasTaken start new (bytes ++ bit))
    → new.kept.keeps_tokens ≡ mid.kept.keeps_tokens → TakesSome old new piece later
some_more old mid new piece rest bit later s e step same = record {
  front = s.front ++ bit;
  split = s.split ∙ ap (λ r. s.front ++ r) e ∙ sym (append_assoc s.front bit later);
  reads = λ start bytes run r.
      let h = s.reads start bytes run r in
      subst (HasRead start new) (append_assoc bytes s.front bit) (read_of start new ((bytes ++ s.front) ++ bit) (step start (bytes ++ s.front) h.run h.is_run));
  keeps = same ∙ s.keeps;
}

pub all_taken : (old mid new : Stages) (piece rest : List ℕ) → TakesSome old mid piece rest
    → ((start : Start) (bytes : List ℕ) (run : Run) → IsRun start false mid bytes run → HasTaken start new (bytes ++ rest))
    → (start : Start) (bytes : List ℕ) (run : Run) → IsRun start false old bytes run → HasTaken start new (bytes ++ piece)
all_taken old mid new piece rest s step start bytes run r =
    let h = s.reads start bytes run r in
    subst (HasTaken start new) (append_assoc bytes s.front rest ∙ ap (λ p. bytes ++ p) (sym s.split)) (step start (bytes ++ s.front) h.run h.is_run)

pub bit_refused : (old mid : Stages) (piece rest bit later : List ℕ) (e : ParseError) → TakesSome old mid piece rest → rest ≡ bit ++ later
    → ((start : Start) (bytes : List ℕ) (run : Run) → IsRun start false mid bytes run → IsFeedCause start (bytes ++ bit) e)
    → (start : Start) (bytes : List ℕ) (run : Run) → IsRun start false old bytes run → IsFeedCause start (bytes ++ piece) e
bit_refused old mid piece rest bit later e s is step start bytes run r =
    let h = s.reads start bytes run r in
    subst (λ b. IsFeedCause start b e)
    (append_assoc (bytes ++ s.front) bit later ∙ append_assoc bytes s.front (bit ++ later) ∙ ap (λ p. bytes ++ p) (sym (s.split ∙ ap (λ r. s.front ++ r) is)))
    (cause_longer start ((bytes ++ s.front) ++ bit) later e (step start (bytes ++ s.front) h.run h.is_run))

-- THE END

-- What a call did that ended the input.
pub record TakesEnd (old new : Stages) (text : List ℕ) : Type 0 where
  pub decodes : (limit : ℕ) (bytes before : List ℕ) → Decodes limit false old.decoder bytes before → Decodes limit true new.decoder bytes (before ++ text)
  pub given : (run : Run) → Fed old.tokenizer run → Fed new.tokenizer (ended (fed run text))
  pub builder : new.builder ≡ old.builder
  pub kept : new.kept ≡ old.kept
  pub running : is_stopped new.tokenizer ≡ false

pub end_run : (start : Start) (bytes text : List ℕ) (run : Run) (old new : Stages) → TakesEnd old new text → IsRun start false old bytes run
    → IsRun start true new bytes (ended (fed run text))
end_run start bytes text run old new s r = record {
  begun = r.begun;
  ended = refl;
  decoded = s.decodes (most_input start) bytes run.text r.decoded;
  tokenized = s.given run r.tokenized;
  handed = rw s.builder r.handed;
  said = rw s.builder r.said;
  has_said = rw s.builder r.has_said;
  foreign = rw s.builder r.foreign;
  starts = rw s.kept r.starts;
  tokens = rw s.kept r.tokens;
  running = s.running;
  building = rw s.builder r.building;
}

pub is_ended : (start : Start) (p : Stages) (bytes text : List ℕ) → AreFewSteps p.builder.page.tree.tree.limits (steps_taken p.tokenizer) p.builder.page.tree.steps → IsHandedOn start true p bytes text
    → IsEnded start p bytes
is_ended start p bytes text few h = record {
  run = h.further.run;
  is_run = h.further.is_run;
  all = subst (λ t. tokens_of t h.further.run.switches h.further.run.start ≡ h.further.run.given) (sym h.further.text_is) (h.all refl);
  few = λ l is. few l (h.further.is_run.handed.built.limits ∙ is);
}

pub end_cause : (start : Start) (bytes text : List ℕ) (e : ParseError) → text ≡ decode bytes → IsTokenCause start true text e → IsCause start bytes e
end_cause start bytes text OutOfMemory is c = tt
end_cause start bytes text InputTooLong is c = absurd c
end_cause start bytes text (ForeignContent name at) is c = subst (λ t. IsTokenCause start true t (ForeignContent name at)) is c
end_cause start bytes text BadContext is c = absurd c
end_cause start bytes text Read is c = absurd c
end_cause start bytes text Write is c = absurd c
end_cause start bytes text Stopped is c = absurd c
end_cause start bytes text (NodeBudget at) is c = subst (λ t. IsTokenCause start true t (NodeBudget at)) is c
end_cause start bytes text (HeldBudget at) is c = subst (λ t. IsTokenCause start true t (HeldBudget at)) is c
end_cause start bytes text (StepBudget at) is c = subst (λ t. IsTokenCause start true t (StepBudget at)) is c

-- more steps were counted at the end than the limit
pub steps_refused : (start : Start) (p : Stages) (bytes text : List ℕ) (e : ParseError) → IsHandedOn start true p bytes text
    → ((limit : ℕ) (finished : Bool) (bytes text : List ℕ) → Decodes limit finished p.decoder bytes text
    → (e ≡ StepBudget (length text)) × AreTooManySteps p.builder.page.tree.tree.limits (steps_taken p.tokenizer) p.builder.page.tree.steps)
    → IsCause start bytes e
steps_refused start p bytes text e h cause =
    let run = h.further.run in
    let r = h.further.is_run in
    let c = cause (most_input start) true bytes run.text r.decoded in
    let set : start.limits ≡ Some c.1.0 = sym r.handed.built.limits ∙ c.1.1 in
    let all : run.given ≡ tokens_of run.text run.switches (text_start start)
    = sym (subst (λ t. tokens_of t run.switches run.start ≡ run.given) (sym h.further.text_is) (h.all refl)) ∙ ap (tokens_of run.text run.switches) r.begun in
    subst (IsCause start bytes) (sym c.0)
    (end_cause start bytes run.text (StepBudget (length run.text)) (Fed-all r.decoded).0 (
      inr (record {
        whole = refl;
        place = refl;
        switches = run.switches;
        spent = record {
          tokenizer = p.tokenizer;
          run = run;
          fed = r.tokenized;
          begun = r.begun;
          rest = [];
          front = sym (append-nil run.text);
          given = all;
          builder = p.builder;
          handed = subst (λ ts. Handed start.setting start.limits (kinds ts) p.builder) all r.handed;
          spent = (c.1.0, set, c.1.2);
        };
      }),
      (c.1.0, set),
    ))

pub decoder_end_refused : (start : Start) (bytes : List ℕ) (e : InputError) → (e ≡ input.InputTooLong → most_input start < length (code_points bytes)) → (e ≡ input.Stopped → ⊥)
    → IsCause start bytes (input_cause e)
decoder_end_refused start bytes input.OutOfMemory long running = tt
decoder_end_refused start bytes input.InputTooLong long running = long refl
decoder_end_refused start bytes input.Stopped long running = absurd (running refl)

pub tokenizer_end_refused : (start : Start) (bytes : List ℕ) (e : TokenError) → (e ≡ tokens.Stopped → ⊥) → IsCause start bytes (token_cause e)
tokenizer_end_refused start bytes tokens.OutOfMemory running = tt
tokenizer_end_refused start bytes tokens.Stopped running = absurd (running refl)
