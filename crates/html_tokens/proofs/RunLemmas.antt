-- Runs of plain text.
use Rattle.std.proofs.Common.{◌≡◌, ℕ, suc, ◌+◌, ◌≤◌, List, [], ◌∷◌, ◌++◌, length, take, drop, Option, Some, None, true, false, refl, ap, sym, ◌∙◌, arith, append_assoc, append-nil, length-append, subst, ◌==◌}
use Rattle.std.proofs.lemmas.List.{take-append-drop, length-take-le}
use Rattle.std.proofs.Math.Seq.{take-append_seam}
use Rattle.html_tokens.specs.Copied.{AllPass}
use Rattle.std.proofs.lemmas.Bool.{false≢true}
use Rattle.std.proofs.lemmas.Bool.Decides.{nat_tests}
use Rattle.html_tokens.specs.Tokens.{token, text_char}
use Rattle.html_tokens.specs.Marks.{begin_at, region_in}
use Rattle.html_tokens.specs.Fed.{IsEnded, Passes, Steps}
use Rattle.html_tokens.specs.Stream.{Run, IsAt, gave, answered}
use Rattle.html_tokens.specs.Runs.{is_plain, plain_front, is_text, plain_tokens, gave_all}
use Rattle.html_tokens.specs.declared.machine.Machine.{Machine}
use Rattle.html_tokens.specs.declared.machine.Progress.TheVariants.{Given}
use Rattle.html_tokens.specs.declared.machine.State.{State}
use Rattle.html_tokens.specs.declared.machine.State.TheVariants.{Text, Number, Second, Ampersand, Comment, Doctype, Tag, Section, Ended}
use Rattle.html_tokens.specs.declared.token.Begin.TheVariants as begins
use Rattle.html_tokens.specs.declared.token.Region.TheVariants.{Plain, Escaped, Double}
use Rattle.html_tokens.specs.declared.token.TextMode.{TextMode}
use Rattle.html_tokens.specs.declared.token.TextMode.TheVariants.{Data, Rcdata, Rawtext, Script, Plaintext, Foreign}
use Rattle.html_tokens.specs.declared.token.Token.{Token}
use Rattle.html_tokens.specs.declared.token.TokenKind.TheVariants as kinds
use Rattle.html_tokens.proofs.StepLemmas.{open_given, char_errors, char_given}
use Rattle.html_tokens.proofs.StreamLemmas.{run_given, unsaid}
use Rattle.html_tokens.proofs.ToldLemmas.{opens_none, tells_char, told_at_same, told_given, told_unsaid}
use Rattle.html_tokens.specs.Errors.{Opens}
use Rattle.html_tokens.specs.Inside.{null_errors}
use Rattle.html_tokens.proofs.PartLemmas.{is_not}
use Rattle.html_tokens.specs.Stream.{AreTold}
use Rattle.html_tokens.specs.declared.faults.Faults.{Faults}

pub plain_begins : (mode : TextMode) (name : Option (List ℕ)) (c : ℕ) (rest : List ℕ) → is_plain mode c ≡ true → begin_at mode Plain name (c ∷ rest) ≡ begins.Char
plain_begins Data name c rest h = grind (arith, nat_tests)
plain_begins Rcdata name c rest h = grind (arith, nat_tests)
plain_begins Rawtext None c rest h = refl
plain_begins Rawtext (Some name) c rest h = grind (arith, nat_tests)
plain_begins Script None c rest h = refl
plain_begins Script (Some name) c rest h = grind (arith, nat_tests)
plain_begins Plaintext name c rest h = refl
plain_begins Foreign name c rest h = grind (arith, nat_tests)

plain_region : (mode : TextMode) (c : ℕ) (rest : List ℕ) → is_plain mode c ≡ true → region_in mode Plain (c ∷ rest) ≡ Plain
plain_region Data c rest h = refl
plain_region Rcdata c rest h = refl
plain_region Rawtext c rest h = refl
plain_region Script c rest h = grind (arith, nat_tests)
plain_region Plaintext c rest h = refl
plain_region Foreign c rest h = refl

plain_char : (mode : TextMode) (c : ℕ) → is_plain mode c ≡ true → text_char mode c ≡ c
plain_char Data c h = refl
plain_char Rcdata c h = grind (arith, nat_tests)
plain_char Rawtext c h = grind (arith, nat_tests)
plain_char Script c h = grind (arith, nat_tests)
plain_char Plaintext c h = grind (arith, nat_tests)
plain_char Foreign c h = refl

-- a code point of plain text is given
pub plain_steps : (old new : Machine) (c : ℕ) (items : List ℕ) → old.state ≡ Text Plain → is_plain old.mode c ≡ true → old.input.queue.items ≡ c ∷ items → Passes old 1 (Text Plain) new → 1 ≤ length old.input.queue.items →
    Steps old (Given (token (kinds.Char c) old.place (old.place + 1))) new
plain_steps old new c items s h e p n =
    open_given old new Plain (token (kinds.Char c) old.place (old.place + 1)) 1 (Text Plain) s p n (λ e. e) refl
    (λ more switch switches f.
    let i : drop 1 old.input.queue.items ≡ items = rw e refl in
    rw i (char_given old.table.now Plain Plain old.mode old.last_name old.place (old.place + 1) c c old.input.queue.items items more switch switches e
    (rw e (plain_begins old.mode old.last_name c (items ++ more) h)) (rw e (plain_region old.mode c (items ++ more) h)) (sym (plain_char old.mode c h)) refl))
    (λ more switch switches f.
    let i : drop 1 old.input.queue.items ≡ items = rw e refl in
    rw i (char_errors old.table.now Plain Plain old.mode old.last_name old.place (old.place + 1) c old.input.queue.items items more switch switches e
    (rw e (plain_begins old.mode old.last_name c (items ++ more) h)) (rw e (plain_region old.mode c (items ++ more) h)) refl))

some_there : (items rest : List ℕ) (c : ℕ) → items ≡ c ∷ rest → 1 ≤ length items
some_there items rest c e = rw e (omega arith)

pub plain_given : (old new : Machine) (c : ℕ) (items : List ℕ) (run : Run) → old.state ≡ Text Plain → is_plain old.mode c ≡ true → old.input.queue.items ≡ c ∷ items → Passes old 1 (Text Plain) new → IsAt old run →
    IsAt new (gave run (token (kinds.Char c) old.place (old.place + 1)) None)
plain_given old new c items run s h e p i =
    unsaid (token (kinds.Char c) old.place (old.place + 1)) new run
    (λ switch. run_given old new run (token (kinds.Char c) old.place (old.place + 1)) switch (plain_steps old new c items s h e p (some_there old.input.queue.items items c e)) i)

-- what a code point of plain text tells
pub plain_told : (old new : Machine) (c : ℕ) (items : List ℕ) (f f' : Faults) (run : Run) → old.state ≡ Text Plain → is_plain old.mode c ≡ true → old.input.queue.items ≡ c ∷ items → Passes old 1 (Text Plain) new → Opens (null_errors (Some c) old.place) f f' → IsAt old run → AreTold old f run →
    (switch : Option TextMode) → AreTold (answered (token (kinds.Char c) old.place (old.place + 1)) switch new) f' (gave run (token (kinds.Char c) old.place (old.place + 1)) switch)
plain_told old new c items f f' run s h e p o i told switch =
    let some = some_there old.input.queue.items items c e in
    told_given old new f f' run (token (kinds.Char c) old.place (old.place + 1)) switch (plain_steps old new c items s h e p some)
    (tells_char old Plain c f f' s (λ more k. rw e (plain_begins old.mode old.last_name c (items ++ more) h)) (λ more k. rw e refl) some o) i told

pub gave_more : (run : Run) (ts : List Token) (t : Token) → gave_all run (ts ++ t ∷ []) ≡ gave (gave_all run ts) t None
gave_more run [] t = refl
gave_more run (u ∷ ts) t = gave_more (gave run u None) ts t

pub tokens_more : (place c : ℕ) (cs : List ℕ) → plain_tokens place (cs ++ c ∷ []) ≡ plain_tokens place cs ++ token (kinds.Char c) (place + length cs) (place + length cs + 1) ∷ []
tokens_more place c [] = let e : place + 0 ≡ place = omega arith in rw e refl
tokens_more place c (d ∷ cs) =
    let e : place + suc (length cs) ≡ place + 1 + length cs = omega arith in
    rw e (ap (λ (ts : List Token). token (kinds.Char d) place (place + 1) ∷ ts) (tokens_more (place + 1) c cs))

pub front_on : (mode : TextMode) (c : ℕ) (rest : List ℕ) → is_plain mode c ≡ true → plain_front mode (c ∷ rest) ≡ c ∷ plain_front mode rest
unfolding plain_front
front_on mode c rest h = rw h refl

pub front_off : (mode : TextMode) (c : ℕ) (rest : List ℕ) → is_plain mode c ≡ false → plain_front mode (c ∷ rest) ≡ []
unfolding plain_front
front_off mode c rest h = rw h refl

pub front_none : (mode : TextMode) → plain_front mode [] ≡ []
unfolding plain_front
front_none mode = refl

pub text_state : (state : State) → is_text state ≡ true → state ≡ Text Plain
text_state (Text Plain) h = refl
text_state (Text Escaped) h = absurd (false≢true h)
text_state (Text Double) h = absurd (false≢true h)
text_state (Number draft) h = absurd (false≢true h)
text_state (Second c start) h = absurd (false≢true h)
text_state (Ampersand start) h = absurd (false≢true h)
text_state (Comment draft) h = absurd (false≢true h)
text_state (Doctype draft) h = absurd (false≢true h)
text_state (Tag draft) h = absurd (false≢true h)
text_state Section h = absurd (false≢true h)
text_state Ended h = absurd (false≢true h)

-- so much plain text has been taken, from one machine to another and from one text to another
pub record HasTaken (start now : Machine) (f f' : Faults) (before after : List ℕ) : Type 0 where
  pub taken : List ℕ
  pub out : after ≡ before ++ taken
  pub front : plain_front start.mode start.input.queue.items ≡ taken ++ plain_front start.mode now.input.queue.items
  pub given : (run : Run) → IsAt start run → IsAt now (gave_all run (plain_tokens start.place taken))
  pub told : (run : Run) → IsAt start run → AreTold start f run → AreTold now f' (gave_all run (plain_tokens start.place taken))
  pub place : now.place ≡ start.place + length taken
  pub state : now.state ≡ Text Plain
  pub mode : now.mode ≡ start.mode

pub taken_none : (t : Machine) (f : Faults) (before : List ℕ) → t.state ≡ Text Plain → HasTaken t t f f before before
taken_none t f before s = record { taken = []; out = sym (append-nil before); front = refl; given = λ run i. i; told = λ run i a. a; place = omega arith; state = s; mode = refl }

longer_place : (now start c : ℕ) (taken : List ℕ) → now ≡ start + length taken → now + 1 ≡ start + length (taken ++ c ∷ [])
longer_place now start c taken e = rw (length-append taken (c ∷ [])) (omega arith)

pub taken_more : (start now new : Machine) (f g g' : Faults) (before after : List ℕ) (c : ℕ) (items : List ℕ) → HasTaken start now f g before after → is_plain start.mode c ≡ true → now.input.queue.items ≡ c ∷ items → Passes now 1 (Text Plain) new →
    Opens (null_errors (Some c) now.place) g g' → HasTaken start new f g' before (after ++ c ∷ [])
taken_more start now new f g g' before after c items h mode e p o =
    let plain : is_plain now.mode c ≡ true = rw h.mode mode in
    let rest : new.input.queue.items ≡ items = p.items ∙ ap (λ (x : List ℕ). drop 1 x) e in
    record {
      taken = h.taken ++ c ∷ [];
      out = ap (λ (x : List ℕ). x ++ c ∷ []) h.out ∙ append_assoc before h.taken (c ∷ []);
      front = h.front ∙ ap (λ (x : List ℕ). h.taken ++ plain_front start.mode x) e ∙ ap (λ (x : List ℕ). h.taken ++ x) (front_on start.mode c items mode)
          ∙ sym (append_assoc h.taken (c ∷ []) (plain_front start.mode items)) ∙ ap (λ (x : List ℕ). (h.taken ++ c ∷ []) ++ plain_front start.mode x) (sym rest);
      given = λ run i.
          let g = plain_given now new c items (gave_all run (plain_tokens start.place h.taken)) h.state plain e p (h.given run i) in
          rw (tokens_more start.place c h.taken, gave_more run (plain_tokens start.place h.taken), ← h.place) g;
      told = λ run i a.
          let run' = gave_all run (plain_tokens start.place h.taken) in
          let told = told_unsaid (token (kinds.Char c) now.place (now.place + 1)) new g' run' (plain_told now new c items g g' run' h.state plain e p o (h.given run i) (h.told run i a)) in
          rw (tokens_more start.place c h.taken, gave_more run (plain_tokens start.place h.taken)) told;
      place = p.place ∙ longer_place now.place start.place c h.taken h.place;
      state = p.state;
      mode = p.mode ∙ h.mode;
    }

-- one code point is passed
pub passes_one : (old new : Machine) (c : ℕ) (items : List ℕ) → old.input.queue.items ≡ c ∷ items → new.input.queue.items ≡ items → new.input.finished ≡ old.input.finished → new.place ≡ old.place + 1 → new.mode ≡ old.mode → new.last_name ≡ old.last_name → new.state ≡ old.state → new.table.now ≡ old.table.now → old.state ≡ Text Plain → Passes old 1 (Text Plain) new
passes_one old new c items e i f p m n s t h = record { items = i ∙ rw e refl; finished = f; place = p; mode = m; name = n; state = s ∙ h; table = t }

-- a machine of which all is the same but what it was made of
at_same : (now new : Machine) (run : Run) → new.input.queue.items ≡ now.input.queue.items → new.input.finished ≡ now.input.finished → new.place ≡ now.place → new.mode ≡ now.mode → new.last_name ≡ now.last_name → new.state ≡ now.state → new.table.now ≡ now.table.now → IsAt now run → IsAt new run
at_same now new run e f p m n s t i = record {
  tokens = λ more switches h. rw (e, p, m, n, s, t) (i.tokens more switches h);
  count = rw (e, p) i.count;
  finished = f ∙ i.finished;
  table = t ∙ i.table;
  name = n ∙ i.name;
  rule = i.rule;
  drained = λ h. let d = i.drained (subst IsEnded s h) in (f ∙ d.0, e ∙ d.1);
}

-- what is plain in each mode is not U+0000
no_null : (c place : ℕ) (f : Faults) → is_plain Plaintext c ≡ true → Opens (null_errors (Some c) place) f f
no_null c place f h = rw (is_not (c == 0) h) (opens_none f)

taken_front : (xs rest : List ℕ) (start now new : Machine) (f g : Faults) (before after : List ℕ) → HasTaken start now f g before after → AllPass (is_plain start.mode) xs → AllPass (is_plain Plaintext) xs → now.input.queue.items ≡ xs ++ rest → new.input.queue.items ≡ rest → new.input.finished ≡ now.input.finished → new.place ≡ now.place + length xs → new.mode ≡ now.mode → new.last_name ≡ now.last_name → new.state ≡ now.state → new.table.now ≡ now.table.now →
    HasTaken start new f g before (after ++ xs)
taken_front [] rest start now new f g before after h a b e r fin p m n s t =
    let same : new.place ≡ now.place = omega arith in
    let items : new.input.queue.items ≡ now.input.queue.items = r ∙ sym e in
    record {
      taken = h.taken;
      out = append-nil after ∙ h.out;
      front = h.front ∙ ap (λ (x : List ℕ). h.taken ++ plain_front start.mode x) (sym items);
      given = λ run i. at_same now new _ items fin same m n s t (h.given run i);
      told = λ run i told. told_at_same now new g (gave_all run (plain_tokens start.place h.taken)) items same m n s t (h.told run i told);
      place = same ∙ h.place;
      state = s ∙ h.state;
      mode = m ∙ h.mode;
    }
taken_front (c ∷ xs) rest start now new f g before after h a b e r fin p m n s t =
    let mid : Machine = record now { input = record { queue = record { items = xs ++ rest }; finished = now.input.finished }; place = now.place + 1 } in
    let one : HasTaken start mid f g before (after ++ c ∷ []) =
    taken_more start now mid f g g before after c (xs ++ rest) h a.0 e (passes_one now mid c (xs ++ rest) e refl refl refl refl refl refl refl h.state) (no_null c now.place g b.0) in
    let far : new.place ≡ now.place + 1 + length xs = p ∙ omega arith in
    subst (λ (x : List ℕ). HasTaken start new f g before x) (append_assoc after (c ∷ []) xs)
    (taken_front xs rest start mid new f g before (after ++ c ∷ []) one a.1 b.1 refl r fin far m n s t)

-- a front of the rest is taken at once
pub taken_run : (n : ℕ) (start now new : Machine) (f g : Faults) (before after : List ℕ) → HasTaken start now f g before after → n ≤ length now.input.queue.items → ((mode : TextMode) → AllPass (is_plain mode) (take n now.input.queue.items)) → Passes now n now.state new →
    HasTaken start new f g before (after ++ take n now.input.queue.items)
taken_run n start now new f g before after h k a p =
    taken_front (take n now.input.queue.items) (drop n now.input.queue.items) start now new f g before after h (a start.mode) (a Plaintext) (sym (take-append-drop n now.input.queue.items)) p.items p.finished
    (p.place ∙ ap (λ (x : ℕ). now.place + x) (sym (length-take-le n now.input.queue.items k))) p.mode p.name p.state p.table

-- what was there before is there
pub still_there : (start now : Machine) (f f' : Faults) (before after : List ℕ) → HasTaken start now f f' before after → take (length before) after ≡ before
still_there start now f f' before after h = rw h.out (take-append_seam before h.taken)

-- all of it has been taken
pub taken_all : (start now : Machine) (f f' : Faults) (before after : List ℕ) → HasTaken start now f f' before after → plain_front now.mode now.input.queue.items ≡ [] → (h : HasTaken start now f f' before after) → h.taken ≡ plain_front start.mode start.input.queue.items
taken_all start now f f' before after g e h = sym (h.front ∙ ap (λ (x : List ℕ). h.taken ++ x) (rw h.mode at e) ∙ append-nil h.taken)

pub all_out : (start now : Machine) (f f' : Faults) (before after : List ℕ) (h : HasTaken start now f f' before after) → plain_front now.mode now.input.queue.items ≡ [] → after ≡ before ++ plain_front start.mode start.input.queue.items
all_out start now f f' before after h e = h.out ∙ ap (λ (x : List ℕ). before ++ x) (taken_all start now f f' before after h e h)

pub all_place : (start now : Machine) (f f' : Faults) (before after : List ℕ) (h : HasTaken start now f f' before after) → plain_front now.mode now.input.queue.items ≡ [] → now.place ≡ start.place + length (plain_front start.mode start.input.queue.items)
all_place start now f f' before after h e = h.place ∙ ap (λ (x : List ℕ). start.place + length x) (taken_all start now f f' before after h e h)

pub all_given : (start now : Machine) (f f' : Faults) (before after : List ℕ) (h : HasTaken start now f f' before after) → plain_front now.mode now.input.queue.items ≡ [] →
    (run : Run) → IsAt start run → IsAt now (gave_all run (plain_tokens start.place (plain_front start.mode start.input.queue.items)))
all_given start now f f' before after h e run i = subst (λ (x : List ℕ). IsAt now (gave_all run (plain_tokens start.place x))) (taken_all start now f f' before after h e h) (h.given run i)

pub all_told_of : (start now : Machine) (f f' : Faults) (before after : List ℕ) (h : HasTaken start now f f' before after) → plain_front now.mode now.input.queue.items ≡ [] →
    (run : Run) → IsAt start run → AreTold start f run → AreTold now f' (gave_all run (plain_tokens start.place (plain_front start.mode start.input.queue.items)))
all_told_of start now f f' before after h e run i a = subst (λ (x : List ℕ). AreTold now f' (gave_all run (plain_tokens start.place x))) (taken_all start now f f' before after h e h) (h.told run i a)

-- the same, whatever is said of the mode
pub plain_answered : (old new : Machine) (c : ℕ) (items : List ℕ) → old.state ≡ Text Plain → is_plain old.mode c ≡ true → old.input.queue.items ≡ c ∷ items → Passes old 1 (Text Plain) new → (run : Run) → IsAt old run → (switch : Option TextMode) →
    IsAt (answered (token (kinds.Char c) old.place (old.place + 1)) switch new) (gave run (token (kinds.Char c) old.place (old.place + 1)) switch)
plain_answered old new c items s h e p run i switch =
    run_given old new run (token (kinds.Char c) old.place (old.place + 1)) switch (plain_steps old new c items s h e p (some_there old.input.queue.items items c e)) i
