-- What steps and runs tell.
use Rattle.std.proofs.Common.{◌≡◌, ℕ, List, [], ◌∷◌, ◌++◌, length, Option, Some, None, true, false, refl, ap, subst, sym, ◌∙◌, append_assoc, append-nil}
use Rattle.html_tokens.specs.Errors.{all_told, begin_told, IsQuiet, Opens, region_end_errors, told_in, with_told}
use Rattle.html_tokens.specs.Fed.{GivesChars, IsSilent, Skips, Steps, Tells, TellsAt, told_at, errors_to_come, errors_to_come_after}
use Rattle.html_tokens.specs.Input.{Decided, MayFollow}
use Rattle.html_tokens.specs.InsideReferences.{begun_ref_errors, number_told, soon_ref_errors}
use Rattle.html_tokens.specs.declared.reference.NumberDraft.{NumberDraft}
use Rattle.html_tokens.specs.Reference.{ref_opener, reference}
use Rattle.html_tokens.specs.Marks.{begin_at}
use Rattle.html_tokens.specs.Stream.{AreTold, IsAt, Run, answered, errors_of, gave}
use Rattle.html_tokens.specs.declared.faults.Fault.{Fault}
use Rattle.html_tokens.specs.declared.faults.Faults.{Faults}
use Rattle.html_tokens.specs.declared.machine.Machine.{Machine}
use Rattle.html_tokens.specs.declared.machine.Progress.{Progress}
use Rattle.html_tokens.specs.declared.machine.Progress.TheVariants.{Given, More, Wait}
use Rattle.html_tokens.specs.declared.machine.State.{State}
use Rattle.html_tokens.specs.declared.machine.State.TheVariants.{Text, Number, Second, Ampersand, Comment, Doctype, Tag, Section, Ended}
use Rattle.html_tokens.specs.declared.token.Begin.{Begin}
use Rattle.html_tokens.specs.declared.token.Region.{Region}
use Rattle.html_tokens.specs.declared.token.TextMode.{TextMode}
use Rattle.html_tokens.specs.declared.token.Token.{Token}
use Rattle.html_tokens.proofs.ErrorLemmas.{region_quiet, told_at_end}
use Rattle.html_tokens.proofs.Cuts.{not_empty}
use Rattle.html_tokens.proofs.StreamLemmas.{same_mode, switch_is}
use Rattle.std.proofs.lemmas.Bool.{false≢true}
use Rattle.html_tokens.specs.Given.{MaySwitch}
use Rattle.html_tokens.specs.Tokens.{opener, switched}
use Rattle.html_tokens.specs.Errors.{opening_errors}
use Rattle.html_tokens.specs.Stream.{ended, fed}
use Rattle.html_tokens.specs.declared.input.Input.{Input}
use Rattle.html_tokens.specs.declared.token.Begin.TheVariants as begins
use Rattle.html_tokens.specs.declared.token.Opener.{Opener}
use Rattle.std.proofs.Common.{Result, Ok, Err}
use Rattle.std.specs.Option.{IfNone, IfSome}
use Rattle.std.specs.Result.{IfOk}
use Rattle.html_tokens.specs.Fed.{IsEnded, errors_coming, to_come}
use Rattle.html_tokens.specs.Stream.{tokens_of}
use Rattle.html_tokens.proofs.StreamLemmas.{none_to_come, same_front}
use Rattle.html_charref.specs.declared.table.Row.{Row}
use Rattle.std.proofs.Common.{ap₂, ◌+◌, ◌<◌, arith}
use Rattle.std.specs.List.{slice_get}
use Rattle.html_tokens.specs.Cut.{is}
use Rattle.html_tokens.specs.Errors.{bogus_error, is_cdata}
use Rattle.html_tokens.specs.Inside.{fault, null_errors}
use Rattle.html_tokens.specs.declared.fault_name.FaultName.TheVariants as names
use Rattle.html_tokens.specs.declared.token.Opener.TheVariants as opens

pub none_both : (es fs : List Fault) → es ≡ [] → fs ≡ [] → es ++ fs ≡ []
none_both es fs e f = rw (e, f) refl

pub told_none : (told : List Fault) → all_told told [] ≡ told
unfolding all_told
told_none told = refl

pub told_one : (old new : List Fault) (f : Fault) → new ≡ with_told old f → new ≡ all_told old (f ∷ [])
unfolding all_told
told_one old new f e = e

pub told_both : (told es fs : List Fault) → all_told told (es ++ fs) ≡ all_told (all_told told es) fs
unfolding all_told
told_both told [] fs = refl
told_both told (e ∷ es) fs = told_both (with_told told e) es fs

pub quiet_same : (f : Faults) → IsQuiet f f
quiet_same f = λ kept. (kept, refl)

pub quiet_both : (a b c : Faults) → IsQuiet a b → IsQuiet b c → IsQuiet a c
quiet_both a b c g h = λ kept. let second = h kept in let first = g second.0 in (first.0, second.1 ∙ first.1)

-- none of them more
pub opens_quiet : (told : List Fault) (a b c : Faults) → Opens told a b → IsQuiet b c → Opens told a c
opens_quiet told a b c o q = λ kept. let later = q kept in let first = o later.0 in (first.0, later.1 ∙ first.1)

-- none of them before
pub quiet_then : (told : List Fault) (a b c : Faults) → IsQuiet a b → Opens told b c → Opens told a c
quiet_then told a b c q o = λ kept. let later = o kept in let first = q later.0 in (first.0, later.1 ∙ ap (λ (l : List Fault). all_told l told) first.1)

-- some, and some more
pub opens_both : (es fs : List Fault) (a b c : Faults) → Opens es a b → Opens fs b c → Opens (es ++ fs) a c
opens_both es fs a b c o p = λ kept. let later = p kept in let first = o later.0 in (first.0, later.1 ∙ ap (λ (l : List Fault). all_told l fs) first.1 ∙ sym (told_both a.list es fs))

-- no error in place of one
pub quiet_opens : (old new : Faults) → IsQuiet old new → Opens [] old new
quiet_opens old new q = λ kept. ((q kept).0, (q kept).1 ∙ sym (told_none old.list))

-- where there is none
pub opens_quietly : (es : List Fault) (old new : Faults) → es ≡ [] → Opens es old new → IsQuiet old new
opens_quietly es old new e o = λ kept. ((o kept).0, (o kept).1 ∙ ap (λ (x : List Fault). all_told old.list x) e ∙ told_none old.list)

pub opens_none : (f : Faults) → Opens [] f f
opens_none f = quiet_opens f f (quiet_same f)

pub tells_quiet : (t : Machine) (progress : Progress) (old new : Faults) → IsSilent t → IsQuiet old new → Tells t progress old new
tells_quiet t (Given given) old new silent q = λ kept. ((q kept).0, λ more f. (q kept).1 ∙ sym (ap (λ (es : List Fault). all_told old.list es) (silent more f) ∙ told_none old.list))
tells_quiet t More old new silent q = λ kept. ((q kept).0, λ more f. (q kept).1 ∙ sym (ap (λ (es : List Fault). all_told old.list es) (silent more f) ∙ told_none old.list))
tells_quiet t Wait old new silent q = q

-- where nothing is told, nothing has to be
pub tells_none : (t : Machine) (progress : Progress) (f : Faults) → IsSilent t → Tells t progress f f
tells_none t progress f silent = tells_quiet t progress f f silent (quiet_same f)

-- a step that waits tells nothing
pub tells_wait : (t : Machine) (old : Faults) → Tells t Wait old old
tells_wait t old = quiet_same old

-- a step tells what is decided
pub tells_decided : (t : Machine) (told : List Fault) (old new : Faults) → ((more : List ℕ) → MayFollow t.input.finished more → told_at t more ≡ told) → Opens told old new → TellsAt t old new
tells_decided t told old new decided opens = λ kept. ((opens kept).0, λ more f. (opens kept).1 ∙ ap (λ (es : List Fault). all_told old.list es) (sym (decided more f)))

-- in other states than text nothing is told
pub silent_in : (t : Machine) (s : State) → t.state ≡ s → ((rows : List Row) (mode : TextMode) (name : Option (List ℕ)) (place : ℕ) (rest : List ℕ) → told_in rows s mode name place rest ≡ []) → IsSilent t
silent_in t s e h = λ more f. rw e (h t.table.now t.mode t.last_name t.place (t.input.queue.items ++ more))

-- what begins tells nothing
pub silent_begun : (t : Machine) (region : Region) (b : Begin) → t.state ≡ Text region → Decided t.input (begin_at t.mode region t.last_name) b → 0 < length t.input.queue.items → ((rows : List Row) (place : ℕ) (text : List ℕ) → begin_told rows b place text ≡ []) → IsSilent t
silent_begun t region b s begun some h = λ more f. rw (s, begun more f, region_quiet region t.place (t.input.queue.items ++ more) (not_empty t.input.queue.items more some)) (h t.table.now t.place (t.input.queue.items ++ more))

-- what a `&` in text tells, and of the letters and digits after it
pub both_told : (t : Machine) (region : Region) (told soon : List Fault) → t.state ≡ Text region → Decided t.input (begin_at t.mode region t.last_name) begins.Reference → 0 < length t.input.queue.items →
    ((more : List ℕ) → MayFollow t.input.finished more → begun_ref_errors (ref_opener (t.input.queue.items ++ more)) (reference t.table.now (t.input.queue.items ++ more)) t.place (t.input.queue.items ++ more) ≡ told) →
    ((more : List ℕ) → MayFollow t.input.finished more → soon_ref_errors (ref_opener (t.input.queue.items ++ more)) t.table.now t.place (t.input.queue.items ++ more) ≡ soon) →
    (more : List ℕ) → MayFollow t.input.finished more → told_at t more ≡ told ++ soon
both_told t region told soon s begun some h g = λ more f.
    rw (s, begun more f, region_quiet region t.place (t.input.queue.items ++ more) (not_empty t.input.queue.items more some)) (ap₂ (λ (es fs : List Fault). es ++ fs) (h more f) (g more f))

-- where nothing is told of these
pub ref_told : (t : Machine) (region : Region) (told : List Fault) → t.state ≡ Text region → Decided t.input (begin_at t.mode region t.last_name) begins.Reference → 0 < length t.input.queue.items →
    ((more : List ℕ) → MayFollow t.input.finished more → begun_ref_errors (ref_opener (t.input.queue.items ++ more)) (reference t.table.now (t.input.queue.items ++ more)) t.place (t.input.queue.items ++ more) ≡ told) →
    ((more : List ℕ) → MayFollow t.input.finished more → soon_ref_errors (ref_opener (t.input.queue.items ++ more)) t.table.now t.place (t.input.queue.items ++ more) ≡ []) →
    (more : List ℕ) → MayFollow t.input.finished more → told_at t more ≡ told
ref_told t region told s begun some h none = λ more f. both_told t region told [] s begun some h none more f ∙ append-nil told

-- what a reference gives is told
pub ref_tells : (old new : Machine) (len first : ℕ) (second : Option ℕ) (progress : Progress) (f f' : Faults) → GivesChars old len first second progress new → TellsAt old f f' → Tells old progress f f'
ref_tells old new len first None progress f f' (e, p) tells = rw e tells
ref_tells old new len first (Some second) progress f f' (e, p) tells = rw e tells

-- a number that ends is told
pub number_tells : (t : Machine) (told : List Fault) (draft : NumberDraft) (progress : Progress) {given : Token} (f f' : Faults) → t.state ≡ Number draft → progress ≡ Given given →
    ((more : List ℕ) → MayFollow t.input.finished more → number_told draft.base draft.value draft.start (slice_get (t.input.queue.items ++ more) 0) ≡ told) → Opens told f f' → Tells t progress f f'
number_tells t told draft progress f f' s g h opens = rw g (tells_decided t told f f' (λ more m. rw s (h more m)) opens)

-- a code point of text tells whether it is U+0000
pub tells_char : (t : Machine) (region : Region) (c : ℕ) (old new : Faults) → t.state ≡ Text region → Decided t.input (begin_at t.mode region t.last_name) begins.Char → Decided t.input (λ rest. slice_get rest 0) (Some c) → 0 < length t.input.queue.items →
    Opens (null_errors (Some c) t.place) old new → TellsAt t old new
tells_char t region c old new s begun first some opens =
    tells_decided t (null_errors (Some c) t.place) old new
    (λ more f. rw (s, begun more f, region_quiet region t.place (t.input.queue.items ++ more) (not_empty t.input.queue.items more some)) (ap (λ (x : Option ℕ). null_errors x t.place) (first more f))) opens

-- what the end tells is told
pub tells_end : (t : Machine) (region : Region) (old new : Faults) → t.state ≡ Text region → ((more : List ℕ) → MayFollow t.input.finished more → t.input.queue.items ++ more ≡ []) → Opens (region_end_errors region t.place) old new → TellsAt t old new
tells_end t region old new s e opens = tells_decided t (region_end_errors region t.place) old new (λ more f. rw (s, e more f) (told_at_end t.table.now region t.mode t.last_name t.place)) opens

-- RUNS

pub told_same : (t : Machine) (old new : Faults) (run : Run) → IsQuiet old new → AreTold t old run → AreTold t new run
told_same t old new run q told = λ kept more switches f. told (q kept).0 more switches f ∙ ap (λ (l : List Fault). all_told l (errors_to_come t more switches)) (sym (q kept).1)

pub told_skips : (old new : Machine) (f f' : Faults) (run : Run) → Skips old new → IsQuiet f f' → IsAt old run → AreTold old f run → AreTold new f' run
told_skips old new f f' run s q i told = told_same new f f' run q (λ kept more switches h. told kept more switches h ∙ ap (λ (es : List Fault). all_told f.list es) (s.3 more switches (rw i.finished h)))

told_on : (told told' at_once later whole : List Fault) → whole ≡ at_once ++ later → told' ≡ all_told told at_once → all_told told whole ≡ all_told told' later
told_on told told' at_once later whole e h = ap (λ (es : List Fault). all_told told es) e ∙ told_both told at_once later ∙ ap (λ (l : List Fault). all_told l later) (sym h)

pub told_more : (old new : Machine) (f f' : Faults) (run : Run) → Steps old More new → TellsAt old f f' → IsAt old run → AreTold old f run → AreTold new f' run
told_more old new f f' run s tells i told = λ kept more switches h.
    let g = tells kept in
    let k : MayFollow old.input.finished more = rw i.finished h in
    told g.0 more switches h ∙ told_on f.list f'.list (told_at old more) (errors_to_come new more switches) (errors_to_come old more switches) (s.4 more switches k) (g.1 more k)

pub told_given : (old new : Machine) (f f' : Faults) (run : Run) (given : Token) (switch : Option TextMode) → Steps old (Given given) new → TellsAt old f f' → IsAt old run → AreTold old f run → AreTold (answered given switch new) f' (gave run given switch)
told_given old new f f' run given switch s tells i told = λ kept more switches h.
    let g = tells kept in
    let k : MayFollow old.input.finished more = rw i.finished h in
    rw append_assoc
    (told g.0 more (switch ∷ switches) h ∙ told_on f.list f'.list (told_at old more) (errors_to_come_after given switch new more switches) (errors_to_come old more (switch ∷ switches)) (s.3 more switch switches k) (g.1 more k))

-- what a `<` begins tells what is decided
pub opens_told : (t : Machine) (region : Region) (found : Opener) (told : List Fault) → t.state ≡ Text region → Decided t.input (begin_at t.mode region t.last_name) begins.Markup → Decided t.input opener found →
    Decided t.input (opening_errors found t.place) told → 0 < length t.input.queue.items → (more : List ℕ) → MayFollow t.input.finished more → told_at t more ≡ told
opens_told t region found told s begun is errors some = λ more f.
    rw (s, begun more f, region_quiet region t.place (t.input.queue.items ++ more) (not_empty t.input.queue.items more some))
    (ap (λ (o : Opener). opening_errors o t.place (t.input.queue.items ++ more)) (is more f) ∙ errors more f)

-- a piece was fed
pub told_fed : (old : Machine) (input' : Input) (f : Faults) (run : Run) (text : List ℕ) → input'.queue.items ≡ old.input.queue.items ++ text → old.input.finished ≡ false → IsAt old run → AreTold old f run → AreTold (record old { input = input' }) f (fed run text)
told_fed old input' f run text e going i told = λ kept more switches h.
    rw (e, append_assoc, append_assoc) (told kept (text ++ more) switches (λ g. absurd (false≢true (sym going ∙ i.finished ∙ g))))

-- the text has ended
pub told_ended : (old : Machine) (f : Faults) (run : Run) → AreTold old f run → AreTold (record old { input = record old.input { finished = true } }) f (ended run)
told_ended old f run told = λ kept more switches h. told kept more switches (λ g. h refl)

-- nothing is said of the mode
pub told_unsaid : (given : Token) (t : Machine) (f : Faults) (run : Run) → ((switch : Option TextMode) → AreTold (answered given switch t) f (gave run given switch)) → AreTold t f (gave run given None)
told_unsaid given t f run told = subst (λ (m : Machine). AreTold m f (gave run given None)) (same_mode given.kind t) (told None)

pub told_said : (given : Token) (mode : TextMode) (t : Machine) (f : Faults) (run : Run) → MaySwitch given.kind mode → ((switch : Option TextMode) → AreTold (answered given switch t) f (gave run given switch))
    → AreTold (record t { mode = switched (Some mode) t.mode }) f (gave run given (Some mode))
told_said given mode t f run h told = subst (λ (m : TextMode). AreTold (record t { mode = m }) f (gave run given (Some mode))) (switch_is given.kind mode t.mode h) (told (Some mode))

-- a machine of which all is the same but what it was made of
pub told_at_same : (now new : Machine) (f : Faults) (run : Run) → new.input.queue.items ≡ now.input.queue.items → new.place ≡ now.place → new.mode ≡ now.mode → new.last_name ≡ now.last_name → new.state ≡ now.state → new.table.now ≡ now.table.now → AreTold now f run → AreTold new f run
told_at_same now new f run e p m n s t told = λ kept more switches h. rw (e, p, m, n, s, t) (told kept more switches h)

-- what the next token tells
pub some_told : (old new : Machine) (f f' : Faults) (answer : Option Token) → IfSome answer (λ given. Steps old (Given given) new) → IfSome answer (λ given. IsSilent old) → IsQuiet f f' →
    IfSome answer (λ token. (run : Run) → IsAt old run → AreTold old f run → (switch : Option TextMode) → AreTold (answered token switch new) f' (gave run token switch))
some_told old new f f' (Some token) s silent q = λ run i told switch. told_given old new f f' run token switch s (tells_quiet old (Given token) f f' silent q) i told
some_told old new f f' None s silent q = tt

-- what holds of what comes next after some was passed
pub some_told_after : (old now new : Machine) (f g h : Faults) (answer : Option Token) → Skips old now → IsQuiet f g → ((run : Run) → IsAt old run → IsAt now run) →
    IfSome answer (λ token. (run : Run) → IsAt now run → AreTold now g run → (switch : Option TextMode) → AreTold (answered token switch new) h (gave run token switch)) →
    IfSome answer (λ token. (run : Run) → IsAt old run → AreTold old f run → (switch : Option TextMode) → AreTold (answered token switch new) h (gave run token switch))
some_told_after old now new f g h (Some token) s q on k = λ run i told. k run (on run i) (told_skips old now f g run s q i told)
some_told_after old now new f g h None s q on k = tt

pub none_told_after : (old now new : Machine) (f g h : Faults) (answer : Option Token) → Skips old now → IsQuiet f g → ((run : Run) → IsAt old run → IsAt now run) →
    IfNone answer ((run : Run) → IsAt now run → AreTold now g run → AreTold new h run) → IfNone answer ((run : Run) → IsAt old run → AreTold old f run → AreTold new h run)
none_told_after old now new f g h (Some token) s q on k = tt
none_told_after old now new f g h None s q on k = λ run i told. k run (on run i) (told_skips old now f g run s q i told)

pub tells_ok : {E : Type 0} (r : Result Progress E) (t : Machine) (old new : Faults) → IsSilent t → IsQuiet old new → IfOk r (λ progress. Tells t progress old new)
tells_ok (Ok progress) t old new silent q = tells_quiet t progress old new silent q
tells_ok (Err e) t old new silent q = tt

none_after_end : (rows : List Row) (state : State) (mode : TextMode) (name : Option (List ℕ)) (place : ℕ) (rest : List ℕ) (switches : List (Option TextMode)) → IsEnded state → errors_coming rows state mode name place rest switches ≡ []
none_after_end rows (Text region) mode name place rest switches h = absurd h
none_after_end rows (Number d) mode name place rest switches h = absurd h
none_after_end rows (Ampersand start) mode name place rest switches h = absurd h
none_after_end rows (Second c start) mode name place rest switches h = absurd h
none_after_end rows (Comment d) mode name place rest switches h = absurd h
none_after_end rows (Doctype d) mode name place rest switches h = absurd h
none_after_end rows (Tag d) mode name place rest switches h = absurd h
none_after_end rows Section mode name place rest switches h = absurd h
none_after_end rows Ended mode name place rest switches h = refl

-- once all tokens were given, the errors told are those of the text
pub whole_told : (t : Machine) (f : Faults) (run : Run) → IsAt t run → f.lost ≡ false → AreTold t f run → run.finished ≡ true → tokens_of run.text run.switches run.start ≡ run.given → f.list ≡ errors_of run.text run.switches run.start
whole_told t f run i kept told finished all =
    let whole = i.tokens [] [] (λ _. refl) in
    let none : to_come t [] [] ≡ [] = same_front run.given (to_come t [] []) (sym all ∙ ap₂ (λ text said. tokens_of text said run.start) (sym (append-nil run.text)) (sym (append-nil run.switches)) ∙ whole) in
    let end = none_to_come t.table.now t.state t.mode t.last_name t.place (t.input.queue.items ++ []) [] none in
    sym (ap₂ (λ text said. errors_of text said run.start) (sym (append-nil run.text)) (sym (append-nil run.switches))
    ∙ told kept [] [] (λ _. refl)
    ∙ ap (λ (es : List Fault). all_told f.list es) (none_after_end t.table.now t.state t.mode t.last_name t.place (t.input.queue.items ++ []) [] end)
    ∙ told_none f.list)

-- WHAT BEGINS A BOGUS COMMENT

pub bogus_cdata : (place : ℕ) (text : List ℕ) (p : ℕ) → is 63 (slice_get text 1) ≡ false → is 47 (slice_get text 1) ≡ false → is_cdata text ≡ true → p ≡ place + 2 → bogus_error place text ≡ fault names.CdataInHtmlContent p
bogus_cdata place text p a b c e = rw (a, b, c, e) refl

pub bogus_other : (place : ℕ) (text : List ℕ) (p : ℕ) → is 63 (slice_get text 1) ≡ false → is 47 (slice_get text 1) ≡ false → is_cdata text ≡ false → p ≡ place + 2 → bogus_error place text ≡ fault names.IncorrectlyOpenedComment p
bogus_other place text p a b c e = rw (a, b, c, e) refl

two_of : (text more : List ℕ) (k : ℕ) → more ≡ [] → opener (text ++ more) ≡ opens.Bogus k → 1 < length text
two_of [] more k m e = absurd (let f : opener [] ≡ opens.Bogus k = rw m at e in cc)
two_of (x ∷ []) more k m e = absurd (let f : opener (x ∷ []) ≡ opens.Bogus k = rw m at e in cc)
two_of (x ∷ y ∷ rest) more k m e = omega arith

pub bogus_two : (text : List ℕ) (k : ℕ) → opener (text ++ []) ≡ opens.Bogus k → 1 < length text
bogus_two text k e = two_of text [] k refl e
