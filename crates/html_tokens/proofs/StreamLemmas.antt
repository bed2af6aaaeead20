-- A run of the machine goes on.
use Rattle.std.proofs.Common.{◌≡◌, ℕ, zero, suc, ◌+◌, ◌≤◌, List, [], ◌∷◌, ◌++◌, length, drop, Option, Some, None, Bool, true, false, refl, ap, ap₂, inl, inr, sym, ◌∙◌, ◌-◌, arith, append_assoc, append-nil}
use Rattle.std.specs.List.{AllByRecursion}
use Rattle.std.specs.Option.{IfNone, IfSome}
use Rattle.html_tokens.specs.Tokens.{tokens_after, mode_after, name_after, tag_tokens, token, chars_at, next, text_or, text_after, begun_piece, ref_tokens, open_piece, opener, Piece, name_after_kind, when, is_data, switched}
use Rattle.html_tokens.specs.Marks.{begin_at, front}
use Rattle.html_tokens.specs.Reference.{reference}
use Rattle.html_charref.specs.declared.table.Row.{Row}
use Rattle.html_tokens.specs.declared.token.Region.TheVariants.{Plain, Escaped, Double}
use Rattle.html_tokens.specs.declared.token.Begin.{Begin}
use Rattle.html_tokens.specs.declared.token.Begin.TheVariants as begins
use Rattle.html_tokens.specs.Tag.{draft_tag}
use Rattle.html_tokens.specs.Cut.{cut, section_mark}
use Rattle.html_tokens.specs.Fed.{IsSilent, IsEnded, Skips, coming, to_come, switch_to, Steps, slack}
use Rattle.html_tokens.specs.Given.{IsStart, MaySwitch}
use Rattle.html_tokens.specs.Stream.{Run, IsAt, last_name, name_of, gave, answered, tokens_of, IsPrompt, IsLate, ended}
use Rattle.html_tokens.specs.declared.token.Token.{Token}
use Rattle.html_tokens.specs.declared.token.TokenKind.{TokenKind}
use Rattle.html_tokens.specs.declared.token.TokenKind.TheVariants as kinds
use Rattle.html_tokens.specs.declared.token.TextMode.{TextMode}
use Rattle.html_tokens.specs.declared.token.TextMode.TheVariants.{Foreign}
use Rattle.html_tokens.specs.declared.token.Opener.{Opener}
use Rattle.html_tokens.specs.declared.token.Opener.TheVariants as opens
use Rattle.html_tokens.specs.declared.machine.State.{State}
use Rattle.html_tokens.specs.declared.machine.State.TheVariants.{Text, Number, Second, Ampersand, Comment, Doctype, Tag, Section, Ended}
use Rattle.html_tokens.specs.declared.machine.Machine.{Machine}
use Rattle.html_tokens.specs.declared.machine.Progress.TheVariants.{Given, More, Wait}

pub run_more : (old new : Machine) (run : Run) → Steps old More new → IsAt old run → IsAt new run
run_more old new run s i = record {
  tokens = λ more switches h. i.tokens more switches h ∙ ap (λ (ts : List Token). run.given ++ ts) (s.0 more switches (rw i.finished h));
  count = s.2.count ∙ i.count;
  finished = s.2.finished ∙ i.finished;
  table = s.2.table ∙ i.table;
  name = s.3 ∙ i.name;
  rule = i.rule;
  drained = s.2.drained i.drained;
}

pub run_skips : (old new : Machine) (run : Run) → Skips old new → IsAt old run → IsAt new run
run_skips old new run s i = record {
  tokens = λ more switches h. i.tokens more switches h ∙ ap (λ (ts : List Token). run.given ++ ts) (s.0 more switches (rw i.finished h));
  count = s.1.count ∙ i.count;
  finished = s.1.finished ∙ i.finished;
  table = s.1.table ∙ i.table;
  name = s.2 ∙ i.name;
  rule = i.rule;
  drained = s.1.drained i.drained;
}

pub more_skips : (old new : Machine) → Steps old More new → IsSilent old → Skips old new
more_skips old new s silent = (s.0, s.2, s.3, (λ more switches f. s.4 more switches f ∙ rw (silent more f) refl))

pub skips_trans : (a b c : Machine) → Skips a b → Skips b c → Skips a c
skips_trans a b c s t = (
  (λ more switches f. s.0 more switches f ∙ t.0 more switches (rw s.1.finished f)),
  record { count = t.1.count ∙ s.1.count; finished = t.1.finished ∙ s.1.finished; table = t.1.table ∙ s.1.table; drained = λ h. t.1.drained (s.1.drained h) },
  t.2 ∙ s.2,
  (λ more switches f. s.3 more switches f ∙ t.3 more switches (rw s.1.finished f)),
)

last_name-push : (ts : List Token) (t : Token) (name : Option (List ℕ)) → last_name (ts ++ t ∷ []) name ≡ name_after_kind t.kind (last_name ts name)
last_name-push [] t name = refl
last_name-push (u ∷ ts) t name = last_name-push ts t (name_after_kind u.kind name)

-- what holds of what comes next after some was passed
pub some_after : (old now new : Machine) (answer : Option Token) → Skips old now → IfSome answer (λ token. (run : Run) → IsAt now run → (switch : Option TextMode) → IsAt (answered token switch new) (gave run token switch)) →
    IfSome answer (λ token. (run : Run) → IsAt old run → (switch : Option TextMode) → IsAt (answered token switch new) (gave run token switch))
some_after old now new (Some token) s h = λ run i. h run (run_skips old now run s i)
some_after old now new None s h = tt

pub none_after : (old now new : Machine) (answer : Option Token) → Skips old now → IfNone answer ((run : Run) → IsAt now run → IsAt new run × IsPrompt run) → IfNone answer ((run : Run) → IsAt old run → IsAt new run × IsPrompt run)
none_after old now new (Some token) s h = tt
none_after old now new None s h = λ run i. h run (run_skips old now run s i)

pub none_after_all : (old now : Machine) (answer : Option Token) → Skips old now → IfNone answer ((run : Run) → IsAt now run → run.finished ≡ true → tokens_of run.text run.switches run.start ≡ run.given) →
    IfNone answer ((run : Run) → IsAt old run → run.finished ≡ true → tokens_of run.text run.switches run.start ≡ run.given)
none_after_all old now (Some token) s h = tt
none_after_all old now None s h = λ run i. h run (run_skips old now run s i)

pub run_given : (old new : Machine) (run : Run) (given : Token) (switch : Option TextMode) → Steps old (Given given) new → IsAt old run → IsAt (answered given switch new) (gave run given switch)
run_given old new run given switch s i = record {
  tokens = λ more switches h.
      rw (append_assoc, append_assoc)
      (i.tokens more (switch ∷ switches) h ∙ ap (λ (ts : List Token). run.given ++ ts) (s.0 more switch switches (rw i.finished h)));
  count = s.1.count ∙ i.count;
  finished = s.1.finished ∙ i.finished;
  table = s.1.table ∙ i.table;
  name = s.2 ∙ ap (name_after_kind given.kind) i.name ∙ sym (last_name-push run.given given run.start.name);
  rule = i.rule;
  drained = s.1.drained i.drained;
}

pub some_given : (old new : Machine) (answer : Option Token) → IfSome answer (λ given. Steps old (Given given) new) →
    IfSome answer (λ token. (run : Run) → IsAt old run → (switch : Option TextMode) → IsAt (answered token switch new) (gave run token switch))
some_given old new (Some token) s = λ run i switch. run_given old new run token switch s i
some_given old new None s = tt

abbrev Reaches : ℕ → Token → Type 0
Reaches place t = place ≤ t.span.end

all_append : {X : Type 0} (P : X → Type 0) (xs ys : List X) → AllByRecursion P xs → AllByRecursion P ys → AllByRecursion P (xs ++ ys)
all_append P [] ys a b = b
all_append P (x ∷ xs) ys a b = (a.0, all_append P xs ys a.1 b)

all_weaker : {X : Type 0} (P Q : X → Type 0) (xs : List X) → ((x : X) → P x → Q x) → AllByRecursion P xs → AllByRecursion Q xs
all_weaker P Q [] f a = tt
all_weaker P Q (x ∷ xs) f a = (f x a.0, all_weaker P Q xs f a.1)

reach_chars : (mode : TextMode) (place from : ℕ) (cs : List ℕ) → from ≤ place → AllByRecursion (Reaches from) (chars_at mode place cs)
reach_chars mode place from [] h = tt
reach_chars mode place from (c ∷ cs) h = (omega arith, reach_chars mode (place + 1) from cs (omega arith))

reach_when : (b : Bool) (t : Token) (from : ℕ) → from ≤ t.span.end → AllByRecursion (Reaches from) (when b t)
reach_when true t from h = (h, tt)
reach_when false t from h = tt

reach_open : (rows : List Row) (found : Opener) (place from : ℕ) (text : List ℕ) → from ≤ place → AllByRecursion (Reaches from) (open_piece rows found place text).tokens
reach_open rows opens.Literal place from text h = (omega arith, tt)
reach_open rows opens.StartTag place from text h = reach_when _ _ from (omega arith)
reach_open rows opens.EndTag place from text h = reach_when _ _ from (omega arith)
reach_open rows opens.Empty place from text h = tt
reach_open rows (opens.Bogus n) place from text h = (omega arith, tt)
reach_open rows opens.Comment place from text h = (omega arith, tt)
reach_open rows (opens.ShortComment n) place from text h = (omega arith, tt)
reach_open rows opens.Doctype place from text h = (omega arith, tt)

reach_text_or : (cs : List ℕ) (mode : TextMode) (place from : ℕ) (other : Piece) → from ≤ place → AllByRecursion (Reaches from) other.tokens → AllByRecursion (Reaches from) (text_or cs mode place other).tokens
reach_text_or [] mode place from other h a = a
reach_text_or (c ∷ cs) mode place from other h a = reach_chars mode place from (c ∷ cs) h

reach_ref : (codes : List ℕ) (start end from : ℕ) → from ≤ start → from ≤ end → AllByRecursion (Reaches from) (ref_tokens codes start end)
reach_ref [] start end from h k = tt
reach_ref (c ∷ []) start end from h k = (k, tt)
reach_ref (c ∷ d ∷ more) start end from h k = (omega arith, (k, tt))

reach_begun : (rows : List Row) (b : Begin) (place from : ℕ) (text : List ℕ) → from ≤ place → AllByRecursion (Reaches from) (begun_piece rows b place text).tokens
reach_begun rows begins.Char place from text h = tt
reach_begun rows begins.Markup place from text h = reach_open rows (opener text) place from text h
reach_begun rows begins.EndMark place from text h = reach_when _ _ from (omega arith)
reach_begun rows begins.Reference place from text h = reach_ref (reference rows text).codes place _ from h (omega arith)
reach_begun rows begins.Section place from text h = reach_chars Foreign (place + 9) from _ (omega arith)

reach_tokens : (rows : List Row) (k : ℕ) (mode : TextMode) (name : Option (List ℕ)) (place from : ℕ) (text : List ℕ) (switches : List (Option TextMode)) → from ≤ place →
    AllByRecursion (Reaches from) (tokens_after rows k mode name place text switches)
unfolding tokens_after
reach_tokens rows k mode name place from [] switches h = (h, tt)
reach_tokens rows zero mode name place from (c ∷ rest) switches h =
    all_append (Reaches from) (next rows mode name place (c ∷ rest)).tokens _
    (reach_text_or (front mode Plain name (c ∷ rest)) mode place from _ h (reach_begun rows (begin_at mode Plain name (c ∷ rest)) place from (c ∷ rest) h))
    (reach_tokens rows _ _ _ (place + 1) from rest _ (omega arith))
reach_tokens rows (suc k) mode name place from (c ∷ rest) switches h = reach_tokens rows k mode name (place + 1) from rest switches (omega arith)

reach_text : (rows : List Row) (cs : List ℕ) (mode : TextMode) (name : Option (List ℕ)) (place : ℕ) (text : List ℕ) (switches : List (Option TextMode)) → AllByRecursion (Reaches place) (text_after rows cs mode name place text switches)
reach_text rows cs mode name place text switches =
    all_append (Reaches place) (chars_at mode place cs) _ (reach_chars mode place place cs (omega arith)) (reach_tokens rows (length cs) _ name place place text _ (omega arith))

reach_coming : (rows : List Row) (state : State) (mode : TextMode) (name : Option (List ℕ)) (place : ℕ) (text : List ℕ) (switches : List (Option TextMode)) → AllByRecursion (Reaches place) (coming rows state mode name place text switches)
reach_coming rows (Text Plain) mode name place text switches = reach_tokens rows 0 mode name place place text switches (omega arith)
reach_coming rows (Text Escaped) mode name place text switches = reach_text rows (front mode Escaped name text) mode name place text switches
reach_coming rows (Text Double) mode name place text switches = reach_text rows (front mode Double name text) mode name place text switches
reach_coming rows (Number draft) mode name place text switches = (omega arith, reach_tokens rows _ _ name place place text (drop 1 switches) (omega arith))
reach_coming rows (Ampersand start) mode name place text switches = reach_tokens rows 0 mode name place place text switches (omega arith)
reach_coming rows (Second c start) mode name place text switches = (omega arith, reach_tokens rows 0 _ name place place text (drop 1 switches) (omega arith))
reach_coming rows (Comment draft) mode name place text switches = (omega arith, reach_tokens rows _ _ name place place text (drop 1 switches) (omega arith))
reach_coming rows (Doctype draft) mode name place text switches = (omega arith, reach_tokens rows _ _ name place place text (drop 1 switches) (omega arith))
reach_coming rows (Tag draft) mode name place text switches =
    all_append (Reaches place) _ _ (reach_when _ _ place (omega arith)) (reach_tokens rows _ _ _ place place text _ (omega arith))
reach_coming rows Section mode name place text switches =
    all_append (Reaches place) _ _ (reach_chars Foreign place place (cut section_mark text).before (omega arith)) (reach_tokens rows _ _ _ place place text _ (omega arith))
reach_coming rows Ended mode name place text switches = tt

-- where little is unread, all but the last tokens have been given
pub run_prompt : (t : Machine) (run : Run) → IsAt t run → length t.input.queue.items ≤ slack t.table.now t.last_name → IsPrompt run
run_prompt t run i h =
    let k = rw (i.table, i.name) at h in (
      to_come t [] [],
      (let e = i.tokens [] [] (λ _. refl) in let text = append-nil run.text in let said = append-nil run.switches in rw (text, said) at e),
      all_weaker (Reaches t.place) (IsLate (slack run.start.rows (name_of run)) (length run.text)) (to_come t [] []) (λ x r. omega (arith, i.count))
          (reach_coming t.table.now t.state t.mode t.last_name t.place (t.input.queue.items ++ []) []),
    )

-- where the machine has ended, all tokens have been given
pub run_ended : (t : Machine) (run : Run) → IsAt t run → t.state ≡ Ended → tokens_of run.text run.switches run.start ≡ run.given
run_ended t run i s =
    let e = rw (append-nil run.text, append-nil run.switches, s, append-nil run.given) at (i.tokens [] [] (λ _. refl)) in e

pub ended_prompt : (t : Machine) (run : Run) → IsAt t run → t.state ≡ Ended → IsPrompt run
ended_prompt t run i s = ([], run_ended t run i s ∙ sym (append-nil run.given), tt)

pub run_wait : (old new : Machine) (run : Run) → Steps old Wait new → IsAt old run → IsAt new run × IsPrompt run
run_wait old new run s i = (rw s.0 i, run_prompt old run i s.1.1)

pub run_wait_all : (old new : Machine) (run : Run) → Steps old Wait new → IsAt old run → run.finished ≡ true → tokens_of run.text run.switches run.start ≡ run.given
run_wait_all old new run s i f = let e = i.finished in let g = s.1.0 in cc

pub same_mode : (kind : TokenKind) (t : Machine) → record t { mode = switch_to kind None t.mode } ≡ t
same_mode (kinds.Start name attrs self_closing) t = refl
same_mode (kinds.End name) t = refl
same_mode (kinds.Char c) t = refl
same_mode (kinds.Comment text) t = refl
same_mode (kinds.Doctype name public_id system_id force_quirks) t = refl
same_mode kinds.Eof t = refl

switches_start : (kind : TokenKind) (mode old : TextMode) → IsStart kind → switch_to kind (Some mode) old ≡ switched (Some mode) old
switches_start (kinds.Start name attrs self_closing) mode old h = refl
switches_start (kinds.End name) mode old h = absurd h
switches_start (kinds.Char c) mode old h = absurd h
switches_start (kinds.Comment text) mode old h = absurd h
switches_start (kinds.Doctype name public_id system_id force_quirks) mode old h = absurd h
switches_start kinds.Eof mode old h = absurd h

switches_data : (kind : TokenKind) (mode old : TextMode) → is_data mode ≡ true → switch_to kind (Some mode) old ≡ switched (Some mode) old
switches_data (kinds.Start name attrs self_closing) mode old h = refl
switches_data (kinds.End name) mode old h = rw h refl
switches_data (kinds.Char c) mode old h = rw h refl
switches_data (kinds.Comment text) mode old h = rw h refl
switches_data (kinds.Doctype name public_id system_id force_quirks) mode old h = rw h refl
switches_data kinds.Eof mode old h = rw h refl

pub switch_is : (kind : TokenKind) (mode old : TextMode) → MaySwitch kind mode → switch_to kind (Some mode) old ≡ switched (Some mode) old
switch_is kind mode old (inl h) = switches_start kind mode old h
switch_is kind mode old (inr h) = switches_data kind mode old h

pub unsaid : (given : Token) (t : Machine) (run : Run) → ((switch : Option TextMode) → IsAt (answered given switch t) (gave run given switch)) → IsAt t (gave run given None)
unsaid given t run i = rw (same_mode given.kind t) at (i None)

pub said : (given : Token) (mode : TextMode) (t : Machine) (run : Run) → MaySwitch given.kind mode → ((switch : Option TextMode) → IsAt (answered given switch t) (gave run given switch))
    → IsAt (record t { mode = switched (Some mode) t.mode }) (gave run given (Some mode))
said given mode t run h i = rw (switch_is given.kind mode t.mode h) at (i (Some mode))

pub unsaid_some : (answer : Option Token) (old new : Machine) →
    IfSome answer (λ token. (run : Run) → IsAt old run → (switch : Option TextMode) → IsAt (answered token switch new) (gave run token switch)) →
    IfSome answer (λ token. (run : Run) → IsAt old run → IsAt new (gave run token None))
unsaid_some None old new h = tt
unsaid_some (Some token) old new h = λ run i. unsaid token new run (h run i)

-- a text that has ended has ended
pub ended_again : (t : Machine) (run : Run) → t.input.finished ≡ true → IsAt t run → IsAt t (ended run)
ended_again t run e i = let f : true ≡ run.finished = sym e ∙ i.finished in record {
  tokens = λ more switches h. i.tokens more switches (rw (← f) h);
  count = i.count;
  finished = e;
  table = i.table;
  name = i.name;
  rule = i.rule;
  drained = i.drained;
}

-- THE END

last_none : {X : Type 0} (xs ys : List X) → xs ++ ys ≡ [] → ys ≡ []
last_none [] ys e = e
last_none (x ∷ xs) ys e = cc

tokens_some : (rows : List Row) (k : ℕ) (mode : TextMode) (name : Option (List ℕ)) (place : ℕ) (text : List ℕ) (switches : List (Option TextMode)) → tokens_after rows k mode name place text switches ≡ [] → ⊥
unfolding tokens_after
tokens_some rows k mode name place [] switches e = cc
tokens_some rows zero mode name place (c ∷ rest) switches e =
    let first = next rows mode name place (c ∷ rest) in
    tokens_some rows (first.len - 1) (mode_after first.tokens switches mode) (name_after first.tokens name) (place + 1) rest (drop (length first.tokens) switches)
    (last_none first.tokens _ e)
tokens_some rows (suc k) mode name place (c ∷ rest) switches e = tokens_some rows k mode name (place + 1) rest switches e

-- where nothing is to come, the end was given
pub none_to_come : (rows : List Row) (state : State) (mode : TextMode) (name : Option (List ℕ)) (place : ℕ) (rest : List ℕ) (switches : List (Option TextMode)) → coming rows state mode name place rest switches ≡ [] → IsEnded state
none_to_come rows (Text Plain) mode name place rest switches e = absurd (tokens_some rows 0 mode name place rest switches e)
none_to_come rows (Text Escaped) mode name place rest switches e = absurd (tokens_some rows _ _ name place rest _ (last_none (chars_at mode place (front mode Escaped name rest)) _ e))
none_to_come rows (Text Double) mode name place rest switches e = absurd (tokens_some rows _ _ name place rest _ (last_none (chars_at mode place (front mode Double name rest)) _ e))
none_to_come rows (Number draft) mode name place rest switches e = cc
none_to_come rows (Ampersand start) mode name place rest switches e = absurd (tokens_some rows 0 mode name place rest switches e)
none_to_come rows (Second c start) mode name place rest switches e = cc
none_to_come rows (Comment draft) mode name place rest switches e = cc
none_to_come rows (Doctype draft) mode name place rest switches e = cc
none_to_come rows (Tag draft) mode name place rest switches e =
    let t = draft_tag rows draft rest in
    absurd (tokens_some rows _ _ _ place rest _ (last_none (tag_tokens draft.is_end draft.start (place + t.tail.len) t) _ e))
none_to_come rows Section mode name place rest switches e =
    absurd (tokens_some rows _ _ name place rest _ (last_none (chars_at Foreign place (cut section_mark rest).before) _ e))
none_to_come rows Ended mode name place rest switches e = tt

pub same_front : {X : Type 0} (xs ys : List X) → xs ≡ xs ++ ys → ys ≡ []
same_front [] ys e = sym e
same_front (x ∷ xs) ys e = same_front xs ys (tail_same e)
  where
    rest : {X : Type 0} → List X → List X
    rest [] = []
    rest (y ∷ ys) = ys

    tail_same : {X : Type 0} {x y : X} {xs ys : List X} → x ∷ xs ≡ y ∷ ys → xs ≡ ys
    tail_same h = ap rest h

-- once all tokens were given, each code point was passed
pub all_passed : (t : Machine) (run : Run) → IsAt t run → run.finished ≡ true → tokens_of run.text run.switches run.start ≡ run.given → length run.text ≤ t.place
all_passed t run i f all =
    let whole = i.tokens [] [] (λ _. refl) in
    let none : to_come t [] [] ≡ [] = same_front run.given (to_come t [] []) (sym all ∙ ap₂ (λ text said. tokens_of text said run.start) (sym (append-nil run.text)) (sym (append-nil run.switches)) ∙ whole) in
    let read = (i.drained (none_to_come t.table.now t.state t.mode t.last_name t.place (t.input.queue.items ++ []) [] none)).1 in
    let count = i.count in
    let empty = ap length read in
    omega (arith, count, empty)
