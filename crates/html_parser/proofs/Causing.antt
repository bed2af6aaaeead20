-- Why tree construction refused, as said of the text.
use Rattle.std.proofs.Common.{ℕ, suc, ◌+◌, ◌-◌, ◌<◌, ◌≤◌, ◌≡◌, ◌∙◌, arith, inl, inr, ◌⊎◌, true, false, Bool, Option, Some, List, [], ◌∷◌, ◌++◌, length, take, replicate, None, refl, sym, ap, ap₂, subst, append_assoc}
use Rattle.std.proofs.lemmas.Bool.{true≢false}
use Rattle.std.proofs.lemmas.List.{append-nil}
use Rattle.html_tokens.specs.Given.{Fed, steps_taken}
use Rattle.html_tokens.specs.Input.{MayFollow}
use Rattle.html_tokens.specs.Runs.{gave_all, plain_tokens}
use Rattle.html_tokens.specs.Stream.{Run, gave, tokens_of}
use Rattle.html_tokens.specs.declared.token.Token.{Token}
use Rattle.html_tokens.specs.declared.tokenizer.Tokenizer.{Tokenizer}
use Rattle.html_arena.specs.declared.arena.Limits.{Limits}
use Rattle.html_ledger.specs.declared.setting.Setting.{Setting}
use Rattle.html_tokens.specs.declared.token.TokenKind.{TokenKind}
use Rattle.html_tokens.specs.declared.token.TokenKind.TheVariants.{Eof}
use Rattle.html_ledger.specs.declared.fate.Fate.{Fate}
use Rattle.html_builder.specs.Errors.{IsTextTold, IsTold}
use Rattle.html_builder.specs.Handed.{Handed, HaveFates, IsBuildCause, IsForeignRefused, IsTextCause, fates_of}
use Rattle.html_builder.specs.Builders.{BuilderState}
use Rattle.html_builder.specs.declared.error.BuildError.{BuildError}
use Rattle.html_builder.specs.declared.error.BuildError.TheVariants as build
use Rattle.html_construction.specs.Built.{chars_of}
use Rattle.html_construction.specs.States.{State}
use Rattle.html_parser.specs.Causes.{IsTokenAt, IsTokenCause, IsToldIn, build_cause}
use Rattle.html_parser.specs.Kinds.{kinds}
use Rattle.html_parser.specs.Spent.{AreTooManySteps}
use Rattle.html_parser.specs.Gathered.{HasRest}
use Rattle.html_parser.specs.Staged.{IsRun}
use Rattle.html_parser.specs.Said.{AreSaid}
use Rattle.html_parser.specs.Start.{Start, parses}
use Rattle.html_parser.specs.declared.options.Foreign.{Foreign}
use Rattle.html_parser.specs.declared.options.Foreign.TheVariants.{Refuse, Parse}
use Rattle.html_parser.specs.declared.error.ParseError.{ParseError}
use Rattle.html_parser.specs.declared.error.ParseError.TheVariants.{StepBudget}
use Rattle.html_parser.specs.declared.stages.Stages.{Stages}
use Rattle.html_parser.proofs.Ends.{kinds-append}
use Rattle.html_parser.proofs.Further.{rest_of}
use Rattle.html_parser.proofs.Openings.{one_listed}
use Rattle.html_parser.proofs.Refusals.{build-told}
use Rattle.html_parser.proofs.Switching.{kept-more, says-text}
use Rattle.html_parser.proofs.Taken.{kinds-plain}
use Rattle.html_parser.proofs.Unsaid.{char-token, text_listed}

kinds-length : (ts : List Token) → length (kinds ts) ≡ length ts
kinds-length [] = refl
kinds-length (t ∷ ts) = ap suc (kinds-length ts)

-- something is said after each token that was given
pub said_each : (start : Start) (finished : Bool) (p : Stages) (bytes : List ℕ) (run : Run) → IsRun start finished p bytes run → length run.switches ≡ length run.given
said_each start finished p bytes run r =
    r.said.count ∙ kinds-length run.given

-- a token that was given, and then refused
one-at : (start : Start) (finished : Bool) (p : Stages) (bytes : List ℕ) (run : Run) (t : Tokenizer) (token : Token) (at : ℕ) → HasRest start finished p bytes run
    → HaveFates start.setting (kinds run.given) (fates_of p.builder) → Fed t (gave run token None) → token.span.start ≡ at → IsTokenAt start finished run.text at
one-at start finished p bytes run t token at r h f e = record {
  before = run.given;
  fates = fates_of p.builder;
  token = token;
  fated = h;
  said = run.switches;
  are_said = r.said;
  listed = λ more switches follow.
      let l = one_listed t run token f more switches (subst (λ b. MayFollow b more) (sym r.ended) follow) in (
        l.0,
        ap (λ begun. tokens_of (run.text ++ more) (run.switches ++ None ∷ switches) begun) (sym r.begun) ∙ l.1,
      );
  place = e;
}

pub not-parsed : (f : Foreign) → parses f ≡ false → f ≡ Refuse
not-parsed Refuse e = refl
not-parsed Parse e = absurd (true≢false e)

pub token_refused : (start : Start) (finished : Bool) (p : Stages) (bytes : List ℕ) (run : Run) (t : Tokenizer) (token : Token) (z : State) (e : BuildError) → HasRest start finished p bytes run
    → HaveFates start.setting (kinds run.given) (fates_of p.builder) → Fed t (gave run token None) → IsForeignRefused p.builder e
    → IsBuildCause start.setting start.limits (kinds run.given) (fates_of p.builder) token.kind token.span.start e → IsTold start.limits token.kind z e
    → IsTokenCause start finished run.text (build_cause e)
unfolding one-at
token_refused start finished p bytes run t token z build.OutOfMemory r h f q c told = tt
token_refused start finished p bytes run t token z (build.ForeignContent name at) r h f q (e, starts, has) told =
    record { token = one-at start finished p bytes run t token at r h f (sym e); foreign = starts; refused = not-parsed start.foreign (sym r.foreign ∙ q) }
token_refused start finished p bytes run t token z (build.NodeBudget at) r h f q (e, set) told =
    (record { token = one-at start finished p bytes run t token at r h f (sym e); state = z; passed = told }, set)
token_refused start finished p bytes run t token z (build.HeldBudget at) r h f q (e, set) told =
    (record { token = one-at start finished p bytes run t token at r h f (sym e); state = z; passed = told }, set)
token_refused start finished p bytes run t token z build.BadContext r h f q c told = absurd c
token_refused start finished p bytes run t token z build.Stopped r h f q c told = absurd c

-- Why a token was refused: more steps were counted before it than the limit, or tree construction refused it.
abbrev pub IsRefusal : Bool → Token → BuilderState → State → ParseError → Type 0
IsRefusal spent token old new e = ((e ≡ StepBudget token.span.start) × (spent ≡ true))
    ⊎ ((x : BuildError) × (e ≡ build_cause x) × IsForeignRefused old x × ((s : Setting) (l : Option Limits) (tokens : List TokenKind) → Handed s l tokens old
    → IsBuildCause s l tokens (fates_of old) token.kind token.span.start x) × ((s : Setting) (l : Option Limits) (tokens : List TokenKind) → Handed s l tokens old
    → IsTold l token.kind new x))

-- a token that was refused, or before which more steps were counted than the limit
pub build_refused : (start : Start) (finished : Bool) (p : Stages) (bytes : List ℕ) (run : Run) (t : Tokenizer) (token : Token) (z : State) (spent : Bool) (e : ParseError)
    → IsRun start finished p bytes run → HaveFates start.setting (kinds run.given) (fates_of p.builder) → Fed t (gave run token None)
    → (spent ≡ true → AreTooManySteps p.builder.page.tree.tree.limits (steps_taken p.tokenizer) p.builder.page.tree.steps)
    → IsRefusal spent token p.builder z e
    → IsTokenCause start finished run.text e
unfolding one-at
build_refused start finished p bytes run t token z spent e r h f limited (inl (is, over)) =
    let l = limited over in
    let set : start.limits ≡ Some l.0 = sym r.handed.built.limits ∙ l.1 in
    subst (IsTokenCause start finished run.text) (sym is) (
      inl (record {
        token = one-at start finished p bytes run t token token.span.start (rest_of start finished p bytes run r) h f refl;
        spent = record {
          tokenizer = p.tokenizer;
          run = run;
          fed = r.tokenized;
          begun = r.begun;
          rest = [];
          front = sym (append-nil run.text);
          given = refl;
          builder = p.builder;
          handed = r.handed;
          spent = (l.0, set, l.2);
        };
      }),
      (l.0, set),
    )
build_refused start finished p bytes run t token z spent e r h f limited (inr (x, is, refused, cause, told)) =
    subst (IsTokenCause start finished run.text) (sym is)
    (token_refused start finished p bytes run t token z x (rest_of start finished p bytes run r) h f refused (cause start.setting start.limits (kinds run.given) r.handed)
    (told start.setting start.limits (kinds run.given) r.handed))

-- what a budget tells then of the state of tree construction
pub refused_told : (start : Start) (finished : Bool) (p : Stages) (bytes : List ℕ) (run : Run) (token : Token) (z : State) (spent : Bool) (e : ParseError)
    → IsRun start finished p bytes run → IsRefusal spent token p.builder z e → IsToldIn start.limits z e
refused_told start finished p bytes run token z spent e r (inl (is, over)) = subst (IsToldIn start.limits z) (sym is) tt
refused_told start finished p bytes run token z spent e r (inr (x, is, refused, cause, told)) =
    subst (IsToldIn start.limits z) (sym is) (build-told start.limits token.kind z x (told start.setting start.limits (kinds run.given) r.handed))

-- tree construction counts no steps against a limit
never-spent : (x : BuildError) (at : ℕ) → build_cause x ≡ StepBudget at → ⊥
never-spent build.OutOfMemory at e = absurd (let k = e in cc)
never-spent (build.ForeignContent name place) at e = absurd (let k = e in cc)
never-spent build.BadContext at e = absurd (let k = e in cc)
never-spent build.Stopped at e = absurd (let k = e in cc)
never-spent (build.NodeBudget place) at e = absurd (let k = e in cc)
never-spent (build.HeldBudget place) at e = absurd (let k = e in cc)

pub build_spent : (spent : Bool) (e : ParseError) (at k n : ℕ) (o : Option Limits) (token : Token) (b : BuilderState) (z : State) → (spent ≡ true → AreTooManySteps o k n)
    → IsRefusal spent token b z e → e ≡ StepBudget at → AreTooManySteps o k n
build_spent spent e at k n o token b z limited (inl (is, over)) told = limited over
build_spent spent e at k n o token b z limited (inr (x, is, refused, cause, passed)) told = absurd (never-spent x at (sym is ∙ told))

-- a code point of plain text that was given, and then refused
char-at : (start : Start) (finished : Bool) (p : Stages) (bytes : List ℕ) (run : Run) (t : Tokenizer) (place : ℕ) (text : List ℕ) (at : ℕ) → IsRun start finished p bytes run
    → HaveFates start.setting (kinds run.given) (fates_of p.builder) → Fed t (gave_all run (plain_tokens place text))
    → place ≤ at → at < place + length text → IsTokenAt start finished run.text at
char-at start finished p bytes run t place text at r h f low high =
    let fates = fates_of p.builder in
    let k : ℕ = at - place in
    let within : k < length text = omega (arith, low, high) in
    let first = plain_tokens place (take k text) in
    let nones = replicate (length (take k text)) None in
    let are : kinds (run.given ++ first) ≡ kinds run.given ++ chars_of (take k text)
    = kinds-append run.given first ∙ ap (λ ks. kinds run.given ++ ks) (kinds-plain place (take k text)) in
    let said : AreSaid start.setting (kinds run.given ++ chars_of (take k text)) (fates ++ []) (run.switches ++ nones)
    = says-text start.setting (kinds run.given) (take k text) fates [] run.switches h r.said in
    record {
      before = run.given ++ first;
      fates = fates;
      token = char-token place text k;
      fated = subst (λ ks. HaveFates start.setting ks fates) (sym are) (kept-more start.setting (kinds run.given) (take k text) fates h);
      said = run.switches ++ nones;
      are_said = subst (λ ks. AreSaid start.setting ks fates (run.switches ++ nones)) (sym are)
          (subst (λ fs. AreSaid start.setting (kinds run.given ++ chars_of (take k text)) fs (run.switches ++ nones)) (append-nil fates) said);
      listed = λ more switches follow.
          let l = text_listed t run place text k (said_each start finished p bytes run r) f within more (None ∷ switches) (subst (λ b. MayFollow b more) (sym r.ended) follow) in (
            l.0,
            ap₂ (λ s begun. tokens_of (run.text ++ more) s begun) (append_assoc run.switches nones (None ∷ switches)) (sym r.begun)
                ∙ l.1,
          );
      place = omega (arith, low);
    }

pub text_refused : (start : Start) (finished : Bool) (p : Stages) (bytes : List ℕ) (run : Run) (t : Tokenizer) (place : ℕ) (text : List ℕ) (z : State) (e : BuildError) → IsRun start finished p bytes run
    → HaveFates start.setting (kinds run.given) (fates_of p.builder) → Fed t (gave_all run (plain_tokens place text))
    → IsTextCause start.setting start.limits (kinds run.given) (fates_of p.builder) text place e → IsTextTold start.limits z e → IsTokenCause start finished run.text (build_cause e)
text_refused start finished p bytes run t place text z build.OutOfMemory r h f c told = tt
text_refused start finished p bytes run t place text z (build.NodeBudget at) r h f (low, high, set) told =
    let token = char-at start finished p bytes run t place text at r h f low high in
    (record { token = token; state = z; passed = told token.token.kind }, set)
text_refused start finished p bytes run t place text z (build.HeldBudget at) r h f (low, high, set) told =
    let token = char-at start finished p bytes run t place text at r h f low high in
    (record { token = token; state = z; passed = told token.token.kind }, set)
text_refused start finished p bytes run t place text z (build.ForeignContent name at) r h f c told = absurd c
text_refused start finished p bytes run t place text z build.BadContext r h f c told = absurd c
text_refused start finished p bytes run t place text z build.Stopped r h f c told = absurd c

-- THE TOKEN BEHIND A TEXT THAT WAS GATHERED

pub last_refused : (start : Start) (finished : Bool) (p : Stages) (bytes : List ℕ) (run : Run) (t : Tokenizer) (token : Token) (z : State) (e : ParseError)
    → HasRest start finished p bytes run → HaveFates start.setting (kinds run.given) (fates_of p.builder) → Fed t (gave run token None) → IsRefusal false token p.builder z e
    → IsTokenCause start finished run.text e
last_refused start finished p bytes run t token z e r h f (inl (is, over)) = absurd (true≢false (sym over))
last_refused start finished p bytes run t token z e r h f (inr (x, is, refused, cause, told)) =
    subst (IsTokenCause start finished run.text) (sym is)
    (token_refused start finished p bytes run t token z x r h f refused (cause start.setting start.limits (kinds run.given) r.handed)
    (told start.setting start.limits (kinds run.given) r.handed))

pub last_told : (start : Start) (finished : Bool) (p : Stages) (bytes : List ℕ) (run : Run) (token : Token) (z : State) (e : ParseError)
    → HasRest start finished p bytes run → IsRefusal false token p.builder z e → IsToldIn start.limits z e
last_told start finished p bytes run token z e r (inl (is, over)) = absurd (true≢false (sym over))
last_told start finished p bytes run token z e r (inr (x, is, refused, cause, told)) =
    subst (IsToldIn start.limits z) (sym is) (build-told start.limits token.kind z x (told start.setting start.limits (kinds run.given) r.handed))

pub last_unspent : (token : Token) (b : BuilderState) (z : State) (e : ParseError) (at : ℕ) → IsRefusal false token b z e → e ≡ StepBudget at → ⊥
last_unspent token b z e at (inl (is, over)) told = true≢false (sym over)
last_unspent token b z e at (inr (x, is, refused, cause, passed)) told = never-spent x at (sym is ∙ told)

-- Why a text was refused.
abbrev pub IsTextRefusal : BuilderState → List ℕ → ℕ → State → ParseError → Type 0
IsTextRefusal old text start z e = (x : BuildError) × (e ≡ build_cause x) × ((s : Setting) (l : Option Limits) (tokens : List TokenKind) → Handed s l tokens old
    → IsTextCause s l tokens (fates_of old) text start x × IsTextTold l z x)

pub run_refused : (start : Start) (finished : Bool) (p : Stages) (bytes : List ℕ) (run : Run) (t : Tokenizer) (place : ℕ) (text : List ℕ) (z : State) (e : ParseError) → IsRun start finished p bytes run
    → HaveFates start.setting (kinds run.given) (fates_of p.builder) → Fed t (gave_all run (plain_tokens place text)) → IsTextRefusal p.builder text place z e → IsTokenCause start finished run.text e
run_refused start finished p bytes run t place text z e r h f (x, is, why) =
    let both = why start.setting start.limits (kinds run.given) r.handed in
    subst (IsTokenCause start finished run.text) (sym is) (text_refused start finished p bytes run t place text z x r h f both.0 both.1)

-- A TEXT THAT WAS GATHERED: without limits it is refused for want of memory alone

no-limits : (limits : Option Limits) (l : Limits) → limits ≡ None → limits ≡ Some l → ⊥
no-limits limits l none some = absurd (let e = sym none ∙ some in cc)

unlimited : (start : Start) (finished : Bool) (run : Run) (fates : List Fate) (text : List ℕ) (x : BuildError) → start.limits ≡ None
    → IsTextCause start.setting start.limits (kinds run.given) fates text 0 x → IsTokenCause start finished run.text (build_cause x)
unlimited start finished run fates text build.OutOfMemory none c = tt
unlimited start finished run fates text (build.NodeBudget at) none (low, high, set) = absurd (no-limits start.limits set.0 none set.1)
unlimited start finished run fates text (build.HeldBudget at) none (low, high, set) = absurd (no-limits start.limits set.0 none set.1)
unlimited start finished run fates text (build.ForeignContent name at) none c = absurd c
unlimited start finished run fates text build.BadContext none c = absurd c
unlimited start finished run fates text build.Stopped none c = absurd c

pub joined_refused : (start : Start) (finished : Bool) (p : Stages) (bytes : List ℕ) (run : Run) (text : List ℕ) (z : State) (e : ParseError) → p.builder.page.tree.tree.limits ≡ None
    → HasRest start finished p bytes run → IsTextRefusal p.builder text 0 z e → IsTokenCause start finished run.text e
joined_refused start finished p bytes run text z e none r (x, is, why) =
    subst (IsTokenCause start finished run.text) (sym is)
    (unlimited start finished run (fates_of p.builder) text x (sym r.handed.built.limits ∙ none) (why start.setting start.limits (kinds run.given) r.handed).0)

pub joined_told : (start : Start) (finished : Bool) (p : Stages) (bytes : List ℕ) (run : Run) (text : List ℕ) (place : ℕ) (z : State) (e : ParseError)
    → HasRest start finished p bytes run → IsTextRefusal p.builder text place z e → IsToldIn start.limits z e
joined_told start finished p bytes run text place z e r (x, is, why) =
    subst (IsToldIn start.limits z) (sym is) (build-told start.limits Eof z x ((why start.setting start.limits (kinds run.given) r.handed).1 Eof))

pub joined_unspent : (p : BuilderState) (text : List ℕ) (place : ℕ) (z : State) (e : ParseError) (at : ℕ) → IsTextRefusal p text place z e → e ≡ StepBudget at → ⊥
joined_unspent p text place z e at (x, is, why) told = never-spent x at (sym is ∙ told)
