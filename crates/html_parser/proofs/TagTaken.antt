-- The stages after a tag that was taken by itself.
use Rattle.std.proofs.Common.{ℕ, ◌+◌, ◌≤◌, ◌≡◌, ◌∙◌, ◌⊎◌, inl, inr, arith, Bool, true, false, Option, Some, None, List, [], ◌∷◌, ◌++◌, length, take, refl, sym, ap, subst}
use Rattle.std.proofs.Common.{length-append, length-take}
use Rattle.html_input.specs.Fed.{Fed as Decodes}
use Rattle.html_input.specs.declared.decoder.Decoder.{Decoder}
use Rattle.html_tokens.specs.Given.{Fed, is_stopped as tokenizer_stopped, steps_taken}
use Rattle.html_tokens.specs.Input.{MayFollow}
use Rattle.html_tokens.specs.Stream.{Run, fed, gave, tokens_of}
use Rattle.html_tokens.specs.declared.token.TextMode.{TextMode}
use Rattle.html_tokens.specs.declared.token.Token.{Token}
use Rattle.html_tokens.specs.declared.token.TokenKind.{TokenKind}
use Rattle.html_tokens.specs.declared.tokenizer.Tokenizer.{Tokenizer}
use Rattle.html_ledger.specs.MayDrop.{MayBeForeign}
use Rattle.html_ledger.specs.Runs.{last_of}
use Rattle.html_ledger.specs.declared.setting.Setting.{Setting}
use Rattle.html_construction.specs.Built.{symbols}
use Rattle.html_construction.specs.States.{State}
use Rattle.html_builder.specs.Errors.{IsTold}
use Rattle.html_builder.specs.Saying.{HasSaid, said_in}
use Rattle.html_builder.specs.Handed.{AddsFates, Handed, HandsIn, HaveFates, IsBuildCause, IsForeignRefused, LeadsTo, fates_of, is_stopped as builder_stopped, parses_foreign}
use Rattle.html_builder.specs.declared.error.BuildError.{BuildError}
use Rattle.html_builder.specs.declared.error.BuildError.TheVariants as build
use Rattle.html_parser.specs.Causes.{IsFeedCause, IsTokenAt, IsTokenCause, build_cause}
use Rattle.html_parser.specs.Kinds.{kinds, starts_of}
use Rattle.html_parser.specs.Said.{AreSaid, MaySayAfter}
use Rattle.html_parser.specs.Spent.{AreTooManySteps}
use Rattle.html_parser.specs.Staged.{HasRead, IsRun}
use Rattle.html_parser.specs.Start.{Start, most_input}
use Rattle.html_parser.specs.Tokenizing.{IsTokenizing}
use Rattle.html_parser.specs.declared.error.ParseError.{ParseError}
use Rattle.html_parser.specs.declared.stages.Stages.{Stages}
use Rattle.html_builder.proofs.SayingOn.{one-said}
use Rattle.html_parser.proofs.Causing.{IsRefusal, not-parsed}
use Rattle.html_parser.proofs.Ends.{kinds-append}
use Rattle.html_parser.proofs.Feeds.{feed_cause}
use Rattle.html_parser.proofs.Fronts.{is_front}
use Rattle.html_parser.proofs.Openings.{one_listed}
use Rattle.html_parser.proofs.PlainTaken.{front_refused}
use Rattle.html_parser.proofs.Switching.{says-one}
use Rattle.html_parser.proofs.Taken.{starts-append}
use Rattle.html_parser.proofs.Tokenizing.{fewer, moved}

-- WHAT IS ALWAYS TRUE OF THE STAGES

one_each : (a : List ℕ) (given : List Token) (token : Token) → length (a ++ starts_of (token ∷ [])) + length given ≤ length a + length (given ++ token ∷ [])
one_each a given token =
    let p : length (a ++ starts_of (token ∷ [])) ≡ length a + 1 = length-append a (starts_of (token ∷ [])) in
    let q : length (given ++ token ∷ []) ≡ length given + 1 = length-append given (token ∷ []) in
    omega (arith, p, q)

tag_more : (old new : Tokenizer) (a text : List ℕ) (token : Token) (said : Option TextMode) → tokenizer_stopped old ≡ false → IsTokenizing old a
    → ((run : Run) → Fed old run → Fed new (gave (fed run text) token said)) → IsTokenizing new (a ++ starts_of (token ∷ []))
tag_more old new a text token said going t step =
    moved old new a (a ++ starts_of (token ∷ [])) going t (λ run f. (gave (fed run text) token said, step run f, one_each a run.given token))

-- a tag that was fed and given, which was taken or not
pub tag_either : (old new : Tokenizer) (a b text : List ℕ) (token : Token) (said : Option TextMode) → tokenizer_stopped old ≡ false → IsTokenizing old a
    → ((run : Run) → Fed old run → Fed new (gave (fed run text) token said)) → (b ≡ a) ⊎ (b ≡ a ++ starts_of (token ∷ [])) → IsTokenizing new b
tag_either old new a b text token said going t step either = elim either [
  | inl e ↦ subst (IsTokenizing new) (sym e) (fewer new a (starts_of (token ∷ [])) (tag_more old new a text token said going t step))
  | inr e ↦ subst (IsTokenizing new) (sym e) (tag_more old new a text token said going t step)
]

-- A TAG WAS TAKEN

-- What a call did that decoded a tag, fed the tokenizer with it, and handed its token on, with what was said of the text after it.
pub record HandsTag (old new : Stages) (text : List ℕ) (token : Token) (said : Option TextMode) : Type 0 where
  pub decodes : (limit : ℕ) (bytes before : List ℕ) → Decodes limit false old.decoder bytes before → Decodes limit false new.decoder (bytes ++ text) (before ++ text)
  pub given : (run : Run) → Fed old.tokenizer run → Fed new.tokenizer (gave (fed run text) token said)
  pub may : (s : Setting) (ts : List TokenKind) → (new.builder.page.ledger.history.foreign ≡ true → MayBeForeign s (symbols ts) (fates_of new.builder))
      → MaySayAfter s ts (fates_of new.builder) token.kind (last_of (fates_of new.builder)) said
  pub takes : HandsIn (token.kind ∷ []) old.builder new.builder
  pub leads : LeadsTo (token.kind ∷ []) old.builder new.builder
  pub says : said ≡ said_in token.kind new.builder
  pub grows : AddsFates old.builder new.builder
  pub starts : new.kept.starts ≡ old.kept.starts ++ starts_of (token ∷ [])
  pub tokens : old.kept.keeps_tokens ≡ true → new.kept.tokens ≡ old.kept.tokens ++ token ∷ []
  pub keeps : new.kept.keeps_tokens ≡ old.kept.keeps_tokens
  pub running : tokenizer_stopped new.tokenizer ≡ false
  pub building : builder_stopped new.builder ≡ false
  pub parses : parses_foreign new.builder ≡ parses_foreign old.builder

pub tag_read : (start : Start) (bytes : List ℕ) (run : Run) (old new : Stages) (text : List ℕ) (token : Token) (said : Option TextMode)
    → HandsTag old new text token said → HaveFates start.setting (kinds run.given) (fates_of old.builder)
    → HaveFates start.setting (kinds run.given ++ token.kind ∷ []) (fates_of new.builder)
    → (new.builder.page.ledger.history.foreign ≡ true → MayBeForeign start.setting (symbols (kinds run.given ++ token.kind ∷ [])) (fates_of new.builder))
    → IsRun start false old bytes run → HasRead start new (bytes ++ text)
tag_read start bytes run old new text token said s h k known r =
    let are : kinds (run.given ++ token ∷ []) ≡ kinds run.given ++ token.kind ∷ [] = kinds-append run.given (token ∷ []) in
    let grown = s.grows start.setting start.limits (kinds run.given) r.handed in
    let both : HaveFates start.setting (kinds run.given ++ token.kind ∷ []) (fates_of old.builder ++ grown.0)
    = subst (HaveFates start.setting (kinds run.given ++ token.kind ∷ [])) grown.1 k in
    record {
      run = gave (fed run text) token said;
      is_run = record {
        begun = r.begun;
        ended = r.ended;
        decoded = s.decodes (most_input start) bytes run.text r.decoded;
        tokenized = s.given run r.tokenized;
        handed = subst (λ ks. Handed start.setting start.limits ks new.builder) (sym are) (s.takes start.setting start.limits (kinds run.given) r.handed);
        said = subst (λ ks. AreSaid start.setting ks (fates_of new.builder) (run.switches ++ said ∷ [])) (sym are)
            (subst (λ fs. AreSaid start.setting (kinds run.given ++ token.kind ∷ []) fs (run.switches ++ said ∷ [])) (sym grown.1)
            (says-one start.setting (kinds run.given) token.kind (fates_of old.builder) grown.0 run.switches said h both r.said
            (subst (λ fs. MaySayAfter start.setting (kinds run.given ++ token.kind ∷ []) fs token.kind (last_of fs) said) grown.1
            (s.may start.setting (kinds run.given ++ token.kind ∷ []) known))));
        has_said = subst (λ ks. HasSaid start.setting start.limits start.mode ks (run.switches ++ said ∷ []) new.builder) (sym are)
            (one-said start.setting start.limits start.mode (kinds run.given) run.switches token.kind said old.builder new.builder s.leads s.parses s.says r.handed (s.takes start.setting start.limits (kinds run.given) r.handed) grown r.has_said);
        foreign = s.parses ∙ r.foreign;
        starts = s.starts ∙ ap (λ x. x ++ starts_of (token ∷ [])) r.starts ∙ sym (starts-append run.given (token ∷ []));
        tokens = λ keeps.
            let kept = sym s.keeps ∙ keeps in
            s.tokens kept ∙ ap (λ x. x ++ token ∷ []) (r.tokens kept);
        running = s.running;
        building = s.building;
      };
    }

-- WHY A TAG WAS REFUSED

-- a tag that was fed, given and then refused
tag-at : (start : Start) (p : Stages) (bytes : List ℕ) (run : Run) (t : Tokenizer) (text : List ℕ) (token : Token) (at : ℕ) → IsRun start false p bytes run
    → HaveFates start.setting (kinds run.given) (fates_of p.builder) → Fed t (gave (fed run text) token None) → token.span.start ≡ at → IsTokenAt start false (run.text ++ text) at
tag-at start p bytes run t text token at r h f e = record {
  before = run.given;
  fates = fates_of p.builder;
  token = token;
  fated = h;
  said = run.switches;
  are_said = r.said;
  listed = λ more switches follow.
      let l = one_listed t (fed run text) token f more switches (subst (λ b. MayFollow b more) (sym r.ended) follow) in (
        l.0,
        ap (λ begun. tokens_of ((run.text ++ text) ++ more) (run.switches ++ None ∷ switches) begun) (sym r.begun) ∙ l.1,
      );
  place = e;
}

built_refused : (start : Start) (p : Stages) (bytes : List ℕ) (run : Run) (t : Tokenizer) (text : List ℕ) (token : Token) (z : State) (e : BuildError) → IsRun start false p bytes run
    → HaveFates start.setting (kinds run.given) (fates_of p.builder) → Fed t (gave (fed run text) token None) → IsForeignRefused p.builder e
    → IsBuildCause start.setting start.limits (kinds run.given) (fates_of p.builder) token.kind token.span.start e → IsTold start.limits token.kind z e
    → IsTokenCause start false (run.text ++ text) (build_cause e)
unfolding tag-at
built_refused start p bytes run t text token z build.OutOfMemory r h f q c told = tt
built_refused start p bytes run t text token z (build.ForeignContent name at) r h f q (e, starts, has) told =
    record { token = tag-at start p bytes run t text token at r h f (sym e); foreign = starts; refused = not-parsed start.foreign (sym r.foreign ∙ q) }
built_refused start p bytes run t text token z (build.NodeBudget at) r h f q (e, set) told =
    (record { token = tag-at start p bytes run t text token at r h f (sym e); state = z; passed = told }, set)
built_refused start p bytes run t text token z (build.HeldBudget at) r h f q (e, set) told =
    (record { token = tag-at start p bytes run t text token at r h f (sym e); state = z; passed = told }, set)
built_refused start p bytes run t text token z build.BadContext r h f q c told = absurd c
built_refused start p bytes run t text token z build.Stopped r h f q c told = absurd c

token_cause : (start : Start) (p : Stages) (bytes : List ℕ) (run : Run) (t : Tokenizer) (text : List ℕ) (token : Token) (z : State) (spent : Bool) (e : ParseError)
    → IsRun start false p bytes run → HaveFates start.setting (kinds run.given) (fates_of p.builder) → Fed t (gave (fed run text) token None)
    → (spent ≡ true → AreTooManySteps p.builder.page.tree.tree.limits (steps_taken p.tokenizer) p.builder.page.tree.steps)
    → IsRefusal spent token p.builder z e → IsTokenCause start false (run.text ++ text) e
unfolding tag-at
token_cause start p bytes run t text token z spent e r h f limited (inl (is, over)) =
    let l = limited over in
    let set : start.limits ≡ Some l.0 = sym r.handed.built.limits ∙ l.1 in
    subst (IsTokenCause start false (run.text ++ text)) (sym is) (
      inl (record {
        token = tag-at start p bytes run t text token token.span.start r h f refl;
        spent = record {
          tokenizer = p.tokenizer;
          run = run;
          fed = r.tokenized;
          begun = r.begun;
          rest = text;
          front = refl;
          given = refl;
          builder = p.builder;
          handed = r.handed;
          spent = (l.0, set, l.2);
        };
      }),
      (l.0, set),
    )
token_cause start p bytes run t text token z spent e r h f limited (inr (x, is, refused, cause, told)) =
    subst (IsTokenCause start false (run.text ++ text)) (sym is)
    (built_refused start p bytes run t text token z x r h f refused (cause start.setting start.limits (kinds run.given) r.handed)
    (told start.setting start.limits (kinds run.given) r.handed))

pub tag_refused : (start : Start) (p : Stages) (bytes : List ℕ) (run : Run) (decoder : Decoder) (t : Tokenizer) (text : List ℕ) (token : Token) (z : State) (spent : Bool) (e : ParseError)
    → IsRun start false p bytes run → Decodes (most_input start) false decoder (bytes ++ text) (run.text ++ text)
    → HaveFates start.setting (kinds run.given) (fates_of p.builder) → Fed t (gave (fed run text) token None)
    → (spent ≡ true → AreTooManySteps p.builder.page.tree.tree.limits (steps_taken p.tokenizer) p.builder.page.tree.steps)
    → IsRefusal spent token p.builder z e → IsFeedCause start (bytes ++ text) e
tag_refused start p bytes run decoder t text token z spent e r d h f limited why =
    feed_cause start (bytes ++ text) (run.text ++ text) e (is_front d) (token_cause start p bytes run t text token z spent e r h f limited why)

-- A TAG AT THE FRONT OF BYTES

pub tag_within : (text piece : List ℕ) → text ≡ take (length text) piece → length text ≤ length piece
tag_within text piece e =
    let a = ap length e in
    let b = length-take (length text) piece in
    omega (arith, a, b)

pub tag_front : (start : Start) (new : Stages) (bytes piece text : List ℕ) → text ≡ take (length text) piece → HasRead start new (bytes ++ text) → HasRead start new (bytes ++ take (length text) piece)
tag_front start new bytes piece text e r = subst (λ x. HasRead start new (bytes ++ x)) e r

pub tag_cause : (start : Start) (bytes piece text : List ℕ) (e : ParseError) → text ≡ take (length text) piece → IsFeedCause start (bytes ++ text) e → IsFeedCause start (bytes ++ piece) e
tag_cause start bytes piece text e is h = front_refused start bytes piece (length text) e (subst (λ x. IsFeedCause start (bytes ++ x) e) is h)
