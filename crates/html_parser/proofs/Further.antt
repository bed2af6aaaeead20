-- The stages after some more tokens.
use Rattle.std.proofs.Common.{ℕ, ◌≡◌, ◌∙◌, Bool, true, false, List, [], ◌∷◌, ◌++◌, Option, refl, sym, ap, subst}
use Rattle.html_input.specs.Fed.{Fed as Decodes}
use Rattle.html_tokens.specs.Given.{Fed, is_stopped as tokenizer_stopped}
use Rattle.html_tokens.specs.Runs.{gave_all}
use Rattle.html_tokens.specs.Stream.{Run, gave}
use Rattle.html_tokens.specs.declared.token.Token.{Token}
use Rattle.html_ledger.specs.Runs.{last_of}
use Rattle.html_builder.specs.Saying.{HasSaid, StaysHtml, said_in}
use Rattle.html_builder.proofs.SayingOn.{one-said, text-said}
use Rattle.html_builder.specs.Handed.{AddsFates, Handed, HandsIn, HaveFates, LeadsTo, fates_of, is_stopped as builder_stopped, parses_foreign}
use Rattle.html_construction.specs.Built.{chars_of, symbols}
use Rattle.html_ledger.specs.MayDrop.{MayBeForeign}
use Rattle.html_ledger.specs.declared.setting.Setting.{Setting}
use Rattle.html_tokens.specs.declared.token.TextMode.{TextMode}
use Rattle.html_tokens.specs.declared.token.TokenKind.{TokenKind}
use Rattle.html_parser.specs.Said.{AreSaid, MaySayAfter}
use Rattle.html_parser.specs.Kinds.{kinds, starts_of}
use Rattle.html_parser.specs.Causes.{IsTokenCause}
use Rattle.html_parser.specs.Gathered.{HasRest}
use Rattle.html_parser.specs.Staged.{IsFurther, IsHandedOn, IsRun}
use Rattle.html_parser.specs.declared.error.ParseError.{ParseError}
use Rattle.html_parser.specs.Start.{Start, most_input}
use Rattle.html_parser.specs.declared.stages.Stages.{Stages}
use Rattle.html_parser.proofs.Ends.{kinds-append}
use Rattle.html_parser.proofs.Switching.{says-one, says-text}
use Rattle.html_parser.proofs.Taken.{starts-append}
use Rattle.html_parser.proofs.Tokenizing.{given-all}
use Rattle.html_parser.proofs.Unsaid.{chars-switches, gave-finished, gave-start, gave-text}

-- The stages, but for where the tokenizer is.
pub rest_of : (start : Start) (finished : Bool) (p : Stages) (bytes : List ℕ) (run : Run) → IsRun start finished p bytes run → HasRest start finished p bytes run
rest_of start finished p bytes run r = record {
  begun = r.begun;
  ended = r.ended;
  decoded = r.decoded;
  handed = r.handed;
  said = r.said;
  has_said = r.has_said;
  foreign = r.foreign;
  starts = r.starts;
  tokens = r.tokens;
  building = r.building;
}

pub run_of : (start : Start) (finished : Bool) (p : Stages) (bytes : List ℕ) (run : Run) → HasRest start finished p bytes run → Fed p.tokenizer run → tokenizer_stopped p.tokenizer ≡ false
    → IsRun start finished p bytes run
run_of start finished p bytes run r f running = record {
  begun = r.begun;
  ended = r.ended;
  decoded = r.decoded;
  tokenized = f;
  handed = r.handed;
  said = r.said;
  has_said = r.has_said;
  foreign = r.foreign;
  starts = r.starts;
  tokens = r.tokens;
  running = running;
  building = r.building;
}

-- What a call did that handed on code points, of these tokens.
pub record HandsText (old new : Stages) (tokens : List Token) (text : List ℕ) : Type 0 where
  pub are : kinds tokens ≡ chars_of text
  pub decoder : new.decoder ≡ old.decoder
  pub takes : HandsIn (chars_of text) old.builder new.builder
  pub leads : LeadsTo (chars_of text) old.builder new.builder
  pub html : StaysHtml old.builder
  pub grows : AddsFates old.builder new.builder
  pub starts : new.kept.starts ≡ old.kept.starts ++ starts_of tokens
  pub tokens_are : old.kept.keeps_tokens ≡ true → new.kept.tokens ≡ old.kept.tokens ++ tokens
  pub keeps : new.kept.keeps_tokens ≡ old.kept.keeps_tokens
  pub building : builder_stopped new.builder ≡ builder_stopped old.builder
  pub parses : parses_foreign new.builder ≡ parses_foreign old.builder

pub text_rest : (start : Start) (finished : Bool) (bytes : List ℕ) (run : Run) (old new : Stages) (tokens : List Token) (text : List ℕ)
    → HandsText old new tokens text → HaveFates start.setting (kinds run.given) (fates_of old.builder) → HasRest start finished old bytes run
    → HasRest start finished new bytes (gave_all run tokens)
text_rest start finished bytes run old new tokens text s h r =
    let after = gave_all run tokens in
    let given : after.given ≡ run.given ++ tokens = given-all run tokens in
    let are : kinds after.given ≡ kinds run.given ++ chars_of text
    = ap kinds given ∙ kinds-append run.given tokens ∙ ap (λ ks. kinds run.given ++ ks) s.are in
    let grown = s.grows start.setting start.limits (kinds run.given) r.handed in
    record {
      begun = gave-start run tokens ∙ r.begun;
      ended = gave-finished run tokens ∙ r.ended;
      decoded = subst (λ x. Decodes (most_input start) finished new.decoder bytes x) (sym (gave-text run tokens))
          (subst (λ d. Decodes (most_input start) finished d bytes run.text) (sym s.decoder) r.decoded);
      handed = subst (λ ks. Handed start.setting start.limits ks new.builder) (sym are) (s.takes start.setting start.limits (kinds run.given) r.handed);
      said = subst (λ ks. AreSaid start.setting ks (fates_of new.builder) after.switches) (sym are)
          (subst (λ fs. AreSaid start.setting (kinds run.given ++ chars_of text) fs after.switches) (sym grown.1)
          (subst (AreSaid start.setting (kinds run.given ++ chars_of text) (fates_of old.builder ++ grown.0)) (sym (chars-switches run tokens text s.are))
          (says-text start.setting (kinds run.given) text (fates_of old.builder) grown.0 run.switches h r.said)));
      has_said = subst (λ ks. HasSaid start.setting start.limits start.mode ks after.switches new.builder) (sym are)
          (subst (λ ms. HasSaid start.setting start.limits start.mode (kinds run.given ++ chars_of text) ms new.builder) (sym (chars-switches run tokens text s.are))
          (text-said start.setting start.limits start.mode (kinds run.given) run.switches text old.builder new.builder s.leads s.parses s.html r.has_said));
      foreign = s.parses ∙ r.foreign;
      starts = s.starts ∙ ap (λ x. x ++ starts_of tokens) r.starts ∙ sym (ap starts_of given ∙ starts-append run.given tokens);
      tokens = λ keeps.
          let kept = sym s.keeps ∙ keeps in
          s.tokens_are kept ∙ ap (λ x. x ++ tokens) (r.tokens kept) ∙ sym given;
      building = s.building ∙ r.building;
    }

pub text_further : (start : Start) (finished : Bool) (bytes : List ℕ) (run : Run) (old new : Stages) (tokens : List Token) (text : List ℕ)
    → HandsText old new tokens text → HaveFates start.setting (kinds run.given) (fates_of old.builder) → IsRun start finished old bytes run
    → Fed new.tokenizer (gave_all run tokens) → tokenizer_stopped new.tokenizer ≡ false → IsFurther start finished new bytes run.text
text_further start finished bytes run old new tokens text s h r f running = record {
  run = gave_all run tokens;
  is_run = run_of start finished new bytes (gave_all run tokens) (text_rest start finished bytes run old new tokens text s h (rest_of start finished old bytes run r)) f running;
  text_is = gave-text run tokens;
}

-- What a call did that handed on one token, of which this is said.
pub record HandsOne (old new : Stages) (token : Token) (said : Option TextMode) : Type 0 where
  pub decoder : new.decoder ≡ old.decoder
  pub may : (s : Setting) (ts : List TokenKind) → (new.builder.page.ledger.history.foreign ≡ true → MayBeForeign s (symbols ts) (fates_of new.builder))
      → MaySayAfter s ts (fates_of new.builder) token.kind (last_of (fates_of new.builder)) said
  pub takes : HandsIn (token.kind ∷ []) old.builder new.builder
  pub leads : LeadsTo (token.kind ∷ []) old.builder new.builder
  pub says : said ≡ said_in token.kind new.builder
  pub grows : AddsFates old.builder new.builder
  pub starts : new.kept.starts ≡ old.kept.starts ++ starts_of (token ∷ [])
  pub tokens : old.kept.keeps_tokens ≡ true → new.kept.tokens ≡ old.kept.tokens ++ token ∷ []
  pub keeps : new.kept.keeps_tokens ≡ old.kept.keeps_tokens
  pub running : tokenizer_stopped new.tokenizer ≡ false
  pub building : builder_stopped new.builder ≡ false
  pub parses : parses_foreign new.builder ≡ parses_foreign old.builder

pub one_further : (start : Start) (finished : Bool) (bytes : List ℕ) (run : Run) (old new : Stages) (token : Token) (said : Option TextMode)
    → HandsOne old new token said → HaveFates start.setting (kinds run.given) (fates_of old.builder)
    → HaveFates start.setting (kinds run.given ++ token.kind ∷ []) (fates_of new.builder)
    → (new.builder.page.ledger.history.foreign ≡ true → MayBeForeign start.setting (symbols (kinds run.given ++ token.kind ∷ [])) (fates_of new.builder))
    → HasRest start finished old bytes run → Fed new.tokenizer (gave run token said) → IsFurther start finished new bytes run.text
one_further start finished bytes run old new token said s h k known r f =
    let are : kinds (run.given ++ token ∷ []) ≡ kinds run.given ++ token.kind ∷ [] = kinds-append run.given (token ∷ []) in
    let grown = s.grows start.setting start.limits (kinds run.given) r.handed in
    let both : HaveFates start.setting (kinds run.given ++ token.kind ∷ []) (fates_of old.builder ++ grown.0)
    = subst (HaveFates start.setting (kinds run.given ++ token.kind ∷ [])) grown.1 k in
    record {
      run = gave run token said;
      is_run = record {
        begun = r.begun;
        ended = r.ended;
        decoded = subst (λ d. Decodes (most_input start) finished d bytes run.text) (sym s.decoder) r.decoded;
        tokenized = f;
        handed = subst (λ ks. Handed start.setting start.limits ks new.builder) (sym are) (s.takes start.setting start.limits (kinds run.given) r.handed);
        said = subst (λ ks. AreSaid start.setting ks (fates_of new.builder) (run.switches ++ said ∷ [])) (sym are)
            (subst (λ fs. AreSaid start.setting (kinds run.given ++ token.kind ∷ []) fs (run.switches ++ said ∷ [])) (sym grown.1)
            (says-one start.setting (kinds run.given) token.kind (fates_of old.builder) grown.0 run.switches said h both r.said
            (subst (λ fs. MaySayAfter start.setting (kinds run.given ++ token.kind ∷ []) fs token.kind (last_of fs) said) grown.1
            (s.may start.setting (kinds run.given ++ token.kind ∷ []) known))));
        has_said = subst (λ ks. HasSaid start.setting start.limits start.mode ks (run.switches ++ said ∷ []) new.builder) (sym are)
            (one-said start.setting start.limits start.mode (kinds run.given) run.switches token.kind said old.builder new.builder s.leads s.parses s.says r.handed (s.takes start.setting start.limits (kinds run.given) r.handed) grown r.has_said);
        foreign = s.parses ∙ r.foreign;
        starts = s.starts ∙ ap (λ x. x ++ starts_of (token ∷ [])) r.starts ∙ sym (starts-append run.given (token ∷ []));
        tokens = λ keeps.
            let kept = sym s.keeps ∙ keeps in
            s.tokens kept ∙ ap (λ x. x ++ token ∷ []) (r.tokens kept);
        running = s.running;
        building = s.building;
      };
      text_is = refl;
    }

-- further and further
pub further_on : (start : Start) (finished : Bool) (mid new : Stages) (bytes text : List ℕ) → IsFurther start finished mid bytes text
    → ((run : Run) → IsRun start finished mid bytes run → IsFurther start finished new bytes run.text) → IsFurther start finished new bytes text
further_on start finished mid new bytes text f step = subst (IsFurther start finished new bytes) f.text_is (step f.run f.is_run)

pub handed_on : (start : Start) (finished : Bool) (mid new : Stages) (bytes text : List ℕ) → IsFurther start finished mid bytes text
    → ((run : Run) → IsRun start finished mid bytes run → IsHandedOn start finished new bytes run.text) → IsHandedOn start finished new bytes text
handed_on start finished mid new bytes text f step = subst (IsHandedOn start finished new bytes) f.text_is (step f.run f.is_run)

pub cause_of : (start : Start) (finished : Bool) (mid : Stages) (bytes text : List ℕ) (e : ParseError) → IsFurther start finished mid bytes text
    → ((run : Run) → IsRun start finished mid bytes run → IsTokenCause start finished run.text e) → IsTokenCause start finished text e
cause_of start finished mid bytes text e f step = subst (λ t. IsTokenCause start finished t e) f.text_is (step f.run f.is_run)

pub no_further : (start : Start) (finished : Bool) (p : Stages) (bytes : List ℕ) (run : Run) → IsRun start finished p bytes run → IsFurther start finished p bytes run.text
no_further start finished p bytes run r = record { run = run; is_run = r; text_is = refl }
