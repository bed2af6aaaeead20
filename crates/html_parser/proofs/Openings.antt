-- What the run of a tokenizer says of it.
use Rattle.std.proofs.Common.{ℕ, ◌+◌, ◌<◌, ◌≤◌, ◌≡◌, ◌∙◌, false, inl, inr, arith, List, [], ◌∷◌, ◌++◌, length, Option, None, refl, sym, ap, ap₂, subst, append_assoc}
use Rattle.std.proofs.lemmas.Bool.{cases_lt}
use Rattle.std.proofs.lemmas.List.{append-nil}
use Rattle.html_tokens.specs.Cost.{AreCosted}
use Rattle.html_tokens.specs.Given.{Fed, fed_len, is_finished, is_stopped}
use Rattle.html_tokens.specs.Fed.{to_come}
use Rattle.html_tokens.specs.Input.{MayFollow}
use Rattle.html_tokens.specs.Stream.{IsAt, Run, gave, tokens_of}
use Rattle.html_tokens.specs.declared.token.TextMode.{TextMode}
use Rattle.html_tokens.specs.declared.token.Token.{Token}
use Rattle.html_tokens.specs.declared.tokenizer.Tokenizer.{Tokenizer}
use Rattle.html_parser.specs.Tokenizing.{IsTokenizing}
use Rattle.html_tokens.proofs.CostLemmas.{front_costed, tokens_costed}

-- the machine is where the run leaves it
pub opened : (t : Tokenizer) (run : Run) → Fed t run → IsAt t.machine run
unfolding Fed
opened t run f = f.0

pub fed_len_is : (t : Tokenizer) (run : Run) → Fed t run → fed_len t ≡ length run.text
unfolding Fed fed_len
fed_len_is t run f = f.0.count

pub finished_is : (t : Tokenizer) (run : Run) → Fed t run → is_finished t ≡ run.finished
unfolding Fed is_finished
finished_is t run f = f.0.finished

-- the tokens of the text are those given and those to come
pub all_tokens : (t : Tokenizer) (run : Run) → Fed t run → tokens_of run.text run.switches run.start ≡ run.given ++ to_come t.machine [] []
all_tokens t run f =
    let i = opened t run f in
    ap₂ (λ text said. tokens_of text said run.start) (sym (append-nil run.text)) (sym (append-nil run.switches)) ∙ i.tokens [] [] (λ _. refl)

-- what the tokens given cost
pub given_costed : (t : Tokenizer) (run : Run) → Fed t run → AreCosted (length run.text) run.given
given_costed t run f =
    front_costed (length run.text) run.given (to_come t.machine [] [])
    (subst (AreCosted (length run.text)) (all_tokens t run f) (tokens_costed run.text run.switches run.start (opened t run f).rule))

-- a token that was given is listed, however the text goes on
pub one_listed : (t : Tokenizer) (run : Run) (token : Token) → Fed t (gave run token None) → (more : List ℕ) (switches : List (Option TextMode)) → MayFollow run.finished more
    → (later : List Token) × (tokens_of (run.text ++ more) (run.switches ++ None ∷ switches) run.start ≡ run.given ++ token ∷ later)
one_listed t run token f more switches follow =
    let i = opened t (gave run token None) f in
    let later = to_come t.machine more switches in (
      later,
      ap (λ said. tokens_of (run.text ++ more) said run.start) (sym (append_assoc run.switches (None ∷ []) switches))
          ∙ i.tokens more switches follow ∙ append_assoc run.given (token ∷ []) later,
    )

-- No more tokens were taken than the text can have.
pub taken_few : (t : Tokenizer) (starts : List ℕ) → is_stopped t ≡ false → IsTokenizing t starts → length starts ≤ fed_len t + 1
taken_few t starts going h = elim (cases_lt (fed_len t + 1) (length starts)) [
  | inl over ↦ absurd (h going (λ run f few.
      let cost : length run.given ≤ length run.text + 1 = (given_costed t run f).count in
      let fed : fed_len t ≡ length run.text = fed_len_is t run f in
      let more : fed_len t + 1 < length starts = over in
      let least : length starts ≤ length run.given = few in
      omega arith))
  | inr within ↦ within
]
