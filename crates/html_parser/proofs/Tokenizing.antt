-- What is always true of the stages, after each call of the tokenizer.
use Rattle.std.proofs.Common.{ℕ, suc, inl, inr, ◌⊎◌, ◌+◌, ◌≤◌, ◌≡◌, ◌∙◌, ◌++◌, Bool, true, false, List, [], ◌∷◌, length, length-append, append_assoc, Result, Ok, Err, None, Option, refl, sym, ap, arith, subst}
use Rattle.std.specs.Prelude.{◌↔◌}
use Rattle.std.proofs.lemmas.List.{append-nil}
use Rattle.html_tokens.specs.Given.{Fed, is_stopped}
use Rattle.html_tokens.specs.Runs.{gave_all}
use Rattle.html_tokens.specs.Stream.{Run, gave}
use Rattle.html_tokens.specs.declared.token.TextMode.{TextMode}
use Rattle.html_tokens.specs.declared.token.Token.{Token}
use Rattle.html_tokens.specs.declared.tokenizer.TokenError.{TokenError}
use Rattle.html_tokens.specs.declared.tokenizer.TokenError.TheVariants.{Stopped}
use Rattle.html_tokens.specs.declared.tokenizer.Tokenizer.{Tokenizer}
use Rattle.html_parser.specs.Kinds.{starts_of}
use Rattle.html_parser.specs.Tokenizing.{IsTokenizing}

-- what answers Ok was not stopped
pub not_stopped : {T : Type 0} (r : Result T TokenError) (x : T) (b : Bool) → r ≡ Ok x → (r ≡ Err Stopped) ↔ (b ≡ true) → b ≡ false
not_stopped r x false was stopped = refl
not_stopped r x true was stopped = let e : Ok x ≡ Err Stopped = sym was ∙ stopped.1 refl in cc

at_most : (new : Tokenizer) (a b : List ℕ) (run : Run) → length a ≤ length run.given
    → (later : Run) × Fed new later × (length b + length run.given ≤ length a + length later.given)
    → ((later : Run) → Fed new later → length b ≤ length later.given → ⊥) → ⊥
at_most new a b run few (later, fed, more) none = none later fed (omega (arith, few, more))

-- a run with as many tokens more as were taken
pub moved : (old new : Tokenizer) (a b : List ℕ) → is_stopped old ≡ false → IsTokenizing old a
    → ((run : Run) → Fed old run → (later : Run) × Fed new later × (length b + length run.given ≤ length a + length later.given)) → IsTokenizing new b
moved old new a b going t step = λ _ none. t going (λ run fed few. at_most new a b run few (step run fed) none)

-- where no token was given
pub same_run : (old new : Tokenizer) (a : List ℕ) → is_stopped old ≡ false → IsTokenizing old a → ((run : Run) → Fed old run → Fed new run) → IsTokenizing new a
same_run old new a going t step = moved old new a a going t (λ run fed. (run, step run fed, omega arith))

one_each : (a : List ℕ) (given : List Token) (x : ℕ) (y : Token) → length (a ++ x ∷ []) + length given ≤ length a + length (given ++ y ∷ [])
one_each a given x y =
    let p : length (a ++ x ∷ []) ≡ length a + 1 = length-append a (x ∷ []) in
    let q : length (given ++ y ∷ []) ≡ length given + 1 = length-append given (y ∷ []) in
    omega arith

-- one token
pub one_more : (old new : Tokenizer) (a : List ℕ) (token : Token) (switch : Option TextMode) → is_stopped old ≡ false → IsTokenizing old a
    → ((run : Run) → Fed old run → Fed new (gave run token switch)) → IsTokenizing new (a ++ starts_of (token ∷ []))
one_more old new a token switch going t step =
    moved old new a (a ++ starts_of (token ∷ [])) going t
    (λ run fed. (gave run token switch, step run fed, one_each a run.given token.span.start token))

shorter : (a more : List ℕ) (run : Run) → length (a ++ more) ≤ length run.given → length a ≤ length run.given
shorter a more run few =
    let p : length (a ++ more) ≡ length a + length more = length-append a more in
    omega (arith, few)

-- fewer were taken
pub fewer : (t : Tokenizer) (a more : List ℕ) → IsTokenizing t (a ++ more) → IsTokenizing t a
fewer t a more h = λ going none. h going (λ run fed few. none run fed (shorter a more run few))

-- plain text
pub given-all : (run : Run) (tokens : List Token) → (gave_all run tokens).given ≡ run.given ++ tokens
given-all run [] = sym (append-nil run.given)
given-all run (t ∷ ts) = given-all (gave run t None) ts ∙ append_assoc run.given (t ∷ []) ts

pub starts-length : (tokens : List Token) → length (starts_of tokens) ≡ length tokens
starts-length [] = refl
starts-length (t ∷ ts) = ap suc (starts-length ts)

run_each : (a : List ℕ) (run : Run) (tokens : List Token)
    → length (a ++ starts_of tokens) + length run.given ≤ length a + length (gave_all run tokens).given
run_each a run tokens =
    let p : length (a ++ starts_of tokens) ≡ length a + length (starts_of tokens) = length-append a (starts_of tokens) in
    let q : length (starts_of tokens) ≡ length tokens = starts-length tokens in
    let r : length (gave_all run tokens).given ≡ length run.given + length tokens
    = ap length (given-all run tokens) ∙ length-append run.given tokens in
    omega arith

pub run_more : (old new : Tokenizer) (a : List ℕ) (tokens : List Token) → is_stopped old ≡ false → IsTokenizing old a
    → ((run : Run) → Fed old run → Fed new (gave_all run tokens)) → IsTokenizing new (a ++ starts_of tokens)
run_more old new a tokens going t step =
    moved old new a (a ++ starts_of tokens) going t (λ run fed. (gave_all run tokens, step run fed, run_each a run tokens))

-- plain text that was given, of which all was taken or nothing
pub run_either : (old new : Tokenizer) (a b : List ℕ) (tokens : List Token) → is_stopped old ≡ false → IsTokenizing old a
    → ((run : Run) → Fed old run → Fed new (gave_all run tokens)) → (b ≡ a) ⊎ (b ≡ a ++ starts_of tokens) → IsTokenizing new b
run_either old new a b tokens going t step either = elim either [
  | inl e ↦ subst (IsTokenizing new) (sym e) (fewer new a (starts_of tokens) (run_more old new a tokens going t step))
  | inr e ↦ subst (IsTokenizing new) (sym e) (run_more old new a tokens going t step)
]

-- the same of one token
pub one_either : (old new : Tokenizer) (a b : List ℕ) (token : Token) (switch : Option TextMode) → is_stopped old ≡ false → IsTokenizing old a
    → ((run : Run) → Fed old run → Fed new (gave run token switch)) → (b ≡ a) ⊎ (b ≡ a ++ starts_of (token ∷ [])) → IsTokenizing new b
one_either old new a b token switch going t step either = elim either [
  | inl e ↦ subst (IsTokenizing new) (sym e) (fewer new a (starts_of (token ∷ [])) (one_more old new a token switch going t step))
  | inr e ↦ subst (IsTokenizing new) (sym e) (one_more old new a token switch going t step)
]
