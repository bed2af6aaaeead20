-- In which mode the text after each token of a text is read is decided by the text.
use Rattle.std.proofs.Common.{◌≡◌, ℕ, zero, suc, ◌+◌, ◌≤◌, Bool, List, [], ◌∷◌, length, take, Option, refl, sym, ◌∙◌, ap, subst, arith}
use Rattle.html_tokens.specs.declared.token.TextMode.{TextMode}
use Rattle.html_tokens.specs.declared.token.Token.{Token}
use Rattle.html_tokens.specs.declared.token.TokenKind.{TokenKind}
use Rattle.html_tokens.specs.Errors.{all_told}
use Rattle.html_tokens.specs.Stream.{Start as TextStart, errors_of, tokens_of}
use Rattle.html_tokens.specs.Tokens.{mode_after_kind}
use Rattle.html_arena.specs.declared.arena.Limits.{Limits}
use Rattle.html_arena.specs.Tree.{Tree as Nodes}
use Rattle.html_ledger.specs.declared.fate.Fate.{Fate}
use Rattle.html_ledger.specs.declared.setting.Setting.{Setting}
use Rattle.html_ledger.specs.Symbols.{symbol_of}
use Rattle.html_construction.specs.States.{State}
use Rattle.html_modes.specs.Dispatching.{Constructs, begun}
use Rattle.html_builder.specs.Built.{IsBuiltByRules}
use Rattle.html_builder.specs.Saying.{Reads, Says, said_after_in}
use Rattle.html_parser.specs.Kinds.{kinds}
use Rattle.html_laws.specs.Likeness.{core}
use Rattle.html_laws.specs.Outcomes.{BeginAlike, IsOnce, IsOneOutcome}
use Rattle.html_laws.proofs.Beginnings.{first-once, first-one, pages-one, quirks-one}
use Rattle.html_laws.proofs.Entering.{entries-once, entries-one}
use Rattle.html_laws.proofs.Streams.{Agrees, Said, errors-one, tokens-one}

-- LISTS BY THEIR FRONTS

take-all : {X : Type 0} → (xs : List X) (n : ℕ) → length xs ≤ n → take n xs ≡ xs
take-all [] zero l = refl
take-all [] (suc n) l = refl
take-all (x ∷ xs) zero l = absurd (omega (arith, l))
take-all (x ∷ xs) (suc n) l = ap (λ v. x ∷ v) (take-all xs n (omega (arith, l)))

none-some : {X : Type 0} → (x : X) (xs : List X) → x ∷ xs ≡ [] → ⊥
none-some x xs e = absurd (let k = e in cc)

head-one : {X : Type 0} → (x y : X) (xs ys : List X) → x ∷ xs ≡ y ∷ ys → x ≡ y
head-one x y xs ys e = cc

tail-one : {X : Type 0} → (x y : X) (xs ys : List X) → x ∷ xs ≡ y ∷ ys → xs ≡ ys
tail-one x y xs ys e = cc

-- TWO RUNS

-- After a token the text is read in one mode, where the states after it are alike.
says-one : (mode : TextMode) (t : TokenKind) (a b : State) (m n : Option TextMode) → core a ≡ core b → Says mode t a m → Says mode t b n → mode_after_kind t m mode ≡ mode_after_kind t n mode
says-one mode t a b m n e h k = h ∙ ap (λ (v : State). mode_after_kind t (said_after_in t v) mode) e ∙ sym k

-- So after each token, as far as the tokens are the same.
reads-agree : (n : ℕ) (ts us : List Token) (mode : TextMode) (s u : Said) (a z a' z' : State) → take n ts ≡ take n us → IsOnce a.tree → core (begun a) ≡ core (begun a')
    → Reads mode (kinds ts) s a z → Reads mode (kinds us) u a' z' → Agrees n mode ts s u
reads-agree zero ts us mode s u a z a' z' e o l h k = tt
reads-agree (suc n) [] us mode s u a z a' z' e o l h k = tt
reads-agree (suc n) (t ∷ ts) [] mode s u a z a' z' e o l h k = absurd (none-some t (take n ts) e)
reads-agree (suc n) (t ∷ ts) (x ∷ us) mode [] u a z a' z' e o l h k = absurd h
reads-agree (suc n) (t ∷ ts) (x ∷ us) mode (p ∷ s) [] a z a' z' e o l h k = absurd k
reads-agree (suc n) (t ∷ ts) (x ∷ us) mode (p ∷ s) (q ∷ u) a z a' z' e o l h k =
    let i : Reads mode (kinds (t ∷ us)) (q ∷ u) a' z' = subst (λ v. Reads mode (kinds (v ∷ us)) (q ∷ u) a' z') (sym (head-one t x (take n ts) (take n us) e)) k in
    let f = entries-one (symbol_of t.kind) t.kind (begun a) h.0 h.1 o (begun a') i.0 l i.1 in
    let g = says-one mode t.kind h.0 i.0 p q f h.2 i.2 in (
      g,
      reads-agree n ts us (mode_after_kind t.kind p mode) s u h.0 z i.0 z' (tail-one t x (take n ts) (take n us) e)
          (entries-once (symbol_of t.kind) t.kind (begun a) h.0 h.1 o) (ap (λ v. core (begun v)) f) h.3 (subst (λ v. Reads v (kinds us) u i.0 z') (sym g) i.3),
    )

-- the outcome, where all are the same
outcomes-one : (s : Setting) (limits : Option Limits) (foreign : Bool) (ts us : List TokenKind) (fs gs : List Fate) (t u : Nodes)
    → (b : IsBuiltByRules s limits foreign ts fs t) → (c : IsBuiltByRules s limits foreign us gs u) → BeginAlike s b.first c.first → ts ≡ us → IsOneOutcome fs gs t u
outcomes-one s limits foreign ts us fs gs t u b c q e =
    pages-one s limits foreign us fs gs t u
    (record { first = b.first; begins = b.begins; foreign_is = b.foreign_is; last = b.last; constructs = subst (λ v. Constructs v b.first b.last) e b.constructs; tree_is = b.tree_is; fates_are = b.fates_are }) c q

-- The tokens of a text, their fates and nodes, and the errors of the tokenizer, where the text after each token is read as the state after it asks for.
pub texts-one : (s : Setting) (limits : Option Limits) (foreign : Bool) (text : List ℕ) (start : TextStart) (ts us : List Token) (said said' : Said) (fs gs : List Fate) (t u : Nodes)
    → ts ≡ tokens_of text said start → us ≡ tokens_of text said' start → (b : IsBuiltByRules s limits foreign (kinds ts) fs t) → (c : IsBuiltByRules s limits foreign (kinds us) gs u)
    → Reads start.mode (kinds ts) said b.first b.last → Reads start.mode (kinds us) said' c.first c.last → BeginAlike s b.first c.first → (ts ≡ us) × IsOneOutcome fs gs t u × (errors_of text said start ≡ errors_of text said' start)
texts-one s limits foreign text start ts us said said' fs gs t u e f b c h k q =
    let n = length ts + length us in
    let whole : ts ≡ us = sym (take-all ts n (omega arith)) ∙ fronts n ∙ take-all us n (omega arith) in
    let g = reads-agree (length ts) ts us start.mode said said' b.first b.last c.first c.last (ap (take (length ts)) whole) (first-once s limits b.first b.begins) alike h k in (
      whole,
      outcomes-one s limits foreign (kinds ts) (kinds us) fs gs t u b c q (ap kinds whole),
      ap (all_told [])
          (errors-one start.rows 0 start.mode start.name 0 text said said' (length ts) (let e' = ap length e in omega (arith, e')) (subst (λ v. Agrees (length ts) start.mode v said said') e g)),
    )
  where
    alike : core (begun b.first) ≡ core (begun c.first)
    alike = first-one s limits b.first c.first b.begins c.begins (quirks-one s limits b.first c.first b.begins c.begins q) (b.foreign_is ∙ sym c.foreign_is)

    step : (i : ℕ) → take i ts ≡ take i us → take (suc i) ts ≡ take (suc i) us
    step i l =
        let g = reads-agree i ts us start.mode said said' b.first b.last c.first c.last l (first-once s limits b.first b.begins) alike h k in
        ap (take (suc i)) e
        ∙ tokens-one start.rows 0 start.mode start.name 0 text said said' i (subst (λ v. Agrees i start.mode v said said') e g)
        ∙ sym (ap (take (suc i)) f)

    fronts : (i : ℕ) → take i ts ≡ take i us
    fronts zero = refl
    fronts (suc i) = step i (fronts i)
