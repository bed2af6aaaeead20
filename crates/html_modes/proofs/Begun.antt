-- What a call does of the insertion mode in which it begins.
use Rattle.std.proofs.Common.{ℕ, ◌≡◌, true, false, List, [], ◌∷◌, Result, IfErr, refl, sym, ap, subst, ◌∙◌}
use Rattle.std.proofs.lemmas.Bool.{false≢true}
use Rattle.std.proofs.lemmas.Result.{err_from_is_err_and}
use Rattle.std.specs.Prelude.{IsErrAnd}
use Rattle.html_tokens.specs.declared.token.TokenKind.{TokenKind}
use Rattle.html_ledger.specs.declared.symbol.Symbol.{Symbol}
use Rattle.html_ledger.specs.Flags.{may_select}
use Rattle.html_construction.specs.declared.mode.Mode.{Mode}
use Rattle.html_construction.specs.declared.mode.Mode.TheVariants as mode
use Rattle.html_construction.specs.Begun.{IsFounded, IsUnder}
use Rattle.html_construction.specs.Budgets.{Refuses, RefusesAny}
use Rattle.html_arena.specs.declared.arena.ArenaError.{ArenaError}
use Rattle.html_construction.specs.Built.{Accepts, AcceptsRun, Begins, Handed, IsBuilt, Keeps, chars_of, in_call, with_tokens}
use Rattle.html_construction.specs.Modes.{is_of_column_groups, is_of_frames, is_of_selects}
use Rattle.html_construction.specs.States.{State}
use Rattle.html_modes.specs.Begun.{GivesIn, StaysOut, begins_foreign}
use Rattle.html_modes.specs.Guards.{takes_runs}
use Rattle.html_modes.specs.Steps.{Steps, root_of}
use Rattle.html_modes.specs.declared.outcome.Foreign.{Foreign as Root}
use Rattle.html_modes.specs.declared.outcome.Foreign.TheVariants as root
use Rattle.html_modes.specs.declared.outcome.Outcome.{Outcome}
use Rattle.html_modes.specs.declared.outcome.Outcome.TheVariants.{Done, Reprocess, Foreign}

-- WHAT A CALL GIVES

under : (h : Handed) (a : State) (ts : List TokenKind) (b : State) → IsBuilt (with_tokens (in_call h a) ts) b → IsUnder (record { mode = a.mode; before = a.ledger.fates }) b
unfolding with_tokens
under h a ts b w = w.call

pub accepts-gives : (t : TokenKind) (a b : State) → Accepts t a b → GivesIn a b
accepts-gives t a b f = λ h w. let c = under h a (t ∷ []) b (f h w) in record { later = c.later; fates_are = c.fates_are; given = c.given }

pub run-gives : (cs : List ℕ) (a b : State) → AcceptsRun cs a b → GivesIn a b
run-gives cs a b f = λ h w. let c = under h a (chars_of cs) b (f h w) in record { later = c.later; fates_are = c.fates_are; given = c.given }

-- a call that is done with
pub accepts-done : (t : TokenKind) (o : Outcome) (a i m n b d : State) → o ≡ Done → Begins a i → Keeps i m → Keeps m n → Steps o t n b → Keeps b d → Accepts t a d
accepts-done t o a i m n b d q f k l s z = λ h w. z (with_tokens (in_call h a) (t ∷ [])) ((subst (λ x. Steps x t n b) q s) (in_call h a) (l (in_call h a) (k (in_call h a) (f h w))))

-- what a call is refused for, as told by its `?`
pub begun-refuses : {A : Type 0} (r : Result A ArenaError) (t : TokenKind) (a i z : State) (e : ArenaError) → IsErrAnd r (λ f. f ≡ e) → Begins a i → Refuses t e i z → IfErr r (λ f. Refuses t f a z)
begun-refuses r t a i z e q b k = let p = err_from_is_err_and r q in rw p.1 (subst (λ f. Refuses t f a z) (sym p.2) (λ h w. k (in_call h a) (b h w)))

pub begun-refuses-any : {A : Type 0} (r : Result A ArenaError) (a i z : State) (e : ArenaError) → IsErrAnd r (λ f. f ≡ e) → Begins a i → RefusesAny e i z → IfErr r (λ f. RefusesAny f a z)
begun-refuses-any r a i z e q b k = let p = err_from_is_err_and r q in rw p.1 (subst (λ f. RefusesAny f a z) (sym p.2) (λ h w. k (in_call h a) (b h w)))

-- MODES

-- to other modes nothing has to lead
pub founded-other : (a : State) → is_of_selects a.mode ≡ false → is_of_frames a.mode ≡ false → IsFounded a
founded-other a e f = record { select = λ m. absurd (false≢true (sym e ∙ m)); frameset = λ m. absurd (false≢true (sym f ∙ m)) }

select-frames : (m : Mode) → is_of_selects m ≡ true → is_of_frames m ≡ false
select-frames mode.InSelect e = refl
select-frames mode.InSelectInTable e = refl
select-frames _ e = absurd (false≢true e)

pub founded-select : (a : State) → is_of_selects a.mode ≡ true → may_select a.ledger.history ≡ true → IsFounded a
founded-select a e h = record { select = λ m. h; frameset = λ m. absurd (false≢true (sym (select-frames a.mode e) ∙ m)) }

pub founded-frames : (a : State) → is_of_selects a.mode ≡ false → a.ledger.history.frameset ≡ true → IsFounded a
founded-frames a e h = record { select = λ m. absurd (false≢true (sym e ∙ m)); frameset = λ m. h }

-- other modes are none of those
pub out-own : (m n : Mode) → is_of_selects n ≡ false → is_of_frames n ≡ false → is_of_column_groups n ≡ false → StaysOut m n
out-own m n e f g = record { select = λ p. absurd (false≢true (sym e ∙ p)); frameset = λ p. absurd (false≢true (sym f ∙ p)); column_group = λ p. absurd (false≢true (sym g ∙ p)) }

pub out-body : (m n : Mode) → n ≡ mode.InBody → StaysOut m n
out-body m n e = out-own m n (ap is_of_selects e) (ap is_of_frames e) (ap is_of_column_groups e)

pub out-same : (m n : Mode) → n ≡ m → StaysOut m n
out-same m n e = subst (λ x. StaysOut m x) (sym e) (record { select = λ p. p; frameset = λ p. p; column_group = λ p. p })

pub out-then : (m n o : Mode) → StaysOut m n → StaysOut n o → StaysOut m o
out-then m n o s t = record { select = λ p. s.select (t.select p); frameset = λ p. s.frameset (t.frameset p); column_group = λ p. s.column_group (t.column_group p) }

-- a run leaves the mode, to which nothing has to lead
runs-own : (m : Mode) → takes_runs m ≡ true → (is_of_selects m ≡ false) × (is_of_frames m ≡ false)
runs-own mode.InBody e = (refl, refl)
runs-own mode.Text e = (refl, refl)
runs-own mode.InCaption e = (refl, refl)
runs-own mode.InCell e = (refl, refl)
runs-own _ e = absurd (false≢true e)

pub run-founded : (a b : State) → takes_runs a.mode ≡ true → b.mode ≡ a.mode → IsFounded b
run-founded a b e f = let z = runs-own a.mode e in founded-other b (ap is_of_selects f ∙ z.0) (ap is_of_frames f ∙ z.1)

-- a call has begun
pub founded-begun : (a i : State) (d k : ℕ) → i ≡ record a { began = a.mode; depth = d; nodes = k } → IsFounded a → IsFounded i
founded-begun a i d k e w = subst IsFounded (sym e) (record { select = w.select; frameset = w.frameset })

pub began-own : (a i : State) (d k : ℕ) → i ≡ record a { began = a.mode; depth = d; nodes = k } → i.began ≡ i.mode
began-own a i d k e = ap (λ (x : State). x.began) e ∙ sym (ap (λ (x : State). x.mode) e)

pub begins-root : (t : TokenKind) (y : Symbol) (o : Outcome) (name : Root) (s : Symbol) → s ≡ y → o ≡ Foreign name → s ≡ root_of name → begins_foreign y ≡ true
begins-root t y o root.Svg s e q r = ap begins_foreign (sym e ∙ r)
begins-root t y o root.Math s e q r = ap begins_foreign (sym e ∙ r)

pub done-not : (o : Outcome) → o ≡ Done → o ≡ Reprocess → ⊥
done-not o e f = (let k : Done ≡ Reprocess = sym e ∙ f in cc)

pub done-foreign : (o : Outcome) (name : Root) → o ≡ Done → o ≡ Foreign name → ⊥
done-foreign o name e f = (let k : Done ≡ Foreign name = sym e ∙ f in cc)

pub ruleset begun_rules = (founded-other, founded-select, founded-frames)

pub ruleset run_begun = (run-gives, run-founded)
