-- A parser that owns its table.
use Rattle.std.proofs.Common.{ℕ, ◌≡◌, ◌∙◌, Bool, true, false, List, Option, Some, None, Result, Ok, Err, sym, subst}
use Rattle.std.specs.Prelude.{◌↔◌, IfErr, OnOk}
use Rattle.std.specs.Arc.{arc_value}
use Rattle.html_charref.specs.declared.table.Row.{Row}
use Rattle.html_parser.specs.Owned.{IsOwnedFed, KeepsOwned}
use Rattle.html_parser.specs.Paused.{AreGoing, HavePaused, KeepsPaused, MayResume}
use Rattle.html_parser.specs.Start.{Start}
use Rattle.html_parser.specs.declared.error.ParseError.{ParseError}
use Rattle.html_parser.specs.declared.error.ParseError.TheVariants.{Stopped}
use Rattle.html_parser.specs.declared.owned_feeder.OwnedFeeder.{OwnedFeeder}
use Rattle.html_parser.specs.declared.paused.PausedStages.{PausedStages}

some_same : {A : Type 0} (x y : A) → ◌≡◌ {A = Option A} (Some x) (Some y) → x ≡ y
some_same x y e = cc

-- the stages of a parser that was fed some bytes
pub paused_in : (start : Start) (p : OwnedFeeder) (s : PausedStages) (bytes : List ℕ) → p.stages ≡ Some s → IsOwnedFed start p bytes → HavePaused start (arc_value p.table) s bytes
paused_in start p s bytes is h = subst (λ x. HavePaused start (arc_value p.table) x bytes) (some_same h.stages s (sym h.there ∙ is)) h.paused

pub kept_in : (p : OwnedFeeder) (s : PausedStages) → p.stages ≡ Some s → KeepsOwned p → KeepsPaused s
kept_in p s is keeps = keeps s is

pub keeps_by : (p : OwnedFeeder) (s : PausedStages) → p.stages ≡ Some s → KeepsPaused s → KeepsOwned p
keeps_by p s is keeps = λ x there. subst KeepsPaused (some_same s x (sym is ∙ there)) keeps

pub may_in : (rows : List Row) (o : Option PausedStages) (s : PausedStages) → o ≡ Some s → AreGoing rows o → MayResume rows s
may_in rows o s is going = λ none. going (λ p there may. subst (MayResume rows) (some_same p s (sym there ∙ is)) may none)

pub going_by : (rows : List Row) (o : Option PausedStages) (s : PausedStages) → o ≡ Some s → MayResume rows s → AreGoing rows o
going_by rows o s is may = λ none. none s is may

none_some : (s : PausedStages) → ◌≡◌ {A = Option PausedStages} None (Some s) → ⊥
none_some s e = cc

pub none_going : (rows : List Row) (o : Option PausedStages) → o ≡ None → AreGoing rows o → ⊥
none_going rows o is going = going (λ p there _. none_some p (sym is ∙ there))

-- A call is refused as stopped only where the parser was.
pub refused_going : (r : Result (Unit {0}) ParseError) (was : Bool) → was ≡ false → (r ≡ Err Stopped → ⊥) → (r ≡ Err Stopped) ↔ (was ≡ true)
refused_going r was going none = ((λ h. absurd (none h)), (λ h. let no : false ≡ true = sym going ∙ h in cc))

pub refused_stopped : (r : Result (Unit {0}) ParseError) (was : Bool) → r ≡ Err Stopped → was ≡ true → (r ≡ Err Stopped) ↔ (was ≡ true)
refused_stopped r was is stopped = ((λ _. stopped), (λ _. is))

pub not_ok : {T : Type 0} (r : Result T ParseError) (x : T) → r ≡ Ok x → r ≡ Err Stopped → ⊥
not_ok r x is h = let e : Ok x ≡ Err Stopped = sym is ∙ h in cc

pub at_ok : {T E P : Type 0} (r : Result T E) (x : T) → r ≡ Ok x → OnOk r P → P
at_ok {T} {E} {P} r x is h = subst (λ y. OnOk y P) is h

pub at_err : {T E : Type 0} (P : E → Type 0) (r : Result T E) (e : E) → r ≡ Err e → IfErr r P → P e
at_err P r e is h = subst (λ y. IfErr y P) is h

pub may_of : (start : Start) (rows : List Row) (p : PausedStages) (bytes : List ℕ) → HavePaused start rows p bytes → MayResume rows p
may_of start rows p bytes h = λ none. none start bytes h
