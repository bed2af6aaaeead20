-- Which causes hold in each mode, and to which modes something leads.
use Rattle.std.specs.Bool.{IsTrue}
use Rattle.std.proofs.Common.{◌≡◌, Bool, true, false, cond, Option, None, Some, IfSome, refl, sym, ap, subst, ◌∙◌}
use Rattle.html_names.specs.declared.tag.Tag.{Tag}
use Rattle.html_names.specs.declared.tag.Tag.TheVariants as tag
use Rattle.html_ledger.specs.declared.fate.Cause.{Cause}
use Rattle.html_ledger.specs.declared.fate.Cause.TheVariants.{PrologSpace, LeadingNewline}
use Rattle.html_ledger.specs.declared.history.History.{History}
use Rattle.html_ledger.specs.declared.setting.Setting.TheVariants.{Fragment}
use Rattle.html_ledger.specs.declared.symbol.Symbol.{Symbol}
use Rattle.html_ledger.specs.Entries.{Entries, begun}
use Rattle.html_ledger.specs.Flags.{may_select, must_drop}
use Rattle.html_construction.specs.declared.mode.Mode.{Mode}
use Rattle.html_construction.specs.Begun.{IsFounded, drops_in}
use Rattle.html_construction.specs.Modes.{is_of_frames, is_of_selects}
use Rattle.html_construction.specs.States.{State}

-- a cause by which a token is dropped in every mode is one of every mode
pub must-allowed : (h : History) (y : Symbol) (o : Option Cause) → o ≡ must_drop h y → IfSome o (λ c. (m : Mode) → IsTrue (drops_in c m))
must-allowed h y o e = subst (λ x. IfSome x (λ c. (m : Mode) → IsTrue (drops_in c m))) (sym e) (by _ _)
  where
    by : (a b : Bool) → IfSome (cond a (Some PrologSpace) (cond b (Some LeadingNewline) None)) (λ c. (m : Mode) → IsTrue (drops_in c m))
    by true b = λ m. refl
    by false true = λ m. refl
    by false false = tt

-- the context of a fragment leads to its first mode
pub founded-fragment : (t : Tag) (form : Bool) (a : State) → a.ledger ≡ begun (Fragment t form) → (is_of_selects a.mode ≡ true → t ≡ tag.Select) → (is_of_frames a.mode ≡ true → t ≡ tag.Frameset) → IsFounded a
founded-fragment t form a e f g = record {
  select = λ m. ap (λ (l : Entries). may_select l.history) e ∙ ap (λ u. may_select (begun (Fragment u form)).history) (f m);
  frameset = λ m. ap (λ (l : Entries). l.history.frameset) e ∙ ap (λ u. (begun (Fragment u form)).history.frameset) (g m);
}
