-- The arms of the "initial" insertion mode, one lemma each: of a token that meets its test and no earlier one, the table has this plan.
use Rattle.std.proofs.Common.{ℕ, ◌≡◌, ◌⊎◌, Bool, true, false, inl, inr, refl, subst, sym, if◌then◌else◌}
use Rattle.html_names.specs.declared.tag.Tag.{Tag}
use Rattle.html_tokens.specs.declared.token.TokenKind.{TokenKind}
use Rattle.html_ledger.specs.declared.symbol.Symbol.{Symbol}
use Rattle.html_ledger.specs.declared.symbol.Symbol.TheVariants.{Start, End, Char, Comment, Doctype, Eof}
use Rattle.html_tree.specs.declared.groups.Target.TheVariants as target
use Rattle.html_construction.specs.declared.mode.Mode.TheVariants as mode
use Rattle.html_construction.specs.Plans.{Do, DoesAny, Ending, PassesFor, Runs, asks}
use Rattle.html_construction.specs.Quirks.{sets_quirks}
use Rattle.html_construction.specs.States.{State}
use Rattle.html_construction.specs.Words.{InsertCommentAt, Quirks, SetsQuirks, Switch}
use Rattle.html_modes.specs.RuleForms.{again, inserting_doctype, over}
use Rattle.html_modes.specs.Rules.{plan}
use Rattle.html_modes.specs.RulesInitial.{initial, setting_quirks}
use Rattle.html_modes.proofs.Ruled.{rule_words}

pub initial-comment : (y : Symbol) (t : TokenKind) (a : State) (e : Ending) (z : State) → y ≡ Comment → Runs plan (Do (InsertCommentAt target.Document) over) t a e z → Runs plan (initial y) t a e z
initial-comment y t a e z k h = subst (λ (x : Symbol). Runs plan (initial x) t a e z) (sym k) h

pub initial-doctype : (y : Symbol) (t : TokenKind) (a : State) (e : Ending) (z : State) → y ≡ Doctype → Runs plan (inserting_doctype (setting_quirks (Do (Switch mode.BeforeHtml) over))) t a e z → Runs plan (initial y) t a e z
initial-doctype y t a e z k h = subst (λ (x : Symbol). Runs plan (initial x) t a e z) (sym k) h

pub initial-rest : (y : Symbol) (t : TokenKind) (a : State) (e : Ending) (z : State) → (((g : Tag) × y ≡ Start g) ⊎ (((g : Tag) × y ≡ End g) ⊎ (((c : ℕ) × y ≡ Char c) ⊎ (y ≡ Eof)))) → Runs plan (Do (Quirks true) (Do (Switch mode.BeforeHtml) again)) t a e z → Runs plan (initial y) t a e z
initial-rest y t a e z (inl m) h = subst (λ (x : Symbol). Runs plan (initial x) t a e z) (sym m.1) h
initial-rest y t a e z (inr (inl m)) h = subst (λ (x : Symbol). Runs plan (initial x) t a e z) (sym m.1) h
initial-rest y t a e z (inr (inr (inl m))) h = subst (λ (x : Symbol). Runs plan (initial x) t a e z) (sym m.1) h
initial-rest y t a e z (inr (inr (inr m))) h = subst (λ (x : Symbol). Runs plan (initial x) t a e z) (sym m) h

-- quirks mode, or not
pub quirks-set : (x : Bool) (t : TokenKind) (a b : State) → x ≡ sets_quirks t → DoesAny (Quirks x) a b → PassesFor setting_quirks t a b
quirks-set true t a b k d = λ r p e z h. asks SetsQuirks (Do (Quirks true) p) (Do (Quirks false) p) t a a e z (record { state_is = refl })
    (subst (λ (y : Bool). Runs r (if y then Do (Quirks true) p else Do (Quirks false) p) t a e z) k (d r t p e z h))
quirks-set false t a b k d = λ r p e z h. asks SetsQuirks (Do (Quirks true) p) (Do (Quirks false) p) t a a e z (record { state_is = refl })
    (subst (λ (y : Bool). Runs r (if y then Do (Quirks true) p else Do (Quirks false) p) t a e z) k (d r t p e z h))

pub ruleset arms = (rule_words, initial-comment, initial-doctype, initial-rest)

pub ruleset quirks = (quirks-set)
