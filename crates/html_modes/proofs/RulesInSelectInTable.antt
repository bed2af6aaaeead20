-- The arms of the "in select in table" insertion mode, one lemma each: of a token that meets its test and no earlier one, the table has this plan.
use Rattle.std.proofs.Common.{ℕ, ◌≡◌, ◌⊎◌, true, false, inl, inr, subst, sym}
use Rattle.html_names.specs.declared.sets.Scope.TheVariants as scope
use Rattle.html_names.specs.declared.tag.Tag.{Tag}
use Rattle.html_names.specs.Groups.{ends_select_in_table}
use Rattle.html_tokens.specs.declared.token.TokenKind.{TokenKind}
use Rattle.html_ledger.specs.declared.fate.Cause.TheVariants.{InSelect}
use Rattle.html_ledger.specs.declared.symbol.Symbol.{Symbol}
use Rattle.html_ledger.specs.declared.symbol.Symbol.TheVariants.{Start, End, Char, Comment, Doctype, Eof}
use Rattle.html_ledger.specs.Symbols.{symbol_of}
use Rattle.html_tree.specs.declared.groups.Group.TheVariants as group
use Rattle.html_tree.specs.declared.groups.Stop.TheVariants as stop
use Rattle.html_construction.specs.declared.mode.Mode.TheVariants as mode
use Rattle.html_construction.specs.Plans.{Ask, By, Ending, Runs, goes_by}
use Rattle.html_construction.specs.States.{State}
use Rattle.html_construction.specs.Words.{Finds}
use Rattle.html_modes.specs.RuleForms.{again, done_with, ignored}
use Rattle.html_modes.specs.Rules.{plan}
use Rattle.html_modes.specs.RulesInSelect.{closing_select, in_select}
use Rattle.html_modes.specs.RulesInSelectInTable.{in_select_in_table}
use Rattle.html_modes.proofs.Ruled.{rule_words}

pub by_select : (y : Symbol) (t : TokenKind) (a : State) (e : Ending) (z : State) → symbol_of t ≡ y → Runs plan (in_select y) t a e z → Runs plan (By mode.InSelect) t a e z
unfolding plan
by_select y t a e z k h = goes_by mode.InSelect t a e z (subst (λ (x : Symbol). Runs plan (in_select x) t a e z) (sym k) h)

pub in_select_in_table-start : (y : Symbol) (g : Tag) (t : TokenKind) (a : State) (e : Ending) (z : State) → y ≡ Start g → (ends_select_in_table g) ≡ true → Runs plan (closing_select again (ignored InSelect)) t a e z → Runs plan (in_select_in_table y) t a e z
in_select_in_table-start y g t a e z k m h = subst (λ (x : Symbol). Runs plan (in_select_in_table x) t a e z) (sym k) (rw (m) h)

pub in_select_in_table-start-other : (y : Symbol) (g : Tag) (t : TokenKind) (a : State) (e : Ending) (z : State) → y ≡ Start g → (ends_select_in_table g) ≡ false → Runs plan (By mode.InSelect) t a e z → Runs plan (in_select_in_table y) t a e z
in_select_in_table-start-other y g t a e z k m h = subst (λ (x : Symbol). Runs plan (in_select_in_table x) t a e z) (sym k) (rw (m) h)

pub in_select_in_table-end : (y : Symbol) (g : Tag) (t : TokenKind) (a : State) (e : Ending) (z : State) → y ≡ End g → (ends_select_in_table g) ≡ true → Runs plan (Ask (Finds (group.Named g) (stop.EndOf scope.Table)) (closing_select again done_with) done_with) t a e z → Runs plan (in_select_in_table y) t a e z
in_select_in_table-end y g t a e z k m h = subst (λ (x : Symbol). Runs plan (in_select_in_table x) t a e z) (sym k) (rw (m) h)

pub in_select_in_table-end-other : (y : Symbol) (g : Tag) (t : TokenKind) (a : State) (e : Ending) (z : State) → y ≡ End g → (ends_select_in_table g) ≡ false → Runs plan (By mode.InSelect) t a e z → Runs plan (in_select_in_table y) t a e z
in_select_in_table-end-other y g t a e z k m h = subst (λ (x : Symbol). Runs plan (in_select_in_table x) t a e z) (sym k) (rw (m) h)

pub in_select_in_table-rest : (y : Symbol) (t : TokenKind) (a : State) (e : Ending) (z : State) → (((c : ℕ) × y ≡ Char c) ⊎ ((y ≡ Comment) ⊎ ((y ≡ Doctype) ⊎ (y ≡ Eof)))) → Runs plan (By mode.InSelect) t a e z → Runs plan (in_select_in_table y) t a e z
in_select_in_table-rest y t a e z (inl m) h = subst (λ (x : Symbol). Runs plan (in_select_in_table x) t a e z) (sym m.1) h
in_select_in_table-rest y t a e z (inr (inl m)) h = subst (λ (x : Symbol). Runs plan (in_select_in_table x) t a e z) (sym m) h
in_select_in_table-rest y t a e z (inr (inr (inl m))) h = subst (λ (x : Symbol). Runs plan (in_select_in_table x) t a e z) (sym m) h
in_select_in_table-rest y t a e z (inr (inr (inr m))) h = subst (λ (x : Symbol). Runs plan (in_select_in_table x) t a e z) (sym m) h

pub in_select_in_table-start-by : (y : Symbol) (g : Tag) (t : TokenKind) (a : State) (e : Ending) (z : State) → symbol_of t ≡ y → y ≡ Start g → ends_select_in_table g ≡ false → Runs plan (in_select y) t a e z → Runs plan (in_select_in_table y) t a e z
in_select_in_table-start-by y g t a e z s k m h = in_select_in_table-start-other y g t a e z k m (by_select y t a e z s h)

pub in_select_in_table-end-by : (y : Symbol) (g : Tag) (t : TokenKind) (a : State) (e : Ending) (z : State) → symbol_of t ≡ y → y ≡ End g → ends_select_in_table g ≡ false → Runs plan (in_select y) t a e z → Runs plan (in_select_in_table y) t a e z
in_select_in_table-end-by y g t a e z s k m h = in_select_in_table-end-other y g t a e z k m (by_select y t a e z s h)

pub ruleset arms = (rule_words, in_select_in_table-start, in_select_in_table-end, in_select_in_table-rest, in_select_in_table-start-by, in_select_in_table-end-by, by_select)
