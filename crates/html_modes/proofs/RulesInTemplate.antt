-- The arms of the "in template" insertion mode, one lemma each: of a token that meets its test and no earlier one, the table has this plan.
use Rattle.std.proofs.Common.{ℕ, ◌≡◌, ◌⊎◌, true, false, inl, inr, subst, sym}
use Rattle.html_names.specs.declared.tag.Tag.{Tag}
use Rattle.html_names.specs.declared.tag.Tag.TheVariants as tag
use Rattle.html_names.specs.Sets.{is_headish}
use Rattle.html_tokens.specs.declared.token.TokenKind.{TokenKind}
use Rattle.html_ledger.specs.declared.symbol.Symbol.{Symbol}
use Rattle.html_ledger.specs.declared.symbol.Symbol.TheVariants.{Start, End, Char, Comment, Doctype, Eof}
use Rattle.html_construction.specs.declared.mode.Mode.TheVariants as mode
use Rattle.html_construction.specs.Plans.{By, Ending, Runs}
use Rattle.html_construction.specs.States.{State}
use Rattle.html_modes.specs.RuleForms.{again, done_with}
use Rattle.html_modes.specs.Rules.{plan}
use Rattle.html_modes.specs.RulesInHead.{closing_template}
use Rattle.html_modes.specs.RulesInTemplate.{going_on_in, in_template, mode_in_template}
use Rattle.html_modes.proofs.RulesInHead.{by_head_rules}
use Rattle.html_modes.proofs.RulesInBody.{by_body_rules}
use Rattle.html_modes.proofs.Ruled.{other_than, rule_words}

pub in_template-start : (y : Symbol) (g : Tag) (t : TokenKind) (a : State) (e : Ending) (z : State) → y ≡ Start g → (is_headish g) ≡ true → Runs plan (By mode.InHead) t a e z → Runs plan (in_template y) t a e z
in_template-start y g t a e z k m h = subst (λ (x : Symbol). Runs plan (in_template x) t a e z) (sym k) (rw (m) h)

pub in_template-start-other : (y : Symbol) (g : Tag) (t : TokenKind) (a : State) (e : Ending) (z : State) → y ≡ Start g → (is_headish g) ≡ false → Runs plan (going_on_in (mode_in_template g)) t a e z → Runs plan (in_template y) t a e z
in_template-start-other y g t a e z k m h = subst (λ (x : Symbol). Runs plan (in_template x) t a e z) (sym k) (rw (m) h)

pub in_template-end-Template : (y : Symbol) (g : Tag) (t : TokenKind) (a : State) (e : Ending) (z : State) → y ≡ End g → g ≡ tag.Template → Runs plan (By mode.InHead) t a e z → Runs plan (in_template y) t a e z
in_template-end-Template y g t a e z k m h = subst (λ (x : Symbol). Runs plan (in_template x) t a e z) (sym k) (subst (λ (x : Tag). Runs plan (in_template (End x)) t a e z) (sym m) h)

pub in_template-end-other : (y : Symbol) (g : Tag) (t : TokenKind) (a : State) (e : Ending) (z : State) → y ≡ End g → (g ≡ tag.Template → ⊥) → Runs plan (done_with) t a e z → Runs plan (in_template y) t a e z
in_template-end-other y g t a e z k m h = subst (λ (x : Symbol). Runs plan (in_template x) t a e z) (sym k) (rw (other_than g tag.Template m) h)

pub in_template-eof : (y : Symbol) (t : TokenKind) (a : State) (e : Ending) (z : State) → y ≡ Eof → Runs plan (closing_template again done_with) t a e z → Runs plan (in_template y) t a e z
in_template-eof y t a e z k h = subst (λ (x : Symbol). Runs plan (in_template x) t a e z) (sym k) h

pub in_template-rest : (y : Symbol) (t : TokenKind) (a : State) (e : Ending) (z : State) → (((c : ℕ) × y ≡ Char c) ⊎ ((y ≡ Comment) ⊎ (y ≡ Doctype))) → Runs plan (By mode.InBody) t a e z → Runs plan (in_template y) t a e z
in_template-rest y t a e z (inl m) h = subst (λ (x : Symbol). Runs plan (in_template x) t a e z) (sym m.1) h
in_template-rest y t a e z (inr (inl m)) h = subst (λ (x : Symbol). Runs plan (in_template x) t a e z) (sym m) h
in_template-rest y t a e z (inr (inr m)) h = subst (λ (x : Symbol). Runs plan (in_template x) t a e z) (sym m) h

pub ruleset arms = (rule_words, by_body_rules, by_head_rules, in_template-start, in_template-start-other, in_template-end-Template, in_template-end-other, in_template-eof, in_template-rest)
