-- The arms of the "after body" insertion mode, one lemma each: of a token that meets its test and no earlier one, the table has this plan.
use Rattle.std.proofs.Common.{ℕ, ◌≡◌, true, false, subst, sym}
use Rattle.html_names.specs.declared.tag.Tag.{Tag}
use Rattle.html_names.specs.declared.tag.Tag.TheVariants as tag
use Rattle.html_tokens.specs.declared.token.TokenKind.{TokenKind}
use Rattle.html_ledger.specs.declared.symbol.Symbol.{Symbol}
use Rattle.html_ledger.specs.declared.symbol.Symbol.TheVariants.{Start, End, Char, Comment, Doctype, Eof}
use Rattle.html_ledger.specs.Spaces.{is_space}
use Rattle.html_tree.specs.declared.groups.Target.TheVariants as target
use Rattle.html_construction.specs.declared.mode.Mode.TheVariants as mode
use Rattle.html_construction.specs.Plans.{Ask, By, Do, Ending, Runs}
use Rattle.html_construction.specs.States.{State}
use Rattle.html_construction.specs.Words.{InsertCommentAt, IsFragment, Switch}
use Rattle.html_modes.specs.RuleForms.{done_with, ignored_doctype, over}
use Rattle.html_modes.specs.Rules.{plan}
use Rattle.html_modes.specs.RulesAfterBody.{after_body, back_to_body}
use Rattle.html_modes.proofs.RulesInBody.{by_body_rules}
use Rattle.html_modes.proofs.Ruled.{other_than, rule_words}

pub after_body-space : (y : Symbol) (c : ℕ) (t : TokenKind) (a : State) (e : Ending) (z : State) → y ≡ Char c → (is_space c) ≡ true → Runs plan (By mode.InBody) t a e z → Runs plan (after_body y) t a e z
after_body-space y c t a e z k m h = subst (λ (x : Symbol). Runs plan (after_body x) t a e z) (sym k) (rw (m) h)

pub after_body-char : (y : Symbol) (c : ℕ) (t : TokenKind) (a : State) (e : Ending) (z : State) → y ≡ Char c → (is_space c) ≡ false → Runs plan (back_to_body) t a e z → Runs plan (after_body y) t a e z
after_body-char y c t a e z k m h = subst (λ (x : Symbol). Runs plan (after_body x) t a e z) (sym k) (rw (m) h)

pub after_body-comment : (y : Symbol) (t : TokenKind) (a : State) (e : Ending) (z : State) → y ≡ Comment → Runs plan (Do (InsertCommentAt target.First) over) t a e z → Runs plan (after_body y) t a e z
after_body-comment y t a e z k h = subst (λ (x : Symbol). Runs plan (after_body x) t a e z) (sym k) h

pub after_body-doctype : (y : Symbol) (t : TokenKind) (a : State) (e : Ending) (z : State) → y ≡ Doctype → Runs plan (ignored_doctype) t a e z → Runs plan (after_body y) t a e z
after_body-doctype y t a e z k h = subst (λ (x : Symbol). Runs plan (after_body x) t a e z) (sym k) h

pub after_body-start-Html : (y : Symbol) (g : Tag) (t : TokenKind) (a : State) (e : Ending) (z : State) → y ≡ Start g → g ≡ tag.Html → Runs plan (By mode.InBody) t a e z → Runs plan (after_body y) t a e z
after_body-start-Html y g t a e z k m h = subst (λ (x : Symbol). Runs plan (after_body x) t a e z) (sym k) (subst (λ (x : Tag). Runs plan (after_body (Start x)) t a e z) (sym m) h)

pub after_body-start-other : (y : Symbol) (g : Tag) (t : TokenKind) (a : State) (e : Ending) (z : State) → y ≡ Start g → (g ≡ tag.Html → ⊥) → Runs plan (back_to_body) t a e z → Runs plan (after_body y) t a e z
after_body-start-other y g t a e z k m h = subst (λ (x : Symbol). Runs plan (after_body x) t a e z) (sym k) (rw (other_than g tag.Html m) h)

pub after_body-end-Html : (y : Symbol) (g : Tag) (t : TokenKind) (a : State) (e : Ending) (z : State) → y ≡ End g → g ≡ tag.Html → Runs plan (Ask IsFragment done_with (Do (Switch mode.AfterAfterBody) done_with)) t a e z → Runs plan (after_body y) t a e z
after_body-end-Html y g t a e z k m h = subst (λ (x : Symbol). Runs plan (after_body x) t a e z) (sym k) (subst (λ (x : Tag). Runs plan (after_body (End x)) t a e z) (sym m) h)

pub after_body-end-other : (y : Symbol) (g : Tag) (t : TokenKind) (a : State) (e : Ending) (z : State) → y ≡ End g → (g ≡ tag.Html → ⊥) → Runs plan (back_to_body) t a e z → Runs plan (after_body y) t a e z
after_body-end-other y g t a e z k m h = subst (λ (x : Symbol). Runs plan (after_body x) t a e z) (sym k) (rw (other_than g tag.Html m) h)

pub after_body-eof : (y : Symbol) (t : TokenKind) (a : State) (e : Ending) (z : State) → y ≡ Eof → Runs plan (done_with) t a e z → Runs plan (after_body y) t a e z
after_body-eof y t a e z k h = subst (λ (x : Symbol). Runs plan (after_body x) t a e z) (sym k) h

pub ruleset arms = (rule_words, by_body_rules, after_body-space, after_body-char, after_body-comment, after_body-doctype, after_body-start-Html, after_body-start-other, after_body-end-Html, after_body-end-other, after_body-eof)
