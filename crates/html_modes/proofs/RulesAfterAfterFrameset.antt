-- The arms of the "after after frameset" insertion mode, one lemma each: of a token that meets its test and no earlier one, the table has this plan.
use Rattle.std.proofs.Common.{ℕ, ◌≡◌, true, false, subst, sym}
use Rattle.html_names.specs.declared.tag.Tag.{Tag}
use Rattle.html_names.specs.declared.tag.Tag.TheVariants as tag
use Rattle.html_tokens.specs.declared.token.TokenKind.{TokenKind}
use Rattle.html_ledger.specs.declared.fate.Cause.TheVariants.{InFrameset}
use Rattle.html_ledger.specs.declared.symbol.Symbol.{Symbol}
use Rattle.html_ledger.specs.declared.symbol.Symbol.TheVariants.{Start, End, Char, Comment, Doctype, Eof}
use Rattle.html_ledger.specs.Spaces.{is_space}
use Rattle.html_tree.specs.declared.groups.Target.TheVariants as target
use Rattle.html_construction.specs.declared.mode.Mode.TheVariants as mode
use Rattle.html_construction.specs.Plans.{By, Do, Ending, Runs}
use Rattle.html_construction.specs.States.{State}
use Rattle.html_construction.specs.Words.{InsertCommentAt}
use Rattle.html_modes.specs.RuleForms.{done_with, ignored, ignored_doctype, over}
use Rattle.html_modes.specs.Rules.{plan}
use Rattle.html_modes.specs.RulesAfterAfterFrameset.{after_after_frameset, after_after_frameset_start}
use Rattle.html_modes.proofs.RulesInHead.{by_head_rules}
use Rattle.html_modes.proofs.RulesInBody.{by_body_rules}
use Rattle.html_modes.proofs.Ruled.{other_than, rule_words}

pub after_after_frameset_start-Html : (g : Tag) (t : TokenKind) (a : State) (e : Ending) (z : State) → g ≡ tag.Html → Runs plan (after_after_frameset_start tag.Html) t a e z → Runs plan (after_after_frameset_start g) t a e z
after_after_frameset_start-Html g t a e z k h = subst (λ (x : Tag). Runs plan (after_after_frameset_start x) t a e z) (sym k) h

pub after_after_frameset_start-Noframes : (g : Tag) (t : TokenKind) (a : State) (e : Ending) (z : State) → g ≡ tag.Noframes → Runs plan (after_after_frameset_start tag.Noframes) t a e z → Runs plan (after_after_frameset_start g) t a e z
after_after_frameset_start-Noframes g t a e z k h = subst (λ (x : Tag). Runs plan (after_after_frameset_start x) t a e z) (sym k) h

pub after_after_frameset_start-other : (g : Tag) (t : TokenKind) (a : State) (e : Ending) (z : State) → (g ≡ tag.Html → ⊥) → (g ≡ tag.Noframes → ⊥) → Runs plan (ignored InFrameset) t a e z → Runs plan (after_after_frameset_start g) t a e z
after_after_frameset_start-other g t a e z n0 n1 h = rw (other_than g tag.Html n0, other_than g tag.Noframes n1) h

pub after_after_frameset-space : (y : Symbol) (c : ℕ) (t : TokenKind) (a : State) (e : Ending) (z : State) → y ≡ Char c → (is_space c) ≡ true → Runs plan (By mode.InBody) t a e z → Runs plan (after_after_frameset y) t a e z
after_after_frameset-space y c t a e z k m h = subst (λ (x : Symbol). Runs plan (after_after_frameset x) t a e z) (sym k) (rw (m) h)

pub after_after_frameset-char : (y : Symbol) (c : ℕ) (t : TokenKind) (a : State) (e : Ending) (z : State) → y ≡ Char c → (is_space c) ≡ false → Runs plan (ignored InFrameset) t a e z → Runs plan (after_after_frameset y) t a e z
after_after_frameset-char y c t a e z k m h = subst (λ (x : Symbol). Runs plan (after_after_frameset x) t a e z) (sym k) (rw (m) h)

pub after_after_frameset-comment : (y : Symbol) (t : TokenKind) (a : State) (e : Ending) (z : State) → y ≡ Comment → Runs plan (Do (InsertCommentAt target.Document) over) t a e z → Runs plan (after_after_frameset y) t a e z
after_after_frameset-comment y t a e z k h = subst (λ (x : Symbol). Runs plan (after_after_frameset x) t a e z) (sym k) h

pub after_after_frameset-doctype : (y : Symbol) (t : TokenKind) (a : State) (e : Ending) (z : State) → y ≡ Doctype → Runs plan (ignored_doctype) t a e z → Runs plan (after_after_frameset y) t a e z
after_after_frameset-doctype y t a e z k h = subst (λ (x : Symbol). Runs plan (after_after_frameset x) t a e z) (sym k) h

pub after_after_frameset-start : (y : Symbol) (g : Tag) (t : TokenKind) (a : State) (e : Ending) (z : State) → y ≡ Start g → Runs plan (after_after_frameset_start g) t a e z → Runs plan (after_after_frameset y) t a e z
after_after_frameset-start y g t a e z k h = subst (λ (x : Symbol). Runs plan (after_after_frameset x) t a e z) (sym k) h

pub after_after_frameset-end : (y : Symbol) (g : Tag) (t : TokenKind) (a : State) (e : Ending) (z : State) → y ≡ End g → Runs plan (done_with) t a e z → Runs plan (after_after_frameset y) t a e z
after_after_frameset-end y g t a e z k h = subst (λ (x : Symbol). Runs plan (after_after_frameset x) t a e z) (sym k) h

pub after_after_frameset-eof : (y : Symbol) (t : TokenKind) (a : State) (e : Ending) (z : State) → y ≡ Eof → Runs plan (done_with) t a e z → Runs plan (after_after_frameset y) t a e z
after_after_frameset-eof y t a e z k h = subst (λ (x : Symbol). Runs plan (after_after_frameset x) t a e z) (sym k) h

pub ruleset arms = (rule_words, by_body_rules, by_head_rules, after_after_frameset_start-Html, after_after_frameset_start-Noframes, after_after_frameset_start-other, after_after_frameset-space, after_after_frameset-char, after_after_frameset-comment, after_after_frameset-doctype, after_after_frameset-start, after_after_frameset-end, after_after_frameset-eof)
