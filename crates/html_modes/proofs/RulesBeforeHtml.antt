-- The arms of the "before html" insertion mode, one lemma each: of a token that meets its test and no earlier one, the table has this plan.
use Rattle.std.proofs.Common.{ℕ, ◌≡◌, ◌⊎◌, true, false, inl, inr, subst, sym}
use Rattle.html_names.specs.declared.tag.Tag.{Tag}
use Rattle.html_names.specs.declared.tag.Tag.TheVariants as tag
use Rattle.html_names.specs.Groups.{is_page_part}
use Rattle.html_tokens.specs.declared.token.TokenKind.{TokenKind}
use Rattle.html_ledger.specs.declared.symbol.Symbol.{Symbol}
use Rattle.html_ledger.specs.declared.symbol.Symbol.TheVariants.{Start, End, Char, Comment, Doctype, Eof}
use Rattle.html_tree.specs.declared.groups.Target.TheVariants as target
use Rattle.html_construction.specs.Plans.{Do, Ending, Runs}
use Rattle.html_construction.specs.States.{State}
use Rattle.html_construction.specs.Words.{InsertCommentAt}
use Rattle.html_modes.specs.RuleForms.{done_with, ignored_doctype, over}
use Rattle.html_modes.specs.Rules.{plan}
use Rattle.html_modes.specs.RulesBeforeHtml.{before_html, before_html_end, before_html_start, implying_html}
use Rattle.html_modes.proofs.Ruled.{other_than, rule_words}

pub before_html_start-Html : (g : Tag) (t : TokenKind) (a : State) (e : Ending) (z : State) → g ≡ tag.Html → Runs plan (before_html_start tag.Html) t a e z → Runs plan (before_html_start g) t a e z
before_html_start-Html g t a e z k h = subst (λ (x : Tag). Runs plan (before_html_start x) t a e z) (sym k) h

pub before_html_start-other : (g : Tag) (t : TokenKind) (a : State) (e : Ending) (z : State) → (g ≡ tag.Html → ⊥) → Runs plan (implying_html) t a e z → Runs plan (before_html_start g) t a e z
before_html_start-other g t a e z n0 h = rw (other_than g tag.Html n0) h

pub before_html_end-is_page_part : (g : Tag) (t : TokenKind) (a : State) (e : Ending) (z : State) → is_page_part g ≡ true → Runs plan (implying_html) t a e z → Runs plan (before_html_end g) t a e z
before_html_end-is_page_part g t a e z k h = rw (k) h

pub before_html_end-other : (g : Tag) (t : TokenKind) (a : State) (e : Ending) (z : State) → is_page_part g ≡ false → Runs plan (done_with) t a e z → Runs plan (before_html_end g) t a e z
before_html_end-other g t a e z n0 h = rw (n0) h

pub before_html-doctype : (y : Symbol) (t : TokenKind) (a : State) (e : Ending) (z : State) → y ≡ Doctype → Runs plan (ignored_doctype) t a e z → Runs plan (before_html y) t a e z
before_html-doctype y t a e z k h = subst (λ (x : Symbol). Runs plan (before_html x) t a e z) (sym k) h

pub before_html-comment : (y : Symbol) (t : TokenKind) (a : State) (e : Ending) (z : State) → y ≡ Comment → Runs plan (Do (InsertCommentAt target.Document) over) t a e z → Runs plan (before_html y) t a e z
before_html-comment y t a e z k h = subst (λ (x : Symbol). Runs plan (before_html x) t a e z) (sym k) h

pub before_html-start : (y : Symbol) (g : Tag) (t : TokenKind) (a : State) (e : Ending) (z : State) → y ≡ Start g → Runs plan (before_html_start g) t a e z → Runs plan (before_html y) t a e z
before_html-start y g t a e z k h = subst (λ (x : Symbol). Runs plan (before_html x) t a e z) (sym k) h

pub before_html-end : (y : Symbol) (g : Tag) (t : TokenKind) (a : State) (e : Ending) (z : State) → y ≡ End g → Runs plan (before_html_end g) t a e z → Runs plan (before_html y) t a e z
before_html-end y g t a e z k h = subst (λ (x : Symbol). Runs plan (before_html x) t a e z) (sym k) h

pub before_html-rest : (y : Symbol) (t : TokenKind) (a : State) (e : Ending) (z : State) → (((c : ℕ) × y ≡ Char c) ⊎ (y ≡ Eof)) → Runs plan (implying_html) t a e z → Runs plan (before_html y) t a e z
before_html-rest y t a e z (inl m) h = subst (λ (x : Symbol). Runs plan (before_html x) t a e z) (sym m.1) h
before_html-rest y t a e z (inr m) h = subst (λ (x : Symbol). Runs plan (before_html x) t a e z) (sym m) h

pub ruleset arms = (rule_words, before_html_start-Html, before_html_start-other, before_html_end-is_page_part, before_html_end-other, before_html-doctype, before_html-comment, before_html-start, before_html-end, before_html-rest)
