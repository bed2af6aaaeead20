-- The arms of the "before head" insertion mode, one lemma each: of a token that meets its test and no earlier one, the table has this plan.
use Rattle.std.proofs.Common.{ℕ, ◌≡◌, ◌⊎◌, true, false, inl, inr, subst, sym}
use Rattle.html_names.specs.declared.tag.Tag.{Tag}
use Rattle.html_names.specs.declared.tag.Tag.TheVariants as tag
use Rattle.html_names.specs.Groups.{is_page_part}
use Rattle.html_tokens.specs.declared.token.TokenKind.{TokenKind}
use Rattle.html_ledger.specs.declared.symbol.Symbol.{Symbol}
use Rattle.html_ledger.specs.declared.symbol.Symbol.TheVariants.{Start, End, Char, Comment, Doctype, Eof}
use Rattle.html_construction.specs.Plans.{Do, Ending, Runs}
use Rattle.html_construction.specs.States.{State}
use Rattle.html_construction.specs.Words.{InsertComment}
use Rattle.html_modes.specs.RuleForms.{done_with, ignored_doctype, over}
use Rattle.html_modes.specs.Rules.{plan}
use Rattle.html_modes.specs.RulesBeforeHead.{before_head, before_head_end, before_head_start, implying_head}
use Rattle.html_modes.proofs.RulesInBody.{by_body_rules}
use Rattle.html_modes.proofs.Ruled.{other_than, rule_words}

pub before_head_start-Html : (g : Tag) (t : TokenKind) (a : State) (e : Ending) (z : State) → g ≡ tag.Html → Runs plan (before_head_start tag.Html) t a e z → Runs plan (before_head_start g) t a e z
before_head_start-Html g t a e z k h = subst (λ (x : Tag). Runs plan (before_head_start x) t a e z) (sym k) h

pub before_head_start-Head : (g : Tag) (t : TokenKind) (a : State) (e : Ending) (z : State) → g ≡ tag.Head → Runs plan (before_head_start tag.Head) t a e z → Runs plan (before_head_start g) t a e z
before_head_start-Head g t a e z k h = subst (λ (x : Tag). Runs plan (before_head_start x) t a e z) (sym k) h

pub before_head_start-other : (g : Tag) (t : TokenKind) (a : State) (e : Ending) (z : State) → (g ≡ tag.Html → ⊥) → (g ≡ tag.Head → ⊥) → Runs plan (implying_head) t a e z → Runs plan (before_head_start g) t a e z
before_head_start-other g t a e z n0 n1 h = rw (other_than g tag.Html n0, other_than g tag.Head n1) h

pub before_head_end-is_page_part : (g : Tag) (t : TokenKind) (a : State) (e : Ending) (z : State) → is_page_part g ≡ true → Runs plan (implying_head) t a e z → Runs plan (before_head_end g) t a e z
before_head_end-is_page_part g t a e z k h = rw (k) h

pub before_head_end-other : (g : Tag) (t : TokenKind) (a : State) (e : Ending) (z : State) → is_page_part g ≡ false → Runs plan (done_with) t a e z → Runs plan (before_head_end g) t a e z
before_head_end-other g t a e z n0 h = rw (n0) h

pub before_head-doctype : (y : Symbol) (t : TokenKind) (a : State) (e : Ending) (z : State) → y ≡ Doctype → Runs plan (ignored_doctype) t a e z → Runs plan (before_head y) t a e z
before_head-doctype y t a e z k h = subst (λ (x : Symbol). Runs plan (before_head x) t a e z) (sym k) h

pub before_head-comment : (y : Symbol) (t : TokenKind) (a : State) (e : Ending) (z : State) → y ≡ Comment → Runs plan (Do InsertComment over) t a e z → Runs plan (before_head y) t a e z
before_head-comment y t a e z k h = subst (λ (x : Symbol). Runs plan (before_head x) t a e z) (sym k) h

pub before_head-start : (y : Symbol) (g : Tag) (t : TokenKind) (a : State) (e : Ending) (z : State) → y ≡ Start g → Runs plan (before_head_start g) t a e z → Runs plan (before_head y) t a e z
before_head-start y g t a e z k h = subst (λ (x : Symbol). Runs plan (before_head x) t a e z) (sym k) h

pub before_head-end : (y : Symbol) (g : Tag) (t : TokenKind) (a : State) (e : Ending) (z : State) → y ≡ End g → Runs plan (before_head_end g) t a e z → Runs plan (before_head y) t a e z
before_head-end y g t a e z k h = subst (λ (x : Symbol). Runs plan (before_head x) t a e z) (sym k) h

pub before_head-rest : (y : Symbol) (t : TokenKind) (a : State) (e : Ending) (z : State) → (((c : ℕ) × y ≡ Char c) ⊎ (y ≡ Eof)) → Runs plan (implying_head) t a e z → Runs plan (before_head y) t a e z
before_head-rest y t a e z (inl m) h = subst (λ (x : Symbol). Runs plan (before_head x) t a e z) (sym m.1) h
before_head-rest y t a e z (inr m) h = subst (λ (x : Symbol). Runs plan (before_head x) t a e z) (sym m) h

pub ruleset arms = (rule_words, by_body_rules, before_head_start-Html, before_head_start-Head, before_head_start-other, before_head_end-is_page_part, before_head_end-other, before_head-doctype, before_head-comment, before_head-start, before_head-end, before_head-rest)
