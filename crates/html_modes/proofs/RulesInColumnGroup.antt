-- The arms of the "in column group" insertion mode, one lemma each: of a token that meets its test and no earlier one, the table has this plan.
use Rattle.std.proofs.Common.{ℕ, ◌≡◌, ◌&&◌, Bool, true, false, ap, subst, sym, ◌∙◌, if◌then◌else◌}
use Rattle.html_names.specs.declared.tag.Tag.{Tag}
use Rattle.html_names.specs.declared.tag.Tag.TheVariants as tag
use Rattle.html_tokens.specs.declared.token.TokenKind.{TokenKind}
use Rattle.html_ledger.specs.declared.symbol.Symbol.{Symbol}
use Rattle.html_ledger.specs.declared.symbol.Symbol.TheVariants.{Start, End, Char, Comment, Doctype, Eof}
use Rattle.html_ledger.specs.MayDrop.{is_outside_column_group}
use Rattle.html_ledger.specs.Spaces.{is_space}
use Rattle.html_ledger.specs.Symbols.{symbol_of}
use Rattle.html_construction.specs.declared.mode.Mode.TheVariants as mode
use Rattle.html_construction.specs.Modes.{is_of_column_groups}
use Rattle.html_construction.specs.Plans.{Ask, By, Do, Ending, Plan, Runs}
use Rattle.html_construction.specs.States.{State}
use Rattle.html_construction.specs.Words.{InsertCharacter, InsertComment, IsOutsideColumnGroup}
use Rattle.html_modes.specs.RuleForms.{again, done_with, ignored_doctype, over}
use Rattle.html_modes.specs.Rules.{plan}
use Rattle.html_modes.specs.RulesInColumnGroup.{closing_column_group, in_column_group, in_column_group_end, in_column_group_start, leaving_column_group}
use Rattle.html_modes.proofs.RulesInHead.{by_head_rules}
use Rattle.html_modes.proofs.RulesInBody.{by_body_rules}
use Rattle.html_modes.proofs.Ruled.{asked, other_than, rule_words}

pub in_column_group_start-Html : (g : Tag) (t : TokenKind) (a : State) (e : Ending) (z : State) → g ≡ tag.Html → Runs plan (in_column_group_start tag.Html) t a e z → Runs plan (in_column_group_start g) t a e z
in_column_group_start-Html g t a e z k h = subst (λ (x : Tag). Runs plan (in_column_group_start x) t a e z) (sym k) h

pub in_column_group_start-Col : (g : Tag) (t : TokenKind) (a : State) (e : Ending) (z : State) → g ≡ tag.Col → Runs plan (in_column_group_start tag.Col) t a e z → Runs plan (in_column_group_start g) t a e z
in_column_group_start-Col g t a e z k h = subst (λ (x : Tag). Runs plan (in_column_group_start x) t a e z) (sym k) h

pub in_column_group_start-Template : (g : Tag) (t : TokenKind) (a : State) (e : Ending) (z : State) → g ≡ tag.Template → Runs plan (in_column_group_start tag.Template) t a e z → Runs plan (in_column_group_start g) t a e z
in_column_group_start-Template g t a e z k h = subst (λ (x : Tag). Runs plan (in_column_group_start x) t a e z) (sym k) h

pub in_column_group_start-other : (g : Tag) (t : TokenKind) (a : State) (e : Ending) (z : State) → (g ≡ tag.Html → ⊥) → (g ≡ tag.Col → ⊥) → (g ≡ tag.Template → ⊥) → Runs plan leaving_column_group t a e z → Runs plan (in_column_group_start g) t a e z
in_column_group_start-other g t a e z n0 n1 n2 h = rw (other_than g tag.Html n0, other_than g tag.Col n1, other_than g tag.Template n2) h

pub in_column_group_end-Colgroup : (g : Tag) (t : TokenKind) (a : State) (e : Ending) (z : State) → g ≡ tag.Colgroup → Runs plan (in_column_group_end tag.Colgroup) t a e z → Runs plan (in_column_group_end g) t a e z
in_column_group_end-Colgroup g t a e z k h = subst (λ (x : Tag). Runs plan (in_column_group_end x) t a e z) (sym k) h

pub in_column_group_end-Col : (g : Tag) (t : TokenKind) (a : State) (e : Ending) (z : State) → g ≡ tag.Col → Runs plan (in_column_group_end tag.Col) t a e z → Runs plan (in_column_group_end g) t a e z
in_column_group_end-Col g t a e z k h = subst (λ (x : Tag). Runs plan (in_column_group_end x) t a e z) (sym k) h

pub in_column_group_end-Template : (g : Tag) (t : TokenKind) (a : State) (e : Ending) (z : State) → g ≡ tag.Template → Runs plan (in_column_group_end tag.Template) t a e z → Runs plan (in_column_group_end g) t a e z
in_column_group_end-Template g t a e z k h = subst (λ (x : Tag). Runs plan (in_column_group_end x) t a e z) (sym k) h

pub in_column_group_end-other : (g : Tag) (t : TokenKind) (a : State) (e : Ending) (z : State) → (g ≡ tag.Colgroup → ⊥) → (g ≡ tag.Col → ⊥) → (g ≡ tag.Template → ⊥) → Runs plan (closing_column_group again done_with) t a e z → Runs plan (in_column_group_end g) t a e z
in_column_group_end-other g t a e z n0 n1 n2 h = rw (other_than g tag.Colgroup n0, other_than g tag.Col n1, other_than g tag.Template n2) h

pub in_column_group-space : (y : Symbol) (c : ℕ) (t : TokenKind) (a : State) (e : Ending) (z : State) → y ≡ Char c → (is_space c) ≡ true → Runs plan (Do InsertCharacter over) t a e z → Runs plan (in_column_group y) t a e z
in_column_group-space y c t a e z k m h = subst (λ (x : Symbol). Runs plan (in_column_group x) t a e z) (sym k) (rw (m) h)

pub in_column_group-char : (y : Symbol) (c : ℕ) (t : TokenKind) (a : State) (e : Ending) (z : State) → y ≡ Char c → (is_space c) ≡ false → Runs plan leaving_column_group t a e z → Runs plan (in_column_group y) t a e z
in_column_group-char y c t a e z k m h = subst (λ (x : Symbol). Runs plan (in_column_group x) t a e z) (sym k) (rw (m) h)

pub in_column_group-comment : (y : Symbol) (t : TokenKind) (a : State) (e : Ending) (z : State) → y ≡ Comment → Runs plan (Do InsertComment over) t a e z → Runs plan (in_column_group y) t a e z
in_column_group-comment y t a e z k h = subst (λ (x : Symbol). Runs plan (in_column_group x) t a e z) (sym k) h

pub in_column_group-doctype : (y : Symbol) (t : TokenKind) (a : State) (e : Ending) (z : State) → y ≡ Doctype → Runs plan (ignored_doctype) t a e z → Runs plan (in_column_group y) t a e z
in_column_group-doctype y t a e z k h = subst (λ (x : Symbol). Runs plan (in_column_group x) t a e z) (sym k) h

pub in_column_group-start : (y : Symbol) (g : Tag) (t : TokenKind) (a : State) (e : Ending) (z : State) → y ≡ Start g → Runs plan (in_column_group_start g) t a e z → Runs plan (in_column_group y) t a e z
in_column_group-start y g t a e z k h = subst (λ (x : Symbol). Runs plan (in_column_group x) t a e z) (sym k) h

pub in_column_group-end : (y : Symbol) (g : Tag) (t : TokenKind) (a : State) (e : Ending) (z : State) → y ≡ End g → Runs plan (in_column_group_end g) t a e z → Runs plan (in_column_group y) t a e z
in_column_group-end y g t a e z k h = subst (λ (x : Symbol). Runs plan (in_column_group x) t a e z) (sym k) h

pub in_column_group-eof : (y : Symbol) (t : TokenKind) (a : State) (e : Ending) (z : State) → y ≡ Eof → Runs plan (By mode.InBody) t a e z → Runs plan (in_column_group y) t a e z
in_column_group-eof y t a e z k h = subst (λ (x : Symbol). Runs plan (in_column_group x) t a e z) (sym k) h

-- whether the token may be outside a column group
pub outside-asked : (x : Bool) (y : Symbol) (p n : Plan) (t : TokenKind) (a : State) (e : Ending) (z : State) → symbol_of t ≡ y → x ≡ (is_of_column_groups a.began && (a.ledger.history.col && is_outside_column_group y))
    → Runs plan (if x then p else n) t a e z → Runs plan (Ask IsOutsideColumnGroup p n) t a e z
outside-asked x y p n t a e z k h = asked IsOutsideColumnGroup x p n t a e z (h ∙ ap (λ (s : Symbol). is_of_column_groups a.began && (a.ledger.history.col && is_outside_column_group s)) (sym k))

pub ruleset arms = (rule_words, by_body_rules, by_head_rules, in_column_group_start-Html, in_column_group_start-Col, in_column_group_start-Template, in_column_group_start-other, in_column_group_end-Colgroup, in_column_group_end-Col, in_column_group_end-Template, in_column_group_end-other, in_column_group-space, in_column_group-char, in_column_group-comment, in_column_group-doctype, in_column_group-start, in_column_group-end, in_column_group-eof)
