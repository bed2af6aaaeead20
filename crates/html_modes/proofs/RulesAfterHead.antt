-- The arms of the "after head" insertion mode, one lemma each: of a token that meets its test and no earlier one, the table has this plan.
use Rattle.std.proofs.Common.{ℕ, ◌≡◌, true, false, refl, subst, sym}
use Rattle.std.proofs.lemmas.Bool.{false≢true}
use Rattle.html_names.specs.declared.tag.Tag.{Tag}
use Rattle.html_names.specs.declared.tag.Tag.TheVariants as tag
use Rattle.html_names.specs.Groups.{is_page_part}
use Rattle.html_names.specs.Sets.{is_headish}
use Rattle.html_names.specs.Tags.{is_same}
use Rattle.html_tokens.specs.declared.token.TokenKind.{TokenKind}
use Rattle.html_ledger.specs.declared.symbol.Symbol.{Symbol}
use Rattle.html_ledger.specs.declared.symbol.Symbol.TheVariants.{Start, End, Char, Comment, Doctype, Eof}
use Rattle.html_ledger.specs.Spaces.{is_space}
use Rattle.html_tree.specs.declared.groups.Target.TheVariants as target
use Rattle.html_construction.specs.Plans.{Do, Ending, Runs}
use Rattle.html_construction.specs.States.{State}
use Rattle.html_construction.specs.Words.{InsertAt, InsertCharacter, InsertComment, InsertVoidAt}
use Rattle.html_modes.specs.RuleForms.{done_with, ignored_doctype, over}
use Rattle.html_modes.specs.Rules.{plan}
use Rattle.html_modes.specs.RulesInHead.{in_head_part}
use Rattle.html_modes.specs.RulesAfterHead.{after_head, after_head_end, after_head_start, implying_body}
use Rattle.html_modes.proofs.RulesInHead.{by_head_rules}
use Rattle.html_modes.proofs.RulesInBody.{by_body_rules}
use Rattle.html_modes.proofs.Ruled.{other_than, rule_words}

is_headish-not-Body : (g : Tag) → is_headish g ≡ true → is_same g tag.Body ≡ false
is_headish-not-Body tag.Body e = absurd (false≢true e)
is_headish-not-Body _ e = refl

is_headish-not-Frameset : (g : Tag) → is_headish g ≡ true → is_same g tag.Frameset ≡ false
is_headish-not-Frameset tag.Frameset e = absurd (false≢true e)
is_headish-not-Frameset _ e = refl

is_headish-not-Html : (g : Tag) → is_headish g ≡ true → is_same g tag.Html ≡ false
is_headish-not-Html tag.Html e = absurd (false≢true e)
is_headish-not-Html _ e = refl

pub after_head_start-Html : (g : Tag) (t : TokenKind) (a : State) (e : Ending) (z : State) → g ≡ tag.Html → Runs plan (after_head_start tag.Html) t a e z → Runs plan (after_head_start g) t a e z
after_head_start-Html g t a e z k h = subst (λ (x : Tag). Runs plan (after_head_start x) t a e z) (sym k) h

pub after_head_start-Body : (g : Tag) (t : TokenKind) (a : State) (e : Ending) (z : State) → g ≡ tag.Body → Runs plan (after_head_start tag.Body) t a e z → Runs plan (after_head_start g) t a e z
after_head_start-Body g t a e z k h = subst (λ (x : Tag). Runs plan (after_head_start x) t a e z) (sym k) h

pub after_head_start-Frameset : (g : Tag) (t : TokenKind) (a : State) (e : Ending) (z : State) → g ≡ tag.Frameset → Runs plan (after_head_start tag.Frameset) t a e z → Runs plan (after_head_start g) t a e z
after_head_start-Frameset g t a e z k h = subst (λ (x : Tag). Runs plan (after_head_start x) t a e z) (sym k) h

pub after_head_start-is_headish : (g : Tag) (t : TokenKind) (a : State) (e : Ending) (z : State) → is_headish g ≡ true → Runs plan (in_head_part (InsertAt target.Head) (InsertVoidAt g target.Head) g) t a e z → Runs plan (after_head_start g) t a e z
after_head_start-is_headish g t a e z k h = rw (is_headish-not-Html g k, is_headish-not-Body g k, is_headish-not-Frameset g k, k) h

pub after_head_start-Head : (g : Tag) (t : TokenKind) (a : State) (e : Ending) (z : State) → g ≡ tag.Head → Runs plan (after_head_start tag.Head) t a e z → Runs plan (after_head_start g) t a e z
after_head_start-Head g t a e z k h = subst (λ (x : Tag). Runs plan (after_head_start x) t a e z) (sym k) h

pub after_head_start-other : (g : Tag) (t : TokenKind) (a : State) (e : Ending) (z : State) → (g ≡ tag.Html → ⊥) → (g ≡ tag.Body → ⊥) → (g ≡ tag.Frameset → ⊥) → (g ≡ tag.Head → ⊥) → is_headish g ≡ false → Runs plan (implying_body) t a e z → Runs plan (after_head_start g) t a e z
after_head_start-other g t a e z n0 n1 n2 n3 n4 h = rw (other_than g tag.Html n0, other_than g tag.Body n1, other_than g tag.Frameset n2, n4, other_than g tag.Head n3) h

pub after_head_end-Template : (g : Tag) (t : TokenKind) (a : State) (e : Ending) (z : State) → g ≡ tag.Template → Runs plan (after_head_end tag.Template) t a e z → Runs plan (after_head_end g) t a e z
after_head_end-Template g t a e z k h = subst (λ (x : Tag). Runs plan (after_head_end x) t a e z) (sym k) h

pub after_head_end-Head : (g : Tag) (t : TokenKind) (a : State) (e : Ending) (z : State) → g ≡ tag.Head → Runs plan (after_head_end tag.Head) t a e z → Runs plan (after_head_end g) t a e z
after_head_end-Head g t a e z k h = subst (λ (x : Tag). Runs plan (after_head_end x) t a e z) (sym k) h

pub after_head_end-is_page_part : (g : Tag) (t : TokenKind) (a : State) (e : Ending) (z : State) → (g ≡ tag.Template → ⊥) → (g ≡ tag.Head → ⊥) → is_page_part g ≡ true → Runs plan (implying_body) t a e z → Runs plan (after_head_end g) t a e z
after_head_end-is_page_part g t a e z n0 n1 k h = rw (other_than g tag.Template n0, other_than g tag.Head n1, k) h

pub after_head_end-other : (g : Tag) (t : TokenKind) (a : State) (e : Ending) (z : State) → (g ≡ tag.Template → ⊥) → (g ≡ tag.Head → ⊥) → is_page_part g ≡ false → Runs plan (done_with) t a e z → Runs plan (after_head_end g) t a e z
after_head_end-other g t a e z n0 n1 n2 h = rw (other_than g tag.Template n0, other_than g tag.Head n1, n2) h

pub after_head-space : (y : Symbol) (c : ℕ) (t : TokenKind) (a : State) (e : Ending) (z : State) → y ≡ Char c → (is_space c) ≡ true → Runs plan (Do InsertCharacter over) t a e z → Runs plan (after_head y) t a e z
after_head-space y c t a e z k m h = subst (λ (x : Symbol). Runs plan (after_head x) t a e z) (sym k) (rw (m) h)

pub after_head-char : (y : Symbol) (c : ℕ) (t : TokenKind) (a : State) (e : Ending) (z : State) → y ≡ Char c → (is_space c) ≡ false → Runs plan (implying_body) t a e z → Runs plan (after_head y) t a e z
after_head-char y c t a e z k m h = subst (λ (x : Symbol). Runs plan (after_head x) t a e z) (sym k) (rw (m) h)

pub after_head-comment : (y : Symbol) (t : TokenKind) (a : State) (e : Ending) (z : State) → y ≡ Comment → Runs plan (Do InsertComment over) t a e z → Runs plan (after_head y) t a e z
after_head-comment y t a e z k h = subst (λ (x : Symbol). Runs plan (after_head x) t a e z) (sym k) h

pub after_head-doctype : (y : Symbol) (t : TokenKind) (a : State) (e : Ending) (z : State) → y ≡ Doctype → Runs plan (ignored_doctype) t a e z → Runs plan (after_head y) t a e z
after_head-doctype y t a e z k h = subst (λ (x : Symbol). Runs plan (after_head x) t a e z) (sym k) h

pub after_head-start : (y : Symbol) (g : Tag) (t : TokenKind) (a : State) (e : Ending) (z : State) → y ≡ Start g → Runs plan (after_head_start g) t a e z → Runs plan (after_head y) t a e z
after_head-start y g t a e z k h = subst (λ (x : Symbol). Runs plan (after_head x) t a e z) (sym k) h

pub after_head-end : (y : Symbol) (g : Tag) (t : TokenKind) (a : State) (e : Ending) (z : State) → y ≡ End g → Runs plan (after_head_end g) t a e z → Runs plan (after_head y) t a e z
after_head-end y g t a e z k h = subst (λ (x : Symbol). Runs plan (after_head x) t a e z) (sym k) h

pub after_head-eof : (y : Symbol) (t : TokenKind) (a : State) (e : Ending) (z : State) → y ≡ Eof → Runs plan (implying_body) t a e z → Runs plan (after_head y) t a e z
after_head-eof y t a e z k h = subst (λ (x : Symbol). Runs plan (after_head x) t a e z) (sym k) h

pub ruleset arms = (rule_words, by_body_rules, by_head_rules, after_head_start-Html, after_head_start-Body, after_head_start-Frameset, after_head_start-is_headish, after_head_start-Head, after_head_start-other, after_head_end-Template, after_head_end-Head, after_head_end-is_page_part, after_head_end-other, after_head-space, after_head-char, after_head-comment, after_head-doctype, after_head-start, after_head-end, after_head-eof)
