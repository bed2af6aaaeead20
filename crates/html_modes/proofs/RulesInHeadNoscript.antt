-- The arms of the "in head noscript" insertion mode, one lemma each: of a token that meets its test and no earlier one, the table has this plan.
use Rattle.std.proofs.Common.{ℕ, ◌≡◌, ◌∙◌, Bool, true, false, refl, subst, sym}
use Rattle.std.proofs.lemmas.Bool.{false≢true}
use Rattle.html_names.specs.declared.tag.Tag.{Tag}
use Rattle.html_names.specs.declared.tag.Tag.TheVariants as tag
use Rattle.html_names.specs.Groups.{is_noscript_part}
use Rattle.html_names.specs.Tags.{is_same}
use Rattle.html_tokens.specs.declared.token.TokenKind.{TokenKind}
use Rattle.html_ledger.specs.declared.fate.Cause.TheVariants.{Misplaced}
use Rattle.html_ledger.specs.declared.symbol.Symbol.{Symbol}
use Rattle.html_ledger.specs.declared.symbol.Symbol.TheVariants.{Start, End, Char, Comment, Doctype, Eof}
use Rattle.html_ledger.specs.Flags.{may_misplace_tag}
use Rattle.html_ledger.specs.Spaces.{is_space}
use Rattle.html_construction.specs.declared.mode.Mode.TheVariants as mode
use Rattle.html_construction.specs.Plans.{By, Ending, Runs}
use Rattle.html_construction.specs.States.{State}
use Rattle.html_construction.specs.Words.{MayMisplace}
use Rattle.html_modes.specs.RuleForms.{again, done_with, ignored, ignored_doctype}
use Rattle.html_modes.specs.Rules.{plan}
use Rattle.html_modes.specs.RulesInHeadNoscript.{in_head_noscript, in_head_noscript_end, in_head_noscript_start, leaving_noscript}
use Rattle.html_modes.proofs.RulesInHead.{by_head_rules}
use Rattle.html_modes.proofs.RulesInBody.{by_body_rules}
use Rattle.html_modes.proofs.Ruled.{asked, other_than, rule_words}

is_noscript_part-not-Html : (g : Tag) → is_noscript_part g ≡ true → is_same g tag.Html ≡ false
is_noscript_part-not-Html tag.Html e = absurd (false≢true e)
is_noscript_part-not-Html _ e = refl

pub in_head_noscript_start-Html : (g : Tag) (t : TokenKind) (a : State) (e : Ending) (z : State) → g ≡ tag.Html → Runs plan (in_head_noscript_start tag.Html) t a e z → Runs plan (in_head_noscript_start g) t a e z
in_head_noscript_start-Html g t a e z k h = subst (λ (x : Tag). Runs plan (in_head_noscript_start x) t a e z) (sym k) h

pub in_head_noscript_start-is_noscript_part : (g : Tag) (t : TokenKind) (a : State) (e : Ending) (z : State) → is_noscript_part g ≡ true → Runs plan (By mode.InHead) t a e z → Runs plan (in_head_noscript_start g) t a e z
in_head_noscript_start-is_noscript_part g t a e z k h = rw (is_noscript_part-not-Html g k, k) h

pub in_head_noscript_start-Head : (g : Tag) (t : TokenKind) (a : State) (e : Ending) (z : State) → g ≡ tag.Head → Runs plan (in_head_noscript_start tag.Head) t a e z → Runs plan (in_head_noscript_start g) t a e z
in_head_noscript_start-Head g t a e z k h = subst (λ (x : Tag). Runs plan (in_head_noscript_start x) t a e z) (sym k) h

pub in_head_noscript_start-Noscript : (g : Tag) (t : TokenKind) (a : State) (e : Ending) (z : State) → g ≡ tag.Noscript → Runs plan (in_head_noscript_start tag.Noscript) t a e z → Runs plan (in_head_noscript_start g) t a e z
in_head_noscript_start-Noscript g t a e z k h = subst (λ (x : Tag). Runs plan (in_head_noscript_start x) t a e z) (sym k) h

pub in_head_noscript_start-other : (g : Tag) (t : TokenKind) (a : State) (e : Ending) (z : State) → (g ≡ tag.Html → ⊥) → is_noscript_part g ≡ false → (g ≡ tag.Head → ⊥) → (g ≡ tag.Noscript → ⊥) → Runs plan (leaving_noscript again) t a e z → Runs plan (in_head_noscript_start g) t a e z
in_head_noscript_start-other g t a e z n0 n1 n2 n3 h = rw (other_than g tag.Html n0, n1, other_than g tag.Head n2, other_than g tag.Noscript n3) h

pub in_head_noscript_end-Noscript : (g : Tag) (t : TokenKind) (a : State) (e : Ending) (z : State) → g ≡ tag.Noscript → Runs plan (in_head_noscript_end tag.Noscript) t a e z → Runs plan (in_head_noscript_end g) t a e z
in_head_noscript_end-Noscript g t a e z k h = subst (λ (x : Tag). Runs plan (in_head_noscript_end x) t a e z) (sym k) h

pub in_head_noscript_end-Br : (g : Tag) (t : TokenKind) (a : State) (e : Ending) (z : State) → g ≡ tag.Br → Runs plan (in_head_noscript_end tag.Br) t a e z → Runs plan (in_head_noscript_end g) t a e z
in_head_noscript_end-Br g t a e z k h = subst (λ (x : Tag). Runs plan (in_head_noscript_end x) t a e z) (sym k) h

pub in_head_noscript_end-other : (g : Tag) (t : TokenKind) (a : State) (e : Ending) (z : State) → (g ≡ tag.Noscript → ⊥) → (g ≡ tag.Br → ⊥) → Runs plan (done_with) t a e z → Runs plan (in_head_noscript_end g) t a e z
in_head_noscript_end-other g t a e z n0 n1 h = rw (other_than g tag.Noscript n0, other_than g tag.Br n1) h

pub in_head_noscript-doctype : (y : Symbol) (t : TokenKind) (a : State) (e : Ending) (z : State) → y ≡ Doctype → Runs plan (ignored_doctype) t a e z → Runs plan (in_head_noscript y) t a e z
in_head_noscript-doctype y t a e z k h = subst (λ (x : Symbol). Runs plan (in_head_noscript x) t a e z) (sym k) h

pub in_head_noscript-start : (y : Symbol) (g : Tag) (t : TokenKind) (a : State) (e : Ending) (z : State) → y ≡ Start g → Runs plan (in_head_noscript_start g) t a e z → Runs plan (in_head_noscript y) t a e z
in_head_noscript-start y g t a e z k h = subst (λ (x : Symbol). Runs plan (in_head_noscript x) t a e z) (sym k) h

pub in_head_noscript-end : (y : Symbol) (g : Tag) (t : TokenKind) (a : State) (e : Ending) (z : State) → y ≡ End g → Runs plan (in_head_noscript_end g) t a e z → Runs plan (in_head_noscript y) t a e z
in_head_noscript-end y g t a e z k h = subst (λ (x : Symbol). Runs plan (in_head_noscript x) t a e z) (sym k) h

pub in_head_noscript-space : (y : Symbol) (c : ℕ) (t : TokenKind) (a : State) (e : Ending) (z : State) → y ≡ Char c → (is_space c) ≡ true → Runs plan (By mode.InHead) t a e z → Runs plan (in_head_noscript y) t a e z
in_head_noscript-space y c t a e z k m h = subst (λ (x : Symbol). Runs plan (in_head_noscript x) t a e z) (sym k) (rw (m) h)

pub in_head_noscript-char : (y : Symbol) (c : ℕ) (t : TokenKind) (a : State) (e : Ending) (z : State) → y ≡ Char c → (is_space c) ≡ false → Runs plan (leaving_noscript again) t a e z → Runs plan (in_head_noscript y) t a e z
in_head_noscript-char y c t a e z k m h = subst (λ (x : Symbol). Runs plan (in_head_noscript x) t a e z) (sym k) (rw (m) h)

pub in_head_noscript-comment : (y : Symbol) (t : TokenKind) (a : State) (e : Ending) (z : State) → y ≡ Comment → Runs plan (By mode.InHead) t a e z → Runs plan (in_head_noscript y) t a e z
in_head_noscript-comment y t a e z k h = subst (λ (x : Symbol). Runs plan (in_head_noscript x) t a e z) (sym k) h

pub in_head_noscript-eof : (y : Symbol) (t : TokenKind) (a : State) (e : Ending) (z : State) → y ≡ Eof → Runs plan (leaving_noscript again) t a e z → Runs plan (in_head_noscript y) t a e z
in_head_noscript-eof y t a e z k h = subst (λ (x : Symbol). Runs plan (in_head_noscript x) t a e z) (sym k) h

-- a noscript in one
pub noscript-ignored : (x : Bool) (t : TokenKind) (a : State) (e : Ending) (z : State) → x ≡ may_misplace_tag a.ledger.history tag.Noscript → x ≡ true → Runs plan (ignored Misplaced) t a e z → Runs plan (in_head_noscript_start tag.Noscript) t a e z
noscript-ignored x t a e z k y h = asked (MayMisplace tag.Noscript) true (ignored Misplaced) (leaving_noscript again) t a e z (sym y ∙ k) h

pub noscript-left : (x : Bool) (t : TokenKind) (a : State) (e : Ending) (z : State) → x ≡ may_misplace_tag a.ledger.history tag.Noscript → x ≡ false → Runs plan (leaving_noscript again) t a e z → Runs plan (in_head_noscript_start tag.Noscript) t a e z
noscript-left x t a e z k n h = asked (MayMisplace tag.Noscript) false (ignored Misplaced) (leaving_noscript again) t a e z (sym n ∙ k) h

pub ruleset inner = (rule_words, noscript-ignored, noscript-left)

pub ruleset arms = (rule_words, by_body_rules, by_head_rules, in_head_noscript_start-Html, in_head_noscript_start-is_noscript_part, in_head_noscript_start-Head, in_head_noscript_start-Noscript, in_head_noscript_start-other, in_head_noscript_end-Noscript, in_head_noscript_end-Br, in_head_noscript_end-other, in_head_noscript-doctype, in_head_noscript-start, in_head_noscript-end, in_head_noscript-space, in_head_noscript-char, in_head_noscript-comment, in_head_noscript-eof)
