-- The arms of the "in frameset" insertion mode, one lemma each: of a token that meets its test and no earlier one, the table has this plan.
use Rattle.std.proofs.Common.{ℕ, ◌≡◌, ◌==◌, Bool, true, false, refl, subst, sym}
use Rattle.html_names.specs.declared.tag.Tag.{Tag}
use Rattle.html_names.specs.declared.tag.Tag.TheVariants as tag
use Rattle.html_tokens.specs.declared.token.TokenKind.{TokenKind}
use Rattle.html_ledger.specs.declared.fate.Cause.TheVariants.{InFrameset}
use Rattle.html_ledger.specs.declared.symbol.Symbol.{Symbol}
use Rattle.html_ledger.specs.declared.symbol.Symbol.TheVariants.{Start, End, Char, Comment, Doctype, Eof}
use Rattle.html_ledger.specs.Spaces.{is_space}
use Rattle.html_construction.specs.Plans.{Asks, Do, Ending, Runs}
use Rattle.html_construction.specs.States.{State}
use Rattle.html_construction.specs.Words.{InsertCharacter, InsertComment, IsRootAlone}
use Rattle.html_modes.specs.RuleForms.{done_with, ignored, ignored_doctype, over}
use Rattle.html_modes.specs.Rules.{plan}
use Rattle.html_modes.specs.RulesInFrameset.{closing_frameset, in_frameset, in_frameset_start}
use Rattle.html_modes.proofs.RulesInHead.{by_head_rules}
use Rattle.std.proofs.Common.{length}
use Rattle.html_construction.proofs.Doing.{asking}
use Rattle.html_modes.proofs.RulesInBody.{by_body_rules}
use Rattle.html_modes.proofs.Ruled.{other_than, rule_words}

pub in_frameset_start-Html : (g : Tag) (t : TokenKind) (a : State) (e : Ending) (z : State) → g ≡ tag.Html → Runs plan (in_frameset_start tag.Html) t a e z → Runs plan (in_frameset_start g) t a e z
in_frameset_start-Html g t a e z k h = subst (λ (x : Tag). Runs plan (in_frameset_start x) t a e z) (sym k) h

pub in_frameset_start-Frameset : (g : Tag) (t : TokenKind) (a : State) (e : Ending) (z : State) → g ≡ tag.Frameset → Runs plan (in_frameset_start tag.Frameset) t a e z → Runs plan (in_frameset_start g) t a e z
in_frameset_start-Frameset g t a e z k h = subst (λ (x : Tag). Runs plan (in_frameset_start x) t a e z) (sym k) h

pub in_frameset_start-Frame : (g : Tag) (t : TokenKind) (a : State) (e : Ending) (z : State) → g ≡ tag.Frame → Runs plan (in_frameset_start tag.Frame) t a e z → Runs plan (in_frameset_start g) t a e z
in_frameset_start-Frame g t a e z k h = subst (λ (x : Tag). Runs plan (in_frameset_start x) t a e z) (sym k) h

pub in_frameset_start-Noframes : (g : Tag) (t : TokenKind) (a : State) (e : Ending) (z : State) → g ≡ tag.Noframes → Runs plan (in_frameset_start tag.Noframes) t a e z → Runs plan (in_frameset_start g) t a e z
in_frameset_start-Noframes g t a e z k h = subst (λ (x : Tag). Runs plan (in_frameset_start x) t a e z) (sym k) h

pub in_frameset_start-other : (g : Tag) (t : TokenKind) (a : State) (e : Ending) (z : State) → (g ≡ tag.Html → ⊥) → (g ≡ tag.Frameset → ⊥) → (g ≡ tag.Frame → ⊥) → (g ≡ tag.Noframes → ⊥) → Runs plan (ignored InFrameset) t a e z → Runs plan (in_frameset_start g) t a e z
in_frameset_start-other g t a e z n0 n1 n2 n3 h = rw (other_than g tag.Html n0, other_than g tag.Frameset n1, other_than g tag.Frame n2, other_than g tag.Noframes n3) h

pub in_frameset-space : (y : Symbol) (c : ℕ) (t : TokenKind) (a : State) (e : Ending) (z : State) → y ≡ Char c → (is_space c) ≡ true → Runs plan (Do InsertCharacter over) t a e z → Runs plan (in_frameset y) t a e z
in_frameset-space y c t a e z k m h = subst (λ (x : Symbol). Runs plan (in_frameset x) t a e z) (sym k) (rw (m) h)

pub in_frameset-char : (y : Symbol) (c : ℕ) (t : TokenKind) (a : State) (e : Ending) (z : State) → y ≡ Char c → (is_space c) ≡ false → Runs plan (ignored InFrameset) t a e z → Runs plan (in_frameset y) t a e z
in_frameset-char y c t a e z k m h = subst (λ (x : Symbol). Runs plan (in_frameset x) t a e z) (sym k) (rw (m) h)

pub in_frameset-comment : (y : Symbol) (t : TokenKind) (a : State) (e : Ending) (z : State) → y ≡ Comment → Runs plan (Do InsertComment over) t a e z → Runs plan (in_frameset y) t a e z
in_frameset-comment y t a e z k h = subst (λ (x : Symbol). Runs plan (in_frameset x) t a e z) (sym k) h

pub in_frameset-doctype : (y : Symbol) (t : TokenKind) (a : State) (e : Ending) (z : State) → y ≡ Doctype → Runs plan (ignored_doctype) t a e z → Runs plan (in_frameset y) t a e z
in_frameset-doctype y t a e z k h = subst (λ (x : Symbol). Runs plan (in_frameset x) t a e z) (sym k) h

pub in_frameset-start : (y : Symbol) (g : Tag) (t : TokenKind) (a : State) (e : Ending) (z : State) → y ≡ Start g → Runs plan (in_frameset_start g) t a e z → Runs plan (in_frameset y) t a e z
in_frameset-start y g t a e z k h = subst (λ (x : Symbol). Runs plan (in_frameset x) t a e z) (sym k) h

pub in_frameset-end-Frameset : (y : Symbol) (g : Tag) (t : TokenKind) (a : State) (e : Ending) (z : State) → y ≡ End g → g ≡ tag.Frameset → Runs plan (closing_frameset done_with) t a e z → Runs plan (in_frameset y) t a e z
in_frameset-end-Frameset y g t a e z k m h = subst (λ (x : Symbol). Runs plan (in_frameset x) t a e z) (sym k) (subst (λ (x : Tag). Runs plan (in_frameset (End x)) t a e z) (sym m) h)

pub in_frameset-end-other : (y : Symbol) (g : Tag) (t : TokenKind) (a : State) (e : Ending) (z : State) → y ≡ End g → (g ≡ tag.Frameset → ⊥) → Runs plan (done_with) t a e z → Runs plan (in_frameset y) t a e z
in_frameset-end-other y g t a e z k m h = subst (λ (x : Symbol). Runs plan (in_frameset x) t a e z) (sym k) (rw (other_than g tag.Frameset m) h)

pub in_frameset-eof : (y : Symbol) (t : TokenKind) (a : State) (e : Ending) (z : State) → y ≡ Eof → Runs plan (done_with) t a e z → Runs plan (in_frameset y) t a e z
in_frameset-eof y t a e z k h = subst (λ (x : Symbol). Runs plan (in_frameset x) t a e z) (sym k) h

-- only one element is open
pub alone : (x : Bool) (a : State) → x ≡ (length a.tree.stack == 1) → Asks IsRootAlone x a a
alone x a k = asking IsRootAlone x a a (λ t. k) refl (record { tree_is = refl })

pub ruleset arms = (rule_words, by_body_rules, by_head_rules, in_frameset_start-Html, in_frameset_start-Frameset, in_frameset_start-Frame, in_frameset_start-Noframes, in_frameset_start-other, in_frameset-space, in_frameset-char, in_frameset-comment, in_frameset-doctype, in_frameset-start, in_frameset-end-Frameset, in_frameset-end-other, in_frameset-eof, alone)
