-- The arms of the "in body" insertion mode, one lemma each: of a token that meets its test and no earlier one, the table has this plan.
use Rattle.std.proofs.Common.{ℕ, ◌≡◌, ◌⊎◌, ◌==◌, true, false, inl, inr, refl, sym, subst}
use Rattle.std.proofs.lemmas.Bool.{false≢true, cases_Bool, eqb-true}
use Rattle.html_names.specs.declared.tag.Tag.{Tag}
use Rattle.html_names.specs.Groups.{is_ignored_in_table}
use Rattle.html_names.specs.Tags.{is_same}
use Rattle.html_tokens.specs.declared.token.TokenKind.{TokenKind}
use Rattle.html_ledger.specs.declared.fate.Cause.TheVariants.{Null}
use Rattle.html_ledger.specs.declared.symbol.Symbol.{Symbol}
use Rattle.html_ledger.specs.declared.symbol.Symbol.TheVariants.{Start, End, Char, Comment, Doctype, Eof}
use Rattle.html_ledger.specs.Spaces.{is_space}
use Rattle.html_ledger.specs.Symbols.{symbol_of}
use Rattle.html_construction.specs.Plans.{By, Do, Ending, Reconstruct, Runs, goes_by}
use Rattle.html_construction.specs.States.{State}
use Rattle.html_construction.specs.Words.{FramesetOff, InsertCharacter, InsertComment}
use Rattle.html_modes.specs.Guards.{is_root_end}
use Rattle.html_modes.specs.RuleForms.{again, done_with, ignored, ignored_doctype, over}
use Rattle.html_modes.specs.Rules.{plan}
use Rattle.html_modes.specs.RulesInBody.{in_body, in_body_char}
use Rattle.html_modes.specs.RulesInBodyEnd.{closing_body, in_body_end}
use Rattle.html_modes.specs.RulesInBodyStart.{in_body_start}
use Rattle.html_modes.specs.RulesInHead.{closing_template}
use Rattle.html_modes.specs.RulesInTemplate.{in_template}
use Rattle.html_modes.proofs.Ruled.{is_neither, other_than, rule_words}
use Rattle.html_names.specs.declared.tag.Tag.TheVariants as tag
use Rattle.html_construction.specs.declared.mode.Mode.TheVariants as mode

pub in_body_char-null : (c : ℕ) (t : TokenKind) (a : State) (e : Ending) (z : State) → (c == 0) ≡ true → Runs plan (ignored Null) t a e z → Runs plan (in_body_char c) t a e z
in_body_char-null c t a e z k h = rw (k) h

pub in_body_char-space : (c : ℕ) (t : TokenKind) (a : State) (e : Ending) (z : State) → (c == 0) ≡ false → is_space c ≡ true → Runs plan (Reconstruct (Do InsertCharacter over)) t a e z → Runs plan (in_body_char c) t a e z
in_body_char-space c t a e z k m h = rw (k, m) h

pub in_body_char-other : (c : ℕ) (t : TokenKind) (a : State) (e : Ending) (z : State) → (c == 0) ≡ false → is_space c ≡ false → Runs plan (Reconstruct (Do InsertCharacter (Do FramesetOff over))) t a e z → Runs plan (in_body_char c) t a e z
in_body_char-other c t a e z k m h = rw (k, m) h

pub not-null : (c : ℕ) → (c ≡ 0 → ⊥) → (c == 0) ≡ false
not-null c n = elim (cases_Bool (c == 0)) [ inl e ↦ absurd (n (eqb-true c 0 e)) | inr e ↦ e ]

pub in_body-char : (y : Symbol) (c : ℕ) (t : TokenKind) (a : State) (e : Ending) (z : State) → y ≡ Char c → Runs plan (in_body_char c) t a e z → Runs plan (in_body y) t a e z
in_body-char y c t a e z k h = subst (λ (x : Symbol). Runs plan (in_body x) t a e z) (sym k) h

pub in_body-comment : (y : Symbol) (t : TokenKind) (a : State) (e : Ending) (z : State) → y ≡ Comment → Runs plan (Do InsertComment over) t a e z → Runs plan (in_body y) t a e z
in_body-comment y t a e z k h = subst (λ (x : Symbol). Runs plan (in_body x) t a e z) (sym k) h

pub in_body-doctype : (y : Symbol) (t : TokenKind) (a : State) (e : Ending) (z : State) → y ≡ Doctype → Runs plan (ignored_doctype) t a e z → Runs plan (in_body y) t a e z
in_body-doctype y t a e z k h = subst (λ (x : Symbol). Runs plan (in_body x) t a e z) (sym k) h

pub in_body-start : (y : Symbol) (g : Tag) (t : TokenKind) (a : State) (e : Ending) (z : State) → y ≡ Start g → Runs plan (in_body_start g) t a e z → Runs plan (in_body y) t a e z
in_body-start y g t a e z k h = subst (λ (x : Symbol). Runs plan (in_body x) t a e z) (sym k) h

pub in_body-end : (y : Symbol) (g : Tag) (t : TokenKind) (a : State) (e : Ending) (z : State) → y ≡ End g → Runs plan (in_body_end g) t a e z → Runs plan (in_body y) t a e z
in_body-end y g t a e z k h = subst (λ (x : Symbol). Runs plan (in_body x) t a e z) (sym k) h

pub in_body-eof : (y : Symbol) (t : TokenKind) (a : State) (e : Ending) (z : State) → y ≡ Eof → Runs plan (in_body Eof) t a e z → Runs plan (in_body y) t a e z
in_body-eof y t a e z k h = subst (λ (x : Symbol). Runs plan (in_body x) t a e z) (sym k) h

-- an end tag that is not that of the root
pub in_body-other_end : (y : Symbol) (g : Tag) (t : TokenKind) (a : State) (e : Ending) (z : State) → y ≡ End g → is_root_end y ≡ false → (is_root_end (End g) ≡ false → Runs plan (in_body_end g) t a e z) → Runs plan (in_body y) t a e z
in_body-other_end y g t a e z k n h = in_body-end y g t a e z k (h (subst (λ (x : Symbol). is_root_end x ≡ false) k n))

pub in_body_end-Html : (y : Symbol) (t : TokenKind) (a : State) (e : Ending) (z : State) → y ≡ End tag.Html → Runs plan (closing_body again done_with) t a e z → Runs plan (in_body y) t a e z
in_body_end-Html y t a e z k h = in_body-end y tag.Html t a e z k h

-- not the end tag of the root
not-root : (g : Tag) → (g ≡ tag.Html → ⊥) → is_root_end (End g) ≡ false
not-root g n = other_than g tag.Html n

-- the page ends inside a template
pub by_template-eof : (t : TokenKind) (a : State) (e : Ending) (z : State) → symbol_of t ≡ Eof → Runs plan (closing_template again done_with) t a e z → Runs plan (By mode.InTemplate) t a e z
unfolding plan
by_template-eof t a e z k h = goes_by mode.InTemplate t a e z (subst (λ (x : Symbol). Runs plan (in_template x) t a e z) (sym k) h)

-- a token of another mode goes by these rules
pub by_body : (y : Symbol) (t : TokenKind) (a : State) (e : Ending) (z : State) → symbol_of t ≡ y → Runs plan (in_body y) t a e z → Runs plan (By mode.InBody) t a e z
unfolding plan
by_body y t a e z k h = goes_by mode.InBody t a e z (subst (λ (x : Symbol). Runs plan (in_body x) t a e z) (sym k) h)

pub by_body-char : (c : ℕ) (t : TokenKind) (a : State) (e : Ending) (z : State) → symbol_of t ≡ Char c → Runs plan (in_body_char c) t a e z → Runs plan (By mode.InBody) t a e z
by_body-char c t a e z k h = by_body (Char c) t a e z k h

pub by_body-html : (t : TokenKind) (a : State) (e : Ending) (z : State) → symbol_of t ≡ Start tag.Html → Runs plan (in_body_start tag.Html) t a e z → Runs plan (By mode.InBody) t a e z
by_body-html t a e z k h = by_body (Start tag.Html) t a e z k h

pub by_body-start : (g : Tag) (t : TokenKind) (a : State) (e : Ending) (z : State) → symbol_of t ≡ Start g → (is_root_end (Start g) ≡ false → Runs plan (in_body (Start g)) t a e z) → Runs plan (By mode.InBody) t a e z
by_body-start g t a e z k h = by_body (Start g) t a e z k (h refl)

pub by_body-end : (g : Tag) (t : TokenKind) (a : State) (e : Ending) (z : State) → symbol_of t ≡ End g → is_same g tag.Html ≡ false → (is_root_end (End g) ≡ false → Runs plan (in_body (End g)) t a e z) → Runs plan (By mode.InBody) t a e z
by_body-end g t a e z k n h = by_body (End g) t a e z k (h n)

pub by_body-neither : (y : Symbol) (t : TokenKind) (a : State) (e : Ending) (z : State) → symbol_of t ≡ y → is_neither y ≡ true → (is_root_end y ≡ false → Runs plan (in_body y) t a e z) → Runs plan (By mode.InBody) t a e z
by_body-neither y t a e z k n h = by_body y t a e z k (h (no-end y n))
  where
    no-end : (x : Symbol) → is_neither x ≡ true → is_root_end x ≡ false
    no-end (End g) q = absurd (false≢true q)
    no-end _ q = refl

pub three-neither : (y : Symbol) → (((c : ℕ) × y ≡ Char c) ⊎ ((y ≡ Comment) ⊎ (y ≡ Doctype))) → is_neither y ≡ true
three-neither y (inl h) = subst (λ (x : Symbol). is_neither x ≡ true) (sym h.1) refl
three-neither y (inr (inl h)) = subst (λ (x : Symbol). is_neither x ≡ true) (sym h) refl
three-neither y (inr (inr h)) = subst (λ (x : Symbol). is_neither x ≡ true) (sym h) refl

pub eof-neither : (y : Symbol) → y ≡ Eof → is_neither y ≡ true
eof-neither y h = subst (λ (x : Symbol). is_neither x ≡ true) (sym h) refl

pub not_html-ignored : (g : Tag) → is_ignored_in_table g ≡ false → is_same g tag.Html ≡ false
not_html-ignored tag.Html e = absurd (false≢true (sym e))
not_html-ignored _ e = refl

pub ruleset by_body_rules = (by_body-char, by_body-html, by_body-start, by_body-end, by_body-neither, three-neither, eof-neither, not_html-ignored)

pub ruleset arms = (rule_words, in_body_char-null, in_body_char-space, in_body_char-other, in_body-char, in_body-comment, in_body-doctype, in_body-start, in_body-other_end, in_body_end-Html, in_body-eof, by_template-eof)
