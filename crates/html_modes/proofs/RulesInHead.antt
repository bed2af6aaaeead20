-- The arms of the "in head" insertion mode, one lemma each: of a token that meets its test and no earlier one, the table has this plan.
use Rattle.std.proofs.Common.{ℕ, ◌≡◌, true, false, refl, subst, sym}
use Rattle.std.proofs.lemmas.Bool.{false≢true}
use Rattle.html_names.specs.declared.tag.Tag.{Tag}
use Rattle.html_names.specs.declared.tag.Tag.TheVariants as tag
use Rattle.html_names.specs.Groups.{is_head_text, is_noscript_part, is_page_part}
use Rattle.html_names.specs.Sets.{is_headish}
use Rattle.html_names.specs.Tags.{is_same}
use Rattle.html_tokens.specs.declared.token.TokenKind.{TokenKind}
use Rattle.html_ledger.specs.declared.symbol.Symbol.{Symbol}
use Rattle.html_ledger.specs.declared.symbol.Symbol.TheVariants.{Start, End, Char, Comment, Doctype, Eof}
use Rattle.html_ledger.specs.Spaces.{is_space}
use Rattle.html_ledger.specs.Symbols.{symbol_of}
use Rattle.html_construction.specs.declared.mode.Mode.TheVariants as mode
use Rattle.html_construction.specs.Plans.{By, Do, Ending, Runs, goes_by}
use Rattle.html_construction.specs.States.{State}
use Rattle.html_construction.specs.Words.{Insert, InsertCharacter, InsertComment, InsertVoid}
use Rattle.html_modes.specs.RuleForms.{again, done_with, ignored_doctype, over}
use Rattle.html_modes.specs.Rules.{plan}
use Rattle.html_modes.specs.RulesInHead.{closing_template, holding_text, in_head, in_head_end, in_head_part, in_head_start, leaving_head, opening_template}
use Rattle.html_construction.specs.Words.{Word}
use Rattle.html_construction.proofs.Weighing.{same-tag}
use Rattle.html_modes.proofs.RulesInBody.{by_body_rules}
use Rattle.html_modes.proofs.Ruled.{other_than, rule_words}

is_headish-not-Html : (g : Tag) → is_headish g ≡ true → is_same g tag.Html ≡ false
is_headish-not-Html tag.Html e = absurd (false≢true e)
is_headish-not-Html _ e = refl

pub in_head_start-Html : (g : Tag) (t : TokenKind) (a : State) (e : Ending) (z : State) → g ≡ tag.Html → Runs plan (in_head_start tag.Html) t a e z → Runs plan (in_head_start g) t a e z
in_head_start-Html g t a e z k h = subst (λ (x : Tag). Runs plan (in_head_start x) t a e z) (sym k) h

pub in_head_start-is_headish : (g : Tag) (t : TokenKind) (a : State) (e : Ending) (z : State) → is_headish g ≡ true → Runs plan (in_head_part Insert (InsertVoid g) g) t a e z → Runs plan (in_head_start g) t a e z
in_head_start-is_headish g t a e z k h = rw (is_headish-not-Html g k, k) h

pub in_head_start-Noscript : (g : Tag) (t : TokenKind) (a : State) (e : Ending) (z : State) → g ≡ tag.Noscript → Runs plan (in_head_start tag.Noscript) t a e z → Runs plan (in_head_start g) t a e z
in_head_start-Noscript g t a e z k h = subst (λ (x : Tag). Runs plan (in_head_start x) t a e z) (sym k) h

pub in_head_start-Head : (g : Tag) (t : TokenKind) (a : State) (e : Ending) (z : State) → g ≡ tag.Head → Runs plan (in_head_start tag.Head) t a e z → Runs plan (in_head_start g) t a e z
in_head_start-Head g t a e z k h = subst (λ (x : Tag). Runs plan (in_head_start x) t a e z) (sym k) h

pub in_head_start-other : (g : Tag) (t : TokenKind) (a : State) (e : Ending) (z : State) → (g ≡ tag.Html → ⊥) → is_headish g ≡ false → (g ≡ tag.Noscript → ⊥) → (g ≡ tag.Head → ⊥) → Runs plan (leaving_head again) t a e z → Runs plan (in_head_start g) t a e z
in_head_start-other g t a e z n0 n1 n2 n3 h = rw (other_than g tag.Html n0, n1, other_than g tag.Noscript n2, other_than g tag.Head n3) h

pub in_head_end-Head : (g : Tag) (t : TokenKind) (a : State) (e : Ending) (z : State) → g ≡ tag.Head → Runs plan (in_head_end tag.Head) t a e z → Runs plan (in_head_end g) t a e z
in_head_end-Head g t a e z k h = subst (λ (x : Tag). Runs plan (in_head_end x) t a e z) (sym k) h

pub in_head_end-Template : (g : Tag) (t : TokenKind) (a : State) (e : Ending) (z : State) → g ≡ tag.Template → Runs plan (in_head_end tag.Template) t a e z → Runs plan (in_head_end g) t a e z
in_head_end-Template g t a e z k h = subst (λ (x : Tag). Runs plan (in_head_end x) t a e z) (sym k) h

pub in_head_end-is_page_part : (g : Tag) (t : TokenKind) (a : State) (e : Ending) (z : State) → (g ≡ tag.Head → ⊥) → is_page_part g ≡ true → Runs plan (leaving_head again) t a e z → Runs plan (in_head_end g) t a e z
in_head_end-is_page_part g t a e z n0 k h = rw (other_than g tag.Head n0, k) h

pub in_head_end-other : (g : Tag) (t : TokenKind) (a : State) (e : Ending) (z : State) → (g ≡ tag.Head → ⊥) → (g ≡ tag.Template → ⊥) → is_page_part g ≡ false → Runs plan (done_with) t a e z → Runs plan (in_head_end g) t a e z
in_head_end-other g t a e z n0 n1 n2 h = rw (other_than g tag.Head n0, n2, other_than g tag.Template n1) h

pub part-text : (i v : Word) (g : Tag) (t : TokenKind) (a : State) (e : Ending) (z : State) → is_head_text g ≡ true → Runs plan (holding_text i) t a e z → Runs plan (in_head_part i v g) t a e z
part-text i v g t a e z k h = rw (k) h

pub part-template : (i v : Word) (g : Tag) (t : TokenKind) (a : State) (e : Ending) (z : State) → g ≡ tag.Template → Runs plan (opening_template i) t a e z → Runs plan (in_head_part i v g) t a e z
part-template i v g t a e z k h = subst (λ (x : Tag). Runs plan (in_head_part i v x) t a e z) (sym k) h

pub part-template-is : (i v : Word) (g : Tag) (t : TokenKind) (a : State) (e : Ending) (z : State) → is_same g tag.Template ≡ true → Runs plan (opening_template i) t a e z → Runs plan (in_head_part i v g) t a e z
part-template-is i v g t a e z k h = part-template i v g t a e z (same-tag g tag.Template k) h

pub part-void : (i v : Word) (g : Tag) (t : TokenKind) (a : State) (e : Ending) (z : State) → is_head_text g ≡ false → is_same g tag.Template ≡ false → Runs plan (Do v over) t a e z → Runs plan (in_head_part i v g) t a e z
part-void i v g t a e z k n h = rw (k, n) h

pub in_head-space : (y : Symbol) (c : ℕ) (t : TokenKind) (a : State) (e : Ending) (z : State) → y ≡ Char c → (is_space c) ≡ true → Runs plan (Do InsertCharacter over) t a e z → Runs plan (in_head y) t a e z
in_head-space y c t a e z k m h = subst (λ (x : Symbol). Runs plan (in_head x) t a e z) (sym k) (rw (m) h)

pub in_head-char : (y : Symbol) (c : ℕ) (t : TokenKind) (a : State) (e : Ending) (z : State) → y ≡ Char c → (is_space c) ≡ false → Runs plan (leaving_head again) t a e z → Runs plan (in_head y) t a e z
in_head-char y c t a e z k m h = subst (λ (x : Symbol). Runs plan (in_head x) t a e z) (sym k) (rw (m) h)

pub in_head-comment : (y : Symbol) (t : TokenKind) (a : State) (e : Ending) (z : State) → y ≡ Comment → Runs plan (Do InsertComment over) t a e z → Runs plan (in_head y) t a e z
in_head-comment y t a e z k h = subst (λ (x : Symbol). Runs plan (in_head x) t a e z) (sym k) h

pub in_head-doctype : (y : Symbol) (t : TokenKind) (a : State) (e : Ending) (z : State) → y ≡ Doctype → Runs plan (ignored_doctype) t a e z → Runs plan (in_head y) t a e z
in_head-doctype y t a e z k h = subst (λ (x : Symbol). Runs plan (in_head x) t a e z) (sym k) h

pub in_head-start : (y : Symbol) (g : Tag) (t : TokenKind) (a : State) (e : Ending) (z : State) → y ≡ Start g → Runs plan (in_head_start g) t a e z → Runs plan (in_head y) t a e z
in_head-start y g t a e z k h = subst (λ (x : Symbol). Runs plan (in_head x) t a e z) (sym k) h

pub in_head-end : (y : Symbol) (g : Tag) (t : TokenKind) (a : State) (e : Ending) (z : State) → y ≡ End g → Runs plan (in_head_end g) t a e z → Runs plan (in_head y) t a e z
in_head-end y g t a e z k h = subst (λ (x : Symbol). Runs plan (in_head x) t a e z) (sym k) h

pub in_head-eof : (y : Symbol) (t : TokenKind) (a : State) (e : Ending) (z : State) → y ≡ Eof → Runs plan (leaving_head again) t a e z → Runs plan (in_head y) t a e z
in_head-eof y t a e z k h = subst (λ (x : Symbol). Runs plan (in_head x) t a e z) (sym k) h

-- a token of another mode goes by these rules
pub by_head : (y : Symbol) (t : TokenKind) (a : State) (e : Ending) (z : State) → symbol_of t ≡ y → Runs plan (in_head y) t a e z → Runs plan (By mode.InHead) t a e z
unfolding plan
by_head y t a e z k h = goes_by mode.InHead t a e z (subst (λ (x : Symbol). Runs plan (in_head x) t a e z) (sym k) h)

pub by_head-space : (c : ℕ) (t : TokenKind) (a : State) (e : Ending) (z : State) → symbol_of t ≡ Char c → is_space c ≡ true → Runs plan (Do InsertCharacter over) t a e z → Runs plan (By mode.InHead) t a e z
by_head-space c t a e z k m h = by_head (Char c) t a e z k (in_head-space (Char c) c t a e z refl m h)

pub by_head-comment : (t : TokenKind) (a : State) (e : Ending) (z : State) → symbol_of t ≡ Comment → Runs plan (Do InsertComment over) t a e z → Runs plan (By mode.InHead) t a e z
by_head-comment t a e z k h = by_head Comment t a e z k h

pub by_head-part : (g : Tag) (t : TokenKind) (a : State) (e : Ending) (z : State) → symbol_of t ≡ Start g → is_headish g ≡ true → Runs plan (in_head_part Insert (InsertVoid g) g) t a e z → Runs plan (By mode.InHead) t a e z
by_head-part g t a e z k m h = by_head (Start g) t a e z k (in_head_start-is_headish g t a e z m h)

pub by_head-noframes : (t : TokenKind) (a : State) (e : Ending) (z : State) → symbol_of t ≡ Start tag.Noframes → Runs plan (holding_text Insert) t a e z → Runs plan (By mode.InHead) t a e z
by_head-noframes t a e z k h = by_head (Start tag.Noframes) t a e z k h

pub by_head-template : (t : TokenKind) (a : State) (e : Ending) (z : State) → symbol_of t ≡ Start tag.Template → Runs plan (opening_template Insert) t a e z → Runs plan (By mode.InHead) t a e z
by_head-template t a e z k h = by_head (Start tag.Template) t a e z k h

pub by_head-script : (g : Tag) (t : TokenKind) (a : State) (e : Ending) (z : State) → symbol_of t ≡ Start g → g ≡ tag.Script → Runs plan (in_head_part Insert (InsertVoid tag.Script) tag.Script) t a e z → Runs plan (By mode.InHead) t a e z
by_head-script g t a e z k m h = by_head (Start tag.Script) t a e z (subst (λ (x : Tag). symbol_of t ≡ Start x) m k) h

pub by_head-template_end : (t : TokenKind) (a : State) (e : Ending) (z : State) → symbol_of t ≡ End tag.Template → Runs plan (closing_template done_with done_with) t a e z → Runs plan (By mode.InHead) t a e z
by_head-template_end t a e z k h = by_head (End tag.Template) t a e z k h

pub noscript-headish : (g : Tag) → is_noscript_part g ≡ true → is_headish g ≡ true
noscript-headish tag.Basefont e = refl
noscript-headish tag.Bgsound e = refl
noscript-headish tag.Link e = refl
noscript-headish tag.Meta e = refl
noscript-headish tag.Noframes e = refl
noscript-headish tag.Style e = refl
noscript-headish _ e = absurd (false≢true e)

pub ruleset by_head_rules = (by_head-space, by_head-comment, by_head-part, by_head-script, by_head-noframes, by_head-template, by_head-template_end, noscript-headish)

pub ruleset arms = (rule_words, by_body_rules, in_head_start-Html, in_head_start-is_headish, in_head_start-Noscript, in_head_start-Head, in_head_start-other, in_head_end-Head, in_head_end-Template, in_head_end-is_page_part, in_head_end-other, part-text, part-template, part-template-is, part-void, in_head-space, in_head-char, in_head-comment, in_head-doctype, in_head-start, in_head-end, in_head-eof)
