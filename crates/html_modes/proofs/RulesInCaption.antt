-- The arms of the "in caption" insertion mode, one lemma each: of a token that meets its test and no earlier one, the table has this plan.
use Rattle.std.proofs.Common.{◌≡◌, true, false, refl, subst, sym}
use Rattle.std.proofs.lemmas.Bool.{false≢true}
use Rattle.html_names.specs.declared.tag.Tag.{Tag}
use Rattle.html_names.specs.declared.tag.Tag.TheVariants as tag
use Rattle.html_names.specs.Groups.{is_ignored_in_table, is_table_piece}
use Rattle.html_names.specs.Tags.{is_same}
use Rattle.html_tokens.specs.declared.token.TokenKind.{TokenKind}
use Rattle.html_ledger.specs.declared.fate.Cause.TheVariants.{Misplaced}
use Rattle.html_ledger.specs.declared.symbol.Symbol.{Symbol}
use Rattle.html_ledger.specs.declared.symbol.Symbol.TheVariants.{Start, End, Char, Comment, Doctype, Eof}
use Rattle.html_construction.specs.declared.mode.Mode.TheVariants as mode
use Rattle.html_construction.specs.Plans.{By, Ending, Runs}
use Rattle.html_construction.specs.States.{State}
use Rattle.html_modes.specs.RuleForms.{again, done_with, ignored}
use Rattle.html_modes.specs.Rules.{plan}
use Rattle.html_modes.specs.RulesInCaption.{in_caption, in_caption_end, in_caption_start, closing_caption}
use Rattle.html_modes.proofs.RulesInBody.{by_body_rules}
use Rattle.html_modes.proofs.Ruled.{is_neither, other_than, rule_words}

is_ignored_in_table-not-Table : (g : Tag) → is_ignored_in_table g ≡ true → is_same g tag.Table ≡ false
is_ignored_in_table-not-Table tag.Table e = absurd (false≢true e)
is_ignored_in_table-not-Table _ e = refl

pub in_caption_start-is_table_piece : (g : Tag) (t : TokenKind) (a : State) (e : Ending) (z : State) → is_table_piece g ≡ true → Runs plan (closing_caption again (ignored Misplaced)) t a e z → Runs plan (in_caption_start g) t a e z
in_caption_start-is_table_piece g t a e z k h = rw (k) h

pub in_caption_start-other : (g : Tag) (t : TokenKind) (a : State) (e : Ending) (z : State) → is_table_piece g ≡ false → Runs plan (By mode.InBody) t a e z → Runs plan (in_caption_start g) t a e z
in_caption_start-other g t a e z n0 h = rw (n0) h

pub in_caption_end-Caption : (g : Tag) (t : TokenKind) (a : State) (e : Ending) (z : State) → g ≡ tag.Caption → Runs plan (in_caption_end tag.Caption) t a e z → Runs plan (in_caption_end g) t a e z
in_caption_end-Caption g t a e z k h = subst (λ (x : Tag). Runs plan (in_caption_end x) t a e z) (sym k) h

pub in_caption_end-Table : (g : Tag) (t : TokenKind) (a : State) (e : Ending) (z : State) → g ≡ tag.Table → Runs plan (in_caption_end tag.Table) t a e z → Runs plan (in_caption_end g) t a e z
in_caption_end-Table g t a e z k h = subst (λ (x : Tag). Runs plan (in_caption_end x) t a e z) (sym k) h

pub in_caption_end-is_ignored_in_table : (g : Tag) (t : TokenKind) (a : State) (e : Ending) (z : State) → (g ≡ tag.Caption → ⊥) → is_ignored_in_table g ≡ true → Runs plan (done_with) t a e z → Runs plan (in_caption_end g) t a e z
in_caption_end-is_ignored_in_table g t a e z n0 k h = rw (other_than g tag.Caption n0, is_ignored_in_table-not-Table g k, k) h

pub in_caption_end-other : (g : Tag) (t : TokenKind) (a : State) (e : Ending) (z : State) → (g ≡ tag.Caption → ⊥) → (g ≡ tag.Table → ⊥) → is_ignored_in_table g ≡ false → Runs plan (By mode.InBody) t a e z → Runs plan (in_caption_end g) t a e z
in_caption_end-other g t a e z n0 n1 n2 h = rw (other_than g tag.Caption n0, other_than g tag.Table n1, n2) h

pub in_caption-start : (y : Symbol) (g : Tag) (t : TokenKind) (a : State) (e : Ending) (z : State) → y ≡ Start g → Runs plan (in_caption_start g) t a e z → Runs plan (in_caption y) t a e z
in_caption-start y g t a e z k h = subst (λ (x : Symbol). Runs plan (in_caption x) t a e z) (sym k) h

pub in_caption-end : (y : Symbol) (g : Tag) (t : TokenKind) (a : State) (e : Ending) (z : State) → y ≡ End g → Runs plan (in_caption_end g) t a e z → Runs plan (in_caption y) t a e z
in_caption-end y g t a e z k h = subst (λ (x : Symbol). Runs plan (in_caption x) t a e z) (sym k) h

pub in_caption-neither : (y : Symbol) (t : TokenKind) (a : State) (e : Ending) (z : State) → is_neither y ≡ true → Runs plan (By mode.InBody) t a e z → Runs plan (in_caption y) t a e z
in_caption-neither (Start g) t a e z k h = absurd (false≢true k)
in_caption-neither (End g) t a e z k h = absurd (false≢true k)
in_caption-neither (Char c) t a e z k h = h
in_caption-neither Comment t a e z k h = h
in_caption-neither Doctype t a e z k h = h
in_caption-neither Eof t a e z k h = h

pub ruleset arms = (rule_words, by_body_rules, in_caption_start-is_table_piece, in_caption_start-other, in_caption_end-Caption, in_caption_end-Table, in_caption_end-is_ignored_in_table, in_caption_end-other, in_caption-start, in_caption-end, in_caption-neither)
