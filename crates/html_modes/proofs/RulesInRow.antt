-- The arms of the "in row" insertion mode, one lemma each: of a token that meets its test and no earlier one, the table has this plan.
use Rattle.std.proofs.Common.{◌≡◌, true, false, refl, subst, sym}
use Rattle.std.proofs.lemmas.Bool.{false≢true}
use Rattle.html_names.specs.declared.sets.Scope.TheVariants as scope
use Rattle.html_names.specs.declared.tag.Tag.{Tag}
use Rattle.html_names.specs.declared.tag.Tag.TheVariants as tag
use Rattle.html_names.specs.Groups.{ends_row, is_ignored_in_table}
use Rattle.html_names.specs.Sets.{is_cell, is_section}
use Rattle.html_names.specs.Tags.{is_same}
use Rattle.html_tokens.specs.declared.token.TokenKind.{TokenKind}
use Rattle.html_ledger.specs.declared.fate.Cause.TheVariants.{Misplaced}
use Rattle.html_ledger.specs.declared.symbol.Symbol.{Symbol}
use Rattle.html_ledger.specs.declared.symbol.Symbol.TheVariants.{Start, End, Char, Comment, Doctype, Eof}
use Rattle.html_tree.specs.declared.groups.Group.TheVariants as group
use Rattle.html_tree.specs.declared.groups.Stop.TheVariants as stop
use Rattle.html_tree.specs.declared.groups.TableContext.TheVariants as context
use Rattle.html_construction.specs.declared.mode.Mode.TheVariants as mode
use Rattle.html_construction.specs.Plans.{Ask, By, Do, Ending, Runs, inserting_part}
use Rattle.html_construction.specs.States.{State}
use Rattle.html_construction.specs.Words.{AddMarker, ClearTo, Finds, Switch}
use Rattle.html_modes.specs.RuleForms.{again, done_with, ignored, over}
use Rattle.html_modes.specs.Rules.{plan}
use Rattle.html_modes.specs.RulesInRow.{in_row, in_row_end, in_row_start, closing_row}
use Rattle.html_modes.proofs.RulesInTable.{by_table_rules}
use Rattle.html_modes.proofs.Ruled.{is_neither, other_than, rule_words}

ends_row-not-is_cell : (g : Tag) → ends_row g ≡ true → is_cell g ≡ false
ends_row-not-is_cell tag.Td e = absurd (false≢true e)
ends_row-not-is_cell tag.Th e = absurd (false≢true e)
ends_row-not-is_cell _ e = refl

is_ignored_in_table-not-Table : (g : Tag) → is_ignored_in_table g ≡ true → is_same g tag.Table ≡ false
is_ignored_in_table-not-Table tag.Table e = absurd (false≢true e)
is_ignored_in_table-not-Table _ e = refl

is_section-not-Table : (g : Tag) → is_section g ≡ true → is_same g tag.Table ≡ false
is_section-not-Table tag.Table e = absurd (false≢true e)
is_section-not-Table _ e = refl

is_section-not-Tr : (g : Tag) → is_section g ≡ true → is_same g tag.Tr ≡ false
is_section-not-Tr tag.Tr e = absurd (false≢true e)
is_section-not-Tr _ e = refl

pub in_row_start-is_cell : (g : Tag) (t : TokenKind) (a : State) (e : Ending) (z : State) → is_cell g ≡ true → Runs plan (Do (ClearTo context.Row) (inserting_part g (Do (Switch mode.InCell) (Do AddMarker over)))) t a e z → Runs plan (in_row_start g) t a e z
in_row_start-is_cell g t a e z k h = rw (k) h

pub in_row_start-ends_row : (g : Tag) (t : TokenKind) (a : State) (e : Ending) (z : State) → ends_row g ≡ true → Runs plan (closing_row again (ignored Misplaced)) t a e z → Runs plan (in_row_start g) t a e z
in_row_start-ends_row g t a e z k h = rw (ends_row-not-is_cell g k, k) h

pub in_row_start-other : (g : Tag) (t : TokenKind) (a : State) (e : Ending) (z : State) → is_cell g ≡ false → ends_row g ≡ false → Runs plan (By mode.InTable) t a e z → Runs plan (in_row_start g) t a e z
in_row_start-other g t a e z n0 n1 h = rw (n0, n1) h

pub in_row_end-Tr : (g : Tag) (t : TokenKind) (a : State) (e : Ending) (z : State) → g ≡ tag.Tr → Runs plan (in_row_end tag.Tr) t a e z → Runs plan (in_row_end g) t a e z
in_row_end-Tr g t a e z k h = subst (λ (x : Tag). Runs plan (in_row_end x) t a e z) (sym k) h

pub in_row_end-Table : (g : Tag) (t : TokenKind) (a : State) (e : Ending) (z : State) → g ≡ tag.Table → Runs plan (in_row_end tag.Table) t a e z → Runs plan (in_row_end g) t a e z
in_row_end-Table g t a e z k h = subst (λ (x : Tag). Runs plan (in_row_end x) t a e z) (sym k) h

pub in_row_end-is_section : (g : Tag) (t : TokenKind) (a : State) (e : Ending) (z : State) → is_section g ≡ true → Runs plan (Ask (Finds (group.Named g) (stop.EndOf scope.Table)) (closing_row again done_with) done_with) t a e z → Runs plan (in_row_end g) t a e z
in_row_end-is_section g t a e z k h = rw (is_section-not-Tr g k, is_section-not-Table g k, k) h

pub in_row_end-is_ignored_in_table : (g : Tag) (t : TokenKind) (a : State) (e : Ending) (z : State) → (g ≡ tag.Tr → ⊥) → is_section g ≡ false → is_ignored_in_table g ≡ true → Runs plan (done_with) t a e z → Runs plan (in_row_end g) t a e z
in_row_end-is_ignored_in_table g t a e z n0 n1 k h = rw (other_than g tag.Tr n0, is_ignored_in_table-not-Table g k, n1, k) h

pub in_row_end-other : (g : Tag) (t : TokenKind) (a : State) (e : Ending) (z : State) → (g ≡ tag.Tr → ⊥) → (g ≡ tag.Table → ⊥) → is_section g ≡ false → is_ignored_in_table g ≡ false → Runs plan (By mode.InTable) t a e z → Runs plan (in_row_end g) t a e z
in_row_end-other g t a e z n0 n1 n2 n3 h = rw (other_than g tag.Tr n0, other_than g tag.Table n1, n2, n3) h

pub in_row-start : (y : Symbol) (g : Tag) (t : TokenKind) (a : State) (e : Ending) (z : State) → y ≡ Start g → Runs plan (in_row_start g) t a e z → Runs plan (in_row y) t a e z
in_row-start y g t a e z k h = subst (λ (x : Symbol). Runs plan (in_row x) t a e z) (sym k) h

pub in_row-end : (y : Symbol) (g : Tag) (t : TokenKind) (a : State) (e : Ending) (z : State) → y ≡ End g → Runs plan (in_row_end g) t a e z → Runs plan (in_row y) t a e z
in_row-end y g t a e z k h = subst (λ (x : Symbol). Runs plan (in_row x) t a e z) (sym k) h

pub in_row-neither : (y : Symbol) (t : TokenKind) (a : State) (e : Ending) (z : State) → is_neither y ≡ true → Runs plan (By mode.InTable) t a e z → Runs plan (in_row y) t a e z
in_row-neither (Start g) t a e z k h = absurd (false≢true k)
in_row-neither (End g) t a e z k h = absurd (false≢true k)
in_row-neither (Char c) t a e z k h = h
in_row-neither Comment t a e z k h = h
in_row-neither Doctype t a e z k h = h
in_row-neither Eof t a e z k h = h

pub ruleset arms = (rule_words, by_table_rules, in_row_start-is_cell, in_row_start-ends_row, in_row_start-other, in_row_end-Tr, in_row_end-Table, in_row_end-is_section, in_row_end-is_ignored_in_table, in_row_end-other, in_row-start, in_row-end, in_row-neither)
