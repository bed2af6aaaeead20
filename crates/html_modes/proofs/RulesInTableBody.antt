-- The arms of the "in table body" insertion mode, one lemma each: of a token that meets its test and no earlier one, the table has this plan.
use Rattle.std.proofs.Common.{◌≡◌, true, false, refl, subst, sym}
use Rattle.std.proofs.lemmas.Bool.{false≢true}
use Rattle.html_names.specs.declared.sets.Scope.TheVariants as scope
use Rattle.html_names.specs.declared.tag.Tag.{Tag}
use Rattle.html_names.specs.declared.tag.Tag.TheVariants as tag
use Rattle.html_names.specs.Groups.{ends_section, is_ignored_in_table}
use Rattle.html_names.specs.Sets.{is_cell, is_section}
use Rattle.html_names.specs.Tags.{is_same}
use Rattle.html_tokens.specs.declared.token.TokenKind.{TokenKind}
use Rattle.html_ledger.specs.declared.fate.Cause.TheVariants.{Misplaced}
use Rattle.html_ledger.specs.declared.symbol.Symbol.{Symbol}
use Rattle.html_ledger.specs.declared.symbol.Symbol.TheVariants.{Start, End, Char, Comment, Doctype, Eof}
use Rattle.html_tree.specs.declared.groups.Group.TheVariants as group
use Rattle.html_tree.specs.declared.groups.Stop.TheVariants as stop
use Rattle.html_tree.specs.declared.groups.TableContext.TheVariants as context
use Rattle.html_construction.specs.declared.mode.Mode.TheVariants as mode
use Rattle.html_construction.specs.Plans.{Ask, By, Do, Ending, Runs, implying_part}
use Rattle.html_construction.specs.States.{State}
use Rattle.html_construction.specs.Words.{ClearTo, Finds, Switch}
use Rattle.html_modes.specs.RuleForms.{again, done_with, ignored}
use Rattle.html_modes.specs.Rules.{plan}
use Rattle.html_modes.specs.RulesInTableBody.{in_table_body, in_table_body_end, in_table_body_start, closing_section}
use Rattle.html_modes.proofs.RulesInTable.{by_table_rules}
use Rattle.html_modes.proofs.Ruled.{is_neither, other_than, rule_words}

ends_section-not-Tr : (g : Tag) → ends_section g ≡ true → is_same g tag.Tr ≡ false
ends_section-not-Tr tag.Tr e = absurd (false≢true e)
ends_section-not-Tr _ e = refl

ends_section-not-is_cell : (g : Tag) → ends_section g ≡ true → is_cell g ≡ false
ends_section-not-is_cell tag.Td e = absurd (false≢true e)
ends_section-not-is_cell tag.Th e = absurd (false≢true e)
ends_section-not-is_cell _ e = refl

is_cell-not-Tr : (g : Tag) → is_cell g ≡ true → is_same g tag.Tr ≡ false
is_cell-not-Tr tag.Tr e = absurd (false≢true e)
is_cell-not-Tr _ e = refl

is_ignored_in_table-not-Table : (g : Tag) → is_ignored_in_table g ≡ true → is_same g tag.Table ≡ false
is_ignored_in_table-not-Table tag.Table e = absurd (false≢true e)
is_ignored_in_table-not-Table _ e = refl

is_section-not-Table : (g : Tag) → is_section g ≡ true → is_same g tag.Table ≡ false
is_section-not-Table tag.Table e = absurd (false≢true e)
is_section-not-Table _ e = refl

pub in_table_body_start-Tr : (g : Tag) (t : TokenKind) (a : State) (e : Ending) (z : State) → g ≡ tag.Tr → Runs plan (in_table_body_start tag.Tr) t a e z → Runs plan (in_table_body_start g) t a e z
in_table_body_start-Tr g t a e z k h = subst (λ (x : Tag). Runs plan (in_table_body_start x) t a e z) (sym k) h

pub in_table_body_start-is_cell : (g : Tag) (t : TokenKind) (a : State) (e : Ending) (z : State) → is_cell g ≡ true → Runs plan (Do (ClearTo context.Body) (implying_part tag.Tr (Do (Switch mode.InRow) again))) t a e z → Runs plan (in_table_body_start g) t a e z
in_table_body_start-is_cell g t a e z k h = rw (is_cell-not-Tr g k, k) h

pub in_table_body_start-ends_section : (g : Tag) (t : TokenKind) (a : State) (e : Ending) (z : State) → ends_section g ≡ true → Runs plan (closing_section again (ignored Misplaced)) t a e z → Runs plan (in_table_body_start g) t a e z
in_table_body_start-ends_section g t a e z k h = rw (ends_section-not-Tr g k, ends_section-not-is_cell g k, k) h

pub in_table_body_start-other : (g : Tag) (t : TokenKind) (a : State) (e : Ending) (z : State) → (g ≡ tag.Tr → ⊥) → is_cell g ≡ false → ends_section g ≡ false → Runs plan (By mode.InTable) t a e z → Runs plan (in_table_body_start g) t a e z
in_table_body_start-other g t a e z n0 n1 n2 h = rw (other_than g tag.Tr n0, n1, n2) h

pub in_table_body_end-Table : (g : Tag) (t : TokenKind) (a : State) (e : Ending) (z : State) → g ≡ tag.Table → Runs plan (in_table_body_end tag.Table) t a e z → Runs plan (in_table_body_end g) t a e z
in_table_body_end-Table g t a e z k h = subst (λ (x : Tag). Runs plan (in_table_body_end x) t a e z) (sym k) h

pub in_table_body_end-is_section : (g : Tag) (t : TokenKind) (a : State) (e : Ending) (z : State) → is_section g ≡ true → Runs plan (Ask (Finds (group.Named g) (stop.EndOf scope.Table)) (closing_section done_with done_with) done_with) t a e z → Runs plan (in_table_body_end g) t a e z
in_table_body_end-is_section g t a e z k h = rw (is_section-not-Table g k, k) h

pub in_table_body_end-is_ignored_in_table : (g : Tag) (t : TokenKind) (a : State) (e : Ending) (z : State) → is_section g ≡ false → is_ignored_in_table g ≡ true → Runs plan (done_with) t a e z → Runs plan (in_table_body_end g) t a e z
in_table_body_end-is_ignored_in_table g t a e z n0 k h = rw (is_ignored_in_table-not-Table g k, n0, k) h

pub in_table_body_end-other : (g : Tag) (t : TokenKind) (a : State) (e : Ending) (z : State) → (g ≡ tag.Table → ⊥) → is_section g ≡ false → is_ignored_in_table g ≡ false → Runs plan (By mode.InTable) t a e z → Runs plan (in_table_body_end g) t a e z
in_table_body_end-other g t a e z n0 n1 n2 h = rw (other_than g tag.Table n0, n1, n2) h

pub in_table_body-start : (y : Symbol) (g : Tag) (t : TokenKind) (a : State) (e : Ending) (z : State) → y ≡ Start g → Runs plan (in_table_body_start g) t a e z → Runs plan (in_table_body y) t a e z
in_table_body-start y g t a e z k h = subst (λ (x : Symbol). Runs plan (in_table_body x) t a e z) (sym k) h

pub in_table_body-end : (y : Symbol) (g : Tag) (t : TokenKind) (a : State) (e : Ending) (z : State) → y ≡ End g → Runs plan (in_table_body_end g) t a e z → Runs plan (in_table_body y) t a e z
in_table_body-end y g t a e z k h = subst (λ (x : Symbol). Runs plan (in_table_body x) t a e z) (sym k) h

pub in_table_body-neither : (y : Symbol) (t : TokenKind) (a : State) (e : Ending) (z : State) → is_neither y ≡ true → Runs plan (By mode.InTable) t a e z → Runs plan (in_table_body y) t a e z
in_table_body-neither (Start g) t a e z k h = absurd (false≢true k)
in_table_body-neither (End g) t a e z k h = absurd (false≢true k)
in_table_body-neither (Char c) t a e z k h = h
in_table_body-neither Comment t a e z k h = h
in_table_body-neither Doctype t a e z k h = h
in_table_body-neither Eof t a e z k h = h

pub ruleset arms = (rule_words, by_table_rules, in_table_body_start-Tr, in_table_body_start-is_cell, in_table_body_start-ends_section, in_table_body_start-other, in_table_body_end-Table, in_table_body_end-is_section, in_table_body_end-is_ignored_in_table, in_table_body_end-other, in_table_body-start, in_table_body-end, in_table_body-neither)
