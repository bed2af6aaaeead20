-- The arms of the "in cell" insertion mode, one lemma each: of a token that meets its test and no earlier one, the table has this plan.
use Rattle.std.proofs.Common.{◌≡◌, true, false, refl, subst, sym}
use Rattle.std.proofs.lemmas.Bool.{false≢true}
use Rattle.html_names.specs.declared.sets.Scope.TheVariants as scope
use Rattle.html_names.specs.declared.tag.Tag.{Tag}
use Rattle.html_names.specs.declared.tag.Tag.TheVariants as tag
use Rattle.html_names.specs.Groups.{ends_cell, is_ignored_in_table, is_table_piece}
use Rattle.html_names.specs.Sets.{is_cell}
use Rattle.html_tokens.specs.declared.token.TokenKind.{TokenKind}
use Rattle.html_ledger.specs.declared.fate.Cause.TheVariants.{Misplaced}
use Rattle.html_ledger.specs.declared.symbol.Symbol.{Symbol}
use Rattle.html_ledger.specs.declared.symbol.Symbol.TheVariants.{Start, End, Char, Comment, Doctype, Eof}
use Rattle.html_tree.specs.declared.groups.Group.TheVariants as group
use Rattle.html_tree.specs.declared.groups.Stop.TheVariants as stop
use Rattle.html_construction.specs.declared.mode.Mode.TheVariants as mode
use Rattle.html_construction.specs.Plans.{Ask, By, Ending, Runs}
use Rattle.html_construction.specs.States.{State}
use Rattle.html_construction.specs.Words.{Finds}
use Rattle.html_modes.specs.RuleForms.{again, done_with, ignored}
use Rattle.html_modes.specs.Rules.{plan}
use Rattle.html_modes.specs.RulesInCell.{in_cell, in_cell_end, in_cell_start, closing_cell}
use Rattle.html_modes.proofs.RulesInBody.{by_body_rules}
use Rattle.html_modes.proofs.Ruled.{is_neither, other_than, rule_words}

ends_cell-not-is_cell : (g : Tag) → ends_cell g ≡ true → is_cell g ≡ false
ends_cell-not-is_cell tag.Td e = absurd (false≢true e)
ends_cell-not-is_cell tag.Th e = absurd (false≢true e)
ends_cell-not-is_cell _ e = refl

pub in_cell_start-is_table_piece : (g : Tag) (t : TokenKind) (a : State) (e : Ending) (z : State) → is_table_piece g ≡ true → Runs plan (closing_cell group.Cell again (ignored Misplaced)) t a e z → Runs plan (in_cell_start g) t a e z
in_cell_start-is_table_piece g t a e z k h = rw (k) h

pub in_cell_start-other : (g : Tag) (t : TokenKind) (a : State) (e : Ending) (z : State) → is_table_piece g ≡ false → Runs plan (By mode.InBody) t a e z → Runs plan (in_cell_start g) t a e z
in_cell_start-other g t a e z n0 h = rw (n0) h

pub in_cell_end-is_cell : (g : Tag) (t : TokenKind) (a : State) (e : Ending) (z : State) → is_cell g ≡ true → Runs plan (closing_cell (group.Named g) done_with done_with) t a e z → Runs plan (in_cell_end g) t a e z
in_cell_end-is_cell g t a e z k h = rw (k) h

pub in_cell_end-ends_cell : (g : Tag) (t : TokenKind) (a : State) (e : Ending) (z : State) → ends_cell g ≡ true → Runs plan (Ask (Finds (group.Named g) (stop.EndOf scope.Table)) (closing_cell group.Cell again done_with) done_with) t a e z → Runs plan (in_cell_end g) t a e z
in_cell_end-ends_cell g t a e z k h = rw (ends_cell-not-is_cell g k, k) h

pub in_cell_end-is_ignored_in_table : (g : Tag) (t : TokenKind) (a : State) (e : Ending) (z : State) → is_cell g ≡ false → ends_cell g ≡ false → is_ignored_in_table g ≡ true → Runs plan (done_with) t a e z → Runs plan (in_cell_end g) t a e z
in_cell_end-is_ignored_in_table g t a e z n0 n1 k h = rw (n0, n1, k) h

pub in_cell_end-other : (g : Tag) (t : TokenKind) (a : State) (e : Ending) (z : State) → is_cell g ≡ false → ends_cell g ≡ false → is_ignored_in_table g ≡ false → Runs plan (By mode.InBody) t a e z → Runs plan (in_cell_end g) t a e z
in_cell_end-other g t a e z n0 n1 n2 h = rw (n0, n1, n2) h

pub in_cell-start : (y : Symbol) (g : Tag) (t : TokenKind) (a : State) (e : Ending) (z : State) → y ≡ Start g → Runs plan (in_cell_start g) t a e z → Runs plan (in_cell y) t a e z
in_cell-start y g t a e z k h = subst (λ (x : Symbol). Runs plan (in_cell x) t a e z) (sym k) h

pub in_cell-end : (y : Symbol) (g : Tag) (t : TokenKind) (a : State) (e : Ending) (z : State) → y ≡ End g → Runs plan (in_cell_end g) t a e z → Runs plan (in_cell y) t a e z
in_cell-end y g t a e z k h = subst (λ (x : Symbol). Runs plan (in_cell x) t a e z) (sym k) h

pub in_cell-neither : (y : Symbol) (t : TokenKind) (a : State) (e : Ending) (z : State) → is_neither y ≡ true → Runs plan (By mode.InBody) t a e z → Runs plan (in_cell y) t a e z
in_cell-neither (Start g) t a e z k h = absurd (false≢true k)
in_cell-neither (End g) t a e z k h = absurd (false≢true k)
in_cell-neither (Char c) t a e z k h = h
in_cell-neither Comment t a e z k h = h
in_cell-neither Doctype t a e z k h = h
in_cell-neither Eof t a e z k h = h

pub ruleset arms = (rule_words, by_body_rules, in_cell_start-is_table_piece, in_cell_start-other, in_cell_end-is_cell, in_cell_end-ends_cell, in_cell_end-is_ignored_in_table, in_cell_end-other, in_cell-start, in_cell-end, in_cell-neither)
