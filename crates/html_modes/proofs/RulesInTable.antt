-- The arms of the "in table" insertion mode, one lemma each: of a token that meets its test and no earlier one, the table has this plan.
use Rattle.std.proofs.Common.{ℕ, ◌≡◌, ◌⊎◌, Bool, true, false, inl, inr, refl, sym, subst, if◌then◌else◌}
use Rattle.std.proofs.lemmas.Bool.{false≢true}
use Rattle.html_names.specs.declared.tag.Tag.{Tag}
use Rattle.html_names.specs.Groups.{is_ignored_in_table, is_table_head, ends_row, ends_section}
use Rattle.html_names.specs.Sets.{is_cell, is_section}
use Rattle.html_names.specs.Tags.{is_same}
use Rattle.html_tokens.specs.declared.token.TokenKind.{TokenKind}
use Rattle.html_ledger.specs.declared.symbol.Symbol.{Symbol}
use Rattle.html_ledger.specs.declared.symbol.Symbol.TheVariants.{Start, End, Char, Comment, Doctype, Eof}
use Rattle.html_ledger.specs.Flags.{may_misplace_tag}
use Rattle.html_ledger.specs.Symbols.{symbol_of}
use Rattle.html_construction.specs.Plans.{Ask, By, Do, Ending, Plan, Runs, fosters, goes_by, inserting_part}
use Rattle.html_construction.specs.States.{State}
use Rattle.html_construction.specs.Tokens.{attrs_of}
use Rattle.html_construction.specs.Words.{Becomes, ClearTo, InsertComment, IsHidden, MayMisplace, Switch, is_hidden}
use Rattle.html_modes.specs.Guards.{is_root_end}
use Rattle.html_modes.specs.RuleForms.{done_with, fostering, ignored_doctype, over}
use Rattle.html_modes.specs.Rules.{plan}
use Rattle.html_modes.specs.RulesInBody.{in_body, in_body_char}
use Rattle.html_modes.specs.RulesInTable.{implying_section, in_table, in_table_end, in_table_other, in_table_other_start, in_table_start}
use Rattle.html_modes.proofs.RulesInHead.{by_head_rules}
use Rattle.html_modes.proofs.RulesInBody.{by_body, by_body_rules}
use Rattle.html_modes.proofs.Ruled.{is_neither, other_than, rule_words, asked}
use Rattle.html_names.specs.declared.tag.Tag.TheVariants as tag
use Rattle.html_tree.specs.declared.groups.TableContext.TheVariants as context
use Rattle.html_construction.specs.declared.mode.Mode.TheVariants as mode

is_section-not-Caption : (g : Tag) → is_section g ≡ true → is_same g tag.Caption ≡ false
is_section-not-Caption tag.Caption e = absurd (false≢true e)
is_section-not-Caption _ e = refl

is_section-not-Colgroup : (g : Tag) → is_section g ≡ true → is_same g tag.Colgroup ≡ false
is_section-not-Colgroup tag.Colgroup e = absurd (false≢true e)
is_section-not-Colgroup _ e = refl

is_section-not-Col : (g : Tag) → is_section g ≡ true → is_same g tag.Col ≡ false
is_section-not-Col tag.Col e = absurd (false≢true e)
is_section-not-Col _ e = refl

is_cell-not-Caption : (g : Tag) → is_cell g ≡ true → is_same g tag.Caption ≡ false
is_cell-not-Caption tag.Caption e = absurd (false≢true e)
is_cell-not-Caption _ e = refl

is_cell-not-Colgroup : (g : Tag) → is_cell g ≡ true → is_same g tag.Colgroup ≡ false
is_cell-not-Colgroup tag.Colgroup e = absurd (false≢true e)
is_cell-not-Colgroup _ e = refl

is_cell-not-Col : (g : Tag) → is_cell g ≡ true → is_same g tag.Col ≡ false
is_cell-not-Col tag.Col e = absurd (false≢true e)
is_cell-not-Col _ e = refl

is_cell-not-is_section : (g : Tag) → is_cell g ≡ true → is_section g ≡ false
is_cell-not-is_section tag.Td e = refl
is_cell-not-is_section tag.Th e = refl
is_cell-not-is_section _ e = absurd (false≢true e)

is_table_head-not-Table : (g : Tag) → is_table_head g ≡ true → is_same g tag.Table ≡ false
is_table_head-not-Table tag.Table e = absurd (false≢true e)
is_table_head-not-Table _ e = refl

is_ignored_in_table-not-Table : (g : Tag) → is_ignored_in_table g ≡ true → is_same g tag.Table ≡ false
is_ignored_in_table-not-Table tag.Table e = absurd (false≢true e)
is_ignored_in_table-not-Table _ e = refl

pub in_table_start-Caption : (g : Tag) (t : TokenKind) (a : State) (e : Ending) (z : State) → g ≡ tag.Caption → Runs plan (in_table_start tag.Caption) t a e z → Runs plan (in_table_start g) t a e z
in_table_start-Caption g t a e z k h = subst (λ (x : Tag). Runs plan (in_table_start x) t a e z) (sym k) h

pub in_table_start-Colgroup : (g : Tag) (t : TokenKind) (a : State) (e : Ending) (z : State) → g ≡ tag.Colgroup → Runs plan (in_table_start tag.Colgroup) t a e z → Runs plan (in_table_start g) t a e z
in_table_start-Colgroup g t a e z k h = subst (λ (x : Tag). Runs plan (in_table_start x) t a e z) (sym k) h

pub in_table_start-Col : (g : Tag) (t : TokenKind) (a : State) (e : Ending) (z : State) → g ≡ tag.Col → Runs plan (in_table_start tag.Col) t a e z → Runs plan (in_table_start g) t a e z
in_table_start-Col g t a e z k h = subst (λ (x : Tag). Runs plan (in_table_start x) t a e z) (sym k) h

pub in_table_start-is_section : (g : Tag) (t : TokenKind) (a : State) (e : Ending) (z : State) → is_section g ≡ true → Runs plan (Do (ClearTo context.Table) (inserting_part g (Do (Switch mode.InTableBody) over))) t a e z → Runs plan (in_table_start g) t a e z
in_table_start-is_section g t a e z k h = rw (is_section-not-Caption g k, is_section-not-Colgroup g k, is_section-not-Col g k, k) h

pub in_table_start-is_cell : (g : Tag) (t : TokenKind) (a : State) (e : Ending) (z : State) → is_cell g ≡ true → Runs plan (implying_section) t a e z → Runs plan (in_table_start g) t a e z
in_table_start-is_cell g t a e z k h = rw (is_cell-not-Caption g k, is_cell-not-Colgroup g k, is_cell-not-Col g k, is_cell-not-is_section g k, k) h

pub in_table_start-Tr : (g : Tag) (t : TokenKind) (a : State) (e : Ending) (z : State) → g ≡ tag.Tr → Runs plan (in_table_start tag.Tr) t a e z → Runs plan (in_table_start g) t a e z
in_table_start-Tr g t a e z k h = subst (λ (x : Tag). Runs plan (in_table_start x) t a e z) (sym k) h

pub in_table_start-other : (g : Tag) (t : TokenKind) (a : State) (e : Ending) (z : State) → (g ≡ tag.Caption → ⊥) → (g ≡ tag.Colgroup → ⊥) → (g ≡ tag.Col → ⊥) → is_section g ≡ false → is_cell g ≡ false → (g ≡ tag.Tr → ⊥) → Runs plan (in_table_other_start g) t a e z → Runs plan (in_table_start g) t a e z
in_table_start-other g t a e z n0 n1 n2 n3 n4 n5 h = rw (other_than g tag.Caption n0, other_than g tag.Colgroup n1, other_than g tag.Col n2, n3, n4, other_than g tag.Tr n5) h

pub in_table_other_start-Table : (g : Tag) (t : TokenKind) (a : State) (e : Ending) (z : State) → g ≡ tag.Table → Runs plan (in_table_other_start tag.Table) t a e z → Runs plan (in_table_other_start g) t a e z
in_table_other_start-Table g t a e z k h = subst (λ (x : Tag). Runs plan (in_table_other_start x) t a e z) (sym k) h

pub in_table_other_start-is_table_head : (g : Tag) (t : TokenKind) (a : State) (e : Ending) (z : State) → is_table_head g ≡ true → Runs plan (By mode.InHead) t a e z → Runs plan (in_table_other_start g) t a e z
in_table_other_start-is_table_head g t a e z k h = rw (is_table_head-not-Table g k, k) h

pub in_table_other_start-Input : (g : Tag) (t : TokenKind) (a : State) (e : Ending) (z : State) → g ≡ tag.Input → Runs plan (in_table_other_start tag.Input) t a e z → Runs plan (in_table_other_start g) t a e z
in_table_other_start-Input g t a e z k h = subst (λ (x : Tag). Runs plan (in_table_other_start x) t a e z) (sym k) h

pub in_table_other_start-Form : (g : Tag) (t : TokenKind) (a : State) (e : Ending) (z : State) → g ≡ tag.Form → Runs plan (in_table_other_start tag.Form) t a e z → Runs plan (in_table_other_start g) t a e z
in_table_other_start-Form g t a e z k h = subst (λ (x : Tag). Runs plan (in_table_other_start x) t a e z) (sym k) h

pub in_table_other_start-other : (g : Tag) (t : TokenKind) (a : State) (e : Ending) (z : State) → (g ≡ tag.Table → ⊥) → is_table_head g ≡ false → (g ≡ tag.Input → ⊥) → (g ≡ tag.Form → ⊥) → Runs plan (fostering) t a e z → Runs plan (in_table_other_start g) t a e z
in_table_other_start-other g t a e z n0 n1 n2 n3 h = rw (other_than g tag.Table n0, n1, other_than g tag.Input n2, other_than g tag.Form n3) h

pub in_table_end-Table : (g : Tag) (t : TokenKind) (a : State) (e : Ending) (z : State) → g ≡ tag.Table → Runs plan (in_table_end tag.Table) t a e z → Runs plan (in_table_end g) t a e z
in_table_end-Table g t a e z k h = subst (λ (x : Tag). Runs plan (in_table_end x) t a e z) (sym k) h

pub in_table_end-is_ignored_in_table : (g : Tag) (t : TokenKind) (a : State) (e : Ending) (z : State) → is_ignored_in_table g ≡ true → Runs plan (done_with) t a e z → Runs plan (in_table_end g) t a e z
in_table_end-is_ignored_in_table g t a e z k h = rw (is_ignored_in_table-not-Table g k, k) h

pub in_table_end-Template : (g : Tag) (t : TokenKind) (a : State) (e : Ending) (z : State) → g ≡ tag.Template → Runs plan (in_table_end tag.Template) t a e z → Runs plan (in_table_end g) t a e z
in_table_end-Template g t a e z k h = subst (λ (x : Tag). Runs plan (in_table_end x) t a e z) (sym k) h

pub in_table_end-other : (g : Tag) (t : TokenKind) (a : State) (e : Ending) (z : State) → (g ≡ tag.Table → ⊥) → is_ignored_in_table g ≡ false → (g ≡ tag.Template → ⊥) → Runs plan (fostering) t a e z → Runs plan (in_table_end g) t a e z
in_table_end-other g t a e z n0 n1 n2 h = rw (other_than g tag.Table n0, n1, other_than g tag.Template n2) h

pub in_table_other-char : (y : Symbol) (c : ℕ) (t : TokenKind) (a : State) (e : Ending) (z : State) → y ≡ Char c → Runs plan (in_table_other (Char c)) t a e z → Runs plan (in_table_other y) t a e z
in_table_other-char y c t a e z k h = subst (λ (x : Symbol). Runs plan (in_table_other x) t a e z) (sym k) h

pub in_table_other-comment : (y : Symbol) (t : TokenKind) (a : State) (e : Ending) (z : State) → y ≡ Comment → Runs plan (Do InsertComment over) t a e z → Runs plan (in_table_other y) t a e z
in_table_other-comment y t a e z k h = subst (λ (x : Symbol). Runs plan (in_table_other x) t a e z) (sym k) h

pub in_table_other-doctype : (y : Symbol) (t : TokenKind) (a : State) (e : Ending) (z : State) → y ≡ Doctype → Runs plan (ignored_doctype) t a e z → Runs plan (in_table_other y) t a e z
in_table_other-doctype y t a e z k h = subst (λ (x : Symbol). Runs plan (in_table_other x) t a e z) (sym k) h

pub in_table_other-start : (y : Symbol) (g : Tag) (t : TokenKind) (a : State) (e : Ending) (z : State) → y ≡ Start g → Runs plan (in_table_other_start g) t a e z → Runs plan (in_table_other y) t a e z
in_table_other-start y g t a e z k h = subst (λ (x : Symbol). Runs plan (in_table_other x) t a e z) (sym k) h

pub in_table_other-end : (y : Symbol) (g : Tag) (t : TokenKind) (a : State) (e : Ending) (z : State) → y ≡ End g → Runs plan (in_table_end g) t a e z → Runs plan (in_table_other y) t a e z
in_table_other-end y g t a e z k h = subst (λ (x : Symbol). Runs plan (in_table_other x) t a e z) (sym k) h

pub in_table_other-eof : (y : Symbol) (t : TokenKind) (a : State) (e : Ending) (z : State) → y ≡ Eof → Runs plan (By mode.InBody) t a e z → Runs plan (in_table_other y) t a e z
in_table_other-eof y t a e z k h = subst (λ (x : Symbol). Runs plan (in_table_other x) t a e z) (sym k) h

pub in_table-start : (y : Symbol) (g : Tag) (t : TokenKind) (a : State) (e : Ending) (z : State) → y ≡ Start g → Runs plan (in_table_start g) t a e z → Runs plan (in_table y) t a e z
in_table-start y g t a e z k h = subst (λ (x : Symbol). Runs plan (in_table x) t a e z) (sym k) h

pub in_table-rest : (y : Symbol) (t : TokenKind) (a : State) (e : Ending) (z : State) → (((g : Tag) × y ≡ End g) ⊎ (((c : ℕ) × y ≡ Char c) ⊎ ((y ≡ Comment) ⊎ ((y ≡ Doctype) ⊎ (y ≡ Eof))))) → Runs plan (in_table_other y) t a e z → Runs plan (in_table y) t a e z
in_table-rest (Start g) t a e z (inl m) h = absurd (let q : Start g ≡ End m.0 = m.1 in cc)
in_table-rest (Start g) t a e z (inr (inl m)) h = absurd (let q : Start g ≡ Char m.0 = m.1 in cc)
in_table-rest (Start g) t a e z (inr (inr (inl m))) h = absurd (let q : Start g ≡ Comment = m in cc)
in_table-rest (Start g) t a e z (inr (inr (inr (inl m)))) h = absurd (let q : Start g ≡ Doctype = m in cc)
in_table-rest (Start g) t a e z (inr (inr (inr (inr m)))) h = absurd (let q : Start g ≡ Eof = m in cc)
in_table-rest (End g) t a e z k h = h
in_table-rest (Char c) t a e z k h = h
in_table-rest Comment t a e z k h = h
in_table-rest Doctype t a e z k h = h
in_table-rest Eof t a e z k h = h

-- what the modes in table body and in row take from this one
by_table : (y : Symbol) (t : TokenKind) (a : State) (e : Ending) (z : State) → symbol_of t ≡ y → Runs plan (in_table y) t a e z → Runs plan (By mode.InTable) t a e z
unfolding plan
by_table y t a e z k h = goes_by mode.InTable t a e z (subst (λ (x : Symbol). Runs plan (in_table x) t a e z) (sym k) h)

ends_row-no-Caption : (g : Tag) → ends_row g ≡ false → is_same g tag.Caption ≡ false
ends_row-no-Caption tag.Caption e = absurd (false≢true (sym e))
ends_row-no-Caption _ e = refl

ends_row-no-Colgroup : (g : Tag) → ends_row g ≡ false → is_same g tag.Colgroup ≡ false
ends_row-no-Colgroup tag.Colgroup e = absurd (false≢true (sym e))
ends_row-no-Colgroup _ e = refl

ends_row-no-Col : (g : Tag) → ends_row g ≡ false → is_same g tag.Col ≡ false
ends_row-no-Col tag.Col e = absurd (false≢true (sym e))
ends_row-no-Col _ e = refl

ends_row-no-Tr : (g : Tag) → ends_row g ≡ false → is_same g tag.Tr ≡ false
ends_row-no-Tr tag.Tr e = absurd (false≢true (sym e))
ends_row-no-Tr _ e = refl

ends_section-no-Caption : (g : Tag) → ends_section g ≡ false → is_same g tag.Caption ≡ false
ends_section-no-Caption tag.Caption e = absurd (false≢true (sym e))
ends_section-no-Caption _ e = refl

ends_section-no-Colgroup : (g : Tag) → ends_section g ≡ false → is_same g tag.Colgroup ≡ false
ends_section-no-Colgroup tag.Colgroup e = absurd (false≢true (sym e))
ends_section-no-Colgroup _ e = refl

ends_section-no-Col : (g : Tag) → ends_section g ≡ false → is_same g tag.Col ≡ false
ends_section-no-Col tag.Col e = absurd (false≢true (sym e))
ends_section-no-Col _ e = refl

ends_row-no-section : (g : Tag) → ends_row g ≡ false → is_section g ≡ false
ends_row-no-section tag.Tbody e = absurd (false≢true (sym e))
ends_row-no-section tag.Tfoot e = absurd (false≢true (sym e))
ends_row-no-section tag.Thead e = absurd (false≢true (sym e))
ends_row-no-section _ e = refl

ends_section-no-section : (g : Tag) → ends_section g ≡ false → is_section g ≡ false
ends_section-no-section tag.Tbody e = absurd (false≢true (sym e))
ends_section-no-section tag.Tfoot e = absurd (false≢true (sym e))
ends_section-no-section tag.Thead e = absurd (false≢true (sym e))
ends_section-no-section _ e = refl

pub by_table-row : (g : Tag) (t : TokenKind) (a : State) (e : Ending) (z : State) → symbol_of t ≡ Start g → is_cell g ≡ false → ends_row g ≡ false → Runs plan (in_table_other (Start g)) t a e z → Runs plan (By mode.InTable) t a e z
by_table-row g t a e z k m n h = by_table (Start g) t a e z k (rw (ends_row-no-Caption g n, ends_row-no-Colgroup g n, ends_row-no-Col g n, ends_row-no-section g n, m, ends_row-no-Tr g n) h)

pub by_table-body : (g : Tag) (t : TokenKind) (a : State) (e : Ending) (z : State) → symbol_of t ≡ Start g → (g ≡ tag.Tr → ⊥) → is_cell g ≡ false → ends_section g ≡ false → Runs plan (in_table_other (Start g)) t a e z → Runs plan (By mode.InTable) t a e z
by_table-body g t a e z k r m n h = by_table (Start g) t a e z k (rw (ends_section-no-Caption g n, ends_section-no-Colgroup g n, ends_section-no-Col g n, ends_section-no-section g n, m, other_than g tag.Tr r) h)

pub by_table-end : (g : Tag) (t : TokenKind) (a : State) (e : Ending) (z : State) → symbol_of t ≡ End g → Runs plan (in_table_other (End g)) t a e z → Runs plan (By mode.InTable) t a e z
by_table-end g t a e z k h = by_table (End g) t a e z k h

pub by_table-neither : (y : Symbol) (t : TokenKind) (a : State) (e : Ending) (z : State) → symbol_of t ≡ y → is_neither y ≡ true → Runs plan (in_table_other y) t a e z → Runs plan (By mode.InTable) t a e z
by_table-neither (Start g) t a e z k n h = absurd (false≢true n)
by_table-neither (End g) t a e z k n h = absurd (false≢true n)
by_table-neither (Char c) t a e z k n h = by_table (Char c) t a e z k h
by_table-neither Comment t a e z k n h = by_table Comment t a e z k h
by_table-neither Doctype t a e z k n h = by_table Doctype t a e z k h
by_table-neither Eof t a e z k n h = by_table Eof t a e z k h

-- foster parenting
pub fostered : (y : Symbol) (t : TokenKind) (a b c : State) (e : Ending) (z : State) → symbol_of t ≡ y → b ≡ record a { fostering = true } → Runs plan (in_body y) t b e c → z ≡ record c { fostering = false } → Runs plan fostering t a e z
fostered y t a b c e z k r h s = fosters (By mode.InBody) t a b c e z (so (record a { fostering = true }) b r) (by_body y t b e c k h) (so (record c { fostering = false }) z s)
  where
    so : (m n : State) → n ≡ m → Becomes m n
    so m n q = subst (λ (x : State). Becomes m x) (sym q) (record { state_is = refl })

pub fostered-char : (c : ℕ) (t : TokenKind) (a b d : State) (e : Ending) (z : State) → symbol_of t ≡ Char c → b ≡ record a { fostering = true } → Runs plan (in_body_char c) t b e d → z ≡ record d { fostering = false } → Runs plan fostering t a e z
fostered-char c t a b d e z k r h s = fostered (Char c) t a b d e z k r h s

-- a token that is fostered is not the end tag of the root
pub fostering-start : (g : Tag) (t : TokenKind) (a : State) (e : Ending) (z : State) → (is_root_end (Start g) ≡ false → Runs plan fostering t a e z) → Runs plan fostering t a e z
fostering-start g t a e z h = h refl

pub fostering-end : (g : Tag) (t : TokenKind) (a : State) (e : Ending) (z : State) → is_ignored_in_table g ≡ false → (is_root_end (End g) ≡ false → Runs plan fostering t a e z) → Runs plan fostering t a e z
fostering-end g t a e z n h = h (no-html g n)
  where
    no-html : (f : Tag) → is_ignored_in_table f ≡ false → is_same f tag.Html ≡ false
    no-html tag.Html q = absurd (false≢true (sym q))
    no-html _ q = refl

pub asked-hidden : (x : Bool) (p n : Plan) (t : TokenKind) (a : State) (e : Ending) (z : State) → x ≡ is_hidden (attrs_of t) → Runs plan (if x then p else n) t a e z → Runs plan (Ask IsHidden p n) t a e z
asked-hidden x p n t a e z k h = asked IsHidden x p n t a e z k h

pub asked-place : (x : Bool) (g : Tag) (p n : Plan) (t : TokenKind) (a : State) (e : Ending) (z : State) → x ≡ may_misplace_tag a.ledger.history g → Runs plan (if x then p else n) t a e z → Runs plan (Ask (MayMisplace g) p n) t a e z
asked-place x g p n t a e z k h = asked (MayMisplace g) x p n t a e z k h

pub ruleset by_table_rules = (by_table-row, by_table-body, by_table-end, by_table-neither)

pub ruleset foster_plans = (fostered, fostered-char)

pub ruleset arms = (rule_words, by_head_rules, by_body_rules, in_table_start-Caption, in_table_start-Colgroup, in_table_start-Col, in_table_start-is_section, in_table_start-is_cell, in_table_start-Tr, in_table_start-other, in_table_other_start-Table, in_table_other_start-is_table_head, in_table_other_start-Input, in_table_other_start-Form, in_table_other_start-other, in_table_end-Table, in_table_end-is_ignored_in_table, in_table_end-Template, in_table_end-other, in_table_other-char, in_table_other-comment, in_table_other-doctype, in_table_other-start, in_table_other-end, in_table_other-eof, in_table-start, in_table-rest, fostering-start, fostering-end, asked-hidden, asked-place)
