-- What holds of each plan of the tables: foreign content is made only where it is not refused, each token gets one fate, and code points are kept in the
-- mode in table text alone.
use Rattle.std.proofs.Common.{◌≡◌, Bool, true, false, ◌&&◌, if◌then◌else◌, refl, sym, ◌∙◌, ap}
use Rattle.std.proofs.lemmas.Bool.{false≢true}
use Rattle.html_ledger.specs.declared.symbol.Symbol.{Symbol}
use Rattle.html_ledger.specs.declared.symbol.Symbol.TheVariants.{Start, End, Char, Comment, Doctype, Eof}
use Rattle.html_construction.specs.declared.mode.Mode.{Mode}
use Rattle.html_construction.specs.declared.mode.Mode.TheVariants as mode
use Rattle.html_construction.specs.Plans.{Plan}
use Rattle.html_modes.specs.Guards.{is_table_text}
use Rattle.html_modes.specs.Rules.{plan}
use Rattle.html_modes.specs.RulesInitial.{initial}
use Rattle.html_modes.specs.RulesBeforeHtml.{before_html}
use Rattle.html_modes.specs.RulesBeforeHead.{before_head}
use Rattle.html_modes.specs.RulesInHead.{in_head}
use Rattle.html_modes.specs.RulesInHeadNoscript.{in_head_noscript}
use Rattle.html_modes.specs.RulesAfterHead.{after_head}
use Rattle.html_modes.specs.RulesInBody.{in_body}
use Rattle.html_modes.specs.RulesText.{text}
use Rattle.html_modes.specs.RulesInTable.{in_table}
use Rattle.html_modes.specs.RulesInTableText.{in_table_text}
use Rattle.html_modes.specs.RulesInCaption.{in_caption}
use Rattle.html_modes.specs.RulesInColumnGroup.{in_column_group}
use Rattle.html_modes.specs.RulesInTableBody.{in_table_body}
use Rattle.html_modes.specs.RulesInRow.{in_row}
use Rattle.html_modes.specs.RulesInCell.{in_cell}
use Rattle.html_modes.specs.RulesInSelect.{in_select}
use Rattle.html_modes.specs.RulesInSelectInTable.{in_select_in_table}
use Rattle.html_modes.specs.RulesInTemplate.{in_template}
use Rattle.html_modes.specs.RulesAfterBody.{after_body}
use Rattle.html_modes.specs.RulesInFrameset.{in_frameset}
use Rattle.html_modes.specs.RulesAfterFrameset.{after_frameset}
use Rattle.html_modes.specs.RulesAfterAfterBody.{after_after_body}
use Rattle.html_modes.specs.RulesAfterAfterFrameset.{after_after_frameset}
use Rattle.html_construction.proofs.Planned.{halves as both}
use Rattle.html_laws.proofs.Counting.{AreDue, due, is_char, is_flat}
use Rattle.html_laws.proofs.Keeping.{AreKeepless, empties, keepless}
use Rattle.html_laws.proofs.Natives.{AreNative, native}

abbrev suits : Bool → Plan → Bool
suits c p = native p && (is_flat p && due c true p)

abbrev fits : Bool → Plan → Bool
fits c p = keepless p && suits c p

native-if : (b : Bool) (p n : Plan) → native (if b then p else n) ≡ (if b then native p else native n)
native-if true p n = refl
native-if false p n = refl

keepless-if : (b : Bool) (p n : Plan) → keepless (if b then p else n) ≡ (if b then keepless p else keepless n)
keepless-if true p n = refl
keepless-if false p n = refl

flat-if : (b : Bool) (p n : Plan) → is_flat (if b then p else n) ≡ (if b then is_flat p else is_flat n)
flat-if true p n = refl
flat-if false p n = refl

due-if : (b c d : Bool) (p n : Plan) → due c d (if b then p else n) ≡ (if b then due c d p else due c d n)
due-if true c d p n = refl
due-if false c d p n = refl

pub if-same : (b : Bool) → (if b then true else true) ≡ true
if-same true = refl
if-same false = refl

ruleset by_arms = (native-if, keepless-if, flat-if, due-if, if-same)

initial-fits : (y : Symbol) → fits (is_char y) (initial y) ≡ true
initial-fits (Start g) = refl
initial-fits (End g) = refl
initial-fits (Char c) = refl
initial-fits Comment = refl
initial-fits Doctype = refl
initial-fits Eof = refl

before_html-fits : (y : Symbol) → fits (is_char y) (before_html y) ≡ true
before_html-fits (Start g) = simp by_arms refl
before_html-fits (End g) = simp by_arms refl
before_html-fits (Char c) = refl
before_html-fits Comment = refl
before_html-fits Doctype = refl
before_html-fits Eof = refl

before_head-fits : (y : Symbol) → fits (is_char y) (before_head y) ≡ true
before_head-fits (Start g) = simp by_arms refl
before_head-fits (End g) = simp by_arms refl
before_head-fits (Char c) = refl
before_head-fits Comment = refl
before_head-fits Doctype = refl
before_head-fits Eof = refl

in_head-fits : (y : Symbol) → fits (is_char y) (in_head y) ≡ true
in_head-fits (Start g) = simp by_arms refl
in_head-fits (End g) = simp by_arms refl
in_head-fits (Char c) = simp by_arms refl
in_head-fits Comment = refl
in_head-fits Doctype = refl
in_head-fits Eof = refl

in_head_noscript-fits : (y : Symbol) → fits (is_char y) (in_head_noscript y) ≡ true
in_head_noscript-fits (Start g) = simp by_arms refl
in_head_noscript-fits (End g) = simp by_arms refl
in_head_noscript-fits (Char c) = simp by_arms refl
in_head_noscript-fits Comment = refl
in_head_noscript-fits Doctype = refl
in_head_noscript-fits Eof = refl

after_head-fits : (y : Symbol) → fits (is_char y) (after_head y) ≡ true
after_head-fits (Start g) = simp by_arms refl
after_head-fits (End g) = simp by_arms refl
after_head-fits (Char c) = simp by_arms refl
after_head-fits Comment = refl
after_head-fits Doctype = refl
after_head-fits Eof = refl

in_body-fits : (y : Symbol) → fits (is_char y) (in_body y) ≡ true
in_body-fits (Start g) = simp by_arms refl
in_body-fits (End g) = simp by_arms refl
in_body-fits (Char c) = simp by_arms refl
in_body-fits Comment = refl
in_body-fits Doctype = refl
in_body-fits Eof = refl

text-fits : (y : Symbol) → fits (is_char y) (text y) ≡ true
text-fits (Start g) = refl
text-fits (End g) = refl
text-fits (Char c) = simp by_arms refl
text-fits Comment = refl
text-fits Doctype = refl
text-fits Eof = refl

in_table-fits : (y : Symbol) → fits (is_char y) (in_table y) ≡ true
in_table-fits (Start g) = simp by_arms refl
in_table-fits (End g) = simp by_arms refl
in_table-fits (Char c) = refl
in_table-fits Comment = refl
in_table-fits Doctype = refl
in_table-fits Eof = refl

in_table_text-fits : (y : Symbol) → suits (is_char y) (in_table_text y) ≡ true
in_table_text-fits (Start g) = refl
in_table_text-fits (End g) = refl
in_table_text-fits (Char c) = refl
in_table_text-fits Comment = refl
in_table_text-fits Doctype = refl
in_table_text-fits Eof = refl

in_caption-fits : (y : Symbol) → fits (is_char y) (in_caption y) ≡ true
in_caption-fits (Start g) = simp by_arms refl
in_caption-fits (End g) = simp by_arms refl
in_caption-fits (Char c) = refl
in_caption-fits Comment = refl
in_caption-fits Doctype = refl
in_caption-fits Eof = refl

in_column_group-fits : (y : Symbol) → fits (is_char y) (in_column_group y) ≡ true
in_column_group-fits (Start g) = simp by_arms refl
in_column_group-fits (End g) = simp by_arms refl
in_column_group-fits (Char c) = simp by_arms refl
in_column_group-fits Comment = refl
in_column_group-fits Doctype = refl
in_column_group-fits Eof = refl

in_table_body-fits : (y : Symbol) → fits (is_char y) (in_table_body y) ≡ true
in_table_body-fits (Start g) = simp by_arms refl
in_table_body-fits (End g) = simp by_arms refl
in_table_body-fits (Char c) = refl
in_table_body-fits Comment = refl
in_table_body-fits Doctype = refl
in_table_body-fits Eof = refl

in_row-fits : (y : Symbol) → fits (is_char y) (in_row y) ≡ true
in_row-fits (Start g) = simp by_arms refl
in_row-fits (End g) = simp by_arms refl
in_row-fits (Char c) = refl
in_row-fits Comment = refl
in_row-fits Doctype = refl
in_row-fits Eof = refl

in_cell-fits : (y : Symbol) → fits (is_char y) (in_cell y) ≡ true
in_cell-fits (Start g) = simp by_arms refl
in_cell-fits (End g) = simp by_arms refl
in_cell-fits (Char c) = refl
in_cell-fits Comment = refl
in_cell-fits Doctype = refl
in_cell-fits Eof = refl

in_select-fits : (y : Symbol) → fits (is_char y) (in_select y) ≡ true
in_select-fits (Start g) = simp by_arms refl
in_select-fits (End g) = simp by_arms refl
in_select-fits (Char c) = simp by_arms refl
in_select-fits Comment = refl
in_select-fits Doctype = refl
in_select-fits Eof = refl

in_select_in_table-fits : (y : Symbol) → fits (is_char y) (in_select_in_table y) ≡ true
in_select_in_table-fits (Start g) = simp by_arms refl
in_select_in_table-fits (End g) = simp by_arms refl
in_select_in_table-fits (Char c) = refl
in_select_in_table-fits Comment = refl
in_select_in_table-fits Doctype = refl
in_select_in_table-fits Eof = refl

in_template-fits : (y : Symbol) → fits (is_char y) (in_template y) ≡ true
in_template-fits (Start g) = simp by_arms refl
in_template-fits (End g) = simp by_arms refl
in_template-fits (Char c) = refl
in_template-fits Comment = refl
in_template-fits Doctype = refl
in_template-fits Eof = refl

after_body-fits : (y : Symbol) → fits (is_char y) (after_body y) ≡ true
after_body-fits (Start g) = simp by_arms refl
after_body-fits (End g) = simp by_arms refl
after_body-fits (Char c) = simp by_arms refl
after_body-fits Comment = refl
after_body-fits Doctype = refl
after_body-fits Eof = refl

in_frameset-fits : (y : Symbol) → fits (is_char y) (in_frameset y) ≡ true
in_frameset-fits (Start g) = simp by_arms refl
in_frameset-fits (End g) = simp by_arms refl
in_frameset-fits (Char c) = simp by_arms refl
in_frameset-fits Comment = refl
in_frameset-fits Doctype = refl
in_frameset-fits Eof = refl

after_frameset-fits : (y : Symbol) → fits (is_char y) (after_frameset y) ≡ true
after_frameset-fits (Start g) = simp by_arms refl
after_frameset-fits (End g) = simp by_arms refl
after_frameset-fits (Char c) = simp by_arms refl
after_frameset-fits Comment = refl
after_frameset-fits Doctype = refl
after_frameset-fits Eof = refl

after_after_body-fits : (y : Symbol) → fits (is_char y) (after_after_body y) ≡ true
after_after_body-fits (Start g) = simp by_arms refl
after_after_body-fits (End g) = refl
after_after_body-fits (Char c) = simp by_arms refl
after_after_body-fits Comment = refl
after_after_body-fits Doctype = refl
after_after_body-fits Eof = refl

after_after_frameset-fits : (y : Symbol) → fits (is_char y) (after_after_frameset y) ≡ true
after_after_frameset-fits (Start g) = simp by_arms refl
after_after_frameset-fits (End g) = refl
after_after_frameset-fits (Char c) = simp by_arms refl
after_after_frameset-fits Comment = refl
after_after_frameset-fits Doctype = refl
after_after_frameset-fits Eof = refl

plan-fits : (m : Mode) (y : Symbol) → is_table_text m ≡ false → fits (is_char y) (plan m y) ≡ true
unfolding plan
plan-fits mode.Initial y h = initial-fits y
plan-fits mode.BeforeHtml y h = before_html-fits y
plan-fits mode.BeforeHead y h = before_head-fits y
plan-fits mode.InHead y h = in_head-fits y
plan-fits mode.InHeadNoscript y h = in_head_noscript-fits y
plan-fits mode.AfterHead y h = after_head-fits y
plan-fits mode.InBody y h = in_body-fits y
plan-fits mode.Text y h = text-fits y
plan-fits mode.InTable y h = in_table-fits y
plan-fits mode.InTableText y h = absurd (false≢true (sym h))
plan-fits mode.InCaption y h = in_caption-fits y
plan-fits mode.InColumnGroup y h = in_column_group-fits y
plan-fits mode.InTableBody y h = in_table_body-fits y
plan-fits mode.InRow y h = in_row-fits y
plan-fits mode.InCell y h = in_cell-fits y
plan-fits mode.InSelect y h = in_select-fits y
plan-fits mode.InSelectInTable y h = in_select_in_table-fits y
plan-fits mode.InTemplate y h = in_template-fits y
plan-fits mode.AfterBody y h = after_body-fits y
plan-fits mode.InFrameset y h = in_frameset-fits y
plan-fits mode.AfterFrameset y h = after_frameset-fits y
plan-fits mode.AfterAfterBody y h = after_after_body-fits y
plan-fits mode.AfterAfterFrameset y h = after_after_frameset-fits y

-- the mode in table text is the one
pub in-table-text : (m : Mode) (y : Symbol) → is_table_text m ≡ true → plan m y ≡ in_table_text y
unfolding plan
in-table-text mode.InTableText y h = refl
in-table-text m y h = absurd (false≢true h)

plan-suits : (m : Mode) (y : Symbol) → suits (is_char y) (plan m y) ≡ true
plan-suits m y = by (is_table_text m) refl
  where
    by : (b : Bool) → is_table_text m ≡ b → suits (is_char y) (plan m y) ≡ true
    by true h = ap (suits (is_char y)) (in-table-text m y h) ∙ in_table_text-fits y
    by false h = (both (keepless (plan m y)) (suits (is_char y) (plan m y)) (plan-fits m y h)).1

pub plans-native : AreNative plan
plans-native m y = (both (native (plan m y)) (is_flat (plan m y) && due (is_char y) true (plan m y)) (plan-suits m y)).0

pub plans-due : AreDue plan
plans-due m y =
    let h = both (is_flat (plan m y)) (due (is_char y) true (plan m y)) (both (native (plan m y)) (is_flat (plan m y) && due (is_char y) true (plan m y)) (plan-suits m y)).1 in
    (h.1, h.0)

pub plans-keepless : AreKeepless plan
plans-keepless m y h = (both (keepless (plan m y)) (suits (is_char y) (plan m y)) (plan-fits m y h)).0

-- in that mode, another token than a code point takes out those that wait
pub table-text-empties : (y : Symbol) → is_char y ≡ false → empties (in_table_text y) ≡ true
table-text-empties (Char c) h = absurd (false≢true (sym h))
table-text-empties y h = refl
