-- What a run of a plan makes of what the open elements stand below: by what the plan says.
use Rattle.std.proofs.Common.{◌≡◌, ◌==◌, ℕ, Bool, true, false, ◌&&◌, ◌||◌, List, [], ◌∷◌, if◌then◌else◌, Option, Some, None, refl, sym, ◌∙◌, ap, subst}
use Rattle.std.specs.List.{list_all}
use Rattle.std.proofs.lemmas.Bool.{false≢true}
use Rattle.html_names.specs.declared.tag.Tag.{Tag}
use Rattle.html_names.specs.declared.tag.Tag.TheVariants as tag
use Rattle.html_names.specs.Names.{tag_of}
use Rattle.html_names.specs.Sets.{is_formatting}
use Rattle.html_names.specs.Tags.{is_same}
use Rattle.html_arena.specs.declared.arena.Limits.{Limits}
use Rattle.html_arena.specs.Tree.{Tree as Nodes}
use Rattle.html_arena.proofs.Labels.{tag_of-nil}
use Rattle.html_tokens.specs.declared.token.TokenKind.{TokenKind}
use Rattle.html_tokens.specs.declared.token.TokenKind.TheVariants as kind
use Rattle.html_ledger.specs.declared.fate.Cause.TheVariants.{Null}
use Rattle.html_ledger.specs.declared.setting.Setting.{Setting}
use Rattle.html_ledger.specs.declared.setting.Setting.TheVariants.{Document, Fragment}
use Rattle.html_ledger.specs.declared.symbol.Symbol.{Symbol}
use Rattle.html_ledger.specs.declared.symbol.Symbol.TheVariants.{Start, End, Char, Comment, Doctype, Eof}
use Rattle.html_ledger.specs.Spaces.{is_space}
use Rattle.html_ledger.specs.Symbols.{symbol_of}
use Rattle.html_open.specs.Marking.{bare}
use Rattle.html_tree.specs.declared.groups.Target.TheVariants as target
use Rattle.html_construction.specs.declared.mode.Mode.{Mode}
use Rattle.html_construction.specs.declared.mode.Mode.TheVariants as mode
use Rattle.html_construction.specs.Beginning.{IsFirst, first_state, first_templates}
use Rattle.html_construction.specs.Modes.{is_of_frames, is_of_selects}
use Rattle.html_construction.specs.Plans.{Adopt, Ask, By, CloseLink, Do, Each, Ending, Foster, Over, Plan, Reconstruct, Rules, Runs, Settle, Stop, adopts, asks, closes_link, does, does_each, ends_each, fosters, goes_by, reconstructs, settles, stops}
use Rattle.html_construction.specs.States.{State}
use Rattle.html_construction.specs.Words.{Becomes, Drop, End as EndWord, Enter, FramesetOff, ImplyRoot, InsertAt, InsertCharacter, InsertCommentAt, InsertDoctype, InsertReplacement, InsertRoot, Pop, Quirks, Switch, Word, after, answer, with_kept, with_stack}
use Rattle.html_construction.proofs.Planned.{followed, halves as both}
use Rattle.html_construction.proofs.Weighing.{same-tag}
use Rattle.html_modes.specs.Dispatching.{Constructs, Entries, IsEntry, begun, is_astray, last, next, settled}
use Rattle.html_modes.specs.Fitting.{is_loose}
use Rattle.html_modes.specs.Foreign.{around_foreign, stack_after}
use Rattle.html_modes.specs.RuleForms.{again, ending, ignored, over}
use Rattle.html_modes.specs.Rules.{plan}
use Rattle.html_modes.specs.RulesInitial.{initial}
use Rattle.html_modes.specs.RulesForeign.{in_foreign}
use Rattle.html_modes.specs.RulesBeforeHtml.{before_html}
use Rattle.html_modes.specs.RulesBeforeHead.{before_head}
use Rattle.html_modes.specs.RulesInHead.{in_head}
use Rattle.html_modes.specs.RulesInHeadNoscript.{in_head_noscript}
use Rattle.html_modes.specs.RulesAfterHead.{after_head}
use Rattle.html_modes.specs.RulesInBody.{in_body}
use Rattle.html_modes.specs.RulesText.{text}
use Rattle.html_modes.specs.RulesInTable.{in_table}
use Rattle.html_modes.specs.RulesInTableText.{in_table_text}
use Rattle.html_modes.specs.RulesInCaption.{in_caption}
use Rattle.html_modes.specs.RulesInColumnGroup.{in_column_group}
use Rattle.html_modes.specs.RulesInTableBody.{in_table_body}
use Rattle.html_modes.specs.RulesInRow.{in_row}
use Rattle.html_modes.specs.RulesInCell.{in_cell}
use Rattle.html_modes.specs.RulesInSelect.{in_select}
use Rattle.html_modes.specs.RulesInSelectInTable.{in_select_in_table}
use Rattle.html_modes.specs.RulesInTemplate.{in_template}
use Rattle.html_modes.specs.RulesAfterBody.{after_body}
use Rattle.html_modes.specs.RulesInFrameset.{in_frameset}
use Rattle.html_modes.specs.RulesAfterFrameset.{after_frameset}
use Rattle.html_modes.specs.RulesAfterAfterBody.{after_after_body}
use Rattle.html_modes.specs.RulesAfterAfterFrameset.{after_after_frameset}
use Rattle.html_modes.proofs.Dispatching.{Way, dropped, handed, never-astray, planned, stayed, strayed, way}
use Rattle.html_modes.proofs.Embedding.{around-loose}
use Rattle.html_laws.specs.Contents.{NoTemplateHoldsItself, IsOver, PagesHaveNoTemplateInItself, StandsIn, above, deeper, inside, itself}
use Rattle.html_laws.proofs.Beginnings.{first-core}
use Rattle.html_laws.proofs.Founding.{templates-late}
use Rattle.html_laws.proofs.Hosted.{AreSameHosts, IsBare, IsHosted, IsOverhung, becomes-hosted, becomes-overhung, calm, closed-hosted, core-bare, core-hosted, document-bare, ended-hosted, fragment-hosted, head-hosted, head-overhung, hosts-apart, implied-hosted, is_still, link-hosted, names_template, pop-overhung, reopened-hosted, root-hosted, same-bare, same-hosted, same-overhung, still-bare, text-overhung, word-hosted}
use Rattle.html_laws.proofs.Hosts.{IsLaid}
use Rattle.html_laws.proofs.Modes.{AreSameModes, IsLater, becomes-modes, goes, late-later, moved-modes, same-back, same-later, settled-later, word-gone}
use Rattle.html_laws.proofs.Rooting.{IsBack, is_early, is_late, reset-late, waits}
use Rattle.html_laws.proofs.Tables.{if-same}

-- TOKENS

abbrev template_symbol : Symbol → Bool
template_symbol (Start g) = is_same g tag.Template
template_symbol (End g) = is_same g tag.Template
template_symbol _ = false

nameless : is_same (tag_of []) tag.Template ≡ false
nameless = ap (λ g. is_same g tag.Template) (sym tag_of-nil)

symbol-names : (t : TokenKind) → names_template t ≡ template_symbol (symbol_of t)
symbol-names (kind.Start name attrs self_closing) = refl
symbol-names (kind.End name) = refl
symbol-names t = nameless

-- WHAT A PLAN SAYS

-- any mode but the early ones, those that are left for the original one, and "after head"
abbrev joins : Mode → Bool
joins mode.Initial = false
joins mode.BeforeHtml = false
joins mode.AfterHead = false
joins mode.Text = false
joins mode.InTableText = false
joins _ = true

-- all its words keep what stands where it should, of a token that is a template or of another, and lead to no early mode; it may leave for the original one
abbrev calms : Bool → Bool → Plan → Bool
calms b k (Do w p) = calm b w && (goes k w && calms b k p)
calms b k (Ask q p n) = calms b k p && calms b k n
calms b k (Reconstruct p) = calms b k p
calms b k (Adopt g p) = is_formatting g && calms b k p
calms b k (CloseLink p) = calms b k p
calms b k (Foster p) = calms b k p
calms b k (Settle q p) = calms false k q && calms b k p
calms b k (Each cs q p) = calms false k q && calms b k p
calms b k (Stop e) = true
calms b k (By m) = joins m

abbrev AreCalm : Rules → Type 0
AreCalm r = (m : Mode) (y : Symbol) → joins m ≡ true → calms (template_symbol y) false (r m y) ≡ true

abbrev ends : Plan → Bool
ends (Stop e) = true
ends _ = false

abbrev enters_text : Plan → Bool
enters_text (Do (Enter mode.Text) p) = ends p
enters_text _ = false

-- or it begins with an element of the head, made after it: the mode text is entered, and it ends, or the element is a template
abbrev heads : Bool → Bool → Plan → Bool
heads b k (Do (InsertAt target.Head) p) = enters_text p || (b && calms b k p)
heads b k p = calms b k p

-- a plan of the mode text: a character comes or the token is ignored, and it ends, or the current node is popped first
abbrev holds : Bool → Plan → Bool
holds b (Do InsertCharacter p) = ends p
holds b (Do (Drop c) p) = ends p
holds b (Do Pop p) = calms b true p
holds b _ = false

-- it opens nothing, and enters no later mode
abbrev tarries : Word → Bool
tarries (Switch m) = is_early m
tarries w = is_still w

-- a late mode is entered, and it ends
abbrev leaves : Plan → Bool
leaves (Do (Switch m) p) = is_late m && ends p
leaves _ = false

-- a plan of the early modes: nothing is opened before the root, and then it goes on so
abbrev starts : Plan → Bool
starts (Do InsertRoot p) = leaves p
starts (Do ImplyRoot p) = leaves p
starts (Do w p) = tarries w && starts p
starts (Ask q p n) = starts p && starts n
starts (Stop e) = true
starts _ = false

-- WHAT EACH PLAN SAYS

calms-if : (x b k : Bool) (p n : Plan) → calms b k (if x then p else n) ≡ (if x then calms b k p else calms b k n)
calms-if true b k p n = refl
calms-if false b k p n = refl

late-if : (x : Bool) (m n : Mode) → is_late (if x then m else n) ≡ (if x then is_late m else is_late n)
late-if true m n = refl
late-if false m n = refl

-- what is asked again in the arm where it is so
if-again : (x y z : Bool) → (if x then (x && y) else z) ≡ (if x then y else z)
if-again true y z = refl
if-again false y z = refl

ruleset by_arms = (calms-if, late-if, if-again, if-same)

-- of a tag template, and of any other
by-tag : (f : Tag → Plan) (k : Bool) (g : Tag) → calms true k (f tag.Template) ≡ true → calms false k (f g) ≡ true → calms (is_same g tag.Template) k (f g) ≡ true
by-tag f k g p q = by (is_same g tag.Template) refl
  where
    by : (b : Bool) → is_same g tag.Template ≡ b → calms b k (f g) ≡ true
    by true e = subst (λ v. calms true k (f v) ≡ true) (sym (same-tag g tag.Template e)) p
    by false e = q

before_head-calms : (y : Symbol) → calms (template_symbol y) false (before_head y) ≡ true
before_head-calms (Start g) = by-tag (λ v. before_head (Start v)) false g refl (simp by_arms refl)
before_head-calms (End g) = by-tag (λ v. before_head (End v)) false g refl (simp by_arms refl)
before_head-calms (Char c) = refl
before_head-calms Comment = refl
before_head-calms Doctype = refl
before_head-calms Eof = refl

in_head-calms : (y : Symbol) → calms (template_symbol y) false (in_head y) ≡ true
in_head-calms (Start g) = by-tag (λ v. in_head (Start v)) false g refl (simp by_arms refl)
in_head-calms (End g) = by-tag (λ v. in_head (End v)) false g refl (simp by_arms refl)
in_head-calms (Char c) = simp by_arms refl
in_head-calms Comment = refl
in_head-calms Doctype = refl
in_head-calms Eof = refl

in_head_noscript-calms : (y : Symbol) → calms (template_symbol y) false (in_head_noscript y) ≡ true
in_head_noscript-calms (Start g) = by-tag (λ v. in_head_noscript (Start v)) false g refl (simp by_arms refl)
in_head_noscript-calms (End g) = by-tag (λ v. in_head_noscript (End v)) false g refl (simp by_arms refl)
in_head_noscript-calms (Char c) = simp by_arms refl
in_head_noscript-calms Comment = refl
in_head_noscript-calms Doctype = refl
in_head_noscript-calms Eof = refl

in_body-calms : (y : Symbol) → calms (template_symbol y) false (in_body y) ≡ true
in_body-calms (Start g) = by-tag (λ v. in_body (Start v)) false g refl (simp by_arms refl)
in_body-calms (End g) = by-tag (λ v. in_body (End v)) false g refl (simp by_arms refl)
in_body-calms (Char c) = simp by_arms refl
in_body-calms Comment = refl
in_body-calms Doctype = refl
in_body-calms Eof = refl

text-calms : (y : Symbol) → calms (template_symbol y) true (text y) ≡ true
text-calms (Start g) = by-tag (λ v. text (Start v)) true g refl refl
text-calms (End g) = by-tag (λ v. text (End v)) true g refl refl
text-calms (Char c) = simp by_arms refl
text-calms Comment = refl
text-calms Doctype = refl
text-calms Eof = refl

in_table-calms : (y : Symbol) → calms (template_symbol y) false (in_table y) ≡ true
in_table-calms (Start g) = by-tag (λ v. in_table (Start v)) false g refl (simp by_arms refl)
in_table-calms (End g) = by-tag (λ v. in_table (End v)) false g refl (simp by_arms refl)
in_table-calms (Char c) = refl
in_table-calms Comment = refl
in_table-calms Doctype = refl
in_table-calms Eof = refl

in_table_text-calms : (y : Symbol) → calms (template_symbol y) true (in_table_text y) ≡ true
in_table_text-calms (Start g) = by-tag (λ v. in_table_text (Start v)) true g refl refl
in_table_text-calms (End g) = by-tag (λ v. in_table_text (End v)) true g refl refl
in_table_text-calms (Char c) = refl
in_table_text-calms Comment = refl
in_table_text-calms Doctype = refl
in_table_text-calms Eof = refl

in_caption-calms : (y : Symbol) → calms (template_symbol y) false (in_caption y) ≡ true
in_caption-calms (Start g) = by-tag (λ v. in_caption (Start v)) false g refl (simp by_arms refl)
in_caption-calms (End g) = by-tag (λ v. in_caption (End v)) false g refl (simp by_arms refl)
in_caption-calms (Char c) = refl
in_caption-calms Comment = refl
in_caption-calms Doctype = refl
in_caption-calms Eof = refl

in_column_group-calms : (y : Symbol) → calms (template_symbol y) false (in_column_group y) ≡ true
in_column_group-calms (Start g) = by-tag (λ v. in_column_group (Start v)) false g refl (simp by_arms refl)
in_column_group-calms (End g) = by-tag (λ v. in_column_group (End v)) false g refl (simp by_arms refl)
in_column_group-calms (Char c) = simp by_arms refl
in_column_group-calms Comment = refl
in_column_group-calms Doctype = refl
in_column_group-calms Eof = refl

in_table_body-calms : (y : Symbol) → calms (template_symbol y) false (in_table_body y) ≡ true
in_table_body-calms (Start g) = by-tag (λ v. in_table_body (Start v)) false g refl (simp by_arms refl)
in_table_body-calms (End g) = by-tag (λ v. in_table_body (End v)) false g refl (simp by_arms refl)
in_table_body-calms (Char c) = refl
in_table_body-calms Comment = refl
in_table_body-calms Doctype = refl
in_table_body-calms Eof = refl

in_row-calms : (y : Symbol) → calms (template_symbol y) false (in_row y) ≡ true
in_row-calms (Start g) = by-tag (λ v. in_row (Start v)) false g refl (simp by_arms refl)
in_row-calms (End g) = by-tag (λ v. in_row (End v)) false g refl (simp by_arms refl)
in_row-calms (Char c) = refl
in_row-calms Comment = refl
in_row-calms Doctype = refl
in_row-calms Eof = refl

in_cell-calms : (y : Symbol) → calms (template_symbol y) false (in_cell y) ≡ true
in_cell-calms (Start g) = by-tag (λ v. in_cell (Start v)) false g refl (simp by_arms refl)
in_cell-calms (End g) = by-tag (λ v. in_cell (End v)) false g refl (simp by_arms refl)
in_cell-calms (Char c) = refl
in_cell-calms Comment = refl
in_cell-calms Doctype = refl
in_cell-calms Eof = refl

in_select-calms : (y : Symbol) → calms (template_symbol y) false (in_select y) ≡ true
in_select-calms (Start g) = by-tag (λ v. in_select (Start v)) false g refl (simp by_arms refl)
in_select-calms (End g) = by-tag (λ v. in_select (End v)) false g refl (simp by_arms refl)
in_select-calms (Char c) = simp by_arms refl
in_select-calms Comment = refl
in_select-calms Doctype = refl
in_select-calms Eof = refl

in_select_in_table-calms : (y : Symbol) → calms (template_symbol y) false (in_select_in_table y) ≡ true
in_select_in_table-calms (Start g) = by-tag (λ v. in_select_in_table (Start v)) false g refl (simp by_arms refl)
in_select_in_table-calms (End g) = by-tag (λ v. in_select_in_table (End v)) false g refl (simp by_arms refl)
in_select_in_table-calms (Char c) = refl
in_select_in_table-calms Comment = refl
in_select_in_table-calms Doctype = refl
in_select_in_table-calms Eof = refl

in_template-calms : (y : Symbol) → calms (template_symbol y) false (in_template y) ≡ true
in_template-calms (Start g) = by-tag (λ v. in_template (Start v)) false g refl (simp by_arms refl)
in_template-calms (End g) = by-tag (λ v. in_template (End v)) false g refl (simp by_arms refl)
in_template-calms (Char c) = refl
in_template-calms Comment = refl
in_template-calms Doctype = refl
in_template-calms Eof = refl

after_body-calms : (y : Symbol) → calms (template_symbol y) false (after_body y) ≡ true
after_body-calms (Start g) = by-tag (λ v. after_body (Start v)) false g refl (simp by_arms refl)
after_body-calms (End g) = by-tag (λ v. after_body (End v)) false g refl (simp by_arms refl)
after_body-calms (Char c) = simp by_arms refl
after_body-calms Comment = refl
after_body-calms Doctype = refl
after_body-calms Eof = refl

in_frameset-calms : (y : Symbol) → calms (template_symbol y) false (in_frameset y) ≡ true
in_frameset-calms (Start g) = by-tag (λ v. in_frameset (Start v)) false g refl (simp by_arms refl)
in_frameset-calms (End g) = by-tag (λ v. in_frameset (End v)) false g refl (simp by_arms refl)
in_frameset-calms (Char c) = simp by_arms refl
in_frameset-calms Comment = refl
in_frameset-calms Doctype = refl
in_frameset-calms Eof = refl

after_frameset-calms : (y : Symbol) → calms (template_symbol y) false (after_frameset y) ≡ true
after_frameset-calms (Start g) = by-tag (λ v. after_frameset (Start v)) false g refl (simp by_arms refl)
after_frameset-calms (End g) = by-tag (λ v. after_frameset (End v)) false g refl (simp by_arms refl)
after_frameset-calms (Char c) = simp by_arms refl
after_frameset-calms Comment = refl
after_frameset-calms Doctype = refl
after_frameset-calms Eof = refl

after_after_body-calms : (y : Symbol) → calms (template_symbol y) false (after_after_body y) ≡ true
after_after_body-calms (Start g) = by-tag (λ v. after_after_body (Start v)) false g refl (simp by_arms refl)
after_after_body-calms (End g) = by-tag (λ v. after_after_body (End v)) false g refl refl
after_after_body-calms (Char c) = simp by_arms refl
after_after_body-calms Comment = refl
after_after_body-calms Doctype = refl
after_after_body-calms Eof = refl

after_after_frameset-calms : (y : Symbol) → calms (template_symbol y) false (after_after_frameset y) ≡ true
after_after_frameset-calms (Start g) = by-tag (λ v. after_after_frameset (Start v)) false g refl (simp by_arms refl)
after_after_frameset-calms (End g) = by-tag (λ v. after_after_frameset (End v)) false g refl refl
after_after_frameset-calms (Char c) = simp by_arms refl
after_after_frameset-calms Comment = refl
after_after_frameset-calms Doctype = refl
after_after_frameset-calms Eof = refl

plans-calm : AreCalm plan
unfolding plan
plans-calm mode.Initial y h = absurd (false≢true h)
plans-calm mode.BeforeHtml y h = absurd (false≢true h)
plans-calm mode.AfterHead y h = absurd (false≢true h)
plans-calm mode.Text y h = absurd (false≢true h)
plans-calm mode.InTableText y h = absurd (false≢true h)
plans-calm mode.BeforeHead y h = before_head-calms y
plans-calm mode.InHead y h = in_head-calms y
plans-calm mode.InHeadNoscript y h = in_head_noscript-calms y
plans-calm mode.InBody y h = in_body-calms y
plans-calm mode.InTable y h = in_table-calms y
plans-calm mode.InCaption y h = in_caption-calms y
plans-calm mode.InColumnGroup y h = in_column_group-calms y
plans-calm mode.InTableBody y h = in_table_body-calms y
plans-calm mode.InRow y h = in_row-calms y
plans-calm mode.InCell y h = in_cell-calms y
plans-calm mode.InSelect y h = in_select-calms y
plans-calm mode.InSelectInTable y h = in_select_in_table-calms y
plans-calm mode.InTemplate y h = in_template-calms y
plans-calm mode.AfterBody y h = after_body-calms y
plans-calm mode.InFrameset y h = in_frameset-calms y
plans-calm mode.AfterFrameset y h = after_frameset-calms y
plans-calm mode.AfterAfterBody y h = after_after_body-calms y
plans-calm mode.AfterAfterFrameset y h = after_after_frameset-calms y

heads-if : (x b k : Bool) (p n : Plan) → heads b k (if x then p else n) ≡ (if x then heads b k p else heads b k n)
heads-if true b k p n = refl
heads-if false b k p n = refl

ruleset by_head_arms = (heads-if, if-same)

after_head-heads : (y : Symbol) → heads (template_symbol y) false (after_head y) ≡ true
after_head-heads (Start g) = by (is_same g tag.Template) refl
  where
    by : (b : Bool) → is_same g tag.Template ≡ b → heads b false (after_head (Start g)) ≡ true
    by true e = subst (λ v. heads true false (after_head (Start v)) ≡ true) (sym (same-tag g tag.Template e)) refl
    by false e = rw e (simp by_head_arms refl)
after_head-heads (End g) = by (is_same g tag.Template)
  where
    by : (b : Bool) → heads b false (after_head (End g)) ≡ true
    by true = simp by_head_arms refl
    by false = simp by_head_arms refl
after_head-heads (Char c) = simp by_head_arms refl
after_head-heads Comment = refl
after_head-heads Doctype = refl
after_head-heads Eof = refl

calm-heads : (b k : Bool) (p : Plan) → calms b k p ≡ true → heads b k p ≡ true
calm-heads b k (Do (InsertAt target.Head) p) h = absurd (false≢true h)
calm-heads b k p h = h

plan-heads : (m : Mode) (y : Symbol) → is_early m ≡ false → heads (template_symbol y) (waits m) (plan m y) ≡ true
unfolding plan
plan-heads mode.Initial y h = absurd (false≢true (sym h))
plan-heads mode.BeforeHtml y h = absurd (false≢true (sym h))
plan-heads mode.AfterHead y h = after_head-heads y
plan-heads mode.Text y h = calm-heads (template_symbol y) true (text y) (text-calms y)
plan-heads mode.InTableText y h = calm-heads (template_symbol y) true (in_table_text y) (in_table_text-calms y)
plan-heads m y h = calm-heads (template_symbol y) false (plan m y) (plans-calm m y refl)

-- of a token that stays in foreign content
foreign-heads : (b : Bool) (g : Tag) (y : Symbol) → heads b false (in_foreign g y) ≡ true
foreign-heads b g (Start n) = refl
foreign-heads b g (End n) = refl
foreign-heads b g (Char c) = by (c == 0) (is_space c)
  where
    by : (x s : Bool) → heads b false (if x then Do InsertReplacement over else Do InsertCharacter (if s then over else Do FramesetOff over)) ≡ true
    by true s = refl
    by false true = refl
    by false false = refl
foreign-heads b g Comment = refl
foreign-heads b g Doctype = refl
foreign-heads b g Eof = refl

text-holds : (b : Bool) (y : Symbol) → holds b (text y) ≡ true
text-holds b (Start g) = refl
text-holds b (End g) = refl
text-holds b (Char c) = by (c == 0)
  where
    by : (x : Bool) → holds b (if x then ignored Null else Do InsertCharacter over) ≡ true
    by true = refl
    by false = refl
text-holds b Comment = refl
text-holds b Doctype = refl
text-holds b Eof = refl

plan-holds : (b : Bool) (m : Mode) (y : Symbol) → m ≡ mode.Text → holds b (plan m y) ≡ true
unfolding plan
plan-holds b m y e = subst (λ v. holds b (plan v y) ≡ true) (sym e) (text-holds b y)

starts-if : (x : Bool) (p n : Plan) → starts (if x then p else n) ≡ (if x then starts p else starts n)
starts-if true p n = refl
starts-if false p n = refl

ruleset by_first_arms = (starts-if, if-same)

initial-starts : (y : Symbol) → starts (initial y) ≡ true
initial-starts (Start g) = refl
initial-starts (End g) = refl
initial-starts (Char c) = refl
initial-starts Comment = refl
initial-starts Doctype = refl
initial-starts Eof = refl

before_html-starts : (y : Symbol) → starts (before_html y) ≡ true
before_html-starts (Start g) = simp by_first_arms refl
before_html-starts (End g) = simp by_first_arms refl
before_html-starts (Char c) = refl
before_html-starts Comment = refl
before_html-starts Doctype = refl
before_html-starts Eof = refl

plan-starts : (m : Mode) (y : Symbol) → is_early m ≡ true → starts (plan m y) ≡ true
unfolding plan
plan-starts mode.Initial y e = initial-starts y
plan-starts mode.BeforeHtml y e = before_html-starts y
plan-starts m y e = absurd (false≢true e)

-- STATES

-- all that is open stands where it should, and no mode is early
record IsSteady (a : State) : Type 0 where
  hosted : IsHosted a
  later : IsLater a

-- the same but for the current node, in the mode text
record IsOutside (a : State) : Type 0 where
  overhung : IsOverhung a
  later : IsLater a
  in_text : a.mode ≡ mode.Text

-- nothing is open, in an early mode
record IsEmpty (a : State) : Type 0 where
  bare : IsBare a
  early : is_early a.mode ≡ true
  templates : list_all is_late a.templates ≡ true

-- one of these
data IsHeld (a : State) : Type 0 where
  nothing : IsEmpty a → IsHeld a
  steady : IsSteady a → IsHeld a
  outside : IsOutside a → IsHeld a

module _ (a b : State) (n : AreSameHosts a b) (m : AreSameModes a b) where
  same-steady : IsSteady a → IsSteady b
  same-steady k = record { hosted = same-hosted a b n k.hosted; later = same-later a b m k.later }

  same-outside : IsOutside a → IsOutside b
  same-outside k = record { overhung = same-overhung a b n k.overhung; later = same-later a b m k.later; in_text = m.0 ∙ k.in_text }

  same-empty : IsEmpty a → IsEmpty b
  same-empty k = record { bare = same-bare a b n k.bare; early = ap is_early m.0 ∙ k.early; templates = ap (list_all is_late) m.2 ∙ k.templates }

  same-held : IsHeld a → IsHeld b
  same-held (nothing k) = nothing (same-empty k)
  same-held (steady k) = steady (same-steady k)
  same-held (outside k) = outside (same-outside k)

becomes-hosts : (a b : State) → Becomes a b → AreSameHosts a b
becomes-hosts a b i = (
  ap (λ (v : State). v.tree.tree) i.state_is,
  ap (λ (v : State). v.tree.stack) i.state_is,
  ap (λ (v : State). v.tree.list) i.state_is,
  ap (λ (v : State). v.tree.head) i.state_is,
  ap (λ (v : State). v.tree.form) i.state_is,
)

becomes-steady : (a b : State) → Becomes a b → IsSteady a → IsSteady b
becomes-steady a b i k = same-steady a b (becomes-hosts a b i) (becomes-modes a b i) k

becomes-outside : (a b : State) → Becomes a b → IsOutside a → IsOutside b
becomes-outside a b i k = same-outside a b (becomes-hosts a b i) (becomes-modes a b i) k

becomes-empty : (a b : State) → Becomes a b → IsEmpty a → IsEmpty b
becomes-empty a b i k = same-empty a b (becomes-hosts a b i) (becomes-modes a b i) k

becomes-held : (a b : State) → Becomes a b → IsHeld a → IsHeld b
becomes-held a b i k = same-held a b (becomes-hosts a b i) (becomes-modes a b i) k

becomes-back : (a b : State) → Becomes a b → IsBack a → IsBack b
becomes-back a b i k = same-back a b (becomes-modes a b i) k

held-laid : (a : State) → IsHeld a → IsLaid a.tree.tree
held-laid a (nothing k) = k.bare.laid
held-laid a (steady k) = k.hosted.tied.laid
held-laid a (outside k) = k.overhung.tied.laid

-- RUNS WHERE SOMETHING IS OPEN

-- where a run leads
record Leads (a z : State) : Type 0 where
  steady : IsSteady z
  back : IsBack a → IsBack z

leads-after : (a b z : State) → (IsBack a → IsBack b) → Leads b z → Leads a z
leads-after a b z o w = record { steady = w.steady; back = λ k. w.back (o k) }

chosen-calms : (b k x : Bool) (p n : Plan) → (calms b k p && calms b k n) ≡ true → calms b k (if x then p else n) ≡ true
chosen-calms b k true p n e = (both (calms b k p) (calms b k n) e).0
chosen-calms b k false p n e = (both (calms b k p) (calms b k n) e).1

module _ (r : Rules) (all : AreCalm r) where
  runs-steady : (x k : Bool) (p : Plan) (t : TokenKind) (a : State) (e : Ending) (z : State) → calms x k p ≡ true → names_template t ≡ x → IsSteady a → (k ≡ true → IsBack a) → Runs r p t a e z → Leads a z
  runs-steady x k _ _ _ _ _ f n s o (does w p t a b e z i j) =
      let c = both (calm x w) (goes k w && calms x k p) f in
      let d = both (goes k w) (calms x k p) c.1 in
      let v = after w t a in
      let g = word-gone k w t a d.0 s.later o in
      let back = λ (u : IsBack a). becomes-back v b i (g.back u) in
      leads-after a b z back (runs-steady x k p t b e z d.1 n (becomes-steady v b i (record { hosted = word-hosted x w t a n c.0 s.hosted; later = g.later })) (λ u. back (o u)) j)
  runs-steady x k _ _ _ _ _ f n s o (asks q p m t a b e z i j) =
      let back = becomes-back a b i in
      leads-after a b z back (runs-steady x k (if answer q t a then p else m) t b e z (chosen-calms x k (answer q t a) p m f) n (becomes-steady a b i s) (λ u. back (o u)) j)
  runs-steady x k _ _ _ _ _ f n s o (reconstructs p t a b e z i m j) =
      let w = moved-modes a b i in
      leads-after a b z (same-back a b w) (runs-steady x k p t b e z f n (record { hosted = reopened-hosted a b i m s.hosted; later = same-later a b w s.later }) (λ u. same-back a b w (o u)) j)
  runs-steady x k _ _ _ _ _ f n s o (adopts g p t a b e z i m j) =
      let c = both (is_formatting g) (calms x k p) f in
      let w = moved-modes a b i in
      leads-after a b z (same-back a b w) (runs-steady x k p t b e z c.1 n (record { hosted = ended-hosted g a b c.0 i m s.hosted; later = same-later a b w s.later }) (λ u. same-back a b w (o u)) j)
  runs-steady x k _ _ _ _ _ f n s o (closes_link p t a b e z i m j) =
      let w = moved-modes a b i in
      leads-after a b z (same-back a b w) (runs-steady x k p t b e z f n (record { hosted = link-hosted a b i m s.hosted; later = same-later a b w s.later }) (λ u. same-back a b w (o u)) j)
  runs-steady x k _ _ _ _ _ f n s o (fosters p t a b c e z i j m) =
      let v = record a { fostering = true } in
      let back = λ (u : IsBack a). becomes-back v b i u in
      let w = runs-steady x k p t b e c f n (becomes-steady v b i (same-steady a v (refl, refl, refl, refl, refl) (refl, refl, refl) s)) (λ u. back (o u)) j in
      let d = record c { fostering = false } in
      record { steady = becomes-steady d z m (same-steady c d (refl, refl, refl, refl, refl) (refl, refl, refl) w.steady); back = λ u. becomes-back d z m (w.back (back u)) }
  runs-steady x k _ _ _ _ _ f n s o (settles q p t a b e z i j) =
      let v = with_kept [] a in
      let back = λ (u : IsBack a). becomes-back v b i u in
      leads-after a b z back (runs-steady x k (Each a.ledger.kept q p) t b e z f n (becomes-steady v b i (same-steady a v (refl, refl, refl, refl, refl) (refl, refl, refl) s)) (λ u. back (o u)) j)
  runs-steady x k _ _ _ _ _ f n s o (ends_each q p t a e z j) = runs-steady x k p t a e z (both (calms false k q) (calms x k p) f).1 n s o j
  runs-steady x k _ _ _ _ _ f n s o (does_each d cs q p t a b e z i j) =
      let w = runs-steady false k q (kind.Char d) a Over b (both (calms false k q) (calms x k p) f).0 nameless s o i in
      leads-after a b z w.back (runs-steady x k (Each cs q p) t b e z f n w.steady (λ u. w.back (o u)) j)
  runs-steady x k _ _ _ _ _ f n s o (stops t a e z i) = record { steady = becomes-steady a z i s; back = becomes-back a z i }
  runs-steady x k _ _ _ _ _ f n s o (goes_by m t a e z j) = runs-steady (template_symbol (symbol_of t)) false (r m (symbol_of t)) t a e z (all m (symbol_of t) f) (symbol-names t) s (λ u. absurd (false≢true u)) j

  -- with the current node elsewhere
  ended-outside : (p : Plan) (t : TokenKind) (a : State) (e : Ending) (z : State) → ends p ≡ true → IsOutside a → Runs r p t a e z → IsOutside z
  ended-outside (Stop f) t a e z h g j = becomes-outside a z (followed r (Stop f) t a e z j).1 g
  ended-outside p t a e z h g j = absurd (false≢true h)

  entered-text : (p : Plan) (t : TokenKind) (a : State) (e : Ending) (z : State) → enters_text p ≡ true → IsOverhung a → IsLater a → Runs r p t a e z → IsOutside z
  entered-text (Do (Enter mode.Text) p) t a e z h g l j =
      let s = followed r (Do (Enter mode.Text) p) t a e z j in
      let b = after (Enter mode.Text) t a in
      ended-outside p t s.0 e z h (becomes-outside b s.0 s.1 (record {
        overhung = same-overhung a b (refl, refl, refl, refl, refl) g;
        later = (word-gone false (Enter mode.Text) t a refl l (λ u. absurd (false≢true u))).later;
        in_text = refl;
      })) s.2
  entered-text p t a e z h g l j = absurd (false≢true h)

  runs-heads : (x k : Bool) (p : Plan) (t : TokenKind) (a : State) (e : Ending) (z : State) → heads x k p ≡ true → names_template t ≡ x → IsSteady a → (k ≡ true → IsBack a) → Runs r p t a e z → IsHeld z
  runs-heads x k _ _ _ _ _ f n s o (does (InsertAt target.Head) p t a b e z i j) = by (enters_text p) refl f
    where
      made : State
      made = after (InsertAt target.Head) t a

      later : IsLater made
      later = same-later a made (refl, refl, refl) s.later

      by : (c : Bool) → enters_text p ≡ c → (c || (x && calms x k p)) ≡ true → IsHeld z
      by true u v = outside (entered-text p t b e z u (becomes-overhung made b i (head-overhung t a s.hosted)) (same-later made b (becomes-modes made b i) later) j)
      by false u v =
          let c = both x (calms x k p) v in
          steady (runs-steady x k p t b e z c.1 n (becomes-steady made b i (record { hosted = head-hosted t a (n ∙ c.0) s.hosted; later = later })) (λ w. becomes-back made b i (o w)) j).steady
  runs-heads x k p t a e z f n s o j = steady (runs-steady x k p t a e z f n s o j).steady

  runs-outside : (x : Bool) (p : Plan) (t : TokenKind) (a : State) (e : Ending) (z : State) → holds x p ≡ true → names_template t ≡ x → IsOutside a → Runs r p t a e z → IsHeld z
  runs-outside x (Do InsertCharacter p) t a e z f n g j =
      let s = followed r (Do InsertCharacter p) t a e z j in
      let b = after InsertCharacter t a in
      outside (ended-outside p t s.0 e z f (becomes-outside b s.0 s.1 (record { overhung = text-overhung t a g.overhung; later = same-later a b (refl, refl, refl) g.later; in_text = g.in_text })) s.2)
  runs-outside x (Do (Drop c) p) t a e z f n g j =
      let s = followed r (Do (Drop c) p) t a e z j in
      let b = after (Drop c) t a in
      outside (ended-outside p t s.0 e z f (becomes-outside b s.0 s.1 (same-outside a b (refl, refl, refl, refl, refl) (refl, refl, refl) g)) s.2)
  runs-outside x (Do Pop p) t a e z f n g j =
      let s = followed r (Do Pop p) t a e z j in
      let b = after Pop t a in
      let back : IsBack a = g.later.back (ap waits g.in_text) in
      steady (runs-steady x true p t s.0 e z f n (becomes-steady b s.0 s.1 (record { hosted = pop-overhung t a g.overhung; later = same-later a b (refl, refl, refl) g.later })) (λ u. becomes-back b s.0 s.1 back) s.2).steady
  runs-outside x p t a e z f n g j = absurd (false≢true f)

-- RUNS WHERE NOTHING IS OPEN

tarries-still : (w : Word) → tarries w ≡ true → is_still w ≡ true
tarries-still (Switch m) h = refl
tarries-still w h = h

tarries-empty : (w : Word) (t : TokenKind) (a : State) → tarries w ≡ true → IsEmpty a → IsEmpty (after w t a)
tarries-empty w t a h k = record { bare = still-bare w t a (tarries-still w h) k.bare; early = early w h k.early; templates = templates w h k.templates }
  where
    early : (w : Word) → tarries w ≡ true → is_early a.mode ≡ true → is_early (after w t a).mode ≡ true
    early (Switch m) h e = h
    early (InsertCommentAt target.Document) h e = e
    early InsertDoctype h e = e
    early (Drop c) h e = e
    early EndWord h e = e
    early (Quirks q) h e = e
    early w h e = absurd (false≢true h)

    templates : (w : Word) → tarries w ≡ true → list_all is_late a.templates ≡ true → list_all is_late (after w t a).templates ≡ true
    templates (Switch m) h e = e
    templates (InsertCommentAt target.Document) h e = e
    templates InsertDoctype h e = e
    templates (Drop c) h e = e
    templates EndWord h e = e
    templates (Quirks q) h e = e
    templates w h e = absurd (false≢true h)

chosen-starts : (x : Bool) (p n : Plan) → (starts p && starts n) ≡ true → starts (if x then p else n) ≡ true
chosen-starts true p n e = (both (starts p) (starts n) e).0
chosen-starts false p n e = (both (starts p) (starts n) e).1

module _ (r : Rules) where
  ended-steady : (p : Plan) (t : TokenKind) (a : State) (e : Ending) (z : State) → ends p ≡ true → IsSteady a → Runs r p t a e z → IsSteady z
  ended-steady (Stop f) t a e z h g j = becomes-steady a z (followed r (Stop f) t a e z j).1 g
  ended-steady p t a e z h g j = absurd (false≢true h)

  left-steady : (p : Plan) (t : TokenKind) (a : State) (e : Ending) (z : State) → leaves p ≡ true → IsHosted a → list_all is_late a.templates ≡ true → Runs r p t a e z → IsSteady z
  left-steady (Do (Switch m) p) t a e z h g l j =
      let c = both (is_late m) (ends p) h in
      let s = followed r (Do (Switch m) p) t a e z j in
      let b = after (Switch m) t a in
      ended-steady p t s.0 e z c.1 (becomes-steady b s.0 s.1 (record { hosted = same-hosted a b (refl, refl, refl, refl, refl) g; later = late-later b c.0 l })) s.2
  left-steady p t a e z h g l j = absurd (false≢true h)

  runs-empty : (p : Plan) (t : TokenKind) (a : State) (e : Ending) (z : State) → starts p ≡ true → IsEmpty a → Runs r p t a e z → IsHeld z
  runs-empty _ _ _ _ _ f g (does InsertRoot p t a b e z i j) =
      let v = after InsertRoot t a in
      steady (left-steady p t b e z f (becomes-hosted v b i (root-hosted t a g.bare)) (ap (list_all is_late) (becomes-modes v b i).2 ∙ g.templates) j)
  runs-empty _ _ _ _ _ f g (does ImplyRoot p t a b e z i j) =
      let v = after ImplyRoot t a in
      steady (left-steady p t b e z f (becomes-hosted v b i (implied-hosted t a g.bare)) (ap (list_all is_late) (becomes-modes v b i).2 ∙ g.templates) j)
  runs-empty _ _ _ _ _ f g (does w p t a b e z i j) =
      let c = both (tarries w) (starts p) f in
      runs-empty p t b e z c.1 (becomes-empty (after w t a) b i (tarries-empty w t a c.0 g)) j
  runs-empty _ _ _ _ _ f g (asks q p n t a b e z i j) = runs-empty (if answer q t a then p else n) t b e z (chosen-starts (answer q t a) p n f) (becomes-empty a b i g) j
  runs-empty _ _ _ _ _ f g (stops t a e z i) = nothing (becomes-empty a z i g)
  runs-empty _ _ _ _ _ f g j = absurd (false≢true f)

-- ENTRIES

-- the early modes, and the mode text
abbrev is_plain : Mode → Bool
is_plain mode.Initial = true
is_plain mode.BeforeHtml = true
is_plain mode.Text = true
is_plain _ = false

early-plain : (m : Mode) → is_early m ≡ true → is_plain m ≡ true
early-plain mode.Initial h = refl
early-plain mode.BeforeHtml h = refl
early-plain m h = absurd (false≢true h)

plain-selects : (m : Mode) → is_plain m ≡ true → is_of_selects m ≡ false
plain-selects mode.InSelect h = absurd (false≢true h)
plain-selects mode.InSelectInTable h = absurd (false≢true h)
plain-selects m h = refl

plain-frames : (m : Mode) → is_plain m ≡ true → is_of_frames m ≡ false
plain-frames mode.InFrameset h = absurd (false≢true h)
plain-frames mode.AfterFrameset h = absurd (false≢true h)
plain-frames mode.AfterAfterFrameset h = absurd (false≢true h)
plain-frames m h = refl

-- foreign content is not around then, and no token is astray
plain-loose : (m : Mode) → is_plain m ≡ true → is_loose m ≡ false
plain-loose mode.Initial h = refl
plain-loose mode.BeforeHtml h = refl
plain-loose mode.Text h = refl
plain-loose m h = absurd (false≢true h)

plain-astray : (a : State) (y : Symbol) → is_plain a.mode ≡ true → is_astray a y ≡ false
plain-astray a y h = never-astray a y (plain-selects a.mode h) (plain-frames a.mode h)

plain-settled : (a : State) → is_plain a.mode ≡ true → settled a ≡ a
plain-settled a h = rw (plain-selects a.mode h, plain-frames a.mode h) refl

settled-held : (a : State) → IsHeld a → IsHeld (settled a)
settled-held a (nothing k) = subst IsHeld (sym (plain-settled a (early-plain a.mode k.early))) (nothing k)
settled-held a (steady k) = steady (record { hosted = same-hosted a (settled a) (refl, refl, refl, refl, refl) k.hosted; later = settled-later a k.later })
settled-held a (outside k) = subst IsHeld (sym (plain-settled a (ap is_plain k.in_text))) (outside k)

module _ (t : TokenKind) where
  abbrev y : Symbol
  y = symbol_of t

  not-around : (a : State) (g : Tag) → is_plain a.mode ≡ true → around_foreign a y t ≡ Some g → ⊥
  not-around a g p k = false≢true (sym (plain-loose a.mode p) ∙ around-loose a y t g k)

  not-astray : (a : State) → is_plain a.mode ≡ true → is_astray a y ≡ true → ⊥
  not-astray a p k = false≢true (sym (plain-astray a y p) ∙ k)

  -- after what the rules for foreign content close
  abbrev closed : State → State
  closed a = with_stack (stack_after a.tree y t) a

  closed-steady : (a : State) → IsSteady a → IsSteady (closed a)
  closed-steady a g = record { hosted = closed-hosted y t a g.hosted; later = same-later a (closed a) (refl, refl, refl) g.later }

  way-held : (o : _) (a z : State) → IsHeld a → Way o y t a z → IsHeld z
  way-held o a z (nothing g) (planned f) = runs-empty plan (plan a.mode y) t a (ending o) z (plan-starts a.mode y g.early) g f
  way-held o a z (nothing g) (dropped c e f) = runs-empty plan (ignored c) t a (ending o) z refl g f
  way-held o a z (nothing g) (handed h k f) = absurd (not-around a h (early-plain a.mode g.early) k)
  way-held o a z (nothing g) (strayed k f) = absurd (not-astray a (early-plain a.mode g.early) k)
  way-held o a z (nothing g) (stayed h k f) = absurd (not-around a h (early-plain a.mode g.early) k)
  way-held o a z (steady g) (planned f) =
      runs-heads plan plans-calm (template_symbol y) (waits a.mode) (plan a.mode y) t a (ending o) z (plan-heads a.mode y g.later.late) (symbol-names t) g g.later.back f
  way-held o a z (steady g) (dropped c e f) = runs-heads plan plans-calm (template_symbol y) false (ignored c) t a (ending o) z refl (symbol-names t) g (λ u. absurd (false≢true u)) f
  way-held o a z (steady g) (handed h k f) =
      runs-heads plan plans-calm (template_symbol y) (waits a.mode) (plan a.mode y) t f.middle (ending o) z (plan-heads a.mode y g.later.late) (symbol-names t) (becomes-steady (closed a) f.middle f.left (closed-steady a g))
      (λ u. becomes-back (closed a) f.middle f.left (g.later.back u)) f.follows
  way-held o a z (steady g) (strayed k f) =
      runs-heads plan plans-calm (template_symbol y) false (Do (Switch mode.InBody) again) t a (ending o) z refl (symbol-names t) g (λ u. absurd (false≢true u)) f
  way-held o a z (steady g) (stayed h k f) =
      runs-heads plan plans-calm (template_symbol y) false (in_foreign h y) t f.middle (ending o) z (foreign-heads (template_symbol y) h y) (symbol-names t) (becomes-steady (closed a) f.middle f.left (closed-steady a g)) (λ u. absurd (false≢true u))
      f.follows
  way-held o a z (outside g) (planned f) = runs-outside plan plans-calm (template_symbol y) (plan a.mode y) t a (ending o) z (plan-holds (template_symbol y) a.mode y g.in_text) (symbol-names t) g f
  way-held o a z (outside g) (dropped c e f) = runs-outside plan plans-calm (template_symbol y) (ignored c) t a (ending o) z refl (symbol-names t) g f
  way-held o a z (outside g) (handed h k f) = absurd (not-around a h (ap is_plain g.in_text) k)
  way-held o a z (outside g) (strayed k f) = absurd (not-astray a (ap is_plain g.in_text) k)
  way-held o a z (outside g) (stayed h k f) = absurd (not-around a h (ap is_plain g.in_text) k)

  entry-held : (o : _) (a z : State) → IsHeld a → IsEntry o y t a z → IsHeld z
  entry-held o a z g e = way-held o a z g (way o y t a z e)

  entries-held : (a z : State) → Entries y t a z → IsHeld a → IsHeld z
  entries-held _ _ (next a b c z i j r) g = entries-held c z r (entry-held _ b c (becomes-held a b i g) j)
  entries-held _ _ (last a b c z i j e) g = subst IsHeld (sym e) (settled-held c (entry-held _ b c (becomes-held a b i g) j))

-- TOKENS AND PAGES

held-begun : (a : State) → IsHeld a → IsHeld (begun a)
held-begun a k = same-held a (begun a) (refl, refl, refl, refl, refl) (refl, refl, refl) k

constructs-held : (ts : List TokenKind) (a z : State) → IsHeld a → Constructs ts a z → IsHeld (begun z)
constructs-held [] a z g c = subst IsHeld c (held-begun a g)
constructs-held (t ∷ ts) a z g c = constructs-held ts c.0 z (entries-held t (begun a) c.0 c.1 (held-begun a g)) c.2

first-held : (s : Setting) (l : Option Limits) (a : State) → IsFirst s l a → IsHeld a
first-held Document l a k =
    let e = first-core Document l a k in
    let b = first_state Document l a.quirks a.parses_foreign 0 in
    nothing (record {
      bare = same-bare (begun a) a (refl, refl, refl, refl, refl) (core-bare (begun a) (begun b) e (same-bare b (begun b) (refl, refl, refl, refl, refl) (document-bare l a.quirks a.parses_foreign 0)));
      early = ap (λ (v : State). is_early v.mode) e;
      templates = ap (λ (v : State). list_all is_late v.templates) e;
    })
first-held (Fragment context in_form) l a k =
    let e = first-core (Fragment context in_form) l a k in
    let b = first_state (Fragment context in_form) l a.quirks a.parses_foreign 0 in
    let t = templates-late (Fragment context in_form) in
    steady (record {
      hosted = same-hosted (begun a) a (refl, refl, refl, refl, refl) (core-hosted (begun a) (begun b) e (same-hosted b (begun b) (refl, refl, refl, refl, refl) (fragment-hosted context in_form l a.quirks a.parses_foreign 0)));
      later = late-later a (ap (λ (v : State). is_late v.mode) e ∙ reset-late (Some context) None (first_templates (Fragment context in_form)) (tag.Html ∷ []) t) (ap (λ (v : State). list_all is_late v.templates) e ∙ t);
    })

-- marks and counts apart, the nodes are the same
over-bare : (t : Nodes) (r x : ℕ) → IsOver t r x → IsOver (bare t) r x
over-bare t r _ itself = itself
over-bare t r _ (above x p e o) = above x p e (over-bare t r p o)

stands-bare : (t : Nodes) (h x : ℕ) → StandsIn t h x → StandsIn (bare t) h x
stands-bare t h _ (inside x c o e) = inside x c (over-bare t c x o) e
stands-bare t h _ (deeper x c k o e s) = deeper x c k (over-bare t c x o) e (stands-bare t h k s)

apart-bare : (t : Nodes) → NoTemplateHoldsItself (bare t) → NoTemplateHoldsItself t
apart-bare t k h s = k h (stands-bare t h h s)

pub pages-hosts : PagesHaveNoTemplateInItself
pages-hosts s l foreign tokens fates t b =
    let g = constructs-held tokens b.first b.last (first-held s l b.first b.begins) b.constructs in
    apart-bare t (subst NoTemplateHoldsItself (sym b.tree_is) (hosts-apart b.last (held-laid (begun b.last) g)))
