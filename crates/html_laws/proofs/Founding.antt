-- The rules of the mode "before html" make the html element, and no others do.
use Rattle.std.proofs.Common.{◌≡◌, ◌⊎◌, ◌≤◌, Bool, true, false, cond, ◌&&◌, ◌||◌, List, [], ◌∷◌, Option, Some, None, if◌then◌else◌, inl, inr, refl, sym, ◌∙◌, ap, subst, arith}
use Rattle.std.specs.List.{list_all, sum_by}
use Rattle.std.proofs.lemmas.List.Sums.{sum_by-cons}
use Rattle.std.proofs.lemmas.Bool.{false≢true}
use Rattle.html_names.specs.declared.tag.Tag.{Tag}
use Rattle.html_names.specs.declared.tag.Tag.TheVariants as tag
use Rattle.html_names.specs.Names.{name_of}
use Rattle.html_names.specs.Tags.{is_same}
use Rattle.html_tokens.specs.declared.token.TokenKind.{TokenKind}
use Rattle.html_ledger.specs.declared.symbol.Symbol.{Symbol}
use Rattle.html_ledger.specs.declared.symbol.Symbol.TheVariants.{Start, End, Char, Comment, Doctype, Eof}
use Rattle.html_ledger.specs.Symbols.{symbol_of}
use Rattle.html_tree.specs.declared.groups.Target.TheVariants as target
use Rattle.html_tree.specs.Targets.{place_for}
use Rattle.html_construction.specs.declared.mode.Mode.{Mode}
use Rattle.html_construction.specs.declared.mode.Mode.TheVariants as mode
use Rattle.html_construction.specs.Calls.{implied_of, root_of}
use Rattle.html_construction.specs.Plans.{Ask, Do, Ending, Plan, Rules, Runs, Stop, adopts, asks, closes_link, does, does_each, ends_each, fosters, goes_by, reconstructs, settles, stops}
use Rattle.html_construction.specs.States.{State}
use Rattle.html_construction.specs.Words.{Becomes, ImplyRoot, InsertRoot, Switch, Word, after, answer}
use Rattle.html_construction.proofs.Planned.{followed, halves as both}
use Rattle.html_construction.proofs.Weighing.{same-tag}
use Rattle.html_modes.specs.Rules.{plan}
use Rattle.html_modes.specs.RulesInitial.{initial}
use Rattle.html_modes.specs.RulesBeforeHtml.{before_html}
use Rattle.html_modes.specs.RulesText.{text}
use Rattle.html_modes.specs.RulesInTableText.{in_table_text}
use Rattle.html_modes.specs.RulesBeforeHead.{before_head}
use Rattle.html_modes.specs.RulesInHead.{in_head}
use Rattle.html_modes.specs.RulesInHeadNoscript.{in_head_noscript}
use Rattle.html_modes.specs.RulesAfterHead.{after_head}
use Rattle.html_modes.specs.RulesInBody.{in_body}
use Rattle.html_modes.specs.RulesInTable.{in_table}
use Rattle.html_modes.specs.RulesInCaption.{in_caption}
use Rattle.html_modes.specs.RulesInColumnGroup.{in_column_group}
use Rattle.html_modes.specs.RulesInTableBody.{in_table_body}
use Rattle.html_modes.specs.RulesInRow.{in_row}
use Rattle.html_modes.specs.RulesInCell.{in_cell}
use Rattle.html_modes.specs.RulesInSelect.{in_select}
use Rattle.html_modes.specs.RulesInSelectInTable.{in_select_in_table}
use Rattle.html_modes.specs.RulesInTemplate.{in_template}
use Rattle.html_modes.specs.RulesAfterBody.{after_body}
use Rattle.html_modes.specs.RulesInFrameset.{in_frameset}
use Rattle.html_modes.specs.RulesAfterFrameset.{after_frameset}
use Rattle.html_modes.specs.RulesAfterAfterBody.{after_after_body}
use Rattle.html_modes.specs.RulesAfterAfterFrameset.{after_after_frameset}
use Rattle.html_modes.specs.Dispatching.{Constructs, Entries, IsEntry, begun, is_unfounded, last, next, settled}
use Rattle.html_modes.specs.RuleForms.{ending}
use Rattle.html_arena.specs.declared.arena.Limits.{Limits}
use Rattle.html_arena.specs.declared.data.NewNode.TheVariants as new
use Rattle.html_arena.specs.declared.data.NodeData.{NodeData}
use Rattle.html_arena.specs.declared.data.Origin.TheVariants.{Implied}
use Rattle.html_arena.specs.Make.{has_contents, label_for}
use Rattle.html_arena.specs.Tree.{Tree as Nodes, empty_tree}
use Rattle.html_tree.specs.Inserting.{rest_of}
use Rattle.html_tree.specs.States.{fragment_state}
use Rattle.html_tree.proofs.Inserted.{made-labels}
use Rattle.html_ledger.specs.declared.setting.Setting.{Setting}
use Rattle.html_ledger.specs.declared.setting.Setting.TheVariants.{Document, Fragment}
use Rattle.html_construction.specs.Beginning.{IsFirst, first_state, first_templates}
use Rattle.html_laws.specs.Elements.{PagesHaveOneRoot}
use Rattle.html_laws.specs.Likeness.{core}
use Rattle.html_laws.proofs.Beginnings.{first-core, first-native}
use Rattle.html_laws.proofs.Natives.{IsNative, native-becomes}
use Rattle.html_laws.proofs.Owned.{founded, htmls, own, own-most, rest-own}
use Rattle.html_laws.proofs.Refusing.{entries-native, entry-follows, entry-native, native-begun, native_plan, of-entry}
use Rattle.html_laws.proofs.Rooting.{AreSound, IsPast, IsSame, becomes-same, html_symbol, is_early, is_late, late-not-early, late-not-waits, names_html, past-same, quiet, reset-late, runs-past, same-then, sound, symbol-names, waits, word-same}
use Rattle.html_laws.proofs.Tables.{if-same}

-- WHAT EACH PLAN OF THE OTHER MODES SAYS

sound-if : (b h k : Bool) (p n : Plan) → sound h k (if b then p else n) ≡ (if b then sound h k p else sound h k n)
sound-if true h k p n = refl
sound-if false h k p n = refl

late-if : (b : Bool) (m n : Mode) → is_late (if b then m else n) ≡ (if b then is_late m else is_late n)
late-if true m n = refl
late-if false m n = refl

ruleset by_arms = (sound-if, late-if, if-same)

-- of a tag html, and of any other
by-tag : (f : Tag → Plan) (k : Bool) (g : Tag) → sound true k (f tag.Html) ≡ true → sound false k (f g) ≡ true → sound (is_same g tag.Html) k (f g) ≡ true
by-tag f k g p q = by (is_same g tag.Html) refl
  where
    by : (b : Bool) → is_same g tag.Html ≡ b → sound b k (f g) ≡ true
    by true e = subst (λ v. sound true k (f v) ≡ true) (sym (same-tag g tag.Html e)) p
    by false e = q

before_head-sound : (y : Symbol) → sound (html_symbol y) false (before_head y) ≡ true
before_head-sound (Start g) = by-tag (λ v. before_head (Start v)) false g refl (simp by_arms refl)
before_head-sound (End g) = by-tag (λ v. before_head (End v)) false g refl (simp by_arms refl)
before_head-sound (Char c) = refl
before_head-sound Comment = refl
before_head-sound Doctype = refl
before_head-sound Eof = refl

in_head-sound : (y : Symbol) → sound (html_symbol y) false (in_head y) ≡ true
in_head-sound (Start g) = by-tag (λ v. in_head (Start v)) false g refl (simp by_arms refl)
in_head-sound (End g) = by-tag (λ v. in_head (End v)) false g refl (simp by_arms refl)
in_head-sound (Char c) = simp by_arms refl
in_head-sound Comment = refl
in_head-sound Doctype = refl
in_head-sound Eof = refl

in_head_noscript-sound : (y : Symbol) → sound (html_symbol y) false (in_head_noscript y) ≡ true
in_head_noscript-sound (Start g) = by-tag (λ v. in_head_noscript (Start v)) false g refl (simp by_arms refl)
in_head_noscript-sound (End g) = by-tag (λ v. in_head_noscript (End v)) false g refl (simp by_arms refl)
in_head_noscript-sound (Char c) = simp by_arms refl
in_head_noscript-sound Comment = refl
in_head_noscript-sound Doctype = refl
in_head_noscript-sound Eof = refl

after_head-sound : (y : Symbol) → sound (html_symbol y) false (after_head y) ≡ true
after_head-sound (Start g) = by-tag (λ v. after_head (Start v)) false g refl (simp by_arms refl)
after_head-sound (End g) = by-tag (λ v. after_head (End v)) false g refl (simp by_arms refl)
after_head-sound (Char c) = simp by_arms refl
after_head-sound Comment = refl
after_head-sound Doctype = refl
after_head-sound Eof = refl

in_body-sound : (y : Symbol) → sound (html_symbol y) false (in_body y) ≡ true
in_body-sound (Start g) = by-tag (λ v. in_body (Start v)) false g refl (simp by_arms refl)
in_body-sound (End g) = by-tag (λ v. in_body (End v)) false g refl (simp by_arms refl)
in_body-sound (Char c) = simp by_arms refl
in_body-sound Comment = refl
in_body-sound Doctype = refl
in_body-sound Eof = refl

in_table-sound : (y : Symbol) → sound (html_symbol y) false (in_table y) ≡ true
in_table-sound (Start g) = by-tag (λ v. in_table (Start v)) false g refl (simp by_arms refl)
in_table-sound (End g) = by-tag (λ v. in_table (End v)) false g refl (simp by_arms refl)
in_table-sound (Char c) = refl
in_table-sound Comment = refl
in_table-sound Doctype = refl
in_table-sound Eof = refl

in_caption-sound : (y : Symbol) → sound (html_symbol y) false (in_caption y) ≡ true
in_caption-sound (Start g) = by-tag (λ v. in_caption (Start v)) false g refl (simp by_arms refl)
in_caption-sound (End g) = by-tag (λ v. in_caption (End v)) false g refl (simp by_arms refl)
in_caption-sound (Char c) = refl
in_caption-sound Comment = refl
in_caption-sound Doctype = refl
in_caption-sound Eof = refl

in_column_group-sound : (y : Symbol) → sound (html_symbol y) false (in_column_group y) ≡ true
in_column_group-sound (Start g) = by-tag (λ v. in_column_group (Start v)) false g refl (simp by_arms refl)
in_column_group-sound (End g) = by-tag (λ v. in_column_group (End v)) false g refl (simp by_arms refl)
in_column_group-sound (Char c) = simp by_arms refl
in_column_group-sound Comment = refl
in_column_group-sound Doctype = refl
in_column_group-sound Eof = refl

in_table_body-sound : (y : Symbol) → sound (html_symbol y) false (in_table_body y) ≡ true
in_table_body-sound (Start g) = by-tag (λ v. in_table_body (Start v)) false g refl (simp by_arms refl)
in_table_body-sound (End g) = by-tag (λ v. in_table_body (End v)) false g refl (simp by_arms refl)
in_table_body-sound (Char c) = refl
in_table_body-sound Comment = refl
in_table_body-sound Doctype = refl
in_table_body-sound Eof = refl

in_row-sound : (y : Symbol) → sound (html_symbol y) false (in_row y) ≡ true
in_row-sound (Start g) = by-tag (λ v. in_row (Start v)) false g refl (simp by_arms refl)
in_row-sound (End g) = by-tag (λ v. in_row (End v)) false g refl (simp by_arms refl)
in_row-sound (Char c) = refl
in_row-sound Comment = refl
in_row-sound Doctype = refl
in_row-sound Eof = refl

in_cell-sound : (y : Symbol) → sound (html_symbol y) false (in_cell y) ≡ true
in_cell-sound (Start g) = by-tag (λ v. in_cell (Start v)) false g refl (simp by_arms refl)
in_cell-sound (End g) = by-tag (λ v. in_cell (End v)) false g refl (simp by_arms refl)
in_cell-sound (Char c) = refl
in_cell-sound Comment = refl
in_cell-sound Doctype = refl
in_cell-sound Eof = refl

in_select-sound : (y : Symbol) → sound (html_symbol y) false (in_select y) ≡ true
in_select-sound (Start g) = by-tag (λ v. in_select (Start v)) false g refl (simp by_arms refl)
in_select-sound (End g) = by-tag (λ v. in_select (End v)) false g refl (simp by_arms refl)
in_select-sound (Char c) = simp by_arms refl
in_select-sound Comment = refl
in_select-sound Doctype = refl
in_select-sound Eof = refl

in_select_in_table-sound : (y : Symbol) → sound (html_symbol y) false (in_select_in_table y) ≡ true
in_select_in_table-sound (Start g) = by-tag (λ v. in_select_in_table (Start v)) false g refl (simp by_arms refl)
in_select_in_table-sound (End g) = by-tag (λ v. in_select_in_table (End v)) false g refl (simp by_arms refl)
in_select_in_table-sound (Char c) = refl
in_select_in_table-sound Comment = refl
in_select_in_table-sound Doctype = refl
in_select_in_table-sound Eof = refl

in_template-sound : (y : Symbol) → sound (html_symbol y) false (in_template y) ≡ true
in_template-sound (Start g) = by-tag (λ v. in_template (Start v)) false g refl (simp by_arms refl)
in_template-sound (End g) = by-tag (λ v. in_template (End v)) false g refl (simp by_arms refl)
in_template-sound (Char c) = refl
in_template-sound Comment = refl
in_template-sound Doctype = refl
in_template-sound Eof = refl

after_body-sound : (y : Symbol) → sound (html_symbol y) false (after_body y) ≡ true
after_body-sound (Start g) = by-tag (λ v. after_body (Start v)) false g refl (simp by_arms refl)
after_body-sound (End g) = by-tag (λ v. after_body (End v)) false g refl (simp by_arms refl)
after_body-sound (Char c) = simp by_arms refl
after_body-sound Comment = refl
after_body-sound Doctype = refl
after_body-sound Eof = refl

in_frameset-sound : (y : Symbol) → sound (html_symbol y) false (in_frameset y) ≡ true
in_frameset-sound (Start g) = by-tag (λ v. in_frameset (Start v)) false g refl (simp by_arms refl)
in_frameset-sound (End g) = by-tag (λ v. in_frameset (End v)) false g refl (simp by_arms refl)
in_frameset-sound (Char c) = simp by_arms refl
in_frameset-sound Comment = refl
in_frameset-sound Doctype = refl
in_frameset-sound Eof = refl

after_frameset-sound : (y : Symbol) → sound (html_symbol y) false (after_frameset y) ≡ true
after_frameset-sound (Start g) = by-tag (λ v. after_frameset (Start v)) false g refl (simp by_arms refl)
after_frameset-sound (End g) = by-tag (λ v. after_frameset (End v)) false g refl (simp by_arms refl)
after_frameset-sound (Char c) = simp by_arms refl
after_frameset-sound Comment = refl
after_frameset-sound Doctype = refl
after_frameset-sound Eof = refl

after_after_body-sound : (y : Symbol) → sound (html_symbol y) false (after_after_body y) ≡ true
after_after_body-sound (Start g) = by-tag (λ v. after_after_body (Start v)) false g refl (simp by_arms refl)
after_after_body-sound (End g) = by-tag (λ v. after_after_body (End v)) false g refl refl
after_after_body-sound (Char c) = simp by_arms refl
after_after_body-sound Comment = refl
after_after_body-sound Doctype = refl
after_after_body-sound Eof = refl

after_after_frameset-sound : (y : Symbol) → sound (html_symbol y) false (after_after_frameset y) ≡ true
after_after_frameset-sound (Start g) = by-tag (λ v. after_after_frameset (Start v)) false g refl (simp by_arms refl)
after_after_frameset-sound (End g) = by-tag (λ v. after_after_frameset (End v)) false g refl refl
after_after_frameset-sound (Char c) = simp by_arms refl
after_after_frameset-sound Comment = refl
after_after_frameset-sound Doctype = refl
after_after_frameset-sound Eof = refl

text-sound : (y : Symbol) → sound (html_symbol y) true (text y) ≡ true
text-sound (Start g) = by-tag (λ v. text (Start v)) true g refl refl
text-sound (End g) = by-tag (λ v. text (End v)) true g refl refl
text-sound (Char c) = simp by_arms refl
text-sound Comment = refl
text-sound Doctype = refl
text-sound Eof = refl

in_table_text-sound : (y : Symbol) → sound (html_symbol y) true (in_table_text y) ≡ true
in_table_text-sound (Start g) = by-tag (λ v. in_table_text (Start v)) true g refl refl
in_table_text-sound (End g) = by-tag (λ v. in_table_text (End v)) true g refl refl
in_table_text-sound (Char c) = refl
in_table_text-sound Comment = refl
in_table_text-sound Doctype = refl
in_table_text-sound Eof = refl

plans-sound : AreSound plan
unfolding plan
plans-sound mode.Initial y h = absurd (false≢true h)
plans-sound mode.BeforeHtml y h = absurd (false≢true h)
plans-sound mode.Text y h = absurd (false≢true h)
plans-sound mode.InTableText y h = absurd (false≢true h)
plans-sound mode.BeforeHead y h = before_head-sound y
plans-sound mode.InHead y h = in_head-sound y
plans-sound mode.InHeadNoscript y h = in_head_noscript-sound y
plans-sound mode.AfterHead y h = after_head-sound y
plans-sound mode.InBody y h = in_body-sound y
plans-sound mode.InTable y h = in_table-sound y
plans-sound mode.InCaption y h = in_caption-sound y
plans-sound mode.InColumnGroup y h = in_column_group-sound y
plans-sound mode.InTableBody y h = in_table_body-sound y
plans-sound mode.InRow y h = in_row-sound y
plans-sound mode.InCell y h = in_cell-sound y
plans-sound mode.InSelect y h = in_select-sound y
plans-sound mode.InSelectInTable y h = in_select_in_table-sound y
plans-sound mode.InTemplate y h = in_template-sound y
plans-sound mode.AfterBody y h = after_body-sound y
plans-sound mode.InFrameset y h = in_frameset-sound y
plans-sound mode.AfterFrameset y h = after_frameset-sound y
plans-sound mode.AfterAfterBody y h = after_after_body-sound y
plans-sound mode.AfterAfterFrameset y h = after_after_frameset-sound y

-- those of a mode that is left for the original one may do that
plan-sound : (m : Mode) (y : Symbol) → is_early m ≡ false → sound (html_symbol y) (waits m) (plan m y) ≡ true
unfolding plan
plan-sound mode.Initial y h = absurd (false≢true (sym h))
plan-sound mode.BeforeHtml y h = absurd (false≢true (sym h))
plan-sound mode.Text y h = text-sound y
plan-sound mode.InTableText y h = in_table_text-sound y
plan-sound mode.BeforeHead y h = before_head-sound y
plan-sound mode.InHead y h = in_head-sound y
plan-sound mode.InHeadNoscript y h = in_head_noscript-sound y
plan-sound mode.AfterHead y h = after_head-sound y
plan-sound mode.InBody y h = in_body-sound y
plan-sound mode.InTable y h = in_table-sound y
plan-sound mode.InCaption y h = in_caption-sound y
plan-sound mode.InColumnGroup y h = in_column_group-sound y
plan-sound mode.InTableBody y h = in_table_body-sound y
plan-sound mode.InRow y h = in_row-sound y
plan-sound mode.InCell y h = in_cell-sound y
plan-sound mode.InSelect y h = in_select-sound y
plan-sound mode.InSelectInTable y h = in_select_in_table-sound y
plan-sound mode.InTemplate y h = in_template-sound y
plan-sound mode.AfterBody y h = after_body-sound y
plan-sound mode.InFrameset y h = in_frameset-sound y
plan-sound mode.AfterFrameset y h = after_frameset-sound y
plan-sound mode.AfterAfterBody y h = after_after_body-sound y
plan-sound mode.AfterAfterFrameset y h = after_after_frameset-sound y

-- WHERE THERE IS NO HTML YET

pub record IsFresh (a : State) : Type 0 where
  pub none : htmls a.tree.tree ≡ 0
  pub early : is_early a.mode ≡ true
  pub templates : list_all is_late a.templates ≡ true
  pub refused : a.parses_foreign ≡ false

-- there is none, or the mode "before html" is past
abbrev pub IsFounded : State → Type 0
IsFounded a = IsFresh a ⊎ IsPast a

fresh-same : (a b : State) → IsSame a b → IsFresh a → IsFresh b
fresh-same a b s g = record {
  none = s.roots ∙ g.none;
  early = ap is_early s.mode_is ∙ g.early;
  templates = ap (list_all is_late) s.templates_are ∙ g.templates;
  refused = s.parses ∙ g.refused;
}

pub founded-same : (a b : State) → IsSame a b → IsFounded a → IsFounded b
founded-same a b s (inl g) = inl (fresh-same a b s g)
founded-same a b s (inr g) = inr (past-same a b s g)

-- after the html a later mode is entered, and the entry ends
abbrev settles_late : Plan → Bool
settles_late (Do (Switch m) (Stop e)) = is_late m
settles_late _ = false

abbrev ends : Plan → Bool
ends (Stop e) = true
ends _ = false

-- a plan that makes the html and goes on so, or makes none and enters no later mode but at its end
abbrev pub begins : Bool → Plan → Bool
begins h (Do InsertRoot p) = settles_late p
begins h (Do ImplyRoot p) = settles_late p
begins h (Do (Switch m) p) = (is_early m && begins h p) || (is_late m && ends p)
begins h (Do w p) = quiet h w && begins h p
begins h (Ask q p n) = begins h p && begins h n
begins h (Stop e) = true
begins h _ = false

-- one html, or none, and no templates
record IsBegun (a : State) : Type 0 where
  roots : htmls a.tree.tree ≤ 1
  templates : list_all is_late a.templates ≡ true
  refused : a.parses_foreign ≡ false

begun-same : (a b : State) → IsSame a b → IsBegun a → IsBegun b
begun-same a b s g = record {
  roots = (let e = s.roots in let k = g.roots in omega (arith, e, k));
  templates = ap (list_all is_late) s.templates_are ∙ g.templates;
  refused = s.parses ∙ g.refused;
}

entered : (m : Mode) (t : TokenKind) (a : State) → is_late m ≡ true → IsBegun a → IsPast (after (Switch m) t a)
entered m t a l g = record {
  roots = g.roots;
  late = late-not-early m l;
  back = λ w. absurd (false≢true (sym (late-not-waits m l) ∙ w));
  templates = g.templates;
  refused = g.refused;
}

chosen-begins : (h x : Bool) (p n : Plan) → (begins h p && begins h n) ≡ true → begins h (if x then p else n) ≡ true
chosen-begins h true p n e = (both (begins h p) (begins h n) e).0
chosen-begins h false p n e = (both (begins h p) (begins h n) e).1

module _ (r : Rules) where
  ended-past : (p : Plan) (t : TokenKind) (a : State) (e : Ending) (z : State) → ends p ≡ true → IsPast a → Runs r p t a e z → IsPast z
  ended-past (Stop f) t a e z h g k = (let s = followed r (Stop f) t a e z k in past-same a z (becomes-same a z s.1) g)
  ended-past p t a e z h g k = absurd (false≢true h)

  settled-past : (p : Plan) (t : TokenKind) (a : State) (e : Ending) (z : State) → settles_late p ≡ true → IsBegun a → Runs r p t a e z → IsPast z
  settled-past (Do (Switch m) (Stop f)) t a e z h g k =
      let s = followed r (Do (Switch m) (Stop f)) t a e z k in
      ended-past (Stop f) t s.0 e z refl (past-same (after (Switch m) t a) s.0 (becomes-same (after (Switch m) t a) s.0 s.1) (entered m t a h g)) s.2
  settled-past p t a e z h g k = absurd (false≢true h)

  rooted : (w : Word) (p : Plan) (t : TokenKind) (a b : State) (e : Ending) (z : State) → settles_late p ≡ true → IsBegun (after w t a) → Becomes (after w t a) b → Runs r p t b e z → IsFounded z
  rooted w p t a b e z h g i k = inr (settled-past p t b e z h (begun-same (after w t a) b (becomes-same (after w t a) b i) g) k)

  pub runs-founded : (h : Bool) (p : Plan) (t : TokenKind) (a : State) (e : Ending) (z : State) → begins h p ≡ true → names_html t ≡ h → IsFresh a → Runs r p t a e z → IsFounded z
  runs-founded h _ _ _ _ _ f n g (does InsertRoot p t a b e z i k) =
      rooted InsertRoot p t a b e z f (record { roots = founded a.tree.tree (after InsertRoot t a).tree.tree (place_for a.tree target.Document) (root_of a t) refl g.none; templates = g.templates; refused = g.refused }) i k
  runs-founded h _ _ _ _ _ f n g (does ImplyRoot p t a b e z i k) =
      rooted ImplyRoot p t a b e z f (record { roots = founded a.tree.tree (after ImplyRoot t a).tree.tree (place_for a.tree target.Document) (implied_of tag.Html) refl g.none; templates = g.templates; refused = g.refused }) i k
  runs-founded h _ _ _ _ _ f n g (does (Switch m) p t a b e z i k) =
      by (is_early m) (begins h p) refl refl f
      (λ u v. runs-founded h p t b e z v n (fresh-same (after (Switch m) t a) b (becomes-same (after (Switch m) t a) b i) (record { none = g.none; early = u; templates = g.templates; refused = g.refused })) k)
    where
      s : IsSame (after (Switch m) t a) b
      s = becomes-same (after (Switch m) t a) b i

      none : IsBegun a
      none = record { roots = (let q = g.none in omega (arith, q)); templates = g.templates; refused = g.refused }

      late : (is_late m && ends p) ≡ true → IsFounded z
      late l = (let c = both (is_late m) (ends p) l in inr (ended-past p t b e z c.1 (past-same (after (Switch m) t a) b s (entered m t a c.0 none)) k))

      by : (x y : Bool) → is_early m ≡ x → begins h p ≡ y → ((x && y) || (is_late m && ends p)) ≡ true → (is_early m ≡ true → begins h p ≡ true → IsFounded z) → IsFounded z
      by true true u v w on = on u v
      by true false u v w on = late w
      by false y u v w on = late w
  runs-founded h _ _ _ _ _ f n g (does w p t a b e z i k) =
      let c = both (quiet h w) (begins h p) f in
      let s = same-then a (after w t a) b (word-same h t a n w c.0) (becomes-same (after w t a) b i) in
      runs-founded h p t b e z c.1 n (fresh-same a b s g) k
  runs-founded h _ _ _ _ _ f n g (asks q p m t a b e z i k) =
      runs-founded h (if answer q t a then p else m) t b e z (chosen-begins h (answer q t a) p m f) n (fresh-same a b (becomes-same a b i) g) k
  runs-founded h _ _ _ _ _ f n g (reconstructs p t a b e z i j k) = absurd (false≢true f)
  runs-founded h _ _ _ _ _ f n g (adopts x p t a b e z i j k) = absurd (false≢true f)
  runs-founded h _ _ _ _ _ f n g (closes_link p t a b e z i j k) = absurd (false≢true f)
  runs-founded h _ _ _ _ _ f n g (fosters p t a b c e z i j k) = absurd (false≢true f)
  runs-founded h _ _ _ _ _ f n g (settles q p t a b e z i k) = absurd (false≢true f)
  runs-founded h _ _ _ _ _ f n g (ends_each q p t a e z k) = absurd (false≢true f)
  runs-founded h _ _ _ _ _ f n g (does_each x cs q p t a b e z i k) = absurd (false≢true f)
  runs-founded h _ _ _ _ _ f n g (stops t a e z i) = inl (fresh-same a z (becomes-same a z i) g)
  runs-founded h _ _ _ _ _ f n g (goes_by m t a e z k) = absurd (false≢true f)

-- the plans of those modes

begins-if : (b h : Bool) (p n : Plan) → begins h (if b then p else n) ≡ (if b then begins h p else begins h n)
begins-if true h p n = refl
begins-if false h p n = refl

ruleset by_first_arms = (begins-if, if-same)

initial-begins : (h : Bool) (y : Symbol) → begins h (initial y) ≡ true
initial-begins h (Start g) = refl
initial-begins h (End g) = refl
initial-begins h (Char c) = refl
initial-begins h Comment = refl
initial-begins h Doctype = refl
initial-begins h Eof = refl

before_html-begins : (h : Bool) (y : Symbol) → begins h (before_html y) ≡ true
before_html-begins h (Start g) = simp by_first_arms refl
before_html-begins h (End g) = simp by_first_arms refl
before_html-begins h (Char c) = refl
before_html-begins h Comment = refl
before_html-begins h Doctype = refl
before_html-begins h Eof = refl

plan-begins : (h : Bool) (m : Mode) (y : Symbol) → is_early m ≡ true → begins h (plan m y) ≡ true
unfolding plan
plan-begins h mode.Initial y e = initial-begins h y
plan-begins h mode.BeforeHtml y e = before_html-begins h y
plan-begins h m y e = absurd (false≢true e)

-- ENTRIES

-- the mode in body, where nothing that was seen leads to the one that is set
settled-founded : (c : State) → IsFounded c → IsFounded (settled c)
settled-founded c g = by (is_unfounded c) g
  where
    moved : Bool → State
    moved b = record c { mode = cond b mode.InBody c.mode }

    by : (b : Bool) → IsFounded c → IsFounded (moved b)
    by true (inl k) = inr (record { roots = (let q = k.none in omega (arith, q)); late = refl; back = λ w. absurd (false≢true w); templates = k.templates; refused = k.refused })
    by true (inr k) = inr (record { roots = k.roots; late = refl; back = λ w. absurd (false≢true w); templates = k.templates; refused = k.refused })
    by false (inl k) = inl (record { none = k.none; early = k.early; templates = k.templates; refused = k.refused })
    by false (inr k) = inr (record { roots = k.roots; late = k.late; back = k.back; templates = k.templates; refused = k.refused })

pub begun-state : (a : State) → IsSame a (begun a)
begun-state a = record { roots = refl; mode_is = refl; original_is = refl; templates_are = refl; parses = refl }

module _ (t : TokenKind) where
  abbrev y : Symbol
  y = symbol_of t

  pub entry-past : (o : _) (a z : State) → IsNative a → IsPast a → IsEntry o y t a z → IsPast z
  entry-past o a z k g e =
      (runs-past plan plans-sound (html_symbol y) (waits a.mode) (native_plan a y) t a (ending o) z
      (of-entry (sound (html_symbol y) (waits a.mode)) a y (λ c. refl) refl (plan-sound a.mode y g.late)) (symbol-names t) g g.back
      (entry-follows o y t a z k.none e)).past

  pub entry-founded : (o : _) (a z : State) → IsNative a → IsFounded a → IsEntry o y t a z → IsFounded z
  entry-founded o a z k (inl g) e =
      runs-founded plan (html_symbol y) (native_plan a y) t a (ending o) z
      (of-entry (begins (html_symbol y)) a y (λ c. refl) refl (plan-begins (html_symbol y) a.mode y g.early)) (symbol-names t) g
      (entry-follows o y t a z k.none e)
  entry-founded o a z k (inr g) e = inr (entry-past o a z k g e)

  pub entries-founded : (a z : State) → Entries y t a z → IsNative a → IsFounded a → IsFounded z
  entries-founded _ _ (next a b c z i j r) k g =
      let k' = native-becomes a b i k in
      entries-founded c z r (entry-native y t _ b c k' j) (entry-founded _ b c k' (founded-same a b (becomes-same a b i) g) j)
  entries-founded _ _ (last a b c z i j e) k g =
      subst IsFounded (sym e) (settled-founded c (entry-founded _ b c (native-becomes a b i k) (founded-same a b (becomes-same a b i) g) j))

-- TOKENS AND PAGES

pub constructs-founded : (ts : List TokenKind) (a z : State) → IsNative a → IsFounded a → Constructs ts a z → IsFounded (begun z)
constructs-founded [] a z k g c = subst IsFounded c (founded-same a (begun a) (begun-state a) g)
constructs-founded (t ∷ ts) a z k g c =
    let k' = native-begun a k in
    constructs-founded ts c.0 z (entries-native (symbol_of t) t (begun a) c.0 c.1 k') (entries-founded t (begun a) c.0 c.1 k' (founded-same a (begun a) (begun-state a) g)) c.2

fragment-one : (l : Option Limits) → htmls (fragment_state l 0).tree ≤ 1
fragment-one l =
    let d = new.Element (name_of tag.Html) [] Implied in
    let e = ap (λ (ls : List NodeData). sum_by own ls) (made-labels (empty_tree l) d) in
    let p = sum_by-cons own (label_for (empty_tree l) d) (rest_of 0 (has_contents d)) in
    let q = rest-own 0 (has_contents d) in
    let r = own-most (label_for (empty_tree l) d) in
    omega (arith, e, p, q, r)

pub templates-late : (s : Setting) → list_all is_late (first_templates s) ≡ true
templates-late Document = refl
templates-late (Fragment context in_form) = by (is_same context tag.Template)
  where
    by : (b : Bool) → list_all is_late (if b then mode.InTemplate ∷ [] else []) ≡ true
    by true = refl
    by false = refl

state-founded : (s : Setting) (l : Option Limits) (q : Bool) → IsFounded (first_state s l q false 0)
state-founded Document l q = inl (record { none = refl; early = refl; templates = refl; refused = refl })
state-founded (Fragment context in_form) l q =
    let m = reset-late (Some context) None (first_templates (Fragment context in_form)) (tag.Html ∷ []) (templates-late (Fragment context in_form)) in
    inr (record {
      roots = fragment-one l;
      late = late-not-early _ m;
      back = λ w. absurd (false≢true (sym (late-not-waits _ m) ∙ w));
      templates = templates-late (Fragment context in_form);
      refused = refl;
    })

core-founded : (a b : State) → core a ≡ core b → IsFounded b → IsFounded a
core-founded a b e g = founded-same b a (record {
  roots = ap (λ (v : State). htmls v.tree.tree) e;
  mode_is = ap (λ (v : State). v.mode) e;
  original_is = ap (λ (v : State). v.original) e;
  templates_are = ap (λ (v : State). v.templates) e;
  parses = ap (λ (v : State). v.parses_foreign) e;
}) g

pub first-founded : (s : Setting) (l : Option Limits) (a : State) → IsFirst s l a → a.parses_foreign ≡ false → IsFounded a
first-founded s l a k f =
    let e = first-core s l a k ∙ ap (λ v. core (begun (first_state s l a.quirks v 0))) f in
    founded-same (begun a) a (record { roots = refl; mode_is = refl; original_is = refl; templates_are = refl; parses = refl })
    (core-founded (begun a) (begun (first_state s l a.quirks false 0)) e (founded-same (first_state s l a.quirks false 0) (begun (first_state s l a.quirks false 0)) (begun-state (first_state s l a.quirks false 0)) (state-founded s l a.quirks)))

most-one : (a : State) → IsFounded a → htmls a.tree.tree ≤ 1
most-one a (inl g) = (let e = g.none in omega (arith, e))
most-one a (inr g) = g.roots

pub pages-root : PagesHaveOneRoot
pages-root s l tokens fates t c b =
    let k = first-native s l b.first c b.begins b.foreign_is in
    let g = constructs-founded tokens b.first b.last k (first-founded s l b.first b.begins b.foreign_is) b.constructs in
    let m = most-one (begun b.last) g in
    let e = ap (λ (v : Nodes). htmls v) b.tree_is in
    omega (arith, m, e)
