-- In a fragment whose context is no html element no body is made.
use Rattle.std.proofs.Common.{◌≡◌, ◌⊎◌, ◌<◌, ◌≤◌, ℕ, zero, suc, Bool, true, false, not, cond, drop, ◌&&◌, ◌||◌, if◌then◌else◌, List, [], ◌∷◌, ◌++◌, length, unwrap_or, Option, Some, None, inl, inr, refl, sym, ◌∙◌, ap, subst, arith}
use Rattle.std.specs.List.{count_by, list_all, list_any}
use Rattle.std.proofs.lemmas.Bool.{false≢true}
use Rattle.html_names.specs.declared.tag.Tag.{Tag}
use Rattle.html_names.specs.declared.tag.Tag.TheVariants as tag
use Rattle.html_names.specs.Names.{name_of, tag_of}
use Rattle.html_names.specs.Sets.{is_formatting, is_template}
use Rattle.html_names.specs.Tags.{is_same}
use Rattle.html_arena.specs.declared.data.Origin.TheVariants.{Implied as Unasked, Token}
use Rattle.html_arena.specs.Siblings.{has}
use Rattle.html_arena.specs.Tree.{Tree as Nodes, empty_tree, tag_at}
use Rattle.html_tokens.specs.declared.token.TokenKind.{TokenKind}
use Rattle.html_tokens.specs.declared.token.TokenKind.TheVariants as kind
use Rattle.html_ledger.specs.declared.symbol.Symbol.{Symbol}
use Rattle.html_ledger.specs.declared.symbol.Symbol.TheVariants.{Start, End, Char, Comment, Doctype, Eof}
use Rattle.html_ledger.specs.Entries.{number_of}
use Rattle.html_ledger.specs.Flags.{may_misplace_tag}
use Rattle.html_ledger.specs.Symbols.{starts, symbol_of}
use Rattle.html_open.specs.AdoptFinding.{element_in_scope}
use Rattle.html_open.specs.Lists.{up_to}
use Rattle.html_open.specs.Scopes.{stays}
use Rattle.html_open.proofs.Ordering.{has-either, has-head}
use Rattle.html_tree.specs.declared.groups.Target.TheVariants as target
use Rattle.html_tree.specs.Closing.{bodiless, first_few, kept_to, remaining}
use Rattle.html_tree.specs.OpenTags.{open_tags, tags_down}
use Rattle.html_tree.specs.Searching.{found, found_name}
use Rattle.html_tree.specs.States.{State as Tree}
use Rattle.html_tree.specs.Targets.{place_for}
use Rattle.html_tree.proofs.OpenTags.{cons-tags}
use Rattle.html_construction.specs.declared.mode.Mode.{Mode}
use Rattle.html_construction.specs.declared.mode.Mode.TheVariants as mode
use Rattle.html_construction.specs.Calls.{form_closed, formless}
use Rattle.html_construction.specs.Plans.{Adopt, Ask, By, CloseLink, Do, Each, Ending, Foster, IsMoved, Over, Plan, Reconstruct, Rules, Runs, Settle, Stop, adopts, asks, closes_link, does, does_each, ends_each, fosters, goes_by, reconstructs, settles, stops}
use Rattle.html_construction.specs.Resetting.{element_mode, is_none_left, mode_of, or_mode, outermost_mode, reset_mode, select_mode, template_mode}
use Rattle.html_construction.specs.States.{State}
use Rattle.html_construction.specs.Tokens.{attrs_of, tag_name}
use Rattle.html_construction.specs.Words.{Becomes, ClearTo, CloseForm, CloseNamed, CloseThrough, Drop, End as Ended, Enter, FramesetOff, Implied, Imply, ImplyHead, ImplyPart, ImplyRoot, Insert, InsertAt, InsertCharacter, InsertForeign, InsertForeignVoid, InsertForm, InsertHead, InsertListed, InsertPart, InsertRoot, Leave, MayMisplace, ParsesForeign, Pop, Query, ReplaceBody, Reset, Switch, Word, after, answer, with_kept}
use Rattle.html_construction.proofs.Planned.{followed}
use Rattle.html_construction.proofs.Weighing.{same-tag}
use Rattle.html_modes.specs.Rules.{plan}
use Rattle.html_modes.specs.Dispatching.{Constructs, Entries, IsEntry, begun, is_unfounded, last, next, settled}
use Rattle.html_modes.specs.RuleForms.{ending}
use Rattle.html_builder.specs.Built.{IsBuiltByRules}
use Rattle.html_construction.specs.Beginning.{IsFirst, first_state}
use Rattle.html_arena.specs.declared.arena.Limits.{Limits}
use Rattle.html_arena.specs.Data.{is_clone_in, tag_in}
use Rattle.html_ledger.specs.declared.fate.Fate.{Fate}
use Rattle.html_ledger.specs.declared.setting.Setting.{Setting}
use Rattle.html_ledger.specs.declared.setting.Setting.TheVariants.{Document, Fragment}
use Rattle.html_ledger.specs.Settings.{is_foreign_context}
use Rattle.html_laws.specs.Likeness.{core}
use Rattle.html_laws.proofs.Beginnings.{first-core, first-native}
use Rattle.html_laws.proofs.Natives.{IsNative, native-becomes}
use Rattle.html_laws.proofs.Refusing.{entries-native, entry-follows, entry-native, native-begun, native_plan, of-entry}
use Rattle.html_laws.proofs.Judged.{char-steady}
use Rattle.html_laws.proofs.Chains.{both, either, join, neither, not-true}
use Rattle.html_laws.proofs.Cuts.{any-tags}
use Rattle.html_laws.proofs.Faces.{is_tagged, made-adds, tally-labels, Adds, Face, element-adds, element_face, faces, kept-tag, longer, new-face, rest_faces, tallied, tally}
use Rattle.html_laws.proofs.Grounds.{name-bodies, name-tagged, Step, bodies, held-step, step-in, grows, is_inner, is_other_implied, of_name, spares, start-name, step-bodies, word-step}
use Rattle.html_laws.proofs.Insides.{Anything, on_body}
use Rattle.html_laws.proofs.Judging.{is_calm, is_in_body, is_steady_word, resets, steady, waits}
use Rattle.html_laws.proofs.Models.{implied-name}
use Rattle.html_laws.proofs.Moved.{has-here, AreLow, IsHeld, IsMade, drop-in, has-there, is_outermost, take-low}
use Rattle.html_laws.proofs.Moving.{before-low, ended-low, ended-made, link-low, link-made, opened, remaining-low, reopening-low, reopening-made, up-to-low}
use Rattle.html_laws.proofs.Outers.{outer_mode, outer_original}
use Rattle.html_laws.proofs.Phases.{is_outer}
use Rattle.html_laws.proofs.Tags.{of-all}
use Rattle.html_laws.proofs.Words.{becomes-core}

-- WHAT A PLAN SAYS

abbrev pub is_low : Tag → Bool
is_low g = not (is_outermost g)

abbrev pub may_nest : Symbol → Mode → Word → Bool
may_nest y m Insert = starts is_low y
may_nest y m (InsertAt p) = starts is_low y
may_nest y m InsertPart = starts is_low y
may_nest y m InsertListed = starts is_low y
may_nest y m InsertForm = starts is_low y
may_nest y m ReplaceBody = starts is_low y
may_nest y m (Imply n) = is_low n
may_nest y m (ImplyPart n) = is_low n
may_nest y m InsertHead = false
may_nest y m ImplyHead = false
may_nest y m InsertRoot = false
may_nest y m ImplyRoot = false
may_nest y m (Switch n) = not (is_outer n) && not (waits n)
may_nest y m (Enter n) = waits n && not (waits m)
may_nest y m Leave = waits m
may_nest y m Reset = false
may_nest y m (InsertForeign s) = false
may_nest y m (InsertForeignVoid s) = false
may_nest y m w = true

abbrev pub is_nested_mode : Mode → Bool
is_nested_mode m = not (is_outer m) && not (waits m)

abbrev pub may_nest_end : Mode → Mode → Bool
may_nest_end m o = cond (waits m) (is_nested_mode o) (is_nested_mode m)

-- the answer is yes in a fragment; and no, where foreign content is refused
abbrev pub is_misplaced : Query → Bool
is_misplaced (MayMisplace g) = is_same g tag.Body
is_misplaced q = false

abbrev pub is_denied : Query → Bool
is_denied ParsesForeign = true
is_denied q = false

module _ (r : Rules) where
  abbrev pub nested : ℕ → Symbol → Mode → Mode → Plan → Bool
  nested n y m o (Do w p) = (grows y w && spares y w) && ((resets w && is_calm p) || (may_nest y m w && nested n y (outer_mode m o w) (outer_original m o w) p))
  nested n y m o (Ask q p d) = (is_denied q || nested n y m o p) && (is_misplaced q || nested n y m o d)
  nested n y m o (Reconstruct p) = nested n y m o p
  nested n y m o (Adopt g p) = is_formatting g && nested n y m o p
  nested n y m o (CloseLink p) = nested n y m o p
  nested n y m o (Foster p) = nested n y m o p
  nested n y m o (Settle q p) = steady q && nested n y m o p
  nested n y m o (Each cs q p) = steady q && nested n y m o p
  nested n y m o (Stop e) = may_nest_end m o
  nested (suc n) y m o (By k) = nested n y m o (r k y)
  nested zero y m o (By k) = false

-- WHAT IS SO

pub record IsFragment (a : State) : Type 0 where
  pub held : IsHeld (opened a.tree)
  pub formed : (x : ℕ) → a.tree.form ≡ Some x → (x < length a.tree.tree.labels) × (tag_at a.tree.tree x ≡ tag.Form)
  pub templates : list_all is_inner a.templates ≡ true
  pub context : is_same (unwrap_or a.context tag.Html) tag.Html ≡ false
  pub refused : a.parses_foreign ≡ false
  pub fragment : a.ledger.history.fragment ≡ true
  pub none : bodies a ≡ 0
  pub low : AreLow a.tree.tree a.tree.stack

pub record IsNestedAt (m o : Mode) (a : State) : Type 0 where
  pub state : IsFragment a
  pub mode_is : a.mode ≡ m
  pub original_is : waits m ≡ true → a.original ≡ o

-- between entries: in no mode that is before the body, nor is one to come back to
pub record IsNestedIn (a : State) : Type 0 where
  pub state : IsFragment a
  pub mode_is : cond (waits a.mode) (is_nested_mode a.original) (is_nested_mode a.mode) ≡ true

fragment-core : (a b : State) → core b ≡ core a → IsFragment a → IsFragment b
fragment-core a b e k = from (subst IsFragment (sym e) to)
  where
    to : IsFragment (core a)
    to = record { held = record { stacked = k.held.stacked; listed = k.held.listed; tagged = k.held.tagged }; formed = k.formed; templates = k.templates; context = k.context; refused = k.refused; fragment = k.fragment; none = k.none; low = k.low }

    from : IsFragment (core b) → IsFragment b
    from k = record { held = record { stacked = k.held.stacked; listed = k.held.listed; tagged = k.held.tagged }; formed = k.formed; templates = k.templates; context = k.context; refused = k.refused; fragment = k.fragment; none = k.none; low = k.low }

nested-core : (m o : Mode) (a b : State) → core b ≡ core a → IsNestedAt m o a → IsNestedAt m o b
nested-core m o a b e k = record { state = fragment-core a b e k.state; mode_is = ap (λ (v : State). v.mode) e ∙ k.mode_is; original_is = λ w. ap (λ (v : State). v.original) e ∙ k.original_is w }

in-core : (a b : State) → core b ≡ core a → IsNestedIn a → IsNestedIn b
in-core a b e k = record { state = fragment-core a b e k.state; mode_is = subst (λ (v : State). cond (waits v.mode) (is_nested_mode v.original) (is_nested_mode v.mode) ≡ true) (sym e) k.mode_is }

-- WORDS

front-of : (n : ℕ) (s : List ℕ) (x : ℕ) → has x (drop 1 (s ++ n ∷ [])) ≡ true → (has x (drop 1 s) ≡ true) ⊎ (x ≡ n)
front-of n [] x h = absurd (false≢true h)
front-of n (z ∷ s) x h = elim (has-either x s (n ∷ []) h) [ inl q ↦ inl q | inr q ↦ elim (has-head x n [] q) [ inl p ↦ inr p | inr p ↦ absurd (false≢true p) ] ]

module _ (t : TokenKind) (a : State) where
  abbrev y : Symbol
  y = symbol_of t

  -- what stands above the first afterwards stood there, or is new and low
  abbrev IsTail : State → Type 0
  IsTail b = (x : ℕ) → has x (drop 1 b.tree.stack) ≡ true → (has x (drop 1 a.tree.stack) ≡ true) ⊎ (is_outermost (tag_at b.tree.tree x) ≡ false)

  pushed-tail : (b : State) (name : List ℕ) → Adds a.tree.tree b.tree.tree (of_name name) → b.tree.stack ≡ a.tree.stack ++ length a.tree.tree.labels ∷ [] → is_outermost (tag_of name) ≡ false → IsTail b
  pushed-tail b name d e n x k = elim (front-of (length a.tree.tree.labels) a.tree.stack x (sym (ap (λ v. has x (drop 1 v)) e) ∙ k)) [
    | inl h ↦ inl h
    | inr h ↦ inr (ap is_outermost (ap (tag_at b.tree.tree) h ∙ ap (λ (v : Face). v.tag) (new-face a.tree.tree b.tree.tree (element_face name) (rest_faces (is_template (tag_of name))) d)) ∙ n)
  ]

  token-low : starts is_low y ≡ true → is_outermost (tag_of (tag_name t)) ≡ false
  token-low h = not-true (is_outermost (tag_of (tag_name t))) (start-name is_low t h)

  implied-low : (n : Tag) → is_other_implied n ≡ true → is_low n ≡ true → is_outermost (tag_of (name_of n)) ≡ false
  implied-low n e h = ap is_outermost (implied-name n e) ∙ not-true (is_outermost n) h

  word-tail : (m : Mode) (w : Word) → spares y w ≡ true → may_nest y m w ≡ true → IsTail (after w t a)
  word-tail m (ClearTo c) e h = λ x k. inl (take-low _ a.tree.stack x k)
  word-tail m Pop e h = λ x k. inl (take-low _ a.tree.stack x k)
  word-tail m (CloseThrough g d) e h = λ x k. inl (before-low (found a.tree g d) a.tree.stack x k)
  word-tail m CloseNamed e h = λ x k. inl (before-low (found_name a.tree (tag_name t)) a.tree.stack x k)
  word-tail m (Implied d) e h = λ x k. inl (up-to-low (stays a.tree.tree d) a.tree.stack x k)
  word-tail m Insert e h = pushed-tail (after Insert t a) (tag_name t) (element-adds a.tree.tree (place_for a.tree (target.Current a.fostering)) (tag_name t) (attrs_of t) (Token (number_of a.ledger))) refl (token-low h)
  word-tail m (InsertAt p) e h = pushed-tail (after (InsertAt p) t a) (tag_name t) (element-adds a.tree.tree (place_for a.tree p) (tag_name t) (attrs_of t) (Token (number_of a.ledger))) refl (token-low h)
  word-tail m InsertPart e h = pushed-tail (after InsertPart t a) (tag_name t) (element-adds a.tree.tree (place_for a.tree (target.Current false)) (tag_name t) (attrs_of t) (Token (number_of a.ledger))) refl (token-low h)
  word-tail m InsertListed e h = pushed-tail (after InsertListed t a) (tag_name t) (element-adds a.tree.tree (place_for a.tree (target.Current a.fostering)) (tag_name t) (attrs_of t) (Token (number_of a.ledger))) refl (token-low h)
  word-tail m InsertForm e h = pushed-tail (after InsertForm t a) (tag_name t) (element-adds a.tree.tree (place_for a.tree (target.Current a.fostering)) (tag_name t) (attrs_of t) (Token (number_of a.ledger))) refl (token-low h)
  word-tail m InsertHead e h = absurd (false≢true h)
  word-tail m ImplyHead e h = absurd (false≢true h)
  word-tail m InsertRoot e h = absurd (false≢true h)
  word-tail m ImplyRoot e h = absurd (false≢true h)
  word-tail m (Imply n) e h = pushed-tail (after (Imply n) t a) (name_of n) (element-adds a.tree.tree (place_for a.tree (target.Current a.fostering)) (name_of n) [] Unasked) refl (implied-low n e h)
  word-tail m (ImplyPart n) e h = pushed-tail (after (ImplyPart n) t a) (name_of n) (element-adds a.tree.tree (place_for a.tree (target.Current false)) (name_of n) [] Unasked) refl (implied-low n e h)
  word-tail m CloseForm e h = λ x k. inl (at x a.tree.form k)
    where
      at : (x : ℕ) (o : Option ℕ) → has x (drop 1 (form_closed a.tree o).stack) ≡ true → has x (drop 1 a.tree.stack) ≡ true
      at x None k = k
      at x (Some z) k = by (element_in_scope a.tree.tree z a.tree.stack) k
        where
          by : (b : Bool) → has x (drop 1 (cond b (record (formless a.tree) { stack = remaining z (up_to (stays a.tree.tree None) a.tree.stack) }) (formless a.tree)).stack) ≡ true → has x (drop 1 a.tree.stack) ≡ true
          by true k = up-to-low (stays a.tree.tree None) a.tree.stack x (remaining-low z (up_to (stays a.tree.tree None) a.tree.stack) x k)
          by false k = k
  word-tail m ReplaceBody e h = λ x k. elim (front-of (length (bodiless a.tree).tree.labels) (first_few 1 a.tree.stack) x k) [
    | inl q ↦ inl (take-low (kept_to (length a.tree.stack) 1) a.tree.stack x q)
    | inr q ↦ inr (ap is_outermost (ap (tag_at (after ReplaceBody t a).tree.tree) q ∙ ap (λ (v : Face). v.tag) (new-face (bodiless a.tree).tree (after ReplaceBody t a).tree.tree (element_face (tag_name t)) (rest_faces (is_template (tag_of (tag_name t)))) (element-adds (bodiless a.tree).tree (place_for (bodiless a.tree) target.First) (tag_name t) (attrs_of t) (Token (number_of a.ledger))))) ∙ token-low h)
  ]
  word-tail m (InsertForeign s) e h = absurd (false≢true h)
  word-tail m (InsertForeignVoid s) e h = absurd (false≢true h)
  word-tail m w e h = λ x k. inl k

-- other words keep what is so
fragment-step : (a b : State) → Step true a b → ((x : ℕ) → has x (drop 1 b.tree.stack) ≡ true → (has x (drop 1 a.tree.stack) ≡ true) ⊎ (is_outermost (tag_at b.tree.tree x) ≡ false)) → IsFragment a → IsFragment b
fragment-step a b s f k = record {
  held = (held-step a b s k.held);
  formed = λ x e. elim (s.formed x e) [ inl p ↦ (let c = k.formed x p in (step-in true a b s x c.0, kept-tag a.tree.tree b.tree.tree s.added x s.adds c.0 ∙ c.1)) | inr p ↦ p ];
  templates = s.templates k.templates;
  context = ap (λ o. is_same (unwrap_or o tag.Html) tag.Html) s.context_is ∙ k.context;
  refused = s.refused_is ∙ k.refused;
  fragment = s.fragment_is ∙ k.fragment;
  none = step-bodies a b s ∙ k.none;
  low = λ x h. elim (f x h) [ inl p ↦ ap is_outermost (kept-tag a.tree.tree b.tree.tree s.added x s.adds (k.held.stacked x (drop-in x a.tree.stack p))) ∙ k.low x p | inr p ↦ p ];
}

nested-word : (m o : Mode) (w : Word) (t : TokenKind) (a : State) → (grows (symbol_of t) w && spares (symbol_of t) w) ≡ true → may_nest (symbol_of t) m w ≡ true → IsNestedAt m o a → IsNestedAt (outer_mode m o w) (outer_original m o w) (after w t a)
nested-word m o w t a g h k =
    let c = both (grows (symbol_of t) w) (spares (symbol_of t) w) g in
    by w h (fragment-step a (after w t a) (subst (λ q. Step q a (after w t a)) c.1 (word-step t a w c.0)) (word-tail t a m w c.1 h) k.state)
  where
    by : (w : Word) → may_nest (symbol_of t) m w ≡ true → IsFragment (after w t a) → IsNestedAt (outer_mode m o w) (outer_original m o w) (after w t a)
    by (Switch n) h s = record { state = s; mode_is = refl; original_is = λ x. absurd (false≢true (sym (not-true (waits n) (both (not (is_outer n)) (not (waits n)) h).1) ∙ x)) }
    by (Enter n) h s = record { state = s; mode_is = refl; original_is = λ x. k.mode_is }
    by Leave h s = record { state = s; mode_is = k.original_is h; original_is = λ x. k.original_is h }
    by Reset h s = absurd (false≢true h)
    by w h s = record { state = s; mode_is = k.mode_is; original_is = k.original_is }

-- nothing changed but nodes, open elements and the list
fragment-moved : (a b : State) → IsMoved a b → IsMade Anything tag.Body (tag.Html ∷ []) (opened a.tree) (opened b.tree) → AreLow b.tree.tree b.tree.stack → IsFragment a → IsFragment b
fragment-moved a b i d l k = record {
  held = d.held;
  formed = λ y e. (let c = k.formed y (sym (ap (λ (v : Tree). v.form) i.pointers) ∙ e) in ((let n = longer a.tree.tree b.tree.tree d.added d.adds in let u = c.0 in omega (arith, n, u)), kept-tag a.tree.tree b.tree.tree d.added y d.adds c.0 ∙ c.1));
  templates = ap (λ (v : State). list_all is_inner v.templates) i.rest ∙ k.templates;
  context = ap (λ (v : State). is_same (unwrap_or v.context tag.Html) tag.Html) i.rest ∙ k.context;
  refused = ap (λ (v : State). v.parses_foreign) i.rest ∙ k.refused;
  fragment = ap (λ (v : State). v.ledger.history.fragment) i.rest ∙ k.fragment;
  none = (let t = tallied tag.Body a.tree.tree b.tree.tree d.added d.adds in let n = d.none in let f = k.none in omega (arith, t, n, f));
  low = l;
}

nested-moved : (m o : Mode) (a b : State) → IsMoved a b → IsMade Anything tag.Body (tag.Html ∷ []) (opened a.tree) (opened b.tree) → AreLow b.tree.tree b.tree.stack → IsNestedAt m o a → IsNestedAt m o b
nested-moved m o a b i d l k = record { state = fragment-moved a b i d l k.state; mode_is = ap (λ (v : State). v.mode) i.rest ∙ k.mode_is; original_is = λ w. ap (λ (v : State). v.original) i.rest ∙ k.original_is w }

-- RESETTING THE MODE

inner-nested : (m : Mode) → is_inner m ≡ true → is_nested_mode m ≡ true
inner-nested mode.Initial h = absurd (false≢true h)
inner-nested mode.BeforeHtml h = absurd (false≢true h)
inner-nested mode.BeforeHead h = absurd (false≢true h)
inner-nested mode.InHead h = absurd (false≢true h)
inner-nested mode.InHeadNoscript h = absurd (false≢true h)
inner-nested mode.AfterHead h = absurd (false≢true h)
inner-nested mode.Text h = absurd (false≢true h)
inner-nested mode.InTableText h = absurd (false≢true h)
inner-nested m h = refl

template-nested : (ms : List Mode) → list_all is_inner ms ≡ true → is_nested_mode (template_mode ms) ≡ true
template-nested [] h = refl
template-nested (m ∷ []) h = inner-nested m ((both (is_inner m) (list_all is_inner []) h).0)
template-nested (m ∷ n ∷ ms) h = template-nested (n ∷ ms) ((both (is_inner m) (list_all is_inner (n ∷ ms)) h).1)

select-nested : (below : List Tag) → is_nested_mode (select_mode below) ≡ true
select-nested [] = refl
select-nested (g ∷ below) = by (is_same g tag.Template) (is_same g tag.Table) (select-nested below)
  where
    by : (b c : Bool) → is_nested_mode (select_mode below) ≡ true → is_nested_mode (cond b mode.InSelect (cond c mode.InSelectInTable (select_mode below))) ≡ true
    by true c k = refl
    by false true k = refl
    by false false k = k

abbrev nested_or : Option Mode → Bool
nested_or None = true
nested_or (Some m) = is_nested_mode m

mode-nested : (g : Tag) → nested_or (mode_of g) ≡ true
mode-nested tag.Tr = refl
mode-nested tag.Tbody = refl
mode-nested tag.Thead = refl
mode-nested tag.Tfoot = refl
mode-nested tag.Caption = refl
mode-nested tag.Colgroup = refl
mode-nested tag.Table = refl
mode-nested tag.Body = refl
mode-nested tag.Frameset = refl
mode-nested g = refl

element-nested : (head : Option ℕ) (ms : List Mode) (g : Tag) (below : List Tag) → list_all is_inner ms ≡ true → is_outermost g ≡ false → nested_or (element_mode head ms g below) ≡ true
element-nested head ms tag.Select below h f = select-nested below
element-nested head ms tag.Td below h f = refl
element-nested head ms tag.Th below h f = refl
element-nested head ms tag.Head below h f = absurd (false≢true (sym f))
element-nested head ms tag.Template below h f = template-nested ms h
element-nested head ms tag.Html below h f = absurd (false≢true (sym f))
element-nested head ms g below h f = mode-nested g

context-nested : (head : Option ℕ) (ms : List Mode) (g : Tag) → list_all is_inner ms ≡ true → is_same g tag.Html ≡ false → is_nested_mode (outermost_mode head ms g) ≡ true
context-nested head ms tag.Select h f = refl
context-nested head ms tag.Template h f = template-nested ms h
context-nested head ms tag.Html h f = absurd (false≢true (sym f))
context-nested head ms g h f = by (mode_of g) (mode-nested g)
  where
    by : (o : Option Mode) → nested_or o ≡ true → is_nested_mode (unwrap_or o mode.InBody) ≡ true
    by None k = refl
    by (Some m) k = k

pub reset-nested : (context : Option Tag) (head : Option ℕ) (ms : List Mode) (us : List Tag) (g : Tag) → list_all is_inner ms ≡ true → is_same (unwrap_or context tag.Html) tag.Html ≡ false → list_any is_outermost us ≡ false → is_nested_mode (reset_mode context head ms (us ++ g ∷ [])) ≡ true
reset-nested context head ms [] g h c f = context-nested head ms (unwrap_or context tag.Html) h c
reset-nested context head ms (u ∷ us) g h c f =
    let d = neither (is_outermost u) (list_any is_outermost us) f in
    subst (λ b. is_nested_mode (cond b (outermost_mode head ms (unwrap_or context tag.Html)) (or_mode (element_mode head ms u (us ++ g ∷ [])) (reset_mode context head ms (us ++ g ∷ [])))) ≡ true) (sym (some-left us))
    (by (element_mode head ms u (us ++ g ∷ [])) (element-nested head ms u (us ++ g ∷ []) h d.0) (reset-nested context head ms us g h c d.1))
  where
    some-left : (us : List Tag) → is_none_left (us ++ g ∷ []) ≡ false
    some-left [] = refl
    some-left (v ∷ us) = refl

    by : (o : Option Mode) → nested_or o ≡ true → is_nested_mode (reset_mode context head ms (us ++ g ∷ [])) ≡ true → is_nested_mode (or_mode o (reset_mode context head ms (us ++ g ∷ []))) ≡ true
    by None k r = r
    by (Some m) k r = k

-- the mode that what is open calls for
reset-low : (a : State) → IsFragment a → is_nested_mode (reset_mode a.context a.tree.head a.templates (open_tags a.tree)) ≡ true
reset-low a k = by a.tree.stack k.low
  where
    lows : (s : List ℕ) → ((x : ℕ) → has x s ≡ true → is_outermost (tag_at a.tree.tree x) ≡ false) → list_any is_outermost (tags_down a.tree.tree s) ≡ false
    lows s f = any-tags a.tree.tree is_outermost s ∙ none s f
      where
        none : (s : List ℕ) → ((x : ℕ) → has x s ≡ true → is_outermost (tag_at a.tree.tree x) ≡ false) → list_any (λ x. is_outermost (tag_at a.tree.tree x)) s ≡ false
        none [] f = refl
        none (z ∷ s) f = rw (f z (has-here z s), none s (λ x h. f x (has-there x z s h))) refl

    by : (s : List ℕ) → AreLow a.tree.tree s → is_nested_mode (reset_mode a.context a.tree.head a.templates (tags_down a.tree.tree s)) ≡ true
    by [] l = context-nested a.tree.head a.templates (unwrap_or a.context tag.Html) k.templates k.context
    by (z ∷ s) l = subst (λ v. is_nested_mode (reset_mode a.context a.tree.head a.templates v) ≡ true) (sym (cons-tags a.tree.tree z s)) (reset-nested a.context a.tree.head a.templates (tags_down a.tree.tree s) (tag_at a.tree.tree z) k.templates k.context (lows s l))

-- RUNS

at-in : (m o : Mode) (a : State) → may_nest_end m o ≡ true → IsNestedAt m o a → IsNestedIn a
at-in m o a h k = record { state = k.state; mode_is = by (waits m) refl h }
  where
    by : (b : Bool) → waits m ≡ b → cond b (is_nested_mode o) (is_nested_mode m) ≡ true → cond (waits a.mode) (is_nested_mode a.original) (is_nested_mode a.mode) ≡ true
    by true e h = subst (λ v. cond (waits v) (is_nested_mode a.original) (is_nested_mode v) ≡ true) (sym k.mode_is) (subst (λ b. cond b (is_nested_mode a.original) (is_nested_mode m) ≡ true) (sym e) (ap is_nested_mode (k.original_is e) ∙ h))
    by false e h = subst (λ v. cond (waits v) (is_nested_mode a.original) (is_nested_mode v) ≡ true) (sym k.mode_is) (subst (λ b. cond b (is_nested_mode a.original) (is_nested_mode m) ≡ true) (sym e) h)

nested-fostering : (m o : Mode) (a : State) (b : Bool) → IsNestedAt m o a → IsNestedAt m o (record a { fostering = b })
nested-fostering m o a b k = record { state = fragment-fostering k.state; mode_is = k.mode_is; original_is = k.original_is }
  where
    fragment-fostering : IsFragment a → IsFragment (record a { fostering = b })
    fragment-fostering s = record { held = s.held; formed = s.formed; templates = s.templates; context = s.context; refused = s.refused; fragment = s.fragment; none = s.none; low = s.low }

in-fostering : (a : State) (b : Bool) → IsNestedIn a → IsNestedIn (record a { fostering = b })
in-fostering a b k = record { state = (nested-fostering a.mode a.original a b (record { state = k.state; mode_is = refl; original_is = λ w. refl })).state; mode_is = k.mode_is }

nested-kept : (m o : Mode) (a : State) (cs : List ℕ) → IsNestedAt m o a → IsNestedAt m o (with_kept cs a)
nested-kept m o a cs k = record { state = fragment-kept k.state; mode_is = k.mode_is; original_is = k.original_is }
  where
    fragment-kept : IsFragment a → IsFragment (with_kept cs a)
    fragment-kept s = record { held = s.held; formed = s.formed; templates = s.templates; context = s.context; refused = s.refused; fragment = s.fragment; none = s.none; low = s.low }

steady-nested : (m o : Mode) (w : Word) (c : ℕ) (a : State) → is_steady_word w ≡ true → IsNestedAt m o a → IsNestedAt m o (after w (kind.Char c) a)
steady-nested m o InsertCharacter c a h k = nested-word m o InsertCharacter (kind.Char c) a refl refl k
steady-nested m o (Drop x) c a h k = nested-word m o (Drop x) (kind.Char c) a refl refl k
steady-nested m o FramesetOff c a h k = nested-word m o FramesetOff (kind.Char c) a refl refl k
steady-nested m o w c a h k = absurd (false≢true h)

module _ (r : Rules) (quiet : (c : ℕ) → steady (r mode.InBody (Char c)) ≡ true) where
  runs-steady-nested : (m o : Mode) (p : Plan) (c : ℕ) (a : State) (e : Ending) (z : State) → steady p ≡ true → IsNestedAt m o a → Runs r p (kind.Char c) a e z → IsNestedAt m o z
  runs-steady-nested m o _ c _ _ _ h k (does w p _ a b e z i j) =
      let x = both (is_steady_word w) (steady p) h in
      runs-steady-nested m o p c b e z x.1 (nested-core m o (after w (kind.Char c) a) b (becomes-core (after w (kind.Char c) a) b i) (steady-nested m o w c a x.0 k)) j
  runs-steady-nested m o _ c _ _ _ h k (asks q p n _ a b e z i j) = runs-steady-nested m o (if answer q (kind.Char c) a then p else n) c b e z (chosen (answer q (kind.Char c) a)) (nested-core m o a b (becomes-core a b i) k) j
    where
      chosen : (x : Bool) → steady (if x then p else n) ≡ true
      chosen true = (both (steady p) (steady n) h).0
      chosen false = (both (steady p) (steady n) h).1
  runs-steady-nested m o _ c _ _ _ h k (reconstructs p _ a b e z i l j) =
      runs-steady-nested m o p c b e z h (nested-moved m o a b i (reopening-made Anything tag.Body (tag.Html ∷ []) on_body a.fostering a.tree b.tree k.state.held l) (reopening-low a.fostering a.tree b.tree k.state.held l k.state.low) k) j
  runs-steady-nested m o _ c _ _ _ h k (fosters p _ a b d e z i j l) =
      let n = runs-steady-nested m o p c b e d h (nested-core m o (record a { fostering = true }) b (becomes-core (record a { fostering = true }) b i) (nested-fostering m o a true k)) j in
      nested-core m o (record d { fostering = false }) z (becomes-core (record d { fostering = false }) z l) (nested-fostering m o d false n)
  runs-steady-nested m o _ c _ _ _ h k (stops _ a e z i) = nested-core m o a z (becomes-core a z i) k
  runs-steady-nested m o _ c _ _ _ h k (goes_by n _ a e z j) = runs-steady-nested m o (r n (Char c)) c a e z (by-body n h) k j
    where
      by-body : (n : Mode) → is_in_body n ≡ true → steady (r n (Char c)) ≡ true
      by-body mode.InBody h = quiet c
      by-body n h = absurd (false≢true h)
  runs-steady-nested m o _ c _ _ _ h k (adopts g p _ a b e z i l j) = absurd (false≢true h)
  runs-steady-nested m o _ c _ _ _ h k (closes_link p _ a b e z i l j) = absurd (false≢true h)
  runs-steady-nested m o _ c _ _ _ h k (settles q p _ a b e z i j) = absurd (false≢true h)
  runs-steady-nested m o _ c _ _ _ h k (ends_each q p _ a e z j) = absurd (false≢true h)
  runs-steady-nested m o _ c _ _ _ h k (does_each d cs q p _ a b e z i j) = absurd (false≢true h)

  -- after the mode was reset
  calm-in : (w : Word) (t : TokenKind) (a : State) → Step true a (after w t a) → (after w t a).tree.stack ≡ a.tree.stack → (after w t a).mode ≡ a.mode → (after w t a).original ≡ a.original → IsNestedIn a → IsNestedIn (after w t a)
  calm-in w t a s e i j k = record {
    state = fragment-step a (after w t a) s (λ x h. inl (sym (ap (λ v. has x (drop 1 v)) e) ∙ h)) k.state;
    mode_is = subst (λ v. cond (waits v) (is_nested_mode (after w t a).original) (is_nested_mode v) ≡ true) (sym i) (subst (λ v. cond (waits a.mode) (is_nested_mode v) (is_nested_mode a.mode) ≡ true) (sym j) k.mode_is);
  }

  runs-calm-in : (p : Plan) (t : TokenKind) (a : State) (e : Ending) (z : State) → is_calm p ≡ true → IsNestedIn a → Runs r p t a e z → IsNestedIn z
  runs-calm-in (Do Ended p) t a e z h k j = (let f = followed r (Do Ended p) t a e z j in runs-calm-in p t f.0 e z h (in-core (after Ended t a) f.0 (becomes-core (after Ended t a) f.0 f.1) (calm-in Ended t a (word-step t a Ended refl) refl refl refl k)) f.2)
  runs-calm-in (Do (Drop c) p) t a e z h k j = (let f = followed r (Do (Drop c) p) t a e z j in runs-calm-in p t f.0 e z h (in-core (after (Drop c) t a) f.0 (becomes-core (after (Drop c) t a) f.0 f.1) (calm-in (Drop c) t a (word-step t a (Drop c) refl) refl refl refl k)) f.2)
  runs-calm-in (Stop d) t a e z h k j = (let f = followed r (Stop d) t a e z j in in-core a z (becomes-core a z f.1) k)
  runs-calm-in p t a e z h k j = absurd (false≢true h)

  reset-in : (w : Word) (p : Plan) (t : TokenKind) (a b : State) (e : Ending) (z : State) → (resets w && is_calm p) ≡ true → IsFragment a → Becomes (after w t a) b → Runs r p t b e z → IsNestedIn z
  reset-in Reset p t a b e z h k i j = runs-calm-in p t b e z h (in-core (after Reset t a) b (becomes-core (after Reset t a) b i) (record {
    state = fragment-step a (after Reset t a) (word-step t a Reset refl) (λ x q. inl q) k;
    mode_is = settled-by (reset_mode a.context a.tree.head a.templates (open_tags a.tree)) (reset-low a k);
  })) j
    where
      settled-by : (m : Mode) → is_nested_mode m ≡ true → cond (waits m) (is_nested_mode a.original) (is_nested_mode m) ≡ true
      settled-by m h = subst (λ b. cond b (is_nested_mode a.original) (is_nested_mode m) ≡ true) (sym (not-true (waits m) (both (not (is_outer m)) (not (waits m)) h).1)) h
  reset-in w p t a b e z h k i j = absurd (false≢true h)

  pub runs-nested : (n : ℕ) (m o : Mode) (p : Plan) (t : TokenKind) (a : State) (e : Ending) (z : State) → nested r n (symbol_of t) m o p ≡ true → IsNestedAt m o a → Runs r p t a e z → IsNestedIn z
  runs-nested n m o _ _ _ _ _ h k (does w p t a b e z i j) =
      let c = both (grows (symbol_of t) w && spares (symbol_of t) w) ((resets w && is_calm p) || (may_nest (symbol_of t) m w && nested r n (symbol_of t) (outer_mode m o w) (outer_original m o w) p)) h in
      elim (either (resets w && is_calm p) (may_nest (symbol_of t) m w && nested r n (symbol_of t) (outer_mode m o w) (outer_original m o w) p) c.1) [
        | inl u ↦ reset-in w p t a b e z u k.state i j
        | inr u ↦ (let d = both (may_nest (symbol_of t) m w) (nested r n (symbol_of t) (outer_mode m o w) (outer_original m o w) p) u in
            runs-nested n (outer_mode m o w) (outer_original m o w) p t b e z d.1 (nested-core (outer_mode m o w) (outer_original m o w) (after w t a) b (becomes-core (after w t a) b i) (nested-word m o w t a c.0 d.0 k)) j)
      ]
  runs-nested n m o _ _ _ _ _ h k (asks q p d t a b e z i j) = runs-nested n m o (if answer q t a then p else d) t b e z (chosen (answer q t a) refl) (nested-core m o a b (becomes-core a b i) k) j
    where
      c : ((is_denied q || nested r n (symbol_of t) m o p) ≡ true) × ((is_misplaced q || nested r n (symbol_of t) m o d) ≡ true)
      c = both (is_denied q || nested r n (symbol_of t) m o p) (is_misplaced q || nested r n (symbol_of t) m o d) h

      denied : (q : Query) → is_denied q ≡ true → answer q t a ≡ false
      denied ParsesForeign u = k.state.refused
      denied q u = absurd (false≢true u)

      misplaced : (q : Query) → is_misplaced q ≡ true → answer q t a ≡ true
      misplaced (MayMisplace g) u = subst (λ v. may_misplace_tag a.ledger.history v ≡ true) (sym (same-tag g tag.Body u)) (in-fragment a.ledger.history.template)
        where
          in-fragment : (b : Bool) → (false || ((false && a.ledger.history.template) || ((true && (b || a.ledger.history.fragment)) || ((false && (a.ledger.history.form || a.ledger.history.template)) || (false && a.ledger.history.noscript))))) ≡ true
          in-fragment true = refl
          in-fragment false = ap (λ x. x || false) k.state.fragment
      misplaced q u = absurd (false≢true u)

      chosen : (x : Bool) → answer q t a ≡ x → nested r n (symbol_of t) m o (if x then p else d) ≡ true
      chosen true u = elim (either (is_denied q) (nested r n (symbol_of t) m o p) c.0) [ inl v ↦ absurd (false≢true (sym (denied q v) ∙ u)) | inr v ↦ v ]
      chosen false u = elim (either (is_misplaced q) (nested r n (symbol_of t) m o d) c.1) [ inl v ↦ absurd (false≢true (sym u ∙ misplaced q v)) | inr v ↦ v ]
  runs-nested n m o _ _ _ _ _ h k (reconstructs p t a b e z i l j) =
      runs-nested n m o p t b e z h (nested-moved m o a b i (reopening-made Anything tag.Body (tag.Html ∷ []) on_body a.fostering a.tree b.tree k.state.held l) (reopening-low a.fostering a.tree b.tree k.state.held l k.state.low) k) j
  runs-nested n m o _ _ _ _ _ h k (adopts g p t a b e z i l j) =
      let c = both (is_formatting g) (nested r n (symbol_of t) m o p) h in
      runs-nested n m o p t b e z c.1 (nested-moved m o a b i (ended-made Anything tag.Body (tag.Html ∷ []) on_body g c.0 a.fostering a.tree b.tree k.state.held l) (ended-low g c.0 a.fostering a.tree b.tree k.state.held l k.state.low) k) j
  runs-nested n m o _ _ _ _ _ h k (closes_link p t a b e z i l j) =
      runs-nested n m o p t b e z h (nested-moved m o a b i (link-made Anything tag.Body (tag.Html ∷ []) on_body a.fostering a.tree b.tree k.state.held l) (link-low a.fostering a.tree b.tree k.state.held l k.state.low) k) j
  runs-nested n m o _ _ _ _ _ h k (fosters p t a b c e z i j l) =
      in-core (record c { fostering = false }) z (becomes-core (record c { fostering = false }) z l)
      (in-fostering c false (runs-nested n m o p t b e c h (nested-core m o (record a { fostering = true }) b (becomes-core (record a { fostering = true }) b i) (nested-fostering m o a true k)) j))
  runs-nested n m o _ _ _ _ _ h k (settles q p t a b e z i j) = runs-nested n m o (Each a.ledger.kept q p) t b e z h (nested-core m o (with_kept [] a) b (becomes-core (with_kept [] a) b i) (nested-kept m o a [] k)) j
  runs-nested n m o _ _ _ _ _ h k (ends_each q p t a e z j) = runs-nested n m o p t a e z (both (steady q) (nested r n (symbol_of t) m o p) h).1 k j
  runs-nested n m o _ _ _ _ _ h k (does_each x cs q p t a b e z i j) =
      runs-nested n m o (Each cs q p) t b e z h (runs-steady-nested m o q x a Over b (both (steady q) (nested r n (symbol_of t) m o p) h).0 k i) j
  runs-nested n m o _ _ _ _ _ h k (stops t a e z i) = at-in m o z h (nested-core m o a z (becomes-core a z i) k)
  runs-nested (suc n) m o _ _ _ _ _ h k (goes_by u t a e z j) = runs-nested n m o (r u (symbol_of t)) t a e z h k j
  runs-nested zero m o _ _ _ _ _ h k (goes_by u t a e z j) = absurd (false≢true h)

-- THE RULES OF EACH MODE

nested-if-4 : (x : Bool) (y : Symbol) (m o : Mode) (p d : Plan) → nested plan 4 y m o (if x then p else d) ≡ (if x then nested plan 4 y m o p else nested plan 4 y m o d)
nested-if-4 true y m o p d = refl
nested-if-4 false y m o p d = refl

nested-if-3 : (x : Bool) (y : Symbol) (m o : Mode) (p d : Plan) → nested plan 3 y m o (if x then p else d) ≡ (if x then nested plan 3 y m o p else nested plan 3 y m o d)
nested-if-3 true y m o p d = refl
nested-if-3 false y m o p d = refl

nested-if-2 : (x : Bool) (y : Symbol) (m o : Mode) (p d : Plan) → nested plan 2 y m o (if x then p else d) ≡ (if x then nested plan 2 y m o p else nested plan 2 y m o d)
nested-if-2 true y m o p d = refl
nested-if-2 false y m o p d = refl

nested-if-1 : (x : Bool) (y : Symbol) (m o : Mode) (p d : Plan) → nested plan 1 y m o (if x then p else d) ≡ (if x then nested plan 1 y m o p else nested plan 1 y m o d)
nested-if-1 true y m o p d = refl
nested-if-1 false y m o p d = refl

if-both : (b : Bool) → (if b then true else true) ≡ true
if-both true = refl
if-both false = refl

ruleset by_code_point = (nested-if-4, nested-if-3, nested-if-2, nested-if-1, if-both)

nests_inBody-start : (g : Tag) → nested plan 4 (Start g) mode.InBody mode.InBody (plan mode.InBody (Start g)) ≡ true
unfolding plan
nests_inBody-start = of-all (λ g. nested plan 4 (Start g) mode.InBody mode.InBody (plan mode.InBody (Start g))) refl

nests_inBody-end : (g : Tag) → nested plan 4 (End g) mode.InBody mode.InBody (plan mode.InBody (End g)) ≡ true
unfolding plan
nests_inBody-end = of-all (λ g. nested plan 4 (End g) mode.InBody mode.InBody (plan mode.InBody (End g))) refl

nests_inBody : (y : Symbol) → nested plan 4 y mode.InBody mode.InBody (plan mode.InBody y) ≡ true
unfolding plan
nests_inBody (Start g) = nests_inBody-start g
nests_inBody (End g) = nests_inBody-end g
nests_inBody (Char c) = simp by_code_point refl
nests_inBody Comment = refl
nests_inBody Doctype = refl
nests_inBody Eof = refl

nests_inTable-start : (g : Tag) → nested plan 4 (Start g) mode.InTable mode.InBody (plan mode.InTable (Start g)) ≡ true
unfolding plan
nests_inTable-start = of-all (λ g. nested plan 4 (Start g) mode.InTable mode.InBody (plan mode.InTable (Start g))) refl

nests_inTable-end : (g : Tag) → nested plan 4 (End g) mode.InTable mode.InBody (plan mode.InTable (End g)) ≡ true
unfolding plan
nests_inTable-end = of-all (λ g. nested plan 4 (End g) mode.InTable mode.InBody (plan mode.InTable (End g))) refl

nests_inTable : (y : Symbol) → nested plan 4 y mode.InTable mode.InBody (plan mode.InTable y) ≡ true
unfolding plan
nests_inTable (Start g) = nests_inTable-start g
nests_inTable (End g) = nests_inTable-end g
nests_inTable (Char c) = simp by_code_point refl
nests_inTable Comment = refl
nests_inTable Doctype = refl
nests_inTable Eof = refl

nests_inCaption-start : (g : Tag) → nested plan 4 (Start g) mode.InCaption mode.InBody (plan mode.InCaption (Start g)) ≡ true
unfolding plan
nests_inCaption-start = of-all (λ g. nested plan 4 (Start g) mode.InCaption mode.InBody (plan mode.InCaption (Start g))) refl

nests_inCaption-end : (g : Tag) → nested plan 4 (End g) mode.InCaption mode.InBody (plan mode.InCaption (End g)) ≡ true
unfolding plan
nests_inCaption-end = of-all (λ g. nested plan 4 (End g) mode.InCaption mode.InBody (plan mode.InCaption (End g))) refl

nests_inCaption : (y : Symbol) → nested plan 4 y mode.InCaption mode.InBody (plan mode.InCaption y) ≡ true
unfolding plan
nests_inCaption (Start g) = nests_inCaption-start g
nests_inCaption (End g) = nests_inCaption-end g
nests_inCaption (Char c) = simp by_code_point refl
nests_inCaption Comment = refl
nests_inCaption Doctype = refl
nests_inCaption Eof = refl

nests_inColumnGroup-start : (g : Tag) → nested plan 4 (Start g) mode.InColumnGroup mode.InBody (plan mode.InColumnGroup (Start g)) ≡ true
unfolding plan
nests_inColumnGroup-start = of-all (λ g. nested plan 4 (Start g) mode.InColumnGroup mode.InBody (plan mode.InColumnGroup (Start g))) refl

nests_inColumnGroup-end : (g : Tag) → nested plan 4 (End g) mode.InColumnGroup mode.InBody (plan mode.InColumnGroup (End g)) ≡ true
unfolding plan
nests_inColumnGroup-end = of-all (λ g. nested plan 4 (End g) mode.InColumnGroup mode.InBody (plan mode.InColumnGroup (End g))) refl

nests_inColumnGroup : (y : Symbol) → nested plan 4 y mode.InColumnGroup mode.InBody (plan mode.InColumnGroup y) ≡ true
unfolding plan
nests_inColumnGroup (Start g) = nests_inColumnGroup-start g
nests_inColumnGroup (End g) = nests_inColumnGroup-end g
nests_inColumnGroup (Char c) = simp by_code_point refl
nests_inColumnGroup Comment = refl
nests_inColumnGroup Doctype = refl
nests_inColumnGroup Eof = refl

nests_inTableBody-start : (g : Tag) → nested plan 4 (Start g) mode.InTableBody mode.InBody (plan mode.InTableBody (Start g)) ≡ true
unfolding plan
nests_inTableBody-start = of-all (λ g. nested plan 4 (Start g) mode.InTableBody mode.InBody (plan mode.InTableBody (Start g))) refl

nests_inTableBody-end : (g : Tag) → nested plan 4 (End g) mode.InTableBody mode.InBody (plan mode.InTableBody (End g)) ≡ true
unfolding plan
nests_inTableBody-end = of-all (λ g. nested plan 4 (End g) mode.InTableBody mode.InBody (plan mode.InTableBody (End g))) refl

nests_inTableBody : (y : Symbol) → nested plan 4 y mode.InTableBody mode.InBody (plan mode.InTableBody y) ≡ true
unfolding plan
nests_inTableBody (Start g) = nests_inTableBody-start g
nests_inTableBody (End g) = nests_inTableBody-end g
nests_inTableBody (Char c) = simp by_code_point refl
nests_inTableBody Comment = refl
nests_inTableBody Doctype = refl
nests_inTableBody Eof = refl

nests_inRow-start : (g : Tag) → nested plan 4 (Start g) mode.InRow mode.InBody (plan mode.InRow (Start g)) ≡ true
unfolding plan
nests_inRow-start = of-all (λ g. nested plan 4 (Start g) mode.InRow mode.InBody (plan mode.InRow (Start g))) refl

nests_inRow-end : (g : Tag) → nested plan 4 (End g) mode.InRow mode.InBody (plan mode.InRow (End g)) ≡ true
unfolding plan
nests_inRow-end = of-all (λ g. nested plan 4 (End g) mode.InRow mode.InBody (plan mode.InRow (End g))) refl

nests_inRow : (y : Symbol) → nested plan 4 y mode.InRow mode.InBody (plan mode.InRow y) ≡ true
unfolding plan
nests_inRow (Start g) = nests_inRow-start g
nests_inRow (End g) = nests_inRow-end g
nests_inRow (Char c) = simp by_code_point refl
nests_inRow Comment = refl
nests_inRow Doctype = refl
nests_inRow Eof = refl

nests_inCell-start : (g : Tag) → nested plan 4 (Start g) mode.InCell mode.InBody (plan mode.InCell (Start g)) ≡ true
unfolding plan
nests_inCell-start = of-all (λ g. nested plan 4 (Start g) mode.InCell mode.InBody (plan mode.InCell (Start g))) refl

nests_inCell-end : (g : Tag) → nested plan 4 (End g) mode.InCell mode.InBody (plan mode.InCell (End g)) ≡ true
unfolding plan
nests_inCell-end = of-all (λ g. nested plan 4 (End g) mode.InCell mode.InBody (plan mode.InCell (End g))) refl

nests_inCell : (y : Symbol) → nested plan 4 y mode.InCell mode.InBody (plan mode.InCell y) ≡ true
unfolding plan
nests_inCell (Start g) = nests_inCell-start g
nests_inCell (End g) = nests_inCell-end g
nests_inCell (Char c) = simp by_code_point refl
nests_inCell Comment = refl
nests_inCell Doctype = refl
nests_inCell Eof = refl

nests_inSelect-start : (g : Tag) → nested plan 4 (Start g) mode.InSelect mode.InBody (plan mode.InSelect (Start g)) ≡ true
unfolding plan
nests_inSelect-start = of-all (λ g. nested plan 4 (Start g) mode.InSelect mode.InBody (plan mode.InSelect (Start g))) refl

nests_inSelect-end : (g : Tag) → nested plan 4 (End g) mode.InSelect mode.InBody (plan mode.InSelect (End g)) ≡ true
unfolding plan
nests_inSelect-end = of-all (λ g. nested plan 4 (End g) mode.InSelect mode.InBody (plan mode.InSelect (End g))) refl

nests_inSelect : (y : Symbol) → nested plan 4 y mode.InSelect mode.InBody (plan mode.InSelect y) ≡ true
unfolding plan
nests_inSelect (Start g) = nests_inSelect-start g
nests_inSelect (End g) = nests_inSelect-end g
nests_inSelect (Char c) = simp by_code_point refl
nests_inSelect Comment = refl
nests_inSelect Doctype = refl
nests_inSelect Eof = refl

nests_inSelectInTable-start : (g : Tag) → nested plan 4 (Start g) mode.InSelectInTable mode.InBody (plan mode.InSelectInTable (Start g)) ≡ true
unfolding plan
nests_inSelectInTable-start = of-all (λ g. nested plan 4 (Start g) mode.InSelectInTable mode.InBody (plan mode.InSelectInTable (Start g))) refl

nests_inSelectInTable-end : (g : Tag) → nested plan 4 (End g) mode.InSelectInTable mode.InBody (plan mode.InSelectInTable (End g)) ≡ true
unfolding plan
nests_inSelectInTable-end = of-all (λ g. nested plan 4 (End g) mode.InSelectInTable mode.InBody (plan mode.InSelectInTable (End g))) refl

nests_inSelectInTable : (y : Symbol) → nested plan 4 y mode.InSelectInTable mode.InBody (plan mode.InSelectInTable y) ≡ true
unfolding plan
nests_inSelectInTable (Start g) = nests_inSelectInTable-start g
nests_inSelectInTable (End g) = nests_inSelectInTable-end g
nests_inSelectInTable (Char c) = simp by_code_point refl
nests_inSelectInTable Comment = refl
nests_inSelectInTable Doctype = refl
nests_inSelectInTable Eof = refl

nests_inTemplate-start : (g : Tag) → nested plan 4 (Start g) mode.InTemplate mode.InBody (plan mode.InTemplate (Start g)) ≡ true
unfolding plan
nests_inTemplate-start = of-all (λ g. nested plan 4 (Start g) mode.InTemplate mode.InBody (plan mode.InTemplate (Start g))) refl

nests_inTemplate-end : (g : Tag) → nested plan 4 (End g) mode.InTemplate mode.InBody (plan mode.InTemplate (End g)) ≡ true
unfolding plan
nests_inTemplate-end = of-all (λ g. nested plan 4 (End g) mode.InTemplate mode.InBody (plan mode.InTemplate (End g))) refl

nests_inTemplate : (y : Symbol) → nested plan 4 y mode.InTemplate mode.InBody (plan mode.InTemplate y) ≡ true
unfolding plan
nests_inTemplate (Start g) = nests_inTemplate-start g
nests_inTemplate (End g) = nests_inTemplate-end g
nests_inTemplate (Char c) = simp by_code_point refl
nests_inTemplate Comment = refl
nests_inTemplate Doctype = refl
nests_inTemplate Eof = refl

nests_afterBody-start : (g : Tag) → nested plan 4 (Start g) mode.AfterBody mode.InBody (plan mode.AfterBody (Start g)) ≡ true
unfolding plan
nests_afterBody-start = of-all (λ g. nested plan 4 (Start g) mode.AfterBody mode.InBody (plan mode.AfterBody (Start g))) refl

nests_afterBody-end : (g : Tag) → nested plan 4 (End g) mode.AfterBody mode.InBody (plan mode.AfterBody (End g)) ≡ true
unfolding plan
nests_afterBody-end = of-all (λ g. nested plan 4 (End g) mode.AfterBody mode.InBody (plan mode.AfterBody (End g))) refl

nests_afterBody : (y : Symbol) → nested plan 4 y mode.AfterBody mode.InBody (plan mode.AfterBody y) ≡ true
unfolding plan
nests_afterBody (Start g) = nests_afterBody-start g
nests_afterBody (End g) = nests_afterBody-end g
nests_afterBody (Char c) = simp by_code_point refl
nests_afterBody Comment = refl
nests_afterBody Doctype = refl
nests_afterBody Eof = refl

nests_inFrameset-start : (g : Tag) → nested plan 4 (Start g) mode.InFrameset mode.InBody (plan mode.InFrameset (Start g)) ≡ true
unfolding plan
nests_inFrameset-start = of-all (λ g. nested plan 4 (Start g) mode.InFrameset mode.InBody (plan mode.InFrameset (Start g))) refl

nests_inFrameset-end : (g : Tag) → nested plan 4 (End g) mode.InFrameset mode.InBody (plan mode.InFrameset (End g)) ≡ true
unfolding plan
nests_inFrameset-end = of-all (λ g. nested plan 4 (End g) mode.InFrameset mode.InBody (plan mode.InFrameset (End g))) refl

nests_inFrameset : (y : Symbol) → nested plan 4 y mode.InFrameset mode.InBody (plan mode.InFrameset y) ≡ true
unfolding plan
nests_inFrameset (Start g) = nests_inFrameset-start g
nests_inFrameset (End g) = nests_inFrameset-end g
nests_inFrameset (Char c) = simp by_code_point refl
nests_inFrameset Comment = refl
nests_inFrameset Doctype = refl
nests_inFrameset Eof = refl

nests_afterFrameset-start : (g : Tag) → nested plan 4 (Start g) mode.AfterFrameset mode.InBody (plan mode.AfterFrameset (Start g)) ≡ true
unfolding plan
nests_afterFrameset-start = of-all (λ g. nested plan 4 (Start g) mode.AfterFrameset mode.InBody (plan mode.AfterFrameset (Start g))) refl

nests_afterFrameset-end : (g : Tag) → nested plan 4 (End g) mode.AfterFrameset mode.InBody (plan mode.AfterFrameset (End g)) ≡ true
unfolding plan
nests_afterFrameset-end = of-all (λ g. nested plan 4 (End g) mode.AfterFrameset mode.InBody (plan mode.AfterFrameset (End g))) refl

nests_afterFrameset : (y : Symbol) → nested plan 4 y mode.AfterFrameset mode.InBody (plan mode.AfterFrameset y) ≡ true
unfolding plan
nests_afterFrameset (Start g) = nests_afterFrameset-start g
nests_afterFrameset (End g) = nests_afterFrameset-end g
nests_afterFrameset (Char c) = simp by_code_point refl
nests_afterFrameset Comment = refl
nests_afterFrameset Doctype = refl
nests_afterFrameset Eof = refl

nests_afterAfterBody-start : (g : Tag) → nested plan 4 (Start g) mode.AfterAfterBody mode.InBody (plan mode.AfterAfterBody (Start g)) ≡ true
unfolding plan
nests_afterAfterBody-start = of-all (λ g. nested plan 4 (Start g) mode.AfterAfterBody mode.InBody (plan mode.AfterAfterBody (Start g))) refl

nests_afterAfterBody-end : (g : Tag) → nested plan 4 (End g) mode.AfterAfterBody mode.InBody (plan mode.AfterAfterBody (End g)) ≡ true
unfolding plan
nests_afterAfterBody-end = of-all (λ g. nested plan 4 (End g) mode.AfterAfterBody mode.InBody (plan mode.AfterAfterBody (End g))) refl

nests_afterAfterBody : (y : Symbol) → nested plan 4 y mode.AfterAfterBody mode.InBody (plan mode.AfterAfterBody y) ≡ true
unfolding plan
nests_afterAfterBody (Start g) = nests_afterAfterBody-start g
nests_afterAfterBody (End g) = nests_afterAfterBody-end g
nests_afterAfterBody (Char c) = simp by_code_point refl
nests_afterAfterBody Comment = refl
nests_afterAfterBody Doctype = refl
nests_afterAfterBody Eof = refl

nests_afterAfterFrameset-start : (g : Tag) → nested plan 4 (Start g) mode.AfterAfterFrameset mode.InBody (plan mode.AfterAfterFrameset (Start g)) ≡ true
unfolding plan
nests_afterAfterFrameset-start = of-all (λ g. nested plan 4 (Start g) mode.AfterAfterFrameset mode.InBody (plan mode.AfterAfterFrameset (Start g))) refl

nests_afterAfterFrameset-end : (g : Tag) → nested plan 4 (End g) mode.AfterAfterFrameset mode.InBody (plan mode.AfterAfterFrameset (End g)) ≡ true
unfolding plan
nests_afterAfterFrameset-end = of-all (λ g. nested plan 4 (End g) mode.AfterAfterFrameset mode.InBody (plan mode.AfterAfterFrameset (End g))) refl

nests_afterAfterFrameset : (y : Symbol) → nested plan 4 y mode.AfterAfterFrameset mode.InBody (plan mode.AfterAfterFrameset y) ≡ true
unfolding plan
nests_afterAfterFrameset (Start g) = nests_afterAfterFrameset-start g
nests_afterAfterFrameset (End g) = nests_afterAfterFrameset-end g
nests_afterAfterFrameset (Char c) = simp by_code_point refl
nests_afterAfterFrameset Comment = refl
nests_afterAfterFrameset Doctype = refl
nests_afterAfterFrameset Eof = refl

either-nested : (o : Mode) → is_nested_mode o ≡ true → cond (waits o) (is_nested_mode o) (is_nested_mode o) ≡ true
either-nested o h = by (waits o)
  where
    by : (b : Bool) → cond b (is_nested_mode o) (is_nested_mode o) ≡ true
    by true = h
    by false = h

nests_text : (o : Mode) (y : Symbol) → is_nested_mode o ≡ true → nested plan 4 y mode.Text o (plan mode.Text y) ≡ true
unfolding plan
nests_text o (Start g) h = either-nested o h
nests_text o (End g) h = either-nested o h
nests_text o (Char c) h = simp (by_code_point, h) refl
nests_text o Comment h = either-nested o h
nests_text o Doctype h = either-nested o h
nests_text o Eof h = either-nested o h

nests_table_text : (o : Mode) (y : Symbol) → is_nested_mode o ≡ true → nested plan 4 y mode.InTableText o (plan mode.InTableText y) ≡ true
unfolding plan
nests_table_text o (Start g) h = join _ _ (either-nested o h) (either-nested o h)
nests_table_text o (End g) h = join _ _ (either-nested o h) (either-nested o h)
nests_table_text o (Char c) h = h
nests_table_text o Comment h = join _ _ (either-nested o h) (either-nested o h)
nests_table_text o Doctype h = join _ _ (either-nested o h) (either-nested o h)
nests_table_text o Eof h = join _ _ (either-nested o h) (either-nested o h)

pub nests-plan : (m o : Mode) (y : Symbol) → cond (waits m) (is_nested_mode o) (is_nested_mode m) ≡ true → nested plan 4 y m (cond (waits m) o mode.InBody) (plan m y) ≡ true
nests-plan mode.Text o y h = nests_text o y h
nests-plan mode.InTableText o y h = nests_table_text o y h
nests-plan mode.InBody o y h = nests_inBody y
nests-plan mode.InTable o y h = nests_inTable y
nests-plan mode.InCaption o y h = nests_inCaption y
nests-plan mode.InColumnGroup o y h = nests_inColumnGroup y
nests-plan mode.InTableBody o y h = nests_inTableBody y
nests-plan mode.InRow o y h = nests_inRow y
nests-plan mode.InCell o y h = nests_inCell y
nests-plan mode.InSelect o y h = nests_inSelect y
nests-plan mode.InSelectInTable o y h = nests_inSelectInTable y
nests-plan mode.InTemplate o y h = nests_inTemplate y
nests-plan mode.AfterBody o y h = nests_afterBody y
nests-plan mode.InFrameset o y h = nests_inFrameset y
nests-plan mode.AfterFrameset o y h = nests_afterFrameset y
nests-plan mode.AfterAfterBody o y h = nests_afterAfterBody y
nests-plan mode.AfterAfterFrameset o y h = nests_afterAfterFrameset y
nests-plan m o y h = absurd (false≢true h)

-- ENTRIES

module _ (t : TokenKind) where
  entry-nested : (o : _) (a z : State) → a.ledger.history.foreign ≡ false → IsNestedIn a → IsEntry o (symbol_of t) t a z → IsNestedIn z
  entry-nested o a z n k e = runs-nested plan char-steady 4 a.mode (cond (waits a.mode) a.original mode.InBody) (native_plan a (symbol_of t)) t a (ending o) z
      (of-entry (nested plan 4 (symbol_of t) a.mode (cond (waits a.mode) a.original mode.InBody)) a (symbol_of t) (λ c. ignored-nested (waits a.mode) k.mode_is) refl (nests-plan a.mode a.original (symbol_of t) k.mode_is))
      (record { state = k.state; mode_is = refl; original_is = λ w. sym (ap (λ b. cond b a.original mode.InBody) w) }) (entry-follows o (symbol_of t) t a z n e)
    where
      ignored-nested : (b : Bool) → cond b (is_nested_mode a.original) (is_nested_mode a.mode) ≡ true → cond b (is_nested_mode (cond b a.original mode.InBody)) (is_nested_mode a.mode) ≡ true
      ignored-nested true h = h
      ignored-nested false h = h

  settled-nested : (c : State) → IsNestedIn c → IsNestedIn (settled c)
  settled-nested c k = by (is_unfounded c)
    where
      same : (b : Bool) → IsFragment c → IsFragment (record c { mode = cond b mode.InBody c.mode })
      same b s = record { held = s.held; formed = s.formed; templates = s.templates; context = s.context; refused = s.refused; fragment = s.fragment; none = s.none; low = s.low }

      by : (b : Bool) → IsNestedIn (record c { mode = cond b mode.InBody c.mode })
      by true = record { state = same true k.state; mode_is = refl }
      by false = record { state = same false k.state; mode_is = k.mode_is }

  entries-nested : (a z : State) → Entries (symbol_of t) t a z → IsNative a → IsNestedIn a → IsNestedIn z
  entries-nested _ _ (next a b c z i j r) g k =
      let h = native-becomes a b i g in
      entries-nested c z r (entry-native (symbol_of t) t _ b c h j) (entry-nested _ b c h.none (in-core a b (becomes-core a b i) k) j)
  entries-nested _ _ (last a b c z i j e) g k =
      let h = native-becomes a b i g in
      subst IsNestedIn (sym e) (settled-nested c (entry-nested _ b c h.none (in-core a b (becomes-core a b i) k) j))

nested-begun : (a : State) → IsNestedIn a → IsNestedIn (begun a)
nested-begun a k = record { state = same k.state; mode_is = k.mode_is }
  where
    same : IsFragment a → IsFragment (begun a)
    same s = record { held = s.held; formed = s.formed; templates = s.templates; context = s.context; refused = s.refused; fragment = s.fragment; none = s.none; low = s.low }

constructs-nested : (ts : List TokenKind) (a z : State) → Constructs ts a z → IsNative a → IsNestedIn (begun a) → IsNestedIn (begun z)
constructs-nested [] a z c g k = subst IsNestedIn c k
constructs-nested (t ∷ ts) a z c g k =
    let h = native-begun a g in
    constructs-nested ts c.0 z c.2 (entries-native (symbol_of t) t (begun a) c.0 c.1 h) (nested-begun c.0 (entries-nested t (begun a) c.0 c.1 h k))

-- A FRAGMENT

abbrev pub is_apart : Setting → Bool
is_apart Document = false
is_apart (Fragment context in_form) = not (is_same context tag.Html)

module _ (context : Tag) (in_form : Bool) (l : Option Limits) (q : Bool) (h : is_same context tag.Html ≡ false) where
  abbrev first : State
  first = begun (first_state (Fragment context in_form) l q false 0)

  root : Adds (empty_tree l) first.tree.tree (of_name (name_of tag.Html))
  root = record { are = (made-adds (empty_tree l) (name_of tag.Html) [] Unasked).are }

  templates-inner : list_all is_inner (if is_same context tag.Template then mode.InTemplate ∷ [] else []) ≡ true
  templates-inner = by (is_same context tag.Template)
    where
      by : (b : Bool) → list_all is_inner (if b then mode.InTemplate ∷ [] else []) ≡ true
      by true = refl
      by false = refl

  fragment-nested : IsNestedIn first
  fragment-nested = record {
    state = record {
      held = record {
        stacked = λ x k. elim (has-head x 0 [] k) [ inl e ↦ (let n = longer (empty_tree l) first.tree.tree (of_name (name_of tag.Html)) root in omega (arith, e, n)) | inr e ↦ absurd (false≢true e) ];
        listed = λ x k. absurd (false≢true k);
        tagged = ap (list_all is_tagged) root.are ∙ name-tagged (name_of tag.Html);
      };
      formed = λ x e. absurd (none-some x e);
      templates = templates-inner;
      context = h;
      refused = refl;
      fragment = refl;
      none = ap (tally tag.Body) root.are ∙ name-bodies (name_of tag.Html) (ap (λ g. is_same g tag.Body) (implied-name tag.Html refl));
      low = λ x k. absurd (false≢true k);
    };
    mode_is = settled-by (outermost_mode None (if is_same context tag.Template then mode.InTemplate ∷ [] else []) context) (context-nested None (if is_same context tag.Template then mode.InTemplate ∷ [] else []) context templates-inner h);
  }
    where
      none-some : (x : ℕ) → None ≡ Some x → ⊥
      none-some x e = cc

      settled-by : (m : Mode) → is_nested_mode m ≡ true → cond (waits m) (is_nested_mode mode.Initial) (is_nested_mode m) ≡ true
      settled-by m k = subst (λ b. cond b (is_nested_mode mode.Initial) (is_nested_mode m) ≡ true) (sym (not-true (waits m) (both (not (is_outer m)) (not (waits m)) k).1)) k

first-nested : (s : Setting) (l : Option Limits) (a : State) → is_apart s ≡ true → IsFirst s l a → a.parses_foreign ≡ false → IsNestedIn (begun a)
first-nested s l a h k f =
    let e = first-core s l a k ∙ ap (λ v. core (begun (first_state s l a.quirks v 0))) f in
    in-core (begun (first_state s l a.quirks false 0)) (begun a) e (by s h)
  where
    by : (s : Setting) → is_apart s ≡ true → IsNestedIn (begun (first_state s l a.quirks false 0))
    by Document h = absurd (false≢true h)
    by (Fragment context in_form) h = fragment-nested context in_form l a.quirks (not-true (is_same context tag.Html) h)

-- no body is made there
pub apart-body : (s : Setting) (l : Option Limits) (tokens : List TokenKind) (fates : List Fate) (t : Nodes) → is_apart s ≡ true → is_foreign_context s ≡ false → IsBuiltByRules s l false tokens fates t
    → count_by (λ d. not (is_clone_in d) && is_same (tag_in d) tag.Body) t.labels ≤ 1
apart-body s l tokens fates t h c b =
    let k = first-native s l b.first c b.begins b.foreign_is in
    let p = constructs-nested tokens b.first b.last b.constructs k (first-nested s l b.first h b.begins b.foreign_is) in
    let m = p.state.none in
    let e = ap (λ (v : Nodes). tally tag.Body (faces v)) b.tree_is in
    let n = tally-labels tag.Body t.labels in
    omega (arith, m, e, n)
