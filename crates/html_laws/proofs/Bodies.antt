-- The rules make one body at most, where no start tag comes in the mode "text".
use Rattle.std.proofs.Common.{◌≡◌, ◌⊎◌, ℕ, ◌≤◌, Bool, true, false, not, cond, ◌&&◌, ◌||◌, List, [], ◌∷◌, Option, Some, None, inl, inr, refl, sym, ◌∙◌, ap, subst, arith}
use Rattle.std.specs.List.{count_by, list_all}
use Rattle.std.proofs.lemmas.Bool.{false≢true}
use Rattle.html_names.specs.declared.tag.Tag.{Tag}
use Rattle.html_names.specs.declared.tag.Tag.TheVariants as tag
use Rattle.html_names.specs.Names.{name_of, tag_of}
use Rattle.html_names.specs.Sets.{is_template}
use Rattle.html_names.specs.Tags.{is_same}
use Rattle.html_arena.specs.declared.arena.Limits.{Limits}
use Rattle.html_arena.specs.declared.data.Origin.TheVariants.{Implied}
use Rattle.html_arena.specs.Data.{is_clone_in, tag_in}
use Rattle.html_arena.specs.Tree.{Tree as Nodes, empty_tree}
use Rattle.html_tokens.specs.declared.token.TokenKind.{TokenKind}
use Rattle.html_ledger.specs.declared.fate.Cause.{Cause}
use Rattle.html_ledger.specs.declared.fate.Fate.{Fate}
use Rattle.html_ledger.specs.declared.setting.Setting.{Setting}
use Rattle.html_ledger.specs.declared.setting.Setting.TheVariants.{Document, Fragment}
use Rattle.html_ledger.specs.Settings.{is_foreign_context}
use Rattle.html_open.proofs.Ordering.{has-head}
use Rattle.html_construction.specs.Beginning.{IsFirst, first_state}
use Rattle.html_construction.proofs.Weighing.{same-tag}
use Rattle.html_builder.specs.Built.{IsBuiltByRules}
use Rattle.html_ledger.specs.declared.symbol.Symbol.{Symbol}
use Rattle.html_ledger.specs.declared.symbol.Symbol.TheVariants as symbol
use Rattle.html_ledger.specs.Flags.{may_select, must_drop}
use Rattle.html_ledger.specs.Symbols.{symbol_of}
use Rattle.html_tree.specs.OpenTags.{open_tags}
use Rattle.html_construction.specs.declared.mode.Mode.{Mode}
use Rattle.html_construction.specs.declared.mode.Mode.TheVariants as mode
use Rattle.html_construction.specs.Modes.{is_of_frames, is_of_selects}
use Rattle.html_construction.specs.Plans.{Again, Do, Ending, Over, Plan}
use Rattle.html_construction.specs.States.{State}
use Rattle.html_construction.specs.Words.{Becomes, Switch}
use Rattle.html_modes.specs.Dispatching.{Constructs, Entries, IsEntry, begun, is_astray, is_unfounded, last, next, settled}
use Rattle.html_modes.specs.Guards.{is_droppable, is_table_text}
use Rattle.html_modes.specs.RuleForms.{again, ending, ignored}
use Rattle.html_modes.specs.Rules.{plan}
use Rattle.html_laws.specs.Likeness.{core}
use Rattle.html_laws.specs.Reads.{ReadsNoTag, is_start}
use Rattle.html_laws.proofs.Beginnings.{first-core, first-native}
use Rattle.html_laws.proofs.Chains.{both, cases, join, not-true}
use Rattle.html_laws.proofs.Entering.{unless}
use Rattle.html_laws.proofs.Faces.{Adds, Face, blank-good, element_face, faces, is_tagged, longer, made-adds, new-face, rest_faces, tally, tally-labels}
use Rattle.html_laws.proofs.Framing.{framed, is_over, runs-framed}
use Rattle.html_laws.proofs.Grounds.{Ground, bodies, is_inner, name-bodies, name-tagged, of_name}
use Rattle.html_laws.proofs.Inners.{framed-core, inner-core, need-self, outer-core, phase-core, rest-settles, rest_view, runs-inner}
use Rattle.html_laws.proofs.Insides.{Anything, Need, Rows, Sections, Tables, Templates}
use Rattle.html_laws.proofs.Judged.{char-steady, frame-framed, frame-text-framed, inner-sound, kept-sound, kept_view, outer-exact, outer-text-exact, text-sound, text_view}
use Rattle.html_laws.proofs.Judging.{Know, Nothing, Plain, View, is_plainly, is_text_mode, may_rest, need_of, serves, sound, suffices, waits}
use Rattle.html_laws.proofs.Models.{Knows, Models, implied-name, inside-enough}
use Rattle.html_laws.proofs.Natives.{IsNative, native-becomes}
use Rattle.html_laws.proofs.Nesting.{apart-body, is_apart}
use Rattle.html_laws.proofs.Outers.{exact, runs-outer}
use Rattle.html_laws.proofs.Phases.{IsEnd, IsFramed, IsInner, IsOuter, Phase, Placed, holds_text, inner-waits, is_outer, plainly_placed, shape, text_placed}
use Rattle.html_laws.proofs.Refusing.{entries-native, entry-follows, entry-native, native-begun, native_plan, of-entry}
use Rattle.html_laws.proofs.Words.{becomes-core}

-- BETWEEN CALLS

ground-begun : (a : State) → Ground a → Ground (begun a)
ground-begun a g = record { held = g.held; formed = g.formed; templates = g.templates; context = g.context; refused = g.refused }

models-begun : (s : View) (a : State) → Models s a → Models s (begun a)
models-begun s a m = record { hook = m.hook; low = m.low; foot = m.foot; inside = m.inside; knows = m.knows; mode_is = m.mode_is; original_is = m.original_is; ground = ground-begun a m.ground; few = m.few; before = m.before }

phase-begun : (a : State) → Phase a → Phase (begun a)
phase-begun a (inl f) = inl (record { ground = ground-begun a f.ground; few = f.few; framed = f.framed; mode_is = f.mode_is })
phase-begun a (inr (inl o)) = inr (inl (record { ground = ground-begun a o.ground; none = o.none; placed = o.placed }))
phase-begun a (inr (inr i)) = inr (inr (record { view = i.view; models = models-begun i.view a i.models; settled = i.settled }))

-- IN A CALL

-- of a token where a frameset was made: no start tag in text, and none that a mode of frames would not have begun with
record IsHandled (y : Symbol) (a : State) : Type 0 where
  no_tag : a.mode ≡ mode.Text → is_start y ≡ false
  began : is_of_frames a.mode ≡ true → (is_of_frames a.began ≡ true) ⊎ (is_droppable y ≡ false)

abbrev IsCalled : Symbol → State → Type 0
IsCalled y a = (IsFramed a × IsHandled y a) ⊎ (IsOuter a ⊎ IsInner a)

handled-core : (y : Symbol) (a b : State) → core b ≡ core a → IsHandled y a → IsHandled y b
handled-core y a b e k = record {
  no_tag = λ h. k.no_tag (sym (ap (λ (v : State). v.mode) e) ∙ h);
  began = λ h. subst (λ m. (is_of_frames m ≡ true) ⊎ (is_droppable y ≡ false)) (sym (ap (λ (v : State). v.began) e)) (k.began (sym (ap (λ (v : State). is_of_frames v.mode) e) ∙ h));
}

called-becomes : (y : Symbol) (m b : State) → Becomes m b → IsCalled y m → IsCalled y b
called-becomes y m b i (inl k) = (let e = becomes-core m b i in inl (framed-core m b e k.0, handled-core y m b e k.1))
called-becomes y m b i (inr (inl k)) = inr (inl (outer-core m b (becomes-core m b i) k))
called-becomes y m b i (inr (inr k)) = inr (inr (inner-core m b (becomes-core m b i) k))

-- PLANS OF ENTRIES

-- a token that is not astray
entry-by : (f : Plan → Bool) (a : State) (y : Symbol) → ((c : Cause) → f (ignored c) ≡ true) → is_astray a y ≡ false → f (plan a.mode y) ≡ true → f (native_plan a y) ≡ true
entry-by f a y i s k = by (is_table_text a.mode) (must_drop a.ledger.history y) (is_astray a y) s
  where
    by : (b : Bool) (d : Option Cause) (x : Bool) → x ≡ false → f (cond b (plan a.mode y) (unless d (cond x (Do (Switch mode.InBody) again) (plan a.mode y)))) ≡ true
    by true d x e = k
    by false (Some c) x e = i c
    by false None true e = absurd (false≢true (sym e))
    by false None false e = k

-- WHERE A FRAMESET WAS MADE

frames-select : (m : Mode) → is_of_frames m ≡ true → is_of_selects m ≡ false
frames-select mode.InFrameset h = refl
frames-select mode.AfterFrameset h = refl
frames-select mode.AfterAfterFrameset h = refl
frames-select m h = absurd (false≢true h)

frames-waits : (m : Mode) → is_of_frames m ≡ true → waits m ≡ false
frames-waits mode.InFrameset h = refl
frames-waits mode.AfterFrameset h = refl
frames-waits mode.AfterAfterFrameset h = refl
frames-waits m h = absurd (false≢true h)

abbrev no_droppable : State → Symbol → Bool
no_droppable a y = cond (is_of_selects a.mode) (not (is_of_selects a.began) || not (may_select a.ledger.history)) (cond (is_of_frames a.mode) (not (is_of_frames a.began) || not a.ledger.history.frameset) false)

-- neither in a mode of selects nor in one of frames
never-astray : (a : State) (y : Symbol) → is_of_selects a.mode ≡ false → is_of_frames a.mode ≡ false → is_astray a y ≡ false
never-astray a y h k = by (is_droppable y) (is_of_selects a.mode) (is_of_frames a.mode) h k
  where
    by : (b c d : Bool) → c ≡ false → d ≡ false → cond b (cond c (not (is_of_selects a.began) || not (may_select a.ledger.history)) (cond d (not (is_of_frames a.began) || not a.ledger.history.frameset) false)) false ≡ false
    by true false false h k = refl
    by false false false h k = refl
    by b true d h k = absurd (false≢true (sym h))
    by b false true h k = absurd (false≢true (sym k))

frames-astray : (a : State) (y : Symbol) → is_of_frames a.mode ≡ true → a.ledger.history.frameset ≡ true → (is_of_frames a.began ≡ true) ⊎ (is_droppable y ≡ false) → is_astray a y ≡ false
frames-astray a y h f (inr n) = ap (λ b. cond b (no_droppable a y) false) n
frames-astray a y h f (inl n) = by (is_droppable y) (is_of_selects a.mode) (is_of_frames a.began) a.ledger.history.frameset (frames-select a.mode h) h n f
  where
    by : (b c d g : Bool) → c ≡ false → is_of_frames a.mode ≡ true → d ≡ true → g ≡ true → cond b (cond c (not (is_of_selects a.began) || not (may_select a.ledger.history)) (cond (is_of_frames a.mode) (not d || not g) false)) false ≡ false
    by true false true true x z n f = ap (λ v. cond v false false) z
    by false c d g x z n f = refl
    by true true d g x z n f = absurd (false≢true (sym x))
    by true false false g x z n f = absurd (false≢true n)
    by true false true false x z n f = absurd (false≢true f)

-- WHERE THE BODY IS OPEN

-- a mode that is left for no other, text, or text of a table
data IsNormal (a : State) : Type 0 where
  resting : (m : Mode) → is_inner m ≡ true → Models (rest_view m) a → IsNormal a
  in_text : (o : Mode) → is_inner o ≡ true → Models (text_view o) a → IsNormal a
  in_kept : (o : Mode) → is_inner o ≡ true → Models (kept_view o) a → IsNormal a

-- a view that says less
models-less : (s k : View) (a : State) → Models s a → suffices s.need k.need ≡ true → (k.know ≡ Nothing) ⊎ (k.know ≡ s.know) → s.mode ≡ k.mode → (waits k.mode ≡ true → s.original ≡ k.original) → Models k a
models-less s k a m e n i o = record {
  hook = m.hook;
  low = m.low;
  foot = m.foot;
  inside = inside-enough s.need k.need m.hook m.low (open_tags a.tree) e m.inside;
  knows = elim n [ inl x ↦ subst (λ v. Knows v a.tree.stack a.tree.tree a.ledger.history.template) (sym x) tt | inr x ↦ subst (λ v. Knows v a.tree.stack a.tree.tree a.ledger.history.template) (sym x) m.knows ];
  mode_is = m.mode_is ∙ i;
  original_is = λ w. m.original_is (ap waits i ∙ w) ∙ o w;
  ground = m.ground;
  few = m.few;
  before = m.before;
}

normal : (a : State) → IsInner a → IsNormal a
normal a i = by i.view.mode refl (i.settled)
  where
    s : View
    s = i.view

    rest : (m : Mode) → i.view.mode ≡ m → (is_inner m && suffices i.view.need (need_of m)) ≡ true → IsNormal a
    rest m e h = (let c = both (is_inner m) (suffices i.view.need (need_of m)) h in resting m c.0 (models-less i.view (rest_view m) a i.models c.1 (inl refl) e (λ w. absurd (false≢true (sym (inner-waits m c.0) ∙ w)))))

    plain : (k : Know) → is_plainly k ≡ true → Plain ≡ k
    plain Plain h = refl
    plain k h = absurd (false≢true h)

    by : (m : Mode) → i.view.mode ≡ m → cond (waits i.view.mode) (is_inner i.view.original && (suffices i.view.need (need_of i.view.original) && (not (is_text_mode i.view.mode) || is_plainly i.view.know))) (is_inner i.view.mode && suffices i.view.need (need_of i.view.mode)) ≡ true → IsNormal a
    by m e h = at m e (subst (λ v. cond (waits v) (is_inner i.view.original && (suffices i.view.need (need_of i.view.original) && (not (is_text_mode v) || is_plainly i.view.know))) (is_inner v && suffices i.view.need (need_of v)) ≡ true) e h)
      where
        at : (m : Mode) → i.view.mode ≡ m → cond (waits m) (is_inner i.view.original && (suffices i.view.need (need_of i.view.original) && (not (is_text_mode m) || is_plainly i.view.know))) (is_inner m && suffices i.view.need (need_of m)) ≡ true → IsNormal a
        at mode.Text e h =
            let c = both (is_inner i.view.original) (suffices i.view.need (need_of i.view.original) && (false || is_plainly i.view.know)) h in
            let d = both (suffices i.view.need (need_of i.view.original)) (false || is_plainly i.view.know) c.1 in
            in_text i.view.original c.0 (models-less i.view (text_view i.view.original) a i.models d.0 (inr (plain i.view.know d.1)) e (λ w. refl))
        at mode.InTableText e h =
            let c = both (is_inner i.view.original) (suffices i.view.need (need_of i.view.original) && (true || is_plainly i.view.know)) h in
            let d = both (suffices i.view.need (need_of i.view.original)) (true || is_plainly i.view.know) c.1 in
            in_kept i.view.original c.0 (models-less i.view (kept_view i.view.original) a i.models d.0 (inl refl) e (λ w. refl))
        at m e h = rest m e h

suffices-any : (f : Need) → suffices f Anything ≡ true
suffices-any Anything = refl
suffices-any Tables = refl
suffices-any Sections = refl
suffices-any Rows = refl
suffices-any Templates = refl

text-rests : (o : Mode) → is_inner o ≡ true → may_rest (text_view o) ≡ true
text-rests o h = join (is_inner o) (suffices (need_of o) (need_of o) && (false || true)) h (join (suffices (need_of o) (need_of o)) (false || true) (need-self (need_of o)) refl)

kept-rests : (o : Mode) → is_inner o ≡ true → may_rest (kept_view o) ≡ true
kept-rests o h = join (is_inner o) (suffices (need_of o) (need_of o) && (true || false)) h (join (suffices (need_of o) (need_of o)) (true || false) (need-self (need_of o)) refl)

-- the token goes on in the mode in body
switch-sound : (y : Symbol) (s : View) → sound plan 4 y s (Do (Switch mode.InBody) again) ≡ true
switch-sound y s = by (suffices s.need Anything) (suffices-any s.need)
  where
    by : (b : Bool) → b ≡ true → ((true && (b || serves s.know Anything)) && true) ≡ true
    by true e = refl
    by false e = absurd (false≢true e)

-- MODES BEFORE THE BODY

outer-select : (m : Mode) → is_outer m ≡ true → (is_of_selects m ≡ false) × (is_of_frames m ≡ false) × (waits m ≡ false)
outer-select mode.Initial h = (refl, refl, refl)
outer-select mode.BeforeHtml h = (refl, refl, refl)
outer-select mode.BeforeHead h = (refl, refl, refl)
outer-select mode.InHead h = (refl, refl, refl)
outer-select mode.InHeadNoscript h = (refl, refl, refl)
outer-select mode.AfterHead h = (refl, refl, refl)
outer-select m h = absurd (false≢true h)

outer-ignored : (y : Symbol) (m : Mode) (c : Cause) → is_outer m ≡ true → exact plan 4 y m mode.InBody (shape m) (ignored c) ≡ true
outer-ignored y mode.Initial c h = refl
outer-ignored y mode.BeforeHtml c h = refl
outer-ignored y mode.BeforeHead c h = refl
outer-ignored y mode.InHead c h = refl
outer-ignored y mode.InHeadNoscript c h = refl
outer-ignored y mode.AfterHead c h = refl
outer-ignored y m c h = absurd (false≢true h)

outer-text-ignored : (y : Symbol) (o : Mode) (g : Tag) (c : Cause) → holds_text o ≡ true → exact plan 4 y mode.Text o (g ∷ shape o) (ignored c) ≡ true
outer-text-ignored y mode.InHead g c h = refl
outer-text-ignored y mode.InHeadNoscript g c h = refl
outer-text-ignored y mode.AfterHead g c h = refl
outer-text-ignored y m g c h = absurd (false≢true h)

frame-ignored : (y : Symbol) (m : Mode) (c : Cause) → is_of_frames m ≡ true → framed plan 4 y m mode.InBody (ignored c) ≡ true
frame-ignored y mode.InFrameset c h = refl
frame-ignored y mode.AfterFrameset c h = refl
frame-ignored y mode.AfterAfterFrameset c h = refl
frame-ignored y m c h = absurd (false≢true h)

frame-text-ignored : (y : Symbol) (o : Mode) (c : Cause) → is_of_frames o ≡ true → framed plan 4 y mode.Text o (ignored c) ≡ true
frame-text-ignored y mode.InFrameset c h = refl
frame-text-ignored y mode.AfterFrameset c h = refl
frame-text-ignored y mode.AfterAfterFrameset c h = refl
frame-text-ignored y m c h = absurd (false≢true h)

-- ONE ENTRY

-- where a frameset was made the token is done with, or none that a mode of frames ignores
abbrev IsEnded : Symbol → Ending → State → Type 0
IsEnded y e z = (IsFramed z × ((is_over e || not (is_droppable y)) ≡ true)) ⊎ (IsOuter z ⊎ IsInner z)

of-end : (y : Symbol) (e : Ending) (z : State) → IsEnd e z → IsEnded y e z
of-end y e z (inl k) = inl (k.0, subst (λ v. (is_over v || not (is_droppable y)) ≡ true) (sym k.1) refl)
of-end y e z (inr k) = inr k

module _ (t : TokenKind) where
  abbrev y : Symbol
  y = symbol_of t

  entry-ended : (o : _) (a z : State) → a.ledger.history.foreign ≡ false → IsCalled y a → IsEntry o y t a z → IsEnded y (ending o) z
  entry-ended o a z n (inl k) e = elim (k.0).mode_is [
    | inl h ↦ (let f = runs-framed plan 4 a.mode mode.InBody (native_plan a y) t a (ending o) z
        (entry-by (framed plan 4 y a.mode mode.InBody) a y (λ c. frame-ignored y a.mode c h) (frames-astray a y h (k.0).framed ((k.1).began h)) (frame-framed a.mode y h))
        (record { ground = (k.0).ground; few = (k.0).few; framed = (k.0).framed; mode_is = refl; original_is = λ w. absurd (false≢true (sym (frames-waits a.mode h) ∙ w)) })
        (entry-follows o y t a z n e) in inl (f.state, f.done))
    | inr h ↦ (let f = runs-framed plan 4 mode.Text a.original (native_plan a y) t a (ending o) z
        (entry-by (framed plan 4 y mode.Text a.original) a y (λ c. frame-text-ignored y a.original c h.1)
        (never-astray a y (ap is_of_selects h.0) (ap is_of_frames h.0))
        (subst (λ v. framed plan 4 y mode.Text a.original (plan v y) ≡ true) (sym h.0) (frame-text-framed a.original y h.1 ((k.1).no_tag h.0))))
        (record { ground = (k.0).ground; few = (k.0).few; framed = (k.0).framed; mode_is = h.0; original_is = λ w. refl })
        (entry-follows o y t a z n e) in inl (f.state, f.done))
  ]
  entry-ended o a z n (inr (inl k)) e = of-end y (ending o) z (by a.mode a.original (open_tags a.tree) refl refl refl k.placed)
    where
      by : (m p : Mode) (gs : List Tag) → a.mode ≡ m → a.original ≡ p → open_tags a.tree ≡ gs → Placed m p gs → IsEnd (ending o) z
      by _ _ _ i j d (plainly_placed m p gs h c) =
          let w = outer-select m h in
          runs-outer plan char-steady 4 m mode.InBody (shape m) (native_plan a y) t a (ending o) z
          (entry-by (exact plan 4 y m mode.InBody (shape m)) a y (λ x. outer-ignored y m x h) (never-astray a y (ap is_of_selects i ∙ w.0) (ap is_of_frames i ∙ w.1)) (subst (λ v. exact plan 4 y m mode.InBody (shape m) (plan v y) ≡ true) (sym i) (outer-exact m y h)))
          (record { ground = k.ground; none = k.none; mode_is = i; original_is = λ x. absurd (false≢true (sym w.2 ∙ x)); tags_are = d ∙ c })
          (entry-follows o y t a z n e)
      by _ _ _ i j d (text_placed p g gs h c) =
          runs-outer plan char-steady 4 mode.Text p (g ∷ shape p) (native_plan a y) t a (ending o) z
          (entry-by (exact plan 4 y mode.Text p (g ∷ shape p)) a y (λ x. outer-text-ignored y p g x h) (never-astray a y (ap is_of_selects i) (ap is_of_frames i)) (subst (λ v. exact plan 4 y mode.Text p (g ∷ shape p) (plan v y) ≡ true) (sym i) (outer-text-exact p g y h)))
          (record { ground = k.ground; none = k.none; mode_is = i; original_is = λ x. j; tags_are = d ∙ c })
          (entry-follows o y t a z n e)
  entry-ended o a z n (inr (inr k)) e = of-end y (ending o) z (by (normal a k))
    where
      run : (s : View) → Models s a → ((c : Cause) → sound plan 4 y s (ignored c) ≡ true) → sound plan 4 y s (plan a.mode y) ≡ true → IsEnd (ending o) z
      run s m i h = runs-inner plan char-steady 4 s (native_plan a y) t a (ending o) z (of-entry (sound plan 4 y s) a y i (switch-sound y s) h) m (entry-follows o y t a z n e)

      by : IsNormal a → IsEnd (ending o) z
      by (resting m h k) = run (rest_view m) k (λ c. rest-settles m h) (subst (λ v. sound plan 4 y (rest_view m) (plan v y) ≡ true) (sym k.mode_is) (inner-sound m y h))
      by (in_text p h k) = run (text_view p) k (λ c. text-rests p h) (subst (λ v. sound plan 4 y (text_view p) (plan v y) ≡ true) (sym k.mode_is) (text-sound p y h))
      by (in_kept p h k) = run (kept_view p) k (λ c. kept-rests p h) (subst (λ v. sound plan 4 y (kept_view p) (plan v y) ≡ true) (sym k.mode_is) (kept-sound p y h))

  -- ALL ENTRIES OF A CALL

  entry-called : (z : State) → IsEnded y Again z → IsCalled y z
  entry-called z (inl f) = inl (f.0, record { no_tag = λ h. not-start (symbol_of t) (undroppable f.1); began = λ h. inr (undroppable f.1) })
    where
      undroppable : (false || not (is_droppable (symbol_of t))) ≡ true → is_droppable (symbol_of t) ≡ false
      undroppable h = not-true (is_droppable (symbol_of t)) h

      not-start : (s : Symbol) → is_droppable s ≡ false → is_start s ≡ false
      not-start (symbol.Start g) h = absurd (false≢true (sym h))
      not-start s h = refl
  entry-called z (inr f) = inr f

  entry-phase : (z : State) → IsEnded y Over z → Phase z
  entry-phase z (inl f) = inl f.0
  entry-phase z (inr f) = inr f

-- the mode that is set stays, or is in body
settled-phase : (c : State) → Phase c → Phase (settled c)
settled-phase c k = by (is_unfounded c) refl k
  where
    moved : Bool → State
    moved b = record c { mode = cond b mode.InBody c.mode }

    not-unfounded : (d e f : Bool) → d ≡ false → (e ≡ true → f ≡ true) → cond d (not (may_select c.ledger.history)) (cond e (not f) false) ≡ false
    not-unfounded false true true x z = refl
    not-unfounded false false f x z = refl
    not-unfounded false true false x z = absurd (false≢true (z refl))
    not-unfounded true e f x z = absurd (false≢true (sym x))

    framed-is : IsFramed c → is_unfounded c ≡ false
    framed-is k = elim k.mode_is [
      | inl h ↦ not-unfounded (is_of_selects c.mode) (is_of_frames c.mode) c.ledger.history.frameset (frames-select c.mode h) (λ x. k.framed)
      | inr h ↦ not-unfounded (is_of_selects c.mode) (is_of_frames c.mode) c.ledger.history.frameset (ap is_of_selects h.0) (λ x. k.framed)
    ]

    outer-is : IsOuter c → is_unfounded c ≡ false
    outer-is k = at c.mode refl k.placed
      where
        at : (m : Mode) → c.mode ≡ m → Placed m c.original (open_tags c.tree) → is_unfounded c ≡ false
        at m e p = (let w = modes m p in not-unfounded (is_of_selects c.mode) (is_of_frames c.mode) c.ledger.history.frameset (ap is_of_selects e ∙ w.0) (λ x. absurd (false≢true (sym w.1 ∙ sym (ap is_of_frames e) ∙ x))))
          where
            modes : (m : Mode) → Placed m c.original (open_tags c.tree) → (is_of_selects m ≡ false) × (is_of_frames m ≡ false)
            modes _ (plainly_placed m o gs h d) = ((outer-select m h).0, (outer-select m h).1)
            modes _ (text_placed o g gs h d) = (refl, refl)

    same-ground : (b : Bool) → Ground c → Ground (moved b)
    same-ground b g = record { held = g.held; formed = g.formed; templates = g.templates; context = g.context; refused = g.refused }

    body : (s : View) → Models s c → Models (rest_view mode.InBody) (moved true)
    body s m = record {
      hook = m.hook;
      low = m.low;
      foot = m.foot;
      inside = inside-enough s.need Anything m.hook m.low (open_tags c.tree) (suffices-any s.need) m.inside;
      knows = tt;
      mode_is = refl;
      original_is = λ w. absurd (false≢true w);
      ground = same-ground true m.ground;
      few = m.few;
      before = m.before;
    }

    as-it-was : (s : View) → Models s c → Models s (moved false)
    as-it-was s m = record { hook = m.hook; low = m.low; foot = m.foot; inside = m.inside; knows = m.knows; mode_is = m.mode_is; original_is = m.original_is; ground = same-ground false m.ground; few = m.few; before = m.before }

    by : (b : Bool) → is_unfounded c ≡ b → Phase c → Phase (moved b)
    by true e (inl k) = absurd (false≢true (sym (framed-is k) ∙ e))
    by false e (inl k) = inl (record { ground = same-ground false k.ground; few = k.few; framed = k.framed; mode_is = k.mode_is })
    by true e (inr (inl k)) = absurd (false≢true (sym (outer-is k) ∙ e))
    by false e (inr (inl k)) = inr (inl (record { ground = same-ground false k.ground; none = k.none; placed = k.placed }))
    by true e (inr (inr k)) = inr (inr (record { view = rest_view mode.InBody; models = body k.view k.models; settled = refl }))
    by false e (inr (inr k)) = inr (inr (record { view = k.view; models = as-it-was k.view k.models; settled = k.settled }))

module _ (t : TokenKind) where
  entries-phase : (a z : State) → Entries (symbol_of t) t a z → IsNative a → IsCalled (symbol_of t) a → Phase z
  entries-phase _ _ (next a b c z i j r) g k =
      let h = native-becomes a b i g in
      let n = called-becomes (symbol_of t) a b i k in
      entries-phase c z r (entry-native (symbol_of t) t _ b c h j) (entry-called t c (entry-ended t _ b c h.none n j))
  entries-phase _ _ (last a b c z i j e) g k =
      let h = native-becomes a b i g in
      let n = called-becomes (symbol_of t) a b i k in
      subst Phase (sym e) (settled-phase c (entry-phase t c (entry-ended t _ b c h.none n j)))

-- where a call begins
called-begun : (y : Symbol) (a : State) → (a.mode ≡ mode.Text → is_start y ≡ false) → Phase (begun a) → IsCalled y (begun a)
called-begun y a h (inl k) = inl (k, record { no_tag = h; began = λ x. inl x })
called-begun y a h (inr k) = inr k

pub constructs-phase : (ts : List TokenKind) (a z : State) (c : Constructs ts a z) → ReadsNoTag ts a z c → IsNative a → Phase (begun a) → Phase (begun z)
constructs-phase [] a z c r g k = subst Phase c k
constructs-phase (t ∷ ts) a z c r g k =
    let h = native-begun a g in
    constructs-phase ts c.0 z c.2 r.1 (entries-native (symbol_of t) t (begun a) c.0 c.1 h) (phase-begun c.0 (entries-phase t (begun a) c.0 c.1 h (called-begun (symbol_of t) a r.0 k)))

-- A PAGE

pub most-one : (a : State) → Phase a → bodies a ≤ 1
most-one a (inl k) = k.few
most-one a (inr (inl k)) = (let e = k.none in omega (arith, e))
most-one a (inr (inr k)) = k.models.few

document-ground : (l : Option Limits) (q : Bool) → Ground (begun (first_state Document l q false 0))
document-ground l q = record {
  held = record { stacked = λ x h. absurd (false≢true h); listed = λ x h. absurd (false≢true h); tagged = blank-good };
  formed = λ x e. absurd (none-some x e);
  templates = refl;
  context = refl;
  refused = refl;
}
  where
    none-some : (x : ℕ) → None ≡ Some x → ⊥
    none-some x e = cc

module _ (in_form : Bool) (l : Option Limits) (q : Bool) where
  abbrev first : State
  first = begun (first_state (Fragment tag.Html in_form) l q false 0)

  root : Adds (empty_tree l) first.tree.tree (of_name (name_of tag.Html))
  root = record { are = (made-adds (empty_tree l) (name_of tag.Html) [] Implied).are }

  html-name : tag_of (name_of tag.Html) ≡ tag.Html
  html-name = implied-name tag.Html refl

  fragment-outer : IsOuter first
  fragment-outer = record {
    ground = record {
      held = record {
        stacked = λ x h. elim (has-head x 0 [] h) [ inl e ↦ (let k = longer (empty_tree l) first.tree.tree (of_name (name_of tag.Html)) root in omega (arith, e, k)) | inr e ↦ absurd (false≢true e) ];
        listed = λ x h. absurd (false≢true h);
        tagged = ap (list_all is_tagged) root.are ∙ name-tagged (name_of tag.Html);
      };
      formed = λ x e. absurd (none-some x e);
      templates = refl;
      context = refl;
      refused = refl;
    };
    none = ap (tally tag.Body) root.are ∙ name-bodies (name_of tag.Html) (ap (λ g. is_same g tag.Body) html-name);
    placed = plainly_placed mode.BeforeHead mode.Initial (open_tags first.tree) refl (ap (λ g. g ∷ []) (ap (λ (f : Face). f.tag) (new-face (empty_tree l) first.tree.tree (element_face (name_of tag.Html)) (rest_faces (is_template (tag_of (name_of tag.Html)))) root) ∙ html-name));
  }
    where
      none-some : (x : ℕ) → None ≡ Some x → ⊥
      none-some x e = cc

-- a document, or a fragment in an html element
abbrev is_whole : Setting → Bool
is_whole Document = true
is_whole (Fragment context in_form) = is_same context tag.Html

state-phase : (s : Setting) (l : Option Limits) (q : Bool) → is_whole s ≡ true → Phase (begun (first_state s l q false 0))
state-phase Document l q h = inr (inl (record { ground = document-ground l q; none = refl; placed = plainly_placed mode.Initial mode.Initial [] refl refl }))
state-phase (Fragment context in_form) l q h = subst (λ g. Phase (begun (first_state (Fragment g in_form) l q false 0))) (sym (same-tag context tag.Html h)) (inr (inl (fragment-outer in_form l q)))

pub first-phase : (s : Setting) (l : Option Limits) (a : State) → is_whole s ≡ true → IsFirst s l a → a.parses_foreign ≡ false → Phase (begun a)
first-phase s l a h k f =
    let e = first-core s l a k ∙ ap (λ v. core (begun (first_state s l a.quirks v 0))) f in
    phase-core (begun (first_state s l a.quirks false 0)) (begun a) e (state-phase s l a.quirks h)

-- the bodies of such a page
whole-body : (s : Setting) (l : Option Limits) (tokens : List TokenKind) (fates : List Fate) (t : Nodes) → is_whole s ≡ true → is_foreign_context s ≡ false → (b : IsBuiltByRules s l false tokens fates t) → ReadsNoTag tokens b.first b.last b.constructs
    → count_by (λ d. not (is_clone_in d) && is_same (tag_in d) tag.Body) t.labels ≤ 1
whole-body s l tokens fates t h c b r =
    let k = first-native s l b.first c b.begins b.foreign_is in
    let p = constructs-phase tokens b.first b.last b.constructs r k (first-phase s l b.first h b.begins b.foreign_is) in
    let m = most-one (begun b.last) p in
    let e = ap (λ (v : Nodes). tally tag.Body (faces v)) b.tree_is in
    let n = tally-labels tag.Body t.labels in
    omega (arith, m, e, n)

-- the bodies of a page of tokens
pub built-body : (s : Setting) (l : Option Limits) (tokens : List TokenKind) (fates : List Fate) (t : Nodes) → is_foreign_context s ≡ false → (b : IsBuiltByRules s l false tokens fates t) → ReadsNoTag tokens b.first b.last b.constructs
    → count_by (λ d. not (is_clone_in d) && is_same (tag_in d) tag.Body) t.labels ≤ 1
built-body s l tokens fates t c b r = elim (cases (is_whole s)) [
  | inl h ↦ whole-body s l tokens fates t h c b r
  | inr h ↦ apart-body s l tokens fates t (apart s h) c b
]
  where
    apart : (s : Setting) → is_whole s ≡ false → is_apart s ≡ true
    apart Document h = absurd (false≢true (sym h))
    apart (Fragment context in_form) h = ap not h
