-- Runs of plans where the body is open, or a template before it.
use Rattle.std.proofs.Common.{◌≡◌, ◌⊎◌, ◌≤◌, ℕ, zero, suc, ◌-◌, Bool, true, false, not, cond, eqb, ◌&&◌, ◌||◌, if◌then◌else◌, List, [], ◌∷◌, ◌++◌, length, map, reverse, nat_lt, slice_index, unwrap_or, Option, Some, None, is_some, inl, inr, refl, sym, ◌∙◌, ap, subst, arith}
use Rattle.std.specs.List.{list_any}
use Rattle.std.specs.Prelude.{slice_get}
use Rattle.std.proofs.Math.Seq.{get_or-append_seam}
use Rattle.std.proofs.lemmas.Bool.{false≢true}
use Rattle.std.proofs.lemmas.Bool.Decides.{nat_tests}
use Rattle.std.proofs.lemmas.List.{length-append, reverse-append, reverse-reverse}
use Rattle.html_names.specs.declared.tag.Tag.{Tag}
use Rattle.html_names.specs.declared.tag.Tag.TheVariants as tag
use Rattle.html_names.specs.Groups.{is_table_part}
use Rattle.html_names.specs.Sets.{is_cell, is_formatting, is_row_context, is_section_context, is_table_context, is_template}
use Rattle.html_names.specs.Names.{tag_of}
use Rattle.html_names.specs.Tags.{is_same}
use Rattle.html_arena.specs.Siblings.{last_of, or_else}
use Rattle.html_arena.specs.Tree.{named, tag_at}
use Rattle.html_tokens.specs.declared.token.TokenKind.{TokenKind}
use Rattle.html_tokens.specs.declared.token.TokenKind.TheVariants as kind
use Rattle.html_ledger.specs.declared.symbol.Symbol.TheVariants as symbol
use Rattle.html_ledger.specs.Flags.{may_misplace_tag}
use Rattle.html_ledger.specs.Symbols.{starts, symbol_of}
use Rattle.html_open.specs.Lists.{above, last_index}
use Rattle.html_tree.specs.declared.groups.Group.{Group}
use Rattle.html_tree.specs.declared.groups.Group.TheVariants as group
use Rattle.html_tree.specs.declared.groups.Stop.{Stop as Ends}
use Rattle.html_tree.specs.declared.groups.Stop.TheVariants as stop
use Rattle.html_tree.specs.declared.groups.TableContext.{TableContext}
use Rattle.html_tree.specs.declared.groups.TableContext.TheVariants as context
use Rattle.html_tree.specs.Closing.{before_index, closed_through}
use Rattle.html_tree.specs.Groups.{in_group, is_context}
use Rattle.html_tree.specs.OpenTags.{open_tags, tags_down}
use Rattle.html_tree.specs.Searching.{found, is_member, stops as stops_at}
use Rattle.html_tree.specs.Seats.{seat_at, sits_on}
use Rattle.html_tree.proofs.OpenTags.{current-first, first-tag, push-tags}
use Rattle.html_construction.specs.declared.mode.Mode.{Mode}
use Rattle.html_construction.specs.declared.mode.Mode.TheVariants as mode
use Rattle.html_construction.specs.Modes.{is_of_frames}
use Rattle.html_construction.specs.Plans.{Ask, Do, Each, Ending, Over, Plan, Rules, Runs, Stop, adopts, asks, closes_link, does, does_each, ends_each, fosters, goes_by, reconstructs, settles, stops}
use Rattle.html_construction.specs.Resetting.{outermost_mode, reset_mode, root_mode}
use Rattle.html_construction.specs.States.{State}
use Rattle.html_construction.specs.Words.{Becomes, CanPop, CanReplaceBody, ClearToMarker, CloseThrough, Drop, End, Finds, HasBody, HasSeat, HasTemplate, IsOptionInGroup, MayMisplace, ParsesForeign, PopTemplate, Query, ReplaceBody, Reset, Switch, Word, after, answer, current_or_other, with_kept}
use Rattle.html_construction.proofs.Planned.{followed}
use Rattle.html_laws.proofs.Tags.{of-all}
use Rattle.html_construction.proofs.Weighing.{same-tag}
use Rattle.html_laws.proofs.Chains.{chain, chain-end, any-append, both, either, join, not-true, right}
use Rattle.html_laws.proofs.Cuts.{HasCut, any-tags, before-cut}
use Rattle.html_laws.proofs.Insides.{Rows, Sections, Tables, Templates, Anything, Footing, IsInside, Need, on_body, on_head, on_template}
use Rattle.html_laws.proofs.Grounds.{Ground, Step, bodies, grows, is_inner, spares, step-bodies, step-ground, word-step}
use Rattle.html_laws.proofs.Judging.{suffices, is_calm_word, is_text_mode, Bare, Found, Know, Made, Nothing, Of, On, Plain, Seat, Top, View, closes_template, denied, ends_template, finds_near, frames, is_bounded, is_calm, is_frameset_mode, is_on, is_refused, is_sure, is_templates, may, moved, need_of, plainly, replaces_body, resets, may_rest, sits_in, sound, steady, stop_number, told}
use Rattle.html_laws.specs.Likeness.{core}
use Rattle.html_laws.proofs.Words.{becomes-core}
use Rattle.html_laws.proofs.Models.{imply, Knows, Models, models-by, models-know, step-tags, word-models}
use Rattle.html_laws.proofs.Moving.{cut-left, HasTop, ended-made, inside-top, link-made, reopening-made}
use Rattle.html_laws.proofs.Phases.{IsEnd, IsFramed, IsInner, IsOuter, Phase, Placed, inner-waits, is_outer, plainly_placed, reset-inside, shape}
use Rattle.html_laws.proofs.Running.{models-becomes, models-core, models-fostering, models-kept, models-moved, models-plainly, runs-steady}

-- THE SAME BUT FOR WHAT IS COUNTED

pub ground-core : (a b : State) → core b ≡ core a → Ground a → Ground b
ground-core a b e g = from (subst Ground (sym e) to)
  where
    to : Ground (core a)
    to = record { held = record { stacked = g.held.stacked; listed = g.held.listed; tagged = g.held.tagged }; formed = g.formed; templates = g.templates; context = g.context; refused = g.refused }

    from : Ground (core b) → Ground b
    from k = record { held = record { stacked = k.held.stacked; listed = k.held.listed; tagged = k.held.tagged }; formed = k.formed; templates = k.templates; context = k.context; refused = k.refused }

pub outer-core : (a b : State) → core b ≡ core a → IsOuter a → IsOuter b
outer-core a b e o = record {
  ground = ground-core a b e o.ground;
  none = ap (λ (v : State). bodies v) e ∙ o.none;
  placed = subst (λ (v : State). Placed v.mode v.original (open_tags v.tree)) (sym e) o.placed;
}

pub inner-core : (a b : State) → core b ≡ core a → IsInner a → IsInner b
inner-core a b e i = record { view = i.view; models = models-core i.view a b e i.models; settled = i.settled }

pub framed-core : (a b : State) → core b ≡ core a → IsFramed a → IsFramed b
framed-core a b e f = record {
  ground = ground-core a b e f.ground;
  few = (let k = ap (λ (v : State). bodies v) e in let n = f.few in omega (arith, k, n));
  framed = ap (λ (v : State). v.ledger.history.frameset) e ∙ f.framed;
  mode_is = subst (λ (v : State). (is_of_frames v.mode ≡ true) ⊎ ((v.mode ≡ mode.Text) × (is_of_frames v.original ≡ true))) (sym e) f.mode_is;
}

pub phase-core : (a b : State) → core b ≡ core a → Phase a → Phase b
phase-core a b e (inl f) = inl (framed-core a b e f)
phase-core a b e (inr (inl o)) = inr (inl (outer-core a b e o))
phase-core a b e (inr (inr i)) = inr (inr (inner-core a b e i))

ground-fostering : (a : State) (b : Bool) → Ground a → Ground (record a { fostering = b })
ground-fostering a b g = record { held = g.held; formed = g.formed; templates = g.templates; context = g.context; refused = g.refused }

outer-fostering : (a : State) (b : Bool) → IsOuter a → IsOuter (record a { fostering = b })
outer-fostering a b o = record { ground = ground-fostering a b o.ground; none = o.none; placed = o.placed }

inner-fostering : (a : State) (b : Bool) → IsInner a → IsInner (record a { fostering = b })
inner-fostering a b i = record { view = i.view; models = models-fostering i.view a b i.models; settled = i.settled }

pub framed-fostering : (a : State) (b : Bool) → IsFramed a → IsFramed (record a { fostering = b })
framed-fostering a b f = record { ground = ground-fostering a b f.ground; few = f.few; framed = f.framed; mode_is = f.mode_is }

-- AFTER THE MODE WAS RESET

abbrev pub rest_view : Mode → View
rest_view m = record { mode = m; original = mode.InBody; need = need_of m; know = Nothing }

-- in a mode that is not left for another
pub record IsAtRest (a : State) : Type 0 where
  pub at : Mode
  pub inner : is_inner at ≡ true
  pub models : Models (rest_view at) a

pub need-self : (f : Need) → suffices f f ≡ true
need-self Anything = refl
need-self Tables = refl
need-self Sections = refl
need-self Rows = refl
need-self Templates = refl

pub rest-settles : (m : Mode) → is_inner m ≡ true → may_rest (rest_view m) ≡ true
rest-settles m h = subst (λ b. cond b (is_inner mode.InBody && (suffices (need_of m) Anything && (not (is_text_mode m) || false))) (is_inner m && suffices (need_of m) (need_of m)) ≡ true) (sym (inner-waits m h)) (join (is_inner m) (suffices (need_of m) (need_of m)) h (need-self (need_of m)))

pub rest-inner : (a : State) → IsAtRest a → IsInner a
rest-inner a r = record { view = rest_view r.at; models = r.models; settled = rest-settles r.at r.inner }

calm-step : (a b : State) → Step true a b → b.tree.stack ≡ a.tree.stack → b.mode ≡ a.mode → b.original ≡ a.original → (IsOuter a ⊎ IsAtRest a) → (IsOuter b ⊎ IsAtRest b)
calm-step a b s e m o (inl k) = inl (record {
  ground = step-ground true a b s k.ground;
  none = step-bodies a b s ∙ k.none;
  placed = subst (λ v. Placed b.mode b.original v) (sym (ap (tags_down b.tree.tree) e ∙ step-tags true a b s k.ground a.tree.stack (λ x h. h))) (subst (λ v. Placed v b.original (open_tags a.tree)) (sym m) (subst (λ v. Placed a.mode v (open_tags a.tree)) (sym o) k.placed));
})
calm-step a b s e m o (inr k) = inr (record {
  at = k.at;
  inner = k.inner;
  models = models-by (rest_view k.at) (rest_view k.at) a b k.models s (subst (IsInside (need_of k.at) k.models.hook k.models.low) (sym (ap (tags_down b.tree.tree) e ∙ step-tags true a b s k.models.ground a.tree.stack (λ x h. h))) k.models.inside) tt (m ∙ k.models.mode_is) (λ w. absurd (false≢true (sym (inner-waits k.at k.inner) ∙ w)));
})

-- the words of such a plan
calm-word : (w : Word) (t : TokenKind) (a : State) → is_calm_word w ≡ true → (IsOuter a ⊎ IsAtRest a) → (IsOuter (after w t a) ⊎ IsAtRest (after w t a))
calm-word End t a h k = calm-step a (after End t a) (word-step t a End refl) refl refl refl k
calm-word (Drop c) t a h k = calm-step a (after (Drop c) t a) (word-step t a (Drop c) refl) refl refl refl k
calm-word ClearToMarker t a h k = calm-step a (after ClearToMarker t a) (word-step t a ClearToMarker refl) refl refl refl k
calm-word PopTemplate t a h k = calm-step a (after PopTemplate t a) (word-step t a PopTemplate refl) refl refl refl k
calm-word w t a h k = absurd (false≢true h)

rest-core : (a b : State) → core b ≡ core a → (IsOuter a ⊎ IsAtRest a) → (IsOuter b ⊎ IsAtRest b)
rest-core a b e (inl o) = inl (outer-core a b e o)
rest-core a b e (inr r) = inr (record { at = r.at; inner = r.inner; models = models-core (rest_view r.at) a b e r.models })

module _ (r : Rules) where
  runs-calm : (p : Plan) (t : TokenKind) (a : State) (e : Ending) (z : State) → is_calm p ≡ true → (IsOuter a ⊎ IsAtRest a) → Runs r p t a e z → (IsOuter z ⊎ IsAtRest z)
  runs-calm (Do End p) t a e z h k j = (let f = followed r (Do End p) t a e z j in runs-calm p t f.0 e z h (rest-core (after End t a) f.0 (becomes-core (after End t a) f.0 f.1) (calm-word End t a refl k)) f.2)
  runs-calm (Do (Drop c) p) t a e z h k j = (let f = followed r (Do (Drop c) p) t a e z j in runs-calm p t f.0 e z h (rest-core (after (Drop c) t a) f.0 (becomes-core (after (Drop c) t a) f.0 f.1) (calm-word (Drop c) t a refl k)) f.2)
  runs-calm (Stop d) t a e z h k j = (let f = followed r (Stop d) t a e z j in rest-core a z (becomes-core a z f.1) k)
  runs-calm p t a e z h k j = absurd (false≢true h)

-- RESETTING THE MODE

-- the body is open, or a template before it, or what stands before a template
pub record IsBase (a : State) : Type 0 where
  pub ground : Ground a
  pub none : bodies a ≡ 0
  pub tags_are : (open_tags a.tree ≡ tag.Html ∷ []) ⊎ (open_tags a.tree ≡ tag.Head ∷ tag.Html ∷ [])

reset-base : (t : TokenKind) (a : State) → IsBase a → IsOuter (after Reset t a)
reset-base t a k = record {
  ground = step-ground true a (after Reset t a) (word-step t a Reset refl) k.ground;
  none = k.none;
  placed = elim k.tags_are [
    | inl e ↦ (let v = value e in plainly_placed (reset_mode a.context a.tree.head a.templates (open_tags a.tree)) a.original (open_tags a.tree) (ap is_outer v ∙ (root-outer a.tree.head).0) (e ∙ sym (ap shape v ∙ (root-outer a.tree.head).1)))
    | inr e ↦ plainly_placed (reset_mode a.context a.tree.head a.templates (open_tags a.tree)) a.original (open_tags a.tree)
        (ap (λ v. is_outer (reset_mode a.context a.tree.head a.templates v)) e)
        (e ∙ sym (ap (λ v. shape (reset_mode a.context a.tree.head a.templates v)) e))
  ];
}
  where
    root-outer : (head : Option ℕ) → (is_outer (root_mode head) ≡ true) × (shape (root_mode head) ≡ tag.Html ∷ [])
    root-outer None = (refl, refl)
    root-outer (Some x) = (refl, refl)

    value : open_tags a.tree ≡ tag.Html ∷ [] → reset_mode a.context a.tree.head a.templates (open_tags a.tree) ≡ root_mode a.tree.head
    value e = ap (reset_mode a.context a.tree.head a.templates) e ∙ ap (outermost_mode a.tree.head a.templates) (same-tag (unwrap_or a.context tag.Html) tag.Html k.ground.context)

reset-rest : (t : TokenKind) (a : State) (s : View) → Models s a → IsAtRest (after Reset t a)
reset-rest t a s m =
    let r = reset-inside a.context a.tree.head a.templates m.ground.templates s.need m.hook m.low (open_tags a.tree) m.foot m.inside in
    record {
      at = reset_mode a.context a.tree.head a.templates (open_tags a.tree);
      inner = r.inner;
      models = models-by s (rest_view (reset_mode a.context a.tree.head a.templates (open_tags a.tree))) a (after Reset t a) m (word-step t a Reset refl) r.inside tt refl (λ w. absurd (false≢true (sym (inner-waits (reset_mode a.context a.tree.head a.templates (open_tags a.tree)) r.inner) ∙ w)));
    }

-- A TEMPLATE IS CLOSED

-- what is left where the last template is closed
template-closed : (g : Group) (e : Ends) (t : TokenKind) (a : State) (s : View) → is_templates g ≡ true → eqb (stop_number e) 0 ≡ true → Models s a → IsBase (after (CloseThrough g e) t a) ⊎ ((k : View) × Models k (after (CloseThrough g e) t a))
template-closed g e t a s h d m = elim (before-cut a.tree.tree (is_member a.tree.tree g) (stops_at a.tree.tree e) a.tree.stack) [
  | inl i ↦ inr (plainly s, models-by s (plainly s) a (after (CloseThrough g e) t a) m p (subst (λ o. IsInside s.need m.hook m.low (tags_down a.tree.tree (before_index o a.tree.stack))) (sym i) m.inside) tt m.mode_is m.original_is)
  | inr c ↦ by c
]
  where
    p : Step true a (after (CloseThrough g e) t a)
    p = word-step t a (CloseThrough g e) refl

    template : (g : Group) → is_templates g ≡ true → (x : Tag) → in_group g x ≡ true → x ≡ tag.Template
    template (group.Named g) h x k = same-tag x g k ∙ is-template g h
      where
        is-template : (g : Tag) → is_template g ≡ true → g ≡ tag.Template
        is-template tag.Template h = refl
        is-template g h = absurd (false≢true h)
    template group.Heading h x k = absurd (false≢true h)
    template group.Section h x k = absurd (false≢true h)
    template group.Cell h x k = absurd (false≢true h)
    template group.Definition h x k = absurd (false≢true h)

    first : Tag → List Tag → Tag
    first d [] = d
    first d (x ∷ xs) = x

    rest : List Tag → List Tag
    rest [] = []
    rest (x ∷ xs) = xs

    -- it is above the hook, or the hook
    place : (xs us : List Tag) (bs : List Tag) (hook : Tag) (low : List Tag) → xs ++ hook ∷ low ≡ us ++ tag.Template ∷ bs → Footing hook low → ((vs : List Tag) × (xs ≡ us ++ tag.Template ∷ vs) × (bs ≡ vs ++ hook ∷ low)) ⊎ ((is_template hook ≡ true) × (bs ≡ low))
    place [] [] bs hook low c f = inr (ap is_template (ap (first hook) c), sym (ap rest c))
    place [] (u ∷ us) bs _ _ c on_body = absurd (html-none us bs (ap rest c))
      where
        html-none : (us bs : List Tag) → tag.Html ∷ [] ≡ us ++ tag.Template ∷ bs → ⊥
        html-none [] bs c = false≢true (ap is_template (ap (first tag.Html) c))
        html-none (v ∷ []) bs c = absurd (let k = ap rest c in cc)
        html-none (v ∷ w ∷ us) bs c = absurd (let k = ap rest c in cc)
    place [] (u ∷ us) bs _ _ c on_template = absurd (html-none us bs (ap rest c))
      where
        html-none : (us bs : List Tag) → tag.Html ∷ [] ≡ us ++ tag.Template ∷ bs → ⊥
        html-none [] bs c = false≢true (ap is_template (ap (first tag.Html) c))
        html-none (v ∷ []) bs c = absurd (let k = ap rest c in cc)
        html-none (v ∷ w ∷ us) bs c = absurd (let k = ap rest c in cc)
    place [] (u ∷ us) bs _ _ c on_head = absurd (none us bs (ap rest c))
      where
        html-none : (us bs : List Tag) → tag.Html ∷ [] ≡ us ++ tag.Template ∷ bs → ⊥
        html-none [] bs c = false≢true (ap is_template (ap (first tag.Html) c))
        html-none (v ∷ []) bs c = absurd (let k = ap rest c in cc)
        html-none (v ∷ w ∷ us) bs c = absurd (let k = ap rest c in cc)

        none : (us bs : List Tag) → tag.Head ∷ tag.Html ∷ [] ≡ us ++ tag.Template ∷ bs → ⊥
        none [] bs c = false≢true (ap is_template (ap (first tag.Head) c))
        none (v ∷ us) bs c = html-none us bs (ap rest c)
    place (x ∷ xs) [] bs hook low c f = inl (xs, ap (λ v. v ∷ xs) (ap (first x) c), sym (ap rest c))
    place (x ∷ xs) (u ∷ us) bs hook low c f = elim (place xs us bs hook low (ap rest c) f) [
      | inl k ↦ inl (k.0, ap (λ v. v ∷ xs) (ap (first x) c) ∙ ap (λ v. u ∷ v) k.1, k.2)
      | inr k ↦ inr k
    ]

    low-tags : (hook : Tag) (low : List Tag) → Footing hook low → (low ≡ tag.Html ∷ []) ⊎ (low ≡ tag.Head ∷ tag.Html ∷ [])
    low-tags _ _ on_body = inl refl
    low-tags _ _ on_template = inl refl
    low-tags _ _ on_head = inr refl

    by : HasCut a.tree.tree (is_member a.tree.tree g) (stops_at a.tree.tree e) a.tree.stack (closed_through a.tree g e) → IsBase (after (CloseThrough g e) t a) ⊎ ((k : View) × Models k (after (CloseThrough g e) t a))
    by c =
        let w = template g h (tag_at a.tree.tree c.node) c.passes in
        elim (place m.inside.upper (tags_down a.tree.tree c.over) c.under m.hook m.low (sym m.inside.tags_are ∙ c.tags_are ∙ ap (λ v. tags_down a.tree.tree c.over ++ v ∷ c.under) w) m.foot) [
          | inl k ↦ inr (
            record { mode = s.mode; original = s.original; need = Anything; know = Nothing },
            models-by s (record { mode = s.mode; original = s.original; need = Anything; know = Nothing }) a (after (CloseThrough g e) t a) m p
                (let i : IsInside Anything m.hook m.low c.under = record { upper = k.0; tags_are = k.2; chained = chain-end m.hook (tag.Template ∷ []) k.0 (chain-end m.hook (tags_down a.tree.tree c.over) (tag.Template ∷ k.0) (subst (λ v. chain m.hook v ≡ true) k.1 m.inside.chained)); holds = refl } in
                cut-left Anything m.hook m.low a.tree.tree (is_member a.tree.tree g) (stops_at a.tree.tree e) a.tree.stack (closed_through a.tree g e) c i) tt m.mode_is m.original_is,
          )
          | inr k ↦ inl (record {
            ground = step-ground true a (after (CloseThrough g e) t a) p m.ground;
            none = step-bodies a (after (CloseThrough g e) t a) p ∙ (m.before k.0).0;
            tags_are = elim (low-tags m.hook m.low m.foot) [
              | inl q ↦ inl (c.left tag.Html [] (k.1 ∙ q) ∙ k.1 ∙ q)
              | inr q ↦ inr (c.left tag.Head (tag.Html ∷ []) (k.1 ∙ q) ∙ k.1 ∙ q)
            ];
          })
        ]

abbrev IsLeft : State → Type 0
IsLeft a = IsBase a ⊎ ((k : View) × Models k a)

left-core : (a b : State) → core b ≡ core a → IsLeft a → IsLeft b
left-core a b e (inl k) = inl (record {
  ground = ground-core a b e k.ground;
  none = ap (λ (v : State). bodies v) e ∙ k.none;
  tags_are = subst (λ (v : State). (open_tags v.tree ≡ tag.Html ∷ []) ⊎ (open_tags v.tree ≡ tag.Head ∷ tag.Html ∷ [])) (sym e) k.tags_are;
})
left-core a b e (inr k) = inr (k.0, models-core k.0 a b e k.1)

left-step : (a b : State) → Step true a b → b.tree.stack ≡ a.tree.stack → b.mode ≡ a.mode → b.original ≡ a.original → IsLeft a → IsLeft b
left-step a b s e m o (inl k) = inl (record {
  ground = step-ground true a b s k.ground;
  none = step-bodies a b s ∙ k.none;
  tags_are = subst (λ v. (v ≡ tag.Html ∷ []) ⊎ (v ≡ tag.Head ∷ tag.Html ∷ [])) (sym (ap (tags_down b.tree.tree) e ∙ step-tags true a b s k.ground a.tree.stack (λ x h. h))) k.tags_are;
})
left-step a b s e m o (inr k) = inr (plainly k.0, models-by k.0 (plainly k.0) a b k.1 s (subst (IsInside (k.0).need (k.1).hook (k.1).low) (sym (ap (tags_down b.tree.tree) e ∙ step-tags true a b s (k.1).ground a.tree.stack (λ x h. h))) (k.1).inside) tt (m ∙ (k.1).mode_is) (λ w. o ∙ (k.1).original_is w))

reset-left : (t : TokenKind) (a : State) → IsLeft a → IsOuter (after Reset t a) ⊎ IsAtRest (after Reset t a)
reset-left t a (inl k) = inl (reset-base t a k)
reset-left t a (inr k) = inr (reset-rest t a k.0 k.1)

phase-rest : (a : State) → IsOuter a ⊎ IsAtRest a → (IsOuter a ⊎ IsInner a)
phase-rest a (inl o) = inl o
phase-rest a (inr r) = inr (rest-inner a r)

module _ (r : Rules) where
  -- the mode is reset, and nothing more is done
  runs-reset : (p : Plan) (t : TokenKind) (a b : State) (e : Ending) (z : State) → is_calm p ≡ true → IsLeft a → Becomes (after Reset t a) b → Runs r p t b e z → (IsOuter z ⊎ IsInner z)
  runs-reset p t a b e z h k i j = phase-rest z (runs-calm r p t b e z h (rest-core (after Reset t a) b (becomes-core (after Reset t a) b i) (reset-left t a k)) j)

  runs-left : (p : Plan) (t : TokenKind) (a : State) (e : Ending) (z : State) → ends_template p ≡ true → IsLeft a → Runs r p t a e z → (IsOuter z ⊎ IsInner z)
  runs-left (Do ClearToMarker (Do PopTemplate (Do Reset q))) t a e z h k j =
      let f = followed r (Do ClearToMarker (Do PopTemplate (Do Reset q))) t a e z j in
      let g = followed r (Do PopTemplate (Do Reset q)) t f.0 e z f.2 in
      let d = followed r (Do Reset q) t g.0 e z g.2 in
      let k1 = left-core (after ClearToMarker t a) f.0 (becomes-core (after ClearToMarker t a) f.0 f.1) (left-step a (after ClearToMarker t a) (word-step t a ClearToMarker refl) refl refl refl k) in
      let k2 = left-core (after PopTemplate t f.0) g.0 (becomes-core (after PopTemplate t f.0) g.0 g.1) (left-step f.0 (after PopTemplate t f.0) (word-step t f.0 PopTemplate refl) refl refl refl k1) in
      runs-reset q t g.0 d.0 e z h k2 d.1 d.2
  runs-left p t a e z h k j = absurd (false≢true h)

  -- through the last template
  runs-closed : (w : Word) (p : Plan) (t : TokenKind) (s : View) (a b : State) (e : Ending) (z : State) → (closes_template w && ends_template p) ≡ true → Models s a → Becomes (after w t a) b → Runs r p t b e z → (IsOuter z ⊎ IsInner z)
  runs-closed (CloseThrough g d) p t s a b e z h m i j =
      let c = both (is_templates g && eqb (stop_number d) 0) (ends_template p) h in
      let u = both (is_templates g) (eqb (stop_number d) 0) c.0 in
      runs-left p t b e z c.1 (left-core (after (CloseThrough g d) t a) b (becomes-core (after (CloseThrough g d) t a) b i) (template-closed g d t a s u.0 u.1 m)) j
  runs-closed w p t s a b e z h m i j = absurd (false≢true h)

  runs-mode : (w : Word) (p : Plan) (t : TokenKind) (s : View) (a b : State) (e : Ending) (z : State) → (resets w && is_calm p) ≡ true → Models s a → Becomes (after w t a) b → Runs r p t b e z → (IsOuter z ⊎ IsInner z)
  runs-mode Reset p t s a b e z h m i j = runs-reset p t a b e z h (inr (s, m)) i j
  runs-mode w p t s a b e z h m i j = absurd (false≢true h)

-- QUESTIONS

module _ (s : View) (t : TokenKind) (a : State) (m : Models s a) where
  -- the current node
  top : HasTop (open_tags a.tree)
  top = inside-top s.need m.hook m.low (open_tags a.tree) m.inside

  current-is : current_or_other a.tree ≡ top.top
  current-is = ap (λ o. unwrap_or o tag.Other) (current-first a.tree ∙ ap (λ v. slice_get v 0) top.tags_are)

  option-top : (s' : List ℕ) → (nat_lt 1 (length s') && (named a.tree.tree tag.Option (slice_index s' (length s' - 1)) && named a.tree.tree tag.Optgroup (slice_index s' (length s' - 2)))) ≡ true → (rest : List Tag) × (tags_down a.tree.tree s' ≡ tag.Option ∷ rest)
  option-top [] h = absurd (false≢true h)
  option-top (x ∷ xs) h =
      let l = last x xs in
      let c = both (nat_lt 1 (length (x ∷ xs))) (named a.tree.tree tag.Option (slice_index (x ∷ xs) (length (x ∷ xs) - 1)) && named a.tree.tree tag.Optgroup (slice_index (x ∷ xs) (length (x ∷ xs) - 2))) h in
      let d = (both (named a.tree.tree tag.Option (slice_index (x ∷ xs) (length (x ∷ xs) - 1))) (named a.tree.tree tag.Optgroup (slice_index (x ∷ xs) (length (x ∷ xs) - 2))) c.1).0 in
      (tags_down a.tree.tree l.0, ap (tags_down a.tree.tree) l.2 ∙ push-tags a.tree.tree l.0 l.1 ∙ ap (λ g. g ∷ tags_down a.tree.tree l.0) (same-tag (tag_at a.tree.tree l.1) tag.Option (subst (λ y. named a.tree.tree tag.Option y ≡ true) (at l.0 l.1 l.2) d)))
    where
      last : (x : ℕ) (xs : List ℕ) → (ys : List ℕ) × (y : ℕ) × (x ∷ xs ≡ ys ++ y ∷ [])
      last x [] = ([], x, refl)
      last x (y ∷ xs) = (let r = last y xs in (x ∷ r.0, r.1, ap (λ v. x ∷ v) r.2))

      at : (ys : List ℕ) (y : ℕ) → x ∷ xs ≡ ys ++ y ∷ [] → slice_index (x ∷ xs) (length (x ∷ xs) - 1) ≡ y
      at ys y e = ap (λ v. slice_index v (length v - 1)) e ∙ ap (slice_index (ys ++ y ∷ [])) (count ys y) ∙ get_or-append_seam ys y [] 0
        where
          count : (ys : List ℕ) (y : ℕ) → length (ys ++ y ∷ []) - 1 ≡ length ys
          count ys y = (let e = length-append ys (y ∷ []) in omega (arith, e))

  finds-told : (k : Know) (g : Group) (e : Ends) → Knows k a.tree.stack a.tree.tree a.ledger.history.template → is_some (found a.tree g e) ≡ true → Knows (cond (finds_near k g && not (is_bounded e)) k (Found g e)) a.tree.stack a.tree.tree a.ledger.history.template
  finds-told k g e n h = by (finds_near k g && not (is_bounded e))
    where
      by : (b : Bool) → Knows (cond b k (Found g e)) a.tree.stack a.tree.tree a.ledger.history.template
      by true = n
      by false = h

  told-known : (q : Query) → answer q t a ≡ true → Knows (told s.know q) a.tree.stack a.tree.tree a.ledger.history.template
  told-known (CanPop g) h = (top.top, top.rest, top.tags_are, subst (λ v. in_group g v ≡ true) current-is (both (nat_lt 1 (length a.tree.stack)) (in_group g (current_or_other a.tree)) h).1)
  told-known (HasSeat g) h = h
  told-known (Finds g e) h = finds-told s.know g e m.knows h
  told-known HasTemplate h = (both a.ledger.history.template (is_some (found a.tree (group.Named tag.Template) stop.Never)) h).0
  told-known IsOptionInGroup h = option-top a.tree.stack h
  told-known q h = tt

  denied-known : (q : Query) → answer q t a ≡ false → Knows (denied q) a.tree.stack a.tree.tree a.ledger.history.template
  denied-known HasTemplate h = h
  denied-known q h = tt

  -- ANSWERS THAT ARE SURE

  sits-on : (c : TableContext) (g h : Tag) → sits_in c g ≡ true → is_context c h ≡ true → sits_on g h ≡ true
  sits-on context.Table g h e k = by (is_cell g) (is_same g tag.Tr) (is_table_part g)
      (not-true (is_cell g) (imply (is_table_part g) (not (is_cell g)) (of-all (λ v. not (is_table_part v) || not (is_cell v)) refl g) e))
      (not-true (is_same g tag.Tr) (imply (is_table_part g) (not (is_same g tag.Tr)) (of-all (λ v. not (is_table_part v) || not (is_same v tag.Tr)) refl g) e)) e
    where
      by : (b c d : Bool) → b ≡ false → c ≡ false → d ≡ true → cond b (is_row_context h) (cond c (is_section_context h) (cond d (is_table_context h) true)) ≡ true
      by true c d x y z = absurd (false≢true (sym x))
      by false true d x y z = absurd (false≢true (sym y))
      by false false true x y z = k
      by false false false x y z = refl
  sits-on context.Body g h e k = subst (λ v. sits_on v h ≡ true) (sym (same-tag g tag.Tr e)) k
  sits-on context.Row g h e k = ap (λ b. cond b (is_row_context h) (cond (is_same g tag.Tr) (is_section_context h) (cond (is_table_part g) (is_table_context h) true))) e ∙ k

  seat-sure : (k : Know) (g : Tag) → is_on k g ≡ true → Knows k a.tree.stack a.tree.tree a.ledger.history.template → seat_at a.tree.tree g (last_of a.tree.stack) ≡ true
  seat-sure (On c) g e n = by (last_of a.tree.stack) refl
    where
      by : (o : Option ℕ) → last_of a.tree.stack ≡ o → seat_at a.tree.tree g o ≡ true
      by None q = absurd (none-tags (none a.tree.stack q))
        where
          none : (s' : List ℕ) → last_of s' ≡ None → s' ≡ []
          none [] e = refl
          none (x ∷ s') e = absurd (some (last_of s') e)
            where
              some : (o : Option ℕ) → or_else o (Some x) ≡ None → ⊥
              some None k = absurd (let z = k in cc)
              some (Some y) k = absurd (let z = k in cc)

          none-tags : a.tree.stack ≡ [] → ⊥
          none-tags e = absurd (let z : [] ≡ n.0 ∷ n.1 = sym (ap (tags_down a.tree.tree) e) ∙ n.2 in cc)
      by (Some x) q =
          let d : Some (tag_at a.tree.tree x) ≡ Some n.0 = sym (first-tag a.tree.tree a.tree.stack x q) ∙ ap (λ v. slice_get v 0) n.2 in
          let w : tag_at a.tree.tree x ≡ n.0 = (let z = d in cc) in
          subst (λ v. cond (is_same v tag.Html) (eqb x 0) (sits_on g v) ≡ true) (sym w) (seat (is_same n.0 tag.Html) n.4)
        where
          seat : (b : Bool) → b ≡ false → cond b (eqb x 0) (sits_on g n.0) ≡ true
          seat true z = absurd (false≢true (sym z))
          seat false z = sits-on c g n.0 e n.3
  seat-sure Nothing g e n = absurd (false≢true e)
  seat-sure (Top x) g e n = absurd (false≢true e)
  seat-sure Plain g e n = absurd (false≢true e)
  seat-sure (Of x) g e n = absurd (false≢true e)
  seat-sure (Seat x) g e n = absurd (false≢true e)
  seat-sure (Found x d) g e n = absurd (false≢true e)
  seat-sure Made g e n = absurd (false≢true e)
  seat-sure Bare g e n = absurd (false≢true e)

  -- the second open element is the body, where no template is open
  body-second : (s' : List ℕ) (us : List Tag) → tags_down a.tree.tree s' ≡ us ++ tag.Body ∷ tag.Html ∷ [] → (nat_lt 1 (length s') && named a.tree.tree tag.Body (slice_index s' 1)) ≡ true
  body-second s' us e = at s' (sym (reverse-reverse (map (tag_at a.tree.tree) s')) ∙ ap reverse e ∙ reverse-append us (tag.Body ∷ tag.Html ∷ []))
    where
      first : Tag → List Tag → Tag
      first d [] = d
      first d (x ∷ xs) = x

      rest : List Tag → List Tag
      rest [] = []
      rest (x ∷ xs) = xs

      at : (s' : List ℕ) → map (tag_at a.tree.tree) s' ≡ tag.Html ∷ tag.Body ∷ reverse us → (nat_lt 1 (length s') && named a.tree.tree tag.Body (slice_index s' 1)) ≡ true
      at [] k = absurd (let z = k in cc)
      at (x ∷ []) k = absurd (let z = ap rest k in cc)
      at (x ∷ y ∷ xs) k = join (nat_lt 1 (suc (suc (length xs)))) (named a.tree.tree tag.Body y) (long (length xs)) (ap (λ g. is_same g tag.Body) (ap (λ v. first tag.Other (rest v)) k))
        where
          long : (n : ℕ) → nat_lt 1 (suc (suc n)) ≡ true
          long n = grind (arith, nat_tests)

  template-found : (us low : List Tag) → open_tags a.tree ≡ us ++ tag.Template ∷ low → is_some (found a.tree (group.Named tag.Template) stop.Never) ≡ true
  template-found us low e = by (list_any (is_member a.tree.tree (group.Named tag.Template)) a.tree.stack) (list_any (stops_at a.tree.tree stop.Never) (above (is_member a.tree.tree (group.Named tag.Template)) a.tree.stack))
      (sym (any-tags a.tree.tree (λ g. is_same g tag.Template) a.tree.stack) ∙ ap (list_any (λ g. is_same g tag.Template)) e ∙ any-append (λ g. is_same g tag.Template) us (tag.Template ∷ low) ∙ right (list_any (λ g. is_same g tag.Template) us) true refl)
      (never (above (is_member a.tree.tree (group.Named tag.Template)) a.tree.stack))
    where
      never : (xs : List ℕ) → list_any (stops_at a.tree.tree stop.Never) xs ≡ false
      never [] = refl
      never (x ∷ xs) = never xs

      by : (b c : Bool) → list_any (is_member a.tree.tree (group.Named tag.Template)) a.tree.stack ≡ true → c ≡ false → is_some (cond (list_any (is_member a.tree.tree (group.Named tag.Template)) a.tree.stack && not c) (last_index (is_member a.tree.tree (group.Named tag.Template)) a.tree.stack) None) ≡ true
      by b c h k = rw (h, k) refl

  body-sure : Knows Bare a.tree.stack a.tree.tree a.ledger.history.template → (nat_lt 1 (length a.tree.stack) && named a.tree.tree tag.Body (slice_index a.tree.stack 1)) ≡ true
  body-sure n = by m.hook m.low m.foot m.inside.upper m.inside.tags_are m.before
    where
      none : (us low : List Tag) → open_tags a.tree ≡ us ++ tag.Template ∷ low → a.ledger.history.template ≡ true → ⊥
      none us low e h = false≢true (sym n ∙ join a.ledger.history.template (is_some (found a.tree (group.Named tag.Template) stop.Never)) h (template-found us low e))

      by : (hook : Tag) (low : List Tag) → Footing hook low → (us : List Tag) → open_tags a.tree ≡ us ++ hook ∷ low → (is_template hook ≡ true → (bodies a ≡ 0) × (a.ledger.history.template ≡ true)) → (nat_lt 1 (length a.tree.stack) && named a.tree.tree tag.Body (slice_index a.tree.stack 1)) ≡ true
      by _ _ on_body us e b = body-second a.tree.stack us e
      by _ _ on_template us e b = absurd (none us (tag.Html ∷ []) e (b refl).1)
      by _ _ on_head us e b = absurd (none us (tag.Head ∷ tag.Html ∷ []) e (b refl).1)

  misplaced-sure : (g : Tag) → is_same g tag.Body ≡ true → a.ledger.history.template ≡ true → may_misplace_tag a.ledger.history g ≡ true
  misplaced-sure g e h = subst (λ v. may_misplace_tag a.ledger.history v ≡ true) (sym (same-tag g tag.Body e)) (rw h refl)

  sure-answer : (k : Know) (q : Query) → Knows k a.tree.stack a.tree.tree a.ledger.history.template → is_sure k q ≡ true → answer q t a ≡ true
  sure-answer k (HasSeat g) n h = seat-sure k g h n
  sure-answer Bare HasBody n h = body-sure n
  sure-answer Made (MayMisplace g) n h = misplaced-sure g h n
  sure-answer k q n h = absurd (false≢true h)

-- A FRAMESET TAKES THE PLACE OF THE BODY

-- after the element of a frameset
pub framed-by : (t : TokenKind) (a b : State) → Step true a b → starts (λ g. is_same g tag.Frameset) (symbol_of t) ≡ true → (starts (λ g. is_same g tag.Frameset) (symbol_of t) ≡ true → b.ledger.history.frameset ≡ true) → Ground a → bodies a ≤ 1 → Ground b × (bodies b ≤ 1) × (b.ledger.history.frameset ≡ true)
framed-by t a b s h f g n = (step-ground true a b s g, (let e = step-bodies a b s in omega (arith, e, n)), f h)

module _ (r : Rules) where
  -- the mode of framesets, and the end
  pub runs-frames : (p : Plan) (t : TokenKind) (a : State) (e : Ending) (z : State) → frames p ≡ true → Ground a → bodies a ≤ 1 → a.ledger.history.frameset ≡ true → Runs r p t a e z → IsFramed z × (e ≡ Over)
  runs-frames (Do (Switch m) (Stop Over)) t a e z h g n f j =
      let d = followed r (Do (Switch m) (Stop Over)) t a e z j in
      let k = followed r (Stop Over) t d.0 e z d.2 in (
        framed-core d.0 z (becomes-core d.0 z k.1) (framed-core (after (Switch m) t a) d.0 (becomes-core (after (Switch m) t a) d.0 d.1) (record {
          ground = step-ground true a (after (Switch m) t a) (word-step t a (Switch m) refl) g;
          few = n;
          framed = f;
          mode_is = inl (of-frames m h);
        })),
        sym k.0,
      )
    where
      of-frames : (m : Mode) → is_frameset_mode m ≡ true → is_of_frames m ≡ true
      of-frames mode.InFrameset h = refl
      of-frames m h = absurd (false≢true h)
  runs-frames p t a e z h g n f j = absurd (false≢true h)

  runs-replaced : (q : Query) (p : Plan) (t : TokenKind) (s : View) (a : State) (e : Ending) (z : State) → replaces_body (symbol_of t) q p ≡ true → Models s a → Runs r p t a e z → IsFramed z × (e ≡ Over)
  runs-replaced CanReplaceBody (Do ReplaceBody p) t s a e z h m j =
      let c = both (starts (λ g. is_same g tag.Frameset) (symbol_of t)) (frames p) h in
      let f = followed r (Do ReplaceBody p) t a e z j in
      let w : Step true a (after ReplaceBody t a) = subst (λ v. Step v a (after ReplaceBody t a)) (no-body t c.0) (word-step t a ReplaceBody refl) in
      let k : (Ground (after ReplaceBody t a)) × (bodies (after ReplaceBody t a) ≤ 1) × ((after ReplaceBody t a).ledger.history.frameset ≡ true) = framed-by t a (after ReplaceBody t a) w c.0 (λ x. right a.ledger.history.frameset (starts (λ g. is_same g tag.Frameset) (symbol_of t)) x) m.ground m.few in
      let b = becomes-core (after ReplaceBody t a) f.0 f.1 in
      runs-frames p t f.0 e z c.1 (ground-core (after ReplaceBody t a) f.0 b k.0) (let x = ap (λ (v : State). bodies v) b in let y = k.1 in omega (arith, x, y)) (ap (λ (v : State). v.ledger.history.frameset) b ∙ k.2) f.2
    where
      no-body : (t : TokenKind) → starts (λ g. is_same g tag.Frameset) (symbol_of t) ≡ true → spares (symbol_of t) ReplaceBody ≡ true
      no-body (kind.Start name attrs self_closing) h = ap (λ g. not (is_same g tag.Body)) (same-tag (tag_of name) tag.Frameset h)
      no-body (kind.End name) h = absurd (false≢true h)
      no-body (kind.Char c) h = absurd (false≢true h)
      no-body (kind.Comment text) h = absurd (false≢true h)
      no-body (kind.Doctype n p s f) h = absurd (false≢true h)
      no-body kind.Eof h = absurd (false≢true h)
  runs-replaced q p t s a e z h m j = absurd (false≢true h)

-- PLANS

module _ (r : Rules) (quiet : (c : ℕ) → steady (r mode.InBody (symbol.Char c)) ≡ true) where
  abbrev asked : View → Query → Bool → View
  asked s q x = record s { know = cond x (told s.know q) (denied q) }

  -- a question: the plan goes on, or the body was replaced
  ask-case : (n : ℕ) (q : Query) (p o : Plan) (t : TokenKind) (s : View) (a b : State) (e : Ending) (z : State) → sound r n (symbol_of t) s (Ask q p o) ≡ true → Models s a → Becomes a b → (x : Bool) → answer q t a ≡ x → Runs r (if x then p else o) t b e z
      → (IsFramed z × (e ≡ Over)) ⊎ ((sound r n (symbol_of t) (asked s q x) (if x then p else o) ≡ true) × Models (asked s q x) b)
  ask-case n q p o t s a b e z h m i true k j =
      let c = both (is_refused q || (replaces_body (symbol_of t) q p || sound r n (symbol_of t) (record s { know = told s.know q }) p)) (is_sure s.know q || sound r n (symbol_of t) (record s { know = denied q }) o) h in
      elim (either (is_refused q) (replaces_body (symbol_of t) q p || sound r n (symbol_of t) (record s { know = told s.know q }) p) c.0) [
        | inl u ↦ absurd (false≢true (sym (refused q u) ∙ k))
        | inr u ↦ elim (either (replaces_body (symbol_of t) q p) (sound r n (symbol_of t) (record s { know = told s.know q }) p) u) [
          | inl v ↦ inl (runs-replaced r q p t s b e z v (models-becomes s a b i m) j)
          | inr v ↦ inr (v, models-becomes (record s { know = told s.know q }) a b i (models-know s (told s.know q) a m (told-known s t a m q k)))
        ]
      ]
    where
      refused : (q : Query) → is_refused q ≡ true → answer q t a ≡ false
      refused ParsesForeign u = m.ground.refused
      refused q u = absurd (false≢true u)
  ask-case n q p o t s a b e z h m i false k j =
      let c = both (is_refused q || (replaces_body (symbol_of t) q p || sound r n (symbol_of t) (record s { know = told s.know q }) p)) (is_sure s.know q || sound r n (symbol_of t) (record s { know = denied q }) o) h in
      elim (either (is_sure s.know q) (sound r n (symbol_of t) (record s { know = denied q }) o) c.1) [
        | inl u ↦ absurd (false≢true (sym k ∙ sure-answer s t a m s.know q m.knows u))
        | inr u ↦ inr (u, models-becomes (record s { know = denied q }) a b i (models-know s (denied q) a m (denied-known s t a m q k)))
      ]

  pub runs-inner : (n : ℕ) (s : View) (p : Plan) (t : TokenKind) (a : State) (e : Ending) (z : State) → sound r n (symbol_of t) s p ≡ true → Models s a → Runs r p t a e z → IsEnd e z
  runs-inner n s _ _ _ _ _ h m (does w p t a b e z i j) =
      let c = both (grows (symbol_of t) w) (spares (symbol_of t) w && ((closes_template w && ends_template p) || ((resets w && is_calm p) || (may (symbol_of t) s w && sound r n (symbol_of t) (moved (symbol_of t) s w) p)))) h in
      let d = both (spares (symbol_of t) w) ((closes_template w && ends_template p) || ((resets w && is_calm p) || (may (symbol_of t) s w && sound r n (symbol_of t) (moved (symbol_of t) s w) p))) c.1 in
      elim (either (closes_template w && ends_template p) ((resets w && is_calm p) || (may (symbol_of t) s w && sound r n (symbol_of t) (moved (symbol_of t) s w) p)) d.1) [
        | inl u ↦ inr (runs-closed r w p t s a b e z u m i j)
        | inr u ↦ elim (either (resets w && is_calm p) (may (symbol_of t) s w && sound r n (symbol_of t) (moved (symbol_of t) s w) p) u) [
          | inl v ↦ inr (runs-mode r w p t s a b e z v m i j)
          | inr v ↦ (let y = both (may (symbol_of t) s w) (sound r n (symbol_of t) (moved (symbol_of t) s w) p) v in
              runs-inner n (moved (symbol_of t) s w) p t b e z y.1 (models-becomes (moved (symbol_of t) s w) (after w t a) b i (word-models s t a m w c.0 d.0 y.0)) j)
        ]
      ]
  runs-inner n s _ _ _ _ _ h m (asks q p o t a b e z i j) =
      elim (ask-case n q p o t s a b e z h m i (answer q t a) refl j) [
        | inl u ↦ inl u
        | inr u ↦ runs-inner n (asked s q (answer q t a)) (if answer q t a then p else o) t b e z u.0 u.1 j
      ]
  runs-inner n s _ _ _ _ _ h m (reconstructs p t a b e z i k j) = runs-inner n (plainly s) p t b e z h (models-moved s a b m i (reopening-made s.need m.hook m.low m.foot a.fostering a.tree b.tree m.ground.held k)) j
  runs-inner n s _ _ _ _ _ h m (adopts g p t a b e z i k j) =
      let c = both (is_formatting g) (sound r n (symbol_of t) (plainly s) p) h in
      runs-inner n (plainly s) p t b e z c.1 (models-moved s a b m i (ended-made s.need m.hook m.low m.foot g c.0 a.fostering a.tree b.tree m.ground.held k)) j
  runs-inner n s _ _ _ _ _ h m (closes_link p t a b e z i k j) = runs-inner n (plainly s) p t b e z h (models-moved s a b m i (link-made s.need m.hook m.low m.foot a.fostering a.tree b.tree m.ground.held k)) j
  runs-inner n s _ _ _ _ _ h m (fosters p t a b c e z i j k) =
      fostered (runs-inner n (plainly s) p t b e c h (models-becomes (plainly s) (record a { fostering = true }) b i (models-fostering (plainly s) a true (models-plainly s a m))) j) k
    where
      fostered : IsEnd e c → Becomes (record c { fostering = false }) z → IsEnd e z
      fostered (inl u) k = inl (framed-core (record c { fostering = false }) z (becomes-core (record c { fostering = false }) z k) (framed-fostering c false u.0), u.1)
      fostered (inr (inl u)) k = inr (inl (outer-core (record c { fostering = false }) z (becomes-core (record c { fostering = false }) z k) (outer-fostering c false u)))
      fostered (inr (inr u)) k = inr (inr (inner-core (record c { fostering = false }) z (becomes-core (record c { fostering = false }) z k) (inner-fostering c false u)))
  runs-inner n s _ _ _ _ _ h m (settles q p t a b e z i j) =
      runs-inner n (plainly s) (Each a.ledger.kept q p) t b e z h (models-becomes (plainly s) (with_kept [] a) b i (models-kept (plainly s) a [] (models-plainly s a m))) j
  runs-inner n s _ _ _ _ _ h m (ends_each q p t a e z j) = runs-inner n (plainly s) p t a e z (both (steady q) (sound r n (symbol_of t) (plainly s) p) h).1 (models-plainly s a m) j
  runs-inner n s _ _ _ _ _ h m (does_each c cs q p t a b e z i j) =
      let k = both (steady q) (sound r n (symbol_of t) (plainly s) p) h in
      runs-inner n (plainly s) (Each cs q p) t b e z h (runs-steady r quiet q c s a Over b k.0 m i) j
  runs-inner n s _ _ _ _ _ h m (stops t a e z i) = inr (inr (record { view = s; models = models-becomes s a z i m; settled = h }))
  runs-inner (suc n) s _ _ _ _ _ h m (goes_by o t a e z j) = runs-inner n (plainly s) (r o (symbol_of t)) t a e z h (models-plainly s a m) j
  runs-inner zero s _ _ _ _ _ h m (goes_by o t a e z j) = absurd (false≢true h)
