-- Before the body, in it, and where a frameset took its place; and what resetting the insertion mode makes of these.
use Rattle.std.proofs.Common.{◌≡◌, ◌⊎◌, ◌≤◌, ℕ, Bool, true, false, not, cond, ◌&&◌, ◌||◌, List, [], ◌∷◌, ◌++◌, unwrap_or, Option, Some, None, inl, inr, refl, sym, ap, subst}
use Rattle.std.specs.List.{list_all, list_any}
use Rattle.std.proofs.lemmas.Bool.{false≢true}
use Rattle.std.proofs.lemmas.List.{append_cancel_right}
use Rattle.html_names.specs.declared.tag.Tag.{Tag}
use Rattle.html_names.specs.declared.tag.Tag.TheVariants as tag
use Rattle.html_names.specs.Sets.{is_formatting}
use Rattle.html_names.specs.Tags.{is_same}
use Rattle.html_tree.specs.OpenTags.{open_tags}
use Rattle.html_construction.specs.declared.mode.Mode.{Mode}
use Rattle.html_construction.specs.declared.mode.Mode.TheVariants as mode
use Rattle.html_construction.specs.Modes.{is_of_frames}
use Rattle.html_construction.specs.Plans.{Ending, Over}
use Rattle.html_construction.specs.Resetting.{element_mode, is_none_left, mode_of, or_mode, outermost_mode, reset_mode, select_mode, template_mode}
use Rattle.html_construction.specs.States.{State}
use Rattle.html_laws.proofs.Tags.{of-all}
use Rattle.html_laws.proofs.Chains.{both, chain, either, is_frame, is_part, is_under, join, left, not-true, over, sits}
use Rattle.html_laws.proofs.Insides.{Anything, Footing, IsInside, Need, asks_nothing, holding, inside-serves, is_need, on_body, on_head, on_template}
use Rattle.html_laws.proofs.Grounds.{Ground, bodies, is_inner}
use Rattle.html_laws.proofs.Judging.{View, need_of, may_rest, waits}
use Rattle.html_laws.proofs.Models.{Models}

-- PHASES

-- the modes before the body
abbrev pub is_outer : Mode → Bool
is_outer mode.Initial = true
is_outer mode.BeforeHtml = true
is_outer mode.BeforeHead = true
is_outer mode.InHead = true
is_outer mode.InHeadNoscript = true
is_outer mode.AfterHead = true
is_outer _ = false

-- those in which an element may hold text alone
abbrev pub holds_text : Mode → Bool
holds_text mode.InHead = true
holds_text mode.InHeadNoscript = true
holds_text mode.AfterHead = true
holds_text _ = false

-- what is open in each, from the current node down
abbrev pub shape : Mode → List Tag
shape mode.BeforeHead = tag.Html ∷ []
shape mode.InHead = tag.Head ∷ tag.Html ∷ []
shape mode.InHeadNoscript = tag.Noscript ∷ tag.Head ∷ tag.Html ∷ []
shape mode.AfterHead = tag.Html ∷ []
shape _ = []

-- in such a mode, or in the text of an element in one
pub data Placed : Mode → Mode → List Tag → Type 0 where
  plainly_placed : (m o : Mode) (us : List Tag) → is_outer m ≡ true → us ≡ shape m → Placed m o us
  text_placed : (o : Mode) (g : Tag) (us : List Tag) → holds_text o ≡ true → us ≡ g ∷ shape o → Placed mode.Text o us

-- There is no body yet, and no template is open.
pub record IsOuter (a : State) : Type 0 where
  pub ground : Ground a
  pub none : bodies a ≡ 0
  pub placed : Placed a.mode a.original (open_tags a.tree)

-- The body is open, or a template before it.
pub record IsInner (a : State) : Type 0 where
  pub view : View
  pub models : Models view a
  pub settled : may_rest view ≡ true

-- A frameset was made, in place of a body or of the one that there was.
pub record IsFramed (a : State) : Type 0 where
  pub ground : Ground a
  pub few : bodies a ≤ 1
  pub framed : a.ledger.history.frameset ≡ true
  pub mode_is : (is_of_frames a.mode ≡ true) ⊎ ((a.mode ≡ mode.Text) × (is_of_frames a.original ≡ true))

abbrev pub Phase : State → Type 0
Phase a = IsFramed a ⊎ (IsOuter a ⊎ IsInner a)

-- where a frameset took the place of the body the entry is over
abbrev pub IsEnd : Ending → State → Type 0
IsEnd e z = (IsFramed z × (e ≡ Over)) ⊎ (IsOuter z ⊎ IsInner z)

-- RESETTING THE MODE

-- a mode that the open elements allow
pub record IsReset (hook : Tag) (low : List Tag) (m : Mode) (tags : List Tag) : Type 0 where
  pub inner : is_inner m ≡ true
  pub inside : IsInside (need_of m) hook low tags

pub inner-waits : (m : Mode) → is_inner m ≡ true → waits m ≡ false
inner-waits mode.Text h = absurd (false≢true h)
inner-waits mode.InTableText h = absurd (false≢true h)
inner-waits m h = refl

template-inner : (ms : List Mode) → list_all is_inner ms ≡ true → is_inner (template_mode ms) ≡ true
template-inner [] h = refl
template-inner (m ∷ []) h = (both (is_inner m) (list_all is_inner []) h).0
template-inner (m ∷ n ∷ ms) h = template-inner (n ∷ ms) ((both (is_inner m) (list_all is_inner (n ∷ ms)) h).1)

select-inner : (below : List Tag) → (is_inner (select_mode below) ≡ true) × (need_of (select_mode below) ≡ Anything)
select-inner [] = (refl, refl)
select-inner (g ∷ below) = by (is_same g tag.Template) (is_same g tag.Table) (select-inner below)
  where
    by : (b c : Bool) → (is_inner (select_mode below) ≡ true) × (need_of (select_mode below) ≡ Anything) → (is_inner (cond b mode.InSelect (cond c mode.InSelectInTable (select_mode below))) ≡ true) × (need_of (cond b mode.InSelect (cond c mode.InSelectInTable (select_mode below))) ≡ Anything)
    by true c k = (refl, refl)
    by false true k = (refl, refl)
    by false false k = k

-- what the mode of an element asks for is the element, or nothing
abbrev answers : Tag → Option Mode → Bool
answers g None = true
answers g (Some m) = is_inner m && (asks_nothing (need_of m) || is_need (need_of m) g)

template-need : (m : Mode) → is_inner m ≡ true → (asks_nothing (need_of m) || is_need (need_of m) tag.Template) ≡ true
template-need mode.InTable h = refl
template-need mode.InTableBody h = refl
template-need mode.InRow h = refl
template-need mode.InTemplate h = refl
template-need m h = refl

mode-answers : (g : Tag) → is_frame g ≡ false → answers g (mode_of g) ≡ true
mode-answers tag.Tr h = refl
mode-answers tag.Tbody h = refl
mode-answers tag.Thead h = refl
mode-answers tag.Tfoot h = refl
mode-answers tag.Caption h = refl
mode-answers tag.Colgroup h = refl
mode-answers tag.Table h = refl
mode-answers tag.Body h = absurd (false≢true (sym h))
mode-answers tag.Frameset h = absurd (false≢true (sym h))
mode-answers g h = refl

element-answers : (head : Option ℕ) (ms : List Mode) (g : Tag) (below : List Tag) → list_all is_inner ms ≡ true → is_frame g ≡ false → answers g (element_mode head ms g below) ≡ true
element-answers head ms tag.Select below h f = (let s = select-inner below in rw (s.0, s.1) refl)
element-answers head ms tag.Td below h f = refl
element-answers head ms tag.Th below h f = refl
element-answers head ms tag.Head below h f = absurd (false≢true (sym f))
element-answers head ms tag.Template below h f = (let i = template-inner ms h in join (is_inner (template_mode ms)) (asks_nothing (need_of (template_mode ms)) || is_need (need_of (template_mode ms)) tag.Template) i (template-need (template_mode ms) i))
element-answers head ms tag.Html below h f = absurd (false≢true (sym f))
element-answers head ms g below h f = mode-answers g f

module _ (context : Option Tag) (head : Option ℕ) (ms : List Mode) (h : list_all is_inner ms ≡ true) where
  -- what is open where the mode of an element answers
  at-mode : (f : Need) (hook : Tag) (low : List Tag) (g : Tag) (gs : List Tag) (m : Mode) → (is_inner m && (asks_nothing (need_of m) || is_need (need_of m) g)) ≡ true → IsInside f hook low (g ∷ gs) → IsReset hook low m (g ∷ gs)
  at-mode f hook low g gs m e i =
      let c = both (is_inner m) (asks_nothing (need_of m) || is_need (need_of m) g) e in
      record {
        inner = c.0;
        inside = elim (either (asks_nothing (need_of m)) (is_need (need_of m) g) c.1) [
          | inl n ↦ record { upper = i.upper; tags_are = i.tags_are; chained = i.chained; holds = left (asks_nothing (need_of m)) _ n }
          | inr n ↦ inside-serves f (need_of m) hook low g gs n i
        ];
      }

  -- one more above
  more : (f : Need) (hook : Tag) (low : List Tag) (g : Tag) (gs : List Tag) (m : Mode) → IsInside f hook low (g ∷ gs) → (us : List Tag) → (g ∷ gs ≡ g ∷ (us ++ hook ∷ low)) → chain hook (g ∷ us) ≡ true → IsReset hook low m (us ++ hook ∷ low) → IsReset hook low m (g ∷ gs)
  more f hook low g gs m i us e c r = record {
    inner = r.inner;
    inside = subst (IsInside (need_of m) hook low) (sym e) (record { upper = g ∷ us; tags_are = refl; chained = c; holds = grown r.inside.upper r.inside.tags_are r.inside.holds });
  }
    where
      same-lists : (us vs : List Tag) → us ++ hook ∷ low ≡ vs ++ hook ∷ low → (q : Tag → Bool) → list_any q us ≡ list_any q vs
      same-lists us vs e q = ap (list_any q) (cancel us vs e)
        where
          cancel : (us vs : List Tag) → us ++ hook ∷ low ≡ vs ++ hook ∷ low → us ≡ vs
          cancel us vs e = append_cancel_right us vs (hook ∷ low) e

      grown : (vs : List Tag) → us ++ hook ∷ low ≡ vs ++ hook ∷ low → holding (need_of m) vs hook ≡ true → holding (need_of m) (g ∷ us) hook ≡ true
      grown vs e k = by (asks_nothing (need_of m)) (is_need (need_of m) g) (list_any (is_need (need_of m)) us) (is_need (need_of m) hook) (subst (λ b. (asks_nothing (need_of m) || (b || is_need (need_of m) hook)) ≡ true) (sym (same-lists us vs e (is_need (need_of m)))) k)
        where
          by : (a b c d : Bool) → (a || (c || d)) ≡ true → (a || ((b || c) || d)) ≡ true
          by true b c d e = refl
          by false true c d e = refl
          by false false c d e = e

  -- the hook answers at the latest
  hook-reset : (hook : Tag) (low : List Tag) → Footing hook low → IsReset hook low (reset_mode context head ms (hook ∷ low)) (hook ∷ low)
  hook-reset _ _ on_body = record { inner = refl; inside = record { upper = []; tags_are = refl; chained = refl; holds = refl } }
  hook-reset _ _ on_template = (let i = template-inner ms h in record { inner = i; inside = record { upper = []; tags_are = refl; chained = refl; holds = template-need (template_mode ms) i } })
  hook-reset _ _ on_head = (let i = template-inner ms h in record { inner = i; inside = record { upper = []; tags_are = refl; chained = refl; holds = template-need (template_mode ms) i } })

  not-frame : (hook : Tag) (g : Tag) (us : List Tag) → (is_formatting g || sits g (over hook us)) ≡ true → is_frame g ≡ false
  not-frame hook g us k = elim (either (is_formatting g) (sits g (over hook us)) k) [
    | inl y ↦ not-true (is_frame g) (imply (is_formatting g) (not (is_frame g)) (of-all (λ v. not (is_formatting v) || not (is_frame v)) refl g) y)
    | inr y ↦ not-true (is_frame g) (both (not (is_frame g)) (not (is_part g) || is_under g (over hook us)) y).0
  ]
    where
      imply : (a b : Bool) → (not a || b) ≡ true → a ≡ true → b ≡ true
      imply true b e h = e
      imply false b e h = absurd (false≢true h)

  some-left : (us : List Tag) (hook : Tag) (low : List Tag) → is_none_left (us ++ hook ∷ low) ≡ false
  some-left [] hook low = refl
  some-left (u ∷ us) hook low = refl

  reset-list : (hook : Tag) (low : List Tag) → Footing hook low → (us : List Tag) → chain hook us ≡ true → IsReset hook low (reset_mode context head ms (us ++ hook ∷ low)) (us ++ hook ∷ low)
  reset-list hook low foot [] c = hook-reset hook low foot
  reset-list hook low foot (g ∷ us) c =
      let k = both (is_formatting g || sits g (over hook us)) (chain hook us) c in
      subst (λ b. IsReset hook low (cond b (outermost_mode head ms (unwrap_or context tag.Html)) (or_mode (element_mode head ms g (us ++ hook ∷ low)) (reset_mode context head ms (us ++ hook ∷ low)))) (g ∷ (us ++ hook ∷ low))) (sym (some-left us hook low))
      (by (element_mode head ms g (us ++ hook ∷ low)) (element-answers head ms g (us ++ hook ∷ low) h (not-frame hook g us k.0)) (reset-list hook low foot us k.1))
    where
      here : IsInside Anything hook low (g ∷ (us ++ hook ∷ low))
      here = record { upper = g ∷ us; tags_are = refl; chained = c; holds = refl }

      by : (o : Option Mode) → answers g o ≡ true → IsReset hook low (reset_mode context head ms (us ++ hook ∷ low)) (us ++ hook ∷ low) → IsReset hook low (or_mode o (reset_mode context head ms (us ++ hook ∷ low))) (g ∷ (us ++ hook ∷ low))
      by None e r = more Anything hook low g (us ++ hook ∷ low) (reset_mode context head ms (us ++ hook ∷ low)) here us refl c r
      by (Some m) e r = at-mode Anything hook low g (us ++ hook ∷ low) m e here

  pub reset-inside : (f : Need) (hook : Tag) (low tags : List Tag) → Footing hook low → IsInside f hook low tags → IsReset hook low (reset_mode context head ms tags) tags
  reset-inside f hook low tags foot i = subst (λ v. IsReset hook low (reset_mode context head ms v) v) (sym i.tags_are) (reset-list hook low foot i.upper i.chained)
