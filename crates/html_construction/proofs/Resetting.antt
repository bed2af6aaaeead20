-- The insertion mode that the open elements call for.
use Rattle.std.proofs.Common.{ℕ, suc, ◌+◌, ◌≡◌, ◌<◌, ◌≤◌, Bool, true, false, List, [], ◌∷◌, ◌++◌, length, take, Option, Some, None, unwrap_or, refl, sym, ap, subst, ◌∙◌, arith, add-one}
use Rattle.std.proofs.Math.Seq.{take-suc}
use Rattle.std.proofs.lemmas.List.{length-take}
use Rattle.std.specs.Prelude.{◌-◌, slice_get, slice_index}
use Rattle.html_construction.proofs.Weighing.{same-tag}
use Rattle.html_names.specs.declared.tag.Tag.{Tag}
use Rattle.html_names.specs.declared.tag.Tag.TheVariants as tag
use Rattle.html_names.specs.Tags.{is_same}
use Rattle.html_arena.specs.Tree.{Tree as Nodes, tag_at}
use Rattle.html_tree.specs.OpenTags.{tags_down}
use Rattle.html_tree.specs.States.{State as Tree}
use Rattle.html_tree.proofs.OpenTags.{length-tags, push-tags}
use Rattle.html_construction.specs.declared.mode.Mode.{Mode}
use Rattle.html_construction.specs.declared.mode.Mode.TheVariants as mode
use Rattle.html_construction.specs.Calls.{IsTree}
use Rattle.html_construction.specs.States.{State}
use Rattle.html_construction.specs.Resetting.{element_mode, is_none_left, mode_of, outermost_mode, reset_mode, select_mode, template_mode}

-- the element at an index comes before those below it
pub down-next : (t : Nodes) (s : List ℕ) (i : ℕ) → i < length s → tags_down t (take (i + 1) s) ≡ tag_at t (slice_index s i) ∷ tags_down t (take i s)
down-next t s i h = rw (add-one, take-suc s i 0 h) (push-tags t (take i s) (slice_index s i))

some-left : (gs : List Tag) → 0 < length gs → is_none_left gs ≡ false
some-left [] h = absurd (omega arith)
some-left (g ∷ gs) h = refl

left-below : (t : Nodes) (s : List ℕ) (i : ℕ) → 1 ≤ i → i < length s → is_none_left (tags_down t (take i s)) ≡ false
left-below t s i h k = some-left (tags_down t (take i s)) (rw (length-tags t (take i s)) (omega (arith, length-take i s)))

module _ (context : Option Tag) (head : Option ℕ) (templates : List Mode) where
  -- an element that calls for a mode, or for none
  pub reset-some : (t : Nodes) (s : List ℕ) (i : ℕ) (m : Mode) → 1 ≤ i → i < length s → element_mode head templates (tag_at t (slice_index s i)) (tags_down t (take i s)) ≡ Some m → reset_mode context head templates (tags_down t (take (i + 1) s)) ≡ m
  reset-some t s i m h k e = rw (down-next t s i k, left-below t s i h k, e) refl

  pub reset-none : (t : Nodes) (s : List ℕ) (i : ℕ) → 1 ≤ i → i < length s → element_mode head templates (tag_at t (slice_index s i)) (tags_down t (take i s)) ≡ None → reset_mode context head templates (tags_down t (take (i + 1) s)) ≡ reset_mode context head templates (tags_down t (take i s))
  reset-none t s i h k e = rw (down-next t s i k, left-below t s i h k, e) refl

  -- the first element, or none
  reset-one : (gs : List Tag) → length gs ≤ 1 → reset_mode context head templates gs ≡ outermost_mode head templates (unwrap_or context tag.Html)
  reset-one [] h = refl
  reset-one (g ∷ []) h = refl
  reset-one (g ∷ u ∷ gs) h = absurd (omega arith)

  pub reset-first : (t : Nodes) (s : List ℕ) (i : ℕ) → i ≤ 1 → reset_mode context head templates (tags_down t (take i s)) ≡ outermost_mode head templates (unwrap_or context tag.Html)
  reset-first t s i h = reset-one (tags_down t (take i s)) (rw (length-tags t (take i s)) (omega (arith, length-take i s)))

-- a select
pub select-template : (t : Nodes) (s : List ℕ) (i : ℕ) → i < length s → tag_at t (slice_index s i) ≡ tag.Template → select_mode (tags_down t (take (i + 1) s)) ≡ mode.InSelect
select-template t s i h e = rw (down-next t s i h, e) refl

pub select-table : (t : Nodes) (s : List ℕ) (i : ℕ) → i < length s → tag_at t (slice_index s i) ≡ tag.Table → select_mode (tags_down t (take (i + 1) s)) ≡ mode.InSelectInTable
select-table t s i h e = rw (down-next t s i h, e) refl

pub select-other : (t : Nodes) (s : List ℕ) (i : ℕ) → i < length s → is_same (tag_at t (slice_index s i)) tag.Template ≡ false → is_same (tag_at t (slice_index s i)) tag.Table ≡ false → select_mode (tags_down t (take (i + 1) s)) ≡ select_mode (tags_down t (take i s))
select-other t s i h e f = rw (down-next t s i h, e, f) refl

-- by name
pub mode_of-none : (g : Tag) → (g ≡ tag.Tr → ⊥) → (g ≡ tag.Tbody → ⊥) → (g ≡ tag.Tfoot → ⊥) → (g ≡ tag.Thead → ⊥) → (g ≡ tag.Caption → ⊥) → (g ≡ tag.Colgroup → ⊥) → (g ≡ tag.Table → ⊥) → (g ≡ tag.Body → ⊥) → (g ≡ tag.Frameset → ⊥) → mode_of g ≡ None
mode_of-none tag.Tr a b c d e f g h i = absurd (a refl)
mode_of-none tag.Tbody a b c d e f g h i = absurd (b refl)
mode_of-none tag.Tfoot a b c d e f g h i = absurd (c refl)
mode_of-none tag.Thead a b c d e f g h i = absurd (d refl)
mode_of-none tag.Caption a b c d e f g h i = absurd (e refl)
mode_of-none tag.Colgroup a b c d e f g h i = absurd (f refl)
mode_of-none tag.Table a b c d e f g h i = absurd (g refl)
mode_of-none tag.Body a b c d e f g h i = absurd (h refl)
mode_of-none tag.Frameset a b c d e f g h i = absurd (i refl)
mode_of-none _ a b c d e f g h i = refl

pub element-other : (head : Option ℕ) (templates : List Mode) (g : Tag) (below : List Tag) → (g ≡ tag.Select → ⊥) → (g ≡ tag.Td → ⊥) → (g ≡ tag.Th → ⊥) → (g ≡ tag.Head → ⊥) → (g ≡ tag.Template → ⊥) → (g ≡ tag.Html → ⊥) → element_mode head templates g below ≡ mode_of g
element-other head templates tag.Select below a b c d e f = absurd (a refl)
element-other head templates tag.Td below a b c d e f = absurd (b refl)
element-other head templates tag.Th below a b c d e f = absurd (c refl)
element-other head templates tag.Head below a b c d e f = absurd (d refl)
element-other head templates tag.Template below a b c d e f = absurd (e refl)
element-other head templates tag.Html below a b c d e f = absurd (f refl)
element-other head templates _ below a b c d e f = refl

pub outermost-other : (head : Option ℕ) (templates : List Mode) (g : Tag) → (g ≡ tag.Select → ⊥) → (g ≡ tag.Html → ⊥) → (g ≡ tag.Template → ⊥) → outermost_mode head templates g ≡ unwrap_or (mode_of g) mode.InBody
outermost-other head templates tag.Select a b c = absurd (a refl)
outermost-other head templates tag.Html a b c = absurd (b refl)
outermost-other head templates tag.Template a b c = absurd (c refl)
outermost-other head templates _ a b c = refl

pub template_mode-last : (ms : List Mode) (m : Mode) → template_mode (ms ++ m ∷ []) ≡ m
template_mode-last [] m = refl
template_mode-last (n ∷ []) m = refl
template_mode-last (n ∷ k ∷ ms) m = template_mode-last (k ∷ ms) m

-- the last
pub template-get : (ms : List Mode) (m : Mode) → slice_get ms (length ms - 1) ≡ Some m → template_mode ms ≡ m
template-get [] m e = absurd (cc)
template-get (n ∷ []) m e = let k : Some n ≡ Some m = e in cc
template-get (n ∷ k ∷ ms) m e = let i : length (n ∷ k ∷ ms) - 1 ≡ suc (length (k ∷ ms) - 1) = omega arith in template-get (k ∷ ms) m (subst (λ (x : ℕ). slice_get (n ∷ k ∷ ms) x ≡ Some m) i e)

other-than : (g x : Tag) → (g ≡ x → ⊥) → is_same g x ≡ false
other-than g x n = bool_of (is_same g x) (λ k. n (same-tag g x k))
  where
    bool_of : (b : Bool) → (b ≡ true → ⊥) → b ≡ false
    bool_of true k = absurd (k refl)
    bool_of false k = refl

-- WHAT LOOPS MEET: u is the tree at first, z the tree now, and w the tree after a look, the same but for steps

abbrev below-of : Tree → ℕ → List Tag
below-of u i = tags_down u.tree (take i u.stack)

look : (u z w : Tree) (i : ℕ) (g : Tag) → z ≡ record u { steps = z.steps } → w ≡ record z { steps = w.steps } → g ≡ tag_at w.tree (slice_index w.stack i) → g ≡ tag_at u.tree (slice_index u.stack i)
look u z w i g a b t = t ∙ ap (λ (x : Tree). tag_at x.tree (slice_index x.stack i)) b ∙ ap (λ (x : Tree). tag_at x.tree (slice_index x.stack i)) a

pub met-template : (u z w : Tree) (n k i : ℕ) (g : Tag) → z ≡ record u { steps = z.steps } → w ≡ record z { steps = w.steps } → k ≡ i + 1 → i < length u.stack → g ≡ tag_at w.tree (slice_index w.stack i) → select_mode (below-of u k) ≡ select_mode (below-of u n) → g ≡ tag.Template → mode.InSelect ≡ select_mode (below-of u n)
met-template u z w n k i g a b e h t l f = sym (select-template u.tree u.stack i h (sym (look u z w i g a b t) ∙ f)) ∙ ap (λ (j : ℕ). select_mode (below-of u j)) (sym e) ∙ l

pub met-table : (u z w : Tree) (n k i : ℕ) (g : Tag) → z ≡ record u { steps = z.steps } → w ≡ record z { steps = w.steps } → k ≡ i + 1 → i < length u.stack → g ≡ tag_at w.tree (slice_index w.stack i) → select_mode (below-of u k) ≡ select_mode (below-of u n) → g ≡ tag.Table → mode.InSelectInTable ≡ select_mode (below-of u n)
met-table u z w n k i g a b e h t l f = sym (select-table u.tree u.stack i h (sym (look u z w i g a b t) ∙ f)) ∙ ap (λ (j : ℕ). select_mode (below-of u j)) (sym e) ∙ l

pub met-other : (u z w : Tree) (n k i : ℕ) (g : Tag) → z ≡ record u { steps = z.steps } → w ≡ record z { steps = w.steps } → k ≡ i + 1 → i < length u.stack → g ≡ tag_at w.tree (slice_index w.stack i) → select_mode (below-of u k) ≡ select_mode (below-of u n) → (g ≡ tag.Template → ⊥) → (g ≡ tag.Table → ⊥) → select_mode (below-of u i) ≡ select_mode (below-of u n)
met-other u z w n k i g a b e h t l x y =
    let f = look u z w i g a b t in
    sym (select-other u.tree u.stack i h (subst (λ (j : Tag). is_same j tag.Template ≡ false) f (other-than g tag.Template x)) (subst (λ (j : Tag). is_same j tag.Table ≡ false) f (other-than g tag.Table y)))
    ∙ ap (λ (j : ℕ). select_mode (below-of u j)) (sym e) ∙ l

pub same-again : (u z : Tree) (b : State) → z ≡ record u { steps = z.steps } → b.tree ≡ record z { steps = b.tree.steps } → IsTree u b
same-again u z b a e = record { tree_is = e ∙ ap (λ (x : Tree). record x { steps = b.tree.steps }) a }

pub ruleset resetting_rules = (reset-some, reset-none, reset-first, select-template, select-table, select-other, mode_of-none, element-other, outermost-other)
