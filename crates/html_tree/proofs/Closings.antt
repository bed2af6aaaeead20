-- Elements that are closed: those whose end tags are implied, and one wherever it stands.
use Rattle.std.proofs.Common.{◌≡◌, ℕ, zero, suc, ◌+◌, ◌*◌, ◌≤◌, Bool, true, false, ◌||◌, eqb, List, [], ◌∷◌, ◌++◌, length, take, Option, Some, None, inl, inr, refl, sym, ◌∙◌, ap, subst, arith}
use Rattle.std.specs.List.{list_any}
use Rattle.html_names.specs.Tags.{is_same}
use Rattle.html_names.specs.declared.tag.Tag.{Tag}
use Rattle.html_names.specs.declared.tag.Tag.TheVariants as tag
use Rattle.html_arena.specs.declared.marks.Mark.TheVariants.{OnStack}
use Rattle.html_arena.specs.Data.{tag_in}
use Rattle.html_arena.specs.Siblings.{first_of, has, is_in}
use Rattle.html_arena.specs.Tree.{Tree, label_of, more, with_marked}
use Rattle.html_open.specs.declared.entry.Entry.{Entry}
use Rattle.html_open.specs.Entries.{removal_steps}
use Rattle.html_open.specs.Lists.{above, after_index, below, last_index, up_to, without_last}
use Rattle.html_open.specs.Marking.{bare, charged}
use Rattle.html_open.specs.Opened.{IsOpen, open_at}
use Rattle.html_open.specs.Scopes.{stays, tag_stays}
use Rattle.html_open.proofs.Keeps.{cases_bool, has-tail, split-last}
use Rattle.html_open.proofs.Lists.{after-up_to, looked-some}
use Rattle.html_open.proofs.SafePlaces.{same-tag}
use Rattle.html_tree.specs.Closing.{first_few, kept_to, remaining}
use Rattle.html_tree.specs.Since.{Grown, Keeps}
use Rattle.html_tree.specs.States.{IsUnderWay, State, state_of}
use Rattle.html_tree.proofs.Relisting.{removal-most, without-most}
use Rattle.html_tree.proofs.Kept.{closed-grown, closed-keeps, more-most, same-state, same-under_way}

or-true : (b : Bool) → (b || true) ≡ true
or-true true = refl
or-true false = refl

-- the elements up to the last that passes, where the first passes
pub first-few-up : (p : ℕ → Bool) (s : List ℕ) → ((x : ℕ) → first_of s ≡ Some x → p x ≡ true) → first_few (after_index (last_index p s)) s ≡ up_to p s
first-few-up p [] h = by (kept_to 0 (after_index (last_index p [])))
  where
    by : (n : ℕ) → take n [] ≡ up_to p []
    by zero = refl
    by (suc n) = refl
first-few-up p (x ∷ s) h = go (last_index p (x ∷ s)) refl
  where
    any : list_any p (x ∷ s) ≡ true
    any = (let q = h x refl in rw q refl)

    go : (o : Option ℕ) → o ≡ last_index p (x ∷ s) → first_few (after_index o) (x ∷ s) ≡ up_to p (x ∷ s)
    go None e = absurd (let k : None ≡ Some (length (below p (x ∷ s))) = e ∙ rw any refl in cc)
    go (Some i) e = (let b = looked-some p (x ∷ s) i (sym e) in
        let k : kept_to (length (x ∷ s)) (i + 1) ≡ i + 1 = (let c = b.1 in omega arith) in
        ap (λ n. take n (x ∷ s)) k ∙ after-up_to p (x ∷ s) (Some i) e)

html-stays : (except : Option Tag) (g : Tag) → is_same g tag.Html ≡ true → tag_stays except g ≡ true
html-stays except g e = subst (λ v. tag_stays except v ≡ true) (sym (same-tag g tag.Html e)) refl

pub implied-stack : (s : List ℕ) (l : List Entry) (t : Tree) (n : ℕ) (h f d : Option ℕ) (except : Option Tag) → IsUnderWay s l t n h f d
    → first_few (after_index (last_index (stays t except) s)) s ≡ up_to (stays t except) s
implied-stack s l t n h f d except p = first-few-up (stays t except) s (λ x i. html-stays except (tag_in (label_of t x)) (p.first x i).1)

pub charged-popped : (a b c : State) (k : ℕ) (s : List ℕ) → b ≡ record a { steps = b.steps } → c ≡ record b { stack = first_few k b.stack; steps = c.steps } → first_few k a.stack ≡ s
    → c ≡ record a { stack = s; steps = c.steps }
charged-popped a b c k s e f g = f ∙ ap (λ (v : State). record v { stack = first_few k v.stack; steps = c.steps }) e ∙ ap (λ v. record a { stack = v; steps = c.steps }) g

-- one element less
pub without-has : (x : ℕ) (p : ℕ → Bool) (s : List ℕ) → has x s ≡ false → has x (without_last p s) ≡ false
without-has x p s h = elim (cases_bool (list_any p s)) [
  | inl e ↦ (let k = split-last p s e in let j : has x (below p s ++ k.0 ∷ above p s) ≡ false = subst (λ v. has x v ≡ false) k.1 h in rw e (less (below p s) k.0 (above p s) j))
  | inr e ↦ rw e h
]
  where
    less : (xs : List ℕ) (y : ℕ) (ys : List ℕ) → has x (xs ++ y ∷ ys) ≡ false → has x (xs ++ ys) ≡ false
    less [] y ys h = (has-tail x y ys h).1
    less (z ∷ xs) y ys h = (let t = has-tail x z (xs ++ y ∷ ys) h in rw t.0 (less xs y ys t.1))

pub without-first : (x : ℕ) (s : List ℕ) → is_in x (first_of s) ≡ false → first_of (without_last (eqb x) s) ≡ first_of s
without-first x [] h = refl
without-first x (y ∷ s) h = (let k : eqb x y ≡ false = h in elim (cases_bool (list_any (eqb x) s)) [ inl e ↦ rw (k, e) refl | inr e ↦ rw (k, e) refl ])

module _ (a : State) (s s' : List ℕ) (l : List Entry) (t u : Tree) (n x : ℕ) (h f d : Option ℕ) (w : state_of s l t n h f d ≡ a) (i : s' ≡ without_last (eqb x) s) (e : u ≡ charged (with_marked t OnStack x false) (removal_steps (eqb x) s)) (off : is_in x (first_of s) ≡ false) where
  pub removed-exact : state_of s' l u n h f d ≡ record a { stack = remaining x a.stack; steps = u.steps }
  removed-exact = subst (λ (b : State). state_of s' l u n h f d ≡ record b { stack = remaining x b.stack; steps = u.steps }) w
      (same-state (remaining x s) s' l l (bare t) (bare u) u.steps n h f d (i ∙ rw off refl) refl (ap bare e))

  pub removed-under_way : IsOpen (open_at s' l u) → IsUnderWay s l t n h f d → IsUnderWay s' l u n h f d
  removed-under_way o p = same-under_way s s' l l t u n h f d (ap (λ (v : Tree). v.labels) e) (ap first_of i ∙ without-first x s off) o p

  off-too : is_in x (first_of a.stack) ≡ false
  off-too = subst (λ (b : State). is_in x (first_of b.stack) ≡ false) w off

  pub removed-keeps : Keeps a (state_of s' l u n h f d)
  removed-keeps = closed-keeps a (state_of s' l u n h f d) (remaining x a.stack) removed-exact (rw off-too (without-first x a.stack off-too)) (λ y k. rw off-too (without-has y (eqb x) a.stack k))
      (let i : u.steps ≡ more t.steps (removal_steps (eqb x) s) = ap (λ (v : Tree). v.steps) e in let j : t.steps ≡ a.steps = ap (λ (v : State). v.steps) w in omega (arith, i, j))

  pub removed-grown : Grown 0 0 0 0 a (state_of s' l u n h f d)
  removed-grown = closed-grown a (state_of s' l u n h f d) (remaining x a.stack) removed-exact (rw off-too (without-first x a.stack off-too)) (rw off-too (without-most (eqb x) a.stack))

  pub removed-steps : u.steps ≤ a.steps + 2 * length a.stack + 1
  removed-steps =
      let k : u.steps ≡ more t.steps (removal_steps (eqb x) s) = ap (λ (v : Tree). v.steps) e in
      let m = more-most t.steps (removal_steps (eqb x) s) in
      let r = removal-most (eqb x) s in
      subst (λ (b : State). u.steps ≤ b.steps + 2 * length b.stack + 1) w (omega (arith, k, m, r))
