-- The events of a forest are the steps of a walk.
use Rattle.std.proofs.Common.{◌≡◌, ℕ, zero, suc, ◌<◌, ◌≤◌, true, false, eqb, List, [], ◌∷◌, ◌++◌, length, None, inl, inr, refl, sym, ◌∙◌, ap, subst, arith}
use Rattle.std.proofs.lemmas.List.{append_assoc}
use Rattle.html_arena.specs.Siblings.{has, first_of}
use Rattle.html_arena.specs.Tree.{Tree, WellFormed, label_of}
use Rattle.html_arena.proofs.Siblings.{cases_eqb, cases_bool, eqb-self, has-append}
use Rattle.html_arena.specs.declared.walk.Show.{Show}
use Rattle.html_arena.specs.declared.walk.Event.{Event}
use Rattle.html_arena.specs.declared.walk.Event.TheVariants.{Enter, Leave}
use Rattle.html_arena.specs.Forest.{Forest}
use Rattle.html_arena.specs.Forest.Forest.{empty, tree}
use Rattle.html_arena.specs.Data.{host_in}
use Rattle.html_arena.specs.Below.{kids, above, or_self, below, IsForestAt}
use Rattle.html_arena.specs.Steps.{events, events_then, enter_or, step, steps_from, Remain}
use Rattle.html_arena.specs.Walking.{Upward}
use Rattle.html_arena.proofs.Shown.{IsKid, kid, kid_after, below_is}
use Rattle.html_arena.proofs.Upward.{Upward-same}

-- there is one list of events
pub steps_from-is : (n : ℕ) (s : Show) (t : Tree) (r : ℕ) (e : Event) (es : List Event) → Remain s t r e es → length es < n → steps_from n s t r e ≡ es
steps_from-is zero s t r e es m l = absurd (omega arith)
steps_from-is (suc n) s t r e [] m l = rw m (rw (eqb-self r) refl)
steps_from-is (suc n) s t r e (f ∷ es) m l =
    rw m.1 (rw (steps_from-is n s t r (step s t e) es m.3 (omega arith)) (ap (λ v. v ∷ es) (sym m.0)))

module _ (s : Show) (t : Tree) (w : WellFormed t) (r : ℕ) (us : List ℕ) (top : Upward (above t) r us) where
  apart_from_root : (p x : ℕ) (vs : List ℕ) → Upward (above t) p vs → length us ≤ length vs → IsKid s t w p x → eqb x r ≡ false
  apart_from_root p x vs a l i = elim (cases_eqb x r) [
    | inl e ↦ absurd (
        let b : Upward (above t) r (p ∷ vs) = subst (λ (v : ℕ). Upward (above t) v (p ∷ vs)) e.1 (i.up, a) in
        let m = ap length (Upward-same (above t) r us (p ∷ vs) top b) in
        omega arith)
    | inr e ↦ e.0
  ]

  remain : (f : Forest ℕ) (p : ℕ) (vs : List ℕ) → Upward (above t) p vs → length us ≤ length vs → (done xs : List ℕ) (es : List Event) → host_in (label_of t p) ≡ None → kids s t p ≡ done ++ xs
      → IsForestAt s t xs f → Remain s t r (Leave p) es → Remain s t r (enter_or (Leave p) (first_of xs)) (events_then f es)
  remain empty p vs v l done [] es n e a b = b
  remain empty p vs v l done (x ∷ xs) es n e a b = absurd a
  remain (tree y f g) p vs v l done [] es n e a b = absurd a
  remain (tree y f g) p vs v l done (x ∷ xs) es n e a b =
      let here : has x (kids s t p) ≡ true = ap (has x) e ∙ has-append x done (x ∷ xs) ∙ elim (cases_bool (has x done)) [ inl v ↦ rw v refl | inr v ↦ rw (v, eqb-self x) refl ] in
      let i = kid s t w p x n here in
      let next : step s t (Leave x) ≡ enter_or (Leave p) (first_of xs) =
      ap (λ o. enter_or (Leave (or_self x (above t x))) o) (kid_after s t w p x done xs n e i) ∙ ap (λ o. enter_or (Leave (or_self x o)) (first_of xs)) i.up in
      let later = remain g p vs v l (done ++ x ∷ []) xs es n (e ∙ sym (append_assoc done (x ∷ []) xs)) a.2 b in
      let leave : Remain s t r (Leave x) (Leave x ∷ events_then g es) =
      (refl, apart_from_root p x vs v l i, i.inside, subst (λ (v : Event). Remain s t r v (events_then g es)) (sym next) later) in
      let inner = remain f x (p ∷ vs) (i.up, v) (omega arith) [] (kids s t x) (Leave x ∷ events_then g es) i.plain refl a.1 leave in
      (ap Enter a.0, refl, i.inside, subst (λ (v : ℕ). Remain s t r (step s t (Enter x)) (events_then f (Leave v ∷ events_then g es))) (sym a.0) inner)

  -- a walk from a node goes through its forest
  pub remain_all : host_in (label_of t r) ≡ None → Remain s t r (step s t (Enter r)) (events (below s t r))
  remain_all n = remain (below s t r) r us top (omega arith) [] (kids s t r) [] n refl (below_is s t w r us n top) refl
