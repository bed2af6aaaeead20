-- A walk meets nodes of the tree alone, and enters none of them twice.
use Rattle.std.proofs.Common.{◌≡◌, ℕ, suc, ◌+◌, ◌<◌, ◌≤◌, true, false, eqb, List, [], ◌∷◌, ◌++◌, length, inl, inr, refl, sym, ◌∙◌, ap, subst, arith, append_assoc, append-nil}
use Rattle.std.specs.List.{All}
use Rattle.std.proofs.lemmas.List.Elements.{All-cons}
use Rattle.html_arena.specs.declared.walk.Show.{Show}
use Rattle.html_arena.specs.declared.walk.Event.{Event}
use Rattle.html_arena.specs.declared.walk.Event.TheVariants.{Enter, Leave}
use Rattle.html_arena.specs.Below.{below}
use Rattle.html_arena.specs.Forest.{Forest, labels}
use Rattle.html_arena.specs.Forest.Forest.{empty, tree}
use Rattle.html_arena.specs.Siblings.{has, Distinct}
use Rattle.html_arena.specs.Steps.{events, events_then, step, node_in, Remain}
use Rattle.html_arena.specs.Tree.{Tree, WellFormed}
use Rattle.html_arena.specs.Walking.{IsPlaced}
use Rattle.html_arena.proofs.Events.{steps_from-is, remain_all}
use Rattle.html_arena.proofs.Siblings.{cases_bool, cases_eqb}

-- the nodes that are entered
abbrev enters : List Event → List ℕ
enters [] = []
enters (Enter x ∷ es) = x ∷ enters es
enters (Leave x ∷ es) = enters es

enters_then : (f : Forest ℕ) (es : List Event) → enters (events_then f es) ≡ labels f ++ enters es
enters_then empty es = refl
enters_then (tree x f g) es =
    ap (λ l. x ∷ l) (enters_then f (Leave x ∷ events_then g es) ∙ ap (λ l. labels f ++ l) (enters_then g es) ∙ sym (append_assoc (labels f) (labels g) (enters es)))

module _ (s : Show) (t : Tree) (r : ℕ) where
  one_list : (e : Event) (es fs : List Event) → Remain s t r e es → Remain s t r e fs → es ≡ fs
  one_list e es fs a b =
      let n = suc (length es + length fs) in
      sym (steps_from-is n s t r e es a (omega arith)) ∙ steps_from-is n s t r e fs b (omega arith)

  from_there : (e : Event) (es : List Event) (x : ℕ) → Remain s t r e es → has x (enters es) ≡ true → (fs : List Event) × Remain s t r (Enter x) fs × (length fs ≤ length es)
  from_there e [] x a h = absurd cc
  from_there e (Enter y ∷ es) x a h = elim (cases_eqb x y) [
    | inl k ↦ (Enter y ∷ es, subst (λ (v : Event). Remain s t r v (Enter y ∷ es)) (sym a.0 ∙ ap Enter (sym k.1)) a, omega arith)
    | inr k ↦ (let q : eqb x y ≡ false = k.0 in let c = from_there (step s t e) es x a.3 (rw q at h) in (c.0, c.1, omega arith))
  ]
  from_there e (Leave y ∷ es) x a h = let c = from_there (step s t e) es x a.3 h in (c.0, c.1, omega arith)

  entered_once : (e : Event) (es : List Event) → Remain s t r e es → Distinct (enters es)
  entered_once e [] a = tt
  entered_once e (Enter y ∷ es) a = (
    elim (cases_bool (has y (enters es))) [
      | inl k ↦ absurd (
          let c = from_there (step s t e) es y a.3 k in
          let b : Remain s t r (Enter y) (Enter y ∷ es) = subst (λ (v : Event). Remain s t r v (Enter y ∷ es)) (sym a.0) a in
          let l = ap length (one_list (Enter y) (Enter y ∷ es) c.0 b c.1) in
          let m = c.2 in
          omega arith)
      | inr k ↦ k
    ],
    entered_once (step s t e) es a.3,
  )
  entered_once e (Leave y ∷ es) a = entered_once (step s t e) es a.3

  entered_inside : (e : Event) (es : List Event) → Remain s t r e es → (x : ℕ) → has x (enters es) ≡ true → x < length t.labels
  entered_inside e [] a x h = absurd cc
  entered_inside e (Enter y ∷ es) a x h = elim (cases_eqb x y) [
    | inl k ↦ (let b : node_in (Enter y) < length t.labels = subst (λ (v : Event). node_in v < length t.labels) (sym a.0) a.2 in let m = k.1 in omega arith)
    | inr k ↦ (let q : eqb x y ≡ false = k.0 in entered_inside (step s t e) es a.3 x (rw q at h))
  ]
  entered_inside e (Leave y ∷ es) a x h = entered_inside (step s t e) es a.3 x h

  nothing : All (λ (e : Event). node_in e < length t.labels) []
  nothing = λ k d b. absurd (omega arith)

  pub all_inside : (e : Event) (es : List Event) → Remain s t r e es → All (λ (e : Event). node_in e < length t.labels) es
  all_inside e [] a = nothing
  all_inside e (f ∷ es) a =
      All-cons (λ (e : Event). node_in e < length t.labels) f es
      (subst (λ (v : Event). node_in v < length t.labels) (sym a.0) a.2) (all_inside (step s t e) es a.3)

module _ (s : Show) (t : Tree) (r : ℕ) (w : WellFormed t) (o : IsPlaced t r) where
  forest_enters : enters (events (below s t r)) ≡ labels (below s t r)
  forest_enters = enters_then (below s t r) [] ∙ append-nil (labels (below s t r))

  pub forest_once : Distinct (labels (below s t r))
  forest_once = subst Distinct forest_enters (entered_once s t r _ _ (remain_all s t w r o.ups o.rises o.no_host))

  pub forest_inside : (x : ℕ) → has x (labels (below s t r)) ≡ true → x < length t.labels
  forest_inside x h = entered_inside s t r _ _ (remain_all s t w r o.ups o.rises o.no_host) x (ap (has x) forest_enters ∙ h)

  pub events_inside : All (λ (e : Event). node_in e < length t.labels) (events (below s t r))
  events_inside = all_inside s t r _ _ (remain_all s t w r o.ups o.rises o.no_host)
