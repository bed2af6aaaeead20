-- What stands above a node, by what its nodes have for parents.
use Rattle.std.proofs.Common.{◌≡◌, ℕ, zero, suc, ◌<◌, true, false, List, [], ◌∷◌, length, Option, Some, None, inl, inr, refl, sym, subst}
use Rattle.html_arena.specs.Siblings.{has}
use Rattle.html_arena.specs.Tree.{Tree, WellFormed, Climbs, ancestors, ancestors_within, children_of, parent_of}
use Rattle.html_arena.proofs.Laws.{ancestors-climb, climbs-closed}
use Rattle.html_open.specs.declared.places.Place.{Place}
use Rattle.html_open.specs.declared.places.Place.TheVariants.{Last, Before}
use Rattle.html_open.specs.Placing.{way_up}
use Rattle.html_open.proofs.Keeps.{cases_bool, cases_eqb, eqb-self}

-- no node is its own parent
pub no_self : (t : Tree) (x : ℕ) (us : List ℕ) → Climbs t x us → parent_of t x ≡ Some x → ⊥
no_self t x [] c h = (let k = c in cc)
no_self t x (u ∷ us) c h = (let e : u ≡ x = (let k = c.0 in cc) in no_self t x us (subst (λ (v : ℕ). Climbs t v us) e c.1) h)

-- no node is its own child
pub not_own : (t : Tree) → WellFormed t → (x : ℕ) → x < length t.labels → has x (children_of t x) ≡ false
not_own t w x b = elim (cases_bool (has x (children_of t x))) [
  | inl e ↦ absurd (no_self t x _ (w.climbs x b).1 (w.child_has_parent x x e))
  | inr e ↦ e
]

-- what holds of a node, and of the parent of each node of which it holds, holds of all that stand above the node
module _ (t : Tree) (P : ℕ → Type 0) (closed : (z p : ℕ) → P z → parent_of t z ≡ Some p → P p) where
  up : (n : ℕ) (o : Option ℕ) → ((p : ℕ) → o ≡ Some p → P p) → (y : ℕ) → has y (ancestors_within n t.parents o) ≡ true → P y
  up zero o h y e = absurd (let k = e in cc)
  up (suc n) None h y e = absurd (let k = e in cc)
  up (suc n) (Some p) h y e = elim (cases_eqb y p) [
    | inl q ↦ subst P (sym q.1) (h p refl)
    | inr q ↦ up n (parent_of t p) (λ r k. closed p r (h p refl) k) y (rw q.0 at e)
  ]

  pub above-all : (x : ℕ) → P x → (y : ℕ) → has y (ancestors t x) ≡ true → P y
  above-all x h y e = up (length t.labels) (parent_of t x) (λ p k. closed x p h k) y e

  pub not-above : (x y : ℕ) → P x → (P y → ⊥) → has y (ancestors t x) ≡ false
  not-above x y h n = elim (cases_bool (has y (ancestors t x))) [
    | inl e ↦ absurd (n (above-all x h y e))
    | inr e ↦ e
  ]

-- the parent of a node, or of one above it, stands above it
pub above-closed : (t : Tree) → WellFormed t → (x z p : ℕ) → x < length t.labels → has z (x ∷ ancestors t x) ≡ true → parent_of t z ≡ Some p → has p (ancestors t x) ≡ true
above-closed t w x z p b h e = climbs-closed t z p x (ancestors t x) (ancestors-climb t w x b).0 h e

pub has-more : (y x : ℕ) (xs : List ℕ) → has y xs ≡ true → has y (x ∷ xs) ≡ true
has-more y x xs h = elim (cases_eqb y x) [ inl q ↦ rw q.0 refl | inr q ↦ rw q.0 h ]

pub has-first : (x : ℕ) (xs : List ℕ) → has x (x ∷ xs) ≡ true
has-first x xs = rw (eqb-self x) refl

-- the same for the way up from a place
pub way-closed : (t : Tree) → WellFormed t → (at : Place) → ((x : ℕ) → has x (way_up t at) ≡ true → x < length t.labels) → (z p : ℕ) → has z (way_up t at) ≡ true
    → parent_of t z ≡ Some p → has p (way_up t at) ≡ true
way-closed t w (Last x) b z p h e = has-more p x (ancestors t x) (above-closed t w x z p (b x (has-first x (ancestors t x))) h e)
way-closed t w (Before x) b z p h e = has-more p x (ancestors t x) (above-closed t w x z p (b x (has-first x (ancestors t x))) h e)
