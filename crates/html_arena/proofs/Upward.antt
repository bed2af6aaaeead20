-- Following a link upwards, as a function of the node's number: one way up, no node twice on it.
use Rattle.std.proofs.Common.{◌≡◌, ℕ, ◌<◌, true, false, eqb, List, [], ◌∷◌, length, Option, Some, None, inl, inr, refl, sym, ◌∙◌, ap, subst, arith}
use Rattle.html_arena.specs.Siblings.{has, Distinct}
use Rattle.html_arena.specs.Walking.{Upward}
use Rattle.html_arena.proofs.Siblings.{cases_eqb, cases_bool}
use Rattle.html_arena.proofs.Kids.{length-le_below}

pub Upward-same : (up : ℕ → Option ℕ) (x : ℕ) (us vs : List ℕ) → Upward up x us → Upward up x vs → us ≡ vs
Upward-same up x [] [] a b = refl
Upward-same up x [] (v ∷ vs) a b = absurd (let k = b.0 in cc)
Upward-same up x (u ∷ us) [] a b = absurd (let k = a.0 in cc)
Upward-same up x (u ∷ us) (v ∷ vs) a b =
    let e : u ≡ v = (let k = a.0 in let m = b.0 in cc) in
    let f : Upward up v us = subst (λ (w : ℕ). Upward up w us) e a.1 in
    ap (λ w. w ∷ us) e ∙ ap (λ w. v ∷ w) (Upward-same up v us vs f b.1)

part_of : (up : ℕ → Option ℕ) (x y : ℕ) (us : List ℕ) → Upward up x us → has y us ≡ true → (vs : List ℕ) × Upward up y vs × (length vs < length us)
part_of up x y [] a h = absurd cc
part_of up x y (u ∷ us) a h = elim (cases_eqb y u) [
  | inl e ↦ (us, subst (λ (w : ℕ). Upward up w us) (sym e.1) a.1, omega arith)
  | inr e ↦
      let t : eqb y u ≡ false = e.0 in
      let r = part_of up u y us a.1 (rw t at h) in
      (r.0, r.1, omega arith)
]

pub not_above_itself : (up : ℕ → Option ℕ) (x : ℕ) (us : List ℕ) → Upward up x us → has x us ≡ false
not_above_itself up x us a = elim (cases_bool (has x us)) [
  | inl e ↦ absurd (let r = part_of up x x us a e in let s = ap length (Upward-same up x us r.0 a r.1) in omega arith)
  | inr e ↦ e
]

Upward-distinct : (up : ℕ → Option ℕ) (x : ℕ) (us : List ℕ) → Upward up x us → Distinct (x ∷ us)
Upward-distinct up x [] a = (refl, tt)
Upward-distinct up x (u ∷ us) a = (not_above_itself up x (u ∷ us) a, Upward-distinct up u us a.1)

Upward-below : (up : ℕ → Option ℕ) (n : ℕ) → ((x p : ℕ) → up x ≡ Some p → p < n) → (x : ℕ) (us : List ℕ) → Upward up x us → (q : ℕ) → has q us ≡ true → q < n
Upward-below up n in_range x [] a q h = absurd cc
Upward-below up n in_range x (u ∷ us) a q h = elim (cases_eqb q u) [
  | inl e ↦ (let w = e.1 in let b = in_range x u a.0 in omega arith)
  | inr e ↦ (let t : eqb q u ≡ false = e.0 in Upward-below up n in_range u us a.1 q (rw t at h))
]

-- fewer steps lead up than there are nodes
pub Upward-length : (up : ℕ → Option ℕ) (n : ℕ) → ((x p : ℕ) → up x ≡ Some p → p < n) → (x : ℕ) (us : List ℕ) → Upward up x us → x < n → length us < n
Upward-length up n in_range x us a l =
    let b = length-le_below (x ∷ us) n (Upward-distinct up x us a) (λ q h. elim (cases_eqb q x) [
      | inl e ↦ (let w = e.1 in omega arith)
      | inr e ↦ (let t : eqb q x ≡ false = e.0 in Upward-below up n in_range x us a q (rw t at h))
    ]) in
    omega arith
