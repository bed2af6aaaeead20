-- One step up.
use Rattle.std.proofs.Common.{◌≡◌, ℕ, zero, suc, ◌-◌, ◌<◌, true, false, eqb, Some, None, refl, sym, ap, arith}
use Rattle.html_arena.specs.Below.{above}
use Rattle.html_arena.specs.Tree.{Tree}
use Rattle.html_dom.specs.Places.{ends_within, meets_within}

pub ends-top : (n : ℕ) (t : Tree) (x : ℕ) → 0 < n → above t x ≡ None → ends_within n t x ≡ true
ends-top zero t x l e = absurd (omega arith)
ends-top (suc n) t x l e = rw e refl

pub ends-up : (n : ℕ) (t : Tree) (x y : ℕ) → 0 < n → above t x ≡ Some y → ends_within n t x ≡ ends_within (n - 1) t y
ends-up zero t x y l e = absurd (omega arith)
ends-up (suc n) t x y l e = rw e (let k : suc n - 1 ≡ n = omega arith in ap (λ m. ends_within m t y) (sym k))

pub meets-here : (n : ℕ) (t : Tree) (c x : ℕ) → eqb c x ≡ true → meets_within n t c x ≡ true
meets-here zero t c x e = refl
meets-here (suc n) t c x e = rw e refl

pub meets-top : (n : ℕ) (t : Tree) (c x : ℕ) → 0 < n → eqb c x ≡ false → above t x ≡ None → meets_within n t c x ≡ false
meets-top zero t c x l f e = absurd (omega arith)
meets-top (suc n) t c x l f e = rw (f, e) refl

pub meets-up : (n : ℕ) (t : Tree) (c x y : ℕ) → 0 < n → eqb c x ≡ false → above t x ≡ Some y → meets_within n t c x ≡ meets_within (n - 1) t c y
meets-up zero t c x y l f e = absurd (omega arith)
meets-up (suc n) t c x y l f e = rw (f, e) (let k : suc n - 1 ≡ n = omega arith in ap (λ m. meets_within m t c y) (sym k))

pub ends-none : (n : ℕ) (t : Tree) (x : ℕ) → n ≡ 0 → ends_within n t x ≡ false
ends-none n t x e = rw e refl

pub meets-none : (n : ℕ) (t : Tree) (c x : ℕ) → n ≡ 0 → meets_within n t c x ≡ true
meets-none n t c x e = rw e refl
