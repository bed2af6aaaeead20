-- Cases of a test, and of two together.
use Rattle.std.proofs.Common.{◌≡◌, Bool, true, false, ◌⊎◌, inl, inr, refl, ◌&&◌}

pub cases_bool : (b : Bool) → (b ≡ true) ⊎ (b ≡ false)
cases_bool true = inl refl
cases_bool false = inr refl

pub and_first : (a b : Bool) → a && b ≡ true → a ≡ true
and_first true b e = refl
and_first false b e = e

pub and_rest : (a b : Bool) → a && b ≡ true → b ≡ true
and_rest true b e = e
and_rest false b e = absurd cc
