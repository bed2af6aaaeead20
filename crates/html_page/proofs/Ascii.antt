-- Texts in ASCII are their own bytes.
use Rattle.std.proofs.Common.{◌≡◌, ℕ, Bool, true, false, nat_lt, List, [], ◌∷◌, ◌⊎◌, inl, inr, refl, arith, zero, suc}
use Rattle.std.specs.Str.{IsAscii}
use Rattle.std.specs.List.{list_all}
use Rattle.std.proofs.lemmas.Bool.Decides.{nat_tests}

abbrev pub is_ascii : List ℕ → Bool
is_ascii m = list_all (λ c. nat_lt c 128) m

cases_bool : (b : Bool) → (b ≡ true) ⊎ (b ≡ false)
cases_bool true = inl refl
cases_bool false = inr refl

pub ascii_from : (m : List ℕ) → is_ascii m ≡ true → IsAscii m
ascii_from [] h i = omega arith
ascii_from (c ∷ m) h zero = elim (cases_bool (nat_lt c 128)) [ inl e ↦ grind (arith, nat_tests) | inr e ↦ absurd (let k : nat_lt c 128 ≡ false = e in let b = rw k at h in cc) ]
ascii_from (c ∷ m) h (suc i) = elim (cases_bool (nat_lt c 128)) [ inl e ↦ (let k : nat_lt c 128 ≡ true = e in ascii_from m (rw k at h) i) | inr e ↦ absurd (let k : nat_lt c 128 ≡ false = e in let b = rw k at h in cc) ]
