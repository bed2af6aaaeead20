-- For this crate's own functions.
-- A byte order mark at the front.
use Rattle.std.specs.Prelude.{◌≡◌, ℕ, List, [], ◌∷◌}

-- the first scalar value is U+FEFF
abbrev pub BeginsWithMark : List ℕ → Type 0
BeginsWithMark [] = ⊥
BeginsWithMark (c ∷ cs) = c ≡ 0xFEFF
