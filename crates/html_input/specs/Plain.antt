-- For this crate's own functions.
-- Bytes, and scalar values, that are their own text.
use Rattle.std.specs.Prelude.{◌≢◌, ℕ, ◌<◌, List, All}

-- the byte is ASCII, and no carriage return
abbrev pub IsPlainByte : ℕ → Type 0
IsPlainByte b = (b < 128) × (b ≢ 13)

abbrev pub IsPlain : List ℕ → Type 0
IsPlain bytes = All IsPlainByte bytes

-- there is no carriage return
abbrev pub IsFree : List ℕ → Type 0
IsFree cs = All (λ c. c ≢ 13) cs
