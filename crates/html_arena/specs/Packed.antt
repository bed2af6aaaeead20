-- For this crate's own functions.
-- A link kept as one number: the greatest of 32 bits stands for none.
use Rattle.std.specs.Prelude.{ℕ, ◌-◌, ◌^◌, ◌==◌, cond, Option, Some, None}

abbrev pub unpacked : ℕ → Option ℕ
unpacked n = cond (n == 2 ^ 32 - 1) None (Some n)
