-- Claimed.
-- White space (13.2.6: U+0009, U+000A, U+000C, U+000D and U+0020).
use Rattle.std.specs.Prelude.{ℕ, Bool, ◌==◌, ◌||◌}

abbrev pub is_space : ℕ → Bool
is_space c = (c == 9) || (c == 10) || (c == 12) || (c == 13) || (c == 32)
