-- Claimed.
-- The number of a code point in hexadecimal digits.
use Rattle.std.specs.Prelude.{ℕ, ◌+◌, ◌/◌, ◌%◌, nat_lt, cond, List, [], ◌∷◌, drop}

abbrev pub hex_digit : ℕ → ℕ
hex_digit d = cond (nat_lt d 10) (48 + d) (55 + d)

-- in six digits
abbrev pub code_digits : ℕ → List ℕ
code_digits c =
    hex_digit (c / 1048576 % 16) ∷ hex_digit (c / 65536 % 16) ∷ hex_digit (c / 4096 % 16) ∷ hex_digit (c / 256 % 16) ∷ hex_digit (c / 16 % 16) ∷ hex_digit (c % 16) ∷ []

-- how many zeros lead, where four digits are left
abbrev pub leading_zeros : ℕ → ℕ
leading_zeros c = cond (nat_lt c 65536) 2 (cond (nat_lt c 1048576) 1 0)

-- in four digits, or as many as it takes
unfoldable pub code_text : ℕ → List ℕ
code_text c = drop (leading_zeros c) (code_digits c)
