-- Claimed, but for this crate's own functions: is_lead, IsCutAfter.
-- Plain text: code points that stand for themselves wherever text may stand, and their bytes.
use Rattle.std.specs.Prelude.{◌≡◌, ℕ, Bool, ◌==◌, ◌||◌, not, nat_lt, List, ◌++◌, take}
use Rattle.std.specs.Str.{IsUtf8, chars}

-- neither U+0000, a carriage return, & nor <
abbrev pub is_plain_char : ℕ → Bool
is_plain_char c = not (c == 0 || (c == 13 || (c == 38 || c == 60)))

-- the same of a byte
abbrev pub is_plain_byte : ℕ → Bool
is_plain_byte b = is_plain_char b

-- the byte begins a code point
abbrev pub is_lead : ℕ → Bool
is_lead b = nat_lt b 128 || not (nat_lt b 192)

-- the rest of a text is what stands after so many code points
pub record IsCutAfter (count : ℕ) (text rest : List ℕ) : Type 0 where
  pub front : List ℕ
  pub both : text ≡ front ++ rest
  pub utf8 : IsUtf8 front
  pub code_points : chars front ≡ take count (chars text)
