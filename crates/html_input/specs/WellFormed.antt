-- For this crate's own functions.
-- Characters that are their own text.
use Rattle.std.specs.Prelude.{◌≡◌, ◌≢◌, ℕ, ◌<◌, ◌≤◌, List, length, take}
use Rattle.std.specs.Char.{IsScalar, encode_utf8}

-- the bytes are this character, which is no carriage return
pub record IsChar (c : ℕ) (bytes : List ℕ) : Type 0 where
  pub scalar : IsScalar c
  pub other : c ≢ 13
  pub spelt : encode_utf8 c ≡ bytes

-- the bytes begin with such a character, which has so many
pub record BeginsWith (bytes : List ℕ) (c n : ℕ) : Type 0 where
  pub some : 0 < n
  pub within : n ≤ length bytes
  pub is : IsChar c (take n bytes)
