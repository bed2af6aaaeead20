-- For this crate's own functions.
-- What bytes begin with.
use Rattle.std.specs.Prelude.{◌≡◌, ◌⊎◌, ℕ, ◌<◌, ◌≤◌, List, [], ◌∷◌, length, take, drop}
use Rattle.std.specs.Str.{IsUtf8, chars}
use Rattle.html_input.specs.Decode.{scalar_values}
use Rattle.html_input.specs.Seam.{IsSeam}

-- the text begins with this character, which has so many bytes
pub record IsFirst (text : List ℕ) (c n : ℕ) : Type 0 where
  pub some : 0 < n
  pub within : n ≤ length text
  pub utf8 : IsUtf8 (take n text)
  pub is : chars (take n text) ≡ c ∷ []

-- the bytes begin with this scalar value, which has so many of them; what follows decodes by itself
pub record StartsWith (bytes : List ℕ) (c n : ℕ) : Type 0 where
  pub some : 0 < n
  pub within : n ≤ length bytes
  pub value : scalar_values (take n bytes) ≡ c ∷ []
  pub seam : 0 < length (drop n bytes) → IsSeam (take n bytes) (take 1 (drop n bytes))

-- the same of a front of four bytes: it is a character, or fewer than four
pub record StartsShort (bytes : List ℕ) (c n : ℕ) : Type 0 where
  pub starts : StartsWith bytes c n
  pub short : IsUtf8 (take n bytes) ⊎ (n < 4)
