-- Claimed.
-- Where places of an input stand.
use Rattle.std.specs.Prelude.{◌≡◌, ℕ, ◌<◌, List, Some, slice_get}
use Rattle.html_input.specs.Lines.{StandsAt}
use Rattle.zilqumet_c.specs.declared.places.ZqPosition.{ZqPosition}

-- the place stands there in the bytes
abbrev pub IsPosition : List ℕ → ℕ → ZqPosition → Type 0
IsPosition bytes place z = StandsAt bytes place (record { offset = z.offset; line = z.line; column = z.column })

-- the first positions are those of the places, one for one
abbrev pub ArePositions : List ℕ → List ℕ → ℕ → List ZqPosition → Type 0
ArePositions bytes places count positions = (i place : ℕ) (z : ZqPosition) → i < count → slice_get places i ≡ Some place → slice_get positions i ≡ Some z → IsPosition bytes place z
