-- For this crate's own functions.
-- Places of tokens, kept as stretches in each of which the places follow one another.
use Rattle.std.specs.Prelude.{◌≡◌, ◌⊎◌, ℕ, ◌+◌, ◌-◌, ◌<◌, ◌≤◌, ◌^◌, List, [], ◌∷◌, ◌++◌}
use Rattle.std.specs.List.{range_with_len}
use Rattle.html_parser.specs.declared.starts.Stretch.{Stretch}

-- the number of the first token after a stretch: that of the next stretch, or of all tokens
abbrev pub next_first : List Stretch → ℕ → ℕ
next_first [] len = len
next_first (s ∷ ss) len = s.first

-- the places of so many tokens
abbrev pub starts_in : List Stretch → ℕ → List ℕ
starts_in [] len = []
starts_in (s ∷ ss) len = range_with_len s.place (next_first ss len - s.first) ++ starts_in ss len

-- from this number on: no stretch is empty, and its places are numbers of 64 bits
abbrev pub AreFrom : ℕ → List Stretch → ℕ → Type 0
AreFrom number [] len = number ≡ len
AreFrom number (s ∷ ss) len =
    (s.first ≡ number) × (number < next_first ss len) × (s.place + (next_first ss len - number) < 2 ^ 64) × AreFrom (next_first ss len) ss len

abbrev pub AreStretches : List Stretch → ℕ → Type 0
AreStretches stretches len = AreFrom 0 stretches len × (len < 2 ^ 64)

-- A token of this number that begins at this place belongs to the last stretch.
pub record GoesOn (stretches : List Stretch) (number place : ℕ) : Type 0 where
  pub front : List Stretch
  pub last : Stretch
  pub split : stretches ≡ front ++ last ∷ []
  pub starts : last.first ≤ number
  pub place_is : last.place + (number - last.first) ≡ place

-- The next token, of this number and at this place, belongs to the last stretch, or begins one.
abbrev pub Adds : List Stretch → List Stretch → ℕ → ℕ → Type 0
Adds old new number place = (GoesOn old number place × (new ≡ old)) ⊎ (new ≡ old ++ record { first = number; place = place } ∷ [])
