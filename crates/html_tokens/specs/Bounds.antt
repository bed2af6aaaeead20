-- For this crate's own functions.
-- How many errors are told, and how many attribute names are compared, by the places that were passed.
use Rattle.std.specs.Prelude.{ℕ, ◌+◌, ◌*◌, ◌≤◌, length}
use Rattle.html_tokens.specs.declared.faults.Faults.{Faults}
use Rattle.html_tokens.specs.declared.machine.Machine.{Machine}
use Rattle.html_tokens.specs.declared.machine.State.{State}
use Rattle.html_tokens.specs.declared.machine.State.TheVariants.{Text, Number, Second, Ampersand, Comment, Doctype, Tag, Section, Ended}

-- at most so many errors more, and so many comparisons
abbrev pub Told : ℕ → ℕ → Faults → Faults → Type 0
Told errors compared old new = (length new.list ≤ length old.list + errors) × (new.compared ≤ old.compared + compared)

-- the errors that a state may still tell before a code point is passed
abbrev pub due : State → ℕ
due (Text region) = 8
due (Number draft) = 10
due (Second c start) = 8
due (Ampersand start) = 8
due (Comment draft) = 10
due (Doctype draft) = 10
due (Tag draft) = 15
due Section = 8
due Ended = 0

-- the comparisons that a state at a place may still make before a code point is passed
abbrev pub searches : State → ℕ → ℕ
searches (Text region) place = 0
searches (Number draft) place = 0
searches (Second c start) place = 0
searches (Ampersand start) place = 0
searches (Comment draft) place = 0
searches (Doctype draft) place = 0
searches (Tag draft) place = place
searches Section place = 0
searches Ended place = 0

-- the attributes of the tag that is being read
abbrev pub attr_count : State → ℕ
attr_count (Text region) = 0
attr_count (Number draft) = 0
attr_count (Second c start) = 0
attr_count (Ampersand start) = 0
attr_count (Comment draft) = 0
attr_count (Doctype draft) = 0
attr_count (Tag draft) = length draft.attrs
attr_count Section = 0
attr_count Ended = 0

-- the errors and comparisons so far, at a place
abbrev pub IsWithin : ℕ → Faults → Type 0
IsWithin place faults = (length faults.list ≤ 8 * place + 8) × (faults.compared ≤ place * place + place)

-- the same with what a state may still add, which keeps it so
pub record Bounded (state : State) (place : ℕ) (faults : Faults) : Type 0 where
  pub told : length faults.list + due state ≤ 8 * place + 8
  pub compared : faults.compared + searches state place ≤ place * place + place
  pub attrs : attr_count state ≤ place

abbrev pub IsBounded : Machine → Faults → Type 0
IsBounded t faults = Bounded t.state t.place faults
