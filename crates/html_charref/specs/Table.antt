-- Claimed, but for this crate's own functions: NamesFit, IsFront.
-- The table of named references, and the longest of its names that begins a text.
use Rattle.std.specs.Prelude.{◌≡◌, ℕ, ◌+◌, ◌-◌, ◌<◌, ◌≤◌, ◌⊎◌, ◌&&◌, List, [], ◌∷◌, ◌++◌, length, map, max, Bool, true, false, nat_eq, nat_lt, if◌then◌else◌, Option, Some, None, slice_get, slice_index}
use Rattle.std.specs.Char.{is_ascii_alphanumeric}
use Rattle.std.specs.List.{starts_with, list_all, list_any}
use Rattle.std.specs.Option.{option_map_or}
use Rattle.std.specs.List.Sorted.{IsStrictlySortedBy}
use Rattle.std.specs.Ordering.{nat_cmp}
use Rattle.std.specs.Cmp.Lexicographic.{slice_cmp}
use Rattle.html_charref.specs.declared.table.RefText.{RefText}
use Rattle.html_charref.specs.declared.table.Row.{Row}
use Rattle.html_charref.specs.declared.table.RowRange.{RowRange}
use Rattle.html_charref.specs.Entities.{codes_of}
use Rattle.html_charref.specs.declared.walk.Step.{Step}
use Rattle.html_charref.specs.declared.walk.Step.TheVariants.{More, End}

abbrev pub name_of : Row → List ℕ
name_of row = row.name

-- the length of the longest name, or 0
abbrev pub longest_len : List Row → ℕ
longest_len [] = 0
longest_len (row ∷ rows) = max (length row.name) (longest_len rows)

-- the lengths of the names fit 32 bits
abbrev pub NamesFit : List Row → Type 0
NamesFit rows = (i : ℕ) (row : Row) → slice_get rows i ≡ Some row → length row.name ≤ 4294967295

-- the name is an ampersand, one or more ASCII letters or digits, and at most one semicolon
pub record IsName (name : List ℕ) : Type 0 where
  pub letters : List ℕ
  pub ending : List ℕ
  pub is : name ≡ 38 ∷ (letters ++ ending)
  pub some : 0 < length letters
  pub alphanumeric : list_all is_ascii_alphanumeric letters ≡ true
  pub ended : (ending ≡ []) ⊎ (ending ≡ 59 ∷ [])

-- what is true of the rows of every table: the names are in order, each once, and of lengths that fit 32 bits; they
-- are spelt by the rule, and no row's text is longer than its name
pub record IsTable (rows : List Row) : Type 0 where
  pub sorted : IsStrictlySortedBy (slice_cmp nat_cmp) (map name_of rows)
  pub named : (i : ℕ) (row : Row) → slice_get rows i ≡ Some row → (2 ≤ length row.name) × (length row.name ≤ 4294967295)
  pub spelt : (i : ℕ) (row : Row) → slice_get rows i ≡ Some row → IsName row.name
  pub no_longer : (i : ℕ) (row : Row) → slice_get rows i ≡ Some row → length (codes_of row.text) ≤ length row.name

-- the row's name begins the text
abbrev pub begins : Row → List ℕ → Bool
begins row rest = starts_with nat_eq rest row.name

-- the row's name is longer than the text and begins with it
abbrev pub goes_on : Row → List ℕ → Bool
goes_on row text = nat_lt (length text) (length row.name) && starts_with nat_eq row.name text

abbrev pub match_of : Row → ℕ × RefText
match_of row = (length row.name, row.text)

-- of two matches the longer one
abbrev pub longer : ℕ × RefText → Option (ℕ × RefText) → Option (ℕ × RefText)
longer m None = Some m
longer m (Some n) = if nat_lt m.0 n.0 then Some n else Some m

-- the longest row whose name begins the text (HTML 13.2.5.73, "Named character reference state")
abbrev pub longest : List Row → List ℕ → Option (ℕ × RefText)
longest [] rest = None
longest (row ∷ rows) rest = if begins row rest then longer (match_of row) (longest rows rest) else longest rows rest

-- the answer to a step after which this text has been stepped
abbrev pub step_of : List Row → List ℕ → Step
step_of rows text = if list_any (λ row. goes_on row text) rows then More else End (longest rows text)

-- the text is the front of the name
pub record IsFront (text name : List ℕ) : Type 0 where
  pub rest : List ℕ
  pub is : name ≡ text ++ rest

-- the text is the front of the name, which is longer
pub record GoesOn (text name : List ℕ) : Type 0 where
  pub letter : ℕ
  pub rest : List ℕ
  pub is : name ≡ text ++ letter ∷ rest

-- from start to end stand the rows whose names have the property
pub record AreThose (P : List ℕ → Type 0) (rows : List Row) (start end : ℕ) : Type 0 where
  pub inside : (i : ℕ) (row : Row) → slice_get rows i ≡ Some row → start ≤ i → i < end → P row.name
  pub outside : (i : ℕ) (row : Row) → slice_get rows i ≡ Some row → P row.name → (start ≤ i) × (i < end)

-- the code point at a place of the i-th name, or 0
abbrev pub letter_at : List Row → ℕ → ℕ → ℕ
letter_at rows i place = option_map_or (λ row. slice_index row.name place) (slice_get rows i) 0

-- a place from start to end, with a letter below the limit just before it and none below it there
pub record IsLowerBound (rows : List Row) (start end place limit at : ℕ) : Type 0 where
  pub from : start ≤ at
  pub to : at ≤ end
  pub before : (at ≡ start) ⊎ (letter_at rows (at - 1) place < limit)
  pub after : (at ≡ end) ⊎ (limit ≤ letter_at rows at place)

-- the rows with this letter behind the ampersand, which stands first in each name
pub record IsRange (rows : List Row) (letter : ℕ) (range : RowRange) : Type 0 where
  pub start : IsLowerBound rows 0 (length rows) 1 letter range.start
  pub end : IsLowerBound rows range.start (length rows) 1 (letter + 1) range.end

-- the i-th range is that of the letter i
abbrev pub AreRanges : List Row → List RowRange → Type 0
AreRanges rows ranges = (i : ℕ) (range : RowRange) → slice_get ranges i ≡ Some range → IsRange rows i range

-- a row that begins the text, and that no other such row is longer than
pub record LongestRow (rows : List Row) (rest : List ℕ) (m : ℕ × RefText) : Type 0 where
  pub place : ℕ
  pub row : Row
  pub at : slice_get rows place ≡ Some row
  pub front : begins row rest ≡ true
  pub is : match_of row ≡ m
  pub greatest : (i : ℕ) (r : Row) → slice_get rows i ≡ Some r → begins r rest ≡ true → length r.name ≤ m.0

-- the longest of the rows that begin the text, or none where none does
abbrev pub IsLongest : List Row → List ℕ → Option (ℕ × RefText) → Type 0
IsLongest rows rest None = (i : ℕ) (r : Row) → slice_get rows i ≡ Some r → begins r rest ≡ false
IsLongest rows rest (Some m) = LongestRow rows rest m
