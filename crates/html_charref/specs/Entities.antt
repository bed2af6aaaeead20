-- Claimed.
-- The table that a file of entities holds, or what is wrong with it.
use Rattle.std.specs.Prelude.{◌≡◌, ℕ, ◌-◌, ◌&&◌, ◌==◌, List, [], ◌∷◌, length, take, drop, codes, Bool, nat_eq, nat_lt, nat_le, if◌then◌else◌, Option, Some, None, option_map, option_and_then, Result, Ok, Err, slice_index}
use Rattle.std.specs.List.{list_all}
use Rattle.std.specs.Ordering.{nat_cmp}
use Rattle.std.specs.declared.cmp.Ordering.TheVariants.{Less}
use Rattle.std.specs.Cmp.Lexicographic.{pointwise, slice_cmp}
use Rattle.std.specs.Char.{is_ascii_alphanumeric}
use Rattle.std.specs.Str.{chars, is_utf8}
use Rattle.serde_json.specs.Data.{Data, Items, no_items, item, Members, no_members, member}
use Rattle.serde_json.specs.Find.{get, get_member, as_object, as_array, as_str, as_number, as_u64}
use Rattle.serde_json.specs.Read as json
use Rattle.html_charref.specs.declared.table.RefText.{RefText}
use Rattle.html_charref.specs.declared.table.Row.{Row}
use Rattle.html_charref.specs.declared.read.EntityError.{EntityError}
use Rattle.html_charref.specs.declared.read.EntityError.TheVariants.{Json, Shape, Name, Text}

-- the part of a name between its ampersand and its last semicolon, if it has one
abbrev pub letters_of : List ℕ → List ℕ
letters_of key = if slice_index key (length key - 1) == 59 then take (length key - 2) (drop 1 key) else drop 1 key

-- an ampersand, one or more letters or digits, and perhaps a semicolon
abbrev pub is_name : List ℕ → Bool
is_name key =
    nat_le 2 (length key) && nat_le (length key) 4294967295 && (slice_index key 0 == 38)
    && nat_lt 0 (length (letters_of key)) && list_all is_ascii_alphanumeric (letters_of key)

abbrev pub number_of : Data → Option ℕ
number_of d = option_and_then as_u64 (as_number d)

-- the numbers of a list, if each item is a whole number of 64 bits
abbrev pub numbers_of : Items → Option (List ℕ)
numbers_of no_items = Some []
numbers_of (item d ds) = option_and_then (λ n. option_map (λ ns. n ∷ ns) (numbers_of ds)) (number_of d)

-- one character or two
abbrev pub ref_text : List ℕ → Option RefText
ref_text [] = None
ref_text (a ∷ []) = Some (record { first = a; second = None })
ref_text (a ∷ b ∷ []) = Some (record { first = a; second = Some b })
ref_text (a ∷ b ∷ x ∷ more) = None

-- the characters of a text
abbrev pub codes_with : ℕ → Option ℕ → List ℕ
codes_with first None = first ∷ []
codes_with first (Some second) = first ∷ second ∷ []

abbrev pub codes_of : RefText → List ℕ
codes_of text = codes_with text.first text.second

-- the text of a row, whose numbers are the characters
abbrev pub text_of : List ℕ → List ℕ → Option RefText
text_of numbers characters = if pointwise nat_eq numbers characters then ref_text characters else None

-- the numbers and the characters of a row
abbrev pub shape_of : Data → Option (List ℕ × List ℕ)
shape_of d =
    option_and_then (λ items. option_and_then (λ text. option_map (λ ns. (ns, chars text)) (numbers_of items))
    (option_and_then as_str (get (codes "characters") d)))
    (option_and_then as_array (get (codes "codepoints") d))

abbrev pub row_with : List ℕ → Option RefText → Result Row EntityError
row_with key None = Err (Text (chars key))
row_with key (Some text) = Ok (record { name = key; text = text })

abbrev pub shaped_row : List ℕ → Option (List ℕ × List ℕ) → Result Row EntityError
shaped_row key None = Err (Shape (chars key))
shaped_row key (Some parts) = row_with key (text_of parts.0 parts.1)

-- the row of one member, whose name is in ASCII, or what is wrong with it
abbrev pub row_of : List ℕ → Data → Result Row EntityError
row_of key d = if is_name key then shaped_row key (shape_of d) else Err (Name (chars key))

-- a row and those after it, or the first error
abbrev pub with_row : Result Row EntityError → Result (List Row) EntityError → Result (List Row) EntityError
with_row (Err e) more = Err e
with_row (Ok row) (Err e) = Err e
with_row (Ok row) (Ok rows) = Ok (row ∷ rows)

-- the rows of an object's members, which are in the byte order of their keys, or what is wrong with the first bad one
abbrev pub rows_of : Members → Result (List Row) EntityError
rows_of no_members = Ok []
rows_of (member k d ms) = with_row (row_of k d) (rows_of ms)

abbrev pub rows_or_shape : Option Members → Result (List Row) EntityError
rows_or_shape None = Err (Shape [])
rows_or_shape (Some ms) = rows_of ms

abbrev pub table_of : Data → Result (List Row) EntityError
table_of d = rows_or_shape (as_object d)

abbrev pub table_or_json : Option Data → Result (List Row) EntityError
table_or_json None = Err Json
table_or_json (Some d) = table_of d

-- the value that a file is
abbrev pub json_of : List ℕ → Option Data
json_of bytes = if is_utf8 bytes then json.read bytes else None

-- the table of a file, or why it has none (HTML 13.5, "Named character references")
abbrev pub entities_of : List ℕ → Result (List Row) EntityError
entities_of bytes = table_or_json (json_of bytes)

-- the rows of the names that every page may use, in the order of the names
abbrev pub one_character : List ℕ → ℕ → Row
one_character name c = record { name = name; text = record { first = c; second = None } }

abbrev pub core_rows : List Row
core_rows =
    one_character (codes "&amp;") 38 ∷ one_character (codes "&gt;") 62 ∷ one_character (codes "&lt;") 60
    ∷ one_character (codes "&nbsp;") 160 ∷ one_character (codes "&quot;") 34 ∷ []

-- the first bad member in the byte order of the keys: it has this error, and each member before it is good
pub record IsFirstBad (ms : Members) (e : EntityError) : Type 0 where
  pub key : List ℕ
  pub value : Data
  pub held : get_member key ms ≡ Some value
  pub bad : row_of key value ≡ Err e
  pub earlier : (k : List ℕ) (d : Data) → get_member k ms ≡ Some d → slice_cmp nat_cmp k key ≡ Less → (row : Row) × (row_of k d ≡ Ok row)
