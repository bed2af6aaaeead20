-- Claimed.
-- Attributes in order of the UTF-16 code units of their names, as the html5lib tests write them, in foreign content or not.
use Rattle.std.specs.Prelude.{ℕ, Bool, true, false, List, codes, if◌then◌else◌}
use Rattle.std.specs.Char.Escape.{encode_utf16}
use Rattle.std.specs.Cmp.Lexicographic.{slice_cmp}
use Rattle.std.specs.List.{flat_map}
use Rattle.std.specs.List.Sorted.{IsPermutation, IsSortedByKey}
use Rattle.std.specs.Ordering.{nat_cmp}
use Rattle.std.specs.Str.{bytes_eq}
use Rattle.html_tokens.specs.declared.attributes.Attr.{Attr}

-- the code units of a text in UTF-16
abbrev pub code_units : List ℕ → List ℕ
code_units s = flat_map encode_utf16 s

-- The name of an attribute as it is printed: its namespace, where it has one, and its local name. In the tree all of them are written so but `xmlns`,
-- which in foreign content has a namespace.
abbrev pub printed_name : Bool → List ℕ → List ℕ
printed_name true n = if bytes_eq n (codes "xmlns") then codes "xmlns xmlns" else n
printed_name false n = n

abbrev pub units_of_name : Bool → Attr → List ℕ
units_of_name foreign a = code_units (printed_name foreign a.name)

-- the same attributes, and no name comes before the one that stands before it
pub record IsInOrder (foreign : Bool) (attrs ordered : List Attr) : Type 0 where
  pub same : IsPermutation attrs ordered
  pub ascending : IsSortedByKey (units_of_name foreign) (slice_cmp nat_cmp) ordered
