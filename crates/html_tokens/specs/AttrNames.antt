-- Claimed, but for this crate's own functions: NamesOn.
-- The names of the attributes of a tag, and the error that one of them stands twice (HTML 13.2.5.33).
use Rattle.std.specs.Prelude.{◌≡◌, ℕ, List, [], ◌∷◌, ◌++◌, map, Bool, true, false, ◌&&◌, cond, Option, Some, None}
use Rattle.std.specs.List.{list_any}
use Rattle.std.specs.Str.{bytes_eq}
use Rattle.html_tokens.specs.Inside.{fault_when}
use Rattle.html_tokens.specs.Tag.{ends_attr, ends_name, name_char}
use Rattle.html_tokens.specs.declared.attributes.Attr.{Attr}
use Rattle.html_tokens.specs.declared.fault_name.FaultName.TheVariants as names
use Rattle.html_tokens.specs.declared.faults.Fault.{Fault}
use Rattle.html_tokens.specs.declared.tag.Part.{Part}
use Rattle.html_tokens.specs.declared.tag.Part.TheVariants as parts
use Rattle.html_tokens.specs.declared.tag.TagDraft.{TagDraft}
use Rattle.html_tokens.specs.declared.tag.TagReading.{TagReading}
use Rattle.html_tokens.specs.declared.tag.TagReading.TheVariants.{More, Closed}

-- the names of the attributes that are kept so far, and what was read of the name that is being read
pub record AttrNames : Type 0 where
  pub kept : List (List ℕ)
  pub name : List ℕ

-- where a tag begins
abbrev pub no_names : AttrNames
no_names = record { kept = []; name = [] }

abbrev pub is_kept : List (List ℕ) → List ℕ → Bool
is_kept kept name = list_any (λ n. bytes_eq n name) kept

-- of attributes with one name the first stays
abbrev pub with_name : List (List ℕ) → List ℕ → List (List ℕ)
with_name kept name = cond (is_kept kept name) kept (kept ++ name ∷ [])

-- the name has one code point more
abbrev pub longer_name : AttrNames → ℕ → AttrNames
longer_name seen c = record { kept = seen.kept; name = seen.name ++ name_char c ∷ [] }

-- the name is whole
abbrev pub whole_name : AttrNames → AttrNames
whole_name seen = record { kept = with_name seen.kept seen.name; name = [] }

-- the names after a code point in a part of a tag: one begins where an attribute may begin (HTML 13.2.5.32), or after the name of one (HTML 13.2.5.34)
abbrev pub next_names : AttrNames → Part → ℕ → AttrNames
next_names seen parts.Name c = seen
next_names seen parts.Attributes c = cond (ends_name c) seen (longer_name seen c)
next_names seen parts.AttrName c = cond (ends_attr c) (whole_name seen) (longer_name seen c)
next_names seen parts.AfterName c = cond (ends_attr c) seen (longer_name seen c)
next_names seen parts.Value c = seen
next_names seen (parts.Inside end) c = seen
next_names seen (parts.Number end base value start) c = seen
next_names seen (parts.Ampersand end start) c = seen

-- white space, `/`, `>` or `=` leaves the name of an attribute, and so does the end of the text
abbrev pub leaves_name : Option ℕ → Bool
leaves_name None = true
leaves_name (Some c) = ends_attr c

-- where the name of an attribute is read
abbrev pub ends_attr_name : Part → Option ℕ → Bool
ends_attr_name parts.Name found = false
ends_attr_name parts.Attributes found = false
ends_attr_name parts.AttrName found = leaves_name found
ends_attr_name parts.AfterName found = false
ends_attr_name parts.Value found = false
ends_attr_name (parts.Inside end) found = false
ends_attr_name (parts.Number end base value start) found = false
ends_attr_name (parts.Ampersand end start) found = false

-- where the name of an attribute ends, and one before has this name: duplicate-attribute
abbrev pub name_errors : AttrNames → Part → Option ℕ → ℕ → List Fault
name_errors seen part found place = fault_when (ends_attr_name part found && is_kept seen.kept seen.name) names.DuplicateAttribute place

-- the names of attributes
abbrev pub names_of : List Attr → List (List ℕ)
names_of attrs = map (λ a. a.name) attrs

-- the names where a tag is read in this part, with these attributes, and the last name
abbrev pub names_by : Part → List (List ℕ) → List ℕ → AttrNames
names_by parts.Name kept name = record { kept = kept; name = [] }
names_by parts.Attributes kept name = record { kept = kept; name = [] }
names_by parts.AttrName kept name = record { kept = kept; name = name }
names_by parts.AfterName kept name = record { kept = with_name kept name; name = [] }
names_by parts.Value kept name = record { kept = with_name kept name; name = [] }
names_by (parts.Inside end) kept name = record { kept = with_name kept name; name = [] }
names_by (parts.Number end base value start) kept name = record { kept = with_name kept name; name = [] }
names_by (parts.Ampersand end start) kept name = record { kept = with_name kept name; name = [] }

abbrev pub names_in : TagDraft → AttrNames
names_in d = names_by d.part (names_of d.attrs) d.attr_name

-- the names after a code point that ends no tag
abbrev pub NamesOn : TagDraft → ℕ → TagReading → TagDraft → Type 0
NamesOn old c More new = names_in new ≡ next_names (names_in old) old.part c
NamesOn old c (Closed self_closing n) new = Unit {0}
