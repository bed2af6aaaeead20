-- Claimed.
-- Which names tags and attributes can have (13.2.5.8, 13.2.5.33).
use Rattle.std.specs.Prelude.{ℕ, ◌==◌, Bool, false, not, ◌||◌, ◌&&◌, nat_lt, List, [], ◌∷◌}
use Rattle.std.specs.List.{list_all}
use Rattle.html_names.specs.declared.tag.Tag.TheVariants as tag
use Rattle.html_names.specs.Names.{tag_of}
use Rattle.html_names.specs.Tags.{is_same}

-- a letter in lower case
abbrev pub is_lower : ℕ → Bool
is_lower c = not (nat_lt c 97) && not (nat_lt 122 c)

-- what ends the name of a tag, and what is replaced in it: U+0000 and letters in upper case
abbrev pub ends_name : ℕ → Bool
ends_name c = c == 9 || (c == 10 || (c == 12 || (c == 32 || (c == 47 || (c == 62 || (c == 0 || (not (nat_lt c 65) && not (nat_lt 90 c))))))))

abbrev pub stays_in_name : ℕ → Bool
stays_in_name c = not (ends_name c)

abbrev pub begins_name : List ℕ → Bool
begins_name [] = false
begins_name (c ∷ cs) = is_lower c

-- a name that a start tag of HTML can have: a letter, and then nothing that ends it; `svg` and `math` begin foreign content
abbrev pub is_element_name : List ℕ → Bool
is_element_name name = begins_name name && (list_all stays_in_name name && not (is_same (tag_of name) tag.Svg || is_same (tag_of name) tag.Math))

-- what ends the name of an attribute, and what is replaced in it
abbrev pub ends_attr : ℕ → Bool
ends_attr c = ends_name c || c == 61

abbrev pub stays_in_attr : ℕ → Bool
stays_in_attr c = not (ends_attr c)

-- a name that an attribute of HTML can have; one that begins with '=' is an error there, and is not taken
abbrev pub is_attr_name : List ℕ → Bool
is_attr_name [] = false
is_attr_name (c ∷ cs) = list_all stays_in_attr (c ∷ cs)
