-- Claimed.
-- Attributes set and removed (DOM 4.9, set an attribute value, remove an attribute by name).
use Rattle.std.specs.Prelude.{ℕ, Bool, true, cond, not, ◌||◌, ◌&&◌, List, [], ◌∷◌, ◌++◌, filter, map}
use Rattle.std.specs.List.{list_all}
use Rattle.std.specs.Str.{bytes_eq}
use Rattle.html_tokens.specs.declared.attributes.Attr.{Attr}
use Rattle.html_arena.specs.Merge.{has_name}
use Rattle.html_dom.specs.Names.{is_attr_name}

-- an attribute of this name has this value, and others stay
abbrev pub chosen : List ℕ → List ℕ → Attr → Attr
chosen name value a = cond (bytes_eq a.name name) (record { name = name; value = value }) a

-- the attribute of this name has this value, or there is a new one after all others
abbrev pub with_value : List ℕ → List ℕ → List Attr → List Attr
with_value name value attrs = cond (has_name name attrs) (map (chosen name value) attrs) (attrs ++ record { name = name; value = value } ∷ [])

-- all attributes but those of this name
abbrev pub without_name : List ℕ → List Attr → List Attr
without_name name attrs = filter (λ a. not (bytes_eq a.name name)) attrs

-- an attribute of this name is there, or one of HTML can have it
abbrev pub is_own_or_good : List Attr → List ℕ → Bool
is_own_or_good own name = has_name name own || is_attr_name name

-- no two attributes have one name
abbrev pub has_distinct_names : List Attr → Bool
has_distinct_names [] = true
has_distinct_names (a ∷ attrs) = not (has_name a.name attrs) && has_distinct_names attrs

-- an element whose own attributes these are can have the others in their place
abbrev pub can_replace : List Attr → List Attr → Bool
can_replace own attrs = list_all (λ a. is_own_or_good own a.name) attrs && has_distinct_names attrs
