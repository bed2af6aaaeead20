-- Claimed.
-- Attributes that an element gains from a later tag of its name (13.2.6.4.7, the start tags html and body).
use Rattle.std.specs.Prelude.{ℕ, Bool, false, not, ◌||◌, List, [], ◌∷◌, ◌++◌, filter}
use Rattle.std.specs.Str.{bytes_eq}
use Rattle.html_tokens.specs.declared.attributes.Attr.{Attr}

-- an attribute of this name is there
abbrev pub has_name : List ℕ → List Attr → Bool
has_name name [] = false
has_name name (a ∷ attrs) = bytes_eq a.name name || has_name name attrs

-- those of the later tag whose names the element lacks, in order
abbrev pub lacking : List Attr → List Attr → List Attr
lacking own later = filter (λ a. not (has_name a.name own)) later

-- the element's own attributes stay first, and none of them changes
abbrev pub merged : List Attr → List Attr → List Attr
merged own later = own ++ lacking own later
