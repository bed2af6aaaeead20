-- Claimed.
-- Equal sets of attributes (13.2.4.3, push onto the list of active formatting elements).
use Rattle.std.specs.Prelude.{Bool, ◌&&◌, List}
use Rattle.std.specs.List.{list_any, list_all}
use Rattle.std.specs.Str.{bytes_eq}
use Rattle.html_tokens.specs.declared.attributes.Attr.{Attr}

-- the same name and the same value
abbrev pub is_attr : Attr → Attr → Bool
is_attr a b = bytes_eq a.name b.name && bytes_eq a.value b.value

-- an attribute of this name and value is there
abbrev pub has_attr : Attr → List Attr → Bool
has_attr a attrs = list_any (is_attr a) attrs

-- each of the first is among the second
abbrev pub has_attrs : List Attr → List Attr → Bool
has_attrs own attrs = list_all (λ a. has_attr a attrs) own

-- the two are one set: their order does not count
abbrev pub same_attrs : List Attr → List Attr → Bool
same_attrs own attrs = has_attrs own attrs && has_attrs attrs own
