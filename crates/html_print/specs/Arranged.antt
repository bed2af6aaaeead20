-- Claimed.
-- Trees whose elements have their attributes in order.
use Rattle.std.specs.Prelude.{◌≡◌, List}
use Rattle.html_arena.specs.Forest.{Forest}
use Rattle.html_arena.specs.Forest.Forest.{empty, tree}
use Rattle.html_page.specs.Html.{is_foreign_name}
use Rattle.html_page.specs.Label.{Label}
use Rattle.html_page.specs.Label.Label.{document, doctype, element, text, comment}
use Rattle.html_print.specs.Order.{IsInOrder}
use Rattle.html_tokens.specs.declared.attributes.Attr.{Attr}

-- the same label, the attributes of an element in order
abbrev pub IsOrdered : Label → Label → Type 0
IsOrdered (element n attrs) l = (ordered : List Attr) × IsInOrder (is_foreign_name n) attrs ordered × (l ≡ element n ordered)
IsOrdered document l = l ≡ document
IsOrdered (doctype n p s) l = l ≡ doctype n p s
IsOrdered (text s) l = l ≡ text s
IsOrdered (comment s) l = l ≡ comment s

-- the same trees, the attributes of each element in order
abbrev pub IsArranged : Forest Label → Forest Label → Type 0
IsArranged empty empty = Unit {0}
IsArranged empty (tree m inner later) = ⊥
IsArranged (tree l below after) empty = ⊥
IsArranged (tree l below after) (tree m inner later) = IsOrdered l m × (IsArranged below inner × IsArranged after later)
