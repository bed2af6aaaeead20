-- Claimed, but for this crate's own functions: Yields, YieldsText.
-- What is read of a node, whichever it is.
use Rattle.std.specs.Prelude.{◌≡◌, ℕ, zero, suc, Bool, true, false, cond, ◌&&◌, nat_lt, List, [], ◌∷◌, ◌++◌, length, Option, Some, None}
use Rattle.std.specs.Str.{bytes_eq, encode_utf8_all}
use Rattle.html_tokens.specs.declared.attributes.Attr.{Attr}
use Rattle.html_arena.specs.Below.{above, below}
use Rattle.html_arena.specs.Data.{name_in}
use Rattle.html_arena.specs.Forest.{labels}
use Rattle.html_arena.specs.Siblings.{after}
use Rattle.html_arena.specs.Tree.{Tree, label_of, parent_of, sibling}
use Rattle.html_arena.specs.declared.data.NodeData.{NodeData}
use Rattle.html_arena.specs.declared.data.NodeData.TheVariants.{Document, Contents, Element, Text, Comment, Doctype}
use Rattle.html_arena.specs.declared.walk.Event.{Event}
use Rattle.html_arena.specs.declared.walk.Event.TheVariants.{Enter, Leave}
use Rattle.html_arena.specs.declared.walk.Show.TheVariants.{All}
use Rattle.html_dom.specs.Places.{is_placed}

abbrev pub is_element : NodeData → Bool
is_element (Element e) = true
is_element Document = false
is_element (Contents h) = false
is_element (Text s) = false
is_element (Comment s i) = false
is_element (Doctype n p s i) = false

-- there is such a node, and it is an element
abbrev pub is_element_at : Tree → ℕ → Bool
is_element_at t x = nat_lt x (length t.labels) && is_element (label_of t x)

-- the value of the first attribute of this name
abbrev pub value_of : List ℕ → List Attr → Option (List ℕ)
value_of name [] = None
value_of name (a ∷ attrs) = cond (bytes_eq a.name name) (Some a.value) (value_of name attrs)

-- the nodes that are entered
abbrev pub entered : List Event → List ℕ
entered [] = []
entered (Enter x ∷ es) = x ∷ entered es
entered (Leave x ∷ es) = entered es

-- all nodes below x in tree order, those of a template's contents with them; none where x has no place
abbrev pub descendants_of : Tree → ℕ → List ℕ
descendants_of t x = cond (is_placed t x) (labels (below All t x)) []

-- the nodes from o on, each the one after the last among the children of their parent, at most n of them
abbrev pub siblings_within : ℕ → Tree → Option ℕ → List ℕ
siblings_within zero t o = []
siblings_within (suc n) t None = []
siblings_within (suc n) t (Some x) = x ∷ siblings_within n t (sibling after (parent_of t x) t x)

-- the nodes from o on, each the one above the last, at most n of them
abbrev pub ancestors_within : ℕ → Tree → Option ℕ → List ℕ
ancestors_within zero t o = []
ancestors_within (suc n) t None = []
ancestors_within (suc n) t (Some x) = x ∷ ancestors_within n t (above t x)

-- the nodes above x, the nearest first; of one that stands below itself, as many as there are nodes
abbrev pub ancestors_of : Tree → ℕ → List ℕ
ancestors_of t x = ancestors_within (length t.labels) t (above t x)

-- the nodes that are entered in a walk, if there is one
abbrev pub entered_in : Option (List Event) → List ℕ
entered_in None = []
entered_in (Some es) = entered es

-- the first of the nodes `old` was taken, and `new` are left; or there was none
abbrev pub Yields : Option ℕ → List ℕ → List ℕ → Type 0
Yields None old new = (old ≡ []) × (new ≡ [])
Yields (Some x) old new = old ≡ x ∷ new

-- x is an element of this name
abbrev pub is_named : List ℕ → Tree → ℕ → Bool
is_named name t x = is_element_at t x && bytes_eq (name_in (label_of t x)) name

-- the texts of nodes, one after another; comments are none
abbrev pub text_part : NodeData → List ℕ
text_part (Text s) = s
text_part Document = []
text_part (Contents h) = []
text_part (Element e) = []
text_part (Comment s i) = []
text_part (Doctype n p s i) = []

abbrev pub text_of_all : Tree → List ℕ → List ℕ
text_of_all t [] = []
text_of_all t (x ∷ xs) = text_part (label_of t x) ++ text_of_all t xs

-- the text of a text in UTF-8; none of other nodes
abbrev pub text_of : NodeData → Option (List ℕ)
text_of (Text s) = Some (encode_utf8_all s)
text_of Document = None
text_of (Contents h) = None
text_of (Element e) = None
text_of (Comment s i) = None
text_of (Doctype n p s i) = None

-- before these, where there is one
abbrev pub put_before : Option (List ℕ) → List (List ℕ) → List (List ℕ)
put_before None texts = texts
put_before (Some text) texts = text ∷ texts

-- the texts among these nodes, in order
abbrev pub texts_among : Tree → List ℕ → List (List ℕ)
texts_among t [] = []
texts_among t (x ∷ xs) = put_before (text_of (label_of t x)) (texts_among t xs)

-- the first of the texts `old` was taken, and `new` are left; or there was none
abbrev pub YieldsText : Option (List ℕ) → List (List ℕ) → List (List ℕ) → Type 0
YieldsText None old new = (old ≡ []) × (new ≡ [])
YieldsText (Some text) old new = old ≡ text ∷ new
