-- Claimed.
-- All texts of a page, one behind another.
use Rattle.std.specs.Prelude.{◌≡◌, ℕ, ◌+◌, List, [], ◌∷◌, ◌++◌, length}
use Rattle.std.specs.Str.{encode_utf8_all}
use Rattle.html_arena.specs.Data.{attrs_in, name_in, text_in}
use Rattle.html_arena.specs.declared.data.NodeData.{NodeData}
use Rattle.html_tokens.specs.declared.attributes.Attr.{Attr}
use Rattle.zilqumet_rows.specs.declared.gathered.Gathered.{Gathered}

-- the names and the values of attributes
abbrev pub attr_texts : List Attr → List (List ℕ)
attr_texts [] = []
attr_texts (a ∷ attrs) = a.name ∷ a.value ∷ attr_texts attrs

-- the texts of a node: its name, its text, and the name and the value of each of its attributes
abbrev pub node_texts : NodeData → List (List ℕ)
node_texts d = name_in d ∷ text_in d ∷ attr_texts (attrs_in d)

-- the texts of nodes, in order
abbrev pub all_texts : List NodeData → List (List ℕ)
all_texts [] = []
all_texts (d ∷ nodes) = node_texts d ++ all_texts nodes

-- texts one behind the other, in UTF-8
abbrev pub joined : List (List ℕ) → List ℕ
joined [] = []
joined (t ∷ texts) = encode_utf8_all t ++ joined texts

-- how many bytes there are up to the end of each text, behind so many
abbrev pub ends_behind : ℕ → List (List ℕ) → List ℕ
ends_behind n [] = []
ends_behind n (t ∷ texts) = (n + length (encode_utf8_all t)) ∷ ends_behind (n + length (encode_utf8_all t)) texts

-- these are the bytes of the texts, and where each ends
pub record AreTexts (bytes ends : List ℕ) (texts : List (List ℕ)) : Type 0 where
  pub bytes_are : bytes ≡ joined texts
  pub ends_are : ends ≡ ends_behind 0 texts

-- what was gathered has these texts more
abbrev pub Adds : List (List ℕ) → Gathered → Gathered → Type 0
Adds more a b = (texts : List (List ℕ)) → AreTexts a.bytes.items a.ends.items texts → AreTexts b.bytes.items b.ends.items (texts ++ more)
