-- Claimed.
-- What a node is to a reader of the tree (DOM, 4.2: documents, document types, elements, texts and comments).
use Rattle.std.specs.Prelude.{ℕ, List, Option}
use Rattle.html_tokens.specs.declared.attributes.Attr.{Attr}
use Rattle.html_arena.specs.declared.data.NodeData.{NodeData}
use Rattle.html_arena.specs.declared.data.NodeData.TheVariants as node

-- An element by its name and attributes, a doctype by its name, public id and system id. Names, texts and ids are
-- lists of code points.
pub data Label : Type 0 where
  document : Label
  doctype : Option (List ℕ) → Option (List ℕ) → Option (List ℕ) → Label
  element : List ℕ → List Attr → Label
  text : List ℕ → Label
  comment : List ℕ → Label

-- the label of a node; the node that holds a template's contents is like a document
abbrev pub label_for : NodeData → Label
label_for node.Document = document
label_for (node.Contents h) = document
label_for (node.Element e) = element e.name e.attrs
label_for (node.Text s) = text s
label_for (node.Comment s i) = comment s
label_for (node.Doctype n p s i) = doctype n p s
