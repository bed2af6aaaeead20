-- Claimed, but for this crate's own functions: IsLone.
-- What a node is, apart from its links: the kinds of nodes of the DOM, and template contents (4.12.3).
use Rattle.std.specs.Prelude.{◌≡◌, ℕ, Bool, true, false, List, [], ◌∷◌, ◌++◌, Option, Some, None, slice_index_or}
use Rattle.html_names.specs.declared.tag.Tag.{Tag}
use Rattle.html_names.specs.declared.tag.Tag.TheVariants as tag
use Rattle.html_names.specs.Names.{tag_of}
use Rattle.html_names.specs.Sets.{is_template}
use Rattle.html_tokens.specs.declared.attributes.Attr.{Attr}
use Rattle.html_arena.specs.declared.data.NodeData.{NodeData}
use Rattle.html_arena.specs.declared.data.NodeData.TheVariants.{Document, Contents, Element, Text, Comment, Doctype}
use Rattle.html_arena.specs.declared.data.Origin.{Origin}
use Rattle.html_arena.specs.declared.data.Origin.TheVariants.{Token, Nothing}
use Rattle.html_arena.specs.declared.data.Kind.{Kind}
use Rattle.html_arena.specs.declared.data.Kind.TheVariants as kind

-- the node of this number
abbrev pub label_in : List NodeData → ℕ → NodeData
label_in labels x = slice_index_or labels x Document

abbrev pub kind_in : NodeData → Kind
kind_in Document = kind.Document
kind_in (Contents h) = kind.Contents
kind_in (Element e) = kind.Element
kind_in (Text s) = kind.Text
kind_in (Comment s i) = kind.Comment
kind_in (Doctype n p s i) = kind.Doctype

-- the name and the tag of an element; other nodes have none, and the tag of no known name
abbrev pub name_in : NodeData → List ℕ
name_in (Element e) = e.name
name_in Document = []
name_in (Contents h) = []
name_in (Text s) = []
name_in (Comment s i) = []
name_in (Doctype n p s i) = []

abbrev pub tag_in : NodeData → Tag
tag_in (Element e) = e.tag
tag_in Document = tag.Other
tag_in (Contents h) = tag.Other
tag_in (Text s) = tag.Other
tag_in (Comment s i) = tag.Other
tag_in (Doctype n p s i) = tag.Other

abbrev pub attrs_in : NodeData → List Attr
attrs_in (Element e) = e.attrs
attrs_in Document = []
attrs_in (Contents h) = []
attrs_in (Text s) = []
attrs_in (Comment s i) = []
attrs_in (Doctype n p s i) = []

-- the Contents node of a template
abbrev pub contents_in : NodeData → Option ℕ
contents_in (Element e) = e.contents
contents_in Document = None
contents_in (Contents h) = None
contents_in (Text s) = None
contents_in (Comment s i) = None
contents_in (Doctype n p s i) = None

-- the template of a Contents node
abbrev pub host_in : NodeData → Option ℕ
host_in (Contents h) = Some h
host_in Document = None
host_in (Element e) = None
host_in (Text s) = None
host_in (Comment s i) = None
host_in (Doctype n p s i) = None

-- the code points of a text, or the data of a comment
abbrev pub text_in : NodeData → List ℕ
text_in (Text s) = s
text_in (Comment s i) = s
text_in Document = []
text_in (Contents h) = []
text_in (Element e) = []
text_in (Doctype n p s i) = []

-- the token that a node was made for
abbrev pub origin_in : NodeData → Origin
origin_in (Element e) = e.origin
origin_in (Comment s i) = Token i
origin_in (Doctype n p s i) = Token i
origin_in Document = Nothing
origin_in (Contents h) = Nothing
origin_in (Text s) = Nothing

abbrev pub is_clone_in : NodeData → Bool
is_clone_in (Element e) = e.is_clone
is_clone_in Document = false
is_clone_in (Contents h) = false
is_clone_in (Text s) = false
is_clone_in (Comment s i) = false
is_clone_in (Doctype n p s i) = false

abbrev pub is_text : NodeData → Bool
is_text (Text s) = true
is_text _ = false

abbrev pub IsText : NodeData → Type 0
IsText (Text s) = Unit {0}
IsText _ = ⊥

abbrev pub IsElement : NodeData → Type 0
IsElement (Element e) = Unit {0}
IsElement _ = ⊥

-- a node that may have a parent: a document and a template's contents are roots
abbrev pub is_linkable : NodeData → Bool
is_linkable (Element e) = true
is_linkable (Text s) = true
is_linkable (Comment s i) = true
is_linkable (Doctype n p s i) = true
is_linkable Document = false
is_linkable (Contents h) = false

-- a clone has the name, the attributes and the origin of its original, and no children
abbrev pub cloned : NodeData → NodeData
cloned (Element e) = Element (record e { is_clone = true; contents = None })
cloned Document = Document
cloned (Contents h) = Contents h
cloned (Text s) = Text s
cloned (Comment s i) = Comment s i
cloned (Doctype n p s i) = Doctype n p s i

-- a text with one more code point
abbrev pub with_char : NodeData → ℕ → NodeData
with_char (Text s) c = Text (s ++ c ∷ [])
with_char Document c = Document
with_char (Contents h) c = Contents h
with_char (Element e) c = Element e
with_char (Comment s i) c = Comment s i
with_char (Doctype n p s i) c = Doctype n p s i

-- a text with more code points
abbrev pub with_run : NodeData → List ℕ → NodeData
with_run (Text s) run = Text (s ++ run)
with_run Document run = Document
with_run (Contents h) run = Contents h
with_run (Element e) run = Element e
with_run (Comment s i) run = Comment s i
with_run (Doctype n p s i) run = Doctype n p s i

-- an element with other attributes
abbrev pub with_attrs : NodeData → List Attr → NodeData
with_attrs (Element e) attrs = Element (record e { attrs = attrs })
with_attrs Document attrs = Document
with_attrs (Contents h) attrs = Contents h
with_attrs (Text s) attrs = Text s
with_attrs (Comment s i) attrs = Comment s i
with_attrs (Doctype n p s i) attrs = Doctype n p s i

-- a node that needs no other: no template, no contents, and an element's tag is that of its name
pub record IsLone (d : NodeData) : Type 0 where
  pub no_contents : contents_in d ≡ None
  pub no_host : host_in d ≡ None
  pub no_template : is_template (tag_in d) ≡ false
  pub tagged : tag_in d ≡ tag_of (name_in d)
