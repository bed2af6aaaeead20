-- Claimed.
-- What each node comes from (13.2.6.1).
use Rattle.std.specs.Prelude.{◌≡◌, ◌≢◌, ℕ, ◌<◌, Bool, true, false, cond, List, [], ◌∷◌, length, slice_get, Option, Some, None}
use Rattle.html_names.specs.declared.foreign.Space.{Space}
use Rattle.html_names.specs.Foreign.{is_html_space, space_of}
use Rattle.html_names.specs.Groups.{is_outermost}
use Rattle.html_names.specs.Names.{name_of}
use Rattle.html_names.specs.Sets.{is_formatting}
use Rattle.html_names.specs.declared.tag.Tag.{Tag}
use Rattle.html_names.specs.declared.tag.Tag.TheVariants as tag
use Rattle.html_arena.specs.declared.data.NodeData.{NodeData}
use Rattle.html_arena.specs.declared.data.NodeData.TheVariants as node
use Rattle.html_arena.specs.declared.data.Origin.{Origin}
use Rattle.html_arena.specs.declared.data.Origin.TheVariants.{Implied, Nothing, Token}
use Rattle.html_arena.specs.Data.{is_clone_in, label_in, name_in, origin_in, tag_in}
use Rattle.html_arena.specs.Merge.{merged}
use Rattle.html_arena.specs.Siblings.{is_in}
use Rattle.html_arena.specs.Tree.{Tree, label_of, parent_of}
use Rattle.html_tokens.specs.declared.attributes.Attr.{Attr}
use Rattle.html_tokens.specs.declared.token.TokenKind.{TokenKind}
use Rattle.html_tokens.specs.declared.token.TokenKind.TheVariants as kind
use Rattle.html_ledger.specs.declared.setting.Setting.{Setting}
use Rattle.html_ledger.specs.declared.setting.Setting.TheVariants.{Document, Fragment}
use Rattle.html_ledger.specs.declared.symbol.Symbol.TheVariants.{Start}
use Rattle.html_ledger.specs.declared.fate.Fate.{Fate}
use Rattle.html_ledger.specs.declared.fate.Fate.TheVariants.{Merged}
use Rattle.html_ledger.specs.Fates.{is_foreign}
use Rattle.html_ledger.specs.Symbols.{symbol_of}
use Rattle.html_construction.specs.Tokens.{attrs_of, foreign_attrs, foreign_name, node_name}

-- the root: of a document the document, of a fragment an html element that no token asked for (13.4)
abbrev pub IsRootLabel : Setting → NodeData → Type 0
IsRootLabel Document d = d ≡ node.Document
IsRootLabel (Fragment context in_form) d = (name_in d ≡ name_of tag.Html) × (origin_in d ≡ Implied)

-- The first node is the root, and has no parent.
pub record HasRoot (s : Setting) (t : Tree) : Type 0 where
  pub some_node : 0 < length t.labels
  pub label : IsRootLabel s (label_of t 0)
  pub alone : parent_of t 0 ≡ None

-- WHERE TAGS WERE MERGED (13.2.6.4.7, the start tags html and body)

-- The tag was merged into this node: an html or body element, of the name of the tag.
pub record IsMergedInto (labels : List NodeData) (token : TokenKind) (fate : Fate) (x : ℕ) : Type 0 where
  pub fate_is : fate ≡ Merged
  pub node_in : x < length labels
  pub start : symbol_of token ≡ Start (tag_in (label_in labels x))
  pub outermost : is_outermost (tag_in (label_in labels x)) ≡ true

-- the element into which a token was merged, if it was
abbrev pub IsHome : List NodeData → TokenKind → Fate → Option ℕ → Type 0
IsHome labels token fate None = fate ≢ Merged
IsHome labels token fate (Some x) = IsMergedInto labels token fate x

-- the same of each token that has a fate
abbrev pub AreHomes : List NodeData → List TokenKind → List Fate → List (Option ℕ) → Type 0
AreHomes labels tokens [] [] = Unit {0}
AreHomes labels tokens [] (h ∷ homes) = ⊥
AreHomes labels tokens (f ∷ fates) [] = ⊥
AreHomes labels [] (f ∷ fates) (h ∷ homes) = ⊥
AreHomes labels (t ∷ tokens) (f ∷ fates) (h ∷ homes) = IsHome labels t f h × AreHomes labels tokens fates homes

-- these attributes, and then those of each tag that was merged into this node, in the order of the tags, each name once
abbrev pub with_later : ℕ → List Attr → List TokenKind → List (Option ℕ) → List Attr
with_later x attrs [] homes = attrs
with_later x attrs (t ∷ tokens) [] = attrs
with_later x attrs (t ∷ tokens) (h ∷ homes) = with_later x (cond (is_in x h) (merged attrs (attrs_of t)) attrs) tokens homes

-- WHAT A NODE HAS

-- An element of a start tag has its name, img for image, and its attributes.
pub record IsOf (x i : ℕ) (name : List ℕ) (attrs : List Attr) (tokens : List TokenKind) (homes : List (Option ℕ)) : Type 0 where
  pub own_name : List ℕ
  pub own_attrs : List Attr
  pub self_closing : Bool
  pub token_is : slice_get tokens i ≡ Some (kind.Start own_name own_attrs self_closing)
  pub name_is : name ≡ node_name own_name
  pub attrs_are : attrs ≡ with_later x own_attrs tokens homes

-- An element of foreign content is one of a namespace, by its tag, and has the name and the attributes of its start tag, adjusted; nothing is merged
-- into it (13.2.6.5).
pub record IsForeignOf (i : ℕ) (g : Tag) (name : List ℕ) (attrs : List Attr) (tokens : List TokenKind) : Type 0 where
  pub space : Space
  pub tag_is : space_of g ≡ space
  pub own_name : List ℕ
  pub own_attrs : List Attr
  pub self_closing : Bool
  pub outside : is_html_space space ≡ false
  pub token_is : slice_get tokens i ≡ Some (kind.Start own_name own_attrs self_closing)
  pub name_is : name ≡ foreign_name space own_name
  pub attrs_are : attrs ≡ foreign_attrs space own_attrs

abbrev pub foreign_if : Option Fate → Bool
foreign_if None = false
foreign_if (Some f) = is_foreign f

-- an element of foreign content was made of the token of this number
abbrev pub is_foreign_at : List Fate → ℕ → Bool
is_foreign_at fates i = foreign_if (slice_get fates i)

-- by whether it is one of foreign content
abbrev pub IsOfTag : Bool → ℕ → ℕ → Tag → List ℕ → List Attr → List TokenKind → List (Option ℕ) → Type 0
IsOfTag false x i g name attrs tokens homes = IsOf x i name attrs tokens homes
IsOfTag true x i g name attrs tokens homes = IsForeignOf i g name attrs tokens

-- the elements that are made without a start tag of their own: html head body p br colgroup tbody tr
abbrev pub is_made_alone : Tag → Bool
is_made_alone tag.Html = true
is_made_alone tag.Head = true
is_made_alone tag.Body = true
is_made_alone tag.P = true
is_made_alone tag.Br = true
is_made_alone tag.Colgroup = true
is_made_alone tag.Tbody = true
is_made_alone tag.Tr = true
is_made_alone _ = false

-- An element that no token asked for has one of those names, and no attributes but what was merged into it.
pub record IsImplied (x : ℕ) (name : List ℕ) (attrs : List Attr) (tokens : List TokenKind) (homes : List (Option ℕ)) : Type 0 where
  pub name_tag : Tag
  pub alone : is_made_alone name_tag ≡ true
  pub name_is : name ≡ name_of name_tag
  pub attrs_are : attrs ≡ with_later x [] tokens homes

-- by its origin, and of a token by its fate
abbrev pub HasElementOrigin : ℕ → List TokenKind → List Fate → List (Option ℕ) → Origin → Tag → List ℕ → List Attr → Type 0
HasElementOrigin x tokens fates homes (Token i) g name attrs = IsOfTag (is_foreign_at fates i) x i g name attrs tokens homes
HasElementOrigin x tokens fates homes Implied g name attrs = IsImplied x name attrs tokens homes
HasElementOrigin x tokens fates homes Nothing g name attrs = ⊥

-- What a node has comes from its token: an element's name and attributes, a comment's data, a doctype's name and ids.
abbrev pub HasOrigin : ℕ → List TokenKind → List Fate → List (Option ℕ) → NodeData → Type 0
HasOrigin x tokens fates homes node.Document = Unit {0}
HasOrigin x tokens fates homes (node.Contents h) = Unit {0}
HasOrigin x tokens fates homes (node.Text s) = Unit {0}
HasOrigin x tokens fates homes (node.Comment s i) = slice_get tokens i ≡ Some (kind.Comment s)
HasOrigin x tokens fates homes (node.Doctype n p s i) = (forced : Bool) × (slice_get tokens i ≡ Some (kind.Doctype n p s forced))
HasOrigin x tokens fates homes (node.Element e) = HasElementOrigin x tokens fates homes e.origin e.tag e.name e.attrs

-- Each node has what its token has, a clone too, which is of a formatting element; of tags that were merged the attributes were added to one
-- html or body element each.
pub record AreOrigins (tokens : List TokenKind) (fates : List Fate) (labels : List NodeData) : Type 0 where
  pub homes : List (Option ℕ)
  pub merged_into : AreHomes labels tokens fates homes
  pub each : (x : ℕ) → HasOrigin x tokens fates homes (label_in labels x)
  pub clones : (x : ℕ) → is_clone_in (label_in labels x) ≡ true → is_formatting (tag_in (label_in labels x)) ≡ true
