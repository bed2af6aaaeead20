-- Claimed.
-- What a token says of its node (13.2.5).
use Rattle.std.specs.Prelude.{ℕ, Bool, false, List, [], ◌∷◌, ◌++◌, map, Option, None, unwrap_or, if◌then◌else◌}
use Rattle.html_names.specs.declared.foreign.Space.{Space}
use Rattle.html_names.specs.Foreign.{adjusted_attr, adjusted_name, prefix_of}
use Rattle.html_names.specs.declared.tag.Tag.{Tag}
use Rattle.html_names.specs.declared.tag.Tag.TheVariants as tag
use Rattle.html_names.specs.Names.{name_of, tag_of}
use Rattle.html_names.specs.Tags.{is_same}
use Rattle.html_tokens.specs.declared.attributes.Attr.{Attr}
use Rattle.html_tokens.specs.declared.token.TokenKind.{TokenKind}
use Rattle.html_tokens.specs.declared.token.TokenKind.TheVariants as kind
use Rattle.html_tree.specs.Proper.{opens}

-- the name of a tag; another token has none
abbrev pub tag_name : TokenKind → List ℕ
tag_name (kind.Start name attrs self_closing) = name
tag_name (kind.End name) = name
tag_name _ = []

-- the name of the element of a start tag: that of the tag, and img for image (13.2.6.4.7)
abbrev pub element_name : Tag → TokenKind → List ℕ
element_name t token = if is_same t tag.Image then name_of tag.Img else tag_name token

-- the tag of that element
abbrev pub element_tag : Tag → Tag
element_tag t = if is_same t tag.Image then tag.Img else t

-- a start tag of this name makes an element of that very name, which is opened
abbrev pub opens_own : Tag → Bool
opens_own t = if is_same t tag.Image then false else opens t

-- the attributes of a start tag; another token has none
abbrev pub attrs_of : TokenKind → List Attr
attrs_of (kind.Start name attrs self_closing) = attrs
attrs_of _ = []

-- the tag closes itself; another token does not
abbrev pub closes_itself : TokenKind → Bool
closes_itself (kind.Start name attrs self_closing) = self_closing
closes_itself _ = false

-- the name of an element of foreign content: what the names of its namespace begin with, and that of the tag, adjusted (13.2.6.5)
abbrev pub foreign_name : Space → List ℕ → List ℕ
foreign_name space name = prefix_of space ++ unwrap_or (adjusted_name space name) name

-- an attribute of such an element: its name is adjusted (13.2.6.1), and its value is the tag's
abbrev pub foreign_attr : Space → Attr → Attr
foreign_attr space a = record a { name = unwrap_or (adjusted_attr space a.name) a.name }

abbrev pub foreign_attrs : Space → List Attr → List Attr
foreign_attrs space attrs = map (foreign_attr space) attrs

-- the code point of a token, if it is one
abbrev pub char_of : TokenKind → List ℕ
char_of (kind.Char c) = c ∷ []
char_of _ = []

-- the data of a comment; another token has none
abbrev pub data_of : TokenKind → List ℕ
data_of (kind.Comment text) = text
data_of _ = []

-- the name and the ids of a doctype, each where it is there; another token has none
abbrev pub name_id : TokenKind → Option (List ℕ)
name_id (kind.Doctype name public_text system_text force_quirks) = name
name_id _ = None

abbrev pub public_id : TokenKind → Option (List ℕ)
public_id (kind.Doctype name public_text system_text force_quirks) = public_text
public_id _ = None

abbrev pub system_id : TokenKind → Option (List ℕ)
system_id (kind.Doctype name public_text system_text force_quirks) = system_text
system_id _ = None

-- the same, by the name of the tag alone
abbrev pub node_name : List ℕ → List ℕ
node_name name = if is_same (tag_of name) tag.Image then name_of tag.Img else name
