-- Claimed.
-- Plain pages: their text has one tree, by rules that any reader of HTML knows.
use Rattle.std.specs.Prelude.{◌≡◌, ◌≢◌, ℕ, Bool, true, false, ◌||◌, ◌==◌, not, List, [], codes, Some, None}
use Rattle.std.specs.List.{AllByRecursion}
use Rattle.html_tokens.specs.Cost.{AreApart}
use Rattle.html_tokens.specs.Tag.{between, ends_attr}
use Rattle.html_tokens.specs.declared.attributes.Attr.{Attr}
use Rattle.html_arena.specs.Forest.{Forest}
use Rattle.html_page.specs.Forest.{single}
use Rattle.html_arena.specs.Forest.Forest.{empty, tree}
use Rattle.html_page.specs.Label.{Label}
use Rattle.html_page.specs.Label.Label.{document, doctype, element, text}

-- the names of the elements that a plain page may hold below its body
pub data PlainName : Type 0 where
  Div : PlainName
  Span : PlainName
  Section : PlainName
  Article : PlainName
  B : PlainName
  I : PlainName
  Em : PlainName
  Strong : PlainName

abbrev pub name_of : PlainName → List ℕ
name_of Div = codes "div"
name_of Span = codes "span"
name_of Section = codes "section"
name_of Article = codes "article"
name_of B = codes "b"
name_of I = codes "i"
name_of Em = codes "em"
name_of Strong = codes "strong"

abbrev pub IsPlainName : List ℕ → Type 0
IsPlainName n = (name : PlainName) × (n ≡ name_of name)

-- What a plain page holds below its body, where its texts hold code points that are `Char`, and its elements lists of
-- attributes that are `Attributes`. Texts are not empty, and no two stand side by side: `after_text` says that a text
-- stands just before.
abbrev pub IsPlainForest : (ℕ → Type 0) → (List Attr → Type 0) → Bool → Forest Label → Type 0
IsPlainForest Char Attributes after_text empty = Unit {0}
IsPlainForest Char Attributes after_text (tree (element name attrs) below after) =
    IsPlainName name × Attributes attrs × IsPlainForest Char Attributes false below × IsPlainForest Char Attributes false after
IsPlainForest Char Attributes false (tree (text s) below after) =
    (s ≢ []) × AllByRecursion Char s × (below ≡ empty) × IsPlainForest Char Attributes true after
IsPlainForest Char Attributes after_text (tree label below after) = ⊥

-- the page whose body holds these trees
abbrev pub page_of : Forest Label → Forest Label
page_of content =
    single document (tree (doctype (Some (codes "html")) None None) empty
    (single (element (codes "html") []) (tree (element (codes "head") []) empty (single (element (codes "body") []) content))))

-- a plain page
abbrev pub IsPlain : (ℕ → Type 0) → (List Attr → Type 0) → Forest Label → Type 0
IsPlain Char Attributes page = (content : Forest Label) × (page ≡ page_of content) × IsPlainForest Char Attributes false content

-- a code point of a plain page's texts and values: neither U+0000 nor CR
pub record IsPlainChar (c : ℕ) : Type 0 where
  pub not_null : c ≢ 0
  pub not_return : c ≢ 13

-- A code point of an attribute's name: no ASCII capital, no white space, and neither CR, U+0000, '/', '>', '=', '<', '"'
-- nor '''.
abbrev pub is_name_char : ℕ → Bool
is_name_char c = not (ends_attr c || (between 65 90 c || (c == 0 || (c == 13 || (c == 60 || (c == 34 || c == 39))))))

-- an attribute of a plain page
pub record IsPlainAttr (a : Attr) : Type 0 where
  pub some : a.name ≢ []
  pub name : AllByRecursion (λ c. is_name_char c ≡ true) a.name
  pub value : AllByRecursion IsPlainChar a.value

-- the attributes of an element of a plain page: no two have one name
abbrev pub ArePlainAttrs : List Attr → Type 0
ArePlainAttrs attrs = AllByRecursion IsPlainAttr attrs × AreApart attrs

abbrev pub IsContent : Bool → Forest Label → Type 0
IsContent = IsPlainForest IsPlainChar ArePlainAttrs

abbrev pub IsPlainPage : Forest Label → Type 0
IsPlainPage = IsPlain IsPlainChar ArePlainAttrs
