-- Claimed.
-- The names of the known elements, and the tag that a name has.
use Rattle.std.specs.Prelude.{ℕ, Bool, true, false, List, [], ◌∷◌, codes, if◌then◌else◌, ◌==◌, ◌&&◌, length}
use Rattle.std.specs.Str.{bytes_eq}
use Rattle.html_names.specs.declared.tag.Tag.{Tag}
use Rattle.html_names.specs.declared.tag.Tag.TheVariants as tag

-- the name of a known element; `Other` has none
abbrev pub name_of : Tag → List ℕ
name_of tag.A = codes "a"
name_of tag.Address = codes "address"
name_of tag.Applet = codes "applet"
name_of tag.Area = codes "area"
name_of tag.Article = codes "article"
name_of tag.Aside = codes "aside"
name_of tag.B = codes "b"
name_of tag.Base = codes "base"
name_of tag.Basefont = codes "basefont"
name_of tag.Bgsound = codes "bgsound"
name_of tag.Big = codes "big"
name_of tag.Blockquote = codes "blockquote"
name_of tag.Body = codes "body"
name_of tag.Br = codes "br"
name_of tag.Button = codes "button"
name_of tag.Caption = codes "caption"
name_of tag.Center = codes "center"
name_of tag.Code = codes "code"
name_of tag.Col = codes "col"
name_of tag.Colgroup = codes "colgroup"
name_of tag.Dd = codes "dd"
name_of tag.Details = codes "details"
name_of tag.Dialog = codes "dialog"
name_of tag.Dir = codes "dir"
name_of tag.Div = codes "div"
name_of tag.Dl = codes "dl"
name_of tag.Dt = codes "dt"
name_of tag.Em = codes "em"
name_of tag.Embed = codes "embed"
name_of tag.Fieldset = codes "fieldset"
name_of tag.Figcaption = codes "figcaption"
name_of tag.Figure = codes "figure"
name_of tag.Font = codes "font"
name_of tag.Footer = codes "footer"
name_of tag.Form = codes "form"
name_of tag.Frame = codes "frame"
name_of tag.Frameset = codes "frameset"
name_of tag.H1 = codes "h1"
name_of tag.H2 = codes "h2"
name_of tag.H3 = codes "h3"
name_of tag.H4 = codes "h4"
name_of tag.H5 = codes "h5"
name_of tag.H6 = codes "h6"
name_of tag.Head = codes "head"
name_of tag.Header = codes "header"
name_of tag.Hgroup = codes "hgroup"
name_of tag.Hr = codes "hr"
name_of tag.Html = codes "html"
name_of tag.I = codes "i"
name_of tag.Iframe = codes "iframe"
name_of tag.Image = codes "image"
name_of tag.Img = codes "img"
name_of tag.Input = codes "input"
name_of tag.Keygen = codes "keygen"
name_of tag.Li = codes "li"
name_of tag.Link = codes "link"
name_of tag.Listing = codes "listing"
name_of tag.Main = codes "main"
name_of tag.Marquee = codes "marquee"
name_of tag.Math = codes "math"
name_of tag.Menu = codes "menu"
name_of tag.Meta = codes "meta"
name_of tag.Nav = codes "nav"
name_of tag.Nobr = codes "nobr"
name_of tag.Noembed = codes "noembed"
name_of tag.Noframes = codes "noframes"
name_of tag.Noscript = codes "noscript"
name_of tag.Object = codes "object"
name_of tag.Ol = codes "ol"
name_of tag.Optgroup = codes "optgroup"
name_of tag.Option = codes "option"
name_of tag.P = codes "p"
name_of tag.Param = codes "param"
name_of tag.Plaintext = codes "plaintext"
name_of tag.Pre = codes "pre"
name_of tag.Rb = codes "rb"
name_of tag.Rp = codes "rp"
name_of tag.Rt = codes "rt"
name_of tag.Rtc = codes "rtc"
name_of tag.Ruby = codes "ruby"
name_of tag.S = codes "s"
name_of tag.Script = codes "script"
name_of tag.Search = codes "search"
name_of tag.Section = codes "section"
name_of tag.Select = codes "select"
name_of tag.Small = codes "small"
name_of tag.Source = codes "source"
name_of tag.Strike = codes "strike"
name_of tag.Strong = codes "strong"
name_of tag.Style = codes "style"
name_of tag.Summary = codes "summary"
name_of tag.Svg = codes "svg"
name_of tag.Table = codes "table"
name_of tag.Tbody = codes "tbody"
name_of tag.Td = codes "td"
name_of tag.Template = codes "template"
name_of tag.Textarea = codes "textarea"
name_of tag.Tfoot = codes "tfoot"
name_of tag.Th = codes "th"
name_of tag.Thead = codes "thead"
name_of tag.Title = codes "title"
name_of tag.Tr = codes "tr"
name_of tag.Track = codes "track"
name_of tag.Tt = codes "tt"
name_of tag.U = codes "u"
name_of tag.Ul = codes "ul"
name_of tag.Wbr = codes "wbr"
name_of tag.Xmp = codes "xmp"
name_of tag.Other = []
name_of tag.SvgDesc = codes "svg desc"
name_of tag.SvgForeignObject = codes "svg foreignObject"
name_of tag.SvgTitle = codes "svg title"
name_of tag.SvgOther = codes "svg "
name_of tag.MathAnnotationXml = codes "math annotation-xml"
name_of tag.MathMi = codes "math mi"
name_of tag.MathMn = codes "math mn"
name_of tag.MathMo = codes "math mo"
name_of tag.MathMs = codes "math ms"
name_of tag.MathMtext = codes "math mtext"
name_of tag.MathOther = codes "math "

abbrev pub is_known : Tag → Bool
is_known tag.Other = false
is_known tag.SvgOther = false
is_known tag.MathOther = false
is_known _ = true

abbrev pub is_other : Tag → Bool
is_other tag.Other = true
is_other _ = false

-- a name and its tag
pub record Row : Type 0 where
  pub name : List ℕ
  pub tag : Tag

abbrev pub row : Tag → Row
row t = record { name = name_of t; tag = t }

-- the tag of the first row with this name, or `Other`
abbrev pub look_up : List ℕ → List Row → Tag
look_up name [] = tag.Other
look_up name (r ∷ rows) = if bytes_eq name r.name then r.tag else look_up name rows

-- the known names of 1 letter
abbrev pub rows_1 : List Row
rows_1 = row tag.A ∷ row tag.B ∷ row tag.I ∷ row tag.P ∷ row tag.S ∷ row tag.U ∷ []

-- the known names of 2 letters
abbrev pub rows_2 : List Row
rows_2 = row tag.Br ∷ row tag.Dd ∷ row tag.Dl ∷ row tag.Dt ∷ row tag.Em ∷ row tag.H1 ∷ row tag.H2 ∷ row tag.H3 ∷ row tag.H4 ∷ row tag.H5 ∷ row tag.H6 ∷ row tag.Hr ∷ row tag.Li ∷ row tag.Ol ∷ row tag.Rb ∷ row tag.Rp ∷ row tag.Rt ∷ row tag.Td ∷ row tag.Th ∷ row tag.Tr ∷ row tag.Tt ∷ row tag.Ul ∷ []

-- the known names of 3 letters
abbrev pub rows_3 : List Row
rows_3 = row tag.Big ∷ row tag.Col ∷ row tag.Dir ∷ row tag.Div ∷ row tag.Img ∷ row tag.Nav ∷ row tag.Pre ∷ row tag.Rtc ∷ row tag.Svg ∷ row tag.Wbr ∷ row tag.Xmp ∷ []

-- the known names of 4 letters
abbrev pub rows_4 : List Row
rows_4 = row tag.Area ∷ row tag.Base ∷ row tag.Body ∷ row tag.Code ∷ row tag.Font ∷ row tag.Form ∷ row tag.Head ∷ row tag.Html ∷ row tag.Link ∷ row tag.Main ∷ row tag.Math ∷ row tag.Menu ∷ row tag.Meta ∷ row tag.Nobr ∷ row tag.Ruby ∷ []

-- the known names of 5 letters
abbrev pub rows_5 : List Row
rows_5 = row tag.Aside ∷ row tag.Embed ∷ row tag.Frame ∷ row tag.Image ∷ row tag.Input ∷ row tag.Param ∷ row tag.Small ∷ row tag.Style ∷ row tag.Table ∷ row tag.Tbody ∷ row tag.Tfoot ∷ row tag.Thead ∷ row tag.Title ∷ row tag.Track ∷ []

-- the known names of 6 letters
abbrev pub rows_6 : List Row
rows_6 = row tag.Applet ∷ row tag.Button ∷ row tag.Center ∷ row tag.Dialog ∷ row tag.Figure ∷ row tag.Footer ∷ row tag.Header ∷ row tag.Hgroup ∷ row tag.Iframe ∷ row tag.Keygen ∷ row tag.Object ∷ row tag.Option ∷ row tag.Script ∷ row tag.Search ∷ row tag.Select ∷ row tag.Source ∷ row tag.Strike ∷ row tag.Strong ∷ []

-- the known names of 7 letters
abbrev pub rows_7 : List Row
rows_7 = row tag.Address ∷ row tag.Article ∷ row tag.Bgsound ∷ row tag.Caption ∷ row tag.Details ∷ row tag.Listing ∷ row tag.Marquee ∷ row tag.Noembed ∷ row tag.Section ∷ row tag.Summary ∷ row tag.MathMi ∷ row tag.MathMn ∷ row tag.MathMo ∷ row tag.MathMs ∷ []

-- the known names of 8 letters
abbrev pub rows_8 : List Row
rows_8 = row tag.Basefont ∷ row tag.Colgroup ∷ row tag.Fieldset ∷ row tag.Frameset ∷ row tag.Noframes ∷ row tag.Noscript ∷ row tag.Optgroup ∷ row tag.Template ∷ row tag.Textarea ∷ row tag.SvgDesc ∷ []

-- the known names of 9 letters
abbrev pub rows_9 : List Row
rows_9 = row tag.Plaintext ∷ row tag.SvgTitle ∷ []

-- the known names of 10 letters
abbrev pub rows_10 : List Row
rows_10 = row tag.Blockquote ∷ row tag.Figcaption ∷ row tag.MathMtext ∷ []

-- the known names of 17 letters
abbrev pub rows_17 : List Row
rows_17 = row tag.SvgForeignObject ∷ []

-- the known names of 19 letters
abbrev pub rows_19 : List Row
rows_19 = row tag.MathAnnotationXml ∷ []

-- the known names of so many letters
abbrev pub rows_of : ℕ → List Row
rows_of k =
    if k == 1 then rows_1 else (if k == 2 then rows_2 else (if k == 3 then rows_3 else (if k == 4 then rows_4 else (if k == 5 then rows_5 else (if k == 6 then rows_6 else (if k == 7 then rows_7 else (if k == 8 then rows_8 else (if k == 9 then rows_9 else (if k == 10 then rows_10 else (if k == 17 then rows_17 else (if k == 19 then rows_19 else ([]))))))))))))

-- the names of the elements of SVG, and of MathML, begin so
abbrev pub svg_prefix : List ℕ
svg_prefix = codes "svg "

abbrev pub math_prefix : List ℕ
math_prefix = codes "math "

-- these come first
abbrev pub begins_with : List ℕ → List ℕ → Bool
begins_with [] name = true
begins_with (c ∷ cs) [] = false
begins_with (c ∷ cs) (d ∷ ds) = (c == d) && begins_with cs ds

-- the tag of a name that is none of the known ones: by what it begins with
abbrev pub unknown_tag : List ℕ → Tag
unknown_tag name = if begins_with svg_prefix name then tag.SvgOther else (if begins_with math_prefix name then tag.MathOther else tag.Other)

-- the tag of a known name; `Other` where it is none
abbrev pub known_tag : List ℕ → Tag
known_tag name = look_up name (rows_of (length name))

-- the tag that a name has
unfoldable pub tag_of : List ℕ → Tag
tag_of name = if is_other (known_tag name) then unknown_tag name else known_tag name
