-- Claimed, but for this crate's own functions: sized.
-- The names and the tags of foreign content: SVG and MathML (13.2.4.2, 13.2.6, 13.2.6.1 and 13.2.6.5).
use Rattle.std.specs.Prelude.{ℕ, Bool, true, false, not, ◌||◌, ◌&&◌, ◌==◌, List, [], ◌∷◌, Option, Some, None, codes, if◌then◌else◌, drop, length, map, nat_lt}
use Rattle.std.specs.Str.{bytes_eq}
use Rattle.std.specs.Char.{to_ascii_lowercase}
use Rattle.html_names.specs.declared.tag.Tag.{Tag}
use Rattle.html_names.specs.declared.tag.Tag.TheVariants as tag
use Rattle.html_names.specs.declared.foreign.Space.{Space}
use Rattle.html_names.specs.declared.foreign.Space.TheVariants as space
use Rattle.html_names.specs.declared.foreign.AttrSpace.{AttrSpace}
use Rattle.html_names.specs.declared.foreign.AttrSpace.TheVariants as attrs
use Rattle.html_names.specs.Sets.{is_heading}
use Rattle.html_names.specs.Names.{begins_with, svg_prefix, math_prefix}

-- THE TAGS

-- the elements of SVG
abbrev pub is_svg : Tag → Bool
is_svg tag.SvgDesc = true
is_svg tag.SvgForeignObject = true
is_svg tag.SvgTitle = true
is_svg tag.SvgOther = true
is_svg _ = false

-- the elements of MathML
abbrev pub is_math : Tag → Bool
is_math tag.MathAnnotationXml = true
is_math tag.MathMi = true
is_math tag.MathMn = true
is_math tag.MathMo = true
is_math tag.MathMs = true
is_math tag.MathMtext = true
is_math tag.MathOther = true
is_math _ = false

-- an element that is not of HTML
abbrev pub is_foreign : Tag → Bool
is_foreign t = is_svg t || is_math t

-- the namespace of an element
abbrev pub space_of : Tag → Space
space_of t = if is_svg t then space.Svg else (if is_math t then space.Math else space.Html)

-- MathML text integration points (13.2.6)
abbrev pub is_text_point : Tag → Bool
is_text_point tag.MathMi = true
is_text_point tag.MathMn = true
is_text_point tag.MathMo = true
is_text_point tag.MathMs = true
is_text_point tag.MathMtext = true
is_text_point _ = false

-- HTML integration points, whatever their attributes are (13.2.6)
abbrev pub is_html_point : Tag → Bool
is_html_point tag.SvgDesc = true
is_html_point tag.SvgForeignObject = true
is_html_point tag.SvgTitle = true
is_html_point _ = false

-- the known names whose start tags end foreign content (13.2.6.5): headings, those from b to img, and those from li to ul
abbrev pub is_early_breakout : Tag → Bool
is_early_breakout tag.B = true
is_early_breakout tag.Big = true
is_early_breakout tag.Blockquote = true
is_early_breakout tag.Body = true
is_early_breakout tag.Br = true
is_early_breakout tag.Center = true
is_early_breakout tag.Code = true
is_early_breakout tag.Dd = true
is_early_breakout tag.Div = true
is_early_breakout tag.Dl = true
is_early_breakout tag.Dt = true
is_early_breakout tag.Em = true
is_early_breakout tag.Embed = true
is_early_breakout tag.Head = true
is_early_breakout tag.Hr = true
is_early_breakout tag.I = true
is_early_breakout tag.Img = true
is_early_breakout _ = false

abbrev pub is_late_breakout : Tag → Bool
is_late_breakout tag.Li = true
is_late_breakout tag.Listing = true
is_late_breakout tag.Menu = true
is_late_breakout tag.Meta = true
is_late_breakout tag.Nobr = true
is_late_breakout tag.Ol = true
is_late_breakout tag.P = true
is_late_breakout tag.Pre = true
is_late_breakout tag.Ruby = true
is_late_breakout tag.S = true
is_late_breakout tag.Small = true
is_late_breakout tag.Strike = true
is_late_breakout tag.Strong = true
is_late_breakout tag.Table = true
is_late_breakout tag.Tt = true
is_late_breakout tag.U = true
is_late_breakout tag.Ul = true
is_late_breakout _ = false

abbrev pub is_breakout : Tag → Bool
is_breakout t = is_heading t || (is_early_breakout t || is_late_breakout t)

-- THE NAMES

-- a text in lower case, as far as it is ASCII
abbrev pub lowered : List ℕ → List ℕ
lowered name = map to_ascii_lowercase name

-- the second is the first in lower case
abbrev pub is_lowered : List ℕ → List ℕ → Bool
is_lowered capital lower = bytes_eq (lowered capital) lower

-- the name is one of these
abbrev pub is_one_of : List ℕ → List (List ℕ) → Bool
is_one_of name [] = false
is_one_of name (n ∷ ns) = bytes_eq name n || is_one_of name ns

-- the values of `encoding` with which an annotation-xml is an HTML integration point, in any ASCII case (13.2.6)
abbrev pub is_html_encoding : List ℕ → Bool
is_html_encoding value = is_lowered value (codes "text/html") || is_lowered value (codes "application/xhtml+xml")

-- the names that no other rule knows, and whose start tags end foreign content (13.2.6.5)
abbrev pub is_unknown_breakout : List ℕ → Bool
is_unknown_breakout name = is_one_of name (codes "span" ∷ codes "sub" ∷ codes "sup" ∷ codes "var" ∷ [])

-- the names whose start tags a MathML text integration point leaves to foreign content (13.2.6)
abbrev pub is_math_text_part : List ℕ → Bool
is_math_text_part name = is_one_of name (codes "mglyph" ∷ codes "malignmark" ∷ [])

-- the attributes of a font that end foreign content (13.2.6.5)
abbrev pub is_font_attr : List ℕ → Bool
is_font_attr name = is_one_of name (codes "color" ∷ codes "face" ∷ codes "size" ∷ [])

-- the namespace of HTML
abbrev pub is_html_space : Space → Bool
is_html_space space.Html = true
is_html_space space.Svg = false
is_html_space space.Math = false

-- what the names of the elements of a namespace begin with
abbrev pub prefix_of : Space → List ℕ
prefix_of space.Html = []
prefix_of space.Svg = svg_prefix
prefix_of space.Math = math_prefix

-- what a table that has these rows makes of a name: of the first row that reads so, what the row writes
abbrev pub written : (List ℕ → List ℕ) → (List ℕ → List ℕ) → List ℕ → List (List ℕ) → Option (List ℕ)
written reads writes name [] = None
written reads writes name (r ∷ rows) = if bytes_eq name (reads r) then Some (writes r) else written reads writes name rows

-- as it stands
abbrev pub as_is : List ℕ → List ℕ
as_is name = name

-- the first of these names that is this one but for its capitals
abbrev pub adjusted_in : List ℕ → List (List ℕ) → Option (List ℕ)
adjusted_in name rows = written lowered as_is name rows

-- the names of SVG that have capitals (13.2.6.5, the table of SVG tag names)
abbrev pub svg_names : List (List ℕ)
svg_names = codes "altGlyph" ∷ codes "altGlyphDef" ∷ codes "altGlyphItem" ∷ codes "animateColor" ∷ codes "animateMotion" ∷ codes "animateTransform" ∷ codes "clipPath" ∷ codes "feBlend" ∷ codes "feColorMatrix" ∷ codes "feComponentTransfer" ∷ codes "feComposite" ∷ codes "feConvolveMatrix" ∷ codes "feDiffuseLighting" ∷ codes "feDisplacementMap" ∷ codes "feDistantLight" ∷ codes "feDropShadow" ∷ codes "feFlood" ∷ codes "feFuncA" ∷ codes "feFuncB" ∷ codes "feFuncG" ∷ codes "feFuncR" ∷ codes "feGaussianBlur" ∷ codes "feImage" ∷ codes "feMerge" ∷ codes "feMergeNode" ∷ codes "feMorphology" ∷ codes "feOffset" ∷ codes "fePointLight" ∷ codes "feSpecularLighting" ∷ codes "feSpotLight" ∷ codes "feTile" ∷ codes "feTurbulence" ∷ codes "foreignObject" ∷ codes "glyphRef" ∷ codes "linearGradient" ∷ codes "radialGradient" ∷ codes "textPath" ∷ []

-- the names of SVG's attributes that have capitals (13.2.6.1, adjust SVG attributes)
abbrev pub svg_attrs : List (List ℕ)
svg_attrs = codes "attributeName" ∷ codes "attributeType" ∷ codes "baseFrequency" ∷ codes "baseProfile" ∷ codes "calcMode" ∷ codes "clipPathUnits" ∷ codes "diffuseConstant" ∷ codes "edgeMode" ∷ codes "filterUnits" ∷ codes "glyphRef" ∷ codes "gradientTransform" ∷ codes "gradientUnits" ∷ codes "kernelMatrix" ∷ codes "kernelUnitLength" ∷ codes "keyPoints" ∷ codes "keySplines" ∷ codes "keyTimes" ∷ codes "lengthAdjust" ∷ codes "limitingConeAngle" ∷ codes "markerHeight" ∷ codes "markerUnits" ∷ codes "markerWidth" ∷ codes "maskContentUnits" ∷ codes "maskUnits" ∷ codes "numOctaves" ∷ codes "pathLength" ∷ codes "patternContentUnits" ∷ codes "patternTransform" ∷ codes "patternUnits" ∷ codes "pointsAtX" ∷ codes "pointsAtY" ∷ codes "pointsAtZ" ∷ codes "preserveAlpha" ∷ codes "preserveAspectRatio" ∷ codes "primitiveUnits" ∷ codes "refX" ∷ codes "refY" ∷ codes "repeatCount" ∷ codes "repeatDur" ∷ codes "requiredExtensions" ∷ codes "requiredFeatures" ∷ codes "specularConstant" ∷ codes "specularExponent" ∷ codes "spreadMethod" ∷ codes "startOffset" ∷ codes "stdDeviation" ∷ codes "stitchTiles" ∷ codes "surfaceScale" ∷ codes "systemLanguage" ∷ codes "tableValues" ∷ codes "targetX" ∷ codes "targetY" ∷ codes "textLength" ∷ codes "viewBox" ∷ codes "viewTarget" ∷ codes "xChannelSelector" ∷ codes "yChannelSelector" ∷ codes "zoomAndPan" ∷ []

-- and those of MathML's (13.2.6.1, adjust MathML attributes)
abbrev pub math_attrs : List (List ℕ)
math_attrs = codes "definitionURL" ∷ []

-- the names of attributes of other namespaces, as they stand in a page: the prefix, a colon, the local name (13.2.6.1, adjust foreign attributes).
-- The eleventh of that table, `xmlns`, has no prefix, and its name stays.
abbrev pub qualified_attrs : List (List ℕ)
qualified_attrs = codes "xlink:actuate" ∷ codes "xlink:arcrole" ∷ codes "xlink:href" ∷ codes "xlink:role" ∷ codes "xlink:show" ∷ codes "xlink:title" ∷ codes "xlink:type" ∷ codes "xml:lang" ∷ codes "xml:space" ∷ codes "xmlns:xlink" ∷ []

-- U+0020 in place of a colon: no attribute of a tag has such a name
abbrev pub uncoloned : ℕ → ℕ
uncoloned c = if c == 58 then 32 else c

abbrev pub expanded : List ℕ → List ℕ
expanded name = map uncoloned name

-- the name that an attribute of another namespace has in the tree: the prefix, U+0020, the local name
abbrev pub expanded_attr : List ℕ → Option (List ℕ)
expanded_attr name = written as_is expanded name qualified_attrs

-- the first of two, or else the second
abbrev pub found_or : Option (List ℕ) → Option (List ℕ) → Option (List ℕ)
found_or (Some own) other = Some own
found_or None other = other

-- the local name of an element of a start tag, where it is another (13.2.6.5)
abbrev pub adjusted_name : Space → List ℕ → Option (List ℕ)
adjusted_name space.Svg name = adjusted_in name svg_names
adjusted_name space.Math name = None
adjusted_name space.Html name = None

-- the name that an attribute of a start tag has in an element of foreign content, where it is another (13.2.6.1 and 13.2.6.5)
abbrev pub adjusted_attr : Space → List ℕ → Option (List ℕ)
adjusted_attr space.Svg name = found_or (adjusted_in name svg_attrs) (expanded_attr name)
adjusted_attr space.Math name = found_or (adjusted_in name math_attrs) (expanded_attr name)
adjusted_attr space.Html name = None

-- what an adjusted name was: in lower case, with a colon in place of U+0020. So adjusting is one to one, and keeps the number of code points.
abbrev pub read_char : ℕ → ℕ
read_char c = if c == 32 then 58 else to_ascii_lowercase c

abbrev pub as_read : List ℕ → List ℕ
as_read name = map read_char name

-- the local name of an element: what follows its prefix
abbrev pub local_name : List ℕ → List ℕ
local_name name = if begins_with svg_prefix name then drop 4 name else (if begins_with math_prefix name then drop 5 name else name)

-- ATTRIBUTES IN THE TREE

abbrev pub xlink_prefix : List ℕ
xlink_prefix = codes "xlink "

abbrev pub xml_prefix : List ℕ
xml_prefix = codes "xml "

abbrev pub xmlns_prefix : List ℕ
xmlns_prefix = codes "xmlns "

-- the namespace of an attribute, by its name, and of `xmlns` by its element's (13.2.6.1, adjust foreign attributes)
abbrev pub xmlns_space : Space → List ℕ → AttrSpace
xmlns_space space.Html name = attrs.Null
xmlns_space element name = if bytes_eq name (codes "xmlns") then attrs.Xmlns else attrs.Null

abbrev pub attr_space : Space → List ℕ → AttrSpace
attr_space element name = if begins_with xlink_prefix name then attrs.Xlink else (if begins_with xml_prefix name then attrs.Xml else (if begins_with xmlns_prefix name then attrs.Xmlns else xmlns_space element name))

-- the local name of an attribute: what follows its prefix
abbrev pub local_attr_name : List ℕ → List ℕ
local_attr_name name = if begins_with xlink_prefix name then drop 6 name else (if begins_with xml_prefix name then drop 4 name else (if begins_with xmlns_prefix name then drop 6 name else name))

-- THE TABLES BY LENGTH

-- those of these names that have from `least` up to `end` letters
abbrev pub sized : ℕ → ℕ → List (List ℕ) → List (List ℕ)
sized least end [] = []
sized least end (r ∷ rows) = if not (nat_lt (length r) least) && nat_lt (length r) end then r ∷ sized least end rows else sized least end rows
