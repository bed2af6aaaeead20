-- Claimed.
-- The tokens that go by the rules for foreign content: the tree construction dispatcher (13.2.6). And what those rules close (13.2.6.5).
use Rattle.std.specs.Prelude.{ℕ, ◌==◌, ◌||◌, ◌&&◌, Bool, true, false, not, cond, List, [], ◌∷◌, length, is_some, Option, Some, None}
use Rattle.html_names.specs.declared.tag.Tag.{Tag}
use Rattle.html_names.specs.declared.tag.Tag.TheVariants as tag
use Rattle.html_names.specs.Foreign.{is_breakout, is_font_attr, is_html_point, is_math_text_part, is_text_point, is_unknown_breakout}
use Rattle.html_names.specs.Tags.{is_same}
use Rattle.html_tokens.specs.declared.attributes.Attr.{Attr}
use Rattle.html_tokens.specs.declared.token.TokenKind.{TokenKind}
use Rattle.html_ledger.specs.declared.symbol.Symbol.{Symbol}
use Rattle.html_ledger.specs.declared.symbol.Symbol.TheVariants.{Start, End, Char, Eof}
use Rattle.html_tree.specs.Closing.{before_index}
use Rattle.html_tree.specs.Foreign.{found_foreign, is_at_html_point, left_foreign}
use Rattle.html_tree.specs.States.{State as Tree}
use Rattle.html_construction.specs.Foreign.{foreign_tag}
use Rattle.html_construction.specs.States.{State}
use Rattle.html_construction.specs.Tokens.{attrs_of, tag_name}
use Rattle.html_modes.specs.Fitting.{is_loose}

-- THE DISPATCHER
-- where the adjusted current node is an element of foreign content, of this tag

-- an HTML integration point: by its tag, or the current node by its attributes (a context has none, and the root is no such point)
abbrev pub is_html_point_here : State → Tag → Bool
is_html_point_here a g = is_html_point g || is_at_html_point a.tree

-- a character token goes by the rules of the insertion mode at a MathML text integration point, or an HTML integration point
abbrev pub takes_char : State → Tag → Bool
takes_char a g = is_text_point g || is_html_point_here a g

-- a start tag does at a MathML text integration point where its name is neither mglyph nor malignmark, in an annotation-xml where it is svg, and at an
-- HTML integration point
abbrev pub takes_start : State → Tag → Tag → List ℕ → Bool
takes_start a g t name = (is_text_point g && not (is_math_text_part name)) || ((is_same g tag.MathAnnotationXml && is_same t tag.Svg) || is_html_point_here a g)

-- the token goes by the rules for foreign content
abbrev pub goes_by_foreign : State → Tag → Symbol → TokenKind → Bool
goes_by_foreign a g (Start t) k = not (takes_start a g t (tag_name k))
goes_by_foreign a g (Char c) k = not (takes_char a g)
goes_by_foreign a g Eof k = false
goes_by_foreign a g _ k = true

abbrev pub if_goes : State → Symbol → TokenKind → Option Tag → Option Tag
if_goes a y k None = None
if_goes a y k (Some g) = cond (goes_by_foreign a g y k) (Some g) None

-- the tag of the adjusted current node, where the token goes by the rules for foreign content; in the modes in which such a node may be the current one
abbrev pub around_foreign : State → Symbol → TokenKind → Option Tag
around_foreign a y k = cond (is_loose a.mode) (if_goes a y k (foreign_tag a)) None

-- WHAT THE RULES FOR FOREIGN CONTENT CLOSE

-- an attribute color, face or size
abbrev pub has_font_attr : List Attr → Bool
has_font_attr [] = false
has_font_attr (a ∷ rest) = is_font_attr a.name || has_font_attr rest

-- a start tag of one of the names that end foreign content; or font, with one of those attributes
abbrev pub breaks_out : Tag → TokenKind → Bool
breaks_out t k = is_breakout t || (is_unknown_breakout (tag_name k) || (is_same t tag.Font && has_font_attr (attrs_of k)))

-- the end tags of br and p do so too
abbrev pub ends_foreign : Tag → Bool
ends_foreign t = is_same t tag.Br || is_same t tag.P

abbrev pub leaves_foreign : Symbol → TokenKind → Bool
leaves_foreign (Start t) k = breaks_out t k
leaves_foreign (End t) k = ends_foreign t
leaves_foreign _ k = false

-- any other end tag
abbrev pub ends_any : Symbol → Bool
ends_any (End t) = not (ends_foreign t)
ends_any _ = false

-- the open elements after one of this name: it is ignored where the root alone is open; else the last element of foreign content of that name is closed,
-- unless one of HTML stands after it
abbrev pub closed_foreign : Tree → List ℕ → List ℕ
closed_foreign t name = cond (length t.stack == 1) t.stack (before_index (found_foreign t name) t.stack)

-- The open elements after what these rules close.
abbrev pub stack_after : Tree → Symbol → TokenKind → List ℕ
stack_after t y k = cond (leaves_foreign y k) (left_foreign t) (cond (ends_any y) (closed_foreign t (tag_name k)) t.stack)

-- The token goes on by the rules of the insertion mode: after foreign content was left, or where an end tag meets an element of HTML.
abbrev pub goes_on : Tree → Symbol → TokenKind → Bool
goes_on t y k = leaves_foreign y k || (ends_any y && (not (length t.stack == 1) && not (is_some (found_foreign t (tag_name k)))))
