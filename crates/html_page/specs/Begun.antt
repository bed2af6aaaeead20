-- Claimed.
-- A page of which some tokens were read: the elements that they leave open, and what stands in them.
use Rattle.std.specs.Prelude.{Bool, true, false, List, [], ◌∷◌}
use Rattle.html_arena.specs.Forest.{Forest}
use Rattle.html_arena.specs.Forest.Forest.{empty, tree}
use Rattle.html_tokens.specs.declared.token.TokenKind.{TokenKind}
use Rattle.html_tokens.specs.declared.token.TokenKind.TheVariants.{Start}
use Rattle.html_page.specs.Label.{Label}
use Rattle.html_page.specs.Label.Label.{document, doctype, element, text, comment}
use Rattle.html_page.specs.Plain.{ArePlainAttrs, IsContent, IsPlainName}
use Rattle.html_page.specs.PageTokens.{kinds_then}
use Rattle.html_page.specs.Open.{Before}

-- of the open elements the start tags, and all that is done, and then others
abbrev pub front_then : Forest Label → List Before → List TokenKind → List TokenKind
front_then d [] rest = kinds_then d rest
front_then d ((n, attrs, before) ∷ outer) rest = front_then before outer (Start n attrs false ∷ kinds_then d rest)

-- these are open elements of what a plain page holds below its body
abbrev pub IsContentOuter : List Before → Type 0
IsContentOuter [] = Unit {0}
IsContentOuter ((n, attrs, before) ∷ outer) = IsPlainName n × ArePlainAttrs attrs × IsContent false before × IsContentOuter outer

-- rows of trees that end with a text or not

abbrev pub is_text_label : Label → Bool
is_text_label (text s) = true
is_text_label document = false
is_text_label (doctype n p s) = false
is_text_label (element n a) = false
is_text_label (comment s) = false

abbrev pub ends_after : Bool → Forest Label → Bool
ends_after after empty = after
ends_after after (tree l k r) = ends_after (is_text_label l) r
