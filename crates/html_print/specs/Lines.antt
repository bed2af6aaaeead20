-- Claimed.
-- The lines of a tree, in the form of the html5lib tests.
use Rattle.std.specs.Prelude.{ℕ, ◌+◌, ◌*◌, List, [], ◌∷◌, ◌++◌, codes, replicate, Bool, false, cond}
use Rattle.std.specs.List.{flat_map}
use Rattle.html_arena.specs.Forest.{Forest}
use Rattle.html_arena.specs.Forest.Forest.{empty, tree}
use Rattle.html_names.specs.Names.{tag_of}
use Rattle.html_names.specs.Sets.{is_template}
use Rattle.html_page.specs.Html.{is_foreign_name, text_or_empty}
use Rattle.html_page.specs.Label.{Label}
use Rattle.html_page.specs.Label.Label.{document, doctype, element, text, comment}
use Rattle.html_print.specs.Order.{printed_name}
use Rattle.html_tokens.specs.declared.attributes.Attr.{Attr}

-- a line, with its end: two spaces a level
abbrev pub line : ℕ → List ℕ → List ℕ
line depth s = codes "| " ++ (replicate (2 * depth) 32 ++ (s ++ 10 ∷ []))

-- the public and the system id of a doctype
abbrev pub quoted_ids : List ℕ → List ℕ → List ℕ
quoted_ids public system = codes " \"" ++ (public ++ (codes "\" \"" ++ (system ++ codes "\"")))

-- they are shown where one of them is not empty
abbrev pub ids : List ℕ → List ℕ → List ℕ
ids [] [] = []
ids [] (c ∷ system) = quoted_ids [] (c ∷ system)
ids (c ∷ public) system = quoted_ids (c ∷ public) system

-- what stands for a node on its line
abbrev pub shown : Label → List ℕ
shown document = []
shown (doctype n public system) = codes "<!DOCTYPE " ++ (text_or_empty n ++ (ids (text_or_empty public) (text_or_empty system) ++ codes ">"))
shown (element n attrs) = codes "<" ++ (n ++ codes ">")
shown (text s) = codes "\"" ++ (s ++ codes "\"")
shown (comment s) = codes "<!-- " ++ (s ++ codes " -->")

-- what stands for an attribute on its line, in foreign content or not
abbrev pub shown_attribute : Bool → Attr → List ℕ
shown_attribute foreign a = printed_name foreign a.name ++ (codes "=\"" ++ (a.value ++ codes "\""))

abbrev pub attributes_in : Label → List Attr
attributes_in (element n attrs) = attrs
attributes_in document = []
attributes_in (doctype n public system) = []
attributes_in (text s) = []
attributes_in (comment s) = []

-- an element of foreign content
abbrev pub is_foreign : Label → Bool
is_foreign (element n attrs) = is_foreign_name n
is_foreign document = false
is_foreign (doctype n public system) = false
is_foreign (text s) = false
is_foreign (comment s) = false

-- a template, whose contents stand below a line of their own
unfoldable pub is_template_name : List ℕ → Bool
is_template_name n = is_template (tag_of n)

abbrev pub has_contents : Label → Bool
has_contents (element n attrs) = is_template_name n
has_contents document = false
has_contents (doctype n public system) = false
has_contents (text s) = false
has_contents (comment s) = false

-- the lines of a node itself: its own, one for each attribute, and that of its contents
abbrev pub lines_at : ℕ → Label → List ℕ
lines_at depth l =
    line depth (shown l) ++ (flat_map (λ a. line (depth + 1) (shown_attribute (is_foreign l) a)) (attributes_in l) ++ cond (has_contents l) (line (depth + 1) (codes "content")) [])

-- how many levels deeper the nodes below a node stand
abbrev pub levels : Label → ℕ
levels l = cond (has_contents l) 2 1

-- the lines of trees in a row
abbrev pub lines_of : ℕ → Forest Label → List ℕ
lines_of depth empty = []
lines_of depth (tree l below after) = lines_at depth l ++ (lines_of (depth + levels l) below ++ lines_of depth after)
