-- Claimed.
-- What ends text: the end marks of RCDATA, RAWTEXT and script text, and the regions of script text.
use Rattle.std.specs.Prelude.{ℕ, ◌+◌, List, [], ◌∷◌, length, Bool, true, false, not, ◌&&◌, ◌||◌, ◌==◌, cond, Option, Some, None, slice_get}
use Rattle.std.specs.List.{list_all}
use Rattle.std.specs.Char.{to_ascii_lowercase}
use Rattle.html_tokens.specs.Cut.{is, passes}
use Rattle.html_tokens.specs.Tag.{ends_name, between}
use Rattle.html_tokens.specs.declared.token.Region.{Region}
use Rattle.html_tokens.specs.declared.token.Region.TheVariants.{Plain, Escaped, Double}
use Rattle.html_tokens.specs.declared.token.TextMode.{TextMode}
use Rattle.html_tokens.specs.declared.token.TextMode.TheVariants.{Data, Rcdata, Rawtext, Script, Plaintext, Foreign}
use Rattle.html_tokens.specs.declared.token.Begin.{Begin}
use Rattle.html_tokens.specs.declared.token.Begin.TheVariants.{Char, Markup, EndMark, Reference, Section}

-- the code point is there, in either case; it is the lower one
abbrev pub is_lowered : ℕ → Option ℕ → Bool
is_lowered c None = false
is_lowered c (Some d) = to_ascii_lowercase d == c

-- at a place stands the name in any ASCII case, and then what ends a name
abbrev pub spells : List ℕ → ℕ → List ℕ → Bool
spells [] at text = passes ends_name (slice_get text at)
spells (n ∷ ns) at text = is_lowered n (slice_get text at) && spells ns (at + 1) text

-- what stands in the name of a tag: capitals are lowered, and U+0000 becomes U+FFFD (HTML 13.2.5.8)
abbrev pub is_name_char : ℕ → Bool
is_name_char c = not (ends_name c || between 65 90 c || c == 0)

-- A name that a start tag can have: it begins with an ASCII letter (HTML 13.2.5.6).
abbrev pub is_tag_name : List ℕ → Bool
is_tag_name [] = false
is_tag_name (c ∷ cs) = between 97 122 c && list_all is_name_char cs

-- `</`, the name of the last start tag, and what ends a name (HTML 13.2.5.9 to 13.2.5.17, 13.2.5.24, 13.2.5.25). No name that no start tag can have is marked so.
abbrev pub is_end_mark : Option (List ℕ) → List ℕ → Bool
is_end_mark None text = false
is_end_mark (Some name) text = is_tag_name name && is 60 (slice_get text 0) && is 47 (slice_get text 1) && spells name 2 text

abbrev pub name_len : Option (List ℕ) → ℕ
name_len None = 0
name_len (Some name) = length name

-- `script`
abbrev pub script_name : List ℕ
script_name = 115 ∷ 99 ∷ 114 ∷ 105 ∷ 112 ∷ 116 ∷ []

-- `<!--`
abbrev pub declares : List ℕ → Bool
declares text = is 60 (slice_get text 0) && is 33 (slice_get text 1) && is 45 (slice_get text 2) && is 45 (slice_get text 3)

-- `-->`
abbrev pub leaves : List ℕ → Bool
leaves text = is 45 (slice_get text 0) && is 45 (slice_get text 1) && is 62 (slice_get text 2)

-- `<script` and a stop
abbrev pub opens_script : List ℕ → Bool
opens_script text = is 60 (slice_get text 0) && spells script_name 1 text

-- `</script` and a stop
abbrev pub closes_script : List ℕ → Bool
closes_script text = is 60 (slice_get text 0) && is 47 (slice_get text 1) && spells script_name 2 text

-- at a place stands this word, as it is written
abbrev pub stands : List ℕ → ℕ → List ℕ → Bool
stands [] at text = true
stands (n ∷ ns) at text = is n (slice_get text at) && stands ns (at + 1) text

-- `<![CDATA[`
abbrev pub section_opener : List ℕ
section_opener = 60 ∷ 33 ∷ 91 ∷ 67 ∷ 68 ∷ 65 ∷ 84 ∷ 65 ∷ 91 ∷ []

abbrev pub opens_section : List ℕ → Bool
opens_section text = stands section_opener 0 text

-- The region after the code point at the front (HTML 13.2.5.18 to 13.2.5.31). A mark changes it from its first code point on: no mark of the
-- next region begins inside it but the dashes of `<!--`, which count for `-->`.
abbrev pub region_after : Region → List ℕ → Region
region_after Plain text = cond (declares text) Escaped Plain
region_after Escaped text = cond (leaves text) Plain (cond (opens_script text) Double Escaped)
region_after Double text = cond (leaves text) Plain (cond (closes_script text) Escaped Double)

abbrev pub region_in : TextMode → Region → List ℕ → Region
region_in Data region text = Plain
region_in Rcdata region text = Plain
region_in Rawtext region text = Plain
region_in Script region text = region_after region text
region_in Plaintext region text = Plain
region_in Foreign region text = Plain

-- what begins at the front of script text
abbrev pub script_begin : Region → Option (List ℕ) → List ℕ → Begin
script_begin Plain name text = cond (is_end_mark name text) EndMark Char
script_begin Escaped name text = cond (is_end_mark name text) EndMark Char
script_begin Double name text = Char

-- What begins at the front of the rest (HTML 13.2.5.1 to 13.2.5.5). In foreign content `<![CDATA[` begins a section (HTML 13.2.5.42).
abbrev pub begin_at : TextMode → Region → Option (List ℕ) → List ℕ → Begin
begin_at Data region name text = cond (is 60 (slice_get text 0)) Markup (cond (is 38 (slice_get text 0)) Reference Char)
begin_at Rcdata region name text = cond (is 38 (slice_get text 0)) Reference (cond (is_end_mark name text) EndMark Char)
begin_at Rawtext region name text = cond (is_end_mark name text) EndMark Char
begin_at Script region name text = script_begin region name text
begin_at Plaintext region name text = Char
begin_at Foreign region name text =
    cond (is 60 (slice_get text 0)) (cond (opens_section text) Section Markup) (cond (is 38 (slice_get text 0)) Reference Char)

-- another piece than text begins
abbrev pub is_stop : Begin → Bool
is_stop Char = false
is_stop Markup = true
is_stop EndMark = true
is_stop Reference = true
is_stop Section = true

-- The longest front of the rest that is text, by the regions.
unfoldable pub front : TextMode → Region → Option (List ℕ) → List ℕ → List ℕ
front mode region name [] = []
front mode region name (c ∷ rest) =
    cond (is_stop (begin_at mode region name (c ∷ rest))) [] (c ∷ front mode (region_in mode region (c ∷ rest)) name rest)
