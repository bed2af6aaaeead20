-- Claimed.
-- The context of a fragment, and which names it may have (13.4).
use Rattle.std.specs.Prelude.{ℕ, ◌≡◌, ◌==◌, Bool, true, false, not, ◌||◌, ◌&&◌, nat_lt, List, [], ◌∷◌, Option, Some, None, cond, unwrap_or, if◌then◌else◌}
use Rattle.std.specs.List.{list_all}
use Rattle.std.specs.Str.{bytes_eq}
use Rattle.html_names.specs.declared.foreign.Space.{Space}
use Rattle.html_names.specs.Foreign.{adjusted_name, is_foreign, is_html_encoding, local_name, lowered, space_of}
use Rattle.html_names.specs.declared.tag.Tag.{Tag}
use Rattle.html_names.specs.declared.tag.Tag.TheVariants as tag
use Rattle.html_names.specs.Names.{tag_of}
use Rattle.html_names.specs.Tags.{is_same}
use Rattle.html_tokens.specs.declared.token.TextMode.{TextMode}
use Rattle.html_tokens.specs.declared.token.TextMode.TheVariants.{Foreign}
use Rattle.html_ledger.specs.declared.setting.Setting.{Setting}
use Rattle.html_ledger.specs.declared.setting.Setting.TheVariants.{Fragment}
use Rattle.html_tree.specs.Proper.{is_foreign_root}
use Rattle.html_builder.specs.Switches.{text_mode_in}
use Rattle.html_builder.specs.declared.context.Context.{Context}

-- a letter in lower case
abbrev pub is_lower : ℕ → Bool
is_lower c = not (nat_lt c 97) && not (nat_lt 122 c)

-- what ends the name of a tag, and what is replaced in it: U+0000 and letters in upper case (13.2.5.8)
abbrev pub ends_name : ℕ → Bool
ends_name c = c == 9 || (c == 10 || (c == 12 || (c == 32 || (c == 47 || (c == 62 || (c == 0 || (not (nat_lt c 65) && not (nat_lt 90 c))))))))

abbrev pub stays_in_name : ℕ → Bool
stays_in_name c = not (ends_name c)

abbrev pub begins_name : List ℕ → Bool
begins_name [] = false
begins_name (c ∷ cs) = is_lower c

-- the name of some start tag: a letter, and then nothing that ends it
abbrev pub is_tag_name : List ℕ → Bool
is_tag_name name = begins_name name && list_all stays_in_name name

-- a name that a start tag can have, and not that of foreign content
abbrev pub is_good : List ℕ → Bool
is_good name = is_tag_name name && not (is_foreign_root (tag_of name))

-- a start tag can have its name, and it is no root of foreign content
abbrev pub IsGood : Context → Type 0
IsGood c = is_good c.name ≡ true

-- the local name that the element of a start tag of this name has in foreign content (13.2.6.5)
abbrev pub local_of : Space → List ℕ → List ℕ
local_of s own = unwrap_or (adjusted_name s own) own

-- the local name of the element of some start tag in this space
abbrev pub is_good_local : Space → List ℕ → Bool
is_good_local s local = is_tag_name (lowered local) && bytes_eq (local_of s (lowered local)) local

-- the name of an element of foreign content that a start tag can have: its space, and then its local name
abbrev pub is_good_foreign : List ℕ → Bool
is_good_foreign name = is_foreign (tag_of name) && is_good_local (space_of (tag_of name)) (local_name name)

-- a name that is good where foreign content is parsed
abbrev pub is_good_anywhere : List ℕ → Bool
is_good_anywhere name = is_good name || is_good_foreign name

abbrev pub IsGoodAnywhere : Context → Type 0
IsGoodAnywhere c = is_good_anywhere c.name ≡ true

-- an attribute encoding of this value says that an annotation-xml holds HTML (13.2.6)
abbrev pub holds_html : Option (List ℕ) → Bool
holds_html None = false
holds_html (Some value) = is_html_encoding value

-- The tag by which tree construction knows it: that of its name. An annotation-xml that holds HTML is an HTML integration point (13.2.6); it is known by the tag
-- of such a point, svg desc, since of that context nothing else is asked.
abbrev pub context_tag : Context → Tag
context_tag c = cond (is_same (tag_of c.name) tag.MathAnnotationXml && holds_html c.encoding) tag.SvgDesc (tag_of c.name)

-- what the ledger is to know of it
abbrev pub setting_of : Context → Setting
setting_of c = Fragment (context_tag c) c.in_form

-- how the text of a fragment in it is read
abbrev pub text_mode_of : Context → TextMode
text_mode_of c = if is_foreign (tag_of c.name) then Foreign else text_mode_in (tag_of c.name)
