-- Claimed, but for this crate's own functions: IsLong, IsWideLong.
-- Texts by where they are kept.
use Rattle.std.specs.Prelude.{ℕ, List, ⊤, string_bytes}
use Rattle.std.specs.Str.{chars}
use Rattle.html_text.specs.declared.text.Kept.{Kept}
use Rattle.html_text.specs.declared.text.Kept.TheVariants.{Short, Long}
use Rattle.html_text.specs.declared.wide.WideKept.{WideKept}
use Rattle.html_text.specs.declared.wide.WideKept.TheVariants as wide

-- the code points of a text
abbrev pub code_points : Kept → List ℕ
code_points (Short text) = text
code_points (Long text) = chars (string_bytes text.value)

-- the text has memory of its own
abbrev pub IsLong : Kept → Type 0
IsLong (Short text) = ⊥
IsLong (Long text) = ⊤

-- the code points of a text of more room
abbrev pub wide_points : WideKept → List ℕ
wide_points (wide.Short text) = text
wide_points (wide.Long text) = chars (string_bytes text)

-- the text of more room has memory of its own
abbrev pub IsWideLong : WideKept → Type 0
IsWideLong (wide.Short text) = ⊥
IsWideLong (wide.Long text) = ⊤
