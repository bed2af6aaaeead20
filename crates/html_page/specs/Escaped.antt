-- For this crate's own functions.
-- How texts are escaped (HTML standard, 13.3, "Escaping a string").
use Rattle.std.specs.Prelude.{ℕ, List}
use Rattle.html_page.specs.declared.escape.Escape.{Escape}
use Rattle.html_page.specs.declared.escape.Escape.TheVariants.{Text, Value}
use Rattle.html_page.specs.Html.{escaped_in_text, escaped_in_value}

-- how a code point is written at a place
abbrev pub escaped : Escape → ℕ → List ℕ
escaped Text c = escaped_in_text c
escaped (Value p) c = escaped_in_value p c
