-- Names of ASCII, by their bytes and by their code points.
use lib.Utf8.{encode}
use Rattle.std.proofs.Common.{ℕ, ◌≡◌, ◌||◌, Bool, true, List, [], ◌∷◌, refl, ap, ◌∙◌}
use Rattle.std.specs.Prelude.{codes}
use Rattle.std.specs.Str.{IsUtf8, bytes_eq, chars}
use Rattle.html_names.specs.Foreign.{is_font_attr, is_lowered, is_math_text_part, is_one_of, is_unknown_breakout}
use Rattle.html_names.proofs.Adjusted.{same_text}
use Rattle.html_names.proofs.Known.{is_ascii}
use Rattle.html_names.proofs.Locals.{is_lowered-chars}

abbrev AreAscii : List (List ℕ) → Type 0
AreAscii [] = Unit {0}
AreAscii (n ∷ ns) = (is_ascii n ≡ true) × AreAscii ns

one-of : (bs : List ℕ) (ns : List (List ℕ)) → IsUtf8 bs → AreAscii ns → is_one_of bs ns ≡ is_one_of (chars bs) ns
one-of bs [] u a = refl
one-of bs (n ∷ ns) u a = ap (λ b. b || is_one_of bs ns) (same_text n bs a.0 u) ∙ ap (λ b. bytes_eq (chars bs) n || b) (one-of bs ns u a.1)

pub is_math_text_part-chars : (bs : List ℕ) → IsUtf8 bs → is_math_text_part bs ≡ is_math_text_part (chars bs)
is_math_text_part-chars bs u = one-of bs (codes "mglyph" ∷ codes "malignmark" ∷ []) u (refl, (refl, tt))

pub is_unknown_breakout-chars : (bs : List ℕ) → IsUtf8 bs → is_unknown_breakout bs ≡ is_unknown_breakout (chars bs)
is_unknown_breakout-chars bs u = one-of bs (codes "span" ∷ codes "sub" ∷ codes "sup" ∷ codes "var" ∷ []) u (refl, (refl, (refl, (refl, tt))))

pub is_font_attr-chars : (bs : List ℕ) → IsUtf8 bs → is_font_attr bs ≡ is_font_attr (chars bs)
is_font_attr-chars bs u = one-of bs (codes "color" ∷ codes "face" ∷ codes "size" ∷ []) u (refl, (refl, (refl, tt)))

-- the attribute of an input that hides it
abbrev pub type_name : List ℕ → Bool
type_name name = bytes_eq name (codes "type")

abbrev pub hidden_value : List ℕ → Bool
hidden_value value = is_lowered value (codes "hidden")

pub is_type-chars : (bs : List ℕ) → IsUtf8 bs → type_name bs ≡ type_name (chars bs)
is_type-chars bs u = same_text (codes "type") bs refl u

hidden_chars : chars (codes "hidden") ≡ codes "hidden"
unfolding chars
hidden_chars = refl

hidden_utf8 : IsUtf8 (codes "hidden")
unfolding lib.Utf8.encode
hidden_utf8 = (codes "hidden", (refl, refl))

pub is_hidden-chars : (bs : List ℕ) → IsUtf8 bs → hidden_value bs ≡ hidden_value (chars bs)
is_hidden-chars bs u = is_lowered-chars bs (codes "hidden") u hidden_utf8 ∙ ap (is_lowered (chars bs)) hidden_chars
