-- Claimed, but for this crate's own functions: opened_by, letters_bound, closed_within, letters_after, closes_some, is_soon_unknown.
-- What a reference stands for, and its length.
use Rattle.std.specs.Prelude.{ℕ, zero, suc, ◌+◌, ◌==◌, List, [], ◌∷◌, map, drop, Bool, false, ◌&&◌, ◌||◌, is_none, cond, not, nat_lt, Option, Some, None, slice_get}
use Rattle.std.specs.Char.{digit_value, is_ascii_alphanumeric}
use Rattle.std.specs.Int.Digits.{number_from_digits_after}
use Rattle.html_charref.specs.Entities.{codes_of}
use Rattle.html_charref.specs.Number.{radix, char_of}
use Rattle.html_charref.specs.Table.{longest, longest_len}
use Rattle.html_charref.specs.declared.number.Base.{Base}
use Rattle.html_charref.specs.declared.number.Base.TheVariants.{Decimal, Hex}
use Rattle.html_charref.specs.declared.table.Row.{Row}
use Rattle.html_charref.specs.declared.table.RefText.{RefText}
use Rattle.html_tokens.specs.Cut.{cut, is, passes, stop_mark}
use Rattle.html_tokens.specs.declared.token.RefOpener.{RefOpener}
use Rattle.html_tokens.specs.declared.token.RefOpener.TheVariants.{Named, Numeric, Literal}

abbrev pub is_digit : Base → ℕ → Bool
is_digit base c = nat_lt (digit_value c) (radix base)

abbrev pub ends_digits : Base → ℕ → Bool
ends_digits base c = not (is_digit base c)

-- what a `&` begins, by the code points after it (HTML 13.2.5.72, 13.2.5.75 to 13.2.5.77)
abbrev pub ref_opener_at : Option ℕ → Option ℕ → Option ℕ → RefOpener
ref_opener_at b c d =
    cond (is 35 b)
    (cond (is 120 c || is 88 c)
    (cond (passes (is_digit Hex) d) (Numeric Hex 3) Literal)
    (cond (passes (is_digit Decimal) c) (Numeric Decimal 2) Literal))
    Named

abbrev pub ref_opener : List ℕ → RefOpener
ref_opener text = ref_opener_at (slice_get text 1) (slice_get text 2) (slice_get text 3)

-- a `;` that may be missing
abbrev pub semicolon : List ℕ → ℕ
semicolon text = cond (is 59 (slice_get text 0)) 1 0

-- the number that the digits at the front spell, after digits of this value, and what belongs to it (HTML 13.2.5.78 to 13.2.5.80)
pub record Numbered : Type 0 where
  pub value : ℕ
  pub len : ℕ

abbrev pub numbered : Base → ℕ → List ℕ → Numbered
numbered base value text =
    let digits = cut (stop_mark (ends_digits base)) text in
    record { value = number_from_digits_after (radix base) value (map digit_value digits.before); len = digits.len + semicolon (drop digits.len text) }

-- the code points that a reference gives, and how many it is
pub record Reference : Type 0 where
  pub codes : List ℕ
  pub len : ℕ

-- a `&` that begins no reference is text
abbrev pub literal : Reference
literal = record { codes = 38 ∷ []; len = 1 }

abbrev pub named_by : Option (ℕ × RefText) → Reference
named_by None = literal
named_by (Some found) = record { codes = codes_of found.1; len = found.0 }

abbrev pub numeric_by : Base → ℕ → List ℕ → Reference
numeric_by base opened text =
    let n = numbered base 0 (drop opened text) in
    record { codes = char_of n.value ∷ []; len = opened + n.len }

abbrev pub reference_by : RefOpener → List Row → List ℕ → Reference
reference_by Named rows text = named_by (longest rows text)
reference_by (Numeric base opened) rows text = numeric_by base opened text
reference_by Literal rows text = literal

-- the reference in text whose `&` is at the front (HTML 13.2.5.72 to 13.2.5.80)
abbrev pub reference : List Row → List ℕ → Reference
reference rows text = reference_by (ref_opener text) rows text

-- no letter or digit
abbrev pub ends_letters : ℕ → Bool
ends_letters c = not (is_ascii_alphanumeric c)

-- a `;` comes after the letters and digits at the front
abbrev pub are_letters_closed : List ℕ → Bool
are_letters_closed text = is 59 (slice_get (drop (cut (stop_mark ends_letters) text).len text) 0)

-- letters or digits come after the `&`, and a `;` after them
abbrev pub closes_letters : List ℕ → Bool
closes_letters text = passes is_ascii_alphanumeric (slice_get text 1) && are_letters_closed (drop 1 text)

-- the same, and they begin no name (HTML 13.2.5.72 to 13.2.5.74)
abbrev pub is_unknown : List Row → List ℕ → Bool
is_unknown rows text = is_none (longest rows text) && closes_letters text

-- how many code points are there, at least
abbrev pub opened_by : RefOpener → ℕ
opened_by Named = 1
opened_by (Numeric base opened) = opened
opened_by Literal = 1

-- as many letters and digits are looked over, after a `&`
abbrev pub letters_bound : List Row → ℕ
letters_bound rows = longest_len rows + 8

-- Whether a `;` comes after the letters and digits at the front, where they are fewer than this.
unfoldable pub closed_within : ℕ → List ℕ → Option Bool
closed_within zero text = None
closed_within (suc k) [] = Some false
closed_within (suc k) (c ∷ rest) = cond (is_ascii_alphanumeric c) (closed_within k rest) (Some (c == 59))

-- whether letters or digits come after the `&`, and a `;` after them, where they are few
abbrev pub letters_after : List Row → List ℕ → Option Bool
letters_after rows text = cond (passes is_ascii_alphanumeric (slice_get text 1)) (closed_within (letters_bound rows) (drop 1 text)) (Some false)

-- a `;` comes after them
abbrev pub closes_some : Option Bool → Bool
closes_some None = false
closes_some (Some closed) = closed

-- the same, and they begin no name
abbrev pub is_soon_unknown : List Row → List ℕ → Bool
is_soon_unknown rows text = is_none (longest rows text) && closes_some (letters_after rows text)
