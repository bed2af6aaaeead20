-- Claimed.
-- The number that digits spell, and the character that a number stands for.
use Rattle.std.specs.Prelude.{ℕ, ◌%◌, ◌&&◌, ◌||◌, ◌==◌, List, [], ◌∷◌, Bool, not, min, nat_lt, nat_le, if◌then◌else◌, Option, Some, None}
use Rattle.std.specs.Int.Digits.{number_from_digits}
use Rattle.html_charref.specs.declared.number.Base.{Base}
use Rattle.html_charref.specs.declared.number.Base.TheVariants.{Decimal, Hex}
use Rattle.html_charref.specs.declared.number.RefFault.{RefFault}
use Rattle.html_charref.specs.declared.number.RefFault.TheVariants.{Null, OutsideRange, Surrogate, Noncharacter, Control}

abbrev pub radix : Base → ℕ
radix Decimal = 10
radix Hex = 16

-- the whole number that digits spell
abbrev pub number : Base → List ℕ → ℕ
number base digits = number_from_digits (radix base) digits

-- no more than the first number past the code points
abbrev pub capped : ℕ → ℕ
capped n = min n 0x110000

-- the replaced numbers, each with its character (HTML 13.2.5.80, "Numeric character reference end state")
abbrev pub replacements : List (ℕ × ℕ)
replacements =
    (0x80, 0x20AC) ∷ (0x82, 0x201A) ∷ (0x83, 0x0192) ∷ (0x84, 0x201E) ∷ (0x85, 0x2026) ∷ (0x86, 0x2020)
    ∷ (0x87, 0x2021) ∷ (0x88, 0x02C6) ∷ (0x89, 0x2030) ∷ (0x8A, 0x0160) ∷ (0x8B, 0x2039) ∷ (0x8C, 0x0152)
    ∷ (0x8E, 0x017D) ∷ (0x91, 0x2018) ∷ (0x92, 0x2019) ∷ (0x93, 0x201C) ∷ (0x94, 0x201D) ∷ (0x95, 0x2022)
    ∷ (0x96, 0x2013) ∷ (0x97, 0x2014) ∷ (0x98, 0x02DC) ∷ (0x99, 0x2122) ∷ (0x9A, 0x0161) ∷ (0x9B, 0x203A)
    ∷ (0x9C, 0x0153) ∷ (0x9E, 0x017E) ∷ (0x9F, 0x0178) ∷ []

-- what a row gives, or the number itself
abbrev pub replaced_by : List (ℕ × ℕ) → ℕ → ℕ
replaced_by [] n = n
replaced_by (row ∷ rows) n = if row.0 == n then row.1 else replaced_by rows n

abbrev pub is_surrogate : ℕ → Bool
is_surrogate n = nat_le 0xD800 n && nat_le n 0xDFFF

abbrev pub is_outside : ℕ → Bool
is_outside n = nat_lt 0x10FFFF n

-- the character that a number stands for (HTML 13.2.5.80)
unfoldable pub char_of : ℕ → ℕ
char_of n = if n == 0 || is_surrogate n || is_outside n then 0xFFFD else replaced_by replacements n

abbrev pub is_noncharacter : ℕ → Bool
is_noncharacter n = nat_le 0xFDD0 n && nat_le n 0xFDEF || nat_le 0xFFFE (n % 0x10000)

-- a control other than tab, LF and FF; CR is one
abbrev pub is_faulty_control : ℕ → Bool
is_faulty_control n =
    nat_lt n 0x20 && not (n == 0x9) && not (n == 0xA) && not (n == 0xC) || nat_le 0x7F n && nat_le n 0x9F

-- what is wrong with a number, by the first test that it fails (HTML 13.2.5.80)
abbrev pub fault_of : ℕ → Option RefFault
fault_of n =
    if n == 0 then Some Null
    else (if is_outside n then Some OutsideRange
    else (if is_surrogate n then Some Surrogate
    else (if is_noncharacter n then Some Noncharacter
    else (if is_faulty_control n then Some Control else None))))
