-- Claimed, but for this crate's own functions: are_no_letters, soon_ref_errors, value_told, found_told.
-- The parse errors of references, which are told at the place of their `&` (HTML 13.2.5.72 to 13.2.5.80).
use Rattle.std.specs.Prelude.{ℕ, ◌-◌, List, [], ◌∷◌, ◌++◌, drop, Bool, not, ◌&&◌, ◌||◌, ◌==◌, cond, nat_lt, Option, option_map, slice_get}
use Rattle.html_charref.specs.Number.{fault_of}
use Rattle.html_charref.specs.declared.number.Base.{Base}
use Rattle.html_charref.specs.declared.number.RefFault.{RefFault}
use Rattle.html_charref.specs.declared.number.RefFault.TheVariants.{Null, OutsideRange, Surrogate, Noncharacter, Control}
use Rattle.html_charref.specs.declared.table.Row.{Row}
use Rattle.html_tokens.specs.Cut.{cut, is, passes, stop_mark}
use Rattle.html_tokens.specs.Inside.{fault, fault_if, fault_when}
use Rattle.html_tokens.specs.Reference.{Reference, are_letters_closed, ends_digits, is_digit, is_soon_unknown, is_unknown, numbered, ref_opener}
use Rattle.std.specs.Char.{is_ascii_alphanumeric}
use Rattle.html_tokens.specs.Value.{value_reference}
use Rattle.html_tokens.specs.declared.fault_name.FaultName.{FaultName}
use Rattle.html_tokens.specs.declared.fault_name.FaultName.TheVariants as names
use Rattle.html_tokens.specs.declared.faults.Fault.{Fault}
use Rattle.html_tokens.specs.declared.reference.ValueRef.{ValueRef}
use Rattle.html_tokens.specs.declared.reference.ValueRef.TheVariants as refs
use Rattle.html_tokens.specs.declared.token.RefOpener.{RefOpener}
use Rattle.html_tokens.specs.declared.token.RefOpener.TheVariants.{Named, Numeric, Literal}

-- a named reference, which is longer than its `&`, and whose last code point is no `;`: missing-semicolon-after-character-reference (HTML 13.2.5.73)
abbrev pub name_errors : Reference → ℕ → List ℕ → List Fault
name_errors found place text = fault_when (nat_lt 1 found.len && not (is 59 (slice_get text (found.len - 1)))) names.MissingSemicolonAfterCharacterReference place

-- What a `&` tells by what it begins: that of a name; and absence-of-digits-in-numeric-character-reference, where no digit comes after `&#` or `&#x` (HTML 13.2.5.76, 13.2.5.77).
abbrev pub begun_ref_errors : RefOpener → Reference → ℕ → List ℕ → List Fault
begun_ref_errors Named found place text = name_errors found place text
begun_ref_errors (Numeric base opened) found place text = []
begun_ref_errors Literal found place text = fault names.AbsenceOfDigitsInNumericCharacterReference place ∷ []

-- the name of what is wrong with a number
abbrev pub ref_fault_name : RefFault → FaultName
ref_fault_name Null = names.NullCharacterReference
ref_fault_name OutsideRange = names.CharacterReferenceOutsideUnicodeRange
ref_fault_name Surrogate = names.SurrogateCharacterReference
ref_fault_name Noncharacter = names.NoncharacterCharacterReference
ref_fault_name Control = names.ControlCharacterReference

-- What a number of this value tells where it ends: missing-semicolon-after-character-reference, where no `;` closes it (HTML 13.2.5.78, 13.2.5.79), and what is wrong with it (HTML 13.2.5.80).
unfoldable pub number_end_errors : Bool → ℕ → ℕ → List Fault
number_end_errors closed value place = fault_when (not closed) names.MissingSemicolonAfterCharacterReference place ++ fault_if (option_map ref_fault_name (fault_of value)) place

-- a `;` comes after the digits at the front
abbrev pub is_number_closed : Base → List ℕ → Bool
is_number_closed base text = is 59 (slice_get (drop (cut (stop_mark (ends_digits base)) text).len text) 0)

-- the errors of the number whose digits go on at the front, after digits of this value
abbrev pub number_errors : Base → ℕ → ℕ → List ℕ → List Fault
number_errors base value place text = number_end_errors (is_number_closed base text) (numbered base value text).value place

-- the errors of the letters and digits at the front, after a `&` at a place, which begin no name: unknown-named-character-reference, where a `;` comes after them (HTML 13.2.5.74)
abbrev pub ampersand_errors : ℕ → List ℕ → List Fault
ampersand_errors place text = fault_when (are_letters_closed text) names.UnknownNamedCharacterReference place

-- what is told after the `&`, of the number or of the letters and digits after it: unknown-named-character-reference, where they begin no name and a `;` comes after them
abbrev pub later_ref_errors : RefOpener → List Row → ℕ → List ℕ → List Fault
later_ref_errors Named rows place text = fault_when (is_unknown rows text) names.UnknownNamedCharacterReference place
later_ref_errors (Numeric base opened) rows place text = number_errors base 0 place (drop opened text)
later_ref_errors Literal rows place text = []

-- the errors of the reference whose `&` is at the front of the rest of a value
abbrev pub value_ref_errors : List Row → ℕ → List ℕ → List Fault
value_ref_errors rows place text = begun_ref_errors (ref_opener text) (value_reference rows text) place text ++ later_ref_errors (ref_opener text) rows place text

-- what a step tells in a number, by the code point that comes next
abbrev pub number_told : Base → ℕ → ℕ → Option ℕ → List Fault
number_told base value place found = cond (passes (is_digit base) found) [] (number_end_errors (is 59 found) value place)

-- neither a letter or digit is at the front, nor a `;`
abbrev pub are_no_letters : List ℕ → Bool
are_no_letters text = not (passes (λ c. is_ascii_alphanumeric c || c == 59) (slice_get text 0))

-- and after a `&` and letters or digits
abbrev pub ampersand_told : ℕ → Option ℕ → List Fault
ampersand_told place found = fault_when (is 59 found) names.UnknownNamedCharacterReference place

-- what of the letters and digits after it is told at the `&`, where they end soon
abbrev pub soon_ref_errors : RefOpener → List Row → ℕ → List ℕ → List Fault
soon_ref_errors Named rows place text = fault_when (is_soon_unknown rows text) names.UnknownNamedCharacterReference place
soon_ref_errors (Numeric base opened) rows place text = []
soon_ref_errors Literal rows place text = []

-- what it tells at the `&` at the front of the rest of a value
abbrev pub value_told : List Row → ℕ → List ℕ → List Fault
value_told rows place text = begun_ref_errors (ref_opener text) (value_reference rows text) place text ++ soon_ref_errors (ref_opener text) rows place text

-- the same, by what was found to begin, and whether its last code point is no `;`
abbrev pub found_told : ValueRef → Bool → ℕ → List Fault
found_told (refs.Numeric base opened) lacking place = []
found_told refs.Letters lacking place = []
found_told refs.Unknown lacking place = fault names.UnknownNamedCharacterReference place ∷ []
found_told refs.Literal lacking place = fault names.AbsenceOfDigitsInNumericCharacterReference place ∷ []
found_told (refs.Codes len first second) lacking place = fault_when (nat_lt 1 len && lacking) names.MissingSemicolonAfterCharacterReference place
