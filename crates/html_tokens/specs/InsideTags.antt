-- Claimed, but for this crate's own functions: part_end_told, settle_told, part_told, looks_on_in, looks_on, may_tell_in, may_tell, closes_before, TurnsTo, MovesTag, SettlesPart, MovesRef.
-- The parse errors inside of a tag, told of its code points (HTML 13.2.5.8, 13.2.5.32 to 13.2.5.40).
use Rattle.std.specs.Prelude.{◌≡◌, ℕ, zero, suc, ◌+◌, ◌-◌, ◌<◌, ◌≤◌, List, [], ◌∷◌, ◌++◌, length, drop, Bool, true, false, not, ◌&&◌, ◌||◌, ◌==◌, cond, Option, Some, None, slice_get}
use Rattle.html_charref.specs.declared.table.Row.{Row}
use Rattle.html_tokens.specs.AttrNames.{AttrNames, name_errors, next_names, no_names}
use Rattle.html_tokens.specs.Cut.{ends_unquoted, is, is_space, passes}
use Rattle.html_tokens.specs.Doctype.{is_quote}
use Rattle.html_tokens.specs.Inside.{fault_when, null_errors, tag_end_errors}
use Rattle.html_tokens.specs.InsideReferences.{ampersand_errors, ampersand_told, number_errors, number_end_errors, number_told, value_ref_errors, value_told}
use Rattle.html_tokens.specs.Reference.{ends_digits, ends_letters, is_digit, numbered}
use Rattle.html_tokens.specs.Tag.{ends_name, reads_refs, tag_of}
use Rattle.html_tokens.specs.Value.{Begins, ref_len, value_reference}
use Rattle.html_tokens.specs.declared.fault_name.FaultName.TheVariants as names
use Rattle.html_tokens.specs.declared.faults.Fault.{Fault}
use Rattle.html_tokens.specs.declared.reference.ValueRef.{ValueRef}
use Rattle.html_tokens.specs.declared.tag.Part.{Part}
use Rattle.html_tokens.specs.declared.tag.Part.TheVariants as parts
use Rattle.html_tokens.specs.declared.tag.TagReading.{TagReading}
use Rattle.html_tokens.specs.declared.tag.TagReading.TheVariants.{More, Closed}
use Rattle.html_tokens.specs.declared.tag.ValueEnd.{ValueEnd}
use Rattle.html_tokens.specs.declared.tag.ValueEnd.TheVariants as ends

-- a `/` that another code point than `>` follows: unexpected-solidus-in-tag, there (HTML 13.2.5.40)
abbrev pub solidus_errors : ℕ → Option ℕ → ℕ → List Fault
solidus_errors c after place = fault_when (c == 47 && passes (λ d. not (d == 62)) after) names.UnexpectedSolidusInTag (place + 1)

-- `"`, `'` or `<` in the name of an attribute (HTML 13.2.5.33)
abbrev pub attr_char_errors : ℕ → ℕ → List Fault
attr_char_errors c place = fault_when (c == 34 || (c == 39 || c == 60)) names.UnexpectedCharacterInAttributeName place

-- the same, `=` or a grave accent in a value without quotes (HTML 13.2.5.38)
abbrev pub unquoted_errors : ℕ → ℕ → List Fault
unquoted_errors c place = fault_when (c == 34 || (c == 39 || (c == 60 || (c == 61 || c == 96)))) names.UnexpectedCharacterInUnquotedAttributeValue place

-- a quote that closes a value, and which no white space, `/` or `>` follows: missing-whitespace-between-attributes, after it (HTML 13.2.5.39)
abbrev pub quote_errors : ℕ → ℕ → Option ℕ → ℕ → List Fault
quote_errors quote c after place = fault_when (c == quote && passes (λ d. not (ends_name d)) after) names.MissingWhitespaceBetweenAttributes (place + 1)

-- in a value (HTML 13.2.5.36 to 13.2.5.38)
abbrev pub value_errors : ValueEnd → ℕ → Option ℕ → ℕ → List Fault
value_errors ends.DoubleQuote c after place = quote_errors 34 c after place
value_errors ends.SingleQuote c after place = quote_errors 39 c after place
value_errors ends.Space c after place = unquoted_errors c place

-- What a code point tells in a part of a tag, by the one after it: in its name (HTML 13.2.5.8), where an attribute may begin (HTML 13.2.5.32), in the name of one (HTML 13.2.5.33) and
-- after it (HTML 13.2.5.34), where a value may begin (HTML 13.2.5.35), and in a value.
abbrev pub part_char_errors : Part → ℕ → Option ℕ → ℕ → List Fault
part_char_errors parts.Name c after place = solidus_errors c after place
part_char_errors parts.Attributes c after place = solidus_errors c after place ++ (fault_when (c == 61) names.UnexpectedEqualsSignBeforeAttributeName place ++ attr_char_errors c place)
part_char_errors parts.AttrName c after place = solidus_errors c after place ++ attr_char_errors c place
part_char_errors parts.AfterName c after place = solidus_errors c after place ++ attr_char_errors c place
part_char_errors parts.Value c after place = cond (is_quote c) [] (fault_when (c == 62) names.MissingAttributeValue place ++ unquoted_errors c place)
part_char_errors (parts.Inside end) c after place = value_errors end c after place
part_char_errors (parts.Number end base value start) c after place = number_told base value start (Some c) ++ value_errors end c after place
part_char_errors (parts.Ampersand end start) c after place = ampersand_told start (Some c) ++ value_errors end c after place

-- and whether it is U+0000
abbrev pub tag_char_errors : Part → ℕ → Option ℕ → ℕ → List Fault
tag_char_errors part c after place = part_char_errors part c after place ++ null_errors (Some c) place

-- and of a name that it ends
abbrev pub all_char_errors : AttrNames → Part → ℕ → Option ℕ → ℕ → List Fault
all_char_errors seen part c after place = name_errors seen part (Some c) place ++ tag_char_errors part c after place

-- the part after a code point of a value
abbrev pub after_value : ValueEnd → ℕ → Part
after_value ends.DoubleQuote c = cond (c == 34) parts.Attributes (parts.Inside ends.DoubleQuote)
after_value ends.SingleQuote c = cond (c == 39) parts.Attributes (parts.Inside ends.SingleQuote)
after_value ends.Space c = cond (ends_unquoted c) parts.Attributes (parts.Inside ends.Space)

-- the part after a code point that ends no tag (HTML 13.2.5.8, 13.2.5.32 to 13.2.5.40)
abbrev pub next_part : Part → ℕ → Part
next_part parts.Name c = cond (ends_name c) parts.Attributes parts.Name
next_part parts.Attributes c = cond (ends_name c) parts.Attributes parts.AttrName
next_part parts.AttrName c = cond (is_space c) parts.AfterName (cond (c == 61) parts.Value (cond (ends_name c) parts.Attributes parts.AttrName))
next_part parts.AfterName c = cond (is_space c) parts.AfterName (cond (c == 61) parts.Value (cond (ends_name c) parts.Attributes parts.AttrName))
next_part parts.Value c = cond (is_space c) parts.Value (cond (c == 34) (parts.Inside ends.DoubleQuote) (cond (c == 39) (parts.Inside ends.SingleQuote) (after_value ends.Space c)))
next_part (parts.Inside end) c = after_value end c
next_part (parts.Number end base value start) c = after_value end c
next_part (parts.Ampersand end start) c = after_value end c

-- `>` ends a tag outside of quotes
abbrev pub ends_in : ValueEnd → ℕ → Bool
ends_in ends.DoubleQuote c = false
ends_in ends.SingleQuote c = false
ends_in ends.Space c = c == 62

-- and so does `/>` outside of values
abbrev pub ends_outside : ℕ → Option ℕ → Bool
ends_outside c after = c == 62 || (c == 47 && is 62 after)

abbrev pub ends_tag : Part → ℕ → Option ℕ → Bool
ends_tag parts.Name c after = ends_outside c after
ends_tag parts.Attributes c after = ends_outside c after
ends_tag parts.AttrName c after = ends_outside c after
ends_tag parts.AfterName c after = ends_outside c after
ends_tag parts.Value c after = c == 62
ends_tag (parts.Inside end) c after = ends_in end c
ends_tag (parts.Number end base value start) c after = ends_in end c
ends_tag (parts.Ampersand end start) c after = ends_in end c

-- how many code points of a reference follow its `&`
abbrev pub ref_rest : List Row → Part → ℕ → List ℕ → ℕ
ref_rest rows part c rest = cond (reads_refs part && c == 38) ((value_reference rows (c ∷ rest)).len - 1) 0

-- the errors of the reference that a `&` begins in a value
abbrev pub part_ref_errors : List Row → Part → ℕ → ℕ → List ℕ → List Fault
part_ref_errors rows part c place rest = cond (reads_refs part && c == 38) (value_ref_errors rows place (c ∷ rest)) []

-- The errors of the rest of a tag from a part on, with these names of attributes before, after so many code points of a reference.
unfoldable pub tag_part_errors : List Row → AttrNames → Part → ℕ → ℕ → List ℕ → List Fault
tag_part_errors rows seen part k place [] = name_errors seen part None place
tag_part_errors rows seen part zero place (c ∷ rest) =
    all_char_errors seen part c (slice_get rest 0) place
    ++ (part_ref_errors rows part c place rest
    ++ cond (ends_tag part c (slice_get rest 0)) [] (tag_part_errors rows (next_names seen part c) (next_part part c) (ref_rest rows part c rest) (place + 1) rest))
tag_part_errors rows seen part (suc k) place (c ∷ rest) = tag_part_errors rows seen part k (place + 1) rest

-- a number, or letters and digits after a `&`, stand in a value
abbrev pub settled : Part → Part
settled parts.Name = parts.Name
settled parts.Attributes = parts.Attributes
settled parts.AttrName = parts.AttrName
settled parts.AfterName = parts.AfterName
settled parts.Value = parts.Value
settled (parts.Inside end) = parts.Inside end
settled (parts.Number end base value start) = parts.Inside end
settled (parts.Ampersand end start) = parts.Inside end

-- how much of a number is left
abbrev pub number_len : Part → List ℕ → ℕ
number_len parts.Name text = 0
number_len parts.Attributes text = 0
number_len parts.AttrName text = 0
number_len parts.AfterName text = 0
number_len parts.Value text = 0
number_len (parts.Inside end) text = 0
number_len (parts.Number end base value start) text = (numbered base value text).len
number_len (parts.Ampersand end start) text = 0

-- the errors of the reference that is being read
abbrev pub open_ref_errors : Part → List ℕ → List Fault
open_ref_errors parts.Name text = []
open_ref_errors parts.Attributes text = []
open_ref_errors parts.AttrName text = []
open_ref_errors parts.AfterName text = []
open_ref_errors parts.Value text = []
open_ref_errors (parts.Inside end) text = []
open_ref_errors (parts.Number end base value start) text = number_errors base value start text
open_ref_errors (parts.Ampersand end start) text = ampersand_errors start text

-- the errors of a tag that is being read in this part
abbrev pub part_errors : List Row → AttrNames → Part → ℕ → List ℕ → List Fault
part_errors rows seen part place text = open_ref_errors part text ++ tag_part_errors rows seen (settled part) (number_len part text) place text

-- the errors of a tag that begins at a place, and its name after so many code points
abbrev pub begun_tag_errors : List Row → Bool → ℕ → ℕ → List ℕ → List Fault
begun_tag_errors rows is_end opened place text =
    let t = (tag_of rows (drop opened text)).tail in
    part_errors rows no_names parts.Name (place + opened) (drop opened text) ++ tag_end_errors is_end (place + opened + t.len) t

-- what of the number that is being read is told where no code point of it comes
abbrev pub part_end_told : Part → List Fault
part_end_told parts.Name = []
part_end_told parts.Attributes = []
part_end_told parts.AttrName = []
part_end_told parts.AfterName = []
part_end_told parts.Value = []
part_end_told (parts.Inside end) = []
part_end_told (parts.Number end base value start) = number_end_errors false value start
part_end_told (parts.Ampersand end start) = []

-- the same, by the code point that comes
abbrev pub settle_told : Part → ℕ → List Fault
settle_told parts.Name c = []
settle_told parts.Attributes c = []
settle_told parts.AttrName c = []
settle_told parts.AfterName c = []
settle_told parts.Value c = []
settle_told (parts.Inside end) c = []
settle_told (parts.Number end base value start) c = cond (is_digit base c || c == 59) [] (number_end_errors false value start)
settle_told (parts.Ampersand end start) c = ampersand_told start (Some c)

-- what a step tells at the front of the rest
abbrev pub part_told : List Row → AttrNames → Part → ℕ → List ℕ → List Fault
part_told rows seen part place [] = part_end_told part ++ name_errors seen part None place
part_told rows seen part place (c ∷ rest) = all_char_errors seen part c (slice_get rest 0) place ++ cond (reads_refs part && c == 38) (value_told rows place (c ∷ rest)) []

-- a code point that is judged by the one after it
abbrev pub looks_on_in : ValueEnd → ℕ → Bool
looks_on_in ends.DoubleQuote c = c == 47 || c == 34
looks_on_in ends.SingleQuote c = c == 47 || c == 39
looks_on_in ends.Space c = c == 47

abbrev pub looks_on : Part → ℕ → Bool
looks_on parts.Name c = c == 47
looks_on parts.Attributes c = c == 47
looks_on parts.AttrName c = c == 47
looks_on parts.AfterName c = c == 47
looks_on parts.Value c = c == 47
looks_on (parts.Inside end) c = looks_on_in end c
looks_on (parts.Number end base value start) c = looks_on_in end c
looks_on (parts.Ampersand end start) c = looks_on_in end c

-- a code point that may tell an error, but for `/` and U+0000
abbrev pub may_tell_in : Part → ℕ → Bool
may_tell_in parts.Name c = false
may_tell_in parts.Attributes c = c == 61 || (c == 34 || (c == 39 || c == 60))
may_tell_in parts.AttrName c = c == 34 || (c == 39 || c == 60)
may_tell_in parts.AfterName c = c == 34 || (c == 39 || c == 60)
may_tell_in parts.Value c = c == 62 || (c == 60 || (c == 61 || c == 96))
may_tell_in (parts.Inside ends.DoubleQuote) c = c == 34
may_tell_in (parts.Inside ends.SingleQuote) c = c == 39
may_tell_in (parts.Inside ends.Space) c = c == 34 || (c == 39 || (c == 60 || (c == 61 || c == 96)))
may_tell_in (parts.Number end base value start) c = ends_digits base c
may_tell_in (parts.Ampersand end start) c = ends_letters c

abbrev pub may_tell : Part → ℕ → Bool
may_tell part c = c == 0 || may_tell_in part c

-- a quote that closes a value before what ends a name
abbrev pub closes_before : Part → ℕ → ℕ → Bool
closes_before parts.Name c next = false
closes_before parts.Attributes c next = false
closes_before parts.AttrName c next = false
closes_before parts.AfterName c next = false
closes_before parts.Value c next = false
closes_before (parts.Inside ends.DoubleQuote) c next = c == 34 && ends_name next
closes_before (parts.Inside ends.SingleQuote) c next = c == 39 && ends_name next
closes_before (parts.Inside ends.Space) c next = false
closes_before (parts.Number end base value start) c next = false
closes_before (parts.Ampersand end start) c next = false

-- the part after a code point, or the tag ends there
abbrev pub TurnsTo : Part → ℕ → Option ℕ → TagReading → Part → Type 0
TurnsTo old c after More new = (ends_tag old c after ≡ false) × (new ≡ next_part old c)
TurnsTo old c after (Closed self_closing n) new = ends_tag old c after ≡ true

-- what a code point tells, and what it leaves to be told
abbrev pub MovesTag : Part → ℕ → Option ℕ → TagReading → Part → Type 0
MovesTag old c after More new =
    (rows : List Row) (seen : AttrNames) (place : ℕ) (rest : List ℕ) → (looks_on old c ≡ true → slice_get rest 0 ≡ after) →
    part_errors rows seen old place (c ∷ rest) ≡ all_char_errors seen old c after place ++ part_errors rows (next_names seen old c) new (place + 1) rest
MovesTag old c after (Closed self_closing n) new =
    (rows : List Row) (seen : AttrNames) (place : ℕ) (rest : List ℕ) → (looks_on old c ≡ true → slice_get rest 0 ≡ after) → part_errors rows seen old place (c ∷ rest) ≡ all_char_errors seen old c after place

-- a part in which a code point tells the same, but for the number that ends before it
abbrev pub SettlesPart : Part → ℕ → Part → Type 0
SettlesPart old c new =
    ((rows : List Row) (seen : AttrNames) (place : ℕ) (rest : List ℕ) → part_errors rows seen old place (c ∷ rest) ≡ settle_told old c ++ part_errors rows seen new place (c ∷ rest))
    × ((seen : AttrNames) (after : Option ℕ) (place : ℕ) → all_char_errors seen old c after place ≡ settle_told old c ++ all_char_errors seen new c after place)
    × (looks_on new c ≡ looks_on old c) × ((seen : AttrNames) → next_names seen old c ≡ next_names seen new c)

-- what a `&` begins is passed, and what it tells
abbrev pub MovesRef : Part → ValueRef → ℕ → Part → Type 0
MovesRef old found place new =
    (rows : List Row) (seen : AttrNames) (rest : List ℕ) → Begins rows found (38 ∷ rest) → 0 < ref_len found → ref_len found ≤ suc (length rest) →
    part_errors rows seen old place (38 ∷ rest) ≡ (part_end_told old ++ value_told rows place (38 ∷ rest)) ++ part_errors rows seen new (place + ref_len found) (drop (ref_len found) (38 ∷ rest))
