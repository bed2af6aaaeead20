-- Claimed, but for this crate's own functions: is_taken, ref_len, Begins, IsValueRef, IsValueNamed.
-- References in the values of attributes.
use Rattle.std.specs.Prelude.{◌≡◌, ◌<◌, ◌≤◌, length, not, ℕ, zero, suc, ◌-◌, List, [], ◌∷◌, ◌++◌, Bool, false, true, ◌||◌, ◌==◌, cond, Option, Some, None, slice_get}
use Rattle.std.specs.Char.{is_ascii_alphanumeric}
use Rattle.html_charref.specs.Number.{char_of}
use Rattle.html_charref.specs.Table.{longest}
use Rattle.html_charref.specs.Entities.{codes_with}
use Rattle.html_charref.specs.declared.table.Row.{Row}
use Rattle.html_charref.specs.declared.table.RefText.{RefText}
use Rattle.html_charref.specs.declared.number.Base.{Base}
use Rattle.html_tokens.specs.Cut.{Cut, cut_or, is, null_replaced, passes, stop_mark, ends_unquoted, quote_mark}
use Rattle.html_tokens.specs.declared.tag.ValueEnd.{ValueEnd}
use Rattle.html_tokens.specs.declared.tag.ValueEnd.TheVariants as ends
use Rattle.html_tokens.specs.Reference.{Reference, is_soon_unknown, is_unknown, letters_after, literal, named_by, numeric_by, numbered, ref_opener}
use Rattle.html_tokens.specs.Input.{MayFollow, Decided}
use Rattle.html_tokens.specs.declared.input.Input.{Input}
use Rattle.html_tokens.specs.declared.reference.ValueRef.{ValueRef}
use Rattle.html_tokens.specs.declared.reference.ValueRef.TheVariants as refs
use Rattle.html_tokens.specs.declared.token.RefOpener.{RefOpener}
use Rattle.html_tokens.specs.declared.token.RefOpener.TheVariants.{Named, Numeric, Literal}

-- what closes a value (HTML 13.2.5.36 to 13.2.5.38)
abbrev pub end_mark : ValueEnd → List ℕ → Option ℕ
end_mark ends.DoubleQuote text = quote_mark 34 text
end_mark ends.SingleQuote text = quote_mark 39 text
end_mark ends.Space text = stop_mark ends_unquoted text

-- what makes a name without `;` before it text (HTML 13.2.5.73, "for historical reasons")
abbrev pub goes_on : ℕ → Bool
goes_on c = c == 61 || is_ascii_alphanumeric c

-- a name that stands at the front, where its last code point and the one after it allow it
abbrev pub value_named : Option (ℕ × RefText) → List ℕ → Reference
value_named None text = literal
value_named (Some found) text =
    cond (is 59 (slice_get text (found.0 - 1))) (named_by (Some found))
    (cond (passes goes_on (slice_get text found.0)) literal (named_by (Some found)))

abbrev pub value_reference_by : RefOpener → List Row → List ℕ → Reference
value_reference_by Named rows text = value_named (longest rows text) text
value_reference_by (Numeric base opened) rows text = numeric_by base opened text
value_reference_by Literal rows text = literal

-- the reference in a value whose `&` is at the front of the rest of the value
abbrev pub value_reference : List Row → List ℕ → Reference
value_reference rows text = value_reference_by (ref_opener text) rows text

-- the code points of a value, before what closes it, and how many code points belong to it
abbrev pub with_codes : List ℕ → Cut → Cut
with_codes codes after = record { before = codes ++ after.before; len = suc after.len }

-- A value that closes so, after so many code points that belong to the reference before: references are replaced, and U+0000 becomes U+FFFD.
unfoldable pub value_cut : List Row → ValueEnd → ℕ → List ℕ → Cut
value_cut rows end k [] = record { before = []; len = 0 }
value_cut rows end zero (c ∷ rest) =
    cut_or (end_mark end (c ∷ rest))
    (cond (c == 38)
    (let found = value_reference rows (c ∷ rest) in with_codes found.codes (value_cut rows end (found.len - 1) rest))
    (with_codes (null_replaced c ∷ []) (value_cut rows end 0 rest)))
value_cut rows end (suc k) (c ∷ rest) = with_codes [] (value_cut rows end k rest)

-- the same, in a number whose digits so far come to this value
abbrev pub number_cut : List Row → ValueEnd → Base → ℕ → List ℕ → Cut
number_cut rows end base value text =
    let n = numbered base value text in
    let after = value_cut rows end n.len text in
    record { before = char_of n.value ∷ after.before; len = after.len }

-- a name of this length at the front is a reference there
abbrev pub is_taken : ℕ → List ℕ → Bool
is_taken len text = is 59 (slice_get text (len - 1)) || not (passes goes_on (slice_get text len))

-- how many code points are passed
abbrev pub ref_len : ValueRef → ℕ
ref_len (refs.Numeric base opened) = opened
ref_len refs.Letters = 1
ref_len refs.Unknown = 1
ref_len refs.Literal = 1
ref_len (refs.Codes len first second) = len

-- this begins at the front of the rest of a value
abbrev pub Begins : List Row → ValueRef → List ℕ → Type 0
Begins rows (refs.Numeric base opened) text = ref_opener text ≡ Numeric base opened
Begins rows refs.Letters text = (ref_opener text ≡ Named) × (longest rows text ≡ None) × (letters_after rows text ≡ None)
Begins rows refs.Unknown text = (ref_opener text ≡ Named) × (longest rows text ≡ None) × (letters_after rows text ≡ Some true)
Begins rows refs.Literal text = ref_opener text ≡ Literal
Begins rows (refs.Codes len first second) text = (ref_opener text ≡ Named) × (value_reference rows text ≡ record { codes = codes_with first second; len = len }) × (is_unknown rows text ≡ false) × (is_soon_unknown rows text ≡ false)

abbrev pub IsValueRef : List Row → Input → ValueRef → Type 0
IsValueRef rows input found = ((more : List ℕ) → MayFollow input.finished more → Begins rows found (input.queue.items ++ more)) × (0 < ref_len found) × (ref_len found ≤ length input.queue.items)

-- what a name gives that stands at the front of the rest of a value
abbrev pub IsValueNamed : Input → ℕ → RefText → ValueRef → Type 0
IsValueNamed input len text (refs.Numeric base opened) = ⊥
IsValueNamed input len text refs.Letters = ⊥
IsValueNamed input len text refs.Unknown = ⊥
IsValueNamed input len text refs.Literal = ⊥
IsValueNamed input len text (refs.Codes n first second) =
    Decided input (value_named (Some (len, text))) (record { codes = codes_with first second; len = n }) × (0 < n) × (n ≤ length input.queue.items)
