-- For this crate's own functions.
-- Attributes and tags that were fed whole, and tell no error.
use Rattle.std.specs.Prelude.{◌≡◌, ◌⊎◌, ℕ, ◌+◌, ◌≤◌, ◌<◌, Bool, true, false, List, [], ◌∷◌, ◌++◌, Option, Some, drop, length, option_map, slice_get, take}
use Rattle.html_tokens.specs.Bounds.{Bounded}
use Rattle.html_tokens.specs.Copied.{AllPass, copied_in, is_copied}
use Rattle.html_tokens.specs.Cut.{ends_unquoted}
use Rattle.html_tokens.specs.Places.{comparisons}
use Rattle.html_tokens.specs.Tag.{ends_name}
use Rattle.html_tokens.specs.declared.attributes.Attr.{Attr}
use Rattle.html_tokens.specs.declared.copied.Copied.TheVariants.{Name}
use Rattle.html_tokens.specs.declared.faults.Faults.{Faults}
use Rattle.html_tokens.specs.declared.machine.State.TheVariants as state
use Rattle.html_tokens.specs.declared.tag.Part.{Part}
use Rattle.html_tokens.specs.declared.tag.Part.TheVariants.{Attributes}
use Rattle.html_tokens.specs.declared.tag.TagDraft.{TagDraft}
use Rattle.html_tokens.specs.declared.tag.ValueEnd.{ValueEnd}
use Rattle.html_tokens.specs.declared.tag.ValueEnd.TheVariants as ends
use Rattle.html_tokens.specs.declared.whole_attr.WholeAttr.{WholeAttr}

-- what a value begins with that closes so (HTML 13.2.5.35)
abbrev pub OpensValue : ValueEnd → Option ℕ → Type 0
OpensValue ends.DoubleQuote first = first ≡ Some 34
OpensValue ends.SingleQuote first = first ≡ Some 39
OpensValue ends.Space first = Unit {0}

-- the length of its quote
abbrev pub quote_len : ValueEnd → ℕ
quote_len ends.DoubleQuote = 1
quote_len ends.SingleQuote = 1
quote_len ends.Space = 0

-- what closes it (HTML 13.2.5.36 to 13.2.5.38)
abbrev pub ClosesValue : ValueEnd → Option ℕ → Type 0
ClosesValue ends.DoubleQuote last = last ≡ Some 34
ClosesValue ends.SingleQuote last = last ≡ Some 39
ClosesValue ends.Space last = option_map ends_unquoted last ≡ Some true

-- what a closing quote is followed by: white space, `/` or `>` (HTML 13.2.5.39)
abbrev pub IsFree : ValueEnd → Option ℕ → Type 0
IsFree ends.DoubleQuote next = option_map ends_name next ≡ Some true
IsFree ends.SingleQuote next = option_map ends_name next ≡ Some true
IsFree ends.Space next = Unit {0}

-- A value stands at the front, closes so, has this length and is copied as it stands.
pub record IsValue (rest : List ℕ) (end : ValueEnd) (len : ℕ) : Type 0 where
  pub begins : OpensValue end (slice_get rest 0)
  pub some : 0 < quote_len end + len
  pub valued : AllPass (is_copied (copied_in end)) (take len (drop (quote_len end) rest))
  pub close : ClosesValue end (slice_get (drop (quote_len end) rest) len)
  pub free : IsFree end (slice_get (drop (quote_len end) rest) (len + 1))

-- An attribute with a value stands at the front, whose name is copied as it stands (HTML 13.2.5.33).
pub record IsWholeAttr (text : List ℕ) (found : WholeAttr) : Type 0 where
  pub some : 0 < found.name
  pub fit : found.name ≤ length text
  pub named : AllPass (is_copied Name) (take found.name text)
  pub equals : slice_get (drop found.name text) 0 ≡ Some 61
  pub value : IsValue (drop 1 (drop found.name text)) found.end found.value

-- its length
abbrev pub whole_len : WholeAttr → ℕ
whole_len a = a.name + (1 + (quote_len a.end + (a.value + quote_len a.end)))

-- One attribute more, at the end, whose name was compared with so many names of those before it.
abbrev pub AddsOne : List Attr → ℕ → List Attr → Type 0
AddsOne old compared new = (a : Attr) × (new ≡ old ++ a ∷ []) × (compared ≡ comparisons a.name old)

-- what closes a tag stands at the front (HTML 13.2.5.32, 13.2.5.40)
abbrev pub ClosesTag : List ℕ → Bool → ℕ → Type 0
ClosesTag rest self_closing len =
    ((slice_get rest 0 ≡ Some 62) × (self_closing ≡ false) × (len ≡ 1))
    ⊎ ((slice_get rest 0 ≡ Some 47) × (slice_get rest 1 ≡ Some 62) × (self_closing ≡ true) × (len ≡ 2))

-- Whatever was told before, so many code points of a tag and so many comparisons keep the bounds.
abbrev pub KeepsBounds : TagDraft → ℕ → ℕ → TagDraft → Type 0
KeepsBounds old n compared new = (place : ℕ) (faults : Faults) → Bounded (state.Tag old) place faults → Bounded (state.Tag new) (place + n) (record faults { compared = faults.compared + compared })

-- the name of a tag was read up to its end, or is not ended here
abbrev pub IsNamed : Part → List ℕ → Type 0
IsNamed part rest = (part ≡ Attributes) ⊎ ((c : ℕ) → slice_get rest 0 ≡ Some c → ends_name c ≡ false)
