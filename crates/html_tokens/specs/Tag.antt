-- Claimed, but for this crate's own functions: longer_tag, is_unsettled, ReadsTag, ClosesAt, GoesOn, Settles, tail_by, tag_by, IsInside, OpensRef, ReadsRef, AddsAttr.
-- A tag: its name, its attributes, and how it closes.
use Rattle.std.specs.Prelude.{◌≡◌, ℕ, zero, suc, ◌+◌, ◌≤◌, ◌<◌, List, [], ◌∷◌, ◌++◌, length, map, drop, Bool, true, false, ◌&&◌, ◌||◌, ◌==◌, cond, nat_le, Option, IsTrue, slice_get, option_to_list}
use Rattle.std.specs.Char.{is_ascii_alphanumeric}
use Rattle.std.specs.List.{list_any}
use Rattle.std.specs.Str.{bytes_eq}
use Rattle.html_tokens.specs.Cut.{Cut, cut, is, null_replaced, stop_mark, is_space}
use Rattle.html_tokens.specs.Reference.{is_digit}
use Rattle.html_tokens.specs.Value.{value_cut, number_cut, Begins, ref_len}
use Rattle.html_tokens.specs.declared.reference.ValueRef.{ValueRef}
use Rattle.html_tokens.specs.declared.tag.ValueEnd.TheVariants as ends
use Rattle.html_charref.specs.declared.table.Row.{Row}
use Rattle.html_tokens.specs.Draft.{passed}
use Rattle.html_tokens.specs.declared.attributes.Attr.{Attr}
use Rattle.html_tokens.specs.declared.tag.Part.{Part}
use Rattle.html_tokens.specs.declared.tag.Part.TheVariants as parts
use Rattle.html_tokens.specs.declared.tag.TagDraft.{TagDraft}
use Rattle.html_tokens.specs.declared.tag.TagReading.{TagReading}
use Rattle.html_tokens.specs.declared.tag.TagReading.TheVariants.{More, Closed}

abbrev pub between : ℕ → ℕ → ℕ → Bool
between lo hi c = nat_le lo c && nat_le c hi

-- capitals are lowered, and U+0000 becomes U+FFFD (HTML 13.2.5.8, 13.2.5.33)
abbrev pub name_char : ℕ → ℕ
name_char c = cond (between 65 90 c) (c + 32) (null_replaced c)

abbrev pub ends_name : ℕ → Bool
ends_name c = is_space c || c == 47 || c == 62

abbrev pub ends_attr : ℕ → Bool
ends_attr c = ends_name c || c == 61

-- a value, after the `=` (HTML 13.2.5.35)
unfoldable pub value : List Row → List ℕ → Cut
value rows [] = record { before = []; len = 0 }
value rows (c ∷ rest) =
    cond (is_space c) (passed (value rows rest))
    (cond (c == 34) (passed (value_cut rows ends.DoubleQuote 0 rest))
    (cond (c == 39) (passed (value_cut rows ends.SingleQuote 0 rest))
    (value_cut rows ends.Space 0 (c ∷ rest))))

-- what stands after the name of an attribute: white space, and perhaps `=` and a value (HTML 13.2.5.34)
unfoldable pub after_name : List Row → List ℕ → Cut
after_name rows [] = record { before = []; len = 0 }
after_name rows (c ∷ rest) =
    cond (is_space c) (passed (after_name rows rest))
    (cond (c == 61) (passed (value rows rest)) (record { before = []; len = 0 }))

-- the same, after so many code points of the name
unfoldable pub after_some : List Row → ℕ → List ℕ → Cut
after_some rows zero text = after_name rows text
after_some rows (suc k) [] = record { before = []; len = 0 }
after_some rows (suc k) (c ∷ rest) = passed (after_some rows k rest)

abbrev pub attr : List ℕ → List ℕ → Attr
attr name val = record { name = name; value = val }

-- an attribute, whose name so far is this (HTML 13.2.5.33)
pub record Named : Type 0 where
  pub attr : Attr
  pub len : ℕ

abbrev pub attribute : List Row → List ℕ → List ℕ → List ℕ → Named
attribute rows name val text =
    let more = cut (stop_mark ends_attr) text in
    let after = after_some rows more.len text in
    record { attr = attr (name ++ map name_char more.before) (val ++ after.before); len = after.len }

-- the attributes of a tag and its end
pub record Tail : Type 0 where
  pub attrs : List Attr
  pub self_closing : Bool
  pub closed : Bool
  pub len : ℕ

abbrev pub longer_tail : Tail → Tail
longer_tail t = record { attrs = t.attrs; self_closing = t.self_closing; closed = t.closed; len = suc t.len }

abbrev pub with_attr : Attr → Tail → Tail
with_attr a t = record { attrs = a ∷ t.attrs; self_closing = t.self_closing; closed = t.closed; len = t.len }

-- an attribute of this name is there
abbrev pub has_name : List ℕ → List Attr → Bool
has_name name attrs = list_any (λ a. bytes_eq a.name name) attrs

-- of attributes with one name the first stays (HTML 13.2.5.33)
abbrev pub add_first : List Attr → Attr → List Attr
add_first attrs a = cond (has_name a.name attrs) attrs (attrs ++ a ∷ [])

abbrev pub firsts_after : List Attr → List Attr → List Attr
firsts_after kept [] = kept
firsts_after kept (a ∷ more) = firsts_after (add_first kept a) more

-- what stands after so many code points that belong to what is before (HTML 13.2.5.32, 13.2.5.39, 13.2.5.40)
unfoldable pub tail : List Row → ℕ → List ℕ → Tail
tail rows k [] = record { attrs = []; self_closing = false; closed = false; len = 0 }
tail rows zero (c ∷ rest) =
    cond (c == 62) (record { attrs = []; self_closing = false; closed = true; len = 1 })
    (cond (c == 47 && is 62 (slice_get rest 0)) (record { attrs = []; self_closing = true; closed = true; len = 2 })
    (cond (c == 47 || is_space c) (longer_tail (tail rows 0 rest))
    (let named = attribute rows (name_char c ∷ []) [] rest in
    with_attr named.attr (longer_tail (tail rows named.len rest)))))
tail rows (suc k) (c ∷ rest) = longer_tail (tail rows k rest)

-- what a tag that is being read comes to
pub record Tag : Type 0 where
  pub name : List ℕ
  pub tail : Tail

abbrev pub part_tail : List Row → Part → List ℕ → List ℕ → List ℕ → Tail
part_tail rows parts.Name name val text = tail rows (cut (stop_mark ends_name) text).len text
part_tail rows parts.Attributes name val text = tail rows 0 text
part_tail rows parts.AttrName name val text = let named = attribute rows name val text in with_attr named.attr (tail rows named.len text)
part_tail rows parts.AfterName name val text = let more = after_name rows text in with_attr (attr name (val ++ more.before)) (tail rows more.len text)
part_tail rows parts.Value name val text = let more = value rows text in with_attr (attr name (val ++ more.before)) (tail rows more.len text)
part_tail rows (parts.Inside end) name val text = let more = value_cut rows end 0 text in with_attr (attr name (val ++ more.before)) (tail rows more.len text)
part_tail rows (parts.Ampersand end start) name val text = let more = value_cut rows end 0 text in with_attr (attr name (val ++ more.before)) (tail rows more.len text)
part_tail rows (parts.Number end base value start) name val text = let more = number_cut rows end base value text in with_attr (attr name (val ++ more.before)) (tail rows more.len text)

abbrev pub name_rest : Part → List ℕ → List ℕ
name_rest parts.Name text = map name_char (cut (stop_mark ends_name) text).before
name_rest parts.Attributes text = []
name_rest parts.AttrName text = []
name_rest parts.AfterName text = []
name_rest parts.Value text = []
name_rest (parts.Inside end) text = []
name_rest (parts.Number end base value start) text = []
name_rest (parts.Ampersand end start) text = []

abbrev pub with_attrs : List Attr → Tail → Tail
with_attrs front t = record { attrs = firsts_after front t.attrs; self_closing = t.self_closing; closed = t.closed; len = t.len }

abbrev pub draft_tag : List Row → TagDraft → List ℕ → Tag
draft_tag rows d text = record { name = d.name ++ name_rest d.part text; tail = with_attrs d.attrs (part_tail rows d.part d.attr_name d.attr_value text) }

abbrev pub longer_tag : Tag → Tag
longer_tag t = record { name = t.name; tail = longer_tail t.tail }

-- a part in which references are read
abbrev pub reads_refs : Part → Bool
reads_refs parts.Name = false
reads_refs parts.Attributes = false
reads_refs parts.AttrName = false
reads_refs parts.AfterName = false
reads_refs parts.Value = true
reads_refs (parts.Inside end) = true
reads_refs (parts.Number end base value start) = true
reads_refs (parts.Ampersand end start) = true

-- a part in which a number is read, or letters and digits after a `&`
abbrev pub is_unsettled : Part → Bool
is_unsettled parts.Name = false
is_unsettled parts.Attributes = false
is_unsettled parts.AttrName = false
is_unsettled parts.AfterName = false
is_unsettled parts.Value = false
is_unsettled (parts.Inside end) = false
is_unsettled (parts.Number end base value start) = true
is_unsettled (parts.Ampersand end start) = true

-- The reading of one code point, before this one.
abbrev pub ReadsTag : TagDraft → ℕ → Option ℕ → TagReading → TagDraft → Type 0
ReadsTag old c after More new =
    ((rows : List Row) (rest : List ℕ) → (c ≡ 47 → slice_get rest 0 ≡ after) → draft_tag rows old (c ∷ rest) ≡ longer_tag (draft_tag rows new rest)) × (new.start ≡ old.start) × (new.is_end ≡ old.is_end)
ReadsTag old c after (Closed self_closing n) new =
    ((rows : List Row) (rest : List ℕ) → (c ≡ 47 → slice_get rest 0 ≡ after) → draft_tag rows old (c ∷ rest) ≡ record { name = new.name; tail = record { attrs = new.attrs; self_closing = self_closing; closed = true; len = n } })
    × (new.start ≡ old.start) × (new.is_end ≡ old.is_end) × (n ≤ 1 + length (option_to_list after))

-- only `>` and `/` close a tag
abbrev pub ClosesAt : ℕ → TagReading → Type 0
ClosesAt c More = Unit {0}
ClosesAt c (Closed self_closing n) = IsTrue (c == 62 || c == 47) × (n ≡ cond self_closing 2 1)

-- a number goes on at this code point, or letters and digits do
abbrev pub GoesOn : Part → ℕ → Type 0
GoesOn parts.Name c = Unit {0}
GoesOn parts.Attributes c = Unit {0}
GoesOn parts.AttrName c = Unit {0}
GoesOn parts.AfterName c = Unit {0}
GoesOn parts.Value c = Unit {0}
GoesOn (parts.Inside end) c = Unit {0}
GoesOn (parts.Number end base value start) c = is_digit base c ≡ false → c ≡ 59
GoesOn (parts.Ampersand end start) c = is_ascii_alphanumeric c ≡ true

-- a draft that comes to the same before this code point, and in which a number goes on there
abbrev pub Settles : TagDraft → ℕ → TagDraft → Type 0
Settles old c new = ((rows : List Row) (rest : List ℕ) → draft_tag rows old (c ∷ rest) ≡ draft_tag rows new (c ∷ rest)) × (new.start ≡ old.start) × (new.is_end ≡ old.is_end) × GoesOn new.part c

-- so many code points more
abbrev pub tail_by : ℕ → Tail → Tail
tail_by k t = record { attrs = t.attrs; self_closing = t.self_closing; closed = t.closed; len = k + t.len }

abbrev pub tag_by : ℕ → Tag → Tag
tag_by k t = record { name = t.name; tail = tail_by k t.tail }

abbrev pub IsInside : Part → Type 0
IsInside parts.Name = ⊥
IsInside parts.Attributes = ⊥
IsInside parts.AttrName = ⊥
IsInside parts.AfterName = ⊥
IsInside parts.Value = ⊥
IsInside (parts.Inside end) = Unit {0}
IsInside (parts.Number end base value start) = ⊥
IsInside (parts.Ampersand end start) = ⊥

-- a draft that comes to the same before a `&`, inside a value
abbrev pub OpensRef : TagDraft → TagDraft → Type 0
OpensRef old new = ((rows : List Row) (rest : List ℕ) → draft_tag rows old (38 ∷ rest) ≡ draft_tag rows new (38 ∷ rest)) × (new.start ≡ old.start) × (new.is_end ≡ old.is_end) × IsInside new.part

-- The reading of what a `&` begins, before it.
abbrev pub ReadsRef : TagDraft → ValueRef → TagDraft → Type 0
ReadsRef old found new =
    ((rows : List Row) (rest : List ℕ) → Begins rows found (38 ∷ rest) → 0 < ref_len found → ref_len found ≤ suc (length rest) →
    draft_tag rows old (38 ∷ rest) ≡ tag_by (ref_len found) (draft_tag rows new (drop (ref_len found) (38 ∷ rest))))
    × (new.start ≡ old.start) × (new.is_end ≡ old.is_end)

abbrev pub AddsAttr : TagDraft → TagDraft → Type 0
AddsAttr old new = new ≡ record old { attrs = add_first old.attrs (attr old.attr_name old.attr_value); part = parts.Attributes; attr_name = []; attr_value = [] }

-- the tag that stands here, after `<` or `</`
abbrev pub tag_of : List Row → List ℕ → Tag
tag_of rows text = let name = cut (stop_mark ends_name) text in record { name = map name_char name.before; tail = with_attrs [] (tail rows name.len text) }
