-- The rows of an object's members.
use Rattle.std.specs.Prelude.{nat_le, slice_get, string_bytes, String, Option, Some, None, Result, Ok, Err}
use Rattle.std.specs.declared.alloc.Global.{Global}
use Rattle.std.specs.List.{AllByRecursion}
use Rattle.std.specs.List.Sorted.{IsStrictlySortedBy}
use Rattle.std.specs.Ordering.{nat_cmp}
use Rattle.std.specs.declared.cmp.Ordering.TheVariants.{Less}
use Rattle.std.specs.Cmp.Lexicographic.{slice_cmp}
use Rattle.std.proofs.lemmas.Bool.Decides.{nat_tests}
use Rattle.std.proofs.lemmas.List.{append-nil}
use Rattle.std.specs.Str.{chars, IsUtf8, is_utf8}
use Rattle.serde_json.specs.Read as json
use Rattle.std.proofs.lemmas.Str.{is_utf8-from_IsUtf8, IsUtf8-from_is_utf8}
use Rattle.html_charref.specs.declared.read.EntityError.TheVariants.{Name, Json}
use Rattle.std.proofs.Common.{inl, inr, append_assoc, string_cmp, ℕ, zero, suc, ◌≡◌, ◌≤◌, List, [], ◌∷◌, ◌++◌, length, map, true, refl, sym, ap, subst, ◌∙◌, arith}
use Rattle.serde_json.specs.Data.{object, Data, Members}
use Rattle.serde_json.specs.Find.{as_object}
use Rattle.serde_json.specs.View.{view, members_view}
use Rattle.serde_json.specs.declared.value.Value.{Value}
use Rattle.html_charref.specs.declared.table.RefText.{RefText}
use Rattle.html_charref.specs.declared.table.Row.{Row}
use Rattle.html_charref.specs.declared.read.EntityError.{EntityError}
use Rattle.html_charref.specs.Table.{IsName, IsTable, name_of}
use Rattle.std.specs.Map.{keys_of}
use Rattle.html_charref.specs.Entities.{codes_of, codes_with, is_name, row_of, rows_of, with_row, row_with, shaped_row, shape_of, text_of, entities_of, json_of, table_of}
use Rattle.html_charref.proofs.Spelling.{is_name-IsName}
use Rattle.html_charref.proofs.LongestLemmas.{bool_cases, both}

abbrev pub Entry : Type 0
Entry = String Global × Value

-- the rows that were read, and those that are left
abbrev pub rows_after : List Row → Result (List Row) EntityError → Result (List Row) EntityError
rows_after done (Ok rows) = Ok (done ++ rows)
rows_after done (Err e) = Err e

pub rows_after-push : (done : List Row) (row : Row) (r : Result (List Row) EntityError) → rows_after done (with_row (Ok row) r) ≡ rows_after (done ++ row ∷ []) r
rows_after-push done row (Ok rows) = ap (λ x. Ok x) (sym (append_assoc done (row ∷ []) rows))
rows_after-push done row (Err e) = refl

pub rows_after-next : (done : List Row) (left es : List Entry) (k : String Global) (v : Value) (row : Row) → left ≡ (k, v) ∷ es → Ok row ≡ row_of (string_bytes k) (view v) → rows_after (done ++ row ∷ []) (rows_of (members_view es)) ≡ rows_after done (rows_of (members_view left))
rows_after-next done left es k v row first read =
    sym (rows_after-push done row (rows_of (members_view es)))
    ∙ ap (λ r. rows_after done (with_row r (rows_of (members_view es)))) read
    ∙ ap (λ (xs : List Entry). rows_after done (rows_of (members_view xs))) (sym first)

pub rows_after-end : (done : List Row) (left : List Entry) → left ≡ [] → rows_after done (rows_of (members_view left)) ≡ Ok done
rows_after-end done left none =
    ap (λ (xs : List Entry). rows_after done (rows_of (members_view xs))) none ∙ ap (λ x. Ok x) (append-nil done)

-- the parts of a list of rows that was read
record Parts (r : Result Row EntityError) (more : Result (List Row) EntityError) (rows : List Row) : Type 0 where
  row : Row
  rest : List Row
  first : r ≡ Ok row
  others : more ≡ Ok rest
  is : rows ≡ row ∷ rest

parts : (r : Result Row EntityError) (more : Result (List Row) EntityError) (rows : List Row) → with_row r more ≡ Ok rows → Parts r more rows
parts (Err e) more rows h = absurd (cc)
parts (Ok row) (Err e) rows h = absurd (cc)
parts (Ok row) (Ok rest) rows h = let e : row ∷ rest ≡ rows = cc in record { row = row; rest = rest; first = refl; others = refl; is = sym e }

row_with-name : (k : List ℕ) (t : Option RefText) (row : Row) → row_with k t ≡ Ok row → row.name ≡ k
row_with-name k None row h = absurd (cc)
row_with-name k (Some text) row h =
    let start : Row = record { name = k; text = text } in
    let e : start ≡ row = cc in ap name_of (sym e)

shaped_row-name : (k : List ℕ) (o : Option (List ℕ × List ℕ)) (row : Row) → shaped_row k o ≡ Ok row → row.name ≡ k
shaped_row-name k None row h = absurd (cc)
shaped_row-name k (Some p) row h = row_with-name k (text_of p.0 p.1) row h

row_of-name : (k : List ℕ) (d : Data) (row : Row) → row_of k d ≡ Ok row → (row.name ≡ k) × (is_name k ≡ true)
row_of-name k d row h = elim (bool_cases (is_name k)) [
  | inl t ↦ (shaped_row-name k (shape_of d) row (rw t at h), t)
  | inr f ↦ absurd (no (chars_name k) row (rw f at h))
]
  where
    chars_name : List ℕ → EntityError
    chars_name k = Name (chars k)

    no : (e : EntityError) (row : Row) → Err e ≡ Ok row → ⊥
    no e row h = cc

is_name-len : (k : List ℕ) → is_name k ≡ true → (2 ≤ length k) × (length k ≤ 4294967295)
is_name-len k h =
    let a = (both _ _ (both _ _ (both _ _ (both _ _ h).0).0).0) in
    (le_of 2 (length k) a.0, le_of (length k) 4294967295 a.1)
  where
    le_of : (m n : ℕ) → nat_le m n ≡ true → m ≤ n
    le_of m n h = grind (arith, nat_tests)

abbrev name_bytes : Entry → List ℕ
name_bytes e = string_bytes e.0

names : (es : List Entry) (rows : List Row) → rows_of (members_view es) ≡ Ok rows → map name_of rows ≡ map name_bytes es
names [] rows h = let e : [] ≡ rows = cc in ap (map name_of) (sym e)
names (e ∷ es) rows h =
    let p : Parts (row_of (string_bytes e.0) (view e.1)) (rows_of (members_view es)) rows = parts (row_of (string_bytes e.0) (view e.1)) (rows_of (members_view es)) rows h in
    ap (map name_of) p.is
    ∙ ap (λ n. n ∷ map name_of p.rest) (row_of-name (string_bytes e.0) (view e.1) p.row p.first).0
    ∙ ap (λ ns. string_bytes e.0 ∷ ns) (names es p.rest p.others)

all_names : (k : String Global) (es : List Entry) → AllByRecursion (λ y. string_cmp k y ≡ Less) (keys_of es) → AllByRecursion (λ y. slice_cmp nat_cmp (string_bytes k) y ≡ Less) (map name_bytes es)
all_names k [] h = tt
all_names k (e ∷ es) h = (h.0, all_names k es h.1)

sorted_names : (es : List Entry) → IsStrictlySortedBy string_cmp (keys_of es) → IsStrictlySortedBy (slice_cmp nat_cmp) (map name_bytes es)
unfolding IsStrictlySortedBy
sorted_names [] h = tt
sorted_names (e ∷ es) h = (all_names e.0 es h.0, sorted_names es h.1)

-- what the rule on names gives is true of each row
each_named : (P : List ℕ → Type 0) → ((key : List ℕ) → is_name key ≡ true → P key)
    → (es : List Entry) (rows : List Row) → rows_of (members_view es) ≡ Ok rows → (i : ℕ) (row : Row) → slice_get rows i ≡ Some row → P row.name
each_named P rule [] rows h i row at = let e : [] ≡ rows = cc in absurd (none i row (rw (← e) at at))
  where
    none : (i : ℕ) (row : Row) → slice_get [] i ≡ Some row → ⊥
    none i row h = cc
each_named P rule (e ∷ es) rows h i row at =
    let p : Parts (row_of (string_bytes e.0) (view e.1)) (rows_of (members_view es)) rows = parts (row_of (string_bytes e.0) (view e.1)) (rows_of (members_view es)) rows h in
    at_place p (λ j q. each_named P rule es p.rest p.others j row q) i (rw p.is at at)
  where
    at_place : (p : Parts (row_of (string_bytes e.0) (view e.1)) (rows_of (members_view es)) rows) → ((j : ℕ) → slice_get p.rest j ≡ Some row → P row.name) → (i : ℕ) → slice_get (p.row ∷ p.rest) i ≡ Some row → P row.name
    at_place p more zero h =
        let same : p.row ≡ row = cc in
        let n : (p.row.name ≡ string_bytes e.0) × (is_name (string_bytes e.0) ≡ true) = row_of-name (string_bytes e.0) (view e.1) p.row p.first in
        subst P (sym n.0 ∙ ap name_of same) (rule (string_bytes e.0) n.1)
    at_place p more (suc j) h = more j h

-- a text is one code point or two
codes_few : (text : RefText) → length (codes_of text) ≤ 2
codes_few text = few text.first text.second
  where
    few : (first : ℕ) (second : Option ℕ) → length (codes_with first second) ≤ 2
    few first None = omega arith
    few first (Some second) = omega arith

pub IsTable-rows_of : (es : List Entry) (rows : List Row) → IsStrictlySortedBy string_cmp (keys_of es) → rows_of (members_view es) ≡ Ok rows → IsTable rows
IsTable-rows_of es rows s h =
    let long = each_named (λ name. (2 ≤ length name) × (length name ≤ 4294967295)) is_name-len es rows h in
    record {
      sorted = rw (names es rows h) (sorted_names es s);
      named = long;
      spelt = each_named IsName is_name-IsName es rows h;
      no_longer = λ i row at. omega (arith, codes_few row.text, (long i row at).0);
    }

pub entities_of-read : (bytes : List ℕ) (d : Data) → IsUtf8 bytes → json.read bytes ≡ Some d → entities_of bytes ≡ table_of d
entities_of-read bytes d u h = rw (is_utf8-from_IsUtf8 bytes u, h) refl

pub entities_of-refused : (bytes : List ℕ) → (IsUtf8 bytes → json.read bytes ≡ None) → entities_of bytes ≡ Err Json
entities_of-refused bytes h = elim (bool_cases (is_utf8 bytes)) [
  | inl t ↦ rw (t, h (IsUtf8-from_is_utf8 bytes t)) refl
  | inr f ↦ rw f refl
]

pub json_of-read : (bytes : List ℕ) (d : Data) → IsUtf8 bytes → json.read bytes ≡ Some d → json_of bytes ≡ Some d
json_of-read bytes d u h = rw (is_utf8-from_IsUtf8 bytes u, h) refl

pub json_of-refused : (bytes : List ℕ) → (IsUtf8 bytes → json.read bytes ≡ None) → json_of bytes ≡ None
json_of-refused bytes h = elim (bool_cases (is_utf8 bytes)) [
  | inl t ↦ rw (t, h (IsUtf8-from_is_utf8 bytes t)) refl
  | inr f ↦ rw f refl
]

pub no_value : (j : Option Data) (d : Data) → j ≡ None → j ≡ Some d → ⊥
no_value j d p q = cc

pub same_members : (j : Option Data) (d : Data) (ms found : Members) → j ≡ Some d → j ≡ Some (object ms) → Some found ≡ as_object d → found ≡ ms
same_members j d ms found p q h =
    let e : d ≡ object ms = cc in
    let f : Some found ≡ Some ms = h ∙ ap as_object e in
    cc
