-- What belongs to a cut, a reference or a value is no longer than the text.
use Rattle.std.proofs.Common.{◌≡◌, ℕ, zero, suc, ◌+◌, ◌-◌, ◌<◌, ◌≤◌, List, [], ◌∷◌, ◌++◌, length, drop, Option, Some, None, Bool, true, false, ◌&&◌, ◌||◌, ◌==◌, cond, is_none, refl, ap, sym, ◌∙◌, arith}
use Rattle.std.proofs.lemmas.List.{length-drop, length-append}
use Rattle.std.proofs.lemmas.Bool.{false≢true}
use Rattle.std.specs.List.{slice_get}
use Rattle.std.specs.Option.{IfSome}
use Rattle.html_charref.specs.Entities.{codes_of}
use Rattle.html_charref.specs.Table.{longest, IsTable, LongestRow}
use Rattle.html_charref.specs.declared.table.Row.{Row}
use Rattle.html_charref.specs.declared.table.RefText.{RefText}
use Rattle.html_charref.specs.declared.number.Base.{Base}
use Rattle.html_charref.specs.declared.number.Base.TheVariants.{Decimal, Hex}
use Rattle.html_charref.proofs.Maximum.{longest-IsLongest}
use Rattle.html_tokens.proofs.RefLemmas.{found_short}
use Rattle.html_tokens.specs.Cut.{Cut, cut, cut_or, longer, is, passes, mark_if, comment_mark, greater_mark, section_mark, quote_mark, stop_mark, ends_unquoted, is_space, null_replaced}
use Rattle.html_tokens.specs.Draft.{passed}
use Rattle.html_tokens.specs.Reference.{Reference, literal, named_by, numeric_by, numbered, reference, reference_by, ref_opener, semicolon, ends_digits, opened_by, is_digit}
use Rattle.html_tokens.specs.Tag.{value, after_name, after_some}
use Rattle.html_tokens.specs.Value.{value_cut, end_mark, with_codes, value_reference, value_reference_by, value_named, goes_on}
use Rattle.html_tokens.specs.declared.token.RefOpener.{RefOpener}
use Rattle.html_tokens.specs.declared.token.RefOpener.TheVariants as openers
use Rattle.html_tokens.specs.declared.tag.ValueEnd.{ValueEnd}
use Rattle.html_tokens.specs.declared.tag.ValueEnd.TheVariants as ends

-- a fact of both branches
pub cond_both : {X : Type 0} (P : X → Type 0) (b : Bool) (x y : X) → (b ≡ true → P x) → (b ≡ false → P y) → P (cond b x y)
cond_both P true x y f g = f refl
cond_both P false x y f g = g refl

pub left : (a b : Bool) → (a && b) ≡ true → a ≡ true
left true b h = refl
left false b h = absurd (false≢true h)

pub right : (a b : Bool) → (a && b) ≡ true → b ≡ true
right true b h = h
right false b h = absurd (false≢true h)

-- a code point that is found is there
pub there : (p : ℕ → Bool) (text : List ℕ) (k : ℕ) → passes p (slice_get text k) ≡ true → k < length text
there p [] k h = absurd (false≢true h)
there p (c ∷ rest) zero h = omega arith
there p (c ∷ rest) (suc k) h = let i = there p rest k h in omega arith

is_passes : (c : ℕ) (o : Option ℕ) → is c o ≡ passes (λ d. d == c) o
is_passes c None = refl
is_passes c (Some d) = refl

pub is_there : (c : ℕ) (text : List ℕ) (k : ℕ) → is c (slice_get text k) ≡ true → k < length text
is_there c text k h = there (λ d. d == c) text k (sym (is_passes c (slice_get text k)) ∙ h)

-- a mark that is found is no longer than the text
abbrev pub MarkFits : (List ℕ → Option ℕ) → Type 0
MarkFits mark = (text : List ℕ) → IfSome (mark text) (λ n. n ≤ length text)

pub if_fits : (n m : ℕ) (b : Bool) (other : Option ℕ) → (b ≡ true → n ≤ m) → IfSome other (λ k. k ≤ m) → IfSome (mark_if b n other) (λ k. k ≤ m)
if_fits n m true other h f = h refl
if_fits n m false other h f = f

pub greater_fits : MarkFits greater_mark
greater_fits text = if_fits 1 (length text) (is 62 (slice_get text 0)) None (λ h. let i = is_there 62 text 0 h in omega arith) tt

pub quote_fits : (quote : ℕ) → MarkFits (quote_mark quote)
quote_fits quote text = if_fits 1 (length text) (is quote (slice_get text 0)) None (λ h. let i = is_there quote text 0 h in omega arith) tt

pub stop_fits : (p : ℕ → Bool) → MarkFits (stop_mark p)
stop_fits p text = if_fits 0 (length text) (passes p (slice_get text 0)) None (λ h. omega arith) tt

third : (a b : Bool) (c : ℕ) (text : List ℕ) → (a && b && is c (slice_get text 2)) ≡ true → 3 ≤ length text
third a b c text h = let i = is_there c text 2 (right (a && b) (is c (slice_get text 2)) h) in omega arith

pub comment_fits : MarkFits comment_mark
comment_fits text =
    let a = is 45 (slice_get text 0) in
    let b = is 45 (slice_get text 1) in
    let third_end = is_none (slice_get text 2) in
    let bang = is 33 (slice_get text 2) in
    let greater = is 62 (slice_get text 3) in
    let fourth_end = is_none (slice_get text 3) in
    let m5 = mark_if (a && b && bang && fourth_end) 3 None in
    let m4 = mark_if (a && b && third_end) 2 m5 in
    let m3 = mark_if (a && is_none (slice_get text 1)) 1 m4 in
    let m2 = mark_if (a && b && bang && greater) 4 m3 in
    if_fits 3 (length text) (a && b && is 62 (slice_get text 2)) m2 (λ h. third a b 62 text h)
    (if_fits 4 (length text) (a && b && bang && greater) m3 (λ h. let i = is_there 62 text 3 (right (a && b && bang) greater h) in omega arith)
    (if_fits 1 (length text) (a && is_none (slice_get text 1)) m4 (λ h. let i = is_there 45 text 0 (left a (is_none (slice_get text 1)) h) in omega arith)
    (if_fits 2 (length text) (a && b && third_end) m5 (λ h. let i = is_there 45 text 1 (right a b (left (a && b) third_end h)) in omega arith)
    (if_fits 3 (length text) (a && b && bang && fourth_end) None (λ h. let i = is_there 33 text 2 (right (a && b) bang (left (a && b && bang) fourth_end h)) in omega arith) tt))))

pub section_fits : MarkFits section_mark
section_fits text =
    let a = is 93 (slice_get text 0) in
    let b = is 93 (slice_get text 1) in
    if_fits 3 (length text) (a && b && is 62 (slice_get text 2)) None (λ h. third a b 62 text h) tt

-- a cut is no longer than the text, and what stands before the mark no longer than the cut
abbrev pub CutFits : Cut → ℕ → Type 0
CutFits k n = (length k.before ≤ k.len) × (k.len ≤ n)

cut_fits_by : (m : Option ℕ) (c n : ℕ) (after : Cut) → IfSome m (λ k. k ≤ suc n) → CutFits after n → CutFits (cut_or m (longer c after)) (suc n)
cut_fits_by None c n after h f = (let i = f.0 in omega arith, let i = f.1 in omega arith)
cut_fits_by (Some k) c n after h f = (omega arith, h)

pub cut_fits : (mark : List ℕ → Option ℕ) → MarkFits mark → (text : List ℕ) → CutFits (cut mark text) (length text)
unfolding cut
cut_fits mark h [] = (omega arith, omega arith)
cut_fits mark h (c ∷ rest) = cut_fits_by (mark (c ∷ rest)) c (length rest) (cut mark rest) (h (c ∷ rest)) (cut_fits mark h rest)

-- the opener of a reference is there
ref_opener_fits : (text : List ℕ) → 0 < length text → (0 < opened_by (ref_opener text)) × (opened_by (ref_opener text) ≤ length text)
ref_opener_fits text h =
    let b = slice_get text 1 in
    let c = slice_get text 2 in
    let P : RefOpener → Type 0 = λ o. (0 < opened_by o) × (opened_by o ≤ length text) in
    let hex = cond (passes (is_digit Hex) (slice_get text 3)) (openers.Numeric Hex 3) openers.Literal in
    let decimal = cond (passes (is_digit Decimal) c) (openers.Numeric Decimal 2) openers.Literal in
    cond_both P (is 35 b) (cond (is 120 c || is 88 c) hex decimal) openers.Named
    (λ e. cond_both P (is 120 c || is 88 c) hex decimal
    (λ f. cond_both P (passes (is_digit Hex) (slice_get text 3)) (openers.Numeric Hex 3) openers.Literal (λ g. let i = there (is_digit Hex) text 3 g in (omega arith, omega arith)) (λ g. (omega arith, omega arith)))
    (λ f. cond_both P (passes (is_digit Decimal) c) (openers.Numeric Decimal 2) openers.Literal (λ g. let i = there (is_digit Decimal) text 2 g in (omega arith, omega arith)) (λ g. (omega arith, omega arith))))
    (λ e. (omega arith, omega arith))

semicolon_fits : (text : List ℕ) → semicolon text ≤ length text
semicolon_fits text = cond_both (λ n. n ≤ length text) (is 59 (slice_get text 0)) 1 0 (λ h. let i = is_there 59 text 0 h in omega arith) (λ h. omega arith)

pub numbered_fits : (base : Base) (v : ℕ) (text : List ℕ) → (numbered base v text).len ≤ length text
numbered_fits base v text =
    let digits = cut (stop_mark (ends_digits base)) text in
    let f = cut_fits (stop_mark (ends_digits base)) (stop_fits (ends_digits base)) text in
    let s : semicolon (drop digits.len text) ≤ length text - digits.len = rw (← length-drop digits.len text) (semicolon_fits (drop digits.len text)) in
    let e = f.1 in
    omega arith

-- a reference gives no more code points than it has, and one at least; it stands in the text
pub record RefFits (r : Reference) (n : ℕ) : Type 0 where
  pub some : 0 < r.len
  pub codes : length r.codes ≤ r.len
  pub within : r.len ≤ n

literal_fits : (n : ℕ) → 0 < n → RefFits literal n
literal_fits n h = record { some = omega arith; codes = omega arith; within = omega arith }

named_fits : (rows : List Row) (text : List ℕ) (found : Option (ℕ × RefText)) → IsTable rows → 0 < length text → longest rows text ≡ found → RefFits (named_by found) (length text)
named_fits rows text None t h e = literal_fits (length text) h
named_fits rows text (Some m) t h e =
    let short = found_short rows text (Some m) t e in
    let g : LongestRow rows text m = rw e at (longest-IsLongest rows text) in
    let len : length g.row.name ≡ m.0 = ap (λ (x : ℕ × RefText). x.0) g.is in
    let codes : codes_of g.row.text ≡ codes_of m.1 = ap (λ (x : ℕ × RefText). codes_of x.1) g.is in
    let no_longer : length (codes_of m.1) ≤ length g.row.name = rw (← codes) (t.no_longer g.place g.row g.at) in
    record { some = short.0; codes = omega arith; within = short.1 }

numeric_fits : (base : Base) (opened : ℕ) (text : List ℕ) → 0 < opened → opened ≤ length text → RefFits (numeric_by base opened text) (length text)
numeric_fits base opened text s h =
    let n = numbered base 0 (drop opened text) in
    let f : n.len ≤ length text - opened = rw (← length-drop opened text) (numbered_fits base 0 (drop opened text)) in
    record { some = omega arith; codes = omega arith; within = omega arith }

reference_fits_by : (o : RefOpener) (rows : List Row) (text : List ℕ) → IsTable rows → 0 < length text → (0 < opened_by o) × (opened_by o ≤ length text) → RefFits (reference_by o rows text) (length text)
reference_fits_by openers.Named rows text t h k = named_fits rows text (longest rows text) t h refl
reference_fits_by (openers.Numeric base opened) rows text t h k = numeric_fits base opened text k.0 k.1
reference_fits_by openers.Literal rows text t h k = literal_fits (length text) h

pub reference_fits : (rows : List Row) (text : List ℕ) → IsTable rows → 0 < length text → RefFits (reference rows text) (length text)
reference_fits rows text t h = reference_fits_by (ref_opener text) rows text t h (ref_opener_fits text h)

value_named_fits : (found : Option (ℕ × RefText)) (text : List ℕ) → 0 < length text → RefFits (named_by found) (length text) → RefFits (value_named found text) (length text)
value_named_fits None text h f = literal_fits (length text) h
value_named_fits (Some m) text h f =
    let P : Reference → Type 0 = λ r. RefFits r (length text) in
    cond_both P (is 59 (slice_get text (m.0 - 1))) (named_by (Some m)) (cond (passes goes_on (slice_get text m.0)) literal (named_by (Some m)))
    (λ e. f) (λ e. cond_both P (passes goes_on (slice_get text m.0)) literal (named_by (Some m)) (λ g. literal_fits (length text) h) (λ g. f))

value_reference_fits_by : (o : RefOpener) (rows : List Row) (text : List ℕ) → IsTable rows → 0 < length text → (0 < opened_by o) × (opened_by o ≤ length text) → RefFits (value_reference_by o rows text) (length text)
value_reference_fits_by openers.Named rows text t h k = value_named_fits (longest rows text) text h (named_fits rows text (longest rows text) t h refl)
value_reference_fits_by (openers.Numeric base opened) rows text t h k = numeric_fits base opened text k.0 k.1
value_reference_fits_by openers.Literal rows text t h k = literal_fits (length text) h

pub value_reference_fits : (rows : List Row) (text : List ℕ) → IsTable rows → 0 < length text → RefFits (value_reference rows text) (length text)
value_reference_fits rows text t h = value_reference_fits_by (ref_opener text) rows text t h (ref_opener_fits text h)

-- what goes on after so many code points that belong to what stands before
pub record GoesFits (k : ℕ) (c : Cut) (n : ℕ) : Type 0 where
  pub before : k + length c.before ≤ c.len
  pub within : c.len ≤ n

goes_none : (n : ℕ) → GoesFits 0 (record { before = []; len = 0 }) n
goes_none n = record { before = omega arith; within = omega arith }

end_fits : (end : ValueEnd) → MarkFits (end_mark end)
end_fits ends.DoubleQuote = quote_fits 34
end_fits ends.SingleQuote = quote_fits 39
end_fits ends.Space = stop_fits ends_unquoted

goes_or : (m : Option ℕ) (c : Cut) (n : ℕ) → IfSome m (λ k. k ≤ n) → GoesFits 0 c n → GoesFits 0 (cut_or m c) n
goes_or None c n h f = f
goes_or (Some k) c n h f = record { before = omega arith; within = h }

goes_codes : (r : Reference) (c : Cut) (n : ℕ) → RefFits r (suc n) → GoesFits (r.len - 1) c n → GoesFits 0 (with_codes r.codes c) (suc n)
goes_codes r c n f g =
    let l : length (r.codes ++ c.before) ≡ length r.codes + length c.before = length-append r.codes c.before in
    let a = f.some in let b = f.codes in let d = g.before in let e = g.within in
    record { before = omega arith; within = omega arith }

goes_past : (k n : ℕ) (c : Cut) → GoesFits k c n → GoesFits (suc k) (with_codes [] c) (suc n)
goes_past k n c g = let d = g.before in let e = g.within in record { before = omega arith; within = omega arith }

shown_fits : (d n : ℕ) → RefFits (record { codes = d ∷ []; len = 1 }) (suc n)
shown_fits d n = record { some = omega arith; codes = omega arith; within = omega arith }

pub value_cut_fits : (rows : List Row) (end : ValueEnd) (k : ℕ) (text : List ℕ) → IsTable rows → k ≤ length text → GoesFits k (value_cut rows end k text) (length text)
unfolding value_cut
value_cut_fits rows end zero [] t h = record { before = omega arith; within = omega arith }
value_cut_fits rows end (suc k) [] t h = absurd (omega arith)
value_cut_fits rows end zero (c ∷ rest) t h =
    let found = value_reference rows (c ∷ rest) in
    let f : RefFits found (suc (length rest)) = value_reference_fits rows (c ∷ rest) t (omega arith) in
    let b = f.some in let w = f.within in
    let whole = with_codes found.codes (value_cut rows end (found.len - 1) rest) in
    let one = with_codes (null_replaced c ∷ []) (value_cut rows end 0 rest) in
    goes_or (end_mark end (c ∷ rest)) (cond (c == 38) whole one) (suc (length rest)) (end_fits end (c ∷ rest))
    (cond_both (λ (x : Cut). GoesFits 0 x (suc (length rest))) (c == 38) whole one
    (λ e. goes_codes found (value_cut rows end (found.len - 1) rest) (length rest) f (value_cut_fits rows end (found.len - 1) rest t (omega arith)))
    (λ e. goes_codes (record { codes = null_replaced c ∷ []; len = 1 }) (value_cut rows end 0 rest) (length rest) (shown_fits (null_replaced c) (length rest)) (value_cut_fits rows end 0 rest t (omega arith))))
value_cut_fits rows end (suc k) (c ∷ rest) t h = goes_past k (length rest) (value_cut rows end k rest) (value_cut_fits rows end k rest t (omega arith))

goes_passed : (k n : ℕ) (c : Cut) → GoesFits k c n → GoesFits (suc k) (passed c) (suc n)
goes_passed k n c g = let d = g.before in let e = g.within in record { before = omega arith; within = omega arith }

goes_less : (k n : ℕ) (c : Cut) → GoesFits (suc k) c n → GoesFits k c n
goes_less k n c g = let d = g.before in record { before = omega arith; within = g.within }

pub value_fits : (rows : List Row) (text : List ℕ) → IsTable rows → GoesFits 0 (value rows text) (length text)
unfolding value
value_fits rows [] t = goes_none 0
value_fits rows (c ∷ rest) t =
    let n = suc (length rest) in
    let P : Cut → Type 0 = λ x. GoesFits 0 x n in
    let q1 = passed (value_cut rows ends.DoubleQuote 0 rest) in
    let q2 = passed (value_cut rows ends.SingleQuote 0 rest) in
    let q3 = value_cut rows ends.Space 0 (c ∷ rest) in
    cond_both P (is_space c) (passed (value rows rest)) (cond (c == 34) q1 (cond (c == 39) q2 q3))
    (λ e. goes_less 0 n (passed (value rows rest)) (goes_passed 0 (length rest) (value rows rest) (value_fits rows rest t)))
    (λ e. cond_both P (c == 34) q1 (cond (c == 39) q2 q3)
    (λ f. goes_less 0 n q1 (goes_passed 0 (length rest) (value_cut rows ends.DoubleQuote 0 rest) (value_cut_fits rows ends.DoubleQuote 0 rest t (omega arith))))
    (λ f. cond_both P (c == 39) q2 q3
    (λ g. goes_less 0 n q2 (goes_passed 0 (length rest) (value_cut rows ends.SingleQuote 0 rest) (value_cut_fits rows ends.SingleQuote 0 rest t (omega arith))))
    (λ g. value_cut_fits rows ends.Space 0 (c ∷ rest) t (omega arith))))

pub after_name_fits : (rows : List Row) (text : List ℕ) → IsTable rows → GoesFits 0 (after_name rows text) (length text)
unfolding after_name
after_name_fits rows [] t = goes_none 0
after_name_fits rows (c ∷ rest) t =
    let n = suc (length rest) in
    let P : Cut → Type 0 = λ x. GoesFits 0 x n in
    let none : Cut = record { before = []; len = 0 } in
    cond_both P (is_space c) (passed (after_name rows rest)) (cond (c == 61) (passed (value rows rest)) none)
    (λ e. goes_less 0 n (passed (after_name rows rest)) (goes_passed 0 (length rest) (after_name rows rest) (after_name_fits rows rest t)))
    (λ e. cond_both P (c == 61) (passed (value rows rest)) none
    (λ f. goes_less 0 n (passed (value rows rest)) (goes_passed 0 (length rest) (value rows rest) (value_fits rows rest t)))
    (λ f. goes_none n))

pub after_some_fits : (rows : List Row) (k : ℕ) (text : List ℕ) → IsTable rows → k ≤ length text → GoesFits k (after_some rows k text) (length text)
unfolding after_some
after_some_fits rows zero text t h = after_name_fits rows text t
after_some_fits rows (suc k) [] t h = absurd (omega arith)
after_some_fits rows (suc k) (c ∷ rest) t h = goes_passed k (length rest) (after_some rows k rest) (after_some_fits rows k rest t (omega arith))
