-- Plain text: its bytes and its code points, and where it may be cut.
use Rattle.std.proofs.Common.{◌≡◌, ℕ, suc, ◌+◌, ◌-◌, ◌/◌, ◌%◌, ◌<◌, ◌≤◌, List, [], ◌∷◌, ◌++◌, Bool, true, false, ◌&&◌, cond, length, take, drop, refl, sym, ap, subst, ◌∙◌, append_assoc, append-nil, arith, count_by, encode_utf8, IsUtf8, IsCharBoundary, chars, take-add}
use Rattle.std.specs.Prelude.{nat_lt}
use Rattle.std.specs.List.{list_all}
use Rattle.std.specs.Char.{IsScalar}
use Rattle.std.proofs.Math.Utf8.{encode, encodes, scalars, scalar}
use Rattle.std.proofs.lemmas.Bool.Decides.{nat_tests}
use Rattle.std.proofs.lemmas.List.{length-append, length-take-le, take-append-drop}
use Rattle.std.proofs.lemmas.List.Folds.{list_all-append}
use Rattle.std.proofs.lemmas.List.Sums.{sum_by-append}
use Rattle.std.proofs.lemmas.Str.{IsCharBoundary-from_take, IsUtf8-append, IsUtf8-encode, chars-append, chars-nil, chars_past_char, cons_from_encodes, encode_ascii, encodes-chars, scalars-chars}
use Rattle.html_text.specs.Plain.{IsCutAfter, is_lead, is_plain_byte, is_plain_char}
use Rattle.html_text.proofs.Ascii.{front-added}
use Rattle.html_text.proofs.Encoding.{four, three, two}

both : (a b : Bool) → (a && b) ≡ true → (a ≡ true) × (b ≡ true)
both true b e = (refl, e)
both false b e = absurd (cc)

join : (a b : Bool) → a ≡ true → b ≡ true → (a && b) ≡ true
join true b p q = q
join false b p q = absurd (cc)

-- a code point that is not ASCII is plain
wide : (c : ℕ) → 128 ≤ c → is_plain_char c ≡ true
wide c h = grind (arith, nat_tests)

-- which bytes begin a code point
low : (b : ℕ) → b < 128 → is_lead b ≡ true
low b h = grind (arith, nat_tests)

high : (b : ℕ) → 192 ≤ b → is_lead b ≡ true
high b h = grind (arith, nat_tests)

later : (b : ℕ) → 128 ≤ b → b < 192 → is_lead b ≡ false
later b h k = grind (arith, nat_tests)

trail : (n : ℕ) → is_lead (128 + n % 64) ≡ false
trail n = later (128 + n % 64) (omega arith) (omega arith)

counts : (b : ℕ) (bs : List ℕ) → is_lead b ≡ true → count_by is_lead (b ∷ bs) ≡ 1 + count_by is_lead bs
counts b bs e = sum_by-append (λ x. cond (is_lead x) 1 0) (b ∷ []) bs ∙ ap (λ v. (0 + cond v 1 0) + count_by is_lead bs) e

skips : (b : ℕ) (bs : List ℕ) → is_lead b ≡ false → count_by is_lead (b ∷ bs) ≡ count_by is_lead bs
skips b bs e = sum_by-append (λ x. cond (is_lead x) 1 0) (b ∷ []) bs ∙ ap (λ v. (0 + cond v 1 0) + count_by is_lead bs) e ∙ (let z : 0 + count_by is_lead bs ≡ count_by is_lead bs = omega arith in z)

below : (c n : ℕ) → nat_lt c n ≡ true → c < n
below c n h = grind (arith, nat_tests)

above : (c n : ℕ) → nat_lt c n ≡ false → n ≤ c
above c n h = grind (arith, nat_tests)

-- a code point has one byte that begins one
module _ (c : ℕ) (rest : List ℕ) where
  one-lead : c < 128 → count_by is_lead (encode_utf8 c ++ rest) ≡ 1 + count_by is_lead rest
  one-lead h = ap (λ e. count_by is_lead (e ++ rest)) (encode_ascii c h) ∙ counts c rest (low c h)

  two-lead : 128 ≤ c → c < 2048 → count_by is_lead (encode_utf8 c ++ rest) ≡ 1 + count_by is_lead rest
  two-lead l h = ap (λ e. count_by is_lead (e ++ rest)) (two c l h)
      ∙ counts (192 + c / 64) ((128 + c % 64) ∷ rest) (high (192 + c / 64) (omega arith))
      ∙ ap (λ n. 1 + n) (skips (128 + c % 64) rest (trail c))

  three-lead : 2048 ≤ c → c < 65536 → count_by is_lead (encode_utf8 c ++ rest) ≡ 1 + count_by is_lead rest
  three-lead l h = ap (λ e. count_by is_lead (e ++ rest)) (three c l h)
      ∙ counts (224 + c / 4096) ((128 + c / 64 % 64) ∷ (128 + c % 64) ∷ rest) (high (224 + c / 4096) (omega arith))
      ∙ ap (λ n. 1 + n) (skips (128 + c / 64 % 64) ((128 + c % 64) ∷ rest) (trail (c / 64)) ∙ skips (128 + c % 64) rest (trail c))

  four-lead : 65536 ≤ c → count_by is_lead (encode_utf8 c ++ rest) ≡ 1 + count_by is_lead rest
  four-lead l = ap (λ e. count_by is_lead (e ++ rest)) (four c l)
      ∙ counts (240 + c / 262144) ((128 + c / 4096 % 64) ∷ (128 + c / 64 % 64) ∷ (128 + c % 64) ∷ rest) (high (240 + c / 262144) (omega arith))
      ∙ ap (λ n. 1 + n) (skips (128 + c / 4096 % 64) ((128 + c / 64 % 64) ∷ (128 + c % 64) ∷ rest) (trail (c / 4096))
      ∙ skips (128 + c / 64 % 64) ((128 + c % 64) ∷ rest) (trail (c / 64)) ∙ skips (128 + c % 64) rest (trail c))

  any-lead : count_by is_lead (encode_utf8 c ++ rest) ≡ 1 + count_by is_lead rest
  any-lead = by (nat_lt c 128) (nat_lt c 2048) (nat_lt c 65536) refl refl refl
    where
      by : (x y z : Bool) → nat_lt c 128 ≡ x → nat_lt c 2048 ≡ y → nat_lt c 65536 ≡ z → count_by is_lead (encode_utf8 c ++ rest) ≡ 1 + count_by is_lead rest
      by true y z e f g = one-lead (below c 128 e)
      by false true z e f g = two-lead (above c 128 e) (below c 2048 f)
      by false false true e f g = three-lead (above c 2048 f) (below c 65536 g)
      by false false false e f g = four-lead (above c 65536 g)

  -- a code point whose bytes are plain is plain
  plain-one : list_all is_plain_byte (encode_utf8 c ++ rest) ≡ true → (is_plain_char c ≡ true) × (list_all is_plain_byte rest ≡ true)
  plain-one h = by (nat_lt c 128) refl
    where
      parts : (list_all is_plain_byte (encode_utf8 c) ≡ true) × (list_all is_plain_byte rest ≡ true)
      parts = both _ _ (sym (list_all-append is_plain_byte (encode_utf8 c) rest) ∙ h)

      by : (x : Bool) → nat_lt c 128 ≡ x → (is_plain_char c ≡ true) × (list_all is_plain_byte rest ≡ true)
      by true e = ((both _ _ (subst (λ bs. list_all is_plain_byte bs ≡ true) (encode_ascii c (below c 128 e)) parts.0)).0, parts.1)
      by false e = (wide c (above c 128 e), parts.1)

plain-chars : (cs : List ℕ) → list_all is_plain_byte (encodes cs) ≡ true → list_all is_plain_char cs ≡ true
plain-chars [] h = refl
plain-chars (c ∷ cs) h = (let p = plain-one c (encodes cs) h in join _ _ p.0 (plain-chars cs p.1))

lead-chars : (cs : List ℕ) → count_by is_lead (encodes cs) ≡ length cs
lead-chars [] = refl
lead-chars (c ∷ cs) = any-lead c (encodes cs) ∙ ap (λ n. 1 + n) (lead-chars cs) ∙ (let z : 1 + length cs ≡ suc (length cs) = omega arith in z)

module _ (bs : List ℕ) (u : IsUtf8 bs) where
  pub plain-text : list_all is_plain_byte bs ≡ true → list_all is_plain_char (chars bs) ≡ true
  plain-text h = plain-chars (chars bs) (subst (λ v. list_all is_plain_byte v ≡ true) (sym (encodes-chars bs u)) h)

  pub counted : count_by is_lead bs ≡ length (chars bs)
  counted = ap (count_by is_lead) (sym (encodes-chars bs u)) ∙ lead-chars (chars bs)

-- a part of a plain text is plain
module _ (cs : List ℕ) (n : ℕ) (h : list_all is_plain_char cs ≡ true) where
  halves : (list_all is_plain_char (take n cs) ≡ true) × (list_all is_plain_char (drop n cs) ≡ true)
  halves = both _ _ (sym (list_all-append is_plain_char (take n cs) (drop n cs)) ∙ ap (list_all is_plain_char) (take-append-drop n cs) ∙ h)

  pub plain-front : list_all is_plain_char (take n cs) ≡ true
  plain-front = halves.0

  pub plain-rest : list_all is_plain_char (drop n cs) ≡ true
  plain-rest = halves.1

-- cuts
drop-front : (xs ys : List ℕ) → drop (length xs) (xs ++ ys) ≡ ys
drop-front [] ys = refl
drop-front (x ∷ xs) ys = drop-front xs ys

module _ (n : ℕ) (text rest : List ℕ) (cut : IsCutAfter n text rest) where
  whole : chars text ≡ chars cut.front ++ chars rest
  whole = ap chars cut.both ∙ chars-append cut.front rest cut.utf8

  front-len : n ≤ length (chars text) → length (chars cut.front) ≡ n
  front-len h = ap length cut.code_points ∙ length-take-le n (chars text) h

  pub rest-chars : n ≤ length (chars text) → chars rest ≡ drop n (chars text)
  rest-chars h = sym (drop-front (chars cut.front) (chars rest)) ∙ ap (λ k. drop k (chars cut.front ++ chars rest)) (front-len h) ∙ ap (drop n) (sym whole)

  pub cut-len : length text - length rest ≡ length cut.front
  cut-len = (let a = ap length cut.both in let b = length-append cut.front rest in omega (arith, a, b))

  front-is : take (length text - length rest) text ≡ cut.front
  front-is = ap (λ k. take k text) cut-len ∙ ap (take (length cut.front)) cut.both ∙ front-added cut.front rest

  pub cut-utf8 : IsUtf8 (take (length text - length rest) text)
  cut-utf8 = subst IsUtf8 (sym front-is) cut.utf8

  pub cut-chars : chars (take (length text - length rest) text) ≡ take n (chars text)
  cut-chars = ap chars front-is ∙ cut.code_points

  pub cut-boundary : IsUtf8 text → IsCharBoundary text (length text - length rest)
  cut-boundary u = IsCharBoundary-from_take text (length text - length rest) u (omega arith) cut-utf8

pub cut-none : (text : List ℕ) → IsCutAfter 0 text text
cut-none text = record { front = []; both = refl; utf8 = ([], (refl, refl)); code_points = chars-nil }

scalar-first : (text rest : List ℕ) (c : ℕ) → IsUtf8 text → text ≡ encode_utf8 c ++ rest → IsScalar c
scalar-first text rest c u e =
    let p = cons_from_encodes (chars text) rest c (encodes-chars text u ∙ e) in
    (both (scalar c) (scalars p.0) (sym (ap scalars p.1) ∙ scalars-chars text u)).0

pub cut-first : (text rest : List ℕ) (c : ℕ) → IsUtf8 text → text ≡ encode_utf8 c ++ rest → IsCutAfter 1 text rest
cut-first text rest c u e = let s = scalar-first text rest c u e in record {
  front = encode_utf8 c;
  both = e;
  utf8 = IsUtf8-encode c s;
  code_points = chars_past_char (encode_utf8 c) [] c (IsUtf8-encode c s) (sym (append-nil (encode_utf8 c))) ∙ ap (λ t. c ∷ t) chars-nil
      ∙ sym (ap (take 1) (chars_past_char text rest c u e));
}

pub cut-more : (n : ℕ) (text mid rest : List ℕ) → n ≤ length (chars text) → IsCutAfter n text mid → IsCutAfter 1 mid rest → IsCutAfter (n + 1) text rest
cut-more n text mid rest h a b = record {
  front = a.front ++ b.front;
  both = a.both ∙ ap (λ v. a.front ++ v) b.both ∙ sym (append_assoc a.front b.front rest);
  utf8 = IsUtf8-append a.front b.front a.utf8 b.utf8;
  code_points = chars-append a.front b.front a.utf8 ∙ ap (λ v. v ++ chars b.front) a.code_points
      ∙ ap (λ v. take n (chars text) ++ v) (b.code_points ∙ ap (take 1) (rest-chars n text mid a h)) ∙ sym (take-add n 1 (chars text));
}

-- a longer front
pub longer : (n k m : ℕ) (bytes : List ℕ) → m ≡ k → list_all is_plain_byte (take n bytes) ≡ true → list_all is_plain_byte (take m (drop n bytes)) ≡ true
    → list_all is_plain_byte (take (n + k) bytes) ≡ true
longer n k m bytes same front next =
    ap (list_all is_plain_byte) (take-add n k bytes) ∙ list_all-append is_plain_byte (take n bytes) (take k (drop n bytes))
    ∙ join _ _ front (subst (λ j. list_all is_plain_byte (take j (drop n bytes)) ≡ true) same next)

-- a text without bytes has no code points
pub no-chars : (text : List ℕ) → length text ≡ 0 → 0 < length (chars text) → ⊥
no-chars [] e h = (let z = ap length chars-nil in omega (arith, h, z))
no-chars (b ∷ bs) e h = absurd (omega arith)
