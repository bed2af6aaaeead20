-- Steps of a walk through the bytes.
use Rattle.std.proofs.Common.{◌≡◌, ◌≢◌, ◌⊎◌, inl, inr, ℕ, zero, suc, ◌+◌, ◌<◌, ◌≤◌, Bool, true, false, List, [], ◌∷◌, ◌++◌, length, take, drop, refl, sym, ap, subst, ◌∙◌, arith, length-append, append-nil, take-append-drop, take-add, drop-drop, take_all, length-take, length-drop, get_or, Option, None, Some, ⊎_elim}
use Rattle.std.specs.Prelude.{◌==◌, ◌&&◌, if◌then◌else◌, not, unwrap_or}
use Rattle.std.specs.List.{list_all}
use Rattle.std.specs.Str.{IsCharBoundary, IsValidUpTo, IsUtf8, chars}
use Rattle.std.specs.Str.Lossy.{utf8_error_len, utf8_invalid_len}
use Rattle.std.proofs.lemmas.Bool.{cases_Bool, cases_lt, cond-true, cond-false}
use Rattle.std.proofs.lemmas.Bool.Decides.{nat_tests}
use Rattle.std.proofs.lemmas.List.{drop_all, take-append-le}
use Rattle.std.proofs.lemmas.Str.{IsCharBoundary-at_seam, IsUtf8-from_ascii, IsUtf8-past_char, IsUtf8-take, chars-IsAscii, chars-nil, chars_past_char, len_utf8_bounds, length-encode, utf8_valid_len-IsValidUpTo}
use Rattle.std.proofs.Math.Seq.{drop-append_seam, take-append_seam}
use Rattle.std.proofs.Math.Utf8.{encode}
use Rattle.std.specs.Char.{len_utf8}
use Rattle.html_input.specs.Count.{BeginsWithMark}
use Rattle.html_input.specs.Decode.{scalar_values, decode, normalise_newlines, starts_with_line_feed, without_mark}
use Rattle.html_input.specs.Lines.{StandsAt, last_line, line_feeds}
use Rattle.html_input.specs.Previous.{last_of, left_by, shown}
use Rattle.html_input.specs.Reached.{IsReached}
use Rattle.html_input.specs.Seam.{IsSeam}
use Rattle.html_input.specs.Starts.{IsFirst, StartsShort, StartsWith}
use Rattle.html_input.specs.Unfinished.{IsUnfinished}
use Rattle.html_input.specs.declared.lines.Here.{Here}
use Rattle.html_input.specs.declared.previous.Previous.TheVariants.{Nothing, CarriageReturn, Other}
use Rattle.html_input.proofs.Endings.{IsNoMark, last_of-more, none_read, text_of-more, text_of-line_feed}
use Rattle.html_input.proofs.IllFormed.{len_shown, part_range, shown_range}
use Rattle.html_input.proofs.Seams.{scalar_values-utf8, seam_after_utf8}
use Rattle.html_input.proofs.Steps.{cut_front, drop_part, first_ascii, first_one, ill_formed, next_seam, over_one, scalar_values-none, scalar_values-unfinished, seam_longer}

-- a front and its rest
seam_rest : (front rest : List ℕ) → (0 < length rest → IsSeam front (take 1 rest)) → scalar_values (front ++ rest) ≡ scalar_values front ++ scalar_values rest
seam_rest front [] s = ap scalar_values (append-nil front) ∙ sym (append-nil (scalar_values front)) ∙ ap (λ t. scalar_values front ++ t) (sym scalar_values-none)
seam_rest front (b ∷ rest) s = s (omega arith) rest

pub starts_value : (bs : List ℕ) (c n : ℕ) → StartsWith bs c n → scalar_values bs ≡ c ∷ scalar_values (drop n bs)
starts_value bs c n w =
    ap scalar_values (sym (take-append-drop n bs)) ∙ seam_rest (take n bs) (drop n bs) w.seam ∙ ap (λ t. t ++ scalar_values (drop n bs)) w.value

-- the first character of a text
pub first_is : (text rest : List ℕ) (c n : ℕ) → IsUtf8 text → text ≡ encode c ++ rest → n ≡ len_utf8 c → IsFirst text c n
first_is text rest c n u e len =
    let long : n ≡ length (encode c) = len ∙ sym (length-encode c) in
    let front : take n text ≡ encode c = ap (λ k. take k text) long ∙ ap (take (length (encode c))) e ∙ take-append_seam (encode c) rest in
    let more : length text ≡ length (encode c) + length rest = ap length e ∙ length-append (encode c) rest in
    let bounds = len_utf8_bounds c in
    let boundary : IsCharBoundary text n = subst (IsCharBoundary text) (sym long) (IsCharBoundary-at_seam text (encode c) rest e (IsUtf8-past_char text rest c u e)) in
    let alone : IsUtf8 (take n text) = IsUtf8-take text n u boundary in
    record {
      some = omega (arith, bounds.0, len);
      within = omega (arith, long, more);
      utf8 = alone;
      is = chars_past_char (take n text) [] c alone (front ∙ sym (append-nil (encode c))) ∙ ap (λ t. c ∷ t) chars-nil;
    }

-- what begins with a character
pub starts_char : (bs : List ℕ) (c n : ℕ) → IsFirst bs c n → StartsShort bs c n
starts_char bs c n f = record {
  starts = record {
    some = f.some;
    within = f.within;
    value = scalar_values-utf8 (take n bs) f.utf8 ∙ f.is;
    seam = λ _. seam_after_utf8 (take n bs) (take 1 (drop n bs)) f.utf8;
  };
  short = inl f.utf8;
}

same_front : (n m : ℕ) (bs : List ℕ) → n ≤ length (take m bs) → take n (take m bs) ≡ take n bs
same_front n m bs within = sym (take-append-le n (take m bs) (drop (length (take m bs)) bs) within) ∙ ap (take n) (sym (cut_front m bs))

shorter : (m : ℕ) (bs : List ℕ) → length (take m bs) ≤ length bs
shorter m bs = omega (arith, length-take m bs)

pub first_front : (m : ℕ) (bs : List ℕ) (c n : ℕ) → IsFirst (take m bs) c n → IsFirst bs c n
first_front m bs c n f =
    let same : take n (take m bs) ≡ take n bs = same_front n m bs f.within in
    record {
      some = f.some;
      within = omega (arith, f.within, shorter m bs);
      utf8 = subst IsUtf8 same f.utf8;
      is = ap chars (sym same) ∙ f.is;
    }

-- what a front of four bytes begins with
pub starts_front : (m : ℕ) (bs : List ℕ) (c n : ℕ) → (4 ≤ m ⊎ length bs ≤ m) → StartsShort (take m bs) c n → StartsWith bs c n
starts_front m bs c n wide s =
    let w = s.starts in
    let same : take n (take m bs) ≡ take n bs = same_front n m bs w.within in
    let few : n ≤ length bs = omega (arith, w.within, shorter m bs) in
    record {
      some = w.some;
      within = few;
      value = ap scalar_values (sym same) ∙ w.value;
      seam = λ more. ⊎_elim
          (λ (inside : n < length (take m bs)).
          let near : IsSeam (take n (take m bs)) (take 1 (drop n (take m bs))) = w.seam (omega (arith, inside, length-drop n (take m bs))) in
          let part : drop n bs ≡ drop n (take m bs) ++ drop (length (take m bs)) bs = drop_part n m bs w.within in
          subst (λ t. IsSeam t (take 1 (drop n bs))) same
          (subst (λ t. IsSeam (take n (take m bs)) (take 1 t)) (sym part) (seam_longer (take n (take m bs)) (drop n (take m bs)) (drop (length (take m bs)) bs) near)))
          (λ (edge : length (take m bs) ≤ n).
          let left : n < length bs = omega (arith, more, length-drop n bs) in
          let four : ¬ (n < 4) = λ small. ⊎_elim
          (λ (h : 4 ≤ m). omega (arith, h, edge, small, left, length-take m bs))
          (λ (h : length bs ≤ m). omega (arith, h, edge, left, length-take m bs)) wide in
          ⊎_elim
          (λ (u : IsUtf8 (take n (take m bs))). seam_after_utf8 (take n bs) (take 1 (drop n bs)) (subst IsUtf8 same u))
          (λ (small : n < 4). absurd (four small)) s.short)
          (cases_lt n (length (take m bs)));
    }

-- what begins with no character
pub starts_ill : (bs : List ℕ) → 0 < length bs → IsValidUpTo bs 0 → StartsShort bs 0xFFFD (utf8_invalid_len bs)
starts_ill bs some v = at (utf8_error_len bs) refl
  where
    at : (o : Option ℕ) → utf8_error_len bs ≡ o → StartsShort bs 0xFFFD (unwrap_or o (length bs))
    at None e =
        let all : take (length bs) bs ≡ bs = take_all (length bs) bs (omega arith) in
        let h : IsUnfinished bs = record { begins = utf8_valid_len-IsValidUpTo bs 0 v; ends = e } in
        let range = part_range bs some in
        record {
          starts = record {
            some = some;
            within = omega arith;
            value = ap scalar_values all ∙ scalar_values-unfinished bs some h;
            seam = λ more. absurd (omega (arith, more, length-drop (length bs) bs));
          };
          short = inr (omega (arith, range.1, ap (λ o. unwrap_or o (length bs)) e));
        }
    at (Some k) e =
        let part = ill_formed bs k v e in
        let range = shown_range bs k (len_shown bs k e) in
        record {
          starts = record { some = part.0; within = part.1; value = part.2; seam = λ _. part.3 };
          short = inr (omega (arith, range));
        }

-- a byte of ASCII
pub starts_ascii : (bs : List ℕ) → 0 < length bs → get_or bs 0 0 < 128 → StartsWith bs (get_or bs 0 0) 1
starts_ascii bs some ascii =
    let a = first_ascii bs some ascii in
    record {
      some = omega arith;
      within = some;
      value = scalar_values-utf8 (take 1 bs) (IsUtf8-from_ascii (take 1 bs) a) ∙ chars-IsAscii (take 1 bs) a ∙ first_one bs some;
      seam = λ _. seam_after_utf8 (take 1 bs) (take 1 (drop 1 bs)) (IsUtf8-from_ascii (take 1 bs) a);
    }

-- one scalar value more was passed
pub record Stepped (bytes : List ℕ) (o n c : ℕ) : Type 0 where
  pub within : o + n ≤ length bytes
  pub values : scalar_values (take (o + n) bytes) ≡ scalar_values (take o bytes) ++ c ∷ []
  pub seam : 0 < length (drop (o + n) bytes) → IsSeam (take (o + n) bytes) (take 1 (drop (o + n) bytes))
  pub rest : scalar_values (drop o bytes) ≡ c ∷ scalar_values (drop (o + n) bytes)

pub stepped : (bytes : List ℕ) (o n c : ℕ) → o ≤ length bytes → (0 < length (drop o bytes) → IsSeam (take o bytes) (take 1 (drop o bytes))) → StartsWith (drop o bytes) c n → Stepped bytes o n c
stepped bytes o n c within seam w =
    let r = drop o bytes in
    let cut : take n r ++ drop n r ≡ r = take-append-drop n r in
    let some : 0 < length r = omega (arith, w.some, w.within) in
    let ahead : IsSeam (take o bytes) (take 1 (take n r ++ drop n r)) = subst (λ t. IsSeam (take o bytes) (take 1 t)) (sym cut) (seam some) in
    let split : take (o + n) bytes ≡ take o bytes ++ take n r = take-add o n bytes in
    let back : drop n r ≡ drop (o + n) bytes = drop-drop n o bytes in
    record {
      within = omega (arith, w.within, length-drop o bytes, within);
      values = ap scalar_values split ∙ over_one (take o bytes) (take n r) (drop n r) ahead ∙ ap (λ t. scalar_values (take o bytes) ++ t) w.value;
      seam = λ more. subst (λ t. IsSeam t (take 1 (drop (o + n) bytes))) (sym split)
          (subst (λ t. IsSeam (take o bytes ++ take n r) (take 1 t)) back
          (next_seam (take o bytes) (take n r) (drop n r) ahead (w.seam (subst (λ t. 0 < length t) (sym back) more))));
      rest = starts_value r c n w ∙ ap (λ t. c ∷ scalar_values t) back;
    }

-- the text of it
stepped_text : (bytes : List ℕ) (h : Here) (n c : ℕ) → IsReached bytes h → Stepped bytes h.offset n c
    → decode (take (h.offset + n) bytes) ≡ decode (take h.offset bytes) ++ shown c ∷ []
stepped_text bytes h n c r s =
    let read = scalar_values (take h.offset bytes) in
    let no_mark : IsNoMark read c = λ is none. r.mark (none_read read none) (subst BeginsWithMark (sym s.rest) is) in
    let apart : c ≡ 10 → last_of Nothing read ≡ CarriageReturn → ⊥ = λ is after.
    let no : c == 10 ≡ false = ap starts_with_line_feed (sym s.rest) ∙ r.feed after in
    grind (arith, nat_tests) in
    ap (λ t. normalise_newlines (without_mark t)) s.values ∙ text_of-more read c no_mark apart

some_values : (read : List ℕ) (c : ℕ) → read ++ c ∷ [] ≡ [] → ⊥
some_values [] c e = cc
some_values (x ∷ xs) c e = cc

-- the start, behind a mark
pub reached_start : (bytes : List ℕ) (k : ℕ) → (k ≡ 0 → BeginsWithMark (scalar_values bytes) → ⊥) → (0 < k → StartsWith bytes 0xFEFF k)
    → IsReached bytes (record { place = 0; offset = k; line = 1; column = 1 })
reached_start bytes zero none some = record {
  within = omega arith;
  few = omega arith;
  seam = λ _ more. ap (λ t. t ++ scalar_values (take 1 bytes ++ more)) (sym scalar_values-none);
  feed = λ after. let e : last_of Nothing (scalar_values []) ≡ Nothing = ap (last_of Nothing) scalar_values-none in let f : CarriageReturn ≡ Nothing = sym after ∙ e in cc;
  mark = λ _ mark. none refl mark;
  place = sym (ap (λ t. length (normalise_newlines (without_mark t))) scalar_values-none);
  line = sym (ap (λ t. line_feeds (normalise_newlines (without_mark t)) + 1) scalar_values-none);
  column = sym (ap (λ t. length (last_line (normalise_newlines (without_mark t))) + 1) scalar_values-none);
}
reached_start bytes (suc j) none some =
    let w = some (omega arith) in
    let read : scalar_values (take (suc j) bytes) ≡ 0xFEFF ∷ [] = w.value in
    record {
      within = w.within;
      few = omega arith;
      seam = w.seam;
      feed = λ after. let e : last_of Nothing (scalar_values (take (suc j) bytes)) ≡ Other = ap (last_of Nothing) read in let f : CarriageReturn ≡ Other = sym after ∙ e in cc;
      mark = λ empty _. let e : 0xFEFF ∷ [] ≡ [] = sym read ∙ empty in cc;
      place = sym (ap (λ t. length (normalise_newlines (without_mark t))) read);
      line = sym (ap (λ t. line_feeds (normalise_newlines (without_mark t)) + 1) read);
      column = sym (ap (λ t. length (last_line (normalise_newlines (without_mark t))) + 1) read);
    }

-- lines and columns, and one code point more
is_feed : (c : ℕ) → c ≡ 10 → c == 10 ≡ true
is_feed c is = grind (arith, nat_tests)

is_no_feed : (c : ℕ) → c ≢ 10 → c == 10 ≡ false
is_no_feed c other = grind (arith, nat_tests)

line_other : (t : List ℕ) (c : ℕ) → c == 10 ≡ false → line_feeds (t ++ c ∷ []) ≡ line_feeds t
line_other [] c nope = cond-false (c == 10) (0 + 1) 0 nope
line_other (x ∷ xs) c nope = ap (λ n. if x == 10 then n + 1 else n) (line_other xs c nope)

one_later : (b : Bool) (n : ℕ) → (if b then n + 1 + 1 else n + 1) ≡ (if b then n + 1 else n) + 1
one_later true n = refl
one_later false n = refl

line_feed : (t : List ℕ) (c : ℕ) → c == 10 ≡ true → line_feeds (t ++ c ∷ []) ≡ line_feeds t + 1
line_feed [] c yep = cond-true (c == 10) (0 + 1) 0 yep
line_feed (x ∷ xs) c yep = ap (λ n. if x == 10 then n + 1 else n) (line_feed xs c yep) ∙ one_later (x == 10) (line_feeds xs)

abbrev no_feed : ℕ → Bool
no_feed d = not (d == 10)

all_other : (t : List ℕ) (c : ℕ) → c == 10 ≡ false → list_all no_feed (t ++ c ∷ []) ≡ list_all no_feed t
all_other [] c nope = ap (λ b. not b && true) nope
all_other (x ∷ xs) c nope = ap (λ b. no_feed x && b) (all_other xs c nope)

none_other : (t : List ℕ) (c : ℕ) → c == 10 ≡ true → list_all no_feed (t ++ c ∷ []) ≡ false
none_other [] c yep = ap (λ b. not b && true) yep
none_other (x ∷ xs) c yep = ap (λ b. no_feed x && b) (none_other xs c yep) ∙ and_false (no_feed x)
  where
    and_false : (b : Bool) → (b && false) ≡ false
    and_false true = refl
    and_false false = refl

last_other : (t : List ℕ) (c : ℕ) → c == 10 ≡ false → last_line (t ++ c ∷ []) ≡ last_line t ++ c ∷ []
last_other [] c nope = cond-true (list_all no_feed (c ∷ [])) (c ∷ []) [] (all_other [] c nope)
last_other (x ∷ xs) c nope = ⊎_elim
    (λ (yep : list_all no_feed (x ∷ xs) ≡ true).
    cond-true (list_all no_feed (x ∷ xs ++ c ∷ [])) (x ∷ xs ++ c ∷ []) (last_line (xs ++ c ∷ [])) (all_other (x ∷ xs) c nope ∙ yep)
    ∙ ap (λ t. t ++ c ∷ []) (sym (cond-true (list_all no_feed (x ∷ xs)) (x ∷ xs) (last_line xs) yep)))
    (λ (none : list_all no_feed (x ∷ xs) ≡ false).
    cond-false (list_all no_feed (x ∷ xs ++ c ∷ [])) (x ∷ xs ++ c ∷ []) (last_line (xs ++ c ∷ [])) (all_other (x ∷ xs) c nope ∙ none)
    ∙ last_other xs c nope ∙ ap (λ t. t ++ c ∷ []) (sym (cond-false (list_all no_feed (x ∷ xs)) (x ∷ xs) (last_line xs) none)))
    (cases_Bool (list_all no_feed (x ∷ xs)))

last_feed : (t : List ℕ) (c : ℕ) → c == 10 ≡ true → last_line (t ++ c ∷ []) ≡ []
last_feed [] c yep = cond-false (list_all no_feed (c ∷ [])) (c ∷ []) [] (none_other [] c yep)
last_feed (x ∷ xs) c yep = cond-false (list_all no_feed (x ∷ xs ++ c ∷ [])) (x ∷ xs ++ c ∷ []) (last_line (xs ++ c ∷ [])) (none_other (x ∷ xs) c yep) ∙ last_feed xs c yep

one_more : (b : Bool) (n m : ℕ) → n ≤ m → (if b then n + 1 else n) ≤ m + 1
one_more true n m few = omega (arith, few)
one_more false n m few = omega (arith, few)

feeds_few : (t : List ℕ) → line_feeds t ≤ length t
feeds_few [] = omega arith
feeds_few (x ∷ xs) = omega (arith, one_more (x == 10) (line_feeds xs) (length xs) (feeds_few xs))

either_few : (b : Bool) (x : ℕ) (xs ys : List ℕ) → length ys ≤ length xs → length (if b then x ∷ xs else ys) ≤ length (x ∷ xs)
either_few true x xs ys few = omega arith
either_few false x xs ys few = omega (arith, few)

last_few : (t : List ℕ) → length (last_line t) ≤ length t
last_few [] = omega arith
last_few (x ∷ xs) = either_few (list_all no_feed (x ∷ xs)) x xs (last_line xs) (last_few xs)

-- numbers of lines and columns are nope greater than so
pub line_bound : (bytes : List ℕ) (h : Here) → IsReached bytes h → h.line ≤ length bytes + 1
line_bound bytes h r = omega (arith, r.line, r.place, r.few, r.within, feeds_few (decode (take h.offset bytes)))

pub column_bound : (bytes : List ℕ) (h : Here) → IsReached bytes h → h.column ≤ length bytes + 1
column_bound bytes h r = omega (arith, r.column, r.place, r.few, r.within, last_few (decode (take h.offset bytes)))

-- behind another code point than an end of a line
pub reached_other : (bytes : List ℕ) (h : Here) (n c : ℕ) → IsReached bytes h → StartsWith (drop h.offset bytes) c n → c ≢ 13 → c ≢ 10
    → IsReached bytes (record { place = h.place + 1; offset = h.offset + n; line = h.line; column = h.column + 1 })
reached_other bytes h n c r w other nope =
    let s = stepped bytes h.offset n c r.within r.seam w in
    let before : List ℕ = decode (take h.offset bytes) in
    let same : shown c ≡ c = cond-false (c == 13) 10 c (grind (arith, nat_tests)) in
    let text : decode (take (h.offset + n) bytes) ≡ before ++ c ∷ [] = stepped_text bytes h n c r s ∙ ap (λ d. before ++ d ∷ []) same in
    let none : c == 10 ≡ false = is_no_feed c nope in
    let some = w.some in
    record {
      within = s.within;
      few = omega (arith, r.few, some);
      seam = s.seam;
      feed = λ after. absurd (after_other_value bytes h.offset n c s other after);
      mark = λ empty _. some_values _ c (sym s.values ∙ empty);
      place = omega (arith, r.place, ap length text, length-append before (c ∷ []));
      line = omega (arith, r.line, ap line_feeds text, line_other before c none);
      column = omega (arith, r.column, ap (λ t. length (last_line t)) text, ap length (last_other before c none), length-append (last_line before) (c ∷ []));
    }
  where
    after_other_value : (bytes : List ℕ) (o n c : ℕ) → Stepped bytes o n c → c ≢ 13 → last_of Nothing (scalar_values (take (o + n) bytes)) ≡ CarriageReturn → ⊥
    after_other_value bytes o n c s other after =
        let e : last_of Nothing (scalar_values (take (o + n) bytes)) ≡ left_by c = ap (last_of Nothing) s.values ∙ last_of-more Nothing (scalar_values (take o bytes)) c in
        let f : left_by c ≡ Other = cond-false (c == 13) CarriageReturn Other (grind (arith, nat_tests)) in
        let g : CarriageReturn ≡ Other = sym after ∙ e ∙ f in cc

-- behind an end of a line that is one code point, or two of which the second was passed
pub reached_feed : (bytes : List ℕ) (h : Here) (n c : ℕ) → IsReached bytes h → StartsWith (drop h.offset bytes) c n → c ≡ 10
    → IsReached bytes (record { place = h.place + 1; offset = h.offset + n; line = h.line + 1; column = 1 })
reached_feed bytes h n c r w feed =
    let s = stepped bytes h.offset n c r.within r.seam w in
    let before : List ℕ = decode (take h.offset bytes) in
    let same : shown c ≡ 10 = cond-false (c == 13) 10 c (grind (arith, nat_tests)) ∙ feed in
    let text : decode (take (h.offset + n) bytes) ≡ before ++ 10 ∷ [] = stepped_text bytes h n c r s ∙ ap (λ d. before ++ d ∷ []) same in
    let some = w.some in
    record {
      within = s.within;
      few = omega (arith, r.few, some);
      seam = s.seam;
      feed = λ after. absurd (after_feed bytes h.offset n c s feed after);
      mark = λ empty _. some_values _ c (sym s.values ∙ empty);
      place = omega (arith, r.place, ap length text, length-append before (10 ∷ []));
      line = omega (arith, r.line, ap line_feeds text, line_feed before 10 refl);
      column = sym (ap (λ t. length (last_line t) + 1) text ∙ ap (λ t. length t + 1) (last_feed before 10 refl));
    }
  where
    after_feed : (bytes : List ℕ) (o n c : ℕ) → Stepped bytes o n c → c ≡ 10 → last_of Nothing (scalar_values (take (o + n) bytes)) ≡ CarriageReturn → ⊥
    after_feed bytes o n c s feed after =
        let e : last_of Nothing (scalar_values (take (o + n) bytes)) ≡ left_by c = ap (last_of Nothing) s.values ∙ last_of-more Nothing (scalar_values (take o bytes)) c in
        let f : left_by c ≡ Other = ap left_by feed in
        let g : CarriageReturn ≡ Other = sym after ∙ e ∙ f in cc

-- behind a carriage return, and a line feed after it
pub reached_return : (bytes : List ℕ) (h : Here) (n m c : ℕ) → IsReached bytes h → StartsWith (drop h.offset bytes) c n → c ≡ 13
    → (m ≡ 0 → starts_with_line_feed (scalar_values (drop (h.offset + n) bytes)) ≡ false) → (0 < m → StartsWith (drop (h.offset + n) bytes) 10 m)
    → IsReached bytes (record { place = h.place + 1; offset = h.offset + n + m; line = h.line + 1; column = 1 })
reached_return bytes h n m c r w return none some =
    let s = stepped bytes h.offset n c r.within r.seam w in
    let before : List ℕ = decode (take h.offset bytes) in
    let same : shown c ≡ 10 = ap shown return in
    let text : decode (take (h.offset + n) bytes) ≡ before ++ 10 ∷ [] = stepped_text bytes h n c r s ∙ ap (λ d. before ++ d ∷ []) same in
    let last : last_of Nothing (scalar_values (take (h.offset + n) bytes)) ≡ CarriageReturn =
    ap (last_of Nothing) s.values ∙ last_of-more Nothing (scalar_values (take h.offset bytes)) c ∙ ap left_by return in
    let more = w.some in
    let place : h.place + 1 ≡ length (before ++ 10 ∷ []) = omega (arith, r.place, length-append before (10 ∷ [])) in
    let line : h.line + 1 ≡ line_feeds (before ++ 10 ∷ []) + 1 = omega (arith, r.line, line_feed before 10 refl) in
    let column : 1 ≡ length (last_line (before ++ 10 ∷ [])) + 1 = sym (ap (λ t. length t + 1) (last_feed before 10 refl)) in
    ⊎_elim
    (λ (two : 0 < m).
    let u = some two in
    let t = stepped bytes (h.offset + n) m 10 s.within s.seam u in
    let both : decode (take (h.offset + n + m) bytes) ≡ before ++ 10 ∷ [] =
    ap (λ v. normalise_newlines (without_mark v)) t.values ∙ text_of-line_feed (scalar_values (take (h.offset + n) bytes)) last ∙ text in
    record {
      within = t.within;
      few = omega (arith, r.few, more);
      seam = t.seam;
      feed = λ after. let e : last_of Nothing (scalar_values (take (h.offset + n + m) bytes)) ≡ Other =
          ap (last_of Nothing) t.values ∙ last_of-more Nothing (scalar_values (take (h.offset + n) bytes)) 10 in
          let g : CarriageReturn ≡ Other = sym after ∙ e in cc;
      mark = λ empty _. some_values _ 10 (sym t.values ∙ empty);
      place = place ∙ sym (ap length both);
      line = line ∙ sym (ap (λ v. line_feeds v + 1) both);
      column = column ∙ sym (ap (λ v. length (last_line v) + 1) both);
    })
    (λ (one : m ≤ 0).
    let zero_more : h.offset + n ≡ h.offset + n + m = omega arith in
    let there : IsReached bytes (record { place = h.place + 1; offset = h.offset + n; line = h.line + 1; column = 1 }) = record {
      within = s.within;
      few = omega (arith, r.few, more);
      seam = s.seam;
      feed = λ _. none (omega arith);
      mark = λ empty _. some_values _ c (sym s.values ∙ empty);
      place = place ∙ sym (ap length text);
      line = line ∙ sym (ap (λ v. line_feeds v + 1) text);
      column = column ∙ sym (ap (λ v. length (last_line v) + 1) text);
    } in
    subst (λ k. IsReached bytes (record { place = h.place + 1; offset = k; line = h.line + 1; column = 1 })) zero_more there)
    (cases_lt 0 m)

-- text that is cut where no carriage return stands before a line feed
push_both : (b d : Bool) (x : ℕ) (xs ys : List ℕ) → (if b then (if d then xs ++ ys else 10 ∷ xs ++ ys) else x ∷ xs ++ ys) ≡ (if b then (if d then xs else 10 ∷ xs) else x ∷ xs) ++ ys
push_both true true x xs ys = refl
push_both true false x xs ys = refl
push_both false d x xs ys = refl

normal_split : (x : ℕ) (xs rest : List ℕ) → (last_of (left_by x) xs ≡ CarriageReturn → starts_with_line_feed rest ≡ false)
    → normalise_newlines (x ∷ xs ++ rest) ≡ normalise_newlines (x ∷ xs) ++ normalise_newlines rest
normal_split x [] rest apart = ⊎_elim
    (λ (yep : x == 13 ≡ true).
    let none : starts_with_line_feed rest ≡ false = apart (cond-true (x == 13) CarriageReturn Other yep) in
    ap (λ b. if b then (if starts_with_line_feed rest then normalise_newlines rest else 10 ∷ normalise_newlines rest) else x ∷ normalise_newlines rest) yep
    ∙ ap (λ b. if b then normalise_newlines rest else 10 ∷ normalise_newlines rest) none
    ∙ ap (λ b. (if b then 10 ∷ [] else x ∷ []) ++ normalise_newlines rest) (sym yep))
    (λ (nope : x == 13 ≡ false).
    ap (λ b. if b then (if starts_with_line_feed rest then normalise_newlines rest else 10 ∷ normalise_newlines rest) else x ∷ normalise_newlines rest) nope
    ∙ ap (λ b. (if b then 10 ∷ [] else x ∷ []) ++ normalise_newlines rest) (sym nope))
    (cases_Bool (x == 13))
normal_split x (y ∷ ys) rest apart =
    ap (λ t. if x == 13 then (if y == 10 then t else 10 ∷ t) else x ∷ t) (normal_split y ys rest apart)
    ∙ push_both (x == 13) (y == 10) x (normalise_newlines (y ∷ ys)) (normalise_newlines rest)

unmarked_whole : (cs : List ℕ) → (BeginsWithMark cs → ⊥) → without_mark cs ≡ cs
unmarked_whole [] none = refl
unmarked_whole (c ∷ cs) none = cond-false (c == 0xFEFF) cs (c ∷ cs) (other c none)
  where
    other : (c : ℕ) → (c ≡ 0xFEFF → ⊥) → c == 0xFEFF ≡ false
    other c none = grind (arith, nat_tests)

text_split : (read rest : List ℕ) → (last_of Nothing read ≡ CarriageReturn → starts_with_line_feed rest ≡ false) → (read ≡ [] → BeginsWithMark rest → ⊥)
    → normalise_newlines (without_mark (read ++ rest)) ≡ normalise_newlines (without_mark read) ++ normalise_newlines rest
text_split [] rest apart mark = ap normalise_newlines (unmarked_whole rest (mark refl))
text_split (x ∷ xs) rest apart mark = ⊎_elim
    (λ (yep : x == 0xFEFF ≡ true).
    ap (λ b. normalise_newlines (if b then xs ++ rest else x ∷ xs ++ rest)) yep ∙ behind xs apart
    ∙ ap (λ b. normalise_newlines (if b then xs else x ∷ xs) ++ normalise_newlines rest) (sym yep))
    (λ (nope : x == 0xFEFF ≡ false).
    ap (λ b. normalise_newlines (if b then xs ++ rest else x ∷ xs ++ rest)) nope ∙ normal_split x xs rest apart
    ∙ ap (λ b. normalise_newlines (if b then xs else x ∷ xs) ++ normalise_newlines rest) (sym nope))
    (cases_Bool (x == 0xFEFF))
  where
    behind : (xs : List ℕ) → (last_of Nothing (x ∷ xs) ≡ CarriageReturn → starts_with_line_feed rest ≡ false) → normalise_newlines (xs ++ rest) ≡ normalise_newlines xs ++ normalise_newlines rest
    behind [] apart = refl
    behind (y ∷ ys) apart = normal_split y ys rest apart

-- where a walk has come to a place, or to the end before it
pub stands : (bytes : List ℕ) (h : Here) (place : ℕ) → IsReached bytes h → (h.place ≡ place) ⊎ ((h.offset ≡ length bytes) × (h.place ≤ place))
    → StandsAt bytes place (record { offset = h.offset; line = h.line; column = h.column })
stands bytes h place r there =
    let front = take h.offset bytes in
    let rest = drop h.offset bytes in
    let before : List ℕ = decode front in
    let after : List ℕ = normalise_newlines (scalar_values rest) in
    let values : scalar_values bytes ≡ scalar_values front ++ scalar_values rest = ap scalar_values (sym (take-append-drop h.offset bytes)) ∙ seam_rest front rest r.seam in
    let whole : decode bytes ≡ before ++ after = ap (λ t. normalise_newlines (without_mark t)) values ∙ text_split (scalar_values front) (scalar_values rest) r.feed r.mark in
    let cut : (take place (decode bytes) ≡ before) × (drop place (decode bytes) ≡ after) = ⊎_elim
    (λ (e : h.place ≡ place).
    let len : place ≡ length before = sym e ∙ r.place in (
      ap (take place) whole ∙ ap (λ k. take k (before ++ after)) len ∙ take-append_seam before after,
      ap (drop place) whole ∙ ap (λ k. drop k (before ++ after)) len ∙ drop-append_seam before after,
    ))
    (λ (e : (h.offset ≡ length bytes) × (h.place ≤ place)).
    let none : rest ≡ [] = drop_all h.offset bytes (omega (arith, e.0)) in
    let nothing : after ≡ [] = ap (λ t. normalise_newlines (scalar_values t)) none ∙ ap normalise_newlines scalar_values-none in
    let all : decode bytes ≡ before = whole ∙ ap (λ t. before ++ t) nothing ∙ append-nil before in
    let few : length before ≤ place = omega (arith, r.place, e.1) in (
      ap (take place) all ∙ take_all place before few,
      ap (drop place) all ∙ drop_all place before few ∙ sym nothing,
    )) there in
    record {
      within = r.within;
      before = sym cut.0;
      behind = sym cut.1;
      line = r.line ∙ ap (λ t. line_feeds t + 1) (sym cut.0);
      column = r.column ∙ ap (λ t. length (last_line t) + 1) (sym cut.0);
    }
