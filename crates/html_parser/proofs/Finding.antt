-- Where the token of a number begins, by the stretch that is found for it.
use Rattle.std.proofs.Common.{ℕ, zero, suc, ◌≤◌, ◌+◌, ◌-◌, ◌<◌, ◌^◌, ◌≡◌, true, false, arith, List, [], ◌∷◌, length, drop, get_or, leb, ap, subst, ◌∙◌}
use Rattle.std.specs.Prelude.{slice_index_or}
use Rattle.std.specs.List.{range_with_len}
use Rattle.std.specs.List.Sorted.{IsNonDecreasingBy, IsPartitionPoint}
use Rattle.std.proofs.lemmas.Bool.{leb-true, leb-false}
use Rattle.std.proofs.lemmas.List.{get_or_append_left, get_or-append_right}
use Rattle.std.proofs.lemmas.List.FromFn.{length-range_with_len, get_or-range_with_len}
use Rattle.html_parser.specs.Stretches.{AreFrom, next_first, starts_in}
use Rattle.html_parser.specs.declared.starts.Stretch.{Stretch}

-- the first tokens of stretches rise
first-least : (n : ℕ) (ss : List Stretch) (len k : ℕ) (d : Stretch) → AreFrom n ss len → k < length ss → n ≤ (get_or ss k d).first
first-least n [] len k d a less = omega (arith, less)
first-least n (s ∷ ss) len zero d (f, below, fits, rest) less = omega (arith, f)
first-least n (s ∷ ss) len (suc k) d (f, below, fits, rest) less =
    let in' : k < length ss = omega (arith, less) in
    let later : next_first ss len ≤ (get_or ss k d).first = first-least (next_first ss len) ss len k d rest in' in
    omega (arith, later, below)

rising : (n : ℕ) (ss : List Stretch) (len i j : ℕ) (d : Stretch) → AreFrom n ss len → i ≤ j → j < length ss → (get_or ss i d).first ≤ (get_or ss j d).first
rising n [] len i j d a order less = omega (arith, less)
rising n (s ∷ ss) len zero j d (f, below, fits, rest) order less =
    let least : n ≤ (get_or (s ∷ ss) j d).first = first-least n (s ∷ ss) len j d (f, below, fits, rest) less in
    omega (arith, f, least)
rising n (s ∷ ss) len (suc i) zero d a order less = omega (arith, order)
rising n (s ∷ ss) len (suc i) (suc j) d (f, below, fits, rest) order less =
    rising (next_first ss len) ss len i j d rest (omega (arith, order)) (omega (arith, less))

pub firsts-rise : (n : ℕ) (ss : List Stretch) (len : ℕ) → AreFrom n ss len → IsNonDecreasingBy (λ (s : Stretch). s.first) ss
firsts-rise n ss len a = λ i j d order less. rising n ss len i j d a order less

-- at this index stands the place of the token of this number
pub record IsPlace (starts : List ℕ) (index number : ℕ) (s : Stretch) : Type 0 where
  pub place : slice_index_or starts index 0 ≡ s.place + (number - s.first)
  pub fits : s.place + (number - s.first) < 2 ^ 64

-- in the stretch k, which begins no later, and of which the next one begins later
place-at : (n : ℕ) (ss : List Stretch) (len number k : ℕ) (d : Stretch) → AreFrom n ss len → k < length ss → (get_or ss k d).first ≤ number
    → number < next_first (drop (suc k) ss) len → IsPlace (starts_in ss len) (number - n) number (get_or ss k d)
place-at n [] len number k d a less begun next = omega (arith, less)
place-at n (s ∷ ss) len number zero d (f, below, fits, rest) less begun next =
    let at : s.first ≡ n = f in
    let from : s.first ≤ number = begun in
    let upto : number < next_first ss len = next in
    let index : number - n < next_first ss len - s.first = omega arith in
    let all : length (range_with_len s.place (next_first ss len - s.first)) ≡ next_first ss len - s.first
    = length-range_with_len s.place (next_first ss len - s.first) in
    let within : number - n < length (range_with_len s.place (next_first ss len - s.first)) = omega arith in
    let fit : s.place + (next_first ss len - n) < 2 ^ 64 = fits in
    let same : number - n ≡ number - s.first = omega arith in
    record {
      place = get_or_append_left (range_with_len s.place (next_first ss len - s.first)) (starts_in ss len) 0 (number - n) within
          ∙ get_or-range_with_len s.place (next_first ss len - s.first) (number - n) 0 index
          ∙ ap (λ i. s.place + i) same;
      fits = omega arith;
    }
place-at n (s ∷ ss) len number (suc k) d (f, below, fits, rest) less begun next =
    let at : s.first ≡ n = f in
    let in' : k < length ss = omega (arith, less) in
    let from : (get_or ss k d).first ≤ number = begun in
    let least : next_first ss len ≤ (get_or ss k d).first = first-least (next_first ss len) ss len k d rest in' in
    let some : n < next_first ss len = below in
    let past : next_first ss len - s.first ≤ number - n = omega arith in
    let skip : (number - n) - (next_first ss len - s.first) ≡ number - next_first ss len = omega arith in
    let later = place-at (next_first ss len) ss len number k d rest in' begun next in
    record {
      place = get_or-append_right (range_with_len s.place (next_first ss len - s.first)) (starts_in ss len) (next_first ss len - s.first) (number - n) 0
          (length-range_with_len s.place (next_first ss len - s.first)) past
          ∙ ap (λ i. slice_index_or (starts_in ss len) i 0) skip
          ∙ later.place;
      fits = later.fits;
    }

-- the next stretch begins later, where those from k on do
next-above : (ss : List Stretch) (len number k : ℕ) → ((i : ℕ) (d : Stretch) → k ≤ i → i < length ss → number < (get_or ss i d).first) → number < len
    → number < next_first (drop k ss) len
next-above [] len number zero later less = less
next-above [] len number (suc k) later less = less
next-above (s ∷ ss) len number zero later less = later 0 s (omega arith) (omega arith)
next-above (s ∷ ss) len number (suc k) later less =
    next-above ss len number k (λ i d from upto. later (suc i) d (omega (arith, from)) (omega (arith, upto))) less

-- the first stretch begins with the first token
first-zero : (ss : List Stretch) (len : ℕ) (d : Stretch) → AreFrom 0 ss len → 0 < len → (0 < length ss) × ((get_or ss 0 d).first ≡ 0)
first-zero [] len d a some = let e : 0 ≡ len = a in omega (arith, e, some)
first-zero (s ∷ ss) len d (f, below, fits, rest) some = (omega arith, f)

-- the stretch before the partition point
pub record Found (ss : List Stretch) (len number above : ℕ) (d : Stretch) : Type 0 where
  pub some : 0 < above
  pub begun : (get_or ss (above - 1) d).first ≤ number
  pub is_place : IsPlace (starts_in ss len) number number (get_or ss (above - 1) d)

pub found : (ss : List Stretch) (len number above : ℕ) (d : Stretch) → AreFrom 0 ss len → number < len → above ≤ length ss
    → IsPartitionPoint (λ s. leb s.first number ≡ true) (λ s. leb s.first number ≡ false) ss above → Found ss len number above d
found ss len number zero d a less bound (below, after) =
    let z = first-zero ss len d a (omega (arith, less)) in
    let e : leb (get_or ss 0 d).first number ≡ false = after 0 d (omega arith) z.0 in
    let big : number < (get_or ss 0 d).first = leb-false (get_or ss 0 d).first number e in
    let none : (get_or ss 0 d).first ≡ 0 = z.1 in
    omega (arith, big, none)
found ss len number (suc k) d a less bound (below, after) =
    let in' : k < length ss = omega (arith, bound) in
    let e : leb (get_or ss k d).first number ≡ true = below k d (omega arith) (omega arith) in
    let begun : (get_or ss k d).first ≤ number = leb-true (get_or ss k d).first number e in
    let next : number < next_first (drop (suc k) ss) len
    = next-above ss len number (suc k) (λ i x from upto. leb-false (get_or ss i x).first number (after i x from upto)) less in
    let before : k ≡ suc k - 1 = omega arith in
    let whole : number - 0 ≡ number = omega arith in
    record {
      some = omega arith;
      begun = subst (λ i. (get_or ss i d).first ≤ number) before begun;
      is_place = subst (λ i. IsPlace (starts_in ss len) number number (get_or ss i d)) before
          (subst (λ i. IsPlace (starts_in ss len) i number (get_or ss k d)) whole (place-at 0 ss len number k d a in' begun next));
    }
