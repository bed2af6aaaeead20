-- Places of tokens in stretches.
use Rattle.std.proofs.Common.{ℕ, zero, suc, inl, inr, ◌≤◌, ◌+◌, ◌-◌, ◌<◌, ◌^◌, ◌≡◌, arith, List, [], ◌∷◌, ◌++◌, length, refl, sym, ap, ap₂, subst, ◌∙◌, length-append, append_assoc}
use Rattle.std.specs.List.{range_with_len}
use Rattle.std.proofs.lemmas.List.{append-nil}
use Rattle.std.proofs.lemmas.List.FromFn.{length-range_with_len}
use Rattle.html_parser.specs.Stretches.{Adds, AreFrom, GoesOn, next_first, starts_in}
use Rattle.html_parser.specs.declared.starts.Stretch.{Stretch}

-- the first token after a stretch, where one more stretch is added
pub next-first : (ss : List Stretch) (s : Stretch) (len : ℕ) → next_first (ss ++ s ∷ []) len ≡ next_first ss s.first
next-first [] s len = refl
next-first (x ∷ ss) s len = refl

-- the places of the last stretch come last
pub starts-push : (ss : List Stretch) (s : Stretch) (len : ℕ)
    → starts_in (ss ++ s ∷ []) len ≡ starts_in ss s.first ++ range_with_len s.place (len - s.first)
starts-push [] s len = append-nil _
starts-push (x ∷ ss) s len =
    ap₂ (λ f rest. range_with_len x.place (f - x.first) ++ rest) (next-first ss s len) (starts-push ss s len)
    ∙ sym (append_assoc (range_with_len x.place (next_first ss s.first - x.first)) (starts_in ss s.first) (range_with_len s.place (len - s.first)))

-- there are as many places as tokens
pub starts-length : (n : ℕ) (ss : List Stretch) (len : ℕ) → AreFrom n ss len → n + length (starts_in ss len) ≡ len
starts-length n [] len a = omega arith
starts-length n (s ∷ ss) len (f, less, fits, rest) =
    let more : length (starts_in (s ∷ ss) len) ≡ (next_first ss len - s.first) + length (starts_in ss len)
    = length-append (range_with_len s.place (next_first ss len - s.first)) (starts_in ss len)
    ∙ ap (λ k. k + length (starts_in ss len)) (length-range_with_len s.place (next_first ss len - s.first)) in
    let later : next_first ss len + length (starts_in ss len) ≡ len = starts-length (next_first ss len) ss len rest in
    let at : s.first ≡ n = f in
    let below : n < next_first ss len = less in
    omega arith

pub all-length : (ss : List Stretch) (len : ℕ) → AreFrom 0 ss len → length (starts_in ss len) ≡ len
all-length ss len a =
    let e : 0 + length (starts_in ss len) ≡ len = starts-length 0 ss len a in
    omega arith

-- one more stretch
pub from-push : (n : ℕ) (ss : List Stretch) (s : Stretch) (len : ℕ)
    → AreFrom n ss s.first → s.first < len → s.place + (len - s.first) < 2 ^ 64 → AreFrom n (ss ++ s ∷ []) len
from-push n [] s len a less fits =
    let e : n ≡ s.first = a in
    (sym e, subst (λ k. k < len) (sym e) less, subst (λ k. s.place + (len - k) < 2 ^ 64) (sym e) fits, refl)
from-push n (x ∷ ss) s len (f, below, fits, rest) less fit =
    let e = next-first ss s len in (
      f,
      subst (λ k. n < k) (sym e) below,
      subst (λ k. x.place + (k - n) < 2 ^ 64) (sym e) fits,
      subst (λ k. AreFrom k (ss ++ s ∷ []) len) (sym e) (from-push (next_first ss s.first) ss s len rest less fit),
    )

-- the last stretch of some
pub record Last (n : ℕ) (ss : List Stretch) (s : Stretch) (len : ℕ) : Type 0 where
  pub before : AreFrom n ss s.first
  pub some : s.first < len

pub from-last : (n : ℕ) (ss : List Stretch) (s : Stretch) (len : ℕ) → AreFrom n (ss ++ s ∷ []) len → Last n ss s len
from-last n [] s len (f, below, fits, rest) = record { before = sym f; some = subst (λ k. k < len) (sym f) below }
from-last n (x ∷ ss) s len (f, below, fits, rest) =
    let e = next-first ss s len in
    let last = from-last (next_first ss s.first) ss s len (subst (λ k. AreFrom k (ss ++ s ∷ []) len) e rest) in
    record {
      before = (f, subst (λ k. n < k) e below, subst (λ k. x.place + (k - n) < 2 ^ 64) e fits, last.before);
      some = last.some;
    }

pub range-split : (a m k : ℕ) → range_with_len a (m + k) ≡ range_with_len a m ++ range_with_len (a + m) k
range-split a zero k =
    let sum : 0 + k ≡ k = omega arith in
    let at : a ≡ a + 0 = omega arith in
    ap₂ range_with_len at sum
range-split a (suc m) k =
    let sum : suc m + k ≡ suc (m + k) = omega arith in
    let at : (a + 1) + m ≡ a + suc m = omega arith in
    ap (range_with_len a) sum
    ∙ ap (λ r. a ∷ r) (range-split (a + 1) m k ∙ ap (λ n. range_with_len (a + 1) m ++ range_with_len n k) at)

-- more tokens of the last stretch
last-grow : (front : List Stretch) (s : Stretch) (len count place : ℕ) → s.first ≤ len → s.place + (len - s.first) ≡ place
    → starts_in (front ++ s ∷ []) (len + count) ≡ starts_in (front ++ s ∷ []) len ++ range_with_len place count
last-grow front s len count place below at =
    let sum : (len + count) - s.first ≡ (len - s.first) + count = omega arith in
    starts-push front s (len + count)
    ∙ ap (λ k. starts_in front s.first ++ range_with_len s.place k) sum
    ∙ ap (λ r. starts_in front s.first ++ r) (range-split s.place (len - s.first) count ∙ ap (λ k. range_with_len s.place (len - s.first) ++ range_with_len k count) at)
    ∙ sym (append_assoc (starts_in front s.first) (range_with_len s.place (len - s.first)) (range_with_len place count))
    ∙ ap (λ r. r ++ range_with_len place count) (sym (starts-push front s len))

starts-grow : (ss : List Stretch) (len count place : ℕ) → GoesOn ss len place → starts_in ss (len + count) ≡ starts_in ss len ++ range_with_len place count
starts-grow ss len count place g =
    subst (λ xs. starts_in xs (len + count) ≡ starts_in xs len ++ range_with_len place count) (sym g.split)
    (last-grow g.front g.last len count place g.starts g.place_is)

from-grow : (ss : List Stretch) (len count place : ℕ) → GoesOn ss len place → AreFrom 0 ss len → place + count < 2 ^ 64 → AreFrom 0 ss (len + count)
from-grow ss len count place g a fits =
    let last = from-last 0 g.front g.last len (subst (λ xs. AreFrom 0 xs len) g.split a) in
    let some : g.last.first < len = last.some in
    let at : g.last.place + (len - g.last.first) ≡ place = g.place_is in
    let fit : place + count < 2 ^ 64 = fits in
    let less : g.last.first < len + count = omega arith in
    let room : g.last.place + ((len + count) - g.last.first) < 2 ^ 64 = omega arith in
    subst (λ xs. AreFrom 0 xs (len + count)) (sym g.split) (from-push 0 g.front g.last (len + count) last.before less room)

-- one more stretch
abbrev fresh : ℕ → ℕ → Stretch
fresh len place = record { first = len; place = place }

starts-more : (ss : List Stretch) (len count place : ℕ) → starts_in (ss ++ fresh len place ∷ []) (len + count) ≡ starts_in ss len ++ range_with_len place count
starts-more ss len count place =
    let rest : (len + count) - len ≡ count = omega arith in
    starts-push ss (fresh len place) (len + count) ∙ ap (λ k. starts_in ss len ++ range_with_len place k) rest

from-more : (ss : List Stretch) (len count place : ℕ) → AreFrom 0 ss len → 0 < count → place + count < 2 ^ 64 → AreFrom 0 (ss ++ fresh len place ∷ []) (len + count)
from-more ss len count place a some fits =
    let least : 0 < count = some in
    let less : len < len + count = omega arith in
    let fit : place + count < 2 ^ 64 = fits in
    let room : place + ((len + count) - len) < 2 ^ 64 = omega arith in
    from-push 0 ss (fresh len place) (len + count) a less room

-- both
pub starts-added : (ss ts : List Stretch) (len count place : ℕ) → Adds ss ts len place → starts_in ts (len + count) ≡ starts_in ss len ++ range_with_len place count
starts-added ss ts len count place a = elim a [
  | inl g ↦ subst (λ xs. starts_in xs (len + count) ≡ starts_in ss len ++ range_with_len place count) (sym g.1) (starts-grow ss len count place g.0)
  | inr e ↦ subst (λ xs. starts_in xs (len + count) ≡ starts_in ss len ++ range_with_len place count) (sym e) (starts-more ss len count place)
]

pub from-added : (ss ts : List Stretch) (len count place : ℕ) → Adds ss ts len place → AreFrom 0 ss len → 0 < count → place + count < 2 ^ 64 → AreFrom 0 ts (len + count)
from-added ss ts len count place a all some fits = elim a [
  | inl g ↦ subst (λ xs. AreFrom 0 xs (len + count)) (sym g.1) (from-grow ss len count place g.0 all fits)
  | inr e ↦ subst (λ xs. AreFrom 0 xs (len + count)) (sym e) (from-more ss len count place all some fits)
]
