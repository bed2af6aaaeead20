-- The identifiers of a doctype, by their bytes and by their code points.
use lib.Utf8.{encode, scalars}
use Rattle.std.proofs.Common.{ℕ, ◌≡◌, ◌==◌, ◌&&◌, ◌||◌, ◌++◌, ◌+◌, ◌/◌, ◌%◌, ◌<◌, ◌≤◌, Bool, true, false, List, [], ◌∷◌, length, take, refl, sym, ap, ◌∙◌, inl, inr, arith}
use Rattle.std.proofs.lemmas.Bool.{cases_lt}
use Rattle.std.proofs.lemmas.Bool.Decides.{nat_tests}
use Rattle.std.proofs.lemmas.List.{length-map, take-map}
use Rattle.std.proofs.lemmas.Slice.Eq.{bytes_eq-Decides}
use Rattle.std.proofs.lemmas.Str.{chars-encodes, encode_ascii, encodes-chars}
use Rattle.std.proofs.lemmas.Str.Ascii.{lowercase_is}
use Rattle.std.specs.Prelude.{codes, nat_lt}
use Rattle.std.specs.Char.{to_ascii_lowercase}
use Rattle.std.specs.List.{list_any}
use Rattle.std.specs.Str.{IsUtf8, bytes_eq, chars, encode_utf8_all}
use Rattle.html_names.specs.Foreign.{is_lowered, lowered}
use Rattle.html_names.specs.Names.{begins_with}
use Rattle.html_names.proofs.Adjusted.{same_text}
use Rattle.html_names.proofs.Cases.{and_first, and_rest, cases_bool}
use Rattle.html_names.proofs.Known.{encodes-ascii, is_ascii}
use Rattle.html_names.proofs.Locals.{is_lowered-chars}
use Rattle.html_construction.specs.Quirks.{is_quirky_public_id, is_set_to, public_fronts, public_fronts_alone, public_ids, quirky_system_id, starts_with}

-- the first byte of a code point that is none of ASCII
record IsHigh (bs : List ℕ) : Type 0 where
  first : ℕ
  rest : List ℕ
  split : bs ≡ first ∷ rest
  high : 128 ≤ first

low-test : (c : ℕ) → 128 ≤ c → nat_lt c 128 ≡ false
low-test c h = grind (arith, nat_tests)

high-first : (c : ℕ) → 128 ≤ c → IsHigh (encode c)
unfolding lib.Utf8.encode
high-first c h = rw (low-test c h) (elim (cases_bool (nat_lt c 2048)) [
  | inl e ↦ rw e (record { first = 192 + c / 64; rest = (128 + c % 64) ∷ []; split = refl; high = omega arith })
  | inr e ↦ rw e (elim (cases_bool (nat_lt c 65536)) [
    | inl f ↦ rw f (record { first = 224 + c / 4096; rest = (128 + c / 64 % 64) ∷ (128 + c % 64) ∷ []; split = refl; high = omega arith })
    | inr f ↦ rw f (record { first = 240 + c / 262144; rest = (128 + c / 4096 % 64) ∷ (128 + c / 64 % 64) ∷ (128 + c % 64) ∷ []; split = refl; high = omega arith })
  ])
])

unlike : (x c : ℕ) → x < 128 → 128 ≤ c → (x == to_ascii_lowercase c) ≡ false
unlike x c l h = rw ((lowercase_is c).2 (omega (arith, h))) (differs x c (omega (arith, l, h)))
  where
    differs : (x c : ℕ) → x < c → (x == c) ≡ false
    differs x c h = grind (arith, nat_tests)

no-first : (a b : Bool) → a ≡ false → (a && b) ≡ false
no-first a b e = rw e refl

below : (c : ℕ) → nat_lt c 128 ≡ true → c < 128
below c h = grind (arith, nat_tests)

-- a text begins with small letters of ASCII where its code points do
begins-bytes : (p cs : List ℕ) → is_ascii p ≡ true → begins_with p (lowered (encode_utf8_all cs)) ≡ begins_with p (lowered cs)
begins-bytes [] cs h = refl
begins-bytes (x ∷ xs) [] h = refl
begins-bytes (x ∷ xs) (c ∷ cs) h = elim (cases_lt c 128) [
  | inl l ↦
      ap (λ bs. begins_with (x ∷ xs) (lowered (bs ++ encode_utf8_all cs))) (encode_ascii c l)
      ∙ ap (λ b. (x == to_ascii_lowercase c) && b) (begins-bytes xs cs (and_rest _ _ h))
  | inr g ↦
      let f = high-first c g in
      let x-low : x < 128 = below x (and_first _ _ h) in
      ap (λ bs. begins_with (x ∷ xs) (lowered (bs ++ encode_utf8_all cs))) f.split
      ∙ no-first (x == to_ascii_lowercase f.first) (begins_with xs (lowered (f.rest ++ encode_utf8_all cs))) (unlike x f.first x-low f.high)
      ∙ sym (no-first (x == to_ascii_lowercase c) (begins_with xs (lowered cs)) (unlike x c x-low g))
]

front-chars : (id front : List ℕ) → IsUtf8 id → is_ascii (lowered front) ≡ true → starts_with id front ≡ starts_with (chars id) front
front-chars id front u h = ap (λ b. begins_with (lowered front) (lowered b)) (sym (encodes-chars id u)) ∙ begins-bytes (lowered front) (chars id) h

-- a text of ASCII
abbrev is_text : List ℕ → Bool
is_text p = is_ascii p && scalars p

id-chars : (id other : List ℕ) → IsUtf8 id → is_text (lowered other) ≡ true → is_set_to id other ≡ is_set_to (chars id) other
id-chars id other u h =
    let own : encode_utf8_all (lowered other) ≡ lowered other = encodes-ascii (lowered other) (and_first _ _ h) in
    is_lowered-chars id (lowered other) u (lowered other, (and_rest _ _ h, own))
    ∙ ap (is_lowered (chars id)) (ap chars (sym own) ∙ chars-encodes (lowered other) (and_rest _ _ h))

-- of lists
abbrev AreTexts : List (List ℕ) → Type 0
AreTexts [] = Unit {0}
AreTexts (n ∷ ns) = (is_text (lowered n) ≡ true) × AreTexts ns

ids-chars : (id : List ℕ) (ns : List (List ℕ)) → IsUtf8 id → AreTexts ns → list_any (λ it. is_set_to id it) ns ≡ list_any (λ it. is_set_to (chars id) it) ns
ids-chars id [] u a = refl
ids-chars id (n ∷ ns) u a = ap (λ b. b || list_any (λ it. is_set_to id it) ns) (id-chars id n u a.0) ∙ ap (λ b. is_set_to (chars id) n || b) (ids-chars id ns u a.1)

fronts-chars : (id : List ℕ) (ns : List (List ℕ)) → IsUtf8 id → AreTexts ns → list_any (λ it. starts_with id it) ns ≡ list_any (λ it. starts_with (chars id) it) ns
fronts-chars id [] u a = refl
fronts-chars id (n ∷ ns) u a =
    ap (λ b. b || list_any (λ it. starts_with id it) ns) (front-chars id n u (and_first _ _ a.0)) ∙ ap (λ b. starts_with (chars id) n || b) (fronts-chars id ns u a.1)

pub quirky-public : (id text : List ℕ) (x alone : Bool) → IsUtf8 id → chars id ≡ text → x ≡ is_quirky_public_id id alone → x ≡ is_quirky_public_id text alone
quirky-public id text x alone u e h =
    h ∙ all-three _ _ _ _ _ _ (ids-chars id public_ids u (refl, (refl, (refl, tt)))) (fronts-chars id public_fronts u (refl, (refl, (refl, (refl, tt)))))
    (fronts-chars id public_fronts_alone u (refl, (refl, tt)))
    ∙ ap (λ c. is_quirky_public_id c alone) e
  where
    all-three : (a b c d f g : Bool) → a ≡ d → b ≡ f → c ≡ g → (a || (b || (alone && c))) ≡ (d || (f || (alone && g)))
    all-three a b c d f g k l m = rw (k, l, m) refl

pub html-name : (name text : List ℕ) (x : Bool) → IsUtf8 name → chars name ≡ text → x ≡ bytes_eq name (codes "html") → x ≡ bytes_eq text (codes "html")
html-name name text x u e h = h ∙ same_text (codes "html") name refl u ∙ ap (λ c. bytes_eq c (codes "html")) e

pub system-id : (id text : List ℕ) (x : Bool) → IsUtf8 id → chars id ≡ text → x ≡ is_set_to id quirky_system_id → x ≡ is_set_to text quirky_system_id
system-id id text x u e h = h ∙ id-chars id quirky_system_id u refl ∙ ap (λ c. is_set_to c quirky_system_id) e

-- a text begins with another where its front is that one
turned : (c d : ℕ) → (c == d) ≡ (d == c)
turned c d = grind (arith, nat_tests)

begins-taken : (p xs : List ℕ) → begins_with p xs ≡ bytes_eq (take (length p) xs) p
begins-taken [] xs = refl
begins-taken (c ∷ cs) [] = refl
begins-taken (c ∷ cs) (d ∷ ds) = ap (λ b. (c == d) && b) (begins-taken cs ds) ∙ ap (λ b. b && bytes_eq (take (length cs) ds) cs) (turned c d)

short : (p xs : List ℕ) → length xs < length p → begins_with p xs ≡ false
short [] xs h = absurd (omega (arith, h))
short (c ∷ cs) [] h = refl
short (c ∷ cs) (d ∷ ds) h = rw (short cs ds (omega (arith, h))) (never (c == d))
  where
    never : (b : Bool) → (b && false) ≡ false
    never true = refl
    never false = refl

pub starts-short : (id front : List ℕ) → length id < length front → starts_with id front ≡ false
starts-short id front h = short (lowered front) (lowered id) (omega (arith, h, length-map id to_ascii_lowercase, length-map front to_ascii_lowercase))

pub starts-taken : (id front : List ℕ) (x : Bool) → (x ≡ true → lowered (take (length front) id) ≡ lowered front) → (lowered (take (length front) id) ≡ lowered front → x ≡ true) → x ≡ starts_with id front
starts-taken id front x f g =
    let same : starts_with id front ≡ bytes_eq (lowered (take (length front) id)) (lowered front)
    = begins-taken (lowered front) (lowered id)
    ∙ ap (λ n. bytes_eq (take n (lowered id)) (lowered front)) (length-map front to_ascii_lowercase)
    ∙ ap (λ t. bytes_eq t (lowered front)) (take-map to_ascii_lowercase (length front) id) in
    elim (cases_bool x) [
      | inl e ↦ e ∙ sym (same ∙ (bytes_eq-Decides (lowered (take (length front) id)) (lowered front)).1 (f e))
      | inr e ↦ elim (cases_bool (bytes_eq (lowered (take (length front) id)) (lowered front))) [
        | inl k ↦ g ((bytes_eq-Decides (lowered (take (length front) id)) (lowered front)).0 k) ∙ sym (same ∙ k)
        | inr k ↦ e ∙ sym (same ∙ k)
      ]
    ]
