-- Characters, one after another.
use Rattle.std.proofs.Common.{◌≡◌, ◌≢◌, ℕ, ◌+◌, ◌/◌, ◌%◌, ◌<◌, ◌≤◌, ◌*◌, ◌-◌, List, [], ◌∷◌, ◌++◌, take, drop, sym, ap, subst, ◌∙◌, arith, true, false, take-add, append-nil, chars}
use Rattle.std.specs.Char.{IsScalar, encode_utf8}
use Rattle.std.specs.Str.{IsUtf8}
use Rattle.std.specs.Prelude.{nat_lt, Option, Some, None, IfSome, SomeIff}
use Rattle.std.proofs.Math.Utf8.{encode}
use Rattle.std.proofs.lemmas.Bool.{cond-false, cond-true}
use Rattle.std.proofs.lemmas.Bool.Decides.{nat_tests}
use Rattle.std.proofs.lemmas.List.Elements.{All-append, All-cons, All-nil}
use Rattle.std.proofs.lemmas.Str.{IsUtf8-append, IsUtf8-encode, chars-append, chars-nil, chars_past_char}
use Rattle.html_input.specs.Plain.{IsFree}
use Rattle.html_input.specs.WellFormed.{BeginsWith, IsChar}

below : (c n : ℕ) → c < n → nat_lt c n ≡ true
below c n h = grind (arith, nat_tests)

not-below : (c n : ℕ) → n ≤ c → nat_lt c n ≡ false
not-below c n h = grind (arith, nat_tests)

two : (c : ℕ) → 128 ≤ c → c < 2048 → encode_utf8 c ≡ (192 + c / 64) ∷ (128 + c % 64) ∷ []
unfolding encode
two c l h = cond-false _ _ _ (not-below c 128 l) ∙ cond-true _ _ _ (below c 2048 h)

three : (c : ℕ) → 2048 ≤ c → c < 65536 → encode_utf8 c ≡ (224 + c / 4096) ∷ (128 + c / 64 % 64) ∷ (128 + c % 64) ∷ []
unfolding encode
three c l h = cond-false _ _ _ (not-below c 128 (omega arith)) ∙ cond-false _ _ _ (not-below c 2048 l) ∙ cond-true _ _ _ (below c 65536 h)

pub char-one : (c : ℕ) → c < 128 → c ≢ 13 → IsScalar c → IsChar c (c ∷ [])
unfolding encode
char-one c h o s = record { scalar = s; other = o; spelt = cond-true _ _ _ (below c 128 h) }

four : (c : ℕ) → 65536 ≤ c → encode_utf8 c ≡ (240 + c / 262144) ∷ (128 + c / 4096 % 64) ∷ (128 + c / 64 % 64) ∷ (128 + c % 64) ∷ []
unfolding encode
four c l = cond-false _ _ _ (not-below c 128 (omega arith)) ∙ cond-false _ _ _ (not-below c 2048 (omega arith)) ∙ cond-false _ _ _ (not-below c 65536 l)

pub char-two : (x y c : ℕ) → 194 ≤ x → x < 224 → 128 ≤ y → y < 192 → c ≡ (x - 192) * 64 + (y - 128) → IsScalar c → IsChar c (x ∷ y ∷ [])
char-two x y c l h m k e s =
    let p : 192 + c / 64 ≡ x = omega arith in
    let q : 128 + c % 64 ≡ y = omega arith in
    record { scalar = s; other = λ is. omega (arith, is); spelt = two c (omega arith) (omega arith) ∙ ap (λ a. a ∷ (128 + c % 64) ∷ []) p ∙ ap (λ b. x ∷ b ∷ []) q }

pub char-three : (x y z c : ℕ) → 224 ≤ x → x < 240 → 128 ≤ y → y < 192 → 128 ≤ z → z < 192 → 2048 ≤ c → c ≡ (x - 224) * 4096 + (y - 128) * 64 + (z - 128) → IsScalar c
    → IsChar c (x ∷ y ∷ z ∷ [])
char-three x y z c l h m k n j b e s =
    let p : 224 + c / 4096 ≡ x = omega arith in
    let q : 128 + c / 64 % 64 ≡ y = omega arith in
    let r : 128 + c % 64 ≡ z = omega arith in
    record {
      scalar = s;
      other = λ is. omega (arith, is);
      spelt = three c b (omega arith) ∙ ap (λ a. a ∷ (128 + c / 64 % 64) ∷ (128 + c % 64) ∷ []) p ∙ ap (λ a. x ∷ a ∷ (128 + c % 64) ∷ []) q ∙ ap (λ a. x ∷ y ∷ a ∷ []) r;
    }

pub char-four : (w x y z c : ℕ) → 240 ≤ w → 128 ≤ x → x < 192 → 128 ≤ y → y < 192 → 128 ≤ z → z < 192 → 65536 ≤ c
    → c ≡ ((w - 240) * 64 + (x - 128)) * 4096 + (y - 128) * 64 + (z - 128) → IsScalar c → IsChar c (w ∷ x ∷ y ∷ z ∷ [])
char-four w x y z c g m k n j o i b e s =
    let a : 240 + c / 262144 ≡ w = omega arith in
    let p : 128 + c / 4096 % 64 ≡ x = omega arith in
    let q : 128 + c / 64 % 64 ≡ y = omega arith in
    let r : 128 + c % 64 ≡ z = omega arith in
    record {
      scalar = s;
      other = λ is. omega (arith, is);
      spelt = four c b ∙ ap (λ v. v ∷ (128 + c / 4096 % 64) ∷ (128 + c / 64 % 64) ∷ (128 + c % 64) ∷ []) a ∙ ap (λ a. w ∷ a ∷ (128 + c / 64 % 64) ∷ (128 + c % 64) ∷ []) p
          ∙ ap (λ a. w ∷ x ∷ a ∷ (128 + c % 64) ∷ []) q ∙ ap (λ a. w ∷ x ∷ y ∷ a ∷ []) r;
    }

-- the characters of a front, and one more
pub record IsFront (n : ℕ) (bytes cs : List ℕ) : Type 0 where
  pub utf8 : IsUtf8 (take n bytes)
  pub read : chars (take n bytes) ≡ cs
  pub free : IsFree cs

pub front-none : (bytes : List ℕ) → IsUtf8 [] → IsFront 0 bytes []
front-none bytes u = record { utf8 = u; read = chars-nil; free = All-nil (λ c. c ≢ 13) }

chars-one : (c : ℕ) → IsScalar c → chars (encode_utf8 c) ≡ c ∷ []
chars-one c s = chars_past_char (encode_utf8 c) [] c (IsUtf8-encode c s) (sym (append-nil (encode_utf8 c))) ∙ ap (λ t. c ∷ t) chars-nil

pub front-more : (n k c : ℕ) (bytes cs : List ℕ) → IsFront n bytes cs → BeginsWith (drop n bytes) c k → IsFront (n + k) bytes (cs ++ c ∷ [])
front-more n k c bytes cs f w =
    let e : take (n + k) bytes ≡ take n bytes ++ encode_utf8 c = take-add n k bytes ∙ ap (λ t. take n bytes ++ t) (sym w.is.spelt) in
    record {
      utf8 = subst IsUtf8 (sym e) (IsUtf8-append (take n bytes) (encode_utf8 c) f.utf8 (IsUtf8-encode c w.is.scalar));
      read = ap chars e ∙ chars-append (take n bytes) (encode_utf8 c) f.utf8 ∙ ap (λ t. t ++ chars (encode_utf8 c)) f.read ∙ ap (λ t. cs ++ t) (chars-one c w.is.scalar);
      free = All-append (λ c. c ≢ 13) cs (c ∷ []) f.free (All-cons (λ c. c ≢ 13) c [] w.is.other (All-nil (λ c. c ≢ 13)));
    }

-- what is made of bytes by their numbers is such a character
pub found-two : (r : Option ℕ) (x y k : ℕ) → SomeIff r (IsScalar k) k → 194 ≤ x → x < 224 → 128 ≤ y → y < 192 → k ≡ (x - 192) * 64 + (y - 128) → IfSome r (λ c. IsChar c (x ∷ y ∷ []))
found-two None x y k i l h m n e = tt
found-two (Some c) x y k i l h m n e = subst (λ v. IsChar v (x ∷ y ∷ [])) (sym i.1) (char-two x y k l h m n e i.0)

pub found-three : (r : Option ℕ) (x y z k : ℕ) → SomeIff r (IsScalar k) k → 224 ≤ x → x < 240 → 128 ≤ y → y < 192 → 128 ≤ z → z < 192 → 2048 ≤ k → k ≡ (x - 224) * 4096 + (y - 128) * 64 + (z - 128)
    → IfSome r (λ c. IsChar c (x ∷ y ∷ z ∷ []))
found-three None x y z k i l h m n o p b e = tt
found-three (Some c) x y z k i l h m n o p b e = subst (λ v. IsChar v (x ∷ y ∷ z ∷ [])) (sym i.1) (char-three x y z k l h m n o p b e i.0)

pub found-four : (r : Option ℕ) (w x y z k : ℕ) → SomeIff r (IsScalar k) k → 240 ≤ w → 128 ≤ x → x < 192 → 128 ≤ y → y < 192 → 128 ≤ z → z < 192 → 65536 ≤ k
    → k ≡ ((w - 240) * 64 + (x - 128)) * 4096 + (y - 128) * 64 + (z - 128) → IfSome r (λ c. IsChar c (w ∷ x ∷ y ∷ z ∷ []))
found-four None w x y z k i g l h m n o p b e = tt
found-four (Some c) w x y z k i g l h m n o p b e = subst (λ v. IsChar v (w ∷ x ∷ y ∷ z ∷ [])) (sym i.1) (char-four w x y z k g l h m n o p b e i.0)
