-- Texts by their bytes and by their code points.
use Rattle.std.proofs.Common.{◌≡◌, Result, Ok, Err, OnOk, if◌then◌else◌, is_ok, ℕ, List, [], ◌∷◌, ◌++◌, refl, sym, ◌∙◌, ap, append-nil, length, ◌==◌, arith}
use Rattle.std.specs.Str.{IsUtf8, bytes_eq, chars, encode_utf8_all}
use Rattle.std.specs.Bool.{Decides}
use Rattle.std.specs.Char.{encode_utf8, IsScalar}
use Rattle.std.proofs.lemmas.Bool.Decides.{Decides-eqb, same_from_decides}
use Rattle.std.proofs.lemmas.Slice.Eq.{bytes_eq-Decides}
use Rattle.std.proofs.lemmas.Str.{IsUtf8-encode, chars-append, chars-nil, chars_past_char, encodes-chars}

chars_one : (c : ℕ) → IsScalar c → chars (encode_utf8 c) ≡ c ∷ []
chars_one c h = chars_past_char (encode_utf8 c) [] c (IsUtf8-encode c h) (sym (append-nil (encode_utf8 c))) ∙ ap (λ (t : List ℕ). c ∷ t) chars-nil

-- one more code point
pub chars_push : (bytes : List ℕ) (c : ℕ) → IsUtf8 bytes → IsScalar c → chars (bytes ++ encode_utf8 c) ≡ chars bytes ++ c ∷ []
chars_push bytes c u h = chars-append bytes (encode_utf8 c) u ∙ ap (λ (t : List ℕ). chars bytes ++ t) (chars_one c h)

pub chars_pushed : {E X : Type 0} (r : Result X E) (bytes new : List ℕ) (c : ℕ) → IsUtf8 bytes → IsScalar c → new ≡ (if is_ok r then bytes ++ encode_utf8 c else bytes) → OnOk r (chars new ≡ chars bytes ++ c ∷ [])
chars_pushed (Ok x) bytes new c u h e = ap chars e ∙ chars_push bytes c u h
chars_pushed (Err x) bytes new c u h e = tt

-- a text is its code points
pub same_chars : (xs ys : List ℕ) → IsUtf8 xs → IsUtf8 ys → chars xs ≡ chars ys → xs ≡ ys
same_chars xs ys u v e = sym (encodes-chars xs u) ∙ ap encode_utf8_all e ∙ encodes-chars ys v

-- two texts are the same where their code points are
pub same_text : (xs ys : List ℕ) → IsUtf8 xs → IsUtf8 ys → bytes_eq xs ys ≡ bytes_eq (chars xs) (chars ys)
same_text xs ys u v =
    let d = bytes_eq-Decides xs ys in
    let e = bytes_eq-Decides (chars xs) (chars ys) in
    same_from_decides (bytes_eq xs ys) (bytes_eq (chars xs) (chars ys)) (d.0, d.1) (λ h. same_chars xs ys u v (e.0 h), λ h. e.1 (ap chars h))

no_chars : (bytes : List ℕ) → IsUtf8 bytes → chars bytes ≡ [] → bytes ≡ []
no_chars bytes u e = sym (encodes-chars bytes u) ∙ ap encode_utf8_all e

-- a text without bytes is one without code points
pub empty_text : (bytes : List ℕ) → IsUtf8 bytes → Decides (length bytes == 0) (chars bytes ≡ [])
empty_text [] u = (λ h. chars-nil, λ h. refl)
empty_text (b ∷ bs) u = (
  λ h. absurd (let e : length (b ∷ bs) ≡ 0 = (Decides-eqb (length (b ∷ bs)) 0).0 h in omega arith),
  λ h. absurd (let e : b ∷ bs ≡ [] = no_chars (b ∷ bs) u h in cc),
)
