use Rattle.std.proofs.Common.{◌≡◌, ℕ, List, [], ◌∷◌, ◌++◌, Result, Ok, Err, OnOk, is_ok, refl, ap, sym, append-nil, ◌∙◌, if◌then◌else◌, true}
use Rattle.std.specs.Str.{IsUtf8, chars}
use Rattle.std.specs.Char.{encode_utf8, IsScalar}
use Rattle.std.proofs.lemmas.Str.{chars-append, chars-nil, chars_past_char, IsUtf8-encode}
use Rattle.std.proofs.Common.{Bool, false, inl, inr}
use Rattle.std.specs.Str.{bytes_eq}
use Rattle.std.proofs.Math.Utf8.{encodes}
use Rattle.std.proofs.lemmas.Bool.{false≢true}
use Rattle.std.proofs.lemmas.Str.{encodes-chars}
use Rattle.std.proofs.lemmas.Slice.Eq.{bytes_eq-Decides}
use Rattle.html_charref.proofs.LongestLemmas.{bool_cases}

not_true : (b : Bool) → ¬ (b ≡ true) → b ≡ false
not_true true h = absurd (h refl)
not_true false h = refl

chars_one : (c : ℕ) → IsScalar c → chars (encode_utf8 c) ≡ c ∷ []
chars_one c h = chars_past_char (encode_utf8 c) [] c (IsUtf8-encode c h) (sym (append-nil (encode_utf8 c))) ∙ ap (λ (t : List ℕ). c ∷ t) chars-nil

pub chars_pushed : {E : Type 0} {X : Type 0} (r : Result X E) (bytes new : List ℕ) (c : ℕ) → IsUtf8 bytes → IsScalar c → new ≡ (if is_ok r then bytes ++ encode_utf8 c else bytes) → OnOk r (chars new ≡ chars bytes ++ c ∷ [])
chars_pushed (Ok x) bytes new c u h e = rw (e, chars-append bytes (encode_utf8 c) u, chars_one c h) refl
chars_pushed (Err x) bytes new c u h e = tt

-- two texts are the same where their code points are
pub same_text : (xs ys : List ℕ) → IsUtf8 xs → IsUtf8 ys → bytes_eq xs ys ≡ bytes_eq (chars xs) (chars ys)
same_text xs ys u v = elim (bool_cases (bytes_eq xs ys)) [
  | inl t ↦ t ∙ sym ((bytes_eq-Decides (chars xs) (chars ys)).1 (ap chars ((bytes_eq-Decides xs ys).0 t)))
  | inr f ↦ f ∙ sym (not_true (bytes_eq (chars xs) (chars ys)) (λ t. false≢true (sym f ∙ (bytes_eq-Decides xs ys).1 (sym (encodes-chars xs u) ∙ ap encodes ((bytes_eq-Decides (chars xs) (chars ys)).0 t) ∙ encodes-chars ys v))))
]
