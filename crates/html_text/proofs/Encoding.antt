-- Code points written as UTF-8, one after another.
use Rattle.std.proofs.Common.{◌≡◌, ℕ, ◌+◌, ◌/◌, ◌%◌, ◌<◌, ◌≤◌, List, [], ◌∷◌, ◌++◌, take, Result, Ok, Err, OnOk, if◌then◌else◌, is_ok, sym, ap, subst, ◌∙◌, append_assoc, arith, true, false}
use Rattle.std.specs.Char.{IsScalar, encode_utf8}
use Rattle.std.specs.Str.{IsAscii, IsUtf8, chars}
use Rattle.std.proofs.lemmas.Str.{IsUtf8-append, IsUtf8-encode, IsUtf8-from_ascii, chars-IsAscii, chars-append}
use Rattle.std.proofs.lemmas.Bool.{cond-false, cond-true}
use Rattle.std.proofs.lemmas.Bool.Decides.{nat_tests}
use Rattle.std.proofs.Math.Utf8.{encode}
use Rattle.std.specs.Prelude.{nat_lt}
use Rattle.html_text.proofs.Texts.{chars_push}

-- the bytes of a code point that is not ASCII
below : (c n : ℕ) → c < n → nat_lt c n ≡ true
below c n h = grind (arith, nat_tests)

not-below : (c n : ℕ) → n ≤ c → nat_lt c n ≡ false
not-below c n h = grind (arith, nat_tests)

pub two : (c : ℕ) → 128 ≤ c → c < 2048 → encode_utf8 c ≡ (192 + c / 64) ∷ (128 + c % 64) ∷ []
unfolding encode
two c l h = cond-false _ _ _ (not-below c 128 l) ∙ cond-true _ _ _ (below c 2048 h)

pub three : (c : ℕ) → 2048 ≤ c → c < 65536 → encode_utf8 c ≡ (224 + c / 4096) ∷ (128 + c / 64 % 64) ∷ (128 + c % 64) ∷ []
unfolding encode
three c l h = cond-false _ _ _ (not-below c 128 (omega arith)) ∙ cond-false _ _ _ (not-below c 2048 l) ∙ cond-true _ _ _ (below c 65536 h)

pub four : (c : ℕ) → 65536 ≤ c → encode_utf8 c ≡ (240 + c / 262144) ∷ (128 + c / 4096 % 64) ∷ (128 + c / 64 % 64) ∷ (128 + c % 64) ∷ []
unfolding encode
four c l = cond-false _ _ _ (not-below c 128 (omega arith)) ∙ cond-false _ _ _ (not-below c 2048 (omega arith)) ∙ cond-false _ _ _ (not-below c 65536 l)

-- a byte behind others: n of them, of which those behind `front` are xs, and now m
pub one_more : (n m : ℕ) (old new front xs : List ℕ) (y : ℕ) → take n old ≡ front ++ xs → take (n + 1) new ≡ take n old ++ y ∷ [] → m ≡ n + 1 → take m new ≡ front ++ (xs ++ y ∷ [])
one_more n m old new front xs y before now next =
    ap (λ k. take k new) next ∙ now ∙ ap (λ v. v ++ y ∷ []) before ∙ append_assoc front xs (y ∷ [])

pub first_one : (n m : ℕ) (old new : List ℕ) (x : ℕ) → take (n + 1) new ≡ take n old ++ x ∷ [] → m ≡ n + 1 → take m new ≡ take n old ++ x ∷ []
first_one n m old new x now next = ap (λ k. take k new) next ∙ now

-- a code point behind others
module _ (bytes new cs more : List ℕ) (c : ℕ) (e : new ≡ bytes ++ encode_utf8 c) (u : IsUtf8 bytes) (s : IsScalar c) where
  pub utf8-more : IsUtf8 new
  utf8-more = subst IsUtf8 (sym e) (IsUtf8-append bytes (encode_utf8 c) u (IsUtf8-encode c s))

  pub read-more : chars bytes ≡ cs → more ≡ cs ++ c ∷ [] → chars new ≡ more
  read-more r m = ap chars e ∙ chars_push bytes c u s ∙ ap (λ v. v ++ c ∷ []) r ∙ sym m

-- ASCII is its own UTF-8
pub utf8-ascii : (new ascii : List ℕ) → IsAscii ascii → new ≡ ascii → IsUtf8 new
utf8-ascii new ascii a e = subst IsUtf8 (sym e) (IsUtf8-from_ascii ascii a)

pub read-ascii : (new ascii : List ℕ) → IsAscii ascii → new ≡ ascii → chars new ≡ ascii
read-ascii new ascii a e = ap chars e ∙ chars-IsAscii ascii a

-- UTF-8 at the end of a text
pub chars-added : {E X : Type 0} (r : Result X E) (bytes new piece : List ℕ) → IsUtf8 bytes → new ≡ (if is_ok r then bytes ++ piece else bytes) → OnOk r (chars new ≡ chars bytes ++ chars piece)
chars-added (Ok x) bytes new piece u e = ap chars e ∙ chars-append bytes piece u
chars-added (Err x) bytes new piece u e = tt
