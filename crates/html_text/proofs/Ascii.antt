-- ASCII at the end of a text.
use Rattle.std.proofs.Common.{◌≡◌, ℕ, zero, suc, ◌+◌, ◌≤◌, List, [], ◌∷◌, ◌++◌, length, take, drop, Result, Ok, Err, OnOk, if◌then◌else◌, is_ok, refl, sym, ap, ◌∙◌, append_assoc, arith}
use Rattle.std.proofs.lemmas.List.{length-append, length-drop}
use Rattle.std.specs.Str.{IsAscii, chars, IsUtf8}
use Rattle.std.proofs.lemmas.Str.{chars-IsAscii, chars-append}

pub chars-ascii : {E X : Type 0} (r : Result X E) (bytes new ascii : List ℕ) → IsUtf8 bytes → IsAscii ascii → new ≡ (if is_ok r then bytes ++ ascii else bytes) → OnOk r (chars new ≡ chars bytes ++ ascii)
chars-ascii (Ok x) bytes new ascii u h e = ap chars e ∙ chars-append bytes ascii u ∙ ap (λ v. chars bytes ++ v) (chars-IsAscii ascii h)
chars-ascii (Err x) bytes new ascii u h e = tt

-- what was copied, and then a front of the rest
take-none : (n : ℕ) → take {A = ℕ} n [] ≡ []
take-none zero = refl
take-none (suc n) = refl

take-both : (d n : ℕ) (xs : List ℕ) → take d xs ++ take n (drop d xs) ≡ take (d + n) xs
take-both zero n xs = ap (λ m. take m xs) (let e : n ≡ 0 + n = omega arith in e)
take-both (suc d) n [] = take-none n ∙ sym (take-none (suc d + n))
take-both (suc d) n (x ∷ xs) = ap (λ v. x ∷ v) (take-both d n xs) ∙ ap (λ m. take m (x ∷ xs)) (let e : suc (d + n) ≡ suc d + n = omega arith in e)

module _ (run piece : List ℕ) (d n : ℕ) (e : piece ≡ drop d run) where
  pub copied-within : d ≤ length run → n ≤ length piece → d + n ≤ length run
  copied-within a b = (let l = ap length e in let k = length-drop d run in omega (arith, a, b, l, k))

  pub copied-more : (old now new : List ℕ) → now ≡ old ++ take d run → new ≡ now ++ take n piece → new ≡ old ++ take (d + n) run
  copied-more old now new a b =
      b ∙ ap (λ v. v ++ take n piece) a ∙ append_assoc old (take d run) (take n piece) ∙ ap (λ v. old ++ v) (ap (λ v. take d run ++ take n v) e ∙ take-both d n run)

-- the front of a text that grew
take-shorter : (n m : ℕ) (xs : List ℕ) → n ≤ m → take n (take m xs) ≡ take n xs
take-shorter zero m xs h = refl
take-shorter (suc n) zero xs h = absurd (omega arith)
take-shorter (suc n) (suc m) [] h = refl
take-shorter (suc n) (suc m) (x ∷ xs) h = ap (λ v. x ∷ v) (take-shorter n m xs (omega arith))

pub front-kept : (old now new : List ℕ) → length old ≤ length now → take (length old) now ≡ old → take (length now) new ≡ now → take (length old) new ≡ old
front-kept old now new l a b = sym (take-shorter (length old) (length now) new l) ∙ ap (take (length old)) b ∙ a

pub take-self : (xs : List ℕ) → take (length xs) xs ≡ xs
take-self [] = refl
take-self (x ∷ xs) = ap (λ v. x ∷ v) (take-self xs)

pub front-added : (xs ys : List ℕ) → take (length xs) (xs ++ ys) ≡ xs
front-added [] ys = refl
front-added (x ∷ xs) ys = ap (λ v. x ∷ v) (front-added xs ys)

-- what a call leaves that adds bytes, or none
module _ {E X : Type 0} (r : Result X E) (old new piece : List ℕ) (e : new ≡ (if is_ok r then old ++ piece else old)) where
  pub added-longer : length old ≤ length new
  added-longer = by r e
    where
      by : (s : Result X E) → new ≡ (if is_ok s then old ++ piece else old) → length old ≤ length new
      by (Ok x) f = (let a = ap length f in let b = length-append old piece in omega (arith, a, b))
      by (Err x) f = (let a = ap length f in omega (arith, a))

  pub added-front : take (length old) new ≡ old
  added-front = by r e
    where
      by : (s : Result X E) → new ≡ (if is_ok s then old ++ piece else old) → take (length old) new ≡ old
      by (Ok x) f = ap (take (length old)) f ∙ front-added old piece
      by (Err x) f = ap (take (length old)) f ∙ take-self old
