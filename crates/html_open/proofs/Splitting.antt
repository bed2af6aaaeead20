-- The stack round a formatting element and the first special element after it, by their indices.
use Rattle.std.proofs.Common.{◌≡◌, ℕ, zero, suc, ◌+◌, ◌-◌, ◌<◌, true, List, [], ◌∷◌, ◌++◌, length, take, drop, get_or, refl, sym, ◌∙◌, ap, arith}
use Rattle.std.proofs.Math.Seq.{drop-cons}
use Rattle.std.proofs.lemmas.List.{drop-take, take-append-drop, take_more}
use Rattle.html_arena.specs.Siblings.{has}
use Rattle.html_open.proofs.Ordering.{has-right}
use Rattle.html_open.proofs.Upwards.{has-first}

drop-more : (n m : ℕ) (xs : List ℕ) → drop m (drop n xs) ≡ drop (n + m) xs
drop-more zero m xs = ap (λ (i : ℕ). drop i xs) (let e : m ≡ 0 + m = omega arith in e)
drop-more (suc n) m [] = nil m ∙ sym (nil (suc n + m))
  where
    nil : (i : ℕ) → drop {A = ℕ} i [] ≡ []
    nil zero = refl
    nil (suc i) = refl
drop-more (suc n) m (x ∷ xs) = drop-more n m xs ∙ ap (λ (i : ℕ). drop i (x ∷ xs)) (let e : suc (n + m) ≡ suc n + m = omega arith in e)

module _ (s : List ℕ) (at b : ℕ) (lt : at < b) (within : b < length s) where
  next : (i : ℕ) → i < length s → drop i s ≡ get_or s i 0 ∷ drop (i + 1) s
  next i h = drop-cons s i 0 h ∙ ap (λ (j : ℕ). get_or s i 0 ∷ drop j s) (let e : suc i ≡ i + 1 = omega arith in e)

  middle : drop (at + 1) s ≡ take (b - (at + 1)) (drop (at + 1) s) ++ (get_or s b 0 ∷ drop (b + 1) s)
  middle =
      sym (take-append-drop (b - (at + 1)) (drop (at + 1) s))
      ∙ ap (λ ys. take (b - (at + 1)) (drop (at + 1) s) ++ ys)
      (drop-more (at + 1) (b - (at + 1)) s ∙ ap (λ (i : ℕ). drop i s) (let e : (at + 1) + (b - (at + 1)) ≡ b = omega arith in e) ∙ next b within)

  pub split : s ≡ take at s ++ (get_or s at 0 ∷ (take (b - (at + 1)) (drop (at + 1) s) ++ (get_or s b 0 ∷ drop (b + 1) s)))
  split = sym (take-append-drop at s) ∙ ap (λ ys. take at s ++ ys) (next at (omega arith) ∙ ap (λ ys. get_or s at 0 ∷ ys) middle)

  pub rest-of : drop at s ≡ get_or s at 0 ∷ (take (b - (at + 1)) (drop (at + 1) s) ++ (get_or s b 0 ∷ drop (b + 1) s))
  rest-of = next at (omega arith) ∙ ap (λ ys. get_or s at 0 ∷ ys) middle

  pub left-is : take (b - at) (drop at s) ≡ get_or s at 0 ∷ take (b - (at + 1)) (drop (at + 1) s)
  left-is =
      ap (take (b - at)) (next at (omega arith)) ∙ ap (λ (i : ℕ). take i (get_or s at 0 ∷ drop (at + 1) s)) (let e : b - at ≡ suc (b - (at + 1)) = omega arith in e)

  pub front-is : 0 < at → take at s ≡ take (at - 1) s ++ get_or s (at - 1) 0 ∷ []
  front-is pos = ap (λ (i : ℕ). take i s) (let e : at ≡ (at - 1) + 1 = omega arith in e) ∙ take_more s (at - 1) 0 (omega arith)

  pub before-in : 0 < at → has (get_or s (at - 1) 0) (take at s) ≡ true
  before-in pos = ap (has (get_or s (at - 1) 0)) (front-is pos) ∙ has-right (get_or s (at - 1) 0) (take (at - 1) s) (get_or s (at - 1) 0 ∷ []) (has-first (get_or s (at - 1) 0) [])

  -- the elements between, read from the other end
  pub between : drop (at + 1) (take b s) ≡ take (b - (at + 1)) (drop (at + 1) s)
  between = ap (λ (i : ℕ). drop (at + 1) (take i s)) (let e : b ≡ (at + 1) + (b - (at + 1)) = omega arith in e) ∙ drop-take (at + 1) (b - (at + 1)) s
