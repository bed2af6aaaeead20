-- A text, letter by letter.
use Rattle.std.proofs.Common.{ℕ, suc, Bool, true, false, ◌&&◌, ◌≡◌, ◌<◌, List, [], ◌∷◌, ◌++◌, length, take, drop, get_or, ◌+◌, sym, ap, ◌∙◌, add-one, drop-cons, take-append-drop, refl}
use Rattle.std.specs.List.{list_all}

-- a list is what was taken, the next item, and the rest
pub turned : (xs all : List ℕ) (c : ℕ) → xs ≡ take (length xs) all → length xs < length all → c ≡ get_or all (length xs) c
    → all ≡ xs ++ (c ∷ drop (length xs + 1) all)
turned xs all c front within item =
    let n = length xs in
    let back : drop n all ≡ c ∷ drop (n + 1) all = rw (add-one, drop-cons all n c) (ap (λ x. x ∷ drop (suc n) all) (sym item)) in
    sym (take-append-drop n all) ∙ ap (λ t. t ++ drop n all) (sym front) ∙ ap (λ t. xs ++ t) back

none : (b : Bool) → (b && false) ≡ false
none true = refl
none false = refl

pub all-broken : (p : ℕ → Bool) (xs ys : List ℕ) (c : ℕ) → p c ≡ false → list_all p (xs ++ (c ∷ ys)) ≡ false
all-broken p [] ys c e = ap (λ b. b && list_all p ys) e
all-broken p (x ∷ xs) ys c e = ap (λ b. p x && b) (all-broken p xs ys c e) ∙ none (p x)
