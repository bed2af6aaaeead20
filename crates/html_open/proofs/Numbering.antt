-- The elements that a round clones, and the numbers of their clones.
use Rattle.std.proofs.Common.{◌≡◌, ◌≢◌, ℕ, zero, suc, ◌+◌, ◌-◌, ◌<◌, ◌≤◌, Bool, true, false, cond, eqb, nat_le, nat_lt, ◌&&◌, List, [], ◌∷◌, ◌++◌, length, drop, get_or, inl, inr, refl, sym, ◌∙◌, ap, subst, arith}
use Rattle.std.specs.Prelude.{filter, reverse}
use Rattle.std.proofs.lemmas.List.{length-drop, length-reverse}
use Rattle.std.proofs.lemmas.Grind.{reverse_onto}
use Rattle.html_arena.specs.Siblings.{has, Distinct}
use Rattle.html_arena.proofs.Siblings.{Distinct-insert}
use Rattle.html_open.specs.Adopting.{clone_number, clones_down, last_three, originals}
use Rattle.html_open.proofs.Finding.{has-drop}
use Rattle.html_open.proofs.Hangs.{ge-of, inside, le-false, lt-false, lt-of, lt-true, past}
use Rattle.html_open.proofs.Keeps.{cases_bool, cases_eqb, eqb-self, has-append}

-- what is filtered
pub has-filter : (p : ℕ → Bool) (x : ℕ) (xs : List ℕ) → has x (filter p xs) ≡ true → (has x xs ≡ true) × (p x ≡ true)
has-filter p x [] h = absurd (let k = h in cc)
has-filter p x (y ∷ ys) h = elim (cases_bool (p y)) [
  | inl e ↦ elim (cases_eqb x y) [
    | inl q ↦ (rw q.0 refl, subst (λ (z : ℕ). p z ≡ true) (sym q.1) e)
    | inr q ↦ (let k : has x (y ∷ filter p ys) ≡ true = rw e at h in let r = has-filter p x ys (rw q.0 at k) in (rw q.0 r.0, r.1))
  ]
  | inr e ↦ (let r = has-filter p x ys (rw e at h) in (elim (cases_eqb x y) [ inl q ↦ rw q.0 refl | inr q ↦ rw q.0 r.0 ], r.1))
]

none-filter : (p : ℕ → Bool) (x : ℕ) (xs : List ℕ) → has x xs ≡ false → has x (filter p xs) ≡ false
none-filter p x xs h = elim (cases_bool (has x (filter p xs))) [
  | inl e ↦ absurd (let k = (has-filter p x xs e).0 in cc)
  | inr e ↦ e
]

Distinct-filter : (p : ℕ → Bool) (xs : List ℕ) → Distinct xs → Distinct (filter p xs)
Distinct-filter p [] d = tt
Distinct-filter p (x ∷ xs) d = elim (cases_bool (p x)) [
  | inl e ↦ rw e (none-filter p x xs d.0, Distinct-filter p xs d.1)
  | inr e ↦ rw e (Distinct-filter p xs d.1)
]

Distinct-drop : (n : ℕ) (xs : List ℕ) → Distinct xs → Distinct (drop n xs)
Distinct-drop zero xs d = d
Distinct-drop (suc n) [] d = d
Distinct-drop (suc n) (x ∷ xs) d = Distinct-drop n xs d.1

reverse-cons : (x : ℕ) (xs : List ℕ) → reverse (x ∷ xs) ≡ reverse xs ++ x ∷ []
reverse-cons x xs = reverse_onto xs x []

pub has-reverse : (x : ℕ) (xs : List ℕ) → has x (reverse xs) ≡ has x xs
has-reverse x [] = refl
has-reverse x (y ∷ ys) = ap (has x) (reverse-cons y ys) ∙ has-append x (reverse ys) (y ∷ []) ∙ ap (λ b. cond b true (cond (eqb x y) true false)) (has-reverse x ys) ∙ plain (has x ys) (eqb x y)
  where
    plain : (a b : Bool) → cond a true (cond b true false) ≡ cond b true a
    plain true true = refl
    plain true false = refl
    plain false true = refl
    plain false false = refl

append-none : (xs : List ℕ) → xs ++ [] ≡ xs
append-none [] = refl
append-none (x ∷ xs) = ap (λ ys. x ∷ ys) (append-none xs)

Distinct-reverse : (xs : List ℕ) → Distinct xs → Distinct (reverse xs)
Distinct-reverse [] d = tt
Distinct-reverse (x ∷ xs) d =
    subst Distinct (sym (reverse-cons x xs)) (Distinct-insert x (reverse xs) [] (subst Distinct (sym (append-none (reverse xs))) (Distinct-reverse xs d.1))
    (ap (has x) (append-none (reverse xs)) ∙ has-reverse x xs ∙ d.0))

length-filter : (p : ℕ → Bool) (xs : List ℕ) → length (filter p xs) ≤ length xs
length-filter p [] = omega arith
length-filter p (x ∷ xs) = (let h = length-filter p xs in elim (cases_bool (p x)) [ inl e ↦ rw e (omega arith) | inr e ↦ rw e (omega arith) ])

module _ (p : ℕ → Bool) (inner : List ℕ) where
  pub originals-in : (x : ℕ) → has x (originals p inner) ≡ true → (has x inner ≡ true) × (p x ≡ true)
  originals-in x h =
      let r = has-filter p x (last_three inner) (sym (has-reverse x (filter p (last_three inner))) ∙ h) in
      (has-drop x (length inner - 3) inner r.0, r.1)

  pub originals-distinct : Distinct inner → Distinct (originals p inner)
  originals-distinct d = Distinct-reverse (filter p (last_three inner)) (Distinct-filter p (last_three inner) (Distinct-drop (length inner - 3) inner d))

  pub originals-few : length (originals p inner) ≤ 3
  originals-few =
      let a = length-reverse (filter p (last_three inner)) in
      let b = length-filter p (last_three inner) in
      let c = length-drop (length inner - 3) inner in
      omega (arith, a, b, c)

pub originals-less : (p : ℕ → Bool) (inner : List ℕ) → length (originals p inner) ≤ length inner
originals-less p inner =
    let a = length-reverse (filter p (last_three inner)) in
    let b = length-filter p (last_three inner) in
    let c = length-drop (length inner - 3) inner in
    omega (arith, a, b, c)

filter-same : (p q : ℕ → Bool) (xs : List ℕ) → ((x : ℕ) → p x ≡ q x) → filter p xs ≡ filter q xs
filter-same p q [] h = refl
filter-same p q (x ∷ xs) h = elim (cases_bool (q x)) [
  | inl e ↦ rw (h x, e) (ap (λ ys. x ∷ ys) (filter-same p q xs h))
  | inr e ↦ rw (h x, e) (filter-same p q xs h)
]

pub originals-same : (p q : ℕ → Bool) (inner : List ℕ) → ((x : ℕ) → p x ≡ q x) → originals p inner ≡ originals q inner
originals-same p q inner h = ap reverse (filter-same p q (last_three inner) h)

-- the number of a clone tells of which element it is one
pub clone-low : (n : ℕ) (cs : List ℕ) (x : ℕ) → n ≤ clone_number n cs x
clone-low n [] x = omega arith
clone-low n (y ∷ ys) x = (let h = clone-low (n + 1) ys x in elim (cases_eqb x y) [ inl q ↦ rw q.0 (omega arith) | inr q ↦ rw q.0 (omega arith) ])

pub clone-high : (n : ℕ) (cs : List ℕ) (x : ℕ) → has x cs ≡ true → clone_number n cs x < n + length cs
clone-high n [] x h = absurd (let k = h in cc)
clone-high n (y ∷ ys) x h = elim (cases_eqb x y) [
  | inl q ↦ rw q.0 (omega arith)
  | inr q ↦ (let k = clone-high (n + 1) ys x (rw q.0 at h) in rw q.0 (omega arith))
]

pub clone-back : (n : ℕ) (cs : List ℕ) (x : ℕ) → has x cs ≡ true → get_or cs (clone_number n cs x - n) 0 ≡ x
clone-back n [] x h = absurd (let k = h in cc)
clone-back n (y ∷ ys) x h = elim (cases_eqb x y) [
  | inl q ↦ (let e : n - n ≡ 0 = omega arith in rw (q.0, e) (sym q.1))
  | inr q ↦
      let k = clone-back (n + 1) ys x (rw q.0 at h) in
      let l = clone-low (n + 1) ys x in
      let e : clone_number (n + 1) ys x - n ≡ suc (clone_number (n + 1) ys x - (n + 1)) = omega arith in
      rw (q.0, e) k
]

pub has-get : (ys : List ℕ) (i : ℕ) → i < length ys → has (get_or ys i 0) ys ≡ true
has-get [] i h = absurd (omega arith)
has-get (y ∷ ys) zero h = rw (eqb-self y) refl
has-get (y ∷ ys) (suc i) h = (let r = has-get ys i (omega arith) in elim (cases_eqb (get_or ys i 0) y) [ inl q ↦ rw q.0 refl | inr q ↦ rw q.0 r ])

-- each of the elements has its own
pub at-once : (cs : List ℕ) → Distinct cs → (i j : ℕ) → i < length cs → j < length cs → get_or cs i 0 ≡ get_or cs j 0 → i ≡ j
at-once [] d i j a b e = absurd (omega arith)
at-once (x ∷ xs) d zero zero a b e = refl
at-once (x ∷ xs) d zero (suc j) a b e =
    absurd (let k = has-get xs j (omega arith) in let m = d.0 in let l : has x xs ≡ true = subst (λ (z : ℕ). has z xs ≡ true) (sym e) k in cc)
at-once (x ∷ xs) d (suc i) zero a b e =
    absurd (let k = has-get xs i (omega arith) in let m = d.0 in let l : has x xs ≡ true = subst (λ (z : ℕ). has z xs ≡ true) e k in cc)
at-once (x ∷ xs) d (suc i) (suc j) a b e = ap suc (at-once xs d.1 i j (omega arith) (omega arith) e)

-- the clones on the stack
pub has-down : (n c x : ℕ) → has x (clones_down n c) ≡ (nat_le n x && nat_lt x (n + c))
has-down n zero x = sym (elim (cases_bool (nat_lt x n)) [
  | inl e ↦ (let f = lt-of x n e in rw (le-false n x f) refl)
  | inr e ↦ (let f = ge-of x n e in let g : n + 0 ≤ x = omega arith in past n x x (n + 0) g)
])
has-down n (suc c) x = elim (cases_eqb x (n + c)) [
  | inl q ↦ (let r = q.1 in rw (q.0) (sym (inside n x x (n + suc c) (omega arith) (omega arith))))
  | inr q ↦ (let r = q.1 in rw q.0 (has-down n c x ∙ ap (λ b. nat_le n x && b) (next x r)))
]
  where
    next : (x : ℕ) → x ≢ n + c → nat_lt x (n + c) ≡ nat_lt x (n + suc c)
    next x r = elim (cases_bool (nat_lt x (n + c))) [
      | inl e ↦ (let f = lt-of x (n + c) e in rw e (sym (lt-true x (n + suc c) (omega arith))))
      | inr e ↦ (let f = ge-of x (n + c) e in rw e (sym (lt-false x (n + suc c) (omega arith))))
    ]

pub Distinct-down : (n c : ℕ) → Distinct (clones_down n c)
Distinct-down n zero = tt
Distinct-down n (suc c) = (has-down n c (n + c) ∙ past n (n + c) (n + c) (n + c) (omega arith), Distinct-down n c)
