-- Steps that are counted.
use Rattle.std.proofs.Common.{◌≡◌, ◌≢◌, ℕ, zero, suc, ◌+◌, ◌-◌, ◌*◌, ◌<◌, ◌≤◌, Bool, true, false, List, [], ◌∷◌, length, Option, Some, None, inl, inr, refl, sym, ◌∙◌, ap, subst, arith}
use Rattle.std.specs.List.{list_any}
use Rattle.html_arena.specs.Laws.{IsUnlinked}
use Rattle.html_arena.specs.Siblings.{Distinct, has, without}
use Rattle.html_arena.specs.Tree.{Tree, WellFormed, appended, children_of, detached, each_more, more, moved, parent_of}
use Rattle.html_open.specs.Lists.{above, looked}
use Rattle.html_open.specs.Entries.{removal_steps}
use Rattle.html_arena.specs.declared.marks.Mark.{Mark}
use Rattle.html_open.specs.Marking.{IsCounted, all_unmarked}
use Rattle.html_open.specs.Placing.{fosters, steps_at, table}
use Rattle.html_open.proofs.Keeps.{cases_bool, cases_eqb}

pub counted-then : (s t u a b c d : ℕ) → IsCounted s t a b → IsCounted t u c d → IsCounted s u (a + c) (b + d)
counted-then s t u a b c d h k = record {
  least = (let i = h.least in let j = k.least in omega (arith, i, j));
  most = (let i = h.most in let j = k.most in omega (arith, i, j));
}

pub counted-within : (s t a b c d : ℕ) → c ≤ a → b ≤ d → IsCounted s t a b → IsCounted s t c d
counted-within s t a b c d i j h = record {
  least = (let k = h.least in omega (arith, i, k));
  most = (let k = h.most in omega (arith, j, k));
}

pub counted-charge : (s t k : ℕ) → t ≡ more s k → IsCounted s t k k
counted-charge s t k e = record { least = omega (arith, e); most = omega (arith, e) }

pub counted-same : (s t : ℕ) → t ≡ s → IsCounted s t 0 0
counted-same s t e = record { least = omega (arith, e); most = omega (arith, e) }

pub counted-next : (s t u n i : ℕ) → n ≤ i → IsCounted s t 0 (i - n) → u ≡ more t 1 → IsCounted s u 0 ((i + 1) - n)
counted-next s t u n i l h e = record {
  least = (let k = h.least in omega (arith, e, k));
  most = (let k = h.most in omega (arith, e, k, l));
}

pub counted-hung : (s t u v n first last clone : ℕ) → last ≡ clone → IsCounted s t 0 (n + 2) → IsCounted t u 0 (last - first) → IsCounted u v 0 1 → IsCounted s v 0 (n + (clone - first) + 3)
counted-hung s t u v n first last clone e a b c = record {
  least = (let i = a.least in let j = b.least in let k = c.least in omega (arith, i, j, k));
  most = (let i = a.most in let j = b.most in let k = c.most in omega (arith, i, j, k, e));
}

-- a list of different numbers below n has at most n of them
below-less : (n : ℕ) (xs : List ℕ) → Distinct xs → ((x : ℕ) → has x xs ≡ true → x < n) → length xs ≤ n
below-less zero [] d h = omega arith
below-less zero (x ∷ xs) d h = absurd (let b = h x (first x xs) in omega (arith, b))
  where
    first : (x : ℕ) (xs : List ℕ) → has x (x ∷ xs) ≡ true
    first x xs = elim (cases_eqb x x) [ inl q ↦ rw q.0 refl | inr q ↦ absurd (q.1 refl) ]
below-less (suc n) xs d h =
    let r = below-less n (without n xs) (less-distinct n xs d) (λ x m. (let a = less-has n xs d x m in let b = h x a.0 in let c = a.1 in omega (arith, b, c))) in
    let l = less-length n xs in
    omega (arith, r, l)
  where
    less-has : (n : ℕ) (xs : List ℕ) → Distinct xs → (x : ℕ) → has x (without n xs) ≡ true → (has x xs ≡ true) × (x ≢ n)
    less-has n [] d x m = absurd (let k = m in cc)
    less-has n (y ∷ ys) d x m = elim (cases_eqb n y) [
      | inl q ↦
          let k : has x ys ≡ true = rw q.0 at m in
          (elim (cases_eqb x y) [ inl e ↦ rw e.0 refl | inr e ↦ rw e.0 k ], λ z. (let l : has y ys ≡ true = subst (λ (v : ℕ). has v ys ≡ true) (z ∙ q.1) k in let o = d.0 in cc))
      | inr q ↦ elim (cases_eqb x y) [
        | inl e ↦ (rw e.0 refl, λ z. q.1 (sym z ∙ e.1))
        | inr e ↦ (let k : has x (y ∷ without n ys) ≡ true = rw q.0 at m in let r = less-has n ys d.1 x (rw e.0 at k) in (rw e.0 r.0, r.1))
      ]
    ]

    less-none : (n : ℕ) (xs : List ℕ) → Distinct xs → (x : ℕ) → has x xs ≡ false → has x (without n xs) ≡ false
    less-none n xs d x m = elim (cases_bool (has x (without n xs))) [ inl e ↦ absurd (let k = (less-has n xs d x e).0 in cc) | inr e ↦ e ]

    less-distinct : (n : ℕ) (xs : List ℕ) → Distinct xs → Distinct (without n xs)
    less-distinct n [] d = tt
    less-distinct n (y ∷ ys) d = elim (cases_eqb n y) [
      | inl q ↦ rw q.0 d.1
      | inr q ↦ rw q.0 (less-none n ys d.1 y d.0, less-distinct n ys d.1)
    ]

    less-length : (n : ℕ) (xs : List ℕ) → length xs ≤ length (without n xs) + 1
    less-length n [] = omega arith
    less-length n (y ∷ ys) = elim (cases_eqb n y) [
      | inl q ↦ rw q.0 (omega arith)
      | inr q ↦ (let r = less-length n ys in rw q.0 (omega (arith, r)))
    ]

pub children-few : (t : Tree) (w : WellFormed t) (x : ℕ) → length (children_of t x) ≤ length t.labels
children-few t w x = below-less (length t.labels) (children_of t x) (w.once x) (λ y h. w.child_in x y h)

each-counted : (s n : ℕ) → IsCounted s (each_more s n) 0 n
each-counted s zero = record { least = omega arith; most = omega arith }
each-counted s (suc n) = (let h = each-counted s n in record { least = (let k = h.least in omega (arith, k)); most = (let k = h.most in omega (arith, k)) })

detached-steps : (t : Tree) (c : ℕ) (o : Option ℕ) → (detached t c o).steps ≡ more t.steps 1
detached-steps t c None = refl
detached-steps t c (Some p) = refl

pub counted-wrapped : (t u v z : Tree) (g k : ℕ) → WellFormed t → u ≡ detached t g (parent_of t g) → IsUnlinked t u g → v ≡ moved u g k → z ≡ appended v g k
    → IsCounted t.steps z.steps 0 (length t.labels + 2)
counted-wrapped t u v z g k w a l b c =
    let e1 : u.steps ≡ more t.steps 1 = ap (λ (x : Tree). x.steps) a ∙ detached-steps t g (parent_of t g) in
    let e2 : v.steps ≡ each_more u.steps (length (children_of u g)) = ap (λ (x : Tree). x.steps) b in
    let e3 : z.steps ≡ more v.steps 1 = ap (λ (x : Tree). x.steps) c in
    let h = each-counted u.steps (length (children_of u g)) in
    let f = children-few u l.well_formed g in
    let n : length u.labels ≡ length t.labels = ap (λ (x : Tree). length x.labels) a ∙ labels t g (parent_of t g) in
    let h1 = h.least in
    let h2 = h.most in
    record { least = omega (arith, e1, e2, e3, h1); most = omega (arith, e1, e2, e3, h2, f, n) }
  where
    labels : (t : Tree) (c : ℕ) (o : Option ℕ) → length (detached t c o).labels ≡ length t.labels
    labels t c None = refl
    labels t c (Some p) = refl

pub above-few : {X : Type 0} (p : X → Bool) (xs : List X) → length (above p xs) ≤ length xs
above-few p [] = omega arith
above-few p (x ∷ xs) = (let h = above-few p xs in elim (cases_bool (list_any p xs)) [
  | inl a ↦ rw a (omega (arith, h))
  | inr a ↦ elim (cases_bool (p x)) [ inl b ↦ rw (a, b) (omega arith) | inr b ↦ rw (a, b) (omega arith) ]
])

pub looked-few : {X : Type 0} (p : X → Bool) (xs : List X) → looked p xs ≤ length xs
looked-few p [] = omega arith
looked-few p (x ∷ xs) = (let h = looked-few p xs in elim (cases_bool (list_any p xs)) [
  | inl a ↦ elim (cases_bool (p x)) [ inl b ↦ rw (b, a) (let k : looked p xs ≤ length xs = h in let j : length (above p xs) + 1 ≤ length xs = rw a at k in omega (arith, j)) | inr b ↦ rw (b, a) (let k : looked p xs ≤ length xs = h in let j : length (above p xs) + 1 ≤ length xs = rw a at k in omega (arith, j)) ]
  | inr a ↦ elim (cases_bool (p x)) [ inl b ↦ rw (b, a) (omega arith) | inr b ↦ rw (b, a) (omega arith) ]
])

-- one step for each clone
abbrev pub IsCountedGrown : Tree → Tree → Type 0
IsCountedGrown t u = IsCounted t.steps u.steps (length u.labels - length t.labels) (length u.labels - length t.labels)

pub grown-same : (t u : Tree) → u ≡ t → IsCountedGrown t u
grown-same t u e = (let a = ap (λ (x : Tree). x.steps) e in let b = ap (λ (x : Tree). length x.labels) e in record { least = omega (arith, a, b); most = omega (arith, a, b) })

pub grown-then : (t u v : Tree) → length t.labels ≤ length u.labels → length u.labels ≤ length v.labels → IsCountedGrown t u → IsCountedGrown u v → IsCountedGrown t v
grown-then t u v i j h k = record {
  least = (let a = h.least in let b = k.least in omega (arith, a, b, i, j));
  most = (let a = h.most in let b = k.most in omega (arith, a, b, i, j));
}

-- what a round counts for its clones and its moves
abbrev pub IsCountedRound : Tree → Tree → Type 0
IsCountedRound t v = IsCounted t.steps v.steps (length v.labels - length t.labels) (length v.labels + 10)

pub grown-regrouped : (t v : Tree) → IsCountedGrown t v → IsCountedRound t v
grown-regrouped t v h = record { least = h.least; most = (let k = h.most in omega (arith, k)) }

pub regroup-same : (t v : Tree) → v ≡ t → IsCountedRound t v
regroup-same t v e = grown-regrouped t v (grown-same t v e)

pub regroup-counted : (t u u2 u3 v : Tree) (first clone c : ℕ) → length u.labels ≡ length t.labels + c + 1 → c ≤ 3 → first ≡ length t.labels → clone ≡ length t.labels + c → IsCountedGrown t u
    → u2 ≡ record u { marks = u2.marks } → u3 ≡ record u2 { marks = u3.marks } → IsCounted u3.steps v.steps 0 (length u3.labels + (clone - first) + 3) → v.labels ≡ u3.labels → IsCountedRound t v
regroup-counted t u u2 u3 v first clone c l few a b h e2 e3 k e =
    let s2 = ap (λ (x : Tree). x.steps) e2 in
    let s3 = ap (λ (x : Tree). x.steps) e3 in
    let l2 = ap (λ (x : Tree). length x.labels) e2 in
    let l3 = ap (λ (x : Tree). length x.labels) e3 in
    let l4 = ap length e in
    let h1 = h.least in
    let h2 = h.most in
    let k1 = k.least in
    let k2 = k.most in
    record { least = omega (arith, l, s2, s3, l2, l3, l4, h1, k1); most = omega (arith, l, few, a, b, s2, s3, l2, l3, l4, h2, k2) }

pub place-few : (t : Tree) (s : List ℕ) (target : ℕ) (f : Bool) → steps_at t s target f ≤ length s + 1
place-few t s target f = (let h = looked-few (table t) s in elim (cases_bool (fosters t target f)) [ inl a ↦ rw a (omega (arith, h)) | inr a ↦ rw a (omega arith) ])

pub removal-few : {X : Type 0} (p : X → Bool) (xs : List X) → removal_steps p xs ≤ 2 * length xs
removal-few p xs = (let h = looked-few p xs in elim (cases_bool (list_any p xs)) [
  | inl a ↦ (let k : length (above p xs) + 1 ≤ length xs = rw a at h in rw a (omega (arith, k)))
  | inr a ↦ (let k : length (above p xs) + 0 ≤ length xs = rw a at h in rw a (omega (arith, k)))
])

-- what the search of a round counts
module _ (s t a l h : ℕ) (e : t ≡ more s a) (few : a ≤ l) where
  pub found-first : IsCounted s t 0 (l + 2 * h + 1)
  found-first = record { least = omega (arith, e); most = omega (arith, e, few) }

  module _ (u : ℕ) (f : u ≡ more t 1) where
    pub found-second : IsCounted s u 0 (l + 2 * h + 1)
    found-second = record { least = omega (arith, e, f); most = omega (arith, e, f, few) }

    module _ (v b : ℕ) (g : v ≡ more u b) (low : b ≤ h) where
      pub found-third : IsCounted s v 0 (l + 2 * h + 1)
      found-third = record { least = omega (arith, e, f, g); most = omega (arith, e, f, g, few, low) }

      pub found-fourth : (w d : ℕ) → w ≡ more v d → d ≤ h → IsCounted s w 0 (l + 2 * h + 1)
      found-fourth w d k lower = record { least = omega (arith, e, f, g, k); most = omega (arith, e, f, g, k, few, low, lower) }

pub round-counted : (a b c d : Tree) (k p h l : ℕ) → b.steps ≡ more a.steps k → k ≤ h + l → c.steps ≡ more b.steps p → p ≤ h + 1 → length c.labels ≡ length a.labels → IsCountedRound c d
    → IsCounted a.steps d.steps (length d.labels - length a.labels) (length d.labels + 2 * h + l + 11)
round-counted a b c d k p h l e few f low n r =
    let r1 = r.least in
    let r2 = r.most in
    record { least = omega (arith, e, f, n, r1); most = omega (arith, e, f, few, low, r2) }

pub all_unmarked-steps : (t : Tree) (m : Mark) (xs : List ℕ) → (all_unmarked t m xs).steps ≡ t.steps
all_unmarked-steps t m [] = refl
all_unmarked-steps t m (x ∷ xs) = all_unmarked-steps t m xs

pub close-counted : (s t u v k r h l : ℕ) → t ≡ more s k → k ≤ h → u ≡ t → v ≡ more u r → r ≤ 2 * l → IsCounted s v 0 (h + 2 * l)
close-counted s t u v k r h l e few f g low = record { least = omega (arith, e, f, g); most = omega (arith, e, f, g, few, low) }

-- an end after the search
pub turn-counted : (s t u n m h l r : ℕ) → IsCounted s t 0 (l + 2 * h + 1) → IsCounted t u 0 r → r ≤ h + 2 * l → m ≡ n → IsCounted s u (m - n) (m + 4 * h + 3 * l + 12)
turn-counted s t u n m h l r a b few e =
    let a1 = a.least in
    let a2 = a.most in
    let b1 = b.least in
    let b2 = b.most in
    record { least = omega (arith, a1, b1, e); most = omega (arith, a2, b2, few) }

pub turn-round : (s t u n o m h l : ℕ) → IsCounted s t 0 (l + 2 * h + 1) → n ≡ o → IsCounted t u (m - n) (m + 2 * h + l + 11) → IsCounted s u (m - o) (m + 4 * h + 3 * l + 12)
turn-round s t u n o m h l a e b =
    let a1 = a.least in
    let a2 = a.most in
    let b1 = b.least in
    let b2 = b.most in
    record { least = omega (arith, a1, b1, e); most = omega (arith, a2, b2) }
