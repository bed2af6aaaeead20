-- Rounds make the stack no longer, and the list by one entry at most; what they count.
use Rattle.std.proofs.Common.{◌≡◌, ℕ, zero, suc, ◌+◌, ◌-◌, ◌*◌, ◌<◌, ◌≤◌, Bool, true, false, cond, not, List, [], ◌∷◌, ◌++◌, length, length-append, map, inl, inr, refl, sym, ◌∙◌, ap, subst, arith}
use Rattle.std.proofs.lemmas.List.{length-map}
use Rattle.std.proofs.Math.Nat.{suc-mul}
use Rattle.std.proofs.lemmas.Nat.{mul-le}
use Rattle.std.specs.List.{flat_map}
use Rattle.html_names.specs.declared.tag.Tag.{Tag}
use Rattle.html_arena.specs.Siblings.{Distinct, first_of, has, is_in}
use Rattle.html_open.specs.declared.entry.Entry.{Entry}
use Rattle.html_open.specs.declared.entry.Entry.TheVariants.{Marker, Node}
use Rattle.html_open.specs.Adopting.{Round, alone, clones_down, heirs, relisted}
use Rattle.html_open.specs.Entries.{has_node, nodes_of}
use Rattle.html_open.specs.Marking.{IsCounted}
use Rattle.html_open.specs.Opened.{IsOpen, Open}
use Rattle.html_open.proofs.Keeps.{cases_bool, cases_eqb, eqb-self}
use Rattle.html_open.proofs.Numbering.{originals-less}

down-length : (n c : ℕ) → length (clones_down n c) ≡ c
down-length n zero = refl
down-length n (suc c) = (let h = down-length n c in omega (arith, h))

pub round-shorter : (s : Tag) (foster : Bool) (o p : Open) → Round s foster o p → length p.stack ≤ length o.stack
round-shorter s foster o p r =
    let a = ap length r.stack_was in
    let b = ap length r.stack_is in
    let c = length-append r.lower (r.common_ancestor ∷ r.formatting_element ∷ (r.inner ++ (r.furthest_block ∷ r.upper))) in
    let d = length-append r.inner (r.furthest_block ∷ r.upper) in
    let e = length-append r.lower (r.common_ancestor ∷ (clones_down (length o.tree.labels) (length r.cloned_elements) ++ (r.furthest_block ∷ r.new_element ∷ r.upper))) in
    let f = length-append (clones_down (length o.tree.labels) (length r.cloned_elements)) (r.furthest_block ∷ r.new_element ∷ r.upper) in
    let g = down-length (length o.tree.labels) (length r.cloned_elements) in
    let h = ap length r.cloned_are in
    let i = originals-less (λ x. has_node x o.list) r.inner in
    omega (arith, a, b, c, d, e, f, g, h, i)

module _ (f : ℕ) (stays : ℕ → Bool) (cs : List ℕ) (n k : ℕ) where
  stay-few : (b : Bool) (x : ℕ) → length (cond b (x ∷ []) []) ≤ 1
  stay-few true x = omega arith
  stay-few false x = omega arith

  -- an element has one heir, and the first of those that are cloned has two
  pub heirs-few : (x : ℕ) → is_in x (first_of cs) ≡ false → length (heirs f stays cs n k x) ≤ 1
  heirs-few x h = elim (cases_eqb x f) [
    | inl q ↦ rw q.0 (single cs)
    | inr q ↦ elim (cases_bool (has x cs)) [
      | inl e ↦ rw (q.0, e, h) (omega arith)
      | inr e ↦ rw (q.0, e) (stay-few (stays x) x)
    ]
  ]
    where
      single : (zs : List ℕ) → length (alone zs k) ≤ 1
      single [] = omega arith
      single (z ∷ zs) = omega arith

  pub heirs-two : (x : ℕ) → length (heirs f stays cs n k x) ≤ 2
  heirs-two x = elim (cases_bool (is_in x (first_of cs))) [
    | inr h ↦ (let a = heirs-few x h in omega (arith, a))
    | inl h ↦ elim (cases_eqb x f) [
      | inl q ↦ rw q.0 (single cs)
      | inr q ↦ elim (cases_bool (has x cs)) [
        | inl e ↦ rw (q.0, e, h) (omega arith)
        | inr e ↦ rw (q.0, e) (let a = stay-few (stays x) x in omega (arith, a))
      ]
    ]
  ]
    where
      single : (zs : List ℕ) → length (alone zs k) ≤ 2
      single [] = omega arith
      single (z ∷ zs) = omega arith

  pub entry-length : (x : ℕ) (es : List Entry) → length (flat_map (relisted f stays cs n k) (Node x ∷ es)) ≡ length (heirs f stays cs n k x) + length (flat_map (relisted f stays cs n k) es)
  entry-length x es = (let a = length-append (map Node (heirs f stays cs n k x)) (flat_map (relisted f stays cs n k) es) in let b = length-map (heirs f stays cs n k x) Node in omega (arith, a, b))

  -- where the first of them is not there
  pub relisted-same-length : (es : List Entry) → ((x : ℕ) → has x (nodes_of es) ≡ true → is_in x (first_of cs) ≡ false) → length (flat_map (relisted f stays cs n k) es) ≤ length es
  relisted-same-length [] h = omega arith
  relisted-same-length (Marker ∷ es) h = (let r = relisted-same-length es h in omega (arith, r))
  relisted-same-length (Node x ∷ es) h =
      let r = relisted-same-length es (λ y m. h y (elim (cases_eqb y x) [ inl q ↦ rw q.0 refl | inr q ↦ rw q.0 m ])) in
      let a = entry-length x es in
      let b = heirs-few x (h x (rw (eqb-self x) refl)) in
      omega (arith, r, a, b)

  pub only : (x y : ℕ) (os : List ℕ) → is_in x (first_of os) ≡ true → is_in y (first_of os) ≡ true → x ≡ y
  only x y [] a b = absurd (let c = a in cc)
  only x y (z ∷ zs) a b = elim (cases_eqb x z) [
    | inl p ↦ elim (cases_eqb y z) [ inl q ↦ p.1 ∙ sym q.1 | inr q ↦ absurd (let c = rw q.0 at b in cc) ]
    | inr p ↦ absurd (let c = rw p.0 at a in cc)
  ]

  pub relisted-length : (es : List Entry) → Distinct (nodes_of es) → length (flat_map (relisted f stays cs n k) es) ≤ length es + 1
  relisted-length [] d = omega arith
  relisted-length (Marker ∷ es) d = (let r = relisted-length es d in omega (arith, r))
  relisted-length (Node x ∷ es) d =
      let a = entry-length x es in
      elim (cases_bool (is_in x (first_of cs))) [
        | inl h ↦
            let b = heirs-two x in
            let r = relisted-same-length es (λ y m. elim (cases_bool (is_in y (first_of cs))) [
              | inl e ↦ absurd (let q = only x y cs h e in let z : has x (nodes_of es) ≡ true = subst (λ (v : ℕ). has v (nodes_of es) ≡ true) (sym q) m in let w = d.0 in cc)
              | inr e ↦ e
            ]) in
            omega (arith, a, b, r)
        | inr h ↦ (let b = heirs-few x h in let r = relisted-length es d.1 in omega (arith, a, b, r))
      ]

pub round-listed : (s : Tag) (foster : Bool) (o p : Open) → IsOpen o → Round s foster o p → length p.list ≤ length o.list + 1
round-listed s foster o p h r =
    let a = ap length r.list_is in
    let b = relisted-length r.formatting_element (λ x. not (has x r.inner)) r.cloned_elements (length o.tree.labels) r.new_element o.list h.list_once in
    omega (arith, a, b)

-- as many times a number
abbrev pub times : ℕ → ℕ → ℕ
times zero b = 0
times (suc i) b = times i b + b

times-more : (i a b : ℕ) → a ≤ b → times i a ≤ times i b
times-more zero a b h = omega arith
times-more (suc i) a b h = (let r = times-more i a b h in omega (arith, r, h))

times-is : (i b : ℕ) → times i b ≡ i * b
times-is zero b = omega arith
times-is (suc i) b = ap (λ (m : ℕ). m + b) (times-is i b) ∙ sym (suc-mul i b)

times-few : (i b : ℕ) → i ≤ 8 → times i b ≤ 8 * b
times-few i b h = (let r = times-is i b in let k : i * b ≤ 8 * b = mul-le i b 8 b h (omega arith) in omega (arith, r, k))

-- what the rounds have counted so far
pub counted-round : (i j s t u n m k h l h0 l0 : ℕ) → j ≡ suc i → i < 8 → n ≤ m → m ≤ k → h ≤ h0 → l ≤ l0 + i → IsCounted s t (m - n) (times i (m + 4 * h0 + 3 * l0 + 36))
    → IsCounted t u (k - m) (k + 4 * h + 3 * l + 12) → IsCounted s u (k - n) (times j (k + 4 * h0 + 3 * l0 + 36))
counted-round i j s t u n m k h l h0 l0 e b p q x y a c =
    subst (λ (z : ℕ). IsCounted s u (k - n) (times z (k + 4 * h0 + 3 * l0 + 36))) (sym e)
    (let a1 = a.least in
    let a2 = a.most in
    let c1 = c.least in
    let c2 = c.most in
    let d = times-more i (m + 4 * h0 + 3 * l0 + 36) (k + 4 * h0 + 3 * l0 + 36) (omega (arith, q)) in
    record { least = omega (arith, a1, c1, p, q); most = omega (arith, a2, c2, d, b, x, y) })

-- and in the end
pub counted-end : (i s t u n m h l : ℕ) → i ≤ 8 → IsCounted s t 1 3 → IsCounted t u (m - n) (times i (m + 4 * h + 3 * l + 36))
    → IsCounted s u (m - n) (8 * m + 32 * h + 24 * l + 291)
counted-end i s t u n m h l b p r =
    let p1 = p.least in
    let p2 = p.most in
    let r1 = r.least in
    let r2 = r.most in
    let d = times-few i (m + 4 * h + 3 * l + 36) b in
    record { least = omega (arith, p1, r1); most = omega (arith, p2, r2, d) }

-- the current node alone was popped
pub counted-popped : (s t n m h l : ℕ) → m ≡ n → IsCounted s t 1 3 → IsCounted s t (m - n) (8 * m + 32 * h + 24 * l + 291)
counted-popped s t n m h l e p =
    let p1 = p.least in
    let p2 = p.most in
    record { least = omega (arith, p1, e); most = omega (arith, p2) }
