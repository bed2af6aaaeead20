-- How many elements leave a list, and that what they cost adds up.
use Rattle.std.proofs.Common.{◌≡◌, ◌≢◌, ℕ, ◌+◌, ◌-◌, ◌≤◌, Bool, true, false, cond, not, List, [], ◌∷◌, ◌++◌, length, length-append, filter, take, drop, inl, inr, refl, sym, ◌∙◌, ap, subst, arith}
use Rattle.std.proofs.lemmas.List.{append-nil, length-drop, take-append-drop}
use Rattle.std.proofs.lemmas.List.Sums.{count_by-le-length, length-filter}
use Rattle.std.specs.List.{list_any}
use Rattle.html_arena.specs.Siblings.{Distinct, has, without}
use Rattle.html_arena.specs.Tree.{Tree, more}
use Rattle.html_open.specs.declared.entry.Entry.{Entry}
use Rattle.html_open.specs.declared.entry.Entry.TheVariants.{Marker, Node}
use Rattle.html_open.specs.Entries.{is_node, nodes_of, removal_steps, without_node}
use Rattle.html_open.specs.Leaving.{IsPaid, gone}
use Rattle.html_open.specs.Lists.{above, below}
use Rattle.html_open.specs.Opened.{IsOpen, Open, open_at}
use Rattle.html_open.proofs.Keeps.{cases_bool, cases_eqb, eqb-self, has-append}

gone-kept : (x : ℕ) (xs ys : List ℕ) → has x ys ≡ true → gone (x ∷ xs) ys ≡ gone xs ys
gone-kept x xs ys h = rw h refl

gone-more : (x : ℕ) (xs ys : List ℕ) → has x ys ≡ false → gone (x ∷ xs) ys ≡ gone xs ys + 1
gone-more x xs ys h = rw h (omega arith)

without-other : (x y : ℕ) (ws : List ℕ) → y ≢ x → has y ws ≡ true → has y (without x ws) ≡ true
without-other x y [] n h = h
without-other x y (w ∷ ws) n h = elim (cases_eqb x w) [
  | inl p ↦ elim (cases_eqb y w) [
    | inl q ↦ absurd (n (q.1 ∙ sym p.1))
    | inr q ↦ rw p.0 (rw q.0 at h)
  ]
  | inr p ↦ elim (cases_eqb y w) [
    | inl q ↦ rw (p.0, q.0) refl
    | inr q ↦ rw (p.0, q.0) (without-other x y ws n (rw q.0 at h))
  ]
]

without-shorter : (x : ℕ) (ws : List ℕ) → has x ws ≡ true → length (without x ws) + 1 ≡ length ws
without-shorter x [] h = absurd (let k = h in cc)
without-shorter x (w ∷ ws) h = elim (cases_eqb x w) [
  | inl p ↦ rw p.0 (omega arith)
  | inr p ↦ (let r = without-shorter x ws (rw p.0 at h) in rw p.0 (omega (arith, r)))
]

-- where all that leave are in a list, there are no more of them than the list is long
pub gone-within : (xs ys ws : List ℕ) → Distinct xs → ((x : ℕ) → has x xs ≡ true → has x ys ≡ false → has x ws ≡ true) → gone xs ys ≤ length ws
gone-within [] ys ws d h = omega arith
gone-within (x ∷ xs) ys ws d h = elim (cases_bool (has x ys)) [
  | inl e ↦
      let r = gone-within xs ys ws d.1 (λ y m n. h y (later y m) n) in
      let k = gone-kept x xs ys e in
      omega (arith, r, k)
  | inr e ↦
      let r = gone-within xs ys (without x ws) d.1 (λ y m n. without-other x y ws (differs y m) (h y (later y m) n)) in
      let k = gone-more x xs ys e in
      let s = without-shorter x ws (h x (rw (eqb-self x) refl) e) in
      omega (arith, r, k, s)
]
  where
    later : (y : ℕ) → has y xs ≡ true → has y (x ∷ xs) ≡ true
    later y m = elim (cases_eqb y x) [ inl q ↦ rw q.0 refl | inr q ↦ rw q.0 m ]

    differs : (y : ℕ) → has y xs ≡ true → y ≢ x
    differs y m = λ q. (let n : has x xs ≡ true = subst (λ (v : ℕ). has v xs ≡ true) q m in let o = d.0 in cc)

filter-has : (p : ℕ → Bool) (x : ℕ) (xs : List ℕ) → has x xs ≡ true → p x ≡ true → has x (filter p xs) ≡ true
filter-has p x [] h e = h
filter-has p x (y ∷ ys) h e = elim (cases_eqb x y) [
  | inl q ↦ (let f : p y ≡ true = subst (λ (v : ℕ). p v ≡ true) q.1 e in rw f (rw q.0 refl))
  | inr q ↦ elim (cases_bool (p y)) [
    | inl f ↦ rw f (rw q.0 (filter-has p x ys (rw q.0 at h) e))
    | inr f ↦ rw f (filter-has p x ys (rw q.0 at h) e)
  ]
]

-- what has left in the end left in the first part or in the second
pub gone-then : (xs ys zs : List ℕ) → Distinct xs → gone xs zs ≤ gone xs ys + gone ys zs
gone-then xs ys zs d =
    let w = gone-within xs zs (filter (λ x. not (has x ys)) xs ++ filter (λ x. not (has x zs)) ys) d left in
    let a = length-append (filter (λ x. not (has x ys)) xs) (filter (λ x. not (has x zs)) ys) in
    omega (arith, w, a)
  where
    left : (x : ℕ) → has x xs ≡ true → has x zs ≡ false → has x (filter (λ x. not (has x ys)) xs ++ filter (λ x. not (has x zs)) ys) ≡ true
    left x h n = has-append x (filter (λ x. not (has x ys)) xs) (filter (λ x. not (has x zs)) ys) ∙ elim (cases_bool (has x ys)) [
      | inl e ↦ second e
      | inr e ↦ rw (filter-has (λ x. not (has x ys)) x xs h (ap not e)) refl
    ]
      where
        second : has x ys ≡ true → cond (has x (filter (λ x. not (has x ys)) xs)) true (has x (filter (λ x. not (has x zs)) ys)) ≡ true
        second e = (let f = filter-has (λ x. not (has x zs)) x ys e (ap not n) in elim (cases_bool (has x (filter (λ x. not (has x ys)) xs))) [ inl g ↦ rw g refl | inr g ↦ rw g f ])

pub gone-none : (xs : List ℕ) → Distinct xs → gone xs xs ≡ 0
gone-none xs d = (let r = gone-within xs xs [] d (λ x h n. absurd (let a = h in let b = n in cc)) in omega (arith, r))

-- the first n of a list stay
pub gone-front : (n : ℕ) (xs ys : List ℕ) → Distinct xs → gone xs (take n xs ++ ys) ≤ length xs - n
gone-front n xs ys d =
    let r = gone-within xs (take n xs ++ ys) (drop n xs) d left in
    let e = length-drop n xs in
    omega (arith, r, e)
  where
    left : (x : ℕ) → has x xs ≡ true → has x (take n xs ++ ys) ≡ false → has x (drop n xs) ≡ true
    left x h m =
        let a : has x (take n xs ++ drop n xs) ≡ true = ap (has x) (take-append-drop n xs) ∙ h in
        let b = sym (has-append x (take n xs) (drop n xs)) ∙ a in
        let c = sym (has-append x (take n xs) ys) ∙ m in
        elim (cases_bool (has x (take n xs))) [
          | inl e ↦ absurd (let k = rw e at c in cc)
          | inr e ↦ rw e at b
        ]

module _ (f x : ℕ) (n : x ≢ f) where
  -- another element stays in the list
  other-stays : (es : List Entry) → has x (nodes_of es) ≡ true → list_any (is_node f) es ≡ true → has x (nodes_of (below (is_node f) es ++ above (is_node f) es)) ≡ true
  other-stays [] h e = h
  other-stays (Marker ∷ es) h e = rw e (other-stays es h e)
  other-stays (Node y ∷ es) h e = elim (cases_bool (list_any (is_node f) es)) [
    | inl a ↦ elim (cases_eqb x y) [
      | inl q ↦ rw (a, q.0) refl
      | inr q ↦ rw (a, q.0) (other-stays es (rw q.0 at h) a)
    ]
    | inr a ↦ elim (cases_eqb f y) [
      | inl p ↦ elim (cases_eqb x y) [
        | inl q ↦ absurd (n (q.1 ∙ sym p.1))
        | inr q ↦ rw (a, p.0) (rw q.0 at h)
      ]
      | inr p ↦ absurd (let k = rw (p.0, a) at e in cc)
    ]
  ]

-- one element at most leaves, and its removal is counted
pub gone-removed : (f : ℕ) (es : List Entry) → Distinct (nodes_of es) → gone (nodes_of es) (nodes_of (without_node f es)) ≤ removal_steps (is_node f) es
gone-removed f es d = elim (cases_bool (list_any (is_node f) es)) [
  | inl e ↦
      let r = gone-within (nodes_of es) (nodes_of (below (is_node f) es ++ above (is_node f) es)) (f ∷ []) d (λ x h m. elim (cases_eqb x f) [
        | inl q ↦ rw q.0 refl
        | inr q ↦ absurd (let k = other-stays f x q.1 es h e in cc)
      ]) in
      rw e (omega (arith, r))
  | inr e ↦ (let r = gone-none (nodes_of es) d in rw e (omega (arith, r)))
]

nodes-few : (es : List Entry) → length (nodes_of es) ≤ length es
nodes-few [] = omega arith
nodes-few (Marker ∷ es) = (let r = nodes-few es in omega (arith, r))
nodes-few (Node x ∷ es) = (let r = nodes-few es in omega (arith, r))

-- nothing leaves
pub paid-same : (s : List ℕ) (es : List Entry) (t u : Tree) → IsOpen (open_at s es t) → u ≡ record t { steps = u.steps } → more t.steps 0 ≤ u.steps → IsPaid (open_at s es t) (open_at s es u)
paid-same s es t u o e h =
    let a = gone-none s o.stack_once in
    let b = gone-none (nodes_of es) o.list_once in
    let c = ap (λ (v : Tree). length v.labels) e in
    omega (arith, a, b, c, h)

-- steps that were counted before
pub paid-later : (s : List ℕ) (es : List Entry) (t u : Tree) (p : Open) → u ≡ record t { steps = u.steps } → more t.steps 0 ≤ u.steps → IsPaid (open_at s es u) p → IsPaid (open_at s es t) p
paid-later s es t u p e h k = (let c = ap (λ (v : Tree). length v.labels) e in omega (arith, c, h, k))

-- the same where a step was counted before, and the stack is the same list
pub paid-again : (s s2 : List ℕ) (es : List Entry) (t u : Tree) (p : Open) → s2 ≡ s → u ≡ record t { steps = u.steps } → more t.steps 1 ≤ u.steps → IsPaid (open_at s2 es u) p → IsPaid (open_at s es t) p
paid-again s s2 es t u p e f h k = paid-later s es t u p f (omega (arith, h)) (subst (λ (v : List ℕ). IsPaid (open_at v es u) p) e k)

-- one part after another
pub paid-then : (o p q : Open) → IsOpen o → length o.tree.labels ≤ length p.tree.labels → length p.tree.labels ≤ length q.tree.labels → IsPaid o p → IsPaid p q → IsPaid o q
paid-then o p q w i j h k =
    let a = gone-then o.stack p.stack q.stack w.stack_once in
    let b = gone-then (nodes_of o.list) (nodes_of p.list) (nodes_of q.list) w.list_once in
    omega (arith, a, b, h, k, i, j)

-- the current node alone leaves the stack
pub paid-popped : (s s2 : List ℕ) (es : List Entry) (t u : Tree) (x : ℕ) → IsOpen (open_at s es t) → s ≡ s2 ++ x ∷ [] → length u.labels ≡ length t.labels → more t.steps 1 ≤ u.steps
    → IsPaid (open_at s es t) (open_at s2 es u)
paid-popped s s2 es t u x o e l h =
    let a = gone-within s s2 (x ∷ []) o.stack_once (λ y m n. elim (cases_eqb y x) [
      | inl q ↦ rw q.0 refl
      | inr q ↦ absurd (let k : has y (s2 ++ x ∷ []) ≡ true = subst (λ (v : List ℕ). has y v ≡ true) e m in let j = sym (has-append y s2 (x ∷ [])) ∙ k in let i = rw (n, q.0) at j in cc)
    ]) in
    let b = gone-none (nodes_of es) o.list_once in
    omega (arith, a, b, l, h)

-- one element at most leaves the list
pub paid-removed : (s : List ℕ) (es fs : List Entry) (t u : Tree) (f : ℕ) → IsOpen (open_at s es t) → fs ≡ without_node f es → length u.labels ≡ length t.labels
    → u.steps ≡ more t.steps (removal_steps (is_node f) es) → IsPaid (open_at s es t) (open_at s fs u)
paid-removed s es fs t u f o e l h =
    let a = gone-none s o.stack_once in
    let b = gone-removed f es o.list_once in
    let c = ap (λ (v : List Entry). gone (nodes_of es) (nodes_of v)) e in
    omega (arith, a, b, c, l, h)

-- the stack ends before an index, and one element at most leaves the list
pub paid-closed : (s s2 : List ℕ) (es fs : List Entry) (t u : Tree) (at f j k : ℕ) → IsOpen (open_at s es t) → s2 ≡ take at s → fs ≡ without_node f es → length u.labels ≡ length t.labels
    → j ≡ more t.steps (length s - at) → k ≡ j → u.steps ≡ more k (removal_steps (is_node f) es) → IsPaid (open_at s es t) (open_at s2 fs u)
paid-closed s s2 es fs t u at f j k o e g l a b c =
    let m = gone-front at s [] o.stack_once in
    let n = gone-removed f es o.list_once in
    let p = ap (gone s) (e ∙ sym (append-nil (take at s))) in
    let q = ap (λ (v : List Entry). gone (nodes_of es) (nodes_of v)) g in
    omega (arith, m, n, p, q, l, a, b, c)

-- the stack is another from an index on, and the list is another
pub paid-round : (s s2 ys : List ℕ) (es fs : List Entry) (t u : Tree) (at n j k p : ℕ) → IsOpen (open_at s es t) → s2 ≡ take at s ++ ys
    → j ≡ more t.steps ((length s - at) + length es) → k ≡ more j p → n ≡ length t.labels → more k (length u.labels - n) ≤ u.steps → IsPaid (open_at s es t) (open_at s2 fs u)
paid-round s s2 ys es fs t u at n j k p o e a b l c =
    let m = gone-front at s ys o.stack_once in
    let q = ap (gone s) e in
    let r = nodes-few es in
    let h = count_by-le-length (λ x. not (has x (nodes_of fs))) (nodes_of es) in
    let i = length-filter (λ x. not (has x (nodes_of fs))) (nodes_of es) in
    omega (arith, m, q, r, h, i, a, b, l, c)
