-- What lasts where an element is taken off the stack or an entry off the list: what was not there is not there, the first element is the
-- first, and it can take what has no better place.
use Rattle.std.proofs.Common.{◌≡◌, ◌≢◌, ℕ, zero, suc, ◌+◌, ◌<◌, ◌≤◌, Bool, true, false, eqb, List, [], ◌∷◌, ◌++◌, length, length-append, take, Option, Some, None, inl, inr, refl, sym, ◌∙◌, ap, subst, arith}
use Rattle.std.proofs.lemmas.Bool.{false≢true}
use Rattle.std.specs.List.{list_any}
use Rattle.html_arena.specs.declared.marks.Mark.{Mark}
use Rattle.html_arena.specs.declared.marks.Mark.TheVariants.{InList}
use Rattle.html_arena.specs.Siblings.{first_of, has}
use Rattle.html_arena.specs.Tree.{Tree, more}
use Rattle.html_open.specs.declared.entry.Entry.{Entry}
use Rattle.html_open.specs.declared.entry.Entry.TheVariants.{Marker, Node}
use Rattle.html_open.specs.Adopting.{IsFirstFree}
use Rattle.html_open.specs.Entries.{alike, has_node, has_three, is_marker, nodes_of, pushed}
use Rattle.html_open.specs.Lists.{above, below, up_to, with_last, without_first, without_last}
use Rattle.html_open.specs.Marking.{IsSameTree, all_unmarked, bare, charged, unmarked}
use Rattle.html_open.specs.Opened.{AreNodes}
use Rattle.html_open.specs.Placing.{CanPlace}
use Rattle.html_open.proofs.Closing.{bare-all}
use Rattle.html_open.proofs.Counting.{all_unmarked-steps}
use Rattle.html_open.proofs.Keeps.{cases_bool, cases_eqb, has-append, has-tail, nodes-append, split-last}
use Rattle.html_open.proofs.Ordering.{has-either, has-head}
use Rattle.html_open.proofs.Rooted.{without-node}

-- what is not there
pub not-then : (a b : Bool) → (b ≡ true → a ≡ true) → a ≡ false → b ≡ false
not-then a true h e = absurd (false≢true (sym e ∙ h refl))
not-then a false h e = refl

pub not-left : (x : ℕ) (xs ys : List ℕ) → has x (xs ++ ys) ≡ false → has x xs ≡ false
not-left x [] ys h = refl
not-left x (y ∷ xs) ys h = (let t = has-tail x y (xs ++ ys) h in rw t.0 (not-left x xs ys t.1))

pub not-right : (x : ℕ) (xs ys : List ℕ) → has x (xs ++ ys) ≡ false → has x ys ≡ false
not-right x [] ys h = h
not-right x (y ∷ xs) ys h = not-right x xs ys (has-tail x y (xs ++ ys) h).1

pub not-taken : (x n : ℕ) (s : List ℕ) → has x s ≡ false → has x (take n s) ≡ false
not-taken x zero s h = refl
not-taken x (suc n) [] h = refl
not-taken x (suc n) (y ∷ s) h = (let t = has-tail x y s h in rw t.0 (not-taken x n s t.1))

pub not-popped : (s s' : List ℕ) (o : Option ℕ) (x : ℕ) → s ≡ with_last s' o → has x s ≡ false → has x s' ≡ false
not-popped s s' None x e h = sym (ap (has x) e) ∙ h
not-popped s s' (Some y) x e h = not-left x s' (y ∷ []) (sym (ap (has x) e) ∙ h)

pub not-removed : (c x : ℕ) (s : List ℕ) → has x s ≡ false → has x (without_last (eqb c) s) ≡ false
not-removed c x s h = elim (cases_bool (list_any (eqb c) s)) [
  | inl a ↦
      let r = split-last (eqb c) s a in
      let k : has x (below (eqb c) s ++ r.0 ∷ above (eqb c) s) ≡ false = sym (ap (has x) r.1) ∙ h in
      rw a (has-append x (below (eqb c) s) (above (eqb c) s) ∙ rw (not-left x (below (eqb c) s) (r.0 ∷ above (eqb c) s) k) (has-tail x r.0 (above (eqb c) s) (not-right x (below (eqb c) s) (r.0 ∷ above (eqb c) s) k)).1)
  | inr a ↦ rw a h
]

-- the first element
pub first-pushed : (s : List ℕ) (y : ℕ) → 0 < length s → first_of (s ++ y ∷ []) ≡ first_of s
first-pushed [] y e = absurd (omega arith)
first-pushed (z ∷ s) y e = refl

pub first-taken : (n : ℕ) (s : List ℕ) → 0 < length (take n s) → first_of (take n s) ≡ first_of s
first-taken zero s h = absurd (omega arith)
first-taken (suc n) [] h = refl
first-taken (suc n) (x ∷ s) h = refl

pub first-popped : (s s' : List ℕ) (o : Option ℕ) → s ≡ with_last s' o → 0 < length s' → first_of s' ≡ first_of s
first-popped s s' None e h = sym (ap first_of e)
first-popped s s' (Some y) e h = sym (first-pushed s' y h) ∙ sym (ap first_of e)

pub first-removed : (c : ℕ) (s : List ℕ) → first_of s ≢ Some c → first_of (without_last (eqb c) s) ≡ first_of s
first-removed c s h = elim (cases_bool (list_any (eqb c) s)) [
  | inl a ↦ rw a (by s a h)
  | inr a ↦ rw a refl
]
  where
    by : (ys : List ℕ) → list_any (eqb c) ys ≡ true → first_of ys ≢ Some c → first_of (below (eqb c) ys ++ above (eqb c) ys) ≡ first_of ys
    by [] a n = absurd (let k = a in cc)
    by (y ∷ ys) a n = elim (cases_bool (list_any (eqb c) ys)) [
      | inl e ↦ rw e refl
      | inr e ↦ elim (cases_eqb c y) [
        | inl q ↦ absurd (n (ap Some (sym q.1)))
        | inr q ↦ absurd (let k : list_any (eqb c) (y ∷ ys) ≡ false = rw (q.0, e) refl in false≢true (sym k ∙ a))
      ]
    ]

-- the first element can take what has no better place
pub same-place : (s : List ℕ) (t u : Tree) → IsSameTree t u → CanPlace t s → CanPlace u s
same-place [] t u e h = absurd h
same-place (x ∷ s) t u e h = subst (λ (v : Tree). CanPlace v (x ∷ s)) (sym e) h

pub first-place : (s s' : List ℕ) (t : Tree) → first_of s' ≡ first_of s → CanPlace t s → CanPlace t s'
first-place [] s' t e h = absurd h
first-place (x ∷ s) [] t e h = absurd (let k = e in cc)
first-place (x ∷ s) (y ∷ s') t e h = (let q : y ≡ x = cc in subst (λ z. CanPlace t (z ∷ s')) (sym q) h)

pub lasting-place : (s s' : List ℕ) (t u : Tree) → IsSameTree t u → first_of s' ≡ first_of s → CanPlace t s → CanPlace u s'
lasting-place s s' t u e f h = same-place s' t u e (first-place s s' t f h)

-- the first element is not in the list
pub first-free : (s s' : List ℕ) (l : List Entry) → (0 < length s' → first_of s' ≡ first_of s) → IsFirstFree s l → IsFirstFree s' l
first-free s [] l f h = λ x e. absurd (let k = e in cc)
first-free s (y ∷ s') l f h = λ x e. h x (sym (f (omega arith)) ∙ e)

pub fewer-free : (s : List ℕ) (l l' : List Entry) → ((x : ℕ) → has_node x l ≡ false → has_node x l' ≡ false) → IsFirstFree s l → IsFirstFree s l'
fewer-free s l l' f h = λ x e. f x (h x e)

-- trees that differ in marks alone
pub same-unmarked : (t u : Tree) (m : Mark) (o : Option ℕ) (k : ℕ) → u ≡ charged (unmarked t m o) k → IsSameTree t u
same-unmarked t u m o k e = ap bare e ∙ by o
  where
    by : (p : Option ℕ) → bare (charged (unmarked t m p) k) ≡ bare t
    by None = refl
    by (Some x) = refl

pub unmarked-steps : (t u : Tree) (m : Mark) (o : Option ℕ) (k : ℕ) → u ≡ charged (unmarked t m o) k → u.steps ≡ more t.steps k
unmarked-steps t u m o k e = ap (λ (v : Tree). v.steps) e ∙ by o
  where
    by : (p : Option ℕ) → (charged (unmarked t m p) k).steps ≡ more t.steps k
    by None = refl
    by (Some x) = refl

pub same-all : (t u : Tree) (m : Mark) (xs : List ℕ) (k : ℕ) → u ≡ charged (all_unmarked t m xs) k → IsSameTree t u
same-all t u m xs k e = ap bare e ∙ bare-all t m xs

pub all-steps : (t u : Tree) (m : Mark) (xs : List ℕ) (k : ℕ) → u ≡ charged (all_unmarked t m xs) k → u.steps ≡ more t.steps k
all-steps t u m xs k e = ap (λ (v : Tree). v.steps) e ∙ ap (λ n. more n k) (all_unmarked-steps t m xs)

-- entries
pub entries-below : (l : List Entry) (x : ℕ) → has_node x l ≡ false → has_node x (below is_marker l) ≡ false
entries-below [] x h = refl
entries-below (Marker ∷ l) x h = elim (cases_bool (list_any is_marker l)) [ inl a ↦ rw a (entries-below l x h) | inr a ↦ rw a refl ]
entries-below (Node y ∷ l) x h = (let t = has-tail x y (nodes_of l) h in elim (cases_bool (list_any is_marker l)) [ inl a ↦ rw (a, t.0) (entries-below l x t.1) | inr a ↦ rw a refl ])

pub entries-without : (p : Entry → Bool) (l : List Entry) (x : ℕ) → has_node x l ≡ false → has_node x (without_last p l) ≡ false
entries-without p l x h = not-then (has_node x l) (has_node x (without_last p l)) (without-node p l x) h

pub entries-marked : (l : List Entry) (x : ℕ) → has_node x l ≡ false → has_node x (l ++ Marker ∷ []) ≡ false
entries-marked l x h = ap (has x) (nodes-append l (Marker ∷ [])) ∙ has-append x (nodes_of l) [] ∙ rw h refl

entries-up : (p : Entry → Bool) (l : List Entry) (x : ℕ) → has_node x l ≡ false → has_node x (up_to p l) ≡ false
entries-up p [] x h = refl
entries-up p (Marker ∷ l) x h = elim (cases_bool (list_any p l)) [
  | inl a ↦ rw a (entries-up p l x h)
  | inr a ↦ elim (cases_bool (p Marker)) [ inl b ↦ rw (a, b) refl | inr b ↦ rw (a, b) refl ]
]
entries-up p (Node y ∷ l) x h =
    let t = has-tail x y (nodes_of l) h in
    elim (cases_bool (list_any p l)) [
      | inl a ↦ rw (a, t.0) (entries-up p l x t.1)
      | inr a ↦ elim (cases_bool (p (Node y))) [ inl b ↦ rw (a, b, t.0) refl | inr b ↦ rw (a, b) refl ]
    ]

entries-above : (p : Entry → Bool) (l : List Entry) (x : ℕ) → has_node x l ≡ false → has_node x (above p l) ≡ false
entries-above p [] x h = refl
entries-above p (Marker ∷ l) x h = elim (cases_bool (list_any p l)) [
  | inl a ↦ rw a (entries-above p l x h)
  | inr a ↦ elim (cases_bool (p Marker)) [ inl b ↦ rw (a, b) h | inr b ↦ rw (a, b) h ]
]
entries-above p (Node y ∷ l) x h =
    let t = has-tail x y (nodes_of l) h in
    elim (cases_bool (list_any p l)) [
      | inl a ↦ rw a (entries-above p l x t.1)
      | inr a ↦ elim (cases_bool (p (Node y))) [ inl b ↦ rw (a, b) t.1 | inr b ↦ rw (a, b, t.0) t.1 ]
    ]

entries-first : (p : Entry → Bool) (l : List Entry) (x : ℕ) → has_node x l ≡ false → has_node x (without_first p l) ≡ false
entries-first p [] x h = refl
entries-first p (Marker ∷ l) x h = elim (cases_bool (p Marker)) [ inl b ↦ rw b h | inr b ↦ rw b (entries-first p l x h) ]
entries-first p (Node y ∷ l) x h =
    let t = has-tail x y (nodes_of l) h in
    elim (cases_bool (p (Node y))) [ inl b ↦ rw b t.1 | inr b ↦ rw (b, t.0) (entries-first p l x t.1) ]

entries-both : (l m : List Entry) (x : ℕ) → has_node x l ≡ false → has_node x m ≡ false → has_node x (l ++ m) ≡ false
entries-both l m x h k = ap (has x) (nodes-append l m) ∙ has-append x (nodes_of l) (nodes_of m) ∙ rw h k

pub entries-pushed : (t : Tree) (c : ℕ) (l : List Entry) (x : ℕ) → x ≢ c → has_node x l ≡ false → has_node x (pushed t c l) ≡ false
entries-pushed t c l x n h = elim (cases_bool (has_three t c l)) [
  | inl a ↦ rw a (entries-both (up_to is_marker l ++ without_first (alike t c) (above is_marker l)) (Node c ∷ []) x
      (entries-both (up_to is_marker l) (without_first (alike t c) (above is_marker l)) x (entries-up is_marker l x h) (entries-first (alike t c) (above is_marker l) x (entries-above is_marker l x h))) other)
  | inr a ↦ rw a (entries-both l (Node c ∷ []) x h other)
]
  where
    other : has_node x (Node c ∷ []) ≡ false
    other = elim (cases_eqb x c) [ inl q ↦ absurd (n q.1) | inr q ↦ rw q.0 refl ]

pub pushed-length : (t : Tree) (c : ℕ) (l : List Entry) → length (pushed t c l) ≤ length l + 1
pushed-length t c l =
    let u = up-above is_marker l in
    let f = fewer-first (alike t c) (above is_marker l) in
    elim (cases_bool (has_three t c l)) [
      | inl a ↦ rw a (let e = length-append (up_to is_marker l ++ without_first (alike t c) (above is_marker l)) (Node c ∷ []) in let g = length-append (up_to is_marker l) (without_first (alike t c) (above is_marker l)) in omega (arith, u, f, e, g))
      | inr a ↦ rw a (let e = length-append l (Node c ∷ []) in omega (arith, e))
    ]
  where
    up-above : (p : Entry → Bool) (xs : List Entry) → length (up_to p xs) + length (above p xs) ≡ length xs
    up-above p [] = refl
    up-above p (x ∷ xs) = let r = up-above p xs in elim (cases_bool (list_any p xs)) [
      | inl e ↦ rw e (omega (arith, r))
      | inr e ↦ rw e (let z : length (up_to p xs) ≡ 0 = ap length (none-up p xs e) in elim (cases_bool (p x)) [ inl f ↦ rw f (omega (arith, r, z)) | inr f ↦ rw f (omega (arith, r, z)) ])
    ]
      where
        none-up : (p : Entry → Bool) (ys : List Entry) → list_any p ys ≡ false → up_to p ys ≡ []
        none-up p [] h = refl
        none-up p (y ∷ ys) h = elim (cases_bool (p y)) [
          | inl a ↦ absurd (let k = rw a at h in cc)
          | inr a ↦ (let k : list_any p ys ≡ false = rw a at h in rw (k, a) refl)
        ]

    fewer-first : (p : Entry → Bool) (xs : List Entry) → length (without_first p xs) ≤ length xs
    fewer-first p [] = omega arith
    fewer-first p (x ∷ xs) = let r = fewer-first p xs in elim (cases_bool (p x)) [ inl a ↦ rw a (omega arith) | inr a ↦ rw a (omega (arith, r)) ]

pub pushed-free : (s : List ℕ) (l l' : List Entry) (c : ℕ) → ((x : ℕ) → x ≢ c → has_node x l ≡ false → has_node x l' ≡ false) → first_of s ≢ Some c → IsFirstFree s l → IsFirstFree s l'
pushed-free s l l' c f n h = λ x e. f x (λ q. n (e ∙ ap Some q)) (h x e)

pub same-out : (t u : Tree) (o : Option ℕ) → u ≡ unmarked t InList o → IsSameTree t u
same-out t u None e = ap bare e
same-out t u (Some x) e = ap bare e

pub place-pushed : (s s' : List ℕ) (c : ℕ) (t u : Tree) → IsSameTree t u → s' ≡ s ++ c ∷ [] → CanPlace t s → CanPlace u s'
place-pushed [] s' c t u e f h = absurd h
place-pushed (x ∷ s) s' c t u e f h = lasting-place (x ∷ s) s' t u e (ap first_of f) h

pub nodes-pushed : (t u : Tree) (c : ℕ) (s s' : List ℕ) → u.labels ≡ t.labels → s' ≡ s ++ c ∷ [] → c < length t.labels → AreNodes t s → AreNodes u s'
nodes-pushed t u c s s' e f b h = λ x m.
    subst (λ ls. x < length ls) (sym e) (elim (has-either x s (c ∷ []) (sym (ap (has x) f) ∙ m)) [
      | inl q ↦ h x q
      | inr q ↦ elim (has-head x c [] q) [ inl r ↦ (let k : x ≡ c = r in omega (arith, k, b)) | inr r ↦ absurd (let k = r in cc) ]
    ])
