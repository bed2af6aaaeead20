-- What is true between calls is true after a round.
use Rattle.std.proofs.Common.{◌≡◌, ◌≢◌, ℕ, zero, suc, ◌+◌, ◌-◌, ◌<◌, ◌≤◌, Bool, true, false, cond, eqb, nat_le, nat_lt, ◌&&◌, not, List, [], ◌∷◌, ◌++◌, length, length-append, map, get_or, ◌⊎◌, inl, inr, refl, sym, ◌∙◌, ap, subst, arith}
use Rattle.std.proofs.lemmas.List.{get_or_append_left, length-map}
use Rattle.std.specs.List.{flat_map}
use Rattle.html_names.specs.Sets.{is_formatting}
use Rattle.html_arena.specs.declared.data.NodeData.{NodeData}
use Rattle.html_arena.specs.declared.data.NodeData.TheVariants.{Document, Contents, Element, Text, Comment, Doctype}
use Rattle.html_arena.specs.declared.marks.Mark.{Mark}
use Rattle.html_arena.specs.declared.marks.Mark.TheVariants.{OnStack, InList}
use Rattle.html_arena.specs.Data.{IsElement, cloned, label_in, origin_in, tag_in}
use Rattle.html_arena.specs.Siblings.{has, is_in, first_of, Distinct}
use Rattle.html_arena.specs.Tree.{Tree, label_of, marked, tag_at}
use Rattle.html_arena.proofs.Siblings.{eqb-apart}
use Rattle.html_open.specs.declared.entry.Entry.{Entry}
use Rattle.html_open.specs.declared.entry.Entry.TheVariants.{Marker, Node}
use Rattle.html_open.specs.Adopting.{after_nearest, alone, clone_number, clones_down, heirs, relisted}
use Rattle.html_open.specs.Entries.{nodes_of}
use Rattle.html_open.specs.Opened.{AreOneByOrigin, IsOrdered, origin_at}
use Rattle.html_open.proofs.Hangs.{inside, le-of, lt-false, lt-of, lt-true}
use Rattle.html_open.proofs.Keeps.{Core, cases_bool, cases_eqb, eqb-self}
use Rattle.html_open.proofs.Numbering.{Distinct-down, at-once, clone-back, clone-high, clone-low, has-down, has-get}
use Rattle.html_open.proofs.Ordering.{distinct-cross, distinct-left, distinct-right, has-either, has-head, has-left, has-right}
use Rattle.html_open.proofs.Upwards.{has-first, has-more}

-- lists that are put together
has-flat : (r : ℕ → List ℕ) (ys : List ℕ) (x y : ℕ) → has y ys ≡ true → has x (r y) ≡ true → has x (flat_map r ys) ≡ true
has-flat r [] x y h e = absurd (let k = h in cc)
has-flat r (z ∷ zs) x y h e = elim (has-head y z zs h) [
  | inl q ↦ has-left x (r z) (flat_map r zs) (subst (λ (v : ℕ). has x (r v) ≡ true) q e)
  | inr q ↦ has-right x (r z) (flat_map r zs) (has-flat r zs x y q e)
]

pub flat-has : (r : ℕ → List ℕ) (ys : List ℕ) (x : ℕ) → has x (flat_map r ys) ≡ true → (y : ℕ) × (has y ys ≡ true) × (has x (r y) ≡ true)
flat-has r [] x h = absurd (let k = h in cc)
flat-has r (z ∷ zs) x h = elim (has-either x (r z) (flat_map r zs) h) [
  | inl q ↦ (z, has-first z zs, q)
  | inr q ↦ (let k = flat-has r zs x q in (k.0, has-more k.0 z zs k.1, k.2))
]

distinct-append : (xs ys : List ℕ) → Distinct xs → Distinct ys → ((x : ℕ) → has x xs ≡ true → has x ys ≡ true → ⊥) → Distinct (xs ++ ys)
distinct-append [] ys a b h = b
distinct-append (x ∷ xs) ys a b h = (
  elim (cases_bool (has x (xs ++ ys))) [
    | inl e ↦ elim (has-either x xs ys e) [
      | inl q ↦ absurd (let k = a.0 in cc)
      | inr q ↦ absurd (h x (has-first x xs) q)
    ]
    | inr e ↦ e
  ],
  distinct-append xs ys a.1 b (λ y m. h y (has-more y x xs m)),
)

distinct-flat : (r : ℕ → List ℕ) (own : ℕ → ℕ) (xs : List ℕ) → Distinct xs → ((y : ℕ) → has y xs ≡ true → Distinct (r y))
    → ((y x : ℕ) → has y xs ≡ true → has x (r y) ≡ true → own x ≡ y) → Distinct (flat_map r xs)
distinct-flat r own [] d e o = tt
distinct-flat r own (y ∷ ys) d e o =
    distinct-append (r y) (flat_map r ys) (e y (has-first y ys)) (distinct-flat r own ys d.1 (λ z m. e z (has-more z y ys m)) (λ z x m. o z x (has-more z y ys m))) (λ x a b.
    let k = flat-has r ys x b in
    let q : y ≡ k.0 = sym (o y x (has-first y ys) a) ∙ o k.0 x (has-more k.0 y ys k.1) k.2 in
    (let m = d.0 in let l : has y ys ≡ true = subst (λ (v : ℕ). has v ys ≡ true) (sym q) k.1 in cc))

-- the nodes of the new list
nodes-map : (ys : List ℕ) (es : List Entry) → nodes_of (map Node ys ++ es) ≡ ys ++ nodes_of es
nodes-map [] es = refl
nodes-map (y ∷ ys) es = ap (λ zs. y ∷ zs) (nodes-map ys es)

pub relisted-nodes : (f : ℕ) (stays : ℕ → Bool) (cs : List ℕ) (n k : ℕ) (es : List Entry) → nodes_of (flat_map (relisted f stays cs n k) es) ≡ flat_map (heirs f stays cs n k) (nodes_of es)
relisted-nodes f stays cs n k [] = refl
relisted-nodes f stays cs n k (Marker ∷ es) = relisted-nodes f stays cs n k es
relisted-nodes f stays cs n k (Node x ∷ es) =
    nodes-map (heirs f stays cs n k x) (flat_map (relisted f stays cs n k) es) ∙ ap (λ zs. heirs f stays cs n k x ++ zs) (relisted-nodes f stays cs n k es)

-- tests that agree
heirs-same : (f : ℕ) (p q : ℕ → Bool) (cs : List ℕ) (n k x : ℕ) → (x ≢ f → p x ≡ q x) → heirs f p cs n k x ≡ heirs f q cs n k x
heirs-same f p q cs n k x h = elim (cases_eqb x f) [
  | inl e ↦ rw e.0 refl
  | inr e ↦ rw (e.0, h e.1) refl
]

pub relisted-same : (f : ℕ) (p q : ℕ → Bool) (cs : List ℕ) (n k : ℕ) (es : List Entry) → ((x : ℕ) → has x (nodes_of es) ≡ true → x ≢ f → p x ≡ q x)
    → flat_map (relisted f p cs n k) es ≡ flat_map (relisted f q cs n k) es
relisted-same f p q cs n k [] h = refl
relisted-same f p q cs n k (Marker ∷ es) h = ap (λ zs. Marker ∷ zs) (relisted-same f p q cs n k es h)
relisted-same f p q cs n k (Node x ∷ es) h =
    ap (λ zs. map Node zs ++ flat_map (relisted f p cs n k) es) (heirs-same f p q cs n k x (h x (has-first x (nodes_of es))))
    ∙ ap (λ zs. map Node (heirs f q cs n k x) ++ zs) (relisted-same f p q cs n k es (λ y m. h y (has-more y x (nodes_of es) m)))

-- labels of clones
cloned-element : (l : NodeData) → IsElement l → IsElement (cloned l)
cloned-element (Element e) h = tt
cloned-element Document h = h
cloned-element (Contents c) h = h
cloned-element (Text c) h = h
cloned-element (Comment c j) h = h
cloned-element (Doctype b p s j) h = h

cloned-tag : (l : NodeData) → tag_in (cloned l) ≡ tag_in l
cloned-tag (Element e) = refl
cloned-tag Document = refl
cloned-tag (Contents c) = refl
cloned-tag (Text c) = refl
cloned-tag (Comment c j) = refl
cloned-tag (Doctype b p s j) = refl

cloned-origin : (l : NodeData) → origin_in (cloned l) ≡ origin_in l
cloned-origin (Element e) = refl
cloned-origin Document = refl
cloned-origin (Contents c) = refl
cloned-origin (Text c) = refl
cloned-origin (Comment c j) = refl
cloned-origin (Doctype b p s j) = refl

pub get-right : {A : Type 0} (xs ys : List A) (x : ℕ) (d : A) → length xs ≤ x → get_or (xs ++ ys) x d ≡ get_or ys (x - length xs) d
get-right [] ys x d h = ap (λ (i : ℕ). get_or ys i d) (let e : x ≡ x - 0 = omega arith in e)
get-right (z ∷ zs) ys zero d h = absurd (omega arith)
get-right (z ∷ zs) ys (suc x) d h = get-right zs ys x d (omega arith) ∙ ap (λ (i : ℕ). get_or ys i d) (let e : x - length zs ≡ suc x - suc (length zs) = omega arith in e)

pub get-map : {A B : Type 0} (f : A → B) (xs : List A) (i : ℕ) (d : A) (e : B) → i < length xs → get_or (map f xs) i e ≡ f (get_or xs i d)
get-map f [] i d e h = absurd (omega arith)
get-map f (x ∷ xs) zero d e h = refl
get-map f (x ∷ xs) (suc i) d e h = get-map f xs i d e (omega arith)

module _ (t v : Tree) (X inner upper cs l : List ℕ) (f g : ℕ) (core : Core (X ++ (f ∷ (inner ++ (g ∷ upper)))) l t) (f-listed : has f l ≡ true)
    (cs-in : (x : ℕ) → has x cs ≡ true → (has x inner ≡ true) × (has x l ≡ true)) (cs-once : Distinct cs)
    (labels-are : v.labels ≡ t.labels ++ map (λ x. cloned (label_of t x)) (cs ++ f ∷ []))
    (marks-are : (m : Mark) (x : ℕ) → marked v m x ≡ cond (nat_le (length t.labels) x && nat_lt x (length t.labels + length cs + 1)) true (cond (has x (f ∷ inner)) false (marked t m x)))
    (ordered : IsOrdered v (X ++ (clones_down (length t.labels) (length cs) ++ (g ∷ ((length t.labels + length cs) ∷ upper))))) where
  abbrev n : ℕ
  n = length t.labels

  abbrev k : ℕ
  k = length t.labels + length cs

  abbrev rest : List ℕ
  rest = f ∷ (inner ++ (g ∷ upper))

  abbrev stack : List ℕ
  stack = X ++ (f ∷ (inner ++ (g ∷ upper)))

  abbrev after : List ℕ
  after = X ++ (clones_down n (length cs) ++ (g ∷ (k ∷ upper)))

  abbrev r : ℕ → List ℕ
  r x = heirs f (λ y. not (has y inner)) cs n k x

  -- of which element a new node is the clone
  abbrev src : ℕ → ℕ
  src x = cond (nat_lt x n) x (cond (eqb x k) f (get_or cs (x - n) 0))

  src-old : (x : ℕ) → x < n → src x ≡ x
  src-old x b = rw (lt-true x n b) refl

  src-k : src k ≡ f
  src-k = rw (lt-false k n (omega arith), eqb-self k) refl

  src-clone : (x : ℕ) → n ≤ x → x < k → src x ≡ get_or cs (x - n) 0
  src-clone x a b = rw (lt-false x n a, eqb-apart x k (λ q. omega arith)) refl

  -- the elements that stay, and the clones
  abbrev IsNew : ℕ → Type 0
  IsNew x = ((x < n) × (x ≢ f) × (has x inner ≡ false)) ⊎ ((n ≤ x) × (x ≤ k))

  f-inner : has f inner ≡ false
  f-inner = elim (cases_bool (has f inner)) [
    | inl e ↦ absurd (distinct-cross (f ∷ []) (inner ++ (g ∷ upper)) (distinct-right X rest core.stack_once) f f (has-first f []) (has-left f inner (g ∷ upper) e) refl)
    | inr e ↦ e
  ]

  f-in : f < n
  f-in = core.list_in f f-listed

  clone-get : (x : ℕ) → n ≤ x → x < k → has (get_or cs (x - n) 0) cs ≡ true
  clone-get x a b = has-get cs (x - n) (omega arith)

  old-new : (x y : ℕ) → (x < n) × (x ≢ f) × (has x inner ≡ false) → (n ≤ y) × (y ≤ k) → src x ≡ src y → ⊥
  old-new x y a b e = elim (cases_eqb y k) [
    | inl q ↦ a.1 (sym (src-old x a.0) ∙ e ∙ ap src q.1 ∙ src-k)
    | inr q ↦
        let b1 : y ≤ k = b.1 in
        let r = q.1 in
        let lt : y < k = omega arith in
        let s : x ≡ get_or cs (y - n) 0 = sym (src-old x a.0) ∙ e ∙ src-clone y b.0 lt in
        let m = (cs-in (get_or cs (y - n) 0) (clone-get y b.0 lt)).0 in
        let z : has x inner ≡ true = subst (λ (v : ℕ). has v inner ≡ true) (sym s) m in
        (let i = a.2 in cc)
  ]

  src-once : (x y : ℕ) → IsNew x → IsNew y → src x ≡ src y → x ≡ y
  src-once x y (inl a) (inl b) e = sym (src-old x a.0) ∙ e ∙ src-old y b.0
  src-once x y (inl a) (inr b) e = absurd (old-new x y a b e)
  src-once x y (inr a) (inl b) e = absurd (old-new y x b a (sym e))
  src-once x y (inr a) (inr b) e =
      let a0 : n ≤ x = a.0 in
      let a1 : x ≤ k = a.1 in
      let b0 : n ≤ y = b.0 in
      let b1 : y ≤ k = b.1 in
      elim (cases_eqb x k) [
        | inl q ↦ elim (cases_eqb y k) [
          | inl p ↦ q.1 ∙ sym p.1
          | inr p ↦ absurd (let z = p.1 in let lt : y < k = omega arith in clash y b0 lt (sym (src-k) ∙ sym (ap src q.1) ∙ e ∙ src-clone y b0 lt))
        ]
        | inr q ↦ elim (cases_eqb y k) [
          | inl p ↦ absurd (let z = q.1 in let lt : x < k = omega arith in clash x a0 lt (sym (src-k) ∙ sym (ap src p.1) ∙ sym e ∙ src-clone x a0 lt))
          | inr p ↦
              let z = q.1 in
              let u = p.1 in
              let i : x < k = omega arith in
              let j : y < k = omega arith in
              let s = at-once cs cs-once (x - n) (y - n) (omega arith) (omega arith) (sym (src-clone x a0 i) ∙ e ∙ src-clone y b0 j) in
              omega arith
        ]
      ]
    where
      clash : (x : ℕ) → n ≤ x → x < k → f ≡ get_or cs (x - n) 0 → ⊥
      clash x a b e = (let m = (cs-in (get_or cs (x - n) 0) (clone-get x a b)).0 in let z : has f inner ≡ true = subst (λ (v : ℕ). has v inner ≡ true) (sym e) m in let i = f-inner in cc)

  -- labels
  new-length : length v.labels ≡ k + 1
  new-length =
      (let a = ap length labels-are in let b = length-append t.labels (map (λ x. cloned (label_of t x)) (cs ++ f ∷ [])) in let c = length-map (cs ++ f ∷ []) (λ x. cloned (label_of t x)) in
      let e = length-append cs (f ∷ []) in omega (arith, a, b, c, e))

  label-old : (x : ℕ) → x < n → label_of v x ≡ label_of t x
  label-old x b = ap (λ (ls : List NodeData). label_in ls x) labels-are ∙ get_or_append_left t.labels (map (λ y. cloned (label_of t y)) (cs ++ f ∷ [])) Document x b

  get-src : (x : ℕ) → n ≤ x → x ≤ k → get_or (cs ++ f ∷ []) (x - n) 0 ≡ src x
  get-src x a b = elim (cases_eqb x k) [
    | inl q ↦
        let r = q.1 in
        get-right cs (f ∷ []) (x - n) 0 (omega arith) ∙ ap (λ (i : ℕ). get_or (f ∷ []) i 0) (let e : (x - n) - length cs ≡ 0 = omega arith in e) ∙ sym src-k ∙ sym (ap src r)
    | inr q ↦ (let r = q.1 in let lt : x < k = omega arith in get_or_append_left cs (f ∷ []) 0 (x - n) (omega arith) ∙ sym (src-clone x a lt))
  ]

  label-new : (x : ℕ) → n ≤ x → x ≤ k → label_of v x ≡ cloned (label_of t (src x))
  label-new x a b =
      let e = length-append cs (f ∷ []) in
      ap (λ (ls : List NodeData). label_in ls x) labels-are ∙ get-right t.labels (map (λ y. cloned (label_of t y)) (cs ++ f ∷ [])) x Document a
      ∙ get-map (λ y. cloned (label_of t y)) (cs ++ f ∷ []) (x - n) 0 Document (omega (arith, e)) ∙ ap (λ y. cloned (label_of t y)) (get-src x a b)

  element-new : (x : ℕ) → IsNew x → IsElement (label_of t (src x)) → IsElement (label_of v x)
  element-new x (inl a) h = subst IsElement (sym (label-old x a.0)) (subst (λ (y : ℕ). IsElement (label_of t y)) (src-old x a.0) h)
  element-new x (inr a) h = subst IsElement (sym (label-new x a.0 a.1)) (cloned-element (label_of t (src x)) h)

  tag-new : (x : ℕ) → IsNew x → tag_at v x ≡ tag_at t (src x)
  tag-new x (inl a) = ap tag_in (label-old x a.0) ∙ sym (ap (tag_at t) (src-old x a.0))
  tag-new x (inr a) = ap tag_in (label-new x a.0 a.1) ∙ cloned-tag (label_of t (src x))

  origin-new : (x : ℕ) → IsNew x → origin_at v x ≡ origin_at t (src x)
  origin-new x (inl a) = ap origin_in (label-old x a.0) ∙ sym (ap (origin_at t) (src-old x a.0))
  origin-new x (inr a) = ap origin_in (label-new x a.0 a.1) ∙ cloned-origin (label_of t (src x))

  in-new : (x : ℕ) → IsNew x → x < length v.labels
  in-new x (inl a) = (let e = new-length in let b : x < n = a.0 in omega (arith, e))
  in-new x (inr a) = (let e = new-length in let b : x ≤ k = a.1 in omega (arith, e))

  -- what the new lists hold
  abbrev Comes : List ℕ → ℕ → Type 0
  Comes xs x = IsNew x × (has (src x) xs ≡ true)

  stays-new : (xs : List ℕ) (x : ℕ) → x < n → x ≢ f → has x inner ≡ false → has x xs ≡ true → Comes xs x
  stays-new xs x b ne i h = (inl (b, ne, i), subst (λ (y : ℕ). has y xs ≡ true) (sym (src-old x b)) h)

  clone-new : (xs : List ℕ) → ((y : ℕ) → has y cs ≡ true → has y xs ≡ true) → (x : ℕ) → n ≤ x → x < k → Comes xs x
  clone-new xs h x a b = (inr (a, omega arith), subst (λ (y : ℕ). has y xs ≡ true) (sym (src-clone x a b)) (h (get_or cs (x - n) 0) (clone-get x a b)))

  k-new : (xs : List ℕ) → has f xs ≡ true → Comes xs k
  k-new xs h = (inr (omega arith, omega arith), subst (λ (y : ℕ). has y xs ≡ true) (sym src-k) h)

  not-inner : (x : ℕ) → (has x inner ≡ true → ⊥) → has x inner ≡ false
  not-inner x h = elim (cases_bool (has x inner)) [ inl e ↦ absurd (h e) | inr e ↦ e ]

  in-down : (x : ℕ) → has x (clones_down n (length cs)) ≡ true → (n ≤ x) × (x < k)
  in-down x h =
      let e = sym (has-down n (length cs) x) ∙ h in
      elim (cases_bool (nat_le n x)) [
        | inl a ↦ (let b : nat_lt x (n + length cs) ≡ true = rw a at e in (le-of n x a, lt-of x (n + length cs) b))
        | inr a ↦ absurd (let b = rw a at e in cc)
      ]

  inner-stack : (x : ℕ) → has x inner ≡ true → has x stack ≡ true
  inner-stack x h = has-right x X rest (has-more x f (inner ++ (g ∷ upper)) (has-left x inner (g ∷ upper) h))

  tail-stays : (x : ℕ) → has x (g ∷ upper) ≡ true → Comes stack x
  tail-stays x h =
      let s = has-right x X rest (has-more x f (inner ++ (g ∷ upper)) (has-right x inner (g ∷ upper) h)) in
      stays-new stack x (core.stack_in x s)
      (λ q. distinct-cross (f ∷ []) (inner ++ (g ∷ upper)) (distinct-right X rest core.stack_once) f x (has-first f []) (has-right x inner (g ∷ upper) h) (sym q))
      (not-inner x (λ e. distinct-cross inner (g ∷ upper) (distinct-right X rest core.stack_once).1 x x e h refl)) s

  front-stays : (x : ℕ) → has x X ≡ true → Comes stack x
  front-stays x h =
      let s = has-left x X rest h in
      stays-new stack x (core.stack_in x s) (λ q. distinct-cross X rest core.stack_once x f h (has-first f (inner ++ (g ∷ upper))) q)
      (not-inner x (λ e. distinct-cross X rest core.stack_once x x h (has-more x f (inner ++ (g ∷ upper)) (has-left x inner (g ∷ upper) e)) refl)) s

  f-stack : has f stack ≡ true
  f-stack = has-right f X rest (has-first f (inner ++ (g ∷ upper)))

  stack-comes : (x : ℕ) → has x after ≡ true → Comes stack x
  stack-comes x h = elim (has-either x X (clones_down n (length cs) ++ (g ∷ (k ∷ upper))) h) [
    | inl q ↦ front-stays x q
    | inr q ↦ elim (has-either x (clones_down n (length cs)) (g ∷ (k ∷ upper)) q) [
      | inl p ↦ (let b = in-down x p in clone-new stack (λ y m. inner-stack y (cs-in y m).0) x b.0 b.1)
      | inr p ↦ elim (has-head x g (k ∷ upper) p) [
        | inl e ↦ tail-stays x (subst (λ (y : ℕ). has y (g ∷ upper) ≡ true) (sym e) (has-first g upper))
        | inr e ↦ elim (has-head x k upper e) [
          | inl z ↦ subst (Comes stack) (sym z) (k-new stack f-stack)
          | inr z ↦ tail-stays x (has-more x g upper z)
        ]
      ]
    ]
  ]

  -- and what they hold of the old ones
  stack-clones : (x : ℕ) → n ≤ x → x ≤ k → has x after ≡ true
  stack-clones x a b = has-right x X (clones_down n (length cs) ++ (g ∷ (k ∷ upper))) (elim (cases_eqb x k) [
    | inl q ↦ has-right x (clones_down n (length cs)) (g ∷ (k ∷ upper)) (has-more x g (k ∷ upper) (subst (λ (y : ℕ). has y (k ∷ upper) ≡ true) (sym q.1) (has-first k upper)))
    | inr q ↦ (let z = q.1 in has-left x (clones_down n (length cs)) (g ∷ (k ∷ upper)) (has-down n (length cs) x ∙ inside n x x (n + length cs) a (omega arith)))
  ])

  stack-kept : (x : ℕ) → has x stack ≡ true → x ≢ f → has x inner ≡ false → has x after ≡ true
  stack-kept x h ne i = elim (has-either x X rest h) [
    | inl q ↦ has-left x X (clones_down n (length cs) ++ (g ∷ (k ∷ upper))) q
    | inr q ↦ has-right x X (clones_down n (length cs) ++ (g ∷ (k ∷ upper))) (has-right x (clones_down n (length cs)) (g ∷ (k ∷ upper)) (elim (has-head x f (inner ++ (g ∷ upper)) q) [
      | inl e ↦ absurd (ne e)
      | inr e ↦ elim (has-either x inner (g ∷ upper) e) [
        | inl z ↦ absurd (let y = i in cc)
        | inr z ↦ elim (has-head x g upper z) [
          | inl u ↦ subst (λ (y : ℕ). has y (g ∷ (k ∷ upper)) ≡ true) (sym u) (has-first g (k ∷ upper))
          | inr u ↦ has-more x g (k ∷ upper) (has-more x k upper u)
        ]
      ]
    ]))
  ]

  cs-not-f : (x : ℕ) → has x cs ≡ true → x ≢ f
  cs-not-f x h q = (let m = (cs-in x h).0 in let z : has f inner ≡ true = subst (λ (y : ℕ). has y inner ≡ true) q m in let i = f-inner in cc)

  heir : (y x : ℕ) → has x (r y) ≡ true → (((y ≡ f) × (x ≡ k)) ⊎ ((has y cs ≡ true) × (x ≡ k))) ⊎ (((has y cs ≡ true) × (x ≡ clone_number n cs y)) ⊎ ((x ≡ y) × (y ≢ f) × (has y inner ≡ false)))
  heir y x h = elim (cases_eqb y f) [
    | inl q ↦ inl (inl (q.1, only cs (rw q.0 at h)))
    | inr q ↦ elim (cases_bool (has y cs)) [
      | inl e ↦ elim (has-head x (clone_number n cs y) (after_nearest cs y k) (rw (q.0, e) at h)) [
        | inl z ↦ inr (inl (e, z))
        | inr z ↦ inl (inr (e, near (is_in y (first_of cs)) z))
      ]
      | inr e ↦ elim (cases_bool (has y inner)) [
        | inl z ↦ absurd (let u = rw (q.0, e, z) at h in cc)
        | inr z ↦ inr (inr (one (rw (q.0, e, z) at h), q.1, z))
      ]
    ]
  ]
    where
      only : (zs : List ℕ) → has x (alone zs k) ≡ true → x ≡ k
      only [] e = elim (has-head x k [] e) [ inl z ↦ z | inr z ↦ absurd (let u = z in cc) ]
      only (z ∷ zs) e = absurd (let u = e in cc)

      near : (b : Bool) → has x (cond b (k ∷ []) []) ≡ true → x ≡ k
      near true e = elim (has-head x k [] e) [ inl z ↦ z | inr z ↦ absurd (let u = z in cc) ]
      near false e = absurd (let u = e in cc)

      one : has x (y ∷ []) ≡ true → x ≡ y
      one e = elim (has-head x y [] e) [ inl z ↦ z | inr z ↦ absurd (let u = z in cc) ]

  list-comes : (x : ℕ) → has x (flat_map r l) ≡ true → Comes l x
  list-comes x h =
      let e = flat-has r l x h in
      elim (heir e.0 x e.2) [
        | inl q ↦ elim q [
          | inl p ↦ subst (Comes l) (sym p.1) (k-new l f-listed)
          | inr p ↦ subst (Comes l) (sym p.1) (k-new l f-listed)
        ]
        | inr q ↦ elim q [
          | inl p ↦
              let a = clone-low n cs e.0 in
              let b = clone-high n cs e.0 p.0 in
              subst (Comes l) (sym p.1) (clone-new l (λ y m. (cs-in y m).1) (clone_number n cs e.0) a b)
          | inr p ↦ subst (Comes l) (sym p.0) (stays-new l e.0 (core.list_in e.0 e.1) p.1 p.2 e.1)
        ]
      ]

  list-kept : (x : ℕ) → has x l ≡ true → x ≢ f → has x inner ≡ false → has x (flat_map r l) ≡ true
  list-kept x h ne i =
      let c : has x cs ≡ false = (elim (cases_bool (has x cs)) [ inl e ↦ absurd (let m = (cs-in x e).0 in cc) | inr e ↦ e ]) in
      has-flat r l x x h (rw (eqb-apart x f ne, c, i) (has-first x []))

  clone-is : (x : ℕ) → n ≤ x → x < k → clone_number n cs (get_or cs (x - n) 0) ≡ x
  clone-is x a b =
      let y = get_or cs (x - n) 0 in
      let m = clone-get x a b in
      let lo = clone-low n cs (get_or cs (x - n) 0) in
      let hi = clone-high n cs (get_or cs (x - n) 0) m in
      let s = at-once cs cs-once (clone_number n cs (get_or cs (x - n) 0) - n) (x - n) (omega arith) (omega arith) (clone-back n cs (get_or cs (x - n) 0) m) in
      omega arith

  list-clones : (x : ℕ) → n ≤ x → x ≤ k → has x (flat_map r l) ≡ true
  list-clones x a b = elim (cases_eqb x k) [
    | inl q ↦ subst (λ (y : ℕ). has y (flat_map r l) ≡ true) (sym q.1) (last cs refl)
    | inr q ↦
        let z = q.1 in
        let lt : x < k = omega arith in
        let m = clone-get x a lt in
        has-flat r l x (get_or cs (x - n) 0) (cs-in (get_or cs (x - n) 0) m).1
        (rw (eqb-apart (get_or cs (x - n) 0) f (cs-not-f (get_or cs (x - n) 0) m), m, clone-is x a lt) (has-first x (after_nearest cs (get_or cs (x - n) 0) k)))
  ]
    where
      last : (zs : List ℕ) → cs ≡ zs → has k (flat_map r l) ≡ true
      last [] e = has-flat r l k f f-listed (rw (eqb-self f) (subst (λ (ys : List ℕ). has k (alone ys k) ≡ true) (sym e) (has-first k [])))
      last (y ∷ ys) e =
          let m : has y cs ≡ true = subst (λ (zs : List ℕ). has y zs ≡ true) (sym e) (has-first y ys) in
          let i : is_in y (first_of cs) ≡ true = subst (λ (zs : List ℕ). is_in y (first_of zs) ≡ true) (sym e) (eqb-self y) in
          has-flat r l k y (cs-in y m).1 (rw (eqb-apart y f (cs-not-f y m), m) (has-more k (clone_number n cs y) (after_nearest cs y k) (rw i (has-first k []))))

  -- marks tell who is in the new lists
  tells : (old new : List ℕ) → ((x : ℕ) → has x new ≡ true → Comes old x) → ((x : ℕ) → n ≤ x → x ≤ k → has x new ≡ true)
      → ((x : ℕ) → has x old ≡ true → x ≢ f → has x inner ≡ false → has x new ≡ true) → (x : ℕ)
      → cond (nat_le n x && nat_lt x (k + 1)) true (cond (has x (f ∷ inner)) false (has x old)) ≡ has x new
  tells old new come clones kept x = elim (cases_bool (nat_le n x && nat_lt x (k + 1))) [
    | inl e ↦ (let b = both n x (k + 1) e in rw e (sym (clones x b.0 (let c : x < k + 1 = b.1 in omega arith))))
    | inr e ↦ rw e (elim (cases_bool (has x new)) [
      | inl h ↦ rw h (elim (come x h).0 [
        | inl a ↦ rw (eqb-apart x f a.1, a.2) (subst (λ (y : ℕ). has y old ≡ true) (src-old x a.0) (come x h).1)
        | inr a ↦ absurd (let z = inside n x x (k + 1) a.0 (let c : x ≤ k = a.1 in omega arith) in cc)
      ])
      | inr h ↦ rw h (elim (cases_bool (has x (f ∷ inner))) [
        | inl a ↦ rw a refl
        | inr a ↦ elim (cases_bool (has x old)) [
          | inl o ↦ absurd (let p = apart-of x a in let z = kept x o p.0 p.1 in cc)
          | inr o ↦ rw (a, o) refl
        ]
      ])
    ])
  ]
    where
      both : (a x b : ℕ) → (nat_le a x && nat_lt x b) ≡ true → (a ≤ x) × (x < b)
      both a x b h = elim (cases_bool (nat_le a x)) [
        | inl e ↦ (let z : nat_lt x b ≡ true = rw e at h in (le-of a x e, lt-of x b z))
        | inr e ↦ absurd (let z = rw e at h in cc)
      ]

      apart-of : (x : ℕ) → has x (f ∷ inner) ≡ false → (x ≢ f) × (has x inner ≡ false)
      apart-of x h = elim (cases_eqb x f) [
        | inl q ↦ absurd (let z : has x (f ∷ inner) ≡ true = rw q.0 refl in cc)
        | inr q ↦ (q.1, rw q.0 at h)
      ]

  -- no element stands twice in the new lists
  after-once : Distinct after
  after-once =
      let d = core.stack_once in
      let tail-d = distinct-right inner (g ∷ upper) (distinct-right X rest d).1 in
      distinct-append X (clones_down n (length cs) ++ (g ∷ (k ∷ upper))) (distinct-left X rest d)
      (distinct-append (clones_down n (length cs)) (g ∷ (k ∷ upper)) (Distinct-down n (length cs)) (
        elim (cases_bool (has g (k ∷ upper))) [
          | inl e ↦ absurd (elim (has-head g k upper e) [
            | inl q ↦ (let b = core.stack_in g (has-right g X rest (has-more g f (inner ++ (g ∷ upper)) (has-right g inner (g ∷ upper) (has-first g upper)))) in let z : g ≡ k = q in omega arith)
            | inr q ↦ (let z = tail-d.0 in cc)
          ])
          | inr e ↦ e
        ],
        (
          elim (cases_bool (has k upper)) [
            | inl e ↦ absurd (let b = core.stack_in k (has-right k X rest (has-more k f (inner ++ (g ∷ upper)) (has-right k inner (g ∷ upper) (has-more k g upper e)))) in omega arith)
            | inr e ↦ e
          ],
          tail-d.1,
        ),
      )
      (λ x a b.
      let i = in-down x a in
      let i0 : n ≤ x = i.0 in
      let i1 : x < k = i.1 in
      elim (has-head x g (k ∷ upper) b) [
        | inl q ↦ old-high x i0 (subst (λ (y : ℕ). has y (g ∷ upper) ≡ true) (sym q) (has-first g upper))
        | inr q ↦ elim (has-head x k upper q) [
          | inl p ↦ (let z : x ≡ k = p in omega arith)
          | inr p ↦ old-high x i0 (has-more x g upper p)
        ]
      ]))
      (λ x a b.
      let lo = core.stack_in x (has-left x X rest a) in
      elim (has-either x (clones_down n (length cs)) (g ∷ (k ∷ upper)) b) [
        | inl q ↦ (let i0 : n ≤ x = (in-down x q).0 in omega arith)
        | inr q ↦ elim (has-head x g (k ∷ upper) q) [
          | inl p ↦ distinct-cross X rest d x g a (has-more g f (inner ++ (g ∷ upper)) (has-right g inner (g ∷ upper) (has-first g upper))) p
          | inr p ↦ elim (has-head x k upper p) [
            | inl z ↦ (let y : x ≡ k = z in omega arith)
            | inr z ↦ distinct-cross X rest d x x a (has-more x f (inner ++ (g ∷ upper)) (has-right x inner (g ∷ upper) (has-more x g upper z))) refl
          ]
        ]
      ])
    where
      old-high : (x : ℕ) → n ≤ x → has x (g ∷ upper) ≡ true → ⊥
      old-high x a h = (let b = core.stack_in x (has-right x X rest (has-more x f (inner ++ (g ∷ upper)) (has-right x inner (g ∷ upper) h))) in omega arith)

  -- the entry for which a new entry stands
  abbrev head_or : List ℕ → ℕ
  head_or [] = f
  head_or (y ∷ ys) = y

  abbrev own : ℕ → ℕ
  own x = cond (eqb x k) (head_or cs) (src x)

  own-apart : (x : ℕ) → x ≢ k → own x ≡ src x
  own-apart x ne = rw (eqb-apart x k ne) refl

  own-k : own k ≡ head_or cs
  own-k = rw (eqb-self k) refl

  k-owner : (y : ℕ) → has k (r y) ≡ true → has y l ≡ true → head_or cs ≡ y
  k-owner y h m = elim (cases_eqb y f) [
    | inl q ↦ first cs (rw q.0 at h) ∙ sym q.1
    | inr q ↦ elim (cases_bool (has y cs)) [
      | inl e ↦ elim (has-head k (clone_number n cs y) (after_nearest cs y k) (rw (q.0, e) at h)) [
        | inl z ↦ absurd (let b = clone-high n cs y e in let u : k ≡ clone_number n cs y = z in omega arith)
        | inr z ↦ near cs z
      ]
      | inr e ↦ elim (cases_bool (has y inner)) [
        | inl z ↦ absurd (let u = rw (q.0, e, z) at h in cc)
        | inr z ↦ absurd (let b = core.list_in y m in elim (has-head k y [] (rw (q.0, e, z) at h)) [ inl u ↦ (let w : k ≡ y = u in omega arith) | inr u ↦ (let w : false ≡ true = u in cc) ])
      ]
    ]
  ]
    where
      first : (zs : List ℕ) → has k (alone zs k) ≡ true → head_or zs ≡ f
      first [] e = refl
      first (z ∷ zs) e = absurd (let u = e in cc)

      near : (zs : List ℕ) → has k (after_nearest zs y k) ≡ true → head_or zs ≡ y
      near [] e = absurd (let u = e in cc)
      near (z ∷ zs) e = elim (cases_eqb y z) [
        | inl q ↦ sym q.1
        | inr q ↦ absurd (let u = rw q.0 at e in cc)
      ]

  owner : (y x : ℕ) → has y l ≡ true → has x (r y) ≡ true → own x ≡ y
  owner y x m h = elim (cases_eqb x k) [
    | inl q ↦ ap own q.1 ∙ own-k ∙ k-owner y (subst (λ (z : ℕ). has z (r y) ≡ true) q.1 h) m
    | inr q ↦ own-apart x q.1 ∙ elim (heir y x h) [
      | inl p ↦ elim p [ inl z ↦ absurd (q.1 z.1) | inr z ↦ absurd (q.1 z.1) ]
      | inr p ↦ elim p [
        | inl z ↦
            let a = clone-low n cs y in
            let b = clone-high n cs y z.0 in
            ap src z.1 ∙ src-clone (clone_number n cs y) a b ∙ clone-back n cs y z.0
        | inr z ↦ ap src z.0 ∙ src-old y (core.list_in y m)
      ]
    ]
  ]

  heirs-once : (y : ℕ) → has y l ≡ true → Distinct (r y)
  heirs-once y m = elim (cases_eqb y f) [
    | inl q ↦ rw q.0 (single cs)
    | inr q ↦ elim (cases_bool (has y cs)) [
      | inl e ↦ rw (q.0, e) (pair (is_in y (first_of cs)) (clone-high n cs y e))
      | inr e ↦ elim (cases_bool (has y inner)) [ inl z ↦ rw (q.0, e, z) tt | inr z ↦ rw (q.0, e, z) (refl, tt) ]
    ]
  ]
    where
      single : (zs : List ℕ) → Distinct (alone zs k)
      single [] = (refl, tt)
      single (z ∷ zs) = tt

      pair : (b : Bool) → clone_number n cs y < k → Distinct (clone_number n cs y ∷ cond b (k ∷ []) [])
      pair true h = (rw (eqb-apart (clone_number n cs y) k (λ q. omega arith)) refl, (refl, tt))
      pair false h = (refl, tt)

  one-origin : (old1 old2 new1 new2 : List ℕ) → AreOneByOrigin t old1 old2 → ((x : ℕ) → has x new1 ≡ true → Comes old1 x) → ((x : ℕ) → has x new2 ≡ true → Comes old2 x) → AreOneByOrigin v new1 new2
  one-origin old1 old2 new1 new2 one a b = λ i x y h j e q.
      let p = a x h in
      let z = b y j in
      src-once x y p.0 z.0 (one i (src x) (src y) p.1 z.1 (sym (origin-new x p.0) ∙ e) (sym (origin-new y z.0) ∙ q))

  -- an element that was not in the list is not in the new one
  pub still-unlisted : (x : ℕ) → x < length t.labels → has x l ≡ false → has x (flat_map (heirs f (λ y. not (has y inner)) cs (length t.labels) (length t.labels + length cs)) l) ≡ false
  still-unlisted x b h = elim (cases_bool (has x (flat_map r l))) [
    | inl e ↦ absurd (let z = subst (λ (y : ℕ). has y l ≡ true) (src-old x b) (list-comes x e).1 in cc)
    | inr e ↦ e
  ]

  pub core-after : Core after (flat_map r l) v
  core-after = record {
    stack_in = λ x h. in-new x (stack-comes x h).0;
    elements = λ x h. (let c = stack-comes x h in element-new x c.0 (core.elements (src x) c.1));
    stack_once = after-once;
    ordered = ordered;
    list_in = λ x h. in-new x (list-comes x h).0;
    formatting = λ x h. (let c = list-comes x h in ap is_formatting (tag-new x c.0) ∙ core.formatting (src x) c.1);
    list_once = distinct-flat r own l core.list_once heirs-once owner;
    on_stack = λ x. marks-are OnStack x ∙ ap (λ b. cond (nat_le n x && nat_lt x (k + 1)) true (cond (has x (f ∷ inner)) false b)) (core.on_stack x) ∙ tells stack after stack-comes stack-clones stack-kept x;
    in_list = λ x. marks-are InList x ∙ ap (λ b. cond (nat_le n x && nat_lt x (k + 1)) true (cond (has x (f ∷ inner)) false b)) (core.in_list x) ∙ tells l (flat_map r l) list-comes list-clones list-kept x;
    stack_origins = one-origin stack stack after after core.stack_origins stack-comes stack-comes;
    list_origins = one-origin l l (flat_map r l) (flat_map r l) core.list_origins list-comes list-comes;
    shared_origins = one-origin l stack (flat_map r l) after core.shared_origins list-comes stack-comes;
  }
