-- How many steps calls count.
use Rattle.std.proofs.Common.{ℕ, zero, suc, ◌+◌, ◌*◌, ◌≡◌, ◌≢◌, ◌<◌, ◌≤◌, ◌⊎◌, Bool, true, false, List, [], ◌∷◌, length, length-append, inl, inr, refl, sym, ap, subst, ◌∙◌, arith}
use Rattle.std.specs.Prelude.{◌-◌, slice_set}
use Rattle.std.specs.List.{sum_by}
use Rattle.std.proofs.Math.Nat.{le-max_left, le-max_right}
use Rattle.std.proofs.lemmas.Nat.{mul-le}
use Rattle.std.proofs.lemmas.Bool.{false≢true}
use Rattle.std.proofs.lemmas.List.Sums.{sum_by-cons}
use Rattle.html_names.specs.Names.{tag_of}
use Rattle.html_names.specs.Sets.{is_template}
use Rattle.html_arena.specs.declared.data.NewNode.{NewNode}
use Rattle.html_arena.specs.declared.data.NewNode.TheVariants as new
use Rattle.html_arena.specs.declared.data.NodeData.{NodeData}
use Rattle.html_arena.specs.declared.data.NodeData.TheVariants as node
use Rattle.html_arena.specs.declared.data.Origin.{Origin}
use Rattle.html_arena.specs.declared.data.Origin.TheVariants.{Implied, Nothing, Token}
use Rattle.html_arena.specs.Data.{IsElement, attrs_in, label_in, origin_in, with_attrs}
use Rattle.html_arena.specs.Make.{has_contents, label_for}
use Rattle.html_arena.specs.Merge.{lacking, merged}
use Rattle.html_arena.specs.Siblings.{Distinct, has}
use Rattle.html_arena.specs.Tree.{Tree as Nodes, label_of, more, named, tag_at, with_merged}
use Rattle.html_arena.proofs.Kids.{length-le_below}
use Rattle.html_tokens.specs.declared.attributes.Attr.{Attr}
use Rattle.html_open.specs.declared.entry.Entry.{Entry}
use Rattle.html_open.specs.declared.entry.Entry.TheVariants.{Marker, Node}
use Rattle.html_open.specs.declared.places.Place.{Place}
use Rattle.html_open.specs.Entries.{alike, comparisons, has_three, is_marker, push_steps}
use Rattle.html_open.specs.Lists.{above, after_first}
use Rattle.html_open.specs.Marking.{bare}
use Rattle.html_open.proofs.Counting.{looked-few}
use Rattle.html_open.proofs.Keeps.{cases_bool, cases_eqb, eqb-self}
use Rattle.html_tree.specs.Inserting.{rest_of, with_new}
use Rattle.html_tree.specs.Since.{Keeps as TreeKeeps, Since, essence}
use Rattle.html_tree.specs.States.{IsSound, State as Tree}
use Rattle.html_tree.specs.Steps.{text_steps}
use Rattle.html_ledger.specs.declared.fate.Fate.{Fate}
use Rattle.html_ledger.specs.Entries.{Entries}
use Rattle.html_ledger.specs.declared.symbol.Symbol.{Symbol}
use Rattle.html_construction.specs.Calls.{HasFate}
use Rattle.html_construction.specs.declared.mode.Mode.{Mode}
use Rattle.html_construction.specs.Copies.{greatest}
use Rattle.html_construction.specs.States.{State}
use Rattle.html_construction.specs.Works.{Works, broadest, deepest, reach, reach_of, span, tokenless, tokenless_in, toll, untold}
use Rattle.html_construction.proofs.Accounting.{new-labels}
use Rattle.html_construction.proofs.Building.{Since-same}
use Rattle.html_construction.proofs.Kept.{AddsFates}
use Rattle.html_construction.proofs.Labels.{label-new}

-- NODES STAY WHAT THEY ARE

tokenless-essence : (d : NodeData) → tokenless_in (essence d) ≡ tokenless_in d
tokenless-essence node.Document = refl
tokenless-essence (node.Contents h) = refl
tokenless-essence (node.Element e) = refl
tokenless-essence (node.Text s) = refl
tokenless-essence (node.Comment s i) = refl
tokenless-essence (node.Doctype n p s i) = refl

sum-front : (f : NodeData → ℕ) (ls ks : List NodeData) → length ls ≤ length ks → ((x : ℕ) → x < length ls → f (label_in ks x) ≡ f (label_in ls x)) → sum_by f ls ≤ sum_by f ks
sum-front f [] ks h e = omega arith
sum-front f (l ∷ ls) [] h e = absurd (omega (arith, h))
sum-front f (l ∷ ls) (k ∷ ks) h e =
    let p = sum_by-cons f l ls in
    let q = sum_by-cons f k ks in
    let a : f k ≡ f l = e 0 (omega arith) in
    let b = sum-front f ls ks (omega (arith, h)) (λ x i. e (suc x) (omega (arith, i))) in
    omega (arith, p, q, a, b)

tokenless-grows : (a b : Tree) → Since a b → tokenless a.tree.labels ≤ tokenless b.tree.labels
unfolding tokenless
tokenless-grows a b s = sum-front tokenless_in a.tree.labels b.tree.labels s.no_fewer
    (λ x i. sym (tokenless-essence (label_in b.tree.labels x)) ∙ ap tokenless_in (s.labels x i) ∙ tokenless-essence (label_in a.tree.labels x))

-- WHO IS OPEN

set-sum : (f : NodeData → ℕ) (ls : List NodeData) (x : ℕ) (d : NodeData) → x < length ls → sum_by f (slice_set ls x d) + f (label_in ls x) ≡ sum_by f ls + f d
set-sum f [] x d h = absurd (omega (arith, h))
set-sum f (l ∷ ls) zero d h = let p = sum_by-cons f d ls in let q = sum_by-cons f l ls in omega (arith, p, q)
set-sum f (l ∷ ls) (suc x) d h =
    let r = set-sum f ls x d (omega (arith, h)) in
    let p = sum_by-cons f l (slice_set ls x d) in
    let q = sum_by-cons f l ls in
    omega (arith, p, q, r)

set-length : (ls : List NodeData) (x : ℕ) (d : NodeData) → length (slice_set ls x d) ≡ length ls
set-length [] x d = refl
set-length (l ∷ ls) zero d = refl
set-length (l ∷ ls) (suc x) d = ap suc (set-length ls x d)

set-other : (ls : List NodeData) (x y : ℕ) (d : NodeData) → y ≢ x → label_in (slice_set ls x d) y ≡ label_in ls y
set-other [] x y d n = refl
set-other (l ∷ ls) zero zero d n = absurd (n refl)
set-other (l ∷ ls) zero (suc y) d n = refl
set-other (l ∷ ls) (suc x) zero d n = refl
set-other (l ∷ ls) (suc x) (suc y) d n = set-other ls x y d (λ e. n (ap suc e))

-- what these nodes count
abbrev counted : (NodeData → ℕ) → List NodeData → List ℕ → ℕ
counted f ls [] = 0
counted f ls (x ∷ xs) = f (label_in ls x) + counted f ls xs

counted-same : (f : NodeData → ℕ) (ls ks : List NodeData) (xs : List ℕ) → ((y : ℕ) → has y xs ≡ true → label_in ks y ≡ label_in ls y) → counted f ks xs ≡ counted f ls xs
counted-same f ls ks [] h = refl
counted-same f ls ks (x ∷ xs) h =
    let a : f (label_in ks x) ≡ f (label_in ls x) = ap f (h x (rw (eqb-self x) refl)) in
    let b = counted-same f ls ks xs (λ y m. h y (elim (cases_eqb y x) [ inl q ↦ rw q.0 refl | inr q ↦ rw q.0 m ])) in
    omega (arith, a, b)

-- different nodes count no more than all
counted-few : (f : NodeData → ℕ) → f node.Document ≡ 0 → (xs : List ℕ) (ls : List NodeData) → Distinct xs → ((y : ℕ) → has y xs ≡ true → y < length ls) → counted f ls xs ≤ sum_by f ls
counted-few f z [] ls d h = omega arith
counted-few f z (x ∷ xs) ls d h =
    let i : x < length ls = h x (rw (eqb-self x) refl) in
    let s = set-sum f ls x node.Document i in
    let n = set-length ls x node.Document in
    let apart : (y : ℕ) → has y xs ≡ true → y ≢ x = λ y m e. let w : has x xs ≡ true = subst (λ v. has v xs ≡ true) e m in let q : has x xs ≡ false = d.0 in absurd (false≢true (sym q ∙ w)) in
    let same = counted-same f ls (slice_set ls x node.Document) xs (λ y m. set-other ls x y node.Document (apart y m)) in
    let rest = counted-few f z xs (slice_set ls x node.Document) d.1 (λ y m. let k = h y (elim (cases_eqb y x) [ inl q ↦ rw q.0 refl | inr q ↦ rw q.0 m ]) in omega (arith, k, n)) in
    omega (arith, s, same, rest, z)

-- the numbers of the tokens that these nodes come from
abbrev number : Origin → List ℕ → List ℕ
number (Token i) more = i ∷ more
number Implied more = more
number Nothing more = more

abbrev numbers : List NodeData → List ℕ → List ℕ
numbers ls [] = []
numbers ls (x ∷ xs) = number (origin_in (label_in ls x)) (numbers ls xs)

number-has : (o : Origin) (i : ℕ) (more : List ℕ) → has i (number o more) ≡ true → (o ≡ Token i) ⊎ (has i more ≡ true)
number-has (Token j) i more h = elim (cases_eqb i j) [ inl q ↦ inl (ap Token (sym q.1)) | inr q ↦ inr (let k = rw q.0 at h in k) ]
number-has Implied i more h = inr h
number-has Nothing i more h = inr h

numbers-of : (ls : List NodeData) (xs : List ℕ) (i : ℕ) → has i (numbers ls xs) ≡ true → (x : ℕ) × ((has x xs ≡ true) × (origin_in (label_in ls x) ≡ Token i))
numbers-of ls [] i h = absurd (false≢true h)
numbers-of ls (x ∷ xs) i h = elim (number-has (origin_in (label_in ls x)) i (numbers ls xs) h) [
  | inl e ↦ (x, (rw (eqb-self x) refl, e))
  | inr m ↦ let r = numbers-of ls xs i m in (r.0, (elim (cases_eqb r.0 x) [ inl q ↦ rw q.0 refl | inr q ↦ rw q.0 r.1.0 ], r.1.1))
]

number-distinct : (o : Origin) (more : List ℕ) → ((i : ℕ) → o ≡ Token i → has i more ≡ false) → Distinct more → Distinct (number o more)
number-distinct (Token i) more h d = (h i refl, d)
number-distinct Implied more h d = d
number-distinct Nothing more h d = d

numbers-distinct : (ls : List NodeData) (xs : List ℕ) → Distinct xs
    → ((i x y : ℕ) → has x xs ≡ true → has y xs ≡ true → origin_in (label_in ls x) ≡ Token i → origin_in (label_in ls y) ≡ Token i → x ≡ y) → Distinct (numbers ls xs)
numbers-distinct ls [] d one = tt
numbers-distinct ls (x ∷ xs) d one =
    number-distinct (origin_in (label_in ls x)) (numbers ls xs)
    (λ i e. elim (cases_bool (has i (numbers ls xs))) [
      | inl h ↦ (let r = numbers-of ls xs i h in
          let q : x ≡ r.0 = one i x r.0 (rw (eqb-self x) refl) (later r.0 r.1.0) e r.1.1 in
          let w : has x xs ≡ true = subst (λ v. has v xs ≡ true) (sym q) r.1.0 in
          absurd (false≢true (sym d.0 ∙ w)))
      | inr h ↦ h
    ])
    (numbers-distinct ls xs d.1 (λ i y z m n e f. one i y z (later y m) (later z n) e f))
  where
    later : (y : ℕ) → has y xs ≡ true → has y (x ∷ xs) ≡ true
    later y m = elim (cases_eqb y x) [ inl q ↦ rw q.0 refl | inr q ↦ rw q.0 m ]

-- each open element comes from a token, or from none
element-counts : (d : NodeData) (more : List ℕ) → IsElement d → length (number (origin_in d) more) + tokenless_in d ≡ suc (length more)
element-counts (node.Element e) more h = origin-counts e.origin
  where
    origin-counts : (o : Origin) → length (number o more) + untold o ≡ suc (length more)
    origin-counts (Token i) = omega arith
    origin-counts Implied = omega arith
    origin-counts Nothing = omega arith
element-counts node.Document more h = absurd h
element-counts (node.Contents k) more h = absurd h
element-counts (node.Text s) more h = absurd h
element-counts (node.Comment s i) more h = absurd h
element-counts (node.Doctype n p s i) more h = absurd h

open-counts : (ls : List NodeData) (xs : List ℕ) → ((x : ℕ) → has x xs ≡ true → IsElement (label_in ls x)) → length xs ≡ length (numbers ls xs) + counted tokenless_in ls xs
open-counts ls [] h = refl
open-counts ls (x ∷ xs) h =
    let a = element-counts (label_in ls x) (numbers ls xs) (h x (rw (eqb-self x) refl)) in
    let b = open-counts ls xs (λ y m. h y (elim (cases_eqb y x) [ inl q ↦ rw q.0 refl | inr q ↦ rw q.0 m ])) in
    omega (arith, a, b)

-- no more elements are open than tokens and elements without one
pub open-few : (t : Tree) → IsSound t → length t.stack ≤ t.tokens + tokenless t.tree.labels
unfolding tokenless
open-few t s =
    let a = open-counts t.tree.labels t.stack s.elements in
    let b = length-le_below (numbers t.tree.labels t.stack) t.tokens (numbers-distinct t.tree.labels t.stack s.stack_once s.stack_origins)
    (λ i h. let r = numbers-of t.tree.labels t.stack i h in s.tokens r.0 i r.1.1) in
    let c = counted-few tokenless_in refl t.stack t.tree.labels s.stack_once s.stack_in in
    omega (arith, a, b, c)

-- WHAT A CALL MAY COUNT

reach-grows : (ls ks : List NodeData) (fs gs : List Fate) → length fs ≤ length gs → tokenless ls ≤ tokenless ks → reach ls fs ≤ reach ks gs
unfolding reach
reach-grows ls ks fs gs f t = omega (arith, f, t)

toll-grows : (ls ks : List NodeData) (fs gs : List Fate) → length fs ≤ length gs → tokenless ls ≤ tokenless ks → length ls ≤ length ks → toll ls fs ≤ toll ks gs
unfolding toll
toll-grows ls ks fs gs f t n =
    let p = mul-le (length fs) (deepest ls fs + length fs + 7) (length gs) (deepest ks gs + length gs + 7) f (omega (arith, f, t)) in
    omega (arith, p, f, t, n)

-- from a state to a tree and a ledger
abbrev pub WorksTo : ℕ → ℕ → ℕ → State → Tree → Entries → Type 0
WorksTo calls clones more a t l =
    (reach a.tree.tree.labels a.ledger.fates ≤ reach t.tree.labels l.fates)
    × ((toll a.tree.tree.labels a.ledger.fates ≤ toll t.tree.labels l.fates)
    × (t.steps ≤ a.tree.steps + calls * reach t.tree.labels l.fates + clones * toll t.tree.labels l.fates + more))

fates-more : (a b : Entries) → AddsFates a b → length a.fates ≤ length b.fates
fates-more a b h = let e = ap (λ (fs : List Fate). length fs) h.fates_are in let p = length-append a.fates h.more in omega (arith, e, p)

-- the tree and the ledger went on, and the steps are counted
pub works-from : (calls clones more : ℕ) (n v : State) (t : Tree) (l : Entries) → v ≡ n → TreeKeeps v.tree t → AddsFates v.ledger l
    → (reach v.tree.tree.labels v.ledger.fates ≤ reach t.tree.labels l.fates → toll v.tree.tree.labels v.ledger.fates ≤ toll t.tree.labels l.fates
    → t.steps ≤ v.tree.steps + calls * reach t.tree.labels l.fates + clones * toll t.tree.labels l.fates + more)
    → WorksTo calls clones more n t l
works-from calls clones more n v t l e k f h =
    let s = k v.tree (Since-same v.tree) in
    let w = fates-more v.ledger l f in
    let r = reach-grows v.tree.tree.labels t.tree.labels v.ledger.fates l.fates w (tokenless-grows v.tree t s) in
    let o = toll-grows v.tree.tree.labels t.tree.labels v.ledger.fates l.fates w (tokenless-grows v.tree t s) s.no_fewer in
    subst (λ (a : State). WorksTo calls clones more a t l) e (r, (o, h r o))

-- so many steps, and no walk
pub works-counted : (more : ℕ) (n v : State) (t : Tree) (l : Entries) → v ≡ n → TreeKeeps v.tree t → AddsFates v.ledger l → t.steps ≤ v.tree.steps + more → WorksTo 0 0 more n t l
works-counted more n v t l e k f s = works-from 0 0 more n v t l e k f (λ r o. omega (arith, s))

-- the open elements are within reach
pub within-reach : (v : State) → IsSound v.tree → v.tree.tokens ≤ length v.ledger.fates → 2 * length v.tree.stack + 4 ≤ reach v.tree.tree.labels v.ledger.fates
unfolding reach
within-reach v s u = let p = open-few v.tree s in omega (arith, p, u)

list-within : (v : State) → length v.tree.list ≤ length v.ledger.fates → 2 * length v.tree.list + 4 ≤ reach v.tree.tree.labels v.ledger.fates
unfolding reach
list-within v h = omega (arith, h)

-- a walk over the open elements
pub works-walk : (n v : State) (t : Tree) (l : Entries) → v ≡ n → IsSound v.tree → v.tree.tokens ≤ length v.ledger.fates → TreeKeeps v.tree t → AddsFates v.ledger l
    → t.steps ≤ v.tree.steps + (2 * length v.tree.stack + 4) → WorksTo 1 0 0 n t l
works-walk n v t l e s u k f h = works-from 1 0 0 n v t l e k f (λ r o. let p = within-reach v s u in omega (arith, h, p, r))

-- a walk over the list
pub works-list : (n v : State) (t : Tree) (l : Entries) → v ≡ n → length n.tree.list ≤ length n.ledger.fates → TreeKeeps v.tree t → AddsFates v.ledger l
    → t.steps ≤ v.tree.steps + (2 * length v.tree.list + 4) → WorksTo 1 0 0 n t l
works-list n v t l e b k f h =
    works-from 1 0 0 n v t l e k f (λ r o. let p = list-within v (subst (λ (a : State). length a.tree.list ≤ length a.ledger.fates) (sym e) b) in omega (arith, h, p, r))

-- a text is walked to, and got more code points
pub works-text : (more : ℕ) (n v : State) (t : Tree) (l : Entries) → v ≡ n → IsSound v.tree → v.tree.tokens ≤ length v.ledger.fates → TreeKeeps v.tree t → AddsFates v.ledger l
    → t.steps ≤ v.tree.steps + more * (2 * length v.tree.stack + 4) + more → WorksTo more 0 more n t l
works-text more n v t l e s u k f h =
    works-from more 0 more n v t l e k f (λ r o. let p = within-reach v s u in let q = mul-le more (2 * length v.tree.stack + 4) more (reach t.tree.labels l.fates) (omega arith) (omega (arith, p, r)) in omega (arith, h, q))

-- one code point
pub works-char : (k : ℕ) (n v : State) (t : Tree) (l : Entries) → v ≡ n → IsSound v.tree → v.tree.tokens ≤ length v.ledger.fates → TreeKeeps v.tree t → AddsFates v.ledger l → 0 < k → k ≤ 1
    → t.steps ≤ v.tree.steps + k * (2 * length v.tree.stack + 4) + k → WorksTo 1 0 1 n t l
works-char k n v t l e s u w f b c h =
    let one : k ≡ 1 = omega (arith, b, c) in
    works-text 1 n v t l e s u w f (subst (λ j. t.steps ≤ v.tree.steps + j * (2 * length v.tree.stack + 4) + j) one h)

-- the steps of a text, where the tree is another's
pub counted-text : (v n : State) (s k j : ℕ) → v ≡ n → k ≡ j → s ≡ more v.tree.steps (text_steps v.tree v.fostering k) → s ≡ more n.tree.steps (text_steps n.tree n.fostering j)
counted-text v n s k j e o h =
    h ∙ ap (λ (x : State). more x.tree.steps (text_steps x.tree x.fostering k)) e ∙ ap (λ i. more n.tree.steps (text_steps n.tree n.fostering i)) o

-- the listed elements were opened anew
pub works-reopened : (n v : State) (t : Tree) → v ≡ n → IsSound v.tree → v.tree.tokens ≤ length v.ledger.fates → length n.tree.list ≤ length n.ledger.fates → TreeKeeps v.tree t → AddsFates v.ledger v.ledger
    → t.steps ≤ v.tree.steps + length v.tree.list * (length v.tree.stack + length v.tree.list + 7) → WorksTo 0 1 0 n t v.ledger
unfolding toll
works-reopened n v t e s u b k f h =
    works-from 0 1 0 n v t v.ledger e k f (λ r o.
    let listed : length v.tree.list ≤ length v.ledger.fates = subst (λ (a : State). length a.tree.list ≤ length a.ledger.fates) (sym e) b in
    let p = open-few v.tree s in
    let q = mul-le (length v.tree.list) (length v.tree.stack + length v.tree.list + 7) (length v.ledger.fates) (deepest v.tree.tree.labels v.ledger.fates + length v.ledger.fates + 7) listed (omega (arith, p, u, listed)) in
    omega (arith, h, q, o))

-- an adoption
pub works-adopted : (n v : State) (t : Tree) → v ≡ n → IsSound v.tree → v.tree.tokens ≤ length v.ledger.fates → length n.tree.list ≤ length n.ledger.fates → TreeKeeps v.tree t → AddsFates v.ledger v.ledger
    → t.steps ≤ v.tree.steps + (8 * length t.tree.labels + 32 * length v.tree.stack + 24 * length v.tree.list + 291) → WorksTo 0 8 0 n t v.ledger
unfolding toll
works-adopted n v t e s u b k f h =
    works-from 0 8 0 n v t v.ledger e k f (λ r o.
    let listed : length v.tree.list ≤ length v.ledger.fates = subst (λ (a : State). length a.tree.list ≤ length a.ledger.fates) (sym e) b in
    let p = open-few v.tree s in
    let since = k v.tree (Since-same v.tree) in
    let more = tokenless-grows v.tree t since in
    omega (arith, h, p, u, listed, more))

-- a token got its fate before
pub works-made : (calls more : ℕ) (n g v : State) (t : Tree) (l : Entries) (y : Symbol) (f : Fate) → v ≡ g → g ≡ record n { ledger = g.ledger } → HasFate y f n g
    → WorksTo calls 0 more v t l → WorksTo calls 0 more n t l
works-made calls more n g v t l y f e r q w =
    let same : v.tree ≡ n.tree = ap (λ (x : State). x.tree) e ∙ ap (λ (x : State). x.tree) r in
    let fates : length v.ledger.fates ≡ length n.ledger.fates + 1 = ap (λ (x : State). length x.ledger.fates) e ∙ ap (λ (x : Entries). length x.fates) q.ledger_is ∙ length-append n.ledger.fates (f ∷ []) in
    let few : length n.ledger.fates ≤ length v.ledger.fates = omega (arith, fates) in
    let same_count : tokenless v.tree.tree.labels ≡ tokenless n.tree.tree.labels = ap (λ (x : Tree). tokenless x.tree.labels) same in
    let nodes : length v.tree.tree.labels ≡ length n.tree.tree.labels = ap (λ (x : Tree). length x.tree.labels) same in
    let steps : v.tree.steps ≡ n.tree.steps = ap (λ (x : Tree). x.steps) same in
    let a = reach-grows n.tree.tree.labels v.tree.tree.labels n.ledger.fates v.ledger.fates few (omega (arith, same_count)) in
    let b = toll-grows n.tree.tree.labels v.tree.tree.labels n.ledger.fates v.ledger.fates few (omega (arith, same_count)) (omega (arith, nodes)) in
    let c = w.0 in
    let d = w.1.0 in
    let h = w.1.1 in
    (omega (arith, a, c), (omega (arith, b, d), omega (arith, h, steps)))

-- and then there was a walk over the open elements
pub works-walk-made : (n g v : State) (t : Tree) (l : Entries) (y : Symbol) (f : Fate) → v ≡ g → g ≡ record n { ledger = g.ledger } → HasFate y f n g → IsSound v.tree → v.tree.tokens ≤ length v.ledger.fates
    → TreeKeeps v.tree t → AddsFates v.ledger l → t.steps ≤ v.tree.steps + (2 * length v.tree.stack + 4) → WorksTo 1 0 0 n t l
works-walk-made n g v t l y f e r q s u k w h = works-made 1 0 n g v t l y f e r q (works-walk v v t l refl s u k w h)

-- ATTRIBUTES THAT ARE COMPARED

greatest-least : (f : NodeData → ℕ) (ls : List NodeData) (x : ℕ) → x < length ls → f (label_in ls x) ≤ greatest f ls
greatest-least f [] x h = absurd (omega (arith, h))
greatest-least f (d ∷ ds) zero h = le-max_left (f d) (greatest f ds)
greatest-least f (d ∷ ds) (suc x) h =
    let a = greatest-least f ds x (omega (arith, h)) in
    let b = le-max_right (f d) (greatest f ds) in
    omega (arith, a, b)

outside : (ls : List NodeData) (x : ℕ) → length ls ≤ x → length (attrs_in (label_in ls x)) ≡ 0
outside [] x h = refl
outside (d ∷ ds) zero h = absurd (omega (arith, h))
outside (d ∷ ds) (suc x) h = outside ds x (omega (arith, h))

-- no node has more attributes
pub attrs-few : (ls : List NodeData) (x : ℕ) → length (attrs_in (label_in ls x)) ≤ broadest ls
unfolding broadest
attrs-few ls x = elim (either x (length ls)) [
  | inl h ↦ greatest-least (λ d. length (attrs_in d)) ls x h
  | inr h ↦ let k = outside ls x h in omega (arith, k)
]
  where
    either : (x n : ℕ) → (x < n) ⊎ (n ≤ x)
    either x zero = inr (omega arith)
    either zero (suc n) = inl (omega arith)
    either (suc x) (suc n) = elim (either x n) [ inl h ↦ inl (omega (arith, h)) | inr h ↦ inr (omega (arith, h)) ]

after-few : {X : Type 0} (p : X → Bool) (xs : List X) → length (after_first p xs) ≤ length xs
after-few p [] = omega arith
after-few p (x ∷ xs) = elim (cases_bool (p x)) [ inl h ↦ rw h (omega arith) | inr h ↦ rw h (let a = after-few p xs in omega (arith, a)) ]

sum-times : (f : Entry → ℕ) (m : ℕ) (es : List Entry) → ((e : Entry) → f e ≤ m) → sum_by f es ≤ length es * m
sum-times f m [] h = omega arith
sum-times f m (e ∷ es) h =
    let p = sum_by-cons f e es in
    let a = h e in
    let b = sum-times f m es h in
    let q : suc (length es) * m ≡ length es * m + m = grind arith in
    omega (arith, p, a, b, q)

compared : (u : Nodes) (x : ℕ) (e : Entry) → comparisons u x e ≤ length (attrs_in (label_of u x)) * broadest u.labels
compared u x Marker = omega arith
compared u x (Node y) = elim (cases_bool (named u (tag_at u x) y)) [
  | inl h ↦ rw h (mul-le (length (attrs_in (label_of u x))) (length (attrs_in (label_of u y))) (length (attrs_in (label_of u x))) (broadest u.labels) (omega arith) (attrs-few u.labels y))
  | inr h ↦ rw h (omega arith)
]

push-few : (u : Nodes) (x : ℕ) (list : List Entry) → push_steps u x list ≤ 2 * length list + 2 + length list * (length (attrs_in (label_of u x)) * broadest u.labels)
push-few u x list =
    let a = looked-few is_marker list in
    let b = sum-times (comparisons u x) (length (attrs_in (label_of u x)) * broadest u.labels) (above is_marker list) (compared u x) in
    let c = after-few (alike u x) (above is_marker list) in
    let few : length (above is_marker list) ≤ length list = omega (arith, a) in
    let d = mul-le (length (above is_marker list)) (length (attrs_in (label_of u x)) * broadest u.labels) (length list) (length (attrs_in (label_of u x)) * broadest u.labels) few (omega arith) in
    elim (cases_bool (has_three u x list)) [
      | inl h ↦ rw h (omega (arith, a, b, c, d, few))
      | inr h ↦ rw h (omega (arith, a, b, d))
    ]

attrs-label : (t : Nodes) (name : List ℕ) (attrs : List Attr) (o : Origin) → attrs_in (label_for t (new.Element name attrs o)) ≡ attrs
attrs-label t name attrs o = by (is_template (tag_of name)) refl
  where
    by : (b : Bool) → is_template (tag_of name) ≡ b → attrs_in (label_for t (new.Element name attrs o)) ≡ attrs
    by true h = rw h refl
    by false h = rw h refl

attrs-new : (t : Nodes) (at : Place) (name : List ℕ) (attrs : List Attr) (k : ℕ) → attrs_in (label_of (with_new t at (new.Element name attrs (Token k))) (length t.labels)) ≡ attrs
attrs-new t at name attrs k =
    ap (λ ls. attrs_in (label_in ls (length t.labels))) (new-labels t at d)
    ∙ ap attrs_in (label-new t.labels (label_for t d ∷ rest_of (length t.labels) (has_contents d)) (length t.labels) (omega arith))
    ∙ ap (λ j. attrs_in (label_in (label_for t d ∷ rest_of (length t.labels) (has_contents d)) j)) (let e : length t.labels - length t.labels ≡ 0 = omega arith in e)
    ∙ attrs-label t name attrs (Token k)
  where
    d : NewNode
    d = new.Element name attrs (Token k)

-- an element is opened and listed
works-listed : (n v : State) (t : Tree) (l : Entries) (at : Place) (name : List ℕ) (attrs own : List Attr) (k : ℕ) → v ≡ n → IsSound v.tree → v.tree.tokens ≤ length v.ledger.fates
    → length v.tree.list ≤ length v.ledger.fates → TreeKeeps v.tree t → AddsFates v.ledger l → attrs ≡ own → t.tree ≡ with_new v.tree.tree at (new.Element name attrs (Token k))
    → t.steps ≤ v.tree.steps + length v.tree.stack + 4 + push_steps (with_new v.tree.tree at (new.Element name attrs (Token k))) (length v.tree.tree.labels) v.tree.list
    → WorksTo 2 0 (length own * span t.tree.labels l.fates) n t l
unfolding span
works-listed n v t l at name attrs own k e s u b w f o x h =
    works-from 2 0 (length own * ((length l.fates + 1) * broadest t.tree.labels)) n v t l e w f (λ r z.
    let p = within-reach v s u in
    let q = list-within v b in
    let g = push-few (with_new v.tree.tree at (new.Element name attrs (Token k))) (length v.tree.tree.labels) v.tree.list in
    let a : length (attrs_in (label_of (with_new v.tree.tree at (new.Element name attrs (Token k))) (length v.tree.tree.labels))) ≡ length own = ap (λ (xs : List Attr). length xs) (attrs-new v.tree.tree at name attrs k ∙ o) in
    let c : broadest (with_new v.tree.tree at (new.Element name attrs (Token k))).labels ≡ broadest t.tree.labels = ap (λ (y : Nodes). broadest y.labels) (sym x) in
    let fates = fates-more v.ledger l f in
    let m = mul-le (length v.tree.list) (length own * broadest t.tree.labels) (length l.fates + 1) (length own * broadest t.tree.labels) (omega (arith, b, fates)) (omega arith) in
    let turned : (length l.fates + 1) * (length own * broadest t.tree.labels) ≡ length own * ((length l.fates + 1) * broadest t.tree.labels) = grind arith in
    let few : push_steps (with_new v.tree.tree at (new.Element name attrs (Token k))) (length v.tree.tree.labels) v.tree.list ≤ 2 * length v.tree.list + 2 + length v.tree.list * (length own * broadest t.tree.labels) = rw (a, c) at g in
    omega (arith, h, p, q, r, few, m, turned))

-- the same, where the token got its fate before
pub works-listed-made : (n g v : State) (t : Tree) (l : Entries) (y : Symbol) (f : Fate) (at : Place) (name : List ℕ) (attrs own : List Attr) (k : ℕ) → v ≡ g → g ≡ record n { ledger = g.ledger } → HasFate y f n g
    → IsSound v.tree → v.tree.tokens ≤ length v.ledger.fates → length n.tree.list ≤ length n.ledger.fates → TreeKeeps v.tree t → AddsFates v.ledger l → attrs ≡ own → t.tree ≡ with_new v.tree.tree at (new.Element name attrs (Token k))
    → t.steps ≤ v.tree.steps + length v.tree.stack + 4 + push_steps (with_new v.tree.tree at (new.Element name attrs (Token k))) (length v.tree.tree.labels) v.tree.list
    → WorksTo 2 0 (length own * span t.tree.labels l.fates) n t l
works-listed-made n g v t l y f at name attrs own k e r q s u b w o a x h =
    let same : length v.tree.list ≡ length n.tree.list = ap (λ (z : State). length z.tree.list) e ∙ ap (λ (z : State). length z.tree.list) r in
    let fates : length v.ledger.fates ≡ length n.ledger.fates + 1 = ap (λ (z : State). length z.ledger.fates) e ∙ ap (λ (z : Entries). length z.fates) q.ledger_is ∙ length-append n.ledger.fates (f ∷ []) in
    works-made 2 (length own * span t.tree.labels l.fates) n g v t l y f e r q (works-listed v v t l at name attrs own k refl s u (omega (arith, same, fates, b)) w o a x h)

longer-merged : (d : NodeData) (own : List Attr) → length (attrs_in d) ≤ length (attrs_in (with_attrs d (merged (attrs_in d) own)))
longer-merged (node.Element e) own = let p = length-append e.attrs (lacking e.attrs own) in omega (arith, p)
longer-merged node.Document own = omega arith
longer-merged (node.Contents h) own = omega arith
longer-merged (node.Text s) own = omega arith
longer-merged (node.Comment s i) own = omega arith
longer-merged (node.Doctype n p s i) own = omega arith

merged-at : (ls : List NodeData) (x : ℕ) (own : List Attr) → length (attrs_in (label_in ls x)) ≤ length (attrs_in (label_in (slice_set ls x (with_attrs (label_in ls x) (merged (attrs_in (label_in ls x)) own))) x))
merged-at [] x own = omega arith
merged-at (d ∷ ds) zero own = longer-merged d own
merged-at (d ∷ ds) (suc x) own = merged-at ds x own

-- the attributes of a tag are added to those of an element
pub works-merged : (n v : State) (t : Tree) (l : Entries) (y : ℕ) (attrs own : List Attr) → v ≡ n → TreeKeeps v.tree t → AddsFates v.ledger l → attrs ≡ own → t.tree ≡ bare (with_merged v.tree.tree y attrs)
    → t.steps ≤ v.tree.steps + 1 + length (attrs_in (label_of v.tree.tree y)) * length attrs
    → WorksTo 1 0 (length own * span t.tree.labels l.fates) n t l
unfolding reach span
works-merged n v t l y attrs own e w f o x h =
    works-from 1 0 (length own * ((length l.fates + 1) * broadest t.tree.labels)) n v t l e w f (λ r z.
    let a : length attrs ≡ length own = ap (λ (xs : List Attr). length xs) o in
    let b = merged-at v.tree.tree.labels y attrs in
    let c = attrs-few (bare (with_merged v.tree.tree y attrs)).labels y in
    let d : broadest (bare (with_merged v.tree.tree y attrs)).labels ≡ broadest t.tree.labels = ap (λ (u : Nodes). broadest u.labels) (sym x) in
    let few : length (attrs_in (label_of v.tree.tree y)) ≤ broadest t.tree.labels = omega (arith, b, c, d) in
    let m = mul-le (length (attrs_in (label_of v.tree.tree y))) (length attrs) (broadest t.tree.labels) (length own) few (omega (arith, a)) in
    let k = mul-le 1 (broadest t.tree.labels * length own) (length l.fates + 1) (broadest t.tree.labels * length own) (omega arith) (omega arith) in
    let turned : (length l.fates + 1) * (broadest t.tree.labels * length own) ≡ length own * ((length l.fates + 1) * broadest t.tree.labels) = grind arith in
    omega (arith, h, m, k, turned))

-- the mode was looked for among the open elements
pub works-settled : (n v x y : State) (m : Mode) → v ≡ n → IsSound v.tree → length v.stack ≡ length v.tree.stack → v.tree.tokens ≤ length v.ledger.fates → Works 0 0 (length n.stack) n x → y ≡ record x { mode = m } → Works 1 0 0 n y
works-settled n v x y m e s d u w q =
    let p = within-reach v s u in
    let a : length v.stack ≡ length n.stack = ap (λ (z : State). length z.stack) e in
    let b : reach_of v ≡ reach_of n = ap reach_of e in
    let r = w.0 in
    let t = w.1.0 in
    let h = w.1.1 in
    subst (λ (z : State). Works 1 0 0 n z) (sym q) (r, (t, omega (arith, p, a, b, d, r, h)))
