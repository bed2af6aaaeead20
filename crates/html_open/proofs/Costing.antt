-- What clones hold, and how long the stack and the list are after a reopening.
use Rattle.std.proofs.Common.{◌≡◌, ℕ, zero, suc, ◌+◌, ◌-◌, ◌*◌, ◌^◌, ◌≤◌, true, min, List, [], ◌∷◌, ◌++◌, length, length-append, map, inl, inr, refl, ◌∙◌, ap, arith}
use Rattle.std.proofs.lemmas.List.{length-map}
use Rattle.std.proofs.lemmas.List.Sums.{sum_by-append, sum_by-cons}
use Rattle.std.proofs.Math.Nat.{suc-mul}
use Rattle.std.proofs.lemmas.Nat.{mul-le}
use Rattle.std.specs.List.{range_with_len, sum_by}
use Rattle.html_arena.specs.declared.data.NodeData.{NodeData}
use Rattle.html_arena.specs.declared.data.NodeData.TheVariants.{Document, Contents, Element, Text, Comment, Doctype}
use Rattle.html_arena.specs.Data.{cloned}
use Rattle.html_arena.specs.Siblings.{has}
use Rattle.html_arena.specs.Tree.{Tree, label_of}
use Rattle.html_arena.specs.Weight.{capped, weight}
use Rattle.html_open.specs.declared.entry.Entry.TheVariants.{Node}
use Rattle.html_open.specs.Adopting.{MadeClones}
use Rattle.html_open.specs.Entries.{nodes_of}
use Rattle.html_open.specs.Leaving.{listed_weight}
use Rattle.html_open.specs.Lists.{above, up_to}
use Rattle.html_open.specs.Opened.{Open}
use Rattle.html_open.specs.Reopening.{ClonedFirst, ReopenedFirst, closed, fresh, stands}
use Rattle.html_open.proofs.Keeps.{cases_eqb, nodes-append}
use Rattle.html_open.proofs.Reopened.{all-nodes, none-above, split-above}

weight-cloned : (d : NodeData) → weight (cloned d) ≡ weight d
weight-cloned Document = refl
weight-cloned (Contents h) = refl
weight-cloned (Element e) = refl
weight-cloned (Text s) = refl
weight-cloned (Comment s i) = refl
weight-cloned (Doctype n p s i) = refl

sum-cloned : (t : Tree) (xs : List ℕ) → sum_by weight (map (λ x. cloned (label_of t x)) xs) ≡ sum_by (λ x. weight (label_of t x)) xs
sum-cloned t [] = refl
sum-cloned t (x ∷ xs) =
    let r = sum-cloned t xs in
    let w = weight-cloned (label_of t x) in
    let a = sum_by-cons weight (cloned (label_of t x)) (map (λ y. cloned (label_of t y)) xs) in
    let b = sum_by-cons (λ y. weight (label_of t y)) x xs in
    omega (arith, r, w, a, b)

-- what is held grows by what the clones hold
capped-more : (a b n : ℕ) → min (a + b) n ≤ min a n + b
capped-more a b n = omega arith

held-more : (t u : Tree) (xs : List ℕ) → t.held ≡ capped (sum_by weight t.labels) → u.held ≡ capped (sum_by weight u.labels) → u.labels ≡ t.labels ++ map (λ x. cloned (label_of t x)) xs
    → u.held ≤ t.held + sum_by (λ x. weight (label_of t x)) xs
held-more t u xs a b e =
    let c : sum_by weight u.labels ≡ sum_by weight t.labels + sum_by (λ x. weight (label_of t x)) xs =
    ap (sum_by weight) e ∙ sum_by-append weight t.labels (map (λ x. cloned (label_of t x)) xs) ∙ ap (λ n. sum_by weight t.labels + n) (sum-cloned t xs) in
    let d : u.held ≡ capped (sum_by weight t.labels + sum_by (λ x. weight (label_of t x)) xs) = b ∙ ap capped c in
    let f = capped-more (sum_by weight t.labels) (sum_by (λ x. weight (label_of t x)) xs) (2 ^ 128 - 1) in
    omega (arith, a, d, f)

-- at most so many of elements of the list
sum-member : (f : ℕ → ℕ) (xs : List ℕ) (x : ℕ) → has x xs ≡ true → f x ≤ sum_by f xs
sum-member f [] x h = absurd (let k = h in cc)
sum-member f (y ∷ ys) x h = elim (cases_eqb x y) [
  | inl e ↦ (let k : f x ≡ f y = ap f e.1 in let s = sum_by-cons f y ys in omega (arith, k, s))
  | inr e ↦ (let r = sum-member f ys x (rw e.0 at h) in let s = sum_by-cons f y ys in omega (arith, r, s))
]

sum-each : (f : ℕ → ℕ) (xs : List ℕ) (m : ℕ) → ((x : ℕ) → has x xs ≡ true → f x ≤ m) → sum_by f xs ≤ length xs * m
sum-each f [] m h = omega arith
sum-each f (x ∷ xs) m h =
    let a = h x (elim (cases_eqb x x) [ inl e ↦ rw e.0 refl | inr e ↦ absurd (e.1 refl) ]) in
    let r = sum-each f xs m (λ y k. h y (elim (cases_eqb y x) [ inl e ↦ rw e.0 refl | inr e ↦ rw e.0 k ])) in
    let e = suc-mul (length xs) m in
    let s = sum_by-cons f x xs in
    omega (arith, a, r, e, s)

pub adopted-held : (o : Open) (u : Tree) → o.tree.held ≡ capped (sum_by weight o.tree.labels) → u.held ≡ capped (sum_by weight u.labels) → MadeClones o u
    → length u.labels ≤ length o.tree.labels + 32 → u.held ≤ o.tree.held + 32 * listed_weight o.tree o.list
adopted-held o u a b m few =
    let f : ℕ → ℕ = λ x. weight (label_of o.tree x) in
    let w = listed_weight o.tree o.list in
    let g = held-more o.tree u m.elements a b m.labels_are in
    let l = ap length m.labels_are in
    let l1 = length-append o.tree.labels (map (λ x. cloned (label_of o.tree x)) m.elements) in
    let l2 = length-map m.elements (λ x. cloned (label_of o.tree x)) in
    let n : length m.elements ≤ 32 = omega (arith, l, l1, l2, few) in
    let s = sum-each f m.elements w (λ x h. sum-member f (nodes_of o.list) x (m.listed x h)) in
    let k = mul-le (length m.elements) w 32 w n (omega arith) in
    omega (arith, g, s, k)

-- the entries that are opened anew
pub closed-length : (o : Open) → length (up_to (stands o.stack) o.list) + length (closed o) ≡ length o.list
closed-length o =
    let a = ap length (split-above (stands o.stack) o.list) in
    let b = length-append (up_to (stands o.stack) o.list) (above (stands o.stack) o.list) in
    let c = ap length (all-nodes o.stack (above (stands o.stack) o.list) (none-above (stands o.stack) o.list)) in
    let d = length-map (closed o) Node in
    omega (arith, a, b, c, d)

fresh-length : (n k : ℕ) → length (range_with_len n k) ≡ k
fresh-length n zero = refl
fresh-length n (suc k) = ap suc (fresh-length (n + 1) k)

closed-weight : (o : Open) → sum_by (λ x. weight (label_of o.tree x)) (closed o) ≤ listed_weight o.tree o.list
closed-weight o =
    let f : ℕ → ℕ = λ x. weight (label_of o.tree x) in
    let a : nodes_of o.list ≡ nodes_of (up_to (stands o.stack) o.list) ++ closed o =
    ap nodes_of (split-above (stands o.stack) o.list) ∙ nodes-append (up_to (stands o.stack) o.list) (above (stands o.stack) o.list) in
    let b = ap (sum_by f) a in
    let c = sum_by-append f (nodes_of (up_to (stands o.stack) o.list)) (closed o) in
    omega (arith, b, c)

module _ (o p : Open) where
  pub reopened-nodes : ClonedFirst (closed o) o.tree p.tree → length p.tree.labels ≤ length o.tree.labels + length o.list
  reopened-nodes k =
      let a = ap length k.labels_are in
      let b = length-append o.tree.labels (map (λ x. cloned (label_of o.tree x)) k.done) in
      let c = length-map k.done (λ x. cloned (label_of o.tree x)) in
      let d = ap length k.all in
      let e = length-append k.done k.rest in
      let f = closed-length o in
      omega (arith, a, b, c, d, e, f)

  pub reopened-held : o.tree.held ≡ capped (sum_by weight o.tree.labels) → p.tree.held ≡ capped (sum_by weight p.tree.labels) → ClonedFirst (closed o) o.tree p.tree
      → p.tree.held ≤ o.tree.held + listed_weight o.tree o.list
  reopened-held a b k =
      let f : ℕ → ℕ = λ x. weight (label_of o.tree x) in
      let g = held-more o.tree p.tree k.done a b k.labels_are in
      let c = ap (sum_by f) k.all in
      let d = sum_by-append f k.done k.rest in
      let e = closed-weight o in
      omega (arith, g, c, d, e)

  pub reopened-opened : ReopenedFirst o p → length p.stack ≤ length o.stack + length o.list
  reopened-opened k =
      let a = ap length k.stack_is in
      let b = length-append o.stack (fresh o.tree (length k.done)) in
      let c = fresh-length (length o.tree.labels) (length k.done) in
      let d = ap length k.all in
      let e = length-append k.done k.rest in
      let f = closed-length o in
      omega (arith, a, b, c, d, e, f)

  pub reopened-entries : ReopenedFirst o p → length p.list ≡ length o.list
  reopened-entries k =
      let a = ap length k.list_is in
      let b = length-append (up_to (stands o.stack) o.list ++ map Node (fresh o.tree (length k.done))) (map Node k.rest) in
      let c = length-append (up_to (stands o.stack) o.list) (map Node (fresh o.tree (length k.done))) in
      let d = length-map (fresh o.tree (length k.done)) Node in
      let e = fresh-length (length o.tree.labels) (length k.done) in
      let f = length-map k.rest Node in
      let g = ap length k.all in
      let h = length-append k.done k.rest in
      let i = closed-length o in
      omega (arith, a, b, c, d, e, f, g, h, i)
