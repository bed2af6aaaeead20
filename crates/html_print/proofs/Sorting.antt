-- Each list of attributes can be put in order.
use Rattle.std.proofs.Common.{◌≡◌, zero, suc, ◌+◌, ◌<◌, Bool, true, false, cond, List, [], ◌∷◌, map, length, get_or, refl, subst, arith}
use Rattle.std.specs.Cmp.{IsStrictWeakOrder}
use Rattle.std.specs.Cmp.Lexicographic.{slice_cmp}
use Rattle.std.specs.List.Sorted.{IsPermutation, IsSortedBy}
use Rattle.std.specs.Ordering.{is_lt, nat_cmp}
use Rattle.std.proofs.lemmas.Cmp.{nat_list_cmp_total}
use Rattle.std.proofs.lemmas.List.{get_or-map, length-map}
use Rattle.std.proofs.lemmas.List.MinMax.{ranks_by}
use Rattle.std.proofs.lemmas.List.Sorted.{IsPermutation-cons, IsPermutation-refl, IsPermutation-swap, IsPermutation-trans}
use Rattle.html_tokens.specs.declared.attributes.Attr.{Attr}
use Rattle.html_print.specs.Order.{IsInOrder, units_of_name}

-- the elements of a list, each by a function, are in order where the list is by that function
pub sorted_map : {X Y : Type 0} (f : X → Y) (lt : Y → Y → Bool) (xs : List X) → IsSortedBy (λ a b. lt (f a) (f b)) xs → IsSortedBy lt (map f xs)
sorted_map f lt [] s k d l h = absurd (let j : k + 1 < 0 = h in omega arith)
sorted_map f lt (x ∷ xs) s k d l h =
    let n : k + 1 < length (x ∷ xs) = rw (← length-map (x ∷ xs) f) h in
    let a = get_or-map f (x ∷ xs) (k + 1) x d n in
    let b = get_or-map f (x ∷ xs) k x d (omega arith) in
    rw (a, b) (s k x l n)

module _ {X : Type 0} (lt : X → X → Bool) (o : IsStrictWeakOrder lt) where
  abbrev insert : X → List X → List X
  insert x [] = x ∷ []
  insert x (y ∷ ys) = cond (lt y x) (y ∷ insert x ys) (x ∷ y ∷ ys)

  -- x may stand before these
  abbrev Before : X → List X → Type 0
  Before x [] = Unit {0}
  Before x (y ∷ ys) = lt y x ≡ false

  sorted_cons : (x : X) (xs : List X) → Before x xs → IsSortedBy lt xs → IsSortedBy lt (x ∷ xs)
  sorted_cons x [] b s k d l h = absurd (let j : k + 1 < 1 = h in omega arith)
  sorted_cons x (y ∷ ys) b s zero d l h = b
  sorted_cons x (y ∷ ys) b s (suc k) d l h =
      let e : suc (k + 1) ≡ suc k + 1 = omega arith in
      subst (λ n. lt (get_or (x ∷ y ∷ ys) n d) (get_or (y ∷ ys) k d) ≡ false) e (s k d (omega arith) (omega arith))

  sorted_head : (x : X) (xs : List X) → IsSortedBy lt (x ∷ xs) → Before x xs
  sorted_head x [] s = tt
  sorted_head x (y ∷ ys) s = s 0 x (omega arith) (omega arith)

  sorted_tail : (x : X) (xs : List X) → IsSortedBy lt (x ∷ xs) → IsSortedBy lt xs
  sorted_tail x xs s k d l h =
      let e : suc k + 1 ≡ suc (k + 1) = omega arith in
      subst (λ n. lt (get_or (x ∷ xs) n d) (get_or xs k d) ≡ false) e (s (suc k) d (omega arith) (omega arith))

  before_insert : (y x : X) (ys : List X) → lt x y ≡ false → Before y ys → Before y (insert x ys)
  before_insert y x [] e b = e
  before_insert y x (z ∷ zs) e b = go (lt z x) refl
    where
      go : (c : Bool) → lt z x ≡ c → Before y (cond c (z ∷ insert x zs) (x ∷ z ∷ zs))
      go true h = b
      go false h = e

  sorted_insert : (x : X) (xs : List X) → IsSortedBy lt xs → IsSortedBy lt (insert x xs)
  sorted_insert x [] s = sorted_cons x [] tt s
  sorted_insert x (y ∷ ys) s = go (sorted_insert x ys (sorted_tail y ys s)) (lt y x) refl
    where
      go : IsSortedBy lt (insert x ys) → (c : Bool) → lt y x ≡ c → IsSortedBy lt (cond c (y ∷ insert x ys) (x ∷ y ∷ ys))
      go r true h = sorted_cons y (insert x ys) (before_insert y x ys (o.one_way y x h) (sorted_head y ys s)) r
      go r false h = sorted_cons x (y ∷ ys) h s

  same_insert : (x : X) (xs : List X) → IsPermutation (x ∷ xs) (insert x xs)
  same_insert x [] = IsPermutation-refl (x ∷ [])
  same_insert x (y ∷ ys) = go (same_insert x ys) (lt y x)
    where
      go : IsPermutation (x ∷ ys) (insert x ys) → (c : Bool) → IsPermutation (x ∷ y ∷ ys) (cond c (y ∷ insert x ys) (x ∷ y ∷ ys))
      go r true =
          IsPermutation-trans (x ∷ y ∷ ys) (y ∷ x ∷ ys) (y ∷ insert x ys) (IsPermutation-swap (x ∷ y ∷ ys) (y ∷ x ∷ ys) 0 1 (omega arith) (omega arith) refl)
          (IsPermutation-cons y (x ∷ ys) (insert x ys) r)
      go r false = IsPermutation-refl (x ∷ y ∷ ys)

  pub sorted : (xs : List X) → (ys : List X) × IsPermutation xs ys × IsSortedBy lt ys
  sorted [] = ([], IsPermutation-refl [], λ k d l h. absurd (let j : k + 1 < 0 = h in omega arith))
  sorted (x ∷ xs) =
      let (ys, p, s) = sorted xs in
      (insert x ys, IsPermutation-trans (x ∷ xs) (x ∷ ys) (insert x ys) (IsPermutation-cons x xs ys p) (same_insert x ys), sorted_insert x ys s)

pub in_order : (foreign : Bool) (attrs : List Attr) → (ordered : List Attr) × IsInOrder foreign attrs ordered
in_order foreign attrs =
    let (ordered, p, s) = sorted (λ (a b : Attr). is_lt (slice_cmp nat_cmp (units_of_name foreign a) (units_of_name foreign b))) (ranks_by nat_list_cmp_total (units_of_name foreign)) attrs in
    (ordered, record { same = p; ascending = s })
