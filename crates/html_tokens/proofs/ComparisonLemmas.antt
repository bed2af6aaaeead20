-- With how many attributes a name is compared.
use Rattle.std.proofs.Common.{◌≡◌, ◌∙◌, ℕ, suc, zero, ◌+◌, ◌<◌, ◌≤◌, List, [], ◌∷◌, ◌++◌, length, take, Bool, true, false, ◌||◌, cond, slice_index_or, refl, ap, sym, arith}
use Rattle.std.proofs.lemmas.Bool.{false≢true}
use Rattle.std.proofs.lemmas.List.{take_all}
use Rattle.std.specs.Str.{bytes_eq}
use Rattle.html_tokens.specs.Places.{comparisons}
use Rattle.html_tokens.specs.Tag.{has_name}
use Rattle.html_tokens.specs.declared.attributes.Attr.{Attr}

here : (e : Bool) (k n : ℕ) → e ≡ true → cond e 1 k ≡ 1
here true k n h = refl
here false k n h = absurd (false≢true h)

first_not : (e f : Bool) → (e || f) ≡ false → (e ≡ false) × (f ≡ false)
first_not true f h = absurd (false≢true (sym h))
first_not false f h = (refl, h)

-- where there is none of the name, with each
pub comparisons_none : (name : List ℕ) (attrs : List Attr) → has_name name attrs ≡ false → comparisons name attrs ≡ length attrs
unfolding comparisons
comparisons_none name [] h = refl
comparisons_none name (a ∷ more) h =
    let p = first_not (bytes_eq a.name name) (has_name name more) h in
    rw p.0 (ap suc (comparisons_none name more p.1))

-- the same, after all was looked at
pub comparisons_end : (name : List ℕ) (attrs : List Attr) (i : ℕ) → has_name name (take i attrs) ≡ false → i ≤ length attrs → length attrs ≤ i → i ≡ comparisons name attrs
comparisons_end name attrs i h fit all =
    let e = comparisons_none name attrs (ap (has_name name) (sym (take_all i attrs all)) ∙ h) in
    omega (arith, e, fit, all)

-- where the first is here, with those before it and it
comparisons_to : (name : List ℕ) (attrs : List Attr) (i : ℕ) (d : Attr) → has_name name (take i attrs) ≡ false → i < length attrs → bytes_eq (slice_index_or attrs i d).name name ≡ true → comparisons name attrs ≡ suc i
unfolding comparisons
comparisons_to name [] i d h less e = absurd (omega (arith, less))
comparisons_to name (a ∷ more) zero d h less e = rw e refl
comparisons_to name (a ∷ more) (suc i) d h less e =
    let p = first_not (bytes_eq a.name name) (has_name name (take i more)) h in
    rw p.0 (ap suc (comparisons_to name more i d p.1 (omega (arith, less)) e))

pub comparisons_at : (name : List ℕ) (attrs : List Attr) (i : ℕ) (d : Attr) → has_name name (take i attrs) ≡ false → i < length attrs → bytes_eq (slice_index_or attrs i d).name name ≡ true → comparisons name attrs ≡ i + 1
comparisons_at name attrs i d h less e = let same = comparisons_to name attrs i d h less e in omega (arith, same)

-- where one is in a front, what follows it counts nothing
same_front : (e there : Bool) (m n : ℕ) → (e || there) ≡ true → (there ≡ true → m ≡ n) → cond e 1 (suc m) ≡ cond e 1 (suc n)
same_front true there m n h g = refl
same_front false there m n h g = ap suc (g h)

pub comparisons_front : (name : List ℕ) (attrs : List Attr) (n : ℕ) → has_name name (take n attrs) ≡ true → comparisons name (take n attrs) ≡ comparisons name attrs
unfolding comparisons
comparisons_front name [] zero h = refl
comparisons_front name [] (suc n) h = refl
comparisons_front name (a ∷ more) zero h = absurd (false≢true h)
comparisons_front name (a ∷ more) (suc n) h = same_front (bytes_eq a.name name) (has_name name (take n more)) (comparisons name (take n more)) (comparisons name more) h (comparisons_front name more n)

-- an attribute is added at the end
pub comparisons_push : (name : List ℕ) (attrs : List Attr) (a : Attr) → has_name name attrs ≡ true → comparisons name (attrs ++ a ∷ []) ≡ comparisons name attrs
unfolding comparisons
comparisons_push name [] a h = absurd (false≢true h)
comparisons_push name (b ∷ more) a h = same_front (bytes_eq b.name name) (has_name name more) (comparisons name (more ++ a ∷ [])) (comparisons name more) h (comparisons_push name more a)

one : (e : Bool) (n : ℕ) → n ≡ 0 → cond e 1 (suc n) ≡ 1
one true n h = refl
one false n h = ap suc h

pub comparisons_last : (name : List ℕ) (attrs : List Attr) (a : Attr) → has_name name attrs ≡ false → comparisons name (attrs ++ a ∷ []) ≡ suc (length attrs)
unfolding comparisons
comparisons_last name [] a h = one (bytes_eq a.name name) 0 refl
comparisons_last name (b ∷ more) a h =
    let p = first_not (bytes_eq b.name name) (has_name name more) h in
    rw p.0 (ap suc (comparisons_last name more a p.1))

-- with no more than there are
few_here : (e : Bool) (n m : ℕ) → n ≤ m → cond e 1 (suc n) ≤ suc m
few_here true n m h = omega arith
few_here false n m h = omega (arith, h)

pub comparisons_few : (name : List ℕ) (attrs : List Attr) → comparisons name attrs ≤ length attrs
unfolding comparisons
comparisons_few name [] = omega arith
comparisons_few name (a ∷ more) = few_here (bytes_eq a.name name) (comparisons name more) (length more) (comparisons_few name more)
