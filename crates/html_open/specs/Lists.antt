-- Claimed, but for this crate's own functions: IsBelow, steps_down, index_or_first, steps_after, removal.
-- Lists that are read from their last element, as the stack of open elements is from the current node (13.2.4.2): what stands up to the
-- last element that passes a test, and after it.
use Rattle.std.specs.Prelude.{ℕ, ◌+◌, ◌-◌, ◌*◌, ◌<◌, Bool, cond, List, [], ◌∷◌, ◌++◌, length, Option, Some, None}
use Rattle.std.specs.List.{list_any}

-- what stands after the last element that passes, or all where none does
abbrev pub above : {X : Type 0} → (X → Bool) → List X → List X
above p [] = []
above p (x ∷ xs) = cond (list_any p xs) (above p xs) (cond (p x) xs (x ∷ xs))

-- what stands up to the last element that passes, that one included, or nothing where none does
abbrev pub up_to : {X : Type 0} → (X → Bool) → List X → List X
up_to p [] = []
up_to p (x ∷ xs) = cond (list_any p xs) (x ∷ up_to p xs) (cond (p x) (x ∷ []) [])

-- what stands before the last element that passes, or nothing where none does
abbrev pub below : {X : Type 0} → (X → Bool) → List X → List X
below p [] = []
below p (x ∷ xs) = cond (list_any p xs) (x ∷ below p xs) []

-- the last element that passes
abbrev pub last_where : {X : Type 0} → (X → Bool) → List X → Option X
last_where p [] = None
last_where p (x ∷ xs) = cond (list_any p xs) (last_where p xs) (cond (p x) (Some x) None)

-- how many elements stand from the last one down to one that passes, that one included; all where none does
abbrev pub looked : {X : Type 0} → (X → Bool) → List X → ℕ
looked p xs = length (above p xs) + cond (list_any p xs) 1 0

-- the place of the last element that passes
abbrev pub last_index : {X : Type 0} → (X → Bool) → List X → Option ℕ
last_index p xs = cond (list_any p xs) (Some (length (below p xs))) None

-- the list without the last element that passes
abbrev pub without_last : {X : Type 0} → (X → Bool) → List X → List X
without_last p xs = cond (list_any p xs) (below p xs ++ above p xs) xs

-- the first element that passes
abbrev pub first_where : {X : Type 0} → (X → Bool) → List X → Option X
first_where p [] = None
first_where p (x ∷ xs) = cond (p x) (Some x) (first_where p xs)

-- the list without the first element that passes
abbrev pub without_first : {X : Type 0} → (X → Bool) → List X → List X
without_first p [] = []
without_first p (x ∷ xs) = cond (p x) xs (x ∷ without_first p xs)

-- what stands after the first element that passes
abbrev pub after_first : {X : Type 0} → (X → Bool) → List X → List X
after_first p [] = []
after_first p (x ∷ xs) = cond (p x) xs (after_first p xs)

-- the list and then, if there is one, the element
abbrev pub with_last : List ℕ → Option ℕ → List ℕ
with_last xs None = xs
with_last xs (Some x) = xs ++ x ∷ []

-- an index of a list of n, if there is one
abbrev pub IsBelow : ℕ → Option ℕ → Type 0
IsBelow n None = Unit {0}
IsBelow n (Some i) = i < n

-- how many of n elements stand from the last one down to the one at an index; all where there is none
abbrev pub steps_down : ℕ → Option ℕ → ℕ
steps_down n None = n
steps_down n (Some i) = n - i

-- an index, or that of the first element where there is none
abbrev pub index_or_first : Option ℕ → ℕ
index_or_first None = 0
index_or_first (Some i) = i

-- where the elements after the one at an index begin; at the first where there is none
abbrev pub after_index : Option ℕ → ℕ
after_index None = 0
after_index (Some i) = i + 1

-- how many of n elements stand from the one at an index up to the last; none where there is none
abbrev pub steps_after : ℕ → Option ℕ → ℕ
steps_after n None = 0
steps_after n (Some i) = n - i

-- the steps of a removal from a list of n: the elements looked at, the one removed and those shifted
abbrev pub removal : ℕ → Option ℕ → ℕ
removal n None = n
removal n (Some i) = 2 * (n - i)
