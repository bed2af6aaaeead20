-- Lists with more members.
use Rattle.std.proofs.Common.{ℕ, zero, suc, ◌-◌, ◌≡◌, ◌≢◌, ◌<◌, ◌≤◌, ◌⊎◌, List, [], ◌∷◌, ◌++◌, length, Some, inl, inr, refl, ap, arith}
use Rattle.std.specs.Prelude.{slice_get, slice_set}
use Rattle.std.proofs.lemmas.List.{get_or_append_left, get_or-append_right, get_or-set_same, get_or-set_other, length-set}
use Rattle.html_arena.specs.declared.data.NodeData.{NodeData}
use Rattle.html_arena.specs.declared.data.NodeData.TheVariants as node
use Rattle.html_arena.specs.Data.{label_in}

pub order : (a b : ℕ) → (a < b) ⊎ (b ≤ a)
order a b = grind arith

pub same-or-not : (a b : ℕ) → (a ≡ b) ⊎ (a ≢ b)
same-or-not a b = grind arith

-- what stands in a list stands in a longer one
pub get-longer : {X : Type 0} (xs ys : List X) (i : ℕ) (v : X) → slice_get xs i ≡ Some v → slice_get (xs ++ ys) i ≡ Some v
get-longer [] ys i v e = absurd (let k = e in cc)
get-longer (x ∷ xs) ys zero v e = e
get-longer (x ∷ xs) ys (suc i) v e = get-longer xs ys i v e

-- what stands in a list with one more member stands in the list, or is that member
pub get-last : {X : Type 0} (xs : List X) (y : X) (i : ℕ) (v : X) → slice_get (xs ++ y ∷ []) i ≡ Some v → (slice_get xs i ≡ Some v) ⊎ ((i ≡ length xs) × (y ≡ v))
get-last [] y zero v e = inr (refl, let k : Some y ≡ Some v = e in cc)
get-last [] y (suc i) v e = absurd (let k = e in cc)
get-last (x ∷ xs) y zero v e = inl e
get-last (x ∷ xs) y (suc i) v e = elim (get-last xs y i v e) [
  | inl q ↦ inl q
  | inr q ↦ inr (ap suc q.0, q.1)
]

pub get-at-end : {X : Type 0} (xs : List X) (y : X) → slice_get (xs ++ y ∷ []) (length xs) ≡ Some y
get-at-end [] y = refl
get-at-end (x ∷ xs) y = get-at-end xs y

-- what stands in the front of a list
pub get-front : {X : Type 0} (xs ys : List X) (i : ℕ) (v : X) → i < length xs → slice_get (xs ++ ys) i ≡ Some v → slice_get xs i ≡ Some v
get-front [] ys i v h e = absurd (omega arith)
get-front (x ∷ xs) ys zero v h e = e
get-front (x ∷ xs) ys (suc i) v h e = get-front xs ys i v (omega arith) e

-- a label of a longer list
pub label-old : (ls ds : List NodeData) (x : ℕ) → x < length ls → label_in (ls ++ ds) x ≡ label_in ls x
label-old ls ds x h = get_or_append_left ls ds node.Document x h

pub label-new : (ls ds : List NodeData) (x : ℕ) → length ls ≤ x → label_in (ls ++ ds) x ≡ label_in ds (x - length ls)
label-new ls ds x h = get_or-append_right ls ds (length ls) x node.Document refl h

-- another label
pub label-set : (ls : List NodeData) (y : ℕ) (d : NodeData) → y < length ls → label_in (slice_set ls y d) y ≡ d
label-set ls y d h = get_or-set_same ls y d node.Document h

pub label-set-other : (ls : List NodeData) (y x : ℕ) (d : NodeData) → x ≢ y → label_in (slice_set ls y d) x ≡ label_in ls x
label-set-other ls y x d h = get_or-set_other ls y x d node.Document h

pub length-slice_set : (ls : List NodeData) (y : ℕ) (d : NodeData) → length (slice_set ls y d) ≡ length ls
length-slice_set ls y d = length-set ls y d

pub label-past : (ls : List NodeData) (x : ℕ) → length ls ≤ x → label_in ls x ≡ node.Document
label-past [] x h = refl
label-past (d ∷ ls) zero h = absurd (omega arith)
label-past (d ∷ ls) (suc x) h = label-past ls x (omega arith)
