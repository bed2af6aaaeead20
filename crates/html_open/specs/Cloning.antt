-- Claimed, but for this crate's own functions: AreFormatting, AreCloned, HaveLeft, HaveEntered, IsCutShort.
-- What a round of the adoption agency makes and marks (13.2.6.4.7).
use Rattle.std.specs.Prelude.{◌≡◌, ℕ, ◌+◌, ◌<◌, true, false, cond, nat_le, nat_lt, ◌&&◌, List, [], ◌∷◌, ◌++◌, length, map, Result, Ok, Err}
use Rattle.std.specs.List.{sum_by}
use Rattle.html_names.specs.Sets.{is_formatting}
use Rattle.html_arena.specs.declared.marks.Mark.{Mark}
use Rattle.html_arena.specs.declared.arena.ArenaError.{ArenaError}
use Rattle.html_arena.specs.declared.data.NodeData.{NodeData}
use Rattle.html_arena.specs.Budget.{budget_of}
use Rattle.html_arena.specs.Data.{cloned}
use Rattle.html_arena.specs.Siblings.{has}
use Rattle.html_arena.specs.Tree.{Tree, label_of, tag_at, parent_of, children_of, marked, more}
use Rattle.html_arena.specs.Weight.{capped, weight}
use Rattle.html_arena.specs.declared.arena.ArenaError.TheVariants.{OutOfMemory, NodeBudget, HeldBudget}

-- each is a formatting element of the tree
abbrev pub AreFormatting : Tree → List ℕ → Type 0
AreFormatting t xs = (x : ℕ) → has x xs ≡ true → (x < length t.labels) × (is_formatting (tag_at t x) ≡ true)

-- a clone of each of the nodes was made, in order; each stands alone, without a mark
pub record AreCloned (old new : Tree) (xs : List ℕ) : Type 0 where
  pub labels_are : new.labels ≡ old.labels ++ map (λ x. cloned (label_of old x)) xs
  pub same_marks : (m : Mark) (x : ℕ) → marked new m x ≡ marked old m x
  pub same_parents : (x : ℕ) → parent_of new x ≡ parent_of old x
  pub same_children : (x : ℕ) → children_of new x ≡ children_of old x
  pub limits_are : new.limits ≡ old.limits

-- the nodes of a list have neither mark, the others have theirs
abbrev pub HaveLeft : Tree → Tree → List ℕ → Type 0
HaveLeft old new xs = (m : Mark) (x : ℕ) → marked new m x ≡ cond (has x xs) false (marked old m x)

-- the nodes from n to before m have both marks, the others have theirs
abbrev pub HaveEntered : Tree → Tree → ℕ → ℕ → Type 0
HaveEntered old new n m = (k : Mark) (x : ℕ) → marked new k x ≡ cond (nat_le n x && nat_lt x m) true (marked old k x)

-- the labels of all nodes, where clones of some elements have been added
abbrev pub with_cloned : Tree → List ℕ → List NodeData
with_cloned t xs = t.labels ++ map (λ x. cloned (label_of t x)) xs

-- what the budget answers to one clone more, that of x
abbrev pub clone_budget : Tree → List ℕ → ℕ → Result (Unit {0}) ArenaError
clone_budget t done x =
    budget_of t.limits (length (with_cloned t done) + 1) (more (capped (sum_by weight (with_cloned t done))) (capped (weight (cloned (label_of t x)))))

-- with the clones of some elements the budget has no room for that of the next, for this cause
abbrev pub IsFull : Tree → List ℕ → List ℕ → ArenaError → Type 0
IsFull t done [] cause = ⊥
IsFull t done (x ∷ xs) cause = clone_budget t done x ≡ Err cause

-- with the clones of some elements the budget has room for that of the next, if there is one
abbrev pub HasRoom : Tree → List ℕ → List ℕ → Type 0
HasRoom t done [] = Unit {0}
HasRoom t done (x ∷ xs) = clone_budget t done x ≡ Ok tt

-- a budget is told where the next clone would pass it, and want of memory only where it would not, or all were made
abbrev pub IsLacking : Tree → List ℕ → List ℕ → ArenaError → Type 0
IsLacking t done rest OutOfMemory = HasRoom t done rest
IsLacking t done rest NodeBudget = IsFull t done rest NodeBudget
IsLacking t done rest HeldBudget = IsFull t done rest HeldBudget

-- some of the elements that were to be cloned have been, and no node was moved or marked: there was no more room
pub record IsCut (old new : Tree) (xs : List ℕ) (e : ArenaError) : Type 0 where
  pub done : List ℕ
  pub rest : List ℕ
  pub all : xs ≡ done ++ rest
  pub labels_are : new.labels ≡ with_cloned old done
  pub same_marks : (m : Mark) (x : ℕ) → marked new m x ≡ marked old m x
  pub same_parents : (x : ℕ) → parent_of new x ≡ parent_of old x
  pub same_children : (x : ℕ) → children_of new x ≡ children_of old x
  pub limits_are : new.limits ≡ old.limits
  pub lacking : IsLacking old done rest e

-- some of them have been, and the next could not be
pub record IsCutShort (old new : Tree) (xs : List ℕ) (e : ArenaError) : Type 0 where
  pub done : List ℕ
  pub next : ℕ
  pub rest : List ℕ
  pub all : xs ≡ done ++ next ∷ rest
  pub labels_are : new.labels ≡ with_cloned old done
  pub same_marks : (m : Mark) (x : ℕ) → marked new m x ≡ marked old m x
  pub same_parents : (x : ℕ) → parent_of new x ≡ parent_of old x
  pub same_children : (x : ℕ) → children_of new x ≡ children_of old x
  pub limits_are : new.limits ≡ old.limits
  pub lacking : IsLacking old done (next ∷ rest) e
