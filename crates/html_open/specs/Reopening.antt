-- Claimed.
-- Reconstructing the active formatting elements (13.2.4.3).
use Rattle.std.specs.Prelude.{◌≡◌, ℕ, ◌+◌, ◌-◌, ◌*◌, Bool, true, false, List, [], ◌∷◌, ◌++◌, length, map, slice_get, Option, Some, None, Result, Ok, Err}
use Rattle.std.specs.List.{range_with_len}
use Rattle.html_arena.specs.declared.arena.ArenaError.{ArenaError}
use Rattle.html_arena.specs.declared.arena.Limits.{Limits}
use Rattle.html_arena.specs.declared.data.NodeData.{NodeData}
use Rattle.html_arena.specs.declared.data.NewNode.TheVariants.{CloneOf}
use Rattle.html_arena.specs.Budget.{budget, budget_of}
use Rattle.html_arena.specs.Data.{IsElement, cloned}
use Rattle.html_arena.specs.Make.{made, made_weight}
use Rattle.html_arena.specs.Siblings.{has}
use Rattle.html_arena.specs.Tree.{Tree, children_of, label_of, more}
use Rattle.html_open.specs.declared.entry.Entry.{Entry}
use Rattle.html_open.specs.declared.entry.Entry.TheVariants.{Marker, Node}
use Rattle.html_arena.specs.declared.arena.ArenaError.TheVariants.{OutOfMemory, NodeBudget, HeldBudget}
use Rattle.html_open.specs.Entries.{has_node, nodes_of}
use Rattle.html_open.specs.Lists.{above, last_where, up_to}
use Rattle.html_open.specs.Marking.{IsSameTree}
use Rattle.html_open.specs.Opened.{Open}
use Rattle.html_open.specs.Placing.{place_of, place_steps, put}

-- an entry that stays as it is, and so do those before it: a marker, or an element that is on the stack
abbrev pub stands : List ℕ → Entry → Bool
stands stack Marker = true
stands stack (Node x) = has x stack

-- the elements of the entries after the last one that is a marker or on the stack
abbrev pub closed : Open → List ℕ
closed o = nodes_of (above (stands o.stack) o.list)

-- the numbers of the next n nodes
abbrev pub fresh : Tree → ℕ → List ℕ
fresh t n = range_with_len (length t.labels) n

-- the tree with a clone of x at the place for the current node
abbrev pub with_clone : Tree → List ℕ → Bool → ℕ → Tree
with_clone t stack foster x = put (made t (CloneOf x)) (place_of t stack None foster) (length t.labels)

-- the tree with a clone of each element, in order: each is the current node for the next
abbrev pub with_clones : Tree → List ℕ → Bool → List ℕ → Tree
with_clones t stack foster [] = t
with_clones t stack foster (x ∷ xs) = with_clones (with_clone t stack foster x) (stack ++ length t.labels ∷ []) foster xs

-- Each of those entries is that of a clone of its element, in its place, and all others are the same; the stack is followed by the
-- clones in order; each clone stands at the place for the current node that it met.
pub record Reopened (foster : Bool) (old new : Open) : Type 0 where
  pub list_is : new.list ≡ up_to (stands old.stack) old.list ++ map Node (fresh old.tree (length (closed old)))
  pub stack_is : new.stack ≡ old.stack ++ fresh old.tree (length (closed old))
  pub tree_is : IsSameTree (with_clones old.tree old.stack foster (closed old)) new.tree

-- The first of those entries are done, in order, and the others are as they were.
pub record ReopenedFirst (old new : Open) : Type 0 where
  pub done : List ℕ
  pub rest : List ℕ
  pub all : closed old ≡ done ++ rest
  pub list_is : new.list ≡ (up_to (stands old.stack) old.list ++ map Node (fresh old.tree (length done))) ++ map Node rest
  pub stack_is : new.stack ≡ old.stack ++ fresh old.tree (length done)

-- clones of the first of some elements were made, in order, and no other node
pub record ClonedFirst (elements : List ℕ) (old new : Tree) : Type 0 where
  pub done : List ℕ
  pub rest : List ℕ
  pub all : elements ≡ done ++ rest
  pub labels_are : new.labels ≡ old.labels ++ map (λ x. cloned (label_of old x)) done

-- the clones, in order: the name, the attributes and the token of each are those of its original
abbrev pub clones_of : Open → List NodeData
clones_of o = map (λ x. cloned (label_of o.tree x)) (closed o)

-- no child of x is an element
abbrev pub HoldsNoElement : Tree → ℕ → Type 0
HoldsNoElement t x = (c : ℕ) → has c (children_of t x) ≡ true → IsElement (label_of t c) → ⊥

-- an element that is not on the stack and holds no element keeps its children
abbrev pub KeepsClosed : Open → Tree → Type 0
KeepsClosed o new =
    (x : ℕ) → IsElement (label_of o.tree x) → has x o.stack ≡ false → HoldsNoElement o.tree x → children_of new x ≡ children_of o.tree x

-- one for the entry at which the search ends, and one more for the test of its presence unless it is a marker
abbrev pub end_steps : Option Entry → ℕ
end_steps None = 0
end_steps (Some Marker) = 1
end_steps (Some (Node x)) = 2

-- each entry that is looked at costs one, and one more for the test of its presence unless it is a marker
abbrev pub search_steps : (Entry → Bool) → List Entry → ℕ
search_steps p list = 2 * length (above p list) + end_steps (last_where p list)

-- the steps of that search where it ends at the last entry
abbrev pub look_steps : List Entry → ℕ
look_steps list = end_steps (slice_get list (length list - 1))

-- for each clone the steps of its place, and four: it is made, linked and pushed, and it takes its entry's place
abbrev pub clone_steps : Tree → List ℕ → Bool → List ℕ → ℕ
clone_steps t stack foster [] = 0
clone_steps t stack foster (x ∷ xs) =
    place_steps t stack None foster + 4 + clone_steps (with_clone t stack foster x) (stack ++ length t.labels ∷ []) foster xs

abbrev pub reopen_steps : Open → Bool → ℕ
reopen_steps o foster = search_steps (stands o.stack) o.list + clone_steps o.tree o.stack foster (closed o)

-- what the budget answers to the clone of the next element, with those of some elements before it
pub record IsNextClone (t : Tree) (stack : List ℕ) (foster : Bool) (elements : List ℕ) (answer : Result (Unit {0}) ArenaError) : Type 0 where
  pub done : List ℕ
  pub next : ℕ
  pub rest : List ℕ
  pub elements_are : elements ≡ done ++ next ∷ rest
  pub answer_is : budget (with_clones t stack foster done) 1 (made_weight (with_clones t stack foster done) (CloneOf next)) ≡ answer

-- the budget is told where the next clone would pass it, and want of memory where it would not
abbrev pub IsCause : Open → Bool → ArenaError → Type 0
IsCause o foster OutOfMemory = IsNextClone o.tree o.stack foster (closed o) (Ok tt)
IsCause o foster NodeBudget = IsNextClone o.tree o.stack foster (closed o) (Err NodeBudget)
IsCause o foster HeldBudget = IsNextClone o.tree o.stack foster (closed o) (Err HeldBudget)

-- one clone more, of an element in the list, would pass these limits
pub record IsPassed (limits : Option Limits) (o : Open) (cause : ArenaError) : Type 0 where
  pub next : ℕ
  pub listed : has_node next o.list ≡ true
  pub answer_is : budget_of limits (length o.tree.labels + 1) (more o.tree.held (made_weight o.tree (CloneOf next))) ≡ Err cause

-- where a budget is told, what there is in the end and one clone more would pass it
abbrev pub IsTold : Option Limits → Open → ArenaError → Type 0
IsTold limits o OutOfMemory = Unit {0}
IsTold limits o NodeBudget = IsPassed limits o NodeBudget
IsTold limits o HeldBudget = IsPassed limits o HeldBudget
