-- Claimed.
-- What stays on the stack of open elements (13.2.4.2).
use Rattle.std.specs.Prelude.{ℕ, ◌-◌, cond, eqb, List, length, min, max, slice_index, take, Option, Some, None}
use Rattle.html_arena.specs.Siblings.{first_of, is_in}
use Rattle.html_arena.specs.Tree.{detached, parent_of}
use Rattle.html_open.specs.Lists.{after_index, last_index, without_last}
use Rattle.html_open.specs.Marking.{bare}
use Rattle.html_tree.specs.declared.groups.Group.{Group}
use Rattle.html_tree.specs.declared.groups.Stop.{Stop}
use Rattle.html_tree.specs.declared.groups.TableContext.{TableContext}
use Rattle.html_tree.specs.Searching.{context_at, found}
use Rattle.html_tree.specs.States.{State}

-- how many elements stay of n where all after the first k are closed; the first is never closed
abbrev pub kept_to : ℕ → ℕ → ℕ
kept_to n k = min n (max 1 k)

-- the first k elements, and in any case the first
abbrev pub first_few : ℕ → List ℕ → List ℕ
first_few k s = take (kept_to (length s) k) s

-- all but the current node
abbrev pub popped : List ℕ → List ℕ
popped s = first_few (length s - 1) s

-- what stands before an index, if there is one; the first in any case
abbrev pub before_index : Option ℕ → List ℕ → List ℕ
before_index None s = s
before_index (Some i) s = first_few i s

-- the stack where elements are closed through the one that is found
abbrev pub closed_through : State → Group → Stop → List ℕ
closed_through a g e = before_index (found a g e) a.stack

-- how many elements stand up to the last one of the context
abbrev pub context_end : State → TableContext → ℕ
context_end a c = after_index (last_index (context_at a.tree c) a.stack)

-- those elements; the first in any case
abbrev pub cleared_to : State → TableContext → List ℕ
cleared_to a c = first_few (context_end a c) a.stack

-- the stack without an element, unless that is the first, which is never closed
abbrev pub remaining : ℕ → List ℕ → List ℕ
remaining x s = cond (is_in x (first_of s)) s (without_last (eqb x) s)

-- the body that is the second open element is taken out of the tree, and only the first element is open
abbrev pub bodiless : State → State
bodiless a =
    record a {
      stack = first_few 1 a.stack;
      tree = bare (detached a.tree (slice_index a.stack 1) (parent_of a.tree (slice_index a.stack 1)));
      detached = Some (slice_index a.stack 1);
    }
