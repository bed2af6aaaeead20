-- Claimed.
-- What reopening and adoption cost: elements that leave the stack of open elements (13.2.4.2) or the list of active formatting elements
-- (13.2.4.3), and the code points that clones hold.
use Rattle.std.specs.Prelude.{ℕ, ◌+◌, ◌-◌, ◌≤◌, not, List, length, filter}
use Rattle.html_arena.specs.Siblings.{has}
use Rattle.html_arena.specs.Tree.{Tree, label_of, more}
use Rattle.html_arena.specs.Weight.{weight}
use Rattle.std.specs.List.{sum_by}
use Rattle.html_open.specs.declared.entry.Entry.{Entry}
use Rattle.html_open.specs.Entries.{nodes_of}
use Rattle.html_open.specs.Opened.{Open}

-- how many elements of the first list are not in the second
abbrev pub gone : List ℕ → List ℕ → ℕ
gone xs ys = length (filter (λ x. not (has x ys)) xs)

-- at least a step was counted for each node that was made, for each element that left the stack, and for each that left the list
abbrev pub IsPaid : Open → Open → Type 0
IsPaid old new =
    more old.tree.steps ((length new.tree.labels - length old.tree.labels) + gone old.stack new.stack + gone (nodes_of old.list) (nodes_of new.list)) ≤ new.tree.steps

-- the code points of the names and attributes of all elements in the list
abbrev pub listed_weight : Tree → List Entry → ℕ
listed_weight t list = sum_by (λ x. weight (label_of t x)) (nodes_of list)
