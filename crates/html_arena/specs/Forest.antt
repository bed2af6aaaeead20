-- Claimed.
-- Trees in a row, each with a label at its root (DOM 1.1, trees, in tree order).
use Rattle.std.specs.Prelude.{List, [], ◌∷◌, ◌++◌}

-- the first tree by its label and the trees below its root, and the trees after it
pub data Forest (A : Type 0) : Type 0 where
  empty : Forest A
  tree : A → Forest A → Forest A → Forest A

-- the same trees with other labels
abbrev pub relabel : {A B : Type 0} → (A → B) → Forest A → Forest B
relabel f empty = empty
relabel f (tree a below after) = tree (f a) (relabel f below) (relabel f after)

-- the labels, each before those below it
abbrev pub labels : {A : Type 0} → Forest A → List A
labels empty = []
labels (tree a below after) = a ∷ (labels below ++ labels after)
