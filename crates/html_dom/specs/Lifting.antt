-- For this crate's own functions.
-- Children on their way from below an element to before it.
use Rattle.std.specs.Prelude.{◌≡◌, ℕ, cond, eqb, List, [], ◌∷◌, ◌++◌, Some}
use Rattle.html_arena.specs.Siblings.{has, put_before, without}
use Rattle.html_arena.specs.Tree.{Tree, WellFormed, children_of, parent_of}

-- c, a child of x, is put just before x, among the children of p
pub record IsRaised (old new : Tree) (c x p : ℕ) : Type 0 where
  pub well_formed : WellFormed new
  pub parent_is : (y : ℕ) → parent_of new y ≡ cond (eqb y c) (Some p) (parent_of old y)
  pub children_are : (y : ℕ) → children_of new y ≡ cond (eqb y p) (put_before c x (children_of old p)) (without c (children_of old y))
  pub same_labels : new.labels ≡ old.labels
  pub same_marks : new.marks ≡ old.marks

-- the list with the nodes ks just before x
abbrev pub in_front : List ℕ → ℕ → List ℕ → List ℕ
in_front ks x [] = []
in_front ks x (y ∷ ys) = cond (eqb x y) (ks ++ y ∷ ys) (y ∷ in_front ks x ys)

-- of the children of x some are before it, among those of p, and the rest is still below it
pub record IsPartRaised (old new : Tree) (x p : ℕ) : Type 0 where
  pub done : List ℕ
  pub rest : List ℕ
  pub split : children_of old x ≡ done ++ rest
  pub well_formed : WellFormed new
  pub parent_is : (y : ℕ) → parent_of new y ≡ cond (has y done) (Some p) (parent_of old y)
  pub children_are : (y : ℕ) → children_of new y ≡ cond (eqb y p) (in_front done x (children_of old p)) (cond (eqb y x) rest (children_of old y))
  pub same_labels : new.labels ≡ old.labels
  pub same_marks : new.marks ≡ old.marks
