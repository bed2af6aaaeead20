-- Claimed.
-- What an edit does to every node: parents, lists of children, and ancestors (DOM 4.2.3, mutation algorithms).
use Rattle.std.specs.Prelude.{◌≡◌, ◌≢◌, ℕ, ◌+◌, ◌<◌, ◌≤◌, true, false, cond, eqb, List, [], ◌∷◌, ◌++◌, length, Some, None}
use Rattle.html_arena.specs.declared.data.NodeData.{NodeData}
use Rattle.html_arena.specs.declared.marks.Mark.{Mark}
use Rattle.html_arena.specs.Siblings.{has, without}
use Rattle.html_arena.specs.Tree.{Tree, WellFormed, ancestors, children_of, label_of, marked, parent_of}

-- so many nodes more, which stand alone; the others stay as they were
pub record IsGrown (old new : Tree) (more : ℕ) : Type 0 where
  pub well_formed : WellFormed new
  pub longer : length new.labels ≡ length old.labels + more
  pub no_parent : (x : ℕ) → length old.labels ≤ x → parent_of new x ≡ None
  pub no_children : (x : ℕ) → length old.labels ≤ x → children_of new x ≡ []
  pub no_ancestors : (x : ℕ) → length old.labels ≤ x → ancestors new x ≡ []
  pub not_above : (x y : ℕ) → x < length old.labels → length old.labels ≤ y → has y (x ∷ ancestors new x) ≡ false
  pub same_label : (x : ℕ) → x < length old.labels → label_of new x ≡ label_of old x
  pub same_parent : (x : ℕ) → parent_of new x ≡ parent_of old x
  pub same_children : (x : ℕ) → children_of new x ≡ children_of old x
  pub same_ancestors : (x : ℕ) → x < length old.labels → ancestors new x ≡ ancestors old x
  pub same_marks : (m : Mark) (x : ℕ) → marked new m x ≡ marked old m x

-- x has the label d, and nothing else is changed but counts
pub record IsRelabelled (old new : Tree) (x : ℕ) (d : NodeData) : Type 0 where
  pub same_length : length new.labels ≡ length old.labels
  pub label_is : label_of new x ≡ d
  pub other_labels : (y : ℕ) → y ≢ x → label_of new y ≡ label_of old y
  pub same_parents : new.parents ≡ old.parents
  pub same_lists : new.children ≡ old.children
  pub same_ancestors : (y : ℕ) → ancestors new y ≡ ancestors old y
  pub same_marks : new.marks ≡ old.marks

-- c, which stood alone, is a child of p, whose list is xs
pub record IsLinked (old new : Tree) (c p : ℕ) (xs : List ℕ) : Type 0 where
  pub well_formed : WellFormed new
  pub parent_is : (x : ℕ) → parent_of new x ≡ cond (eqb x c) (Some p) (parent_of old x)
  pub children_are : (x : ℕ) → children_of new x ≡ cond (eqb x p) xs (children_of old x)
  pub above_others : (x : ℕ) → x < length old.labels → has c (x ∷ ancestors old x) ≡ false → ancestors new x ≡ ancestors old x
  pub above_child : (x : ℕ) → x < length old.labels → has c (x ∷ ancestors old x) ≡ true → ancestors new x ≡ ancestors old x ++ p ∷ ancestors old p
  pub same_labels : new.labels ≡ old.labels
  pub same_marks : new.marks ≡ old.marks

-- c has no parent any more
pub record IsUnlinked (old new : Tree) (c : ℕ) : Type 0 where
  pub well_formed : WellFormed new
  pub parent_is : (x : ℕ) → parent_of new x ≡ cond (eqb x c) None (parent_of old x)
  pub children_are : (x : ℕ) → children_of new x ≡ without c (children_of old x)
  pub above_others : (x : ℕ) → x < length old.labels → has c (x ∷ ancestors old x) ≡ false → ancestors new x ≡ ancestors old x
  pub above_child : (x : ℕ) → x < length old.labels → has c (x ∷ ancestors old x) ≡ true → ancestors old x ≡ ancestors new x ++ ancestors old c
  pub same_labels : new.labels ≡ old.labels
  pub same_marks : new.marks ≡ old.marks

-- the children of `from` are the last ones of `to`
pub record IsMoved (old new : Tree) (from to : ℕ) : Type 0 where
  pub well_formed : WellFormed new
  pub parent_is : (x : ℕ) → parent_of new x ≡ cond (has x (children_of old from)) (Some to) (parent_of old x)
  pub children_are : (x : ℕ) → children_of new x ≡ cond (eqb x to) (children_of old to ++ children_of old from) (cond (eqb x from) [] (children_of old x))
  pub above_others : (x : ℕ) → x < length old.labels → has from (ancestors old x) ≡ false → ancestors new x ≡ ancestors old x
  pub same_labels : new.labels ≡ old.labels
  pub same_marks : new.marks ≡ old.marks
