-- Claimed, but for this crate's own functions: wrapped_parent, chain_children, chain_parent, StandAlone, Chained, hung_parent, Hung.
-- The moves of a round of the adoption agency (13.2.6.4.7): the children of the furthest block go to the new element, which becomes its one
-- child, and the furthest block hangs in a chain of clones.
use Rattle.std.specs.Prelude.{◌≡◌, ℕ, ◌+◌, ◌-◌, ◌<◌, ◌≤◌, true, cond, eqb, nat_lt, nat_le, ◌&&◌, List, [], ◌∷◌, ◌++◌, Option, Some, None}
use Rattle.html_arena.specs.Data.{is_linkable}
use Rattle.html_arena.specs.Siblings.{has, is_in, put_before, without}
use Rattle.html_arena.specs.Tree.{Tree, label_of, children_of, parent_of}
use Rattle.html_open.specs.declared.places.Place.{Place}
use Rattle.html_open.specs.declared.places.Place.TheVariants.{Last, Before}
use Rattle.html_open.specs.Placing.{parent_at}

-- the children of x, where the furthest block has no parent, and the new element is its one child and has its old ones
abbrev pub wrapped_children : Tree → ℕ → ℕ → ℕ → List ℕ
wrapped_children t furthest_block new_element x = cond (eqb x furthest_block) (new_element ∷ []) (cond (eqb x new_element) (children_of t furthest_block) (without furthest_block (children_of t x)))

-- the parent of x in such a tree
abbrev pub wrapped_parent : Tree → ℕ → ℕ → ℕ → Option ℕ
wrapped_parent t furthest_block new_element x = cond (eqb x new_element) (Some furthest_block) (cond (has x (children_of t furthest_block)) (Some new_element) (cond (eqb x furthest_block) None (parent_of t x)))

-- the nodes n .. m - 1 are a chain above the furthest block: each is the one parent of the node before it
abbrev pub chain_children : Tree → ℕ → ℕ → ℕ → ℕ → List ℕ
chain_children t furthest_block n m x = cond (nat_le n x && nat_lt x m) (cond (eqb x n) furthest_block (x - 1) ∷ []) (children_of t x)

abbrev pub chain_parent : Tree → ℕ → ℕ → ℕ → ℕ → Option ℕ
chain_parent t furthest_block n m x =
    cond (nat_lt n m && eqb x furthest_block) (Some n) (cond (nat_le n x && nat_lt (x + 1) m) (Some (x + 1)) (parent_of t x))

-- the last of them, or the furthest block where there is none
abbrev pub chain_top : ℕ → ℕ → ℕ → ℕ
chain_top furthest_block n m = cond (eqb n m) furthest_block (m - 1)

-- no node from n to before m has a parent or children, and each may be linked
pub record StandAlone (t : Tree) (n m : ℕ) : Type 0 where
  pub no_parent : (x : ℕ) → n ≤ x → x < m → parent_of t x ≡ None
  pub no_children : (x : ℕ) → n ≤ x → x < m → children_of t x ≡ []
  pub linkable : (x : ℕ) → n ≤ x → x < m → is_linkable (label_of t x) ≡ true

-- what the edits of links leave
pub record SameNodes (old new : Tree) : Type 0 where
  pub labels_are : new.labels ≡ old.labels
  pub marks_are : new.marks ≡ old.marks
  pub held_is : new.held ≡ old.held
  pub limits_are : new.limits ≡ old.limits

-- the furthest block, which has no parent, hangs in a chain of the nodes n .. m - 1
pub record Chained (old new : Tree) (furthest_block n m : ℕ) : Type 0 where
  pub nodes : SameNodes old new
  pub children_are : (x : ℕ) → children_of new x ≡ chain_children old furthest_block n m x
  pub parents_are : (x : ℕ) → parent_of new x ≡ chain_parent old furthest_block n m x

-- the children of x with c at a place
abbrev pub with_put : Tree → Place → ℕ → ℕ → List ℕ → List ℕ
with_put t (Last p) c x ks = cond (eqb x p) (ks ++ c ∷ []) ks
with_put t (Before b) c x ks = cond (is_in x (parent_of t b)) (put_before c b ks) ks

-- c is put at a place
pub record IsPut (old new : Tree) (at : Place) (c : ℕ) : Type 0 where
  pub nodes : SameNodes old new
  pub children_are : (x : ℕ) → children_of new x ≡ with_put old at c x (children_of old x)
  pub parents_are : (x : ℕ) → parent_of new x ≡ cond (eqb x c) (parent_at old at) (parent_of old x)

-- the children of x, where the furthest block hangs in a chain of the clones from n to before the new element, each the one child of the
-- next, and the new element is the furthest block's one child and has its old ones
abbrev pub chained : Tree → ℕ → ℕ → ℕ → ℕ → List ℕ
chained t furthest_block n new_element x = cond (nat_le n x && nat_lt x new_element) (cond (eqb x n) furthest_block (x - 1) ∷ []) (wrapped_children t furthest_block new_element x)

-- the parent of x in such a tree
abbrev pub hung_parent : Tree → ℕ → ℕ → ℕ → Place → ℕ → Option ℕ
hung_parent t furthest_block n new_element at x =
    cond (eqb x (chain_top furthest_block n new_element)) (parent_at t at)
    (cond (eqb x furthest_block) (Some n)
    (cond (nat_le n x && nat_lt x new_element) (Some (x + 1))
    (wrapped_parent t furthest_block new_element x)))

-- the top of that chain is at a place
pub record Hung (old new : Tree) (furthest_block n new_element : ℕ) (at : Place) : Type 0 where
  pub nodes : SameNodes old new
  pub children_are : (x : ℕ) → children_of new x ≡ with_put old at (chain_top furthest_block n new_element) x (chained old furthest_block n new_element x)
  pub parents_are : (x : ℕ) → parent_of new x ≡ hung_parent old furthest_block n new_element at x
