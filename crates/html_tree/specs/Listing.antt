-- Claimed.
-- Reopening (13.2.4.3) and adoption (13.2.6.4.7) of a tree under construction.
use Rattle.std.specs.Prelude.{◌≡◌, ℕ, ◌++◌, ◌<◌, Bool, true, List, length, map}
use Rattle.std.specs.List.{sum_by}
use Rattle.html_names.specs.Sets.{is_formatting}
use Rattle.html_names.specs.declared.tag.Tag.{Tag}
use Rattle.html_arena.specs.Data.{cloned}
use Rattle.html_arena.specs.Siblings.{has}
use Rattle.html_arena.specs.Tree.{Tree, label_of, tag_at}
use Rattle.html_arena.specs.Weight.{weight}
use Rattle.html_open.specs.declared.adoption.AdoptEnd.{AdoptEnd}
use Rattle.html_arena.specs.declared.arena.ArenaError.{ArenaError}
use Rattle.html_open.specs.Adopting.{Adopted, IsRefusal}
use Rattle.html_open.specs.Entries.{has_node, nodes_of}
use Rattle.html_open.specs.Marking.{bare}
use Rattle.html_open.specs.Opened.{open_at}
use Rattle.html_open.specs.Reopening.{IsCause, Reopened}
use Rattle.html_tree.specs.States.{State}

-- the code points that the listed elements hold, each counted once
abbrev pub listed_weight : State → ℕ
listed_weight a = sum_by (λ x. weight (label_of a.tree x)) (nodes_of a.list)

-- the listed elements that were not open were opened anew, whatever the marks and steps
pub record IsReopened (foster : Bool) (a b : State) : Type 0 where
  pub old : Tree
  pub new : Tree
  pub old_is : bare old ≡ a.tree
  pub new_is : bare new ≡ b.tree
  pub reopened : Reopened foster (open_at a.stack a.list old) (open_at b.stack b.list new)

-- the end tag of a formatting name was followed, whatever the marks and steps
pub record IsAdopted (name : Tag) (foster : Bool) (end : AdoptEnd) (a b : State) : Type 0 where
  pub old : Tree
  pub new : Tree
  pub old_is : bare old ≡ a.tree
  pub new_is : bare new ≡ b.tree
  pub adopted : Adopted name foster end (open_at a.stack a.list old) (open_at b.stack b.list new)

-- all nodes that there were keep their labels, and those that were made are clones of listed elements, which are formatting elements: the
-- name, the attributes and the token of each are those of its original
pub record HasCloned (a b : State) : Type 0 where
  pub elements : List ℕ
  pub listed : (x : ℕ) → has x elements ≡ true → has_node x a.list ≡ true
  pub node_in : (x : ℕ) → has x elements ≡ true → x < length a.tree.labels
  pub formatting : (x : ℕ) → has x elements ≡ true → is_formatting (tag_at a.tree x) ≡ true
  pub labels_are : b.tree.labels ≡ a.tree.labels ++ map (λ x. cloned (label_of a.tree x)) elements
  pub limits_are : b.tree.limits ≡ a.tree.limits

-- why a reopening was refused: a budget where the next clone would pass it, and want of memory where it would not
pub record IsReopenRefused (foster : Bool) (a : State) (e : ArenaError) : Type 0 where
  pub old : Tree
  pub old_is : bare old ≡ a.tree
  pub cause : IsCause (open_at a.stack a.list old) foster e

-- why an adoption was refused, and after how many rounds
pub record IsAdoptRefused (name : Tag) (foster : Bool) (a b : State) (e : ArenaError) : Type 0 where
  pub old : Tree
  pub new : Tree
  pub old_is : bare old ≡ a.tree
  pub new_is : bare new ≡ b.tree
  pub refusal : IsRefusal name foster (open_at a.stack a.list old) (open_at b.stack b.list new) e
