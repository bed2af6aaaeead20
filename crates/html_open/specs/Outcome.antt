-- Claimed.
-- What two runs of the adoption agency (13.2.6.4.7) from one state have in common.
use Rattle.std.specs.Prelude.{◌≡◌}
use Rattle.html_open.specs.Opened.{Open}

-- the same stack, list, labels, parents, lists of children and limits: all but marks, steps and what is held
pub record IsAlike (p q : Open) : Type 0 where
  pub same_stack : q.stack ≡ p.stack
  pub same_list : q.list ≡ p.list
  pub same_labels : q.tree.labels ≡ p.tree.labels
  pub same_parents : q.tree.parents ≡ p.tree.parents
  pub same_children : q.tree.children ≡ p.tree.children
  pub same_limits : q.tree.limits ≡ p.tree.limits
