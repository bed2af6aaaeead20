use Rattle.std.proofs.Common.{refl, subst}
use Rattle.html_tree.specs.Forests.{IsForest}
use Rattle.html_tree.specs.States.{State}
use Rattle.html_tree.proofs.tree.OpenTree.forest.Goals as goal

pub returns : goal.returns
returns c = record {
  forest = subst (λ (a : State). IsForest a.tree) c.self.view_is (record { marked = c.self.inside.arena; well_formed = c.forest.ensures.well_formed; nodes_are = refl });
}
