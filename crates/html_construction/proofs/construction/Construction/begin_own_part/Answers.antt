use Rattle.std.proofs.Common.{◌∙◌, ap, length, refl}
use Rattle.html_construction.specs.States.{State}
use Rattle.html_construction.proofs.Doing.{own_part_by}
use Rattle.html_construction.proofs.Kept.{kept, unchanged}
use Rattle.html_construction.proofs.Building.{as-was}
use Rattle.html_construction.proofs.construction.Construction.begin_own_part.Goals as goal

pub returns-clause-keeps : goal.returns-clause-keeps
returns-clause-keeps c = kept _ c.args.self.now _ c.self.view_is refl refl (unchanged _) (as-was _ _ refl)

pub returns-clause-follows : goal.returns-clause-follows
returns-clause-follows c =
    own_part_by c.depth.result c.node_count.result c.args.self.now _ (ap (λ (x : State). record x { depth = c.depth.result; nodes = c.node_count.result }) c.self.view_is) c.depth.ensures.elements
    (c.node_count.ensures.count ∙ ap (λ (x : State). length x.tree.tree.labels) c.self.view_is)
