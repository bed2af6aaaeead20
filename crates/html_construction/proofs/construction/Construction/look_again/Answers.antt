use Rattle.std.proofs.Common.{refl, ap, arith, ◌*◌}
use Rattle.html_construction.proofs.Kept.{kept, adds-none}
use Rattle.html_construction.proofs.Building.{as-was}
use Rattle.html_tree.specs.States.{State as Tree}
use Rattle.html_construction.proofs.Working.{works-counted}
use Rattle.html_construction.proofs.construction.Construction.look_again.Goals as goal

pub returns-clause-keeps : goal.returns-clause-keeps
returns-clause-keeps c = kept _ c.args.self.now _ c.self.view_is refl refl c.look_again.ensures.keeps (as-was _ _ (ap (λ (x : Tree). x.tree) c.look_again.ensures.rest))

pub returns-clause-works : goal.returns-clause-works
returns-clause-works c = works-counted (2 * c.args.times) c.args.self.now _ _ c.self.inside.ledger c.self.view_is c.look_again.ensures.keeps (adds-none _ _ refl) (let h = c.look_again.ensures.steps in omega (arith, h))
