use Rattle.std.proofs.Common.{refl, ap, arith}
use Rattle.html_construction.proofs.Kept.{kept, adds-none}
use Rattle.html_construction.proofs.Building.{as-was}
use Rattle.html_tree.specs.States.{State as Tree}
use Rattle.html_construction.proofs.Working.{works-counted}
use Rattle.html_construction.proofs.construction.Construction.tag_at.Goals as goal

pub returns-clause-keeps : goal.returns-clause-keeps
returns-clause-keeps c = kept _ c.args.self.now _ c.self.view_is refl refl c.tag_at.ensures.keeps (as-was _ _ (ap (λ (x : Tree). x.tree) c.tag_at.ensures.rest))

pub returns-clause-works : goal.returns-clause-works
returns-clause-works c = works-counted 1 c.args.self.now _ _ c.self.inside.ledger c.self.view_is c.tag_at.ensures.keeps (adds-none _ _ refl) (let h = c.tag_at.ensures.steps in omega (arith, h))
