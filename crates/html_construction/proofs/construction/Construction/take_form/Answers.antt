use Rattle.std.proofs.Common.{refl, ap, arith}
use Rattle.html_construction.proofs.Kept.{kept, adds-none}
use Rattle.html_construction.proofs.Building.{as-was}
use Rattle.html_tree.specs.States.{State as Tree}
use Rattle.html_construction.proofs.Working.{works-counted}
use Rattle.html_construction.proofs.construction.Construction.take_form.Goals as goal

pub returns-clause-keeps : goal.returns-clause-keeps
returns-clause-keeps c = kept _ c.args.self.now _ c.self.view_is refl refl c.set_form.ensures.keeps (as-was _ _ (ap (λ (x : Tree). x.tree) c.set_form.ensures.exact))

pub returns-clause-works : goal.returns-clause-works
returns-clause-works c = works-counted 0 c.args.self.now _ _ c.self.inside.ledger c.self.view_is c.set_form.ensures.keeps (adds-none _ _ refl) (let h = ap (λ (x : Tree). x.steps) c.set_form.ensures.exact in omega (arith, h))
