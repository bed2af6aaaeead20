use Rattle.std.proofs.Common.{refl, ap, arith}
use Rattle.html_construction.proofs.Kept.{kept, still, adds-none}
use Rattle.html_construction.proofs.Building.{as-was}
use Rattle.html_tree.specs.States.{State as Tree}
use Rattle.html_construction.proofs.Working.{works-counted}
use Rattle.html_construction.proofs.construction.Construction.add_marker.Goals as goal

pub invariant_of-self : goal.invariant_of-self
invariant_of-self c = still _ _ c.self.inside.ledger c.self.inside.registers.templates.items c.add_marker.ensures.tokens c.self.invariant

pub returns-clause-keeps : goal.returns-clause-keeps
returns-clause-keeps c = kept _ c.args.self.now _ c.self.view_is refl refl c.in_ok-add_marker.ensures.keeps (as-was _ _ (ap (λ (x : Tree). x.tree) c.in_ok-add_marker.ensures.exact))

pub returns-clause-works : goal.returns-clause-works
returns-clause-works c = works-counted 1 c.args.self.now _ _ c.self.inside.ledger c.self.view_is c.in_ok-add_marker.ensures.keeps (adds-none _ _ refl) (let h = c.in_ok-add_marker.ensures.steps in omega (arith, h))
