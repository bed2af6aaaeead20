use Rattle.std.proofs.Common.{refl, ap, arith}
use Rattle.html_construction.proofs.Kept.{kept, adds-none}
use Rattle.html_construction.proofs.Building.{as-was}
use Rattle.html_tree.specs.States.{State as Tree}
use Rattle.html_construction.proofs.Working.{works-walk}
use Rattle.html_construction.proofs.construction.Construction.index_of_foreign.Goals as goal

pub returns-clause-keeps : goal.returns-clause-keeps
returns-clause-keeps c = kept _ c.args.self.now _ c.self.view_is refl refl c.find_foreign.ensures.keeps (as-was _ _ (ap (λ (x : Tree). x.tree) c.find_foreign.ensures.rest))

pub returns-clause-works : goal.returns-clause-works
returns-clause-works c = works-walk c.args.self.now _ _ c.self.inside.ledger c.self.view_is c.laws.ensures.sound c.self.invariant.tokens c.find_foreign.ensures.keeps (adds-none _ _ refl) (let h = c.find_foreign.ensures.steps in omega (arith, h))
