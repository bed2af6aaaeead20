use Rattle.html_tree.specs.declared.groups.Group.TheVariants as group
use Rattle.std.proofs.Common.{refl, ap, arith}
use Rattle.html_construction.proofs.Kept.{closed, kept, lighter, stack-is, adds-none}
use Rattle.html_construction.proofs.Building.{as-was}
use Rattle.html_tree.specs.States.{State as Tree}
use Rattle.html_construction.proofs.Working.{works-walk}
use Rattle.html_construction.proofs.construction.Construction.close_in_scope.Goals as goal

pub returns-clause-keeps : goal.returns-clause-keeps
returns-clause-keeps c = kept _ c.args.self.now _ c.self.view_is refl refl c.close.ensures.keeps (as-was _ _ (ap (λ (x : Tree). x.tree) c.close.ensures.exact))

pub returns-clause-lighter : goal.returns-clause-lighter
returns-clause-lighter c = lighter c.args.self.now c.self.inside.tree c.close.new.self (stack-is _ c.args.self.now c.self.view_is) c.close.ensures.lighter

pub returns-clause-found : goal.returns-clause-found
returns-clause-found c = λ e h. closed (group.Named c.args.tag) c.args.self.now c.self.inside.tree c.close.new.self (stack-is _ c.args.self.now c.self.view_is) (c.close.ensures.found e h)

pub returns-clause-works : goal.returns-clause-works
returns-clause-works c = works-walk c.args.self.now _ _ c.self.inside.ledger c.self.view_is c.laws.ensures.sound c.self.invariant.tokens c.close.ensures.keeps (adds-none _ _ refl) (let h = c.close.ensures.steps in omega (arith, h))
