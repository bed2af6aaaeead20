use Rattle.std.proofs.Common.{refl, ap, arith}
use Rattle.html_construction.specs.States.{State}
use Rattle.html_construction.proofs.Kept.{implied, still, adds-none}
use Rattle.html_tree.specs.States.{State as Tree}
use Rattle.html_construction.proofs.Copying.{copied-implied, grown-kept}
use Rattle.html_construction.proofs.Working.{works-walk}
use Rattle.html_construction.proofs.Telling.{handed-on-any, refused-implied}
use Rattle.html_construction.proofs.construction.Construction.insert_implied_void.Goals as goal

pub invariant_of-self : goal.invariant_of-self
invariant_of-self c = still _ _ c.self.inside.ledger c.self.inside.registers.templates.items c.insert_implied_void.ensures.tokens c.self.invariant

pub returns-clause-keeps : goal.returns-clause-keeps
returns-clause-keeps c = implied _ c.args.self.now _ _ c.args.tag c.self.view_is refl refl c.in_ok-insert_implied_void.ensures.keeps (ap (λ (x : Tree). x.tree) c.in_ok-insert_implied_void.ensures.exact) c.requires.alone

pub returns-clause-grown : goal.returns-clause-grown
returns-clause-grown c =
    grown-kept 2 0 0 1 0 _ c.args.self.now _ _ c.self.view_is c.in_ok-insert_implied_void.ensures.grown
    (copied-implied c.self.inside.tree.tree _ (_) c.args.tag (ap (λ (x : Tree). x.tree) c.in_ok-insert_implied_void.ensures.exact))

pub returns-clause-works : goal.returns-clause-works
returns-clause-works c = works-walk c.args.self.now _ _ c.self.inside.ledger c.self.view_is c.laws.ensures.sound c.self.invariant.tokens c.in_ok-insert_implied_void.ensures.keeps (adds-none _ _ refl) (let h = c.in_ok-insert_implied_void.ensures.steps in omega (arith, h))

pub returns-in_err-insert_implied_void-clause-refuses : goal.returns-in_err-insert_implied_void-clause-refuses
returns-in_err-insert_implied_void-clause-refuses c =
    handed-on-any c.from_residual.result c.args.self.now _ c.in_err-insert_implied_void.field-0.0 c.from_residual.ensures.1
    (refused-implied c.args.self.now _ c.self.inside.tree c.args.tag c.in_err-insert_implied_void.field-0.0 (ap (λ (x : State). x.tree.tree.limits) c.self.view_is) c.requires.alone c.in_err-insert_implied_void.ensures.told)
