use Rattle.std.proofs.Common.{refl, ap}
use Rattle.html_construction.proofs.Kept.{kept, reopened, stack-is, adds-none}
use Rattle.html_construction.proofs.Copying.{grown-reopened}
use Rattle.html_construction.proofs.Cloning.{reopened-copies}
use Rattle.html_construction.proofs.Working.{works-reopened}
use Rattle.html_construction.proofs.Telling.{handed-on-any, refused-clones}
use Rattle.html_construction.specs.States.{State}
use Rattle.std.proofs.Common.{rules}
use Rattle.html_construction.proofs.Doing.{reconstructing}
use Rattle.html_construction.proofs.Homing.{homing-seen}
use Rattle.html_construction.proofs.construction.Construction.reconstruct.Goals as goal

pub returns-clause-keeps : goal.returns-clause-keeps
returns-clause-keeps c = kept _ c.args.self.now _ c.self.view_is refl refl c.in_ok-reopen.ensures.keeps c.in_ok-reopen.ensures.clones

pub returns-clause-lighter : goal.returns-clause-lighter
returns-clause-lighter c = reopened c.args.self.now c.self.inside.tree c.reopen.new.self (stack-is _ c.args.self.now c.self.view_is) c.reopen.ensures.opened

pub returns-clause-grown : goal.returns-clause-grown
returns-clause-grown c =
    grown-reopened _ _ c.args.self.now _ _ c.self.view_is c.requires.listed c.in_ok-reopen.ensures.grown
    (reopened-copies c.self.inside.registers.fostering c.self.inside.tree _ c.laws.ensures.sound c.in_ok-reopen.ensures.exact)

pub returns-clause-works : goal.returns-clause-works
returns-clause-works c = works-reopened c.args.self.now _ _ c.self.view_is c.laws.ensures.sound c.self.invariant.tokens c.requires.listed c.in_ok-reopen.ensures.keeps (adds-none _ _ refl) c.reopen.ensures.steps

pub returns-in_err-reopen-clause-refuses : goal.returns-in_err-reopen-clause-refuses
returns-in_err-reopen-clause-refuses c =
    handed-on-any c.from_residual.result c.args.self.now _ c.in_err-reopen.field-0.0 c.from_residual.ensures.1
    (refused-clones c.args.self.now _ c.self.inside.tree c.in_err-reopen.field-0.0 (ap (λ (x : State). x.tree.tree.limits) c.self.view_is) c.in_err-reopen.ensures.told)

pub returns-clause-follows : goal.returns-clause-follows
returns-clause-follows c = reconstructing c.args.self.now _ (search rules) (search rules) (search rules)

pub returns-clause-home : goal.returns-clause-home
returns-clause-home c = homing-seen _ c.args.self.now _ c.reopen.new.self c.self.view_is refl refl c.reopen.ensures.opened c.requires.opened
