use Rattle.std.proofs.Common.{◌≡◌, ◌≤◌, ◌+◌, ap, subst, arith}
use Rattle.html_arena.specs.Tree.{Tree, more}
use Rattle.html_open.proofs.Keeps.{charged_keeps}
use Rattle.html_tree.specs.States.{State}
use Rattle.html_tree.proofs.Kept.{charged-steps, charged-under_way, read-grown, read-keeps, read-rest}
use Rattle.html_tree.proofs.SearchEnds.{ends-labels}
use Rattle.html_tree.proofs.Standing.{seats-as}
use Rattle.html_tree.proofs.tree.OpenTree.charge.Goals as goal

pub invariant_of-self : goal.invariant_of-self
invariant_of-self c = (
  charged-under_way c.self.inside.stack c.self.inside.list c.self.inside.arena c.charge.new.self c.self.inside.tokens _ c.self.inside.head c.self.inside.form c.self.inside.detached c.charge.ensures
      (charged_keeps c.self.inside.stack c.self.inside.list c.self.inside.arena c.charge.new.self _ c.charge.ensures c.self.invariant.0.is_open) c.self.invariant.0,
  ends-labels c.self.inside.stack c.self.inside.p_ends.items c.self.inside.arena c.charge.new.self c.self.invariant.1 (ap (λ (v : Tree). v.labels) c.charge.ensures),
  seats-as c.self.inside.arena c.charge.new.self c.self.inside.stack (ap (λ (v : Tree). v.labels) c.charge.ensures) (ap (λ (v : Tree). v.parents) c.charge.ensures) c.self.invariant.2,
)

pub returns-clause-rest : goal.returns-clause-rest
returns-clause-rest c = read-rest c.args.self.now c.self.inside.stack c.self.inside.list c.self.inside.arena c.charge.new.self c.self.inside.tokens _ c.self.inside.head c.self.inside.form c.self.inside.detached c.self.view_is c.charge.ensures

pub returns-clause-steps : goal.returns-clause-steps
returns-clause-steps c =
    subst (λ (a : State). c.charge.new.self.steps ≤ a.steps + c.args.steps) c.self.view_is
    (charged-steps c.self.inside.arena c.charge.new.self c.args.steps c.args.steps c.charge.ensures (omega arith))

pub returns-clause-keeps : goal.returns-clause-keeps
returns-clause-keeps c = read-keeps c.args.self.now c.self.inside.stack c.self.inside.list c.self.inside.arena c.charge.new.self c.self.inside.tokens _ c.self.inside.head c.self.inside.form c.self.inside.detached c.self.view_is c.charge.ensures

pub returns-clause-grown : goal.returns-clause-grown
returns-clause-grown c = read-grown c.args.self.now c.self.inside.stack c.self.inside.list c.self.inside.arena c.charge.new.self c.self.inside.tokens _ c.self.inside.head c.self.inside.form c.self.inside.detached c.self.view_is c.charge.ensures

pub returns-clause-counted : goal.returns-clause-counted
returns-clause-counted c =
    subst (λ (a : State). c.charge.new.self.steps ≡ more a.steps c.args.steps) c.self.view_is (ap (λ (v : Tree). v.steps) c.charge.ensures)
