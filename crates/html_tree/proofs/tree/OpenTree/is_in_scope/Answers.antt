use Rattle.std.proofs.Common.{◌≡◌, ◌≤◌, ◌+◌, length, subst, refl, ap}
use Rattle.html_tree.specs.States.{State}
use Rattle.html_tree.proofs.Kept.{charged-steps, charged-under_way, looked-most, read-grown, read-keeps, read-rest}
use Rattle.html_tree.proofs.OpenTags.{kept-tags}
use Rattle.html_tree.proofs.SearchEnds.{ends-labels}
use Rattle.html_arena.specs.Tree.{Tree, more}
use Rattle.html_tree.proofs.Standing.{seats-as}
use Rattle.html_names.specs.declared.sets.Scope.TheVariants.{Default}
use Rattle.html_open.specs.Lists.{looked}
use Rattle.html_open.specs.Scopes.{element_or_end}
use Rattle.html_tree.proofs.tree.OpenTree.is_in_scope.Goals as goal

pub invariant_of-self : goal.invariant_of-self
invariant_of-self c = (
  charged-under_way c.self.inside.stack c.self.inside.list c.self.inside.arena c.is_in_scope.new.arena c.self.inside.tokens _ c.self.inside.head c.self.inside.form c.self.inside.detached c.is_in_scope.ensures.steps (c.is_in_scope.ensures.keeps c.self.inside.list c.self.invariant.0.is_open) c.self.invariant.0,
  ends-labels c.self.inside.stack c.self.inside.p_ends.items c.self.inside.arena c.is_in_scope.new.arena c.self.invariant.1 (ap (λ (v : Tree). v.labels) c.is_in_scope.ensures.steps),
  seats-as c.self.inside.arena c.is_in_scope.new.arena c.self.inside.stack (ap (λ (v : Tree). v.labels) c.is_in_scope.ensures.steps) (ap (λ (v : Tree). v.parents) c.is_in_scope.ensures.steps) c.self.invariant.2,
)

pub returns-clause-rest : goal.returns-clause-rest
returns-clause-rest c = read-rest c.args.self.now c.self.inside.stack c.self.inside.list c.self.inside.arena c.is_in_scope.new.arena c.self.inside.tokens _ c.self.inside.head c.self.inside.form c.self.inside.detached c.self.view_is c.is_in_scope.ensures.steps

pub returns-clause-steps : goal.returns-clause-steps
returns-clause-steps c =
    subst (λ (a : State). c.is_in_scope.new.arena.steps ≤ a.steps + length a.stack) c.self.view_is
    (charged-steps c.self.inside.arena c.is_in_scope.new.arena _ (length c.self.inside.stack) c.is_in_scope.ensures.steps (looked-most _ c.self.inside.stack))

pub returns-clause-keeps : goal.returns-clause-keeps
returns-clause-keeps c = read-keeps c.args.self.now c.self.inside.stack c.self.inside.list c.self.inside.arena c.is_in_scope.new.arena c.self.inside.tokens _ c.self.inside.head c.self.inside.form c.self.inside.detached c.self.view_is c.is_in_scope.ensures.steps

pub returns-clause-grown : goal.returns-clause-grown
returns-clause-grown c = read-grown c.args.self.now c.self.inside.stack c.self.inside.list c.self.inside.arena c.is_in_scope.new.arena c.self.inside.tokens _ c.self.inside.head c.self.inside.form c.self.inside.detached c.self.view_is c.is_in_scope.ensures.steps

pub returns-clause-tags : goal.returns-clause-tags
returns-clause-tags c = kept-tags c.args.self.now _ c.self.inside.stack c.self.inside.list c.self.inside.arena c.self.inside.tokens c.self.inside.head c.self.inside.form c.self.inside.detached c.self.view_is c.self.invariant.0 (returns-clause-keeps c) refl

pub returns-clause-counted : goal.returns-clause-counted
returns-clause-counted c =
    subst (λ (a : State). c.is_in_scope.new.arena.steps ≡ more a.steps (looked (element_or_end a.tree c.args.node Default) a.stack)) c.self.view_is (ap (λ (v : Tree). v.steps) c.is_in_scope.ensures.steps)
