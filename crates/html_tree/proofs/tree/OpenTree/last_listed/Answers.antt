use Rattle.std.proofs.Common.{◌≡◌, ◌≤◌, ◌+◌, length, subst, ap, ◌∙◌, refl}
use Rattle.html_open.specs.Entries.{last_named}
use Rattle.html_tree.specs.States.{State}
use Rattle.html_tree.proofs.Kept.{charged-steps, charged-under_way, looked-most, read-grown, read-keeps, read-rest}
use Rattle.html_tree.proofs.OpenTags.{kept-tags}
use Rattle.html_tree.proofs.SearchEnds.{ends-labels}
use Rattle.html_arena.specs.Tree.{Tree, more}
use Rattle.html_tree.proofs.Standing.{seats-as}
use Rattle.html_open.specs.Lists.{looked}
use Rattle.html_open.specs.Entries.{named_or_marker}
use Rattle.html_tree.proofs.tree.OpenTree.last_listed.Goals as goal

pub invariant_of-self : goal.invariant_of-self
invariant_of-self c = (
  charged-under_way c.self.inside.stack c.self.inside.list c.self.inside.arena c.last_named.new.arena c.self.inside.tokens _ c.self.inside.head c.self.inside.form c.self.inside.detached c.last_named.ensures.steps (c.last_named.ensures.keeps c.self.inside.stack c.self.invariant.0.is_open) c.self.invariant.0,
  ends-labels c.self.inside.stack c.self.inside.p_ends.items c.self.inside.arena c.last_named.new.arena c.self.invariant.1 (ap (λ (v : Tree). v.labels) c.last_named.ensures.steps),
  seats-as c.self.inside.arena c.last_named.new.arena c.self.inside.stack (ap (λ (v : Tree). v.labels) c.last_named.ensures.steps) (ap (λ (v : Tree). v.parents) c.last_named.ensures.steps) c.self.invariant.2,
)

pub returns-clause-rest : goal.returns-clause-rest
returns-clause-rest c = read-rest c.args.self.now c.self.inside.stack c.self.inside.list c.self.inside.arena c.last_named.new.arena c.self.inside.tokens _ c.self.inside.head c.self.inside.form c.self.inside.detached c.self.view_is c.last_named.ensures.steps

pub returns-clause-steps : goal.returns-clause-steps
returns-clause-steps c =
    subst (λ (a : State). c.last_named.new.arena.steps ≤ a.steps + length a.list) c.self.view_is
    (charged-steps c.self.inside.arena c.last_named.new.arena _ (length c.self.inside.list) c.last_named.ensures.steps (looked-most _ c.self.inside.list))

pub returns-clause-keeps : goal.returns-clause-keeps
returns-clause-keeps c = read-keeps c.args.self.now c.self.inside.stack c.self.inside.list c.self.inside.arena c.last_named.new.arena c.self.inside.tokens _ c.self.inside.head c.self.inside.form c.self.inside.detached c.self.view_is c.last_named.ensures.steps

pub returns-clause-grown : goal.returns-clause-grown
returns-clause-grown c = read-grown c.args.self.now c.self.inside.stack c.self.inside.list c.self.inside.arena c.last_named.new.arena c.self.inside.tokens _ c.self.inside.head c.self.inside.form c.self.inside.detached c.self.view_is c.last_named.ensures.steps

pub returns-clause-node : goal.returns-clause-node
returns-clause-node c = c.last_named.ensures.node ∙ ap (λ (a : State). last_named a.tree c.args.name a.list) c.self.view_is

pub returns-clause-tags : goal.returns-clause-tags
returns-clause-tags c = kept-tags c.args.self.now _ c.self.inside.stack c.self.inside.list c.self.inside.arena c.self.inside.tokens c.self.inside.head c.self.inside.form c.self.inside.detached c.self.view_is c.self.invariant.0 (returns-clause-keeps c) refl

pub returns-clause-counted : goal.returns-clause-counted
returns-clause-counted c =
    subst (λ (a : State). c.last_named.new.arena.steps ≡ more a.steps (looked (named_or_marker a.tree c.args.name) a.list)) c.self.view_is (ap (λ (v : Tree). v.steps) c.last_named.ensures.steps)
