use Rattle.std.proofs.Common.{ap, refl, subst, ◌≡◌, arith}
use Rattle.html_open.specs.Marking.{bare}
use Rattle.html_tree.proofs.Relisting.{relisted-keeps, relisted-under_way}
use Rattle.html_tree.proofs.OpenTags.{kept-tags}
use Rattle.html_arena.specs.Tree.{Tree, more}
use Rattle.html_tree.proofs.SearchEnds.{ends-labels}
use Rattle.html_tree.proofs.Standing.{seats-as}
use Rattle.html_tree.specs.States.{State}
use Rattle.html_tree.proofs.tree.OpenTree.add_marker.Goals as goal

pub invariant_of-self-2 : goal.invariant_of-self-2
invariant_of-self-2 c = (
  relisted-under_way c.args.self.now c.self.inside.stack c.self.inside.list c.marker.new.self c.self.inside.arena c.marker.new.arena c.self.inside.tokens c.self.inside.head c.self.inside.form c.self.inside.detached c.self.view_is (ap bare c.in_ok-marker.ensures.tree) (c.in_ok-marker.ensures.keeps c.self.inside.stack c.self.invariant.0.is_open) c.self.invariant.0,
  ends-labels c.self.inside.stack c.self.inside.p_ends.items c.self.inside.arena c.marker.new.arena c.self.invariant.1 (ap (λ (v : Tree). v.labels) c.in_ok-marker.ensures.tree),
  seats-as c.self.inside.arena c.marker.new.arena c.self.inside.stack (ap (λ (v : Tree). v.labels) c.in_ok-marker.ensures.tree) (ap (λ (v : Tree). v.parents) c.in_ok-marker.ensures.tree) c.self.invariant.2,
)

pub returns-clause-keeps : goal.returns-clause-keeps
returns-clause-keeps c = relisted-keeps c.args.self.now c.self.inside.stack c.self.inside.list c.marker.new.self c.self.inside.arena c.marker.new.arena c.self.inside.tokens c.self.inside.head c.self.inside.form c.self.inside.detached c.self.view_is (ap bare c.in_ok-marker.ensures.tree) (let x : c.marker.new.arena.steps ≡ more c.self.inside.arena.steps 1 = ap (λ (v : Tree). v.steps) c.in_ok-marker.ensures.tree in omega (arith, x))

pub returns-clause-tags : goal.returns-clause-tags
returns-clause-tags c = kept-tags c.args.self.now _ c.self.inside.stack c.self.inside.list c.self.inside.arena c.self.inside.tokens c.self.inside.head c.self.inside.form c.self.inside.detached c.self.view_is c.self.invariant.0 (returns-clause-keeps c) refl

pub returns-clause-counted : goal.returns-clause-counted
returns-clause-counted c = subst (λ (a : State). c.marker.new.arena.steps ≡ more a.steps 1) c.self.view_is (ap (λ (v : Tree). v.steps) c.in_ok-marker.ensures.tree)
