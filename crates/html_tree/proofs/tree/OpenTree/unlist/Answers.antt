use Rattle.std.proofs.Common.{◌≡◌, ◌≤◌, ◌+◌, ◌*◌, length, ap, subst, refl, arith}
use Rattle.html_arena.specs.Tree.{Tree, more}
use Rattle.html_open.specs.Marking.{bare}
use Rattle.html_tree.specs.States.{State}
use Rattle.html_tree.proofs.Kept.{more-most}
use Rattle.html_tree.proofs.Relisting.{relisted-exact, relisted-grown, relisted-keeps, relisted-under_way, removal-most, without-most}
use Rattle.html_open.specs.Entries.{is_node, removal_steps, without_node}
use Rattle.html_tree.proofs.OpenTags.{kept-tags}
use Rattle.html_tree.proofs.SearchEnds.{ends-labels}
use Rattle.html_tree.proofs.Standing.{seats-as}
use Rattle.html_tree.proofs.tree.OpenTree.unlist.Goals as goal

pub invariant_of-self : goal.invariant_of-self
invariant_of-self c = (
  relisted-under_way c.args.self.now c.self.inside.stack c.self.inside.list c.remove.new.self c.self.inside.arena c.remove.new.arena c.self.inside.tokens c.self.inside.head c.self.inside.form c.self.inside.detached c.self.view_is (ap bare c.remove.ensures.tree) (c.remove.ensures.keeps c.self.inside.stack c.self.invariant.0.is_open) c.self.invariant.0,
  ends-labels c.self.inside.stack c.self.inside.p_ends.items c.self.inside.arena c.remove.new.arena c.self.invariant.1 (ap (λ (v : Tree). v.labels) c.remove.ensures.tree),
  seats-as c.self.inside.arena c.remove.new.arena c.self.inside.stack (ap (λ (v : Tree). v.labels) c.remove.ensures.tree) (ap (λ (v : Tree). v.parents) c.remove.ensures.tree) c.self.invariant.2,
)

pub returns-clause-exact : goal.returns-clause-exact
returns-clause-exact c = relisted-exact c.args.self.now c.self.inside.stack c.self.inside.list c.remove.new.self c.self.inside.arena c.remove.new.arena c.self.inside.tokens c.self.inside.head c.self.inside.form c.self.inside.detached c.self.view_is (ap bare c.remove.ensures.tree) (λ (b : State). without_node c.args.node b.list) c.remove.ensures.list

pub returns-clause-keeps : goal.returns-clause-keeps
returns-clause-keeps c = relisted-keeps c.args.self.now c.self.inside.stack c.self.inside.list c.remove.new.self c.self.inside.arena c.remove.new.arena c.self.inside.tokens c.self.inside.head c.self.inside.form c.self.inside.detached c.self.view_is (ap bare c.remove.ensures.tree) (let x = c.remove.ensures.steps in omega (arith, x))

pub returns-clause-grown : goal.returns-clause-grown
returns-clause-grown c = relisted-grown c.args.self.now c.self.inside.stack c.self.inside.list c.remove.new.self c.self.inside.arena c.remove.new.arena c.self.inside.tokens c.self.inside.head c.self.inside.form c.self.inside.detached c.self.view_is (ap bare c.remove.ensures.tree) 0 (let y = ap length c.remove.ensures.list in let z = without-most (is_node c.args.node) c.self.inside.list in omega (arith, y, z))

pub returns-clause-steps : goal.returns-clause-steps
returns-clause-steps c =
    subst (λ (a : State). c.remove.new.arena.steps ≤ a.steps + 2 * length a.list + 1) c.self.view_is
    (let x : c.remove.new.arena.steps ≡ more c.self.inside.arena.steps (removal_steps (is_node c.args.node) c.self.inside.list) = ap (λ (v : Tree). v.steps) c.remove.ensures.tree in
    let y = more-most c.self.inside.arena.steps (removal_steps (is_node c.args.node) c.self.inside.list) in
    let z = removal-most (is_node c.args.node) c.self.inside.list in omega (arith, x, y, z))

pub returns-clause-tags : goal.returns-clause-tags
returns-clause-tags c = kept-tags c.args.self.now _ c.self.inside.stack c.self.inside.list c.self.inside.arena c.self.inside.tokens c.self.inside.head c.self.inside.form c.self.inside.detached c.self.view_is c.self.invariant.0 (returns-clause-keeps c) refl

pub returns-clause-counted : goal.returns-clause-counted
returns-clause-counted c = subst (λ (a : State). c.remove.new.arena.steps ≡ more a.steps (removal_steps (is_node c.args.node) a.list)) c.self.view_is c.remove.ensures.steps
