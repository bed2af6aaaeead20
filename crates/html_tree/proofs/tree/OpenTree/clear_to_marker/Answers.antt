use Rattle.std.proofs.Common.{◌≡◌, ◌≤◌, ◌+◌, ◌*◌, length, ◌∙◌, ap, subst, refl, arith}
use Rattle.html_arena.specs.Tree.{Tree, more}
use Rattle.html_open.specs.Marking.{bare}
use Rattle.html_tree.specs.States.{State}
use Rattle.html_tree.proofs.Kept.{all_unmarked-steps, looked-most, more-most}
use Rattle.html_tree.proofs.Relisting.{below-most, relisted-exact, relisted-grown, relisted-keeps, relisted-under_way}
use Rattle.html_arena.specs.declared.marks.Mark.TheVariants.{InList}
use Rattle.html_open.specs.Entries.{cleared, is_marker}
use Rattle.html_open.specs.Lists.{below, looked}
use Rattle.html_open.proofs.Closing.{bare-all}
use Rattle.html_tree.proofs.OpenTags.{kept-tags}
use Rattle.html_tree.proofs.SearchEnds.{ends-labels}
use Rattle.html_tree.proofs.Standing.{seats-as}
use Rattle.html_tree.proofs.tree.OpenTree.clear_to_marker.Goals as goal

pub invariant_of-self : goal.invariant_of-self
invariant_of-self c = (
  relisted-under_way c.args.self.now c.self.inside.stack c.self.inside.list c.clear_to_marker.new.self c.self.inside.arena c.clear_to_marker.new.arena c.self.inside.tokens c.self.inside.head c.self.inside.form c.self.inside.detached c.self.view_is (ap bare c.clear_to_marker.ensures.tree ∙ bare-all c.self.inside.arena InList (cleared c.self.inside.list)) (c.clear_to_marker.ensures.keeps c.self.inside.stack c.self.invariant.0.is_open) c.self.invariant.0,
  ends-labels c.self.inside.stack c.self.inside.p_ends.items c.self.inside.arena c.clear_to_marker.new.arena c.self.invariant.1 (ap (λ (v : Tree). v.labels) (ap bare c.clear_to_marker.ensures.tree ∙ bare-all c.self.inside.arena InList (cleared c.self.inside.list))),
  seats-as c.self.inside.arena c.clear_to_marker.new.arena c.self.inside.stack (ap (λ (v : Tree). v.labels) (ap bare c.clear_to_marker.ensures.tree ∙ bare-all c.self.inside.arena InList (cleared c.self.inside.list))) (ap (λ (v : Tree). v.parents) (ap bare c.clear_to_marker.ensures.tree ∙ bare-all c.self.inside.arena InList (cleared c.self.inside.list))) c.self.invariant.2,
)

pub returns-clause-exact : goal.returns-clause-exact
returns-clause-exact c = relisted-exact c.args.self.now c.self.inside.stack c.self.inside.list c.clear_to_marker.new.self c.self.inside.arena c.clear_to_marker.new.arena c.self.inside.tokens c.self.inside.head c.self.inside.form c.self.inside.detached c.self.view_is (ap bare c.clear_to_marker.ensures.tree ∙ bare-all c.self.inside.arena InList (cleared c.self.inside.list)) (λ (b : State). below is_marker b.list) c.clear_to_marker.ensures.list

pub returns-clause-keeps : goal.returns-clause-keeps
returns-clause-keeps c = relisted-keeps c.args.self.now c.self.inside.stack c.self.inside.list c.clear_to_marker.new.self c.self.inside.arena c.clear_to_marker.new.arena c.self.inside.tokens c.self.inside.head c.self.inside.form c.self.inside.detached c.self.view_is (ap bare c.clear_to_marker.ensures.tree ∙ bare-all c.self.inside.arena InList (cleared c.self.inside.list)) (let x = c.clear_to_marker.ensures.steps in omega (arith, x))

pub returns-clause-grown : goal.returns-clause-grown
returns-clause-grown c = relisted-grown c.args.self.now c.self.inside.stack c.self.inside.list c.clear_to_marker.new.self c.self.inside.arena c.clear_to_marker.new.arena c.self.inside.tokens c.self.inside.head c.self.inside.form c.self.inside.detached c.self.view_is (ap bare c.clear_to_marker.ensures.tree ∙ bare-all c.self.inside.arena InList (cleared c.self.inside.list)) 0 (let y = ap length c.clear_to_marker.ensures.list in let z = below-most is_marker c.self.inside.list in omega (arith, y, z))

pub returns-clause-steps : goal.returns-clause-steps
returns-clause-steps c =
    subst (λ (a : State). c.clear_to_marker.new.arena.steps ≤ a.steps + 2 * length a.list) c.self.view_is
    (let x : c.clear_to_marker.new.arena.steps ≡ more c.self.inside.arena.steps (2 * looked is_marker c.self.inside.list) = ap (λ (v : Tree). v.steps) c.clear_to_marker.ensures.tree ∙ ap (λ k. more k (2 * looked is_marker c.self.inside.list)) (all_unmarked-steps c.self.inside.arena InList (cleared c.self.inside.list)) in
    let y = more-most c.self.inside.arena.steps (2 * looked is_marker c.self.inside.list) in
    let z = looked-most is_marker c.self.inside.list in omega (arith, x, y, z))

pub returns-clause-tags : goal.returns-clause-tags
returns-clause-tags c = kept-tags c.args.self.now _ c.self.inside.stack c.self.inside.list c.self.inside.arena c.self.inside.tokens c.self.inside.head c.self.inside.form c.self.inside.detached c.self.view_is c.self.invariant.0 (returns-clause-keeps c) refl

pub returns-clause-counted : goal.returns-clause-counted
returns-clause-counted c = subst (λ (a : State). c.clear_to_marker.new.arena.steps ≡ more a.steps (2 * looked is_marker a.list)) c.self.view_is c.clear_to_marker.ensures.steps
