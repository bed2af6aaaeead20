use Rattle.std.proofs.Common.{◌≡◌, ◌≤◌, ◌+◌, length, ap, ◌∙◌, subst, sym, refl, arith}
use Rattle.html_arena.specs.declared.marks.Mark.TheVariants.{InList}
use Rattle.html_arena.specs.Tree.{Tree, more}
use Rattle.html_open.specs.Entries.{displaced, push_steps, pushed}
use Rattle.html_open.specs.Marking.{bare, unmarked}
use Rattle.html_open.specs.Opened.{CanList, open_at}
use Rattle.html_tree.specs.States.{State}
use Rattle.html_tree.proofs.Kept.{more-most}
use Rattle.html_tree.proofs.Listed.{bare-unmarked, full-listed, push_steps-same, pushed-most, pushed-same, unmarked-steps}
use Rattle.html_tree.proofs.Relisting.{relisted-exact, relisted-grown, relisted-keeps, relisted-under_way}
use Rattle.html_tree.proofs.OpenTags.{kept-tags}
use Rattle.html_tree.proofs.SearchEnds.{ends-labels}
use Rattle.html_tree.proofs.Standing.{seats-as}
use Rattle.html_tree.proofs.tree.OpenTree.enlist.Goals as goal

same-tree : (c : goal.In_ok-push) → bare c.push.new.arena ≡ bare c.self.inside.arena
same-tree c = ap bare c.in_ok-push.ensures.tree ∙ bare-unmarked c.self.inside.arena InList (displaced c.self.inside.arena c.args.node c.self.inside.list)

pub invariant_of-self-2 : goal.invariant_of-self-2
invariant_of-self-2 c = (
  relisted-under_way c.args.self.now c.self.inside.stack c.self.inside.list c.push.new.self c.self.inside.arena c.push.new.arena c.self.inside.tokens c.self.inside.head c.self.inside.form c.self.inside.detached c.self.view_is (same-tree c)
      (c.in_ok-push.ensures.keeps c.self.inside.stack c.self.invariant.0.is_open (full-listed c.self.inside.stack c.self.inside.list c.self.inside.arena c.args.node (subst (λ (a : State). CanList (open_at a.stack a.list a.tree) c.args.node) (sym c.self.view_is) c.requires))) c.self.invariant.0,
  ends-labels c.self.inside.stack c.self.inside.p_ends.items c.self.inside.arena c.push.new.arena c.self.invariant.1 (ap (λ (v : Tree). v.labels) (same-tree c)),
  seats-as c.self.inside.arena c.push.new.arena c.self.inside.stack (ap (λ (v : Tree). v.labels) (same-tree c)) (ap (λ (v : Tree). v.parents) (same-tree c)) c.self.invariant.2,
)

pub returns-clause-exact : goal.returns-clause-exact
returns-clause-exact c = relisted-exact c.args.self.now c.self.inside.stack c.self.inside.list c.push.new.self c.self.inside.arena c.push.new.arena c.self.inside.tokens c.self.inside.head c.self.inside.form c.self.inside.detached c.self.view_is (same-tree c) (λ (b : State). pushed b.tree c.args.node b.list) (c.in_ok-push.ensures.list ∙ pushed-same c.self.inside.arena (bare c.self.inside.arena) c.args.node c.self.inside.list refl)

pub returns-clause-keeps : goal.returns-clause-keeps
returns-clause-keeps c = relisted-keeps c.args.self.now c.self.inside.stack c.self.inside.list c.push.new.self c.self.inside.arena c.push.new.arena c.self.inside.tokens c.self.inside.head c.self.inside.form c.self.inside.detached c.self.view_is (same-tree c) (let x = c.in_ok-push.ensures.steps in omega (arith, x))

pub returns-clause-grown : goal.returns-clause-grown
returns-clause-grown c = relisted-grown c.args.self.now c.self.inside.stack c.self.inside.list c.push.new.self c.self.inside.arena c.push.new.arena c.self.inside.tokens c.self.inside.head c.self.inside.form c.self.inside.detached c.self.view_is (same-tree c) 1 (let y = ap length c.in_ok-push.ensures.list in let z = pushed-most c.self.inside.arena c.args.node c.self.inside.list in omega (arith, y, z))

pub returns-clause-steps : goal.returns-clause-steps
returns-clause-steps c =
    subst (λ (a : State). c.push.new.arena.steps ≤ a.steps + push_steps a.tree c.args.node a.list) c.self.view_is
    (let x : c.push.new.arena.steps ≡ more (unmarked c.self.inside.arena InList (displaced c.self.inside.arena c.args.node c.self.inside.list)).steps (push_steps c.self.inside.arena c.args.node c.self.inside.list) = ap (λ (v : Tree). v.steps) c.in_ok-push.ensures.tree in
    let u = unmarked-steps c.self.inside.arena InList (displaced c.self.inside.arena c.args.node c.self.inside.list) in
    let y = more-most (unmarked c.self.inside.arena InList (displaced c.self.inside.arena c.args.node c.self.inside.list)).steps (push_steps c.self.inside.arena c.args.node c.self.inside.list) in
    let z = push_steps-same c.self.inside.arena (bare c.self.inside.arena) c.args.node c.self.inside.list refl in omega (arith, x, u, y, z))

pub returns-clause-tags : goal.returns-clause-tags
returns-clause-tags c = kept-tags c.args.self.now _ c.self.inside.stack c.self.inside.list c.self.inside.arena c.self.inside.tokens c.self.inside.head c.self.inside.form c.self.inside.detached c.self.view_is c.self.invariant.0 (returns-clause-keeps c) refl

pub returns-clause-counted : goal.returns-clause-counted
returns-clause-counted c =
    subst (λ (a : State). c.push.new.arena.steps ≡ more a.steps (push_steps a.tree c.args.node a.list)) c.self.view_is
    (let x : c.push.new.arena.steps ≡ more (unmarked c.self.inside.arena InList (displaced c.self.inside.arena c.args.node c.self.inside.list)).steps (push_steps c.self.inside.arena c.args.node c.self.inside.list) = ap (λ (v : Tree). v.steps) c.in_ok-push.ensures.tree in
    let u = unmarked-steps c.self.inside.arena InList (displaced c.self.inside.arena c.args.node c.self.inside.list) in
    let z = push_steps-same c.self.inside.arena (bare c.self.inside.arena) c.args.node c.self.inside.list refl in omega (arith, x, u, z))
