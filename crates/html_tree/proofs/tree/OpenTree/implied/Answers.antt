use Rattle.std.proofs.Common.{◌≡◌, ◌∙◌, ap, subst}
use Rattle.html_open.specs.Lists.{after_index, last_index, up_to, looked}
use Rattle.html_open.specs.Scopes.{stays}
use Rattle.html_tree.specs.Closing.{first_few}
use Rattle.html_tree.specs.States.{State}
use Rattle.html_tree.proofs.Closings.{charged-popped, implied-stack}
use Rattle.html_tree.proofs.Scoped.{implied-back}
use Rattle.html_tree.proofs.Counted.{walk-steps, walked-closed}
use Rattle.html_arena.specs.Tree.{more}
use Rattle.html_tree.proofs.tree.OpenTree.implied.Goals as goal

pub returns-clause-exact : goal.returns-clause-exact
returns-clause-exact c =
    charged-popped c.args.self.now c.charge.new.self c.pop_to.new.self c.after-end.result (up_to (stays c.args.self.now.tree c.args.except) c.args.self.now.stack) c.charge.ensures.rest c.pop_to.ensures.exact
    (subst (λ (a : State). first_few c.after-end.result a.stack ≡ up_to (stays a.tree c.args.except) a.stack) c.self.view_is
    (ap (λ k. first_few k c.self.inside.stack) (c.after-end.ensures.value ∙ ap after_index (c.last_index-at.ensures.index ∙ ap (λ v. last_index (stays c.self.inside.arena c.args.except) v) c.as_slice-nodes.ensures))
    ∙ implied-stack c.self.inside.stack c.self.inside.list c.self.inside.arena c.self.inside.tokens c.self.inside.head c.self.inside.form c.self.inside.detached c.args.except c.self.invariant.0))

pub returns-clause-left : goal.returns-clause-left
returns-clause-left c = implied-back c.args.self.now c.pop_to.new.self c.args.except (returns-clause-exact c)

pub returns-clause-counted : goal.returns-clause-counted
returns-clause-counted c =
    walked-closed c.args.self.now c.charge.new.self c.pop_to.new.self (looked (stays c.args.self.now.tree c.args.except) c.args.self.now.stack) c.charge.ensures.rest
    (c.charge.ensures.counted ∙ ap (more c.args.self.now.steps) (subst (λ (a : State). c.steps_down-steps.result ≡ looked (stays a.tree c.args.except) a.stack) c.self.view_is
    (walk-steps (stays c.self.inside.arena c.args.except) c.as_slice-nodes.result.now c.self.inside.stack c.last_index-at.result c.steps_down-steps.result c.steps_down-steps.ensures.value c.last_index-at.ensures.index c.as_slice-nodes.ensures)))
    c.pop_to.ensures.counted
