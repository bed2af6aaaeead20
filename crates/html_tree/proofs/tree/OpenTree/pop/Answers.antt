use Rattle.html_tree.proofs.OpenTags.{popped-tags}
use Rattle.std.proofs.Common.{arith, ap, length, ◌≡◌, ◌∙◌}
use Rattle.html_tree.specs.States.{State}
use Rattle.html_tree.proofs.tree.OpenTree.pop.Goals as goal

pub returns-clause-tags : goal.returns-clause-tags
returns-clause-tags c = popped-tags c.args.self.now c.pop_to.new.self c.saturating_sub.result c.pop_to.ensures.exact
    (let e = c.saturating_sub.ensures in let l : c.len-count.result ≡ length c.args.self.now.stack = c.len-count.ensures ∙ ap (λ (a : State). length a.stack) c.self.view_is in omega (arith, e, l))
