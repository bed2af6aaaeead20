use Rattle.std.proofs.Common.{◌<◌, length, ap, subst, ◌∙◌}
use Rattle.html_tree.proofs.OpenTags.{length-tags}
use Rattle.html_tree.specs.States.{State as Open}
use Rattle.html_construction.specs.States.{State}
use Rattle.html_modes.proofs.Settled.{text-stack}
use Rattle.html_modes.proofs.RawText.{left-popped}
use Rattle.html_modes.proofs.modes.text.leave_text.Goals as goal

pub returns-clause-left : goal.returns-clause-left
returns-clause-left c =
    left-popped c.args.page.now.tree c.leave.new.self.tree
    (ap (λ (x : State). x.tree.tree) c.leave.ensures.rest ∙ ap (λ (x : Open). x.tree) c.pop.ensures.exact.tree_is)
    (ap (λ (x : State). x.tree.stack) c.leave.ensures.rest ∙ ap (λ (x : Open). x.stack) c.pop.ensures.exact.tree_is)
    c.laws.ensures.sound
    (subst (λ n. 1 < n) (ap length c.laws.ensures.tags ∙ length-tags c.args.page.now.tree.tree c.args.page.now.tree.stack) (text-stack c.args.page.now c.requires.mode c.requires.fits))
