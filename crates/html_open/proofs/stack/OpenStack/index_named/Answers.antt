use Rattle.std.proofs.Common.{◌∙◌, ap, length, refl}
use Rattle.html_arena.specs.Tree.{named}
use Rattle.html_open.specs.Lists.{looked}
use Rattle.html_open.specs.Marking.{charged}
use Rattle.html_open.proofs.Lists.{steps_index}
use Rattle.html_open.proofs.Keeps.{charged_keeps}
use Rattle.html_open.proofs.Members.{named-there}
use Rattle.html_open.proofs.stack.OpenStack.index_named.Goals as goal

pub returns-clause-steps : goal.returns-clause-steps
returns-clause-steps c =
    c.charge.ensures
    ∙ ap (charged c.args.arena.now)
    (c.steps_to.ensures
    ∙ steps_index (named c.args.arena.now c.args.name) c.as_slice-nodes.result.now c.last_index-index.result (length c.as_slice-nodes.result.now) refl c.last_index-index.ensures.index
    ∙ ap (looked (named c.args.arena.now c.args.name)) (c.as_slice-nodes.ensures.value ∙ c.self.view_is))

pub returns-clause-keeps : goal.returns-clause-keeps
returns-clause-keeps c = λ l. charged_keeps c.args.self.now l c.args.arena.now c.charge.new.self _ c.charge.ensures

pub returns-clause-there : goal.returns-clause-there
returns-clause-there c = named-there c.args.arena.now c.args.name c.as_slice-nodes.result.now c.args.self.now c.last_index-index.result (c.as_slice-nodes.ensures.value ∙ c.self.view_is) c.last_index-index.ensures.index
