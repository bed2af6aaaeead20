use Rattle.std.proofs.Common.{eqb, ◌∙◌, ap, length, refl}
use Rattle.html_open.specs.Lists.{last_index, looked}
use Rattle.html_open.specs.Marking.{charged}
use Rattle.html_open.proofs.Lists.{steps_index}
use Rattle.html_open.proofs.Keeps.{charged_keeps}
use Rattle.html_open.proofs.Members.{index-there}
use Rattle.html_open.proofs.stack.OpenStack.index_of.Goals as goal

pub returns-clause-steps : goal.returns-clause-steps
returns-clause-steps c =
    c.charge.ensures
    ∙ ap (charged c.args.arena.now)
    (c.steps_to.ensures
    ∙ steps_index (eqb c.args.node) c.as_slice-nodes.result.now c.last_index-index.result (length c.as_slice-nodes.result.now) refl c.last_index-index.ensures.index
    ∙ ap (looked (eqb c.args.node)) (c.as_slice-nodes.ensures.value ∙ c.self.view_is))

pub returns-clause-there : goal.returns-clause-there
returns-clause-there c = index-there c.args.self.now c.args.node c.last_index-index.result (c.last_index-index.ensures.index ∙ ap (last_index (eqb c.args.node)) (c.as_slice-nodes.ensures.value ∙ c.self.view_is))

pub returns-clause-keeps : goal.returns-clause-keeps
returns-clause-keeps c = λ l. charged_keeps c.args.self.now l c.args.arena.now c.charge.new.self _ c.charge.ensures
