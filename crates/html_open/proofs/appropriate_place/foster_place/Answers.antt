use Rattle.std.proofs.Common.{◌+◌, length, refl, ◌∙◌, ap}
use Rattle.html_open.specs.Marking.{charged}
use Rattle.html_open.specs.Placing.{table}
use Rattle.html_open.proofs.Lists.{steps_index}
use Rattle.html_open.proofs.appropriate_place.foster_place.Goals as goal

pub returns-clause-steps : goal.returns-clause-steps
returns-clause-steps c =
    c.charge.ensures
    ∙ ap (λ n. charged c.args.arena.now (1 + n))
    (c.steps_to.ensures ∙ steps_index (table c.args.arena.now) c.args.nodes.now c.last_index-found.result (length c.args.nodes.now) refl c.last_index-found.ensures.index)
