use Rattle.std.proofs.Common.{ℕ, List, ◌∙◌, ap}
use Rattle.html_open.specs.declared.places.Place.TheVariants.{Last}
use Rattle.html_open.specs.Marking.{charged}
use Rattle.html_open.specs.Placing.{place_steps}
use Rattle.html_open.proofs.Firsts.{place-fostered, place-inside, place-spares}
use Rattle.html_open.proofs.Fostering.{steps-fostered}
use Rattle.html_open.proofs.Keeps.{charged_keeps}
use Rattle.html_open.proofs.appropriate_place.place.Goals as goal

pub returns-then-is_fostered-clause-steps : goal.returns-then-is_fostered-clause-steps
returns-then-is_fostered-clause-steps c =
    c.foster_place.ensures.steps
    ∙ ap (charged c.args.arena.now)
    (steps-fostered c.args.arena.now c.as_slice-nodes.result.now c.args.target c.target_node-target.result c.args.foster c.is_fostered.result
    c.target_node-target.ensures.node c.is_fostered.ensures c.if-is_fostered.true
    ∙ ap (λ (v : List ℕ). place_steps c.args.arena.now v c.args.target c.args.foster) c.as_slice-nodes.ensures)

pub returns-then-is_fostered-clause-keeps : goal.returns-then-is_fostered-clause-keeps
returns-then-is_fostered-clause-keeps c = λ l. charged_keeps c.args.stack.now l c.args.arena.now c.foster_place.new.arena _ c.foster_place.ensures.steps

pub returns-clause-keeps : goal.returns-clause-keeps
returns-clause-keeps c = λ l. charged_keeps c.args.stack.now l c.args.arena.now c.charge.new.self _ c.charge.ensures

pub returns-then-is_fostered-clause-spares_closed : goal.returns-then-is_fostered-clause-spares_closed
returns-then-is_fostered-clause-spares_closed c = λ l h i. place-spares c.args.arena.now c.foster_place.new.arena c.args.stack.now l c.args.target c.args.foster _ _ c.forest.ensures.well_formed c.requires.can_place c.foster_place.ensures.steps
    (place-fostered c.args.arena.now c.args.stack.now c.as_slice-nodes.result.now c.args.target c.args.foster c.is_fostered.result c.target_node-target.result c.foster_place.result c.as_slice-nodes.ensures c.target_node-target.ensures.node c.is_fostered.ensures c.if-is_fostered.true c.foster_place.ensures.place)
    h i

pub returns-clause-spares_closed : goal.returns-clause-spares_closed
returns-clause-spares_closed c = λ l h i. place-spares c.args.arena.now c.charge.new.self c.args.stack.now l c.args.target c.args.foster _ (Last c.inside-inner.result) c.forest.ensures.well_formed c.requires.can_place c.charge.ensures
    (place-inside c.args.arena.now c.args.stack.now c.as_slice-nodes.result.now c.args.target c.args.foster c.is_fostered.result c.target_node-target.result (Last c.inside-inner.result) c.as_slice-nodes.ensures c.target_node-target.ensures.node c.is_fostered.ensures c.if-is_fostered.false (ap Last c.inside-inner.ensures.value))
    h i
