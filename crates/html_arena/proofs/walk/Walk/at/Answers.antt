use Rattle.std.proofs.Common.{◌<◌, length, subst, sym}
use Rattle.std.specs.List.{All}
use Rattle.html_arena.specs.declared.walk.Event.{Event}
use Rattle.html_arena.specs.Steps.{node_in}
use Rattle.html_arena.proofs.Once.{events_inside, forest_inside, forest_once}
use Rattle.html_arena.proofs.Shown.{IsForestAt-same, below_is}
use Rattle.html_arena.proofs.UnderWay.{begun, begun_events}
use Rattle.html_arena.proofs.walk.Walk.at.Goals as goal

pub invariant_of-result : goal.invariant_of-result
invariant_of-result c = begun c.args.arena.now c.args.show c.args.node c.requires c.forest.ensures.well_formed _ c.step_from.ensures

pub returns-clause-events : goal.returns-clause-events
returns-clause-events c = begun_events c.args.arena.now c.args.show c.args.node c.requires c.forest.ensures.well_formed _ c.step_from.ensures

pub returns-clause-forest : goal.returns-clause-forest
returns-clause-forest c = below_is c.args.show c.args.arena.now c.forest.ensures.well_formed c.args.node c.requires.ups c.requires.no_host c.requires.rises

pub returns-clause-only : goal.returns-clause-only
returns-clause-only c = λ f a. IsForestAt-same c.args.show c.args.arena.now _ _ _ a (returns-clause-forest c)

pub returns-clause-nodes : goal.returns-clause-nodes
returns-clause-nodes c =
    subst (All (λ (e : Event). node_in e < length c.args.arena.now.labels))
    (sym (begun_events c.args.arena.now c.args.show c.args.node c.requires c.forest.ensures.well_formed _ c.step_from.ensures))
    (events_inside c.args.show c.args.arena.now c.args.node c.forest.ensures.well_formed c.requires)

pub returns-clause-once : goal.returns-clause-once
returns-clause-once c = forest_once c.args.show c.args.arena.now c.args.node c.forest.ensures.well_formed c.requires

pub returns-clause-inside : goal.returns-clause-inside
returns-clause-inside c = forest_inside c.args.show c.args.arena.now c.args.node c.forest.ensures.well_formed c.requires
