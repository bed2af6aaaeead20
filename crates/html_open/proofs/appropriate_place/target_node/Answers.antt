use Rattle.std.proofs.Common.{◌-◌, length, arith, sym, ◌∙◌, ap}
use Rattle.html_open.specs.Placing.{get, target_of}
use Rattle.html_open.proofs.Fostering.{can-some, in-at, last_of-at}
use Rattle.html_open.proofs.appropriate_place.target_node.Goals as goal

pub returns-in-None-clause-node : goal.returns-in-None-clause-node
returns-in-None-clause-node c =
    let n = can-some c.args.arena.now c.args.nodes.now c.requires.can_place in
    c.index-nodes-nodes.is ∙ ap (λ o. get o 0) (sym (last_of-at c.args.nodes.now c.index-nodes-nodes.result n)) ∙ ap (target_of c.args.nodes.now) (sym c.in-None.is)

pub returns-in-None-clause-within : goal.returns-in-None-clause-within
returns-in-None-clause-within c =
    let n = can-some c.args.arena.now c.args.nodes.now c.requires.can_place in
    in-at c.args.arena.now c.args.nodes.now (length c.args.nodes.now - 1) c.index-nodes-nodes.result c.index-nodes-nodes.result c.requires.nodes_in (omega arith) c.index-nodes-nodes.is
