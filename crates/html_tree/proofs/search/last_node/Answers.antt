use Rattle.std.proofs.Common.{rules, arith, ◌<◌, length, Some, sym, ◌∙◌, ap}
use Rattle.std.proofs.lemmas.Grind.{common_steps}
use Rattle.html_open.proofs.Fostering.{last_of-at}
use Rattle.html_tree.proofs.search.last_node.Goals as goal

pub returns : goal.returns
returns c =
    let pos : 0 < length c.args.nodes.now = first_of (search rules, grind (arith, common_steps)) in
    ap Some c.index-nodes-nodes.is ∙ sym (last_of-at c.args.nodes.now c.index-nodes-nodes.result pos)
