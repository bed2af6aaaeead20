use Rattle.std.proofs.Common.{sym, ◌∙◌}
use Rattle.html_open.proofs.Lists.{node-at}
use Rattle.html_open.proofs.adoption.lists.relisted.Goals as goal

pub push_relisted-requires-clause-node_in : goal.push_relisted-requires-clause-node_in
push_relisted-requires-clause-node_in c = c.requires.nodes_in c.in-Node.node (node-at c.args.entries.now c.loop-entry.entry-index c.in-Node.node c.entry-item.result (sym c.entry-item.is ∙ c.in-Node.is) c.loop-entry-test.true)
