use Rattle.std.proofs.Common.{sym}
use Rattle.html_open.proofs.Lists.{entry-at}
use Rattle.html_open.proofs.pushing.sum_of_pairs.Goals as goal

pub pairs_with-requires-clause-entry_in : goal.pairs_with-requires-clause-entry_in
pairs_with-requires-clause-entry_in c = entry-at c.args.arena.now c.args.entries.now c.loop-entry.entry-index c.entry-item.result c.entry-item.result c.requires.nodes_in c.loop-entry-test.true (sym c.entry-item.is)
