use Rattle.std.proofs.Common.{sym}
use Rattle.html_open.proofs.Lists.{entry-at}
use Rattle.html_open.proofs.pushing.count_alike.Goals as goal

pub is_alike-requires-clause-entry_in : goal.is_alike-requires-clause-entry_in
is_alike-requires-clause-entry_in c = entry-at c.args.arena.now c.args.entries.now c.loop-entry.entry-index c.entry-item.result c.entry-item.result c.requires.nodes_in c.loop-entry-test.true (sym c.entry-item.is)
