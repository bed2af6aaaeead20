use Rattle.html_open.proofs.Fostering.{in-at}
use Rattle.html_open.proofs.adoption.find.first_special.Goals as goal

pub tag-requires : goal.tag-requires
tag-requires c = in-at c.args.arena.now c.args.nodes.now c.loop-index.index c.index-nodes-index.result c.index-nodes-index.result c.requires.nodes_in c.loop-index-test.true c.index-nodes-index.is
