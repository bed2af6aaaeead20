use Rattle.std.proofs.Common.{◌+◌, ◌-◌, length, drop, take}
use Rattle.html_open.proofs.Fostering.{in-at}
use Rattle.html_open.proofs.Finding.{nodes-drop}
use Rattle.html_open.proofs.adoption.find.ends_after.Goals as goal

pub tag-requires : goal.tag-requires
tag-requires c =
    in-at c.args.arena.now (take (length c.args.nodes.now - (c.args.at + 1)) (drop (c.args.at + 1) c.args.nodes.now)) c.loop-node.node-index c.node-item.result c.node-item.result
    (nodes-drop c.args.arena.now c.args.nodes.now (c.args.at + 1) (length c.args.nodes.now - (c.args.at + 1)) c.requires.nodes_in) c.loop-node-test.true c.node-item.is
