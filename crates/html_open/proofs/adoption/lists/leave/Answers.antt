use Rattle.std.proofs.Common.{◌<◌, ap, length, arith}
use Rattle.html_arena.specs.Tree.{Tree}
use Rattle.html_open.proofs.Fostering.{in-at}
use Rattle.html_open.proofs.Marked.{left-step, marks-both}
use Rattle.html_open.proofs.adoption.lists.leave.Goals as goal

pub set_mark-requires : goal.set_mark-requires
set_mark-requires c =
    let n = in-at c.args.arena.now c.args.nodes.now c.loop-node.node-index c.node-item.result c.node-item.result c.requires c.loop-node-test.true c.node-item.is in
    let e = ap (λ (t : Tree). length t.labels) c.loop-node.invariant.same in
    omega (arith, n, e)

pub set_mark-requires-in-loop-node : goal.set_mark-requires-in-loop-node
set_mark-requires-in-loop-node c =
    let n = in-at c.args.arena.now c.args.nodes.now c.loop-node.node-index c.node-item.result c.node-item.result c.requires c.loop-node-test.true c.node-item.is in
    let e = ap (λ (t : Tree). length t.labels) c.loop-node.invariant.same in
    let f = ap (λ (t : Tree). length t.labels) c.set_mark.ensures in
    omega (arith, n, e, f)

pub loop-node-preserved : goal.loop-node-preserved
loop-node-preserved c =
    let n = in-at c.args.arena.now c.args.nodes.now c.loop-node.node-index c.node-item.result c.node-item.result c.requires c.loop-node-test.true c.node-item.is in
    let e = ap (λ (t : Tree). length t.labels) c.loop-node.invariant.same in
    let m = c.forest.ensures.well_formed.as_many_marks in
    let r : c.node-item.result < length c.loop-node.arena.marks = omega (arith, n, e, m) in
    record {
      same = marks-both c.args.arena.now c.loop-node.arena c.set_mark.new.self c.set_mark-in-loop-node.new.self _ _ c.loop-node.invariant.same c.set_mark.ensures c.set_mark-in-loop-node.ensures;
      left = left-step c.args.arena.now c.loop-node.arena c.set_mark.new.self c.set_mark-in-loop-node.new.self c.args.nodes.now c.loop-node.node-index c.node-item.result c.loop-node-test.true c.node-item.is r
          c.loop-node.invariant.left c.set_mark.ensures c.set_mark-in-loop-node.ensures;
    }
