use Rattle.std.proofs.Common.{◌-◌, arith}
use Rattle.html_open.proofs.Fostering.{in-at}
use Rattle.html_open.proofs.adoption.clones.elements_to_clone.Goals as goal

pub marked-requires : goal.marked-requires
marked-requires c =
    let i = c.loop-at.invariant.high in
    let t = c.loop-at-test.true in
    in-at c.args.arena.now c.args.inner.now (c.loop-at.at - 1) c.index-inner-at.result c.index-inner-at.result c.requires (omega arith) c.index-inner-at.is

pub push-requires : goal.push-requires
push-requires c =
    let f = c.loop-at.invariant.few in
    let t = c.loop-at-test.true in
    let e = c.saturating_sub-from.ensures in
    omega (arith, f, t, e)
