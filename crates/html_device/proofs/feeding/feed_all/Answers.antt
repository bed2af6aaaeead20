use Rattle.std.proofs.Common.{◌≡◌, ◌++◌, take, subst}
use Rattle.std.proofs.KnownBytes.{Consumes-trans}
use Rattle.html_device.proofs.feeding.feed_all.Goals as goal

pub returns-in-Err-clause-refused : goal.returns-in-Err-clause-refused
returns-in-Err-clause-refused g c r e =
    let before = c.loop-count.invariant in
    let same : c.in-Err.refusal ≡ r = cc in (
      before.0 ++ take c.in-Ok.count c.read.new.buf,
      Consumes-trans _ _ _ before.0 _ before.1 c.in-Ok.ensures.bytes.0,
      λ start fed. subst (λ x. g.P.Pieces.Refuses start (before.0 ++ take c.in-Ok.count c.read.new.buf) x) same (c.in-Err.ensures.refused start before.0 (before.2 start fed)),
    )
