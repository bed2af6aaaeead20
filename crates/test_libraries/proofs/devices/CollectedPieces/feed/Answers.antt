use Rattle.std.proofs.Common.{ap, arith, length, length-append}
use Rattle.test_libraries.proofs.devices.CollectedPieces.feed.Goals as goal

pub returns-clause-bounded : goal.returns-clause-bounded
returns-clause-bounded c start bytes is =
    omega (arith, length-append bytes c.args.piece.now, ap length is, ap length c.as_slice.ensures.value)
