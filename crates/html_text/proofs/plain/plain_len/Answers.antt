use Rattle.std.proofs.Common.{arith}
use Rattle.html_text.proofs.Marks.{further}
use Rattle.html_text.proofs.plain.plain_len.Goals as goal

pub returns-then-front-lt-BLOCK-clause-plain : goal.returns-then-front-lt-BLOCK-clause-plain
returns-then-front-lt-BLOCK-clause-plain c =
    further c.loop-len.len c.plain_front-front.result c.args.bytes.now c.plain_front-front.ensures.within c.loop-len.invariant.plain c.plain_front-front.ensures.plain

pub loop-len-preserved : goal.loop-len-preserved
loop-len-preserved c = record {
  within = omega (arith, c.loop-len-test.true, c.plain_front-front.ensures.within, c.loop-len.invariant.within);
  plain = further c.loop-len.len c.plain_front-front.result c.args.bytes.now c.plain_front-front.ensures.within c.loop-len.invariant.plain c.plain_front-front.ensures.plain;
}
