use Rattle.std.proofs.Common.{◌∙◌, ◌<◌, sym, arith, length}
use Rattle.std.proofs.lemmas.Bool.{false≢true}
use Rattle.html_tokens.proofs.MarkLemmas.{spells_on, spells_off, lowered_there}
use Rattle.html_tokens.proofs.marks.spells.Goals as goal

pub returns-then-not-is_lowered : goal.returns-then-not-is_lowered
returns-then-not-is_lowered c = (
  (λ more h. c.loop-expected.invariant.on more h
      ∙ spells_off c.args.name.now c.loop-expected.expected-index c.loop-expected.at c.expected-item.result c.in-Is.found _ c.loop-expected-test.true c.expected-item.is (c.in-Is.ensures.0 more h) (sym c.if-not-is_lowered.ensures)),
  λ t. absurd (false≢true t),
)

pub loop-expected-preserved : goal.loop-expected-preserved
loop-expected-preserved c =
    let there : c.loop-expected.at < length c.args.input.now.queue.items = lowered_there _ _ _ c.in-Is.found c.in-Is.ensures.1 (sym c.if-not-is_lowered.ensures) in
    record {
      at = omega arith;
      seen = λ more. omega arith;
      on = λ more h. c.loop-expected.invariant.on more h
          ∙ spells_on c.args.name.now c.loop-expected.expected-index c.loop-expected.at c.expected-item.result c.in-Is.found _ c.loop-expected-test.true c.expected-item.is (c.in-Is.ensures.0 more h) (sym c.if-not-is_lowered.ensures);
    }
