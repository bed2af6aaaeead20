use Rattle.std.proofs.Common.{sym, ◌∙◌, arith}
use Rattle.std.proofs.lemmas.Bool.Decides.{nat_tests}
use Rattle.html_dom.proofs.Climbing.{ends-none, ends-top, ends-up}
use Rattle.html_dom.proofs.places.ends_above.Goals as goal

pub returns-in-None : goal.returns-in-None
returns-in-None c = sym (ends-top c.climb.left c.args.arena.now c.climb.at (let h = c.climb-test.true in grind (arith, nat_tests)) (sym c.above.ensures.value ∙ c.in-None.is)) ∙ c.climb.invariant.same

pub climb-preserved : goal.climb-preserved
climb-preserved c = record {
  inside = c.in-Some.ensures.node;
  same =
      sym (ends-up c.climb.left c.args.arena.now c.climb.at c.in-Some.above (let h = c.climb-test.true in grind (arith, nat_tests)) (sym c.above.ensures.value ∙ c.in-Some.is))
      ∙ c.climb.invariant.same;
}

pub returns : goal.returns
returns c = sym (ends-none c.climb.left c.args.arena.now c.climb.at (let h = c.climb-test.false in grind (arith, nat_tests))) ∙ c.climb.invariant.same
