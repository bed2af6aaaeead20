use Rattle.std.proofs.Common.{sym, ◌∙◌, arith}
use Rattle.std.proofs.lemmas.Bool.Decides.{nat_tests}
use Rattle.html_dom.proofs.Climbing.{meets-here, meets-none, meets-top, meets-up}
use Rattle.html_dom.proofs.places.would_cycle.Goals as goal

pub returns-then-eq : goal.returns-then-eq
returns-then-eq c = sym (meets-here c.climb.left c.args.arena.now c.args.child c.climb.at (sym c.eq.ensures ∙ c.if-eq.true)) ∙ c.climb.invariant.same

pub returns-in-None : goal.returns-in-None
returns-in-None c =
    sym (meets-top c.climb.left c.args.arena.now c.args.child c.climb.at (let h = c.climb-test.true in grind (arith, nat_tests)) (sym c.eq.ensures ∙ c.if-eq.false) (sym c.above.ensures.value ∙ c.in-None.is))
    ∙ c.climb.invariant.same

pub climb-preserved : goal.climb-preserved
climb-preserved c = record {
  inside = c.in-Some.ensures.node;
  same =
      sym (meets-up c.climb.left c.args.arena.now c.args.child c.climb.at c.in-Some.above (let h = c.climb-test.true in grind (arith, nat_tests)) (sym c.eq.ensures ∙ c.if-eq.false) (sym c.above.ensures.value ∙ c.in-Some.is))
      ∙ c.climb.invariant.same;
}

pub returns : goal.returns
returns c = sym (meets-none c.climb.left c.args.arena.now c.args.child c.climb.at (let h = c.climb-test.false in grind (arith, nat_tests))) ∙ c.climb.invariant.same
