use Rattle.std.proofs.Common.{◌==◌, arith, refl, sym, ◌∙◌}
use Rattle.std.proofs.lemmas.List.{take_all, take_more}
use Rattle.html_tokens.specs.Copied.{is_without}
use Rattle.html_tokens.proofs.CopyLemmas.{AllPass-push, AllPass-pushed, both-left, both-right, not-false}
use Rattle.html_tokens.proofs.PartLemmas.{is_not}
use Rattle.html_tokens.proofs.fronts.are_without.Goals as goal

pub loop-c-preserved : goal.loop-c-preserved
loop-c-preserved c =
    let t = take_more c.args.block.now c.loop-c.c-index c.c-item.result c.loop-c-test.true in
    let taken = rw (← c.c-item.is) at t in
    record {
      passes = λ all. rw taken (AllPass-push (is_without c.args.first c.args.second) _ c.c-item.result
          (c.loop-c.invariant.passes (both-left c.loop-c.are_without _ all))
          (not-false _ (sym c.least.ensures ∙ is_not (c.least.result == 0) (both-right c.loop-c.are_without _ all))));
      all = λ passes. let parts = AllPass-pushed (is_without c.args.first c.args.second) _ c.c-item.result (rw taken at passes) in
          rw (c.loop-c.invariant.all parts.0, c.least.ensures, parts.1) refl;
    }

pub returns-clause-passes : goal.returns-clause-passes
returns-clause-passes c = λ all. rw (← take_all c.loop-c.c-index c.args.block.now (omega arith)) (c.loop-c.invariant.passes all)

pub returns-clause-all : goal.returns-clause-all
returns-clause-all c = λ passes. c.loop-c.invariant.all (rw (take_all c.loop-c.c-index c.args.block.now (omega arith)) passes)
