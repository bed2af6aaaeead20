use Rattle.std.proofs.Common.{◌≡◌, ◌-◌, ◌∷◌, [], ◌++◌, ℕ, ◌∙◌, ap, subst, arith}
use Rattle.html_arena.specs.Tree.{Tree, children_of}
use Rattle.html_arena.specs.Laws.{IsLinked}
use Rattle.html_open.specs.Hanging.{Chained}
use Rattle.html_open.proofs.Hangs.{chain-step, same-appended, top-next}
use Rattle.html_open.specs.Marking.{IsCounted}
use Rattle.html_open.proofs.Counting.{counted-next}
use Rattle.html_open.proofs.adoption.chain.chain.Goals as goal

pub loop-number-preserved : goal.loop-number-preserved
loop-number-preserved c =
    let i = c.loop-number.number in
    let t = c.loop-number.arena in
    let u = c.append.new.self in
    let one = subst (λ (y : ℕ). IsLinked t u c.loop-number.top y (children_of t y ++ c.loop-number.top ∷ [])) c.at-clone.ensures c.append.ensures.linked in
    let two = subst (λ (y : ℕ). IsLinked t u y i (children_of t i ++ y ∷ [])) c.loop-number.invariant.top_is one in
    record {
      top_is = c.at-clone.ensures ∙ top-next c.args.block c.args.first i c.loop-number.auto.number;
      done = chain-step c.args.arena.now t u c.args.block c.args.first i c.args.end c.requires.block_below c.loop-number.auto.number c.loop-number-test.true c.loop-number.invariant.done c.requires.fresh two
          (same-appended t u c.at-clone.result c.loop-number.top c.append.ensures.appended);
      counted = counted-next c.args.arena.now.steps t.steps u.steps c.args.first i c.loop-number.auto.number c.loop-number.invariant.counted (ap (λ (v : Tree). v.steps) c.append.ensures.appended);
    }

pub returns-clause-chained : goal.returns-clause-chained
returns-clause-chained c =
    let f = c.loop-number-test.false in
    let h = c.loop-number.auto.number-end c.requires.ordered in
    let e : c.loop-number.number ≡ c.args.end = omega arith in
    subst (λ (m : ℕ). Chained c.args.arena.now c.loop-number.arena c.args.block c.args.first m) e c.loop-number.invariant.done

pub returns-clause-steps : goal.returns-clause-steps
returns-clause-steps c =
    let f = c.loop-number-test.false in
    let h = c.loop-number.auto.number-end c.requires.ordered in
    let e : c.loop-number.number ≡ c.args.end = omega arith in
    subst (λ (m : ℕ). IsCounted c.args.arena.now.steps c.loop-number.arena.steps 0 (m - c.args.first)) e c.loop-number.invariant.counted
