use Rattle.std.proofs.Common.{arith, ◌≡◌, ℕ, sym, ◌∙◌, ap, subst, true}
use Rattle.html_arena.specs.Siblings.{has}
use Rattle.html_open.specs.Searches.{is_sought}
use Rattle.html_open.proofs.Lists.{last_index-hit, last_index-miss, has-at}
use Rattle.html_open.proofs.search.last_index.Goals as goal

pub is_sought-requires : goal.is_sought-requires
is_sought-requires c =
    let pos = c.loop-at-test.true in
    let within = c.loop-at.invariant.within in
    c.requires c.index-nodes-at.result
    (subst (λ (x : ℕ). has x c.args.nodes.now ≡ true) (sym c.index-nodes-at.is) (has-at c.args.nodes.now _ c.index-nodes-at.result (omega arith)))

hit : goal.returns-then-is_sought-clause-index
hit c =
    sym (c.loop-at.invariant.rest ∙ last_index-hit (is_sought c.args.arena.now c.args.sought.now) c.args.nodes.now c.loop-at.at c.index-nodes-at.result c.loop-at-test.true c.loop-at.invariant.within
    (ap (is_sought c.args.arena.now c.args.sought.now) (sym c.index-nodes-at.is) ∙ sym c.is_sought.ensures ∙ c.if-is_sought.true))

pub returns-then-is_sought-clause-index : goal.returns-then-is_sought-clause-index
returns-then-is_sought-clause-index c = hit c

pub loop-at-preserved : goal.loop-at-preserved
loop-at-preserved c = record {
  within = let h = c.loop-at.invariant.within in omega arith;
  rest = c.loop-at.invariant.rest ∙ last_index-miss (is_sought c.args.arena.now c.args.sought.now) c.args.nodes.now c.loop-at.at c.index-nodes-at.result c.loop-at-test.true c.loop-at.invariant.within
      (ap (is_sought c.args.arena.now c.args.sought.now) (sym c.index-nodes-at.is) ∙ sym c.is_sought.ensures ∙ c.if-is_sought.false);
}
