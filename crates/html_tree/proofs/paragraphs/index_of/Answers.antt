use Rattle.std.proofs.Common.{arith, eqb, sym, ◌∙◌, ap}
use Rattle.html_open.proofs.Lists.{last_index-hit, last_index-miss}
use Rattle.html_tree.proofs.paragraphs.index_of.Goals as goal

pub returns-then-eq-clause-index : goal.returns-then-eq-clause-index
returns-then-eq-clause-index c =
    sym (c.seeking.invariant.rest ∙ last_index-hit (eqb c.args.node) c.args.nodes.now c.seeking.at c.index-nodes-at.result c.seeking-test.true c.seeking.invariant.within
    (ap (eqb c.args.node) (sym c.index-nodes-at.is) ∙ sym c.eq.ensures ∙ c.if-eq.true))

pub seeking-preserved : goal.seeking-preserved
seeking-preserved c = record {
  within = (let h = c.seeking.invariant.within in omega (arith, h));
  rest = c.seeking.invariant.rest ∙ last_index-miss (eqb c.args.node) c.args.nodes.now c.seeking.at c.index-nodes-at.result c.seeking-test.true c.seeking.invariant.within
      (ap (eqb c.args.node) (sym c.index-nodes-at.is) ∙ sym c.eq.ensures ∙ c.if-eq.false);
}
