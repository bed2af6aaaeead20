use Rattle.std.proofs.Common.{arith, ◌≡◌, ℕ, sym, ◌∙◌, ap, subst, true}
use Rattle.html_arena.specs.Siblings.{has}
use Rattle.html_tree.specs.Foreign.{is_home}
use Rattle.html_open.proofs.Lists.{last_index-hit, last_index-miss, has-at}
use Rattle.html_tree.proofs.foreign.home_index.Goals as goal

pub is_home-requires : goal.is_home-requires
is_home-requires c =
    let pos = c.seeking-test.true in
    let within = c.seeking.invariant.within in
    c.requires c.index-nodes-at.result
    (subst (λ (x : ℕ). has x c.args.nodes.now ≡ true) (sym c.index-nodes-at.is) (has-at c.args.nodes.now _ c.index-nodes-at.result (omega arith)))

pub returns-then-is_home-clause-index : goal.returns-then-is_home-clause-index
returns-then-is_home-clause-index c =
    sym (c.seeking.invariant.rest ∙ last_index-hit (is_home c.args.arena.now) c.args.nodes.now c.seeking.at c.index-nodes-at.result c.seeking-test.true c.seeking.invariant.within
    (ap (is_home c.args.arena.now) (sym c.index-nodes-at.is) ∙ sym c.is_home.ensures ∙ c.if-is_home.true))

pub seeking-preserved : goal.seeking-preserved
seeking-preserved c = record {
  within = let h = c.seeking.invariant.within in omega arith;
  rest = c.seeking.invariant.rest ∙ last_index-miss (is_home c.args.arena.now) c.args.nodes.now c.seeking.at c.index-nodes-at.result c.seeking-test.true c.seeking.invariant.within
      (ap (is_home c.args.arena.now) (sym c.index-nodes-at.is) ∙ sym c.is_home.ensures ∙ c.if-is_home.false);
}
