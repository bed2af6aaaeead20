use Rattle.std.proofs.Common.{arith, ◌≡◌, ℕ, sym, ◌∙◌, ap, subst, true}
use Rattle.std.specs.Str.{chars}
use Rattle.html_arena.specs.Siblings.{has}
use Rattle.html_tree.specs.Foreign.{named_or_html}
use Rattle.html_open.proofs.Lists.{last_index-hit, last_index-miss, has-at}
use Rattle.html_tree.proofs.foreign.foreign_index.Goals as goal

pub stops_foreign-requires : goal.stops_foreign-requires
stops_foreign-requires c =
    let pos = c.seeking-test.true in
    let within = c.seeking.invariant.within in
    c.requires c.index-nodes-at.result
    (subst (λ (x : ℕ). has x c.args.nodes.now ≡ true) (sym c.index-nodes-at.is) (has-at c.args.nodes.now _ c.index-nodes-at.result (omega arith)))

pub returns-then-stops_foreign-clause-index : goal.returns-then-stops_foreign-clause-index
returns-then-stops_foreign-clause-index c =
    sym (c.seeking.invariant.rest ∙ last_index-hit (named_or_html c.args.arena.now (chars c.args.name.now)) c.args.nodes.now c.seeking.at c.index-nodes-at.result c.seeking-test.true c.seeking.invariant.within
    (ap (named_or_html c.args.arena.now (chars c.args.name.now)) (sym c.index-nodes-at.is) ∙ sym c.stops_foreign.ensures ∙ c.if-stops_foreign.true))

pub seeking-preserved : goal.seeking-preserved
seeking-preserved c = record {
  within = let h = c.seeking.invariant.within in omega arith;
  rest = c.seeking.invariant.rest ∙ last_index-miss (named_or_html c.args.arena.now (chars c.args.name.now)) c.args.nodes.now c.seeking.at c.index-nodes-at.result c.seeking-test.true c.seeking.invariant.within
      (ap (named_or_html c.args.arena.now (chars c.args.name.now)) (sym c.index-nodes-at.is) ∙ sym c.stops_foreign.ensures ∙ c.if-stops_foreign.false);
}
