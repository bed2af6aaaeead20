use Rattle.std.proofs.Common.{arith, sym, ◌∙◌, ap}
use Rattle.html_open.specs.Searches.{ends_search}
use Rattle.html_open.proofs.Lists.{last_index-hit, last_index-miss, entry-at}
use Rattle.html_open.proofs.search.last_entry.Goals as goal

pub ends_search-requires : goal.ends_search-requires
ends_search-requires c =
    let pos = c.loop-at-test.true in
    let within = c.loop-at.invariant.within in
    entry-at c.args.arena.now c.args.entries.now _ c.index-entries-at.result c.index-entries-at.result c.requires (omega arith) (sym c.index-entries-at.is)

hit : goal.returns-then-ends_search-clause-index
hit c =
    sym (c.loop-at.invariant.rest ∙ last_index-hit (ends_search c.args.arena.now c.args.sought.now) c.args.entries.now c.loop-at.at c.index-entries-at.result c.loop-at-test.true c.loop-at.invariant.within
    (ap (ends_search c.args.arena.now c.args.sought.now) (sym c.index-entries-at.is) ∙ sym c.ends_search.ensures ∙ c.if-ends_search.true))

pub returns-then-ends_search-clause-index : goal.returns-then-ends_search-clause-index
returns-then-ends_search-clause-index c = hit c

pub loop-at-preserved : goal.loop-at-preserved
loop-at-preserved c = record {
  within = let h = c.loop-at.invariant.within in omega arith;
  rest = c.loop-at.invariant.rest ∙ last_index-miss (ends_search c.args.arena.now c.args.sought.now) c.args.entries.now c.loop-at.at c.index-entries-at.result c.loop-at-test.true c.loop-at.invariant.within
      (ap (ends_search c.args.arena.now c.args.sought.now) (sym c.index-entries-at.is) ∙ sym c.ends_search.ensures ∙ c.if-ends_search.false);
}
