use Rattle.std.proofs.Common.{arith, ap, sym, ◌∙◌}
use Rattle.html_open.specs.Entries.{alike}
use Rattle.html_open.proofs.Lists.{entry-at}
use Rattle.html_open.proofs.Pushes.{passed-begin, passed-end, passed-hit, passed-step}
use Rattle.html_open.proofs.pushing.first_alike.Goals as goal

pub loop-index-init : goal.loop-index-init
loop-index-init c = passed-begin (alike c.args.arena.now c.args.node) c.args.entries.now

pub is_alike-requires-clause-entry_in : goal.is_alike-requires-clause-entry_in
is_alike-requires-clause-entry_in c = entry-at c.args.arena.now c.args.entries.now c.loop-index.index c.index-entries-index.result c.index-entries-index.result c.requires.nodes_in (let h = c.loop-index-test.true in omega arith) (sym c.index-entries-index.is)

pub returns-then-is_alike-clause-first : goal.returns-then-is_alike-clause-first
returns-then-is_alike-clause-first c =
    passed-hit (alike c.args.arena.now c.args.node) c.args.entries.now c.loop-index.index c.index-entries-index.result c.loop-index.invariant (let h = c.loop-index-test.true in omega arith)
    (ap (alike c.args.arena.now c.args.node) (sym c.index-entries-index.is) ∙ sym c.is_alike.ensures ∙ c.if-is_alike.true)

pub loop-index-preserved : goal.loop-index-preserved
loop-index-preserved c =
    passed-step (alike c.args.arena.now c.args.node) c.args.entries.now c.loop-index.index c.index-entries-index.result c.loop-index.invariant (let h = c.loop-index-test.true in omega arith)
    (ap (alike c.args.arena.now c.args.node) (sym c.index-entries-index.is) ∙ sym c.is_alike.ensures ∙ c.if-is_alike.false)

pub returns-clause-none : goal.returns-clause-none
returns-clause-none c = λ e. passed-end (alike c.args.arena.now c.args.node) c.args.entries.now c.loop-index.index c.loop-index.invariant (let h = c.loop-index-test.false in omega arith)
