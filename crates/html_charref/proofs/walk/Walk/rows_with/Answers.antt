use Rattle.std.proofs.Common.{◌≡◌, ◌∙◌, length, Some, ap, refl}
use Rattle.std.specs.List.{slice_get}
use Rattle.std.proofs.lemmas.Option.{slice_get_read}
use Rattle.html_charref.proofs.RangeLemmas.{range_there}
use Rattle.html_charref.proofs.walk.Walk.rows_with.Goals as goal

pub returns-in-Some-clause-start : goal.returns-in-Some-clause-start
returns-in-Some-clause-start c =
    let found = c.in-Some.ensures.lookup in
    let at : slice_get c.deref.result.now c.args.letter ≡ Some c.in-Some.range.now = slice_get_read c.deref.result.now _ c.args.letter c.in-Some.range.now refl found.3.0 found.1 in
    let there = rw c.deref.ensures.value at at in
    (range_there c.table.inside.rows.items c.args.self.now.table.now c.table.inside.ranges.items _ _ _ c.args.letter c.in-Some.range.now c.table.invariant.2 there c.table.view_is
    c.if-self-eq1.true c.if-self-eq0.true (c.if-self-rows.true ∙ ap length c.as_slice-rows.ensures.value)).0

pub returns-in-Some-clause-end : goal.returns-in-Some-clause-end
returns-in-Some-clause-end c =
    let found = c.in-Some.ensures.lookup in
    let at : slice_get c.deref.result.now c.args.letter ≡ Some c.in-Some.range.now = slice_get_read c.deref.result.now _ c.args.letter c.in-Some.range.now refl found.3.0 found.1 in
    let there = rw c.deref.ensures.value at at in
    (range_there c.table.inside.rows.items c.args.self.now.table.now c.table.inside.ranges.items _ _ _ c.args.letter c.in-Some.range.now c.table.invariant.2 there c.table.view_is
    c.if-self-eq1.true c.if-self-eq0.true (c.if-self-rows.true ∙ ap length c.as_slice-rows.ensures.value)).1
