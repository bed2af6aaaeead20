use Rattle.std.proofs.Common.{arith}
use Rattle.std.proofs.lemmas.List.{take_rest}
use Rattle.html_input.proofs.Walking.{column_bound, line_bound, reached_feed, reached_other, reached_return}
use Rattle.html_input.proofs.lines.next.Goals as goal

pub overflow_add-result-then-c-eq13 : goal.overflow_add-result-then-c-eq13
overflow_add-result-then-c-eq13 c = let bound = line_bound c.args.bytes.now c.args.here c.requires.reached in grind (arith, bound)

pub overflow_add-result-then-c-eq10 : goal.overflow_add-result-then-c-eq10
overflow_add-result-then-c-eq10 c = let bound = line_bound c.args.bytes.now c.args.here c.requires.reached in grind (arith, bound)

pub overflow_add-result-2 : goal.overflow_add-result-2
overflow_add-result-2 c = let bound = column_bound c.args.bytes.now c.args.here c.requires.reached in grind (arith, bound)

pub returns-then-c-eq13-clause-reached : goal.returns-then-c-eq13-clause-reached
returns-then-c-eq13-clause-reached c =
    reached_return c.args.bytes.now c.args.here c.in_ok-c.len c.feed_len-feed.result c.in_ok-c.c c.requires.reached (rw take_rest at c.in_ok-c.ensures.some) c.if-c-eq13.true
    (rw take_rest at c.feed_len-feed.ensures.none) (rw take_rest at c.feed_len-feed.ensures.some)

pub returns-then-c-eq10-clause-reached : goal.returns-then-c-eq10-clause-reached
returns-then-c-eq10-clause-reached c =
    reached_feed c.args.bytes.now c.args.here c.in_ok-c.len c.in_ok-c.c c.requires.reached (rw take_rest at c.in_ok-c.ensures.some) c.if-c-eq10.true

pub returns-clause-reached : goal.returns-clause-reached
returns-clause-reached c =
    reached_other c.args.bytes.now c.args.here c.in_ok-c.len c.in_ok-c.c c.requires.reached (rw take_rest at c.in_ok-c.ensures.some) c.if-c-eq13.false c.if-c-eq10.false
