use Rattle.std.proofs.Common.{◌+◌, ◌-◌, length, take, drop, refl}
use Rattle.html_open.specs.Entries.{is_marker}
use Rattle.html_open.proofs.Pushes.{displaced-few, displaced-none, displaced-some, recent-is, recent-nodes}
use Rattle.html_open.proofs.pushing.displaced.Goals as goal

pub count_alike-requires-clause-nodes_in : goal.count_alike-requires-clause-nodes_in
count_alike-requires-clause-nodes_in c = recent-nodes c.args.arena.now is_marker c.args.entries.now _ (recent-is is_marker c.args.entries.now c.last_entry.result c.after-start.result c.after-start.ensures.value c.last_entry.ensures.index) c.requires.nodes_in

pub returns-then-count_alike-lt-MOST_EQUAL : goal.returns-then-count_alike-lt-MOST_EQUAL
returns-then-count_alike-lt-MOST_EQUAL c =
    displaced-few c.args.arena.now c.args.node c.args.entries.now (take (length c.args.entries.now - c.after-start.result) (drop c.after-start.result c.args.entries.now)) c.count_alike.result
    (recent-is is_marker c.args.entries.now c.last_entry.result c.after-start.result c.after-start.ensures.value c.last_entry.ensures.index) c.count_alike.ensures c.if-count_alike-lt-MOST_EQUAL.true

pub first_alike-requires-clause-nodes_in : goal.first_alike-requires-clause-nodes_in
first_alike-requires-clause-nodes_in c = recent-nodes c.args.arena.now is_marker c.args.entries.now _ (recent-is is_marker c.args.entries.now c.last_entry.result c.after-start.result c.after-start.ensures.value c.last_entry.ensures.index) c.requires.nodes_in

pub returns-in-None : goal.returns-in-None
returns-in-None c =
    displaced-none c.args.arena.now c.args.node c.args.entries.now (take (length c.args.entries.now - c.after-start.result) (drop c.after-start.result c.args.entries.now)) c.count_alike.result
    c.count_alike.ensures c.if-count_alike-lt-MOST_EQUAL.false (c.first_alike.ensures.none c.in-None.is)

pub returns-in-Some : goal.returns-in-Some
returns-in-Some c =
    displaced-some c.args.arena.now c.args.node c.args.entries.now (take (length c.args.entries.now - c.after-start.result) (drop c.after-start.result c.args.entries.now)) c.count_alike.result
    c.in-Some.index c.after-start.result (c.after-start.result + c.in-Some.index) c.last_entry.result
    (recent-is is_marker c.args.entries.now c.last_entry.result c.after-start.result c.after-start.ensures.value c.last_entry.ensures.index) refl c.last_entry.ensures.index c.after-start.ensures.value c.after-start.ensures.within
    c.count_alike.ensures c.if-count_alike-lt-MOST_EQUAL.false c.in-Some.ensures.first refl
