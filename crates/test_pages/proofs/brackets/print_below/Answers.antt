use Rattle.std.proofs.Common.{length}
use Rattle.test_pages.proofs.Rest.{rest_in}
use Rattle.test_pages.proofs.brackets.print_below.Goals as goal

pub events-preserved : goal.events-preserved
events-preserved c = rest_in (length c.args.arena.now.labels) c.events.walk c.in-Some.event c.next.new.self c.in-Some.ensures.steps c.events.invariant
