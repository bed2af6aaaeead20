use Rattle.std.proofs.Common.{length}
use Rattle.html_parser.proofs.Feeds.{TakesSome}
use Rattle.html_parser.proofs.stages.Stages.take.Given as goal

abbrev pub invariant-bits : goal.invariant-bits
invariant-bits l = TakesSome l.initial.self l.self l.fn.piece l.rest

abbrev pub decreases-bits : goal.decreases-bits
decreases-bits l = length l.rest
