use Rattle.std.proofs.Common.{length}
use Rattle.html_parser.proofs.Feeds.{TakesSome}
use Rattle.html_parser.proofs.stages.Stages.take_bit.Given as goal

abbrev pub invariant-fronts : goal.invariant-fronts
invariant-fronts l = TakesSome l.initial.self l.self l.fn.piece l.rest

abbrev pub decreases-fronts : goal.decreases-fronts
decreases-fronts l = length l.rest
