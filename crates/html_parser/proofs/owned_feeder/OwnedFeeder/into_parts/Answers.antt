use Rattle.std.specs.Arc.{arc_value}
use Rattle.html_parser.proofs.Owning.{may_in}
use Rattle.html_parser.proofs.owned_feeder.OwnedFeeder.into_parts.Goals as goal

pub returns-in-Some-clause-going : goal.returns-in-Some-clause-going
returns-in-Some-clause-going c = may_in (arc_value c.args.self.table) c.args.self.stages c.in-Some.stages c.in-Some.is (c.args.self.going c.if-is_stopped.false)
