use Rattle.std.proofs.Common.{false}
use Rattle.html_parser.proofs.Feeding.{staged_same}
use Rattle.html_parser.proofs.feeder.Feeder.keep_no_tokens.Goals as goal

pub invariant_of-self : goal.invariant_of-self
invariant_of-self c = record {
  going = λ going. staged_same c.args.self.now.stages c.keep_no_tokens.new.self (c.args.self.now.going going) (λ start bytes. c.keep_no_tokens.ensures.runs start false bytes);
}

pub returns-clause-fed : goal.returns-clause-fed
returns-clause-fed c = λ start bytes f. record {
  read = record { run = f.read.run; is_run = c.keep_no_tokens.ensures.runs start false bytes f.read.run f.read.is_run };
  going = f.going;
}
