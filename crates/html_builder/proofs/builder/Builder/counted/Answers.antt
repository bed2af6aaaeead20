use Rattle.html_builder.proofs.Endings.{have-fates}
use Rattle.html_builder.proofs.Saying.{known-foreign}
use Rattle.html_builder.proofs.builder.Builder.counted.Goals as goal

pub returns : goal.returns
returns c = record {
  counted = λ s l ts h. have-fates s l ts c.args.self.now h;
  foreign = λ s l ts h e. known-foreign s l ts c.args.self.now h e;
}
