use Rattle.html_parser.proofs.Openings.{taken_few}
use Rattle.html_parser.proofs.stages.Stages.bounded.Goals as goal

pub returns : goal.returns
returns c = record {
  few = λ going. taken_few c.args.self.now.tokenizer c.args.self.now.kept.starts going c.args.self.now.tokenizing;
}
