use Rattle.html_parser.proofs.Openings.{taken_few}
use Rattle.html_parser.proofs.gathering.bounded.Goals as goal

pub returns : goal.returns
returns c = record { few = λ going. taken_few c.args._tokenizer.now c.args._kept.now.starts going c.requires.tokenizing }
