use Rattle.html_input.proofs.Walking.{stands}
use Rattle.html_input.proofs.lines.Lines.at.Goals as goal

pub returns-clause-at : goal.returns-clause-at
returns-clause-at c = stands c.args.self.now.bytes.now c.reach-here.result c.args.place c.reach-here.ensures.reached c.reach-here.ensures.place
