use Rattle.html_tokens.proofs.ToldLemmas.{opens_none}
use Rattle.html_tokens.proofs.faults.Faults.text_end.Goals as goal

pub returns-in-Plain-clause-opens : goal.returns-in-Plain-clause-opens
returns-in-Plain-clause-opens c = rw c.in-Plain.is (opens_none c.args.self.now)
