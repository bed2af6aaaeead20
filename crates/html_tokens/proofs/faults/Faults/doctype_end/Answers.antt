use Rattle.html_tokens.proofs.ToldLemmas.{opens_none}
use Rattle.html_tokens.proofs.faults.Faults.doctype_end.Goals as goal

pub returns-in-BadRest-clause-opens : goal.returns-in-BadRest-clause-opens
returns-in-BadRest-clause-opens c = rw c.in-BadRest.is (opens_none c.args.self.now)
