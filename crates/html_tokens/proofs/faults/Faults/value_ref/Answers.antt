use Rattle.html_tokens.proofs.ToldLemmas.{opens_both}
use Rattle.html_tokens.proofs.faults.Faults.value_ref.Goals as goal

pub returns-clause-opens : goal.returns-clause-opens
returns-clause-opens c = opens_both _ _ c.args.self.now c.number_before.new.self c.begun_ref.new.self c.number_before.ensures.opens c.begun_ref.ensures.opens
