use Rattle.html_tokens.specs.InsideReferences.{number_end_errors}
use Rattle.html_tokens.proofs.ToldLemmas.{opens_both}
use Rattle.html_tokens.proofs.faults.Faults.number.Goals as goal

pub returns-clause-opens : goal.returns-clause-opens
unfolding number_end_errors
returns-clause-opens c = opens_both _ _ c.args.self.now c.tell_if.new.self c.number_fault.new.self c.tell_if.ensures.opens (rw c.numeric-fault.ensures.fault at c.number_fault.ensures.opens)
