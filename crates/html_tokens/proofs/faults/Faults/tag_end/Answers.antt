use Rattle.html_tokens.proofs.ToldLemmas.{opens_both}
use Rattle.html_tokens.proofs.faults.Faults.tag_end.Goals as goal

pub returns-clause-opens : goal.returns-clause-opens
returns-clause-opens c =
    opens_both _ _ c.args.self.now c.name_at.new.self c.tell.new.self (opens_both _ _ c.args.self.now c.rest_end.new.self c.name_at.new.self c.rest_end.ensures.opens c.name_at.ensures.opens) c.tell.ensures.opens
