use Rattle.html_tokens.proofs.ToldLemmas.{opens_both}
use Rattle.html_tokens.proofs.faults.Faults.after_name.Goals as goal

pub returns-clause-opens : goal.returns-clause-opens
returns-clause-opens c = opens_both _ _ c.args.self.now c.solidus.new.self c.attr_char.new.self c.solidus.ensures.opens c.attr_char.ensures.opens
