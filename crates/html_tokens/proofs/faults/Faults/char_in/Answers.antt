use Rattle.html_tokens.proofs.ToldLemmas.{opens_both}
use Rattle.html_tokens.proofs.faults.Faults.char_in.Goals as goal

pub returns-clause-opens : goal.returns-clause-opens
returns-clause-opens c = opens_both _ _ c.args.self.now c.part_char.new.self c.null.new.self c.part_char.ensures.opens c.null.ensures.opens
