use Rattle.html_tokens.proofs.ToldLemmas.{opens_both}
use Rattle.html_tokens.proofs.faults.Faults.tag_char.Goals as goal

pub returns-clause-opens : goal.returns-clause-opens
returns-clause-opens c = opens_both _ _ c.args.self.now c.name_at.new.self c.char_in.new.self c.name_at.ensures.opens c.char_in.ensures.opens
