use Rattle.html_tokens.proofs.ToldLemmas.{opens_both}
use Rattle.html_tokens.proofs.faults.Faults.comment_char.Goals as goal

pub returns-clause-opens : goal.returns-clause-opens
returns-clause-opens c = opens_both _ _ c.args.self.now c.nested.new.self c.null_at.new.self c.nested.ensures.opens c.null_at.ensures.opens
