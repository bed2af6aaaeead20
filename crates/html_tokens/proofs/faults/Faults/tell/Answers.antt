use Rattle.html_tokens.proofs.OrderLemmas.{told_added}
use Rattle.html_tokens.proofs.ToldLemmas.{told_one}
use Rattle.html_tokens.proofs.faults.Faults.tell.Goals as goal

pub returns-in-Ok-clause-opens : goal.returns-in-Ok-clause-opens
returns-in-Ok-clause-opens c = λ kept. (kept, told_one c.args.self.now.list c.add.new.self _ (told_added c.args.self.now.list c.add.new.self _ c.in-Ok.ensures.ok))
