use Rattle.html_open.proofs.Keeps.{charged_keeps}
use Rattle.html_open.proofs.list.FormattingList.contains.Goals as goal

pub returns-clause-keeps : goal.returns-clause-keeps
returns-clause-keeps c = λ s. charged_keeps s c.args.self.now c.args.arena.now c.charge.new.self _ c.charge.ensures
