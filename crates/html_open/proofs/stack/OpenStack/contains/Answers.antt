use Rattle.html_open.proofs.Keeps.{charged_keeps}
use Rattle.html_open.proofs.stack.OpenStack.contains.Goals as goal

pub returns-clause-keeps : goal.returns-clause-keeps
returns-clause-keeps c = λ l. charged_keeps c.args.self.now l c.args.arena.now c.charge.new.self _ c.charge.ensures
