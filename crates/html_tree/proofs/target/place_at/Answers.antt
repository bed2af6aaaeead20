use Rattle.html_open.proofs.Keeps.{charged_keeps}
use Rattle.html_tree.proofs.target.place_at.Goals as goal

pub returns-in-Document-clause-keeps : goal.returns-in-Document-clause-keeps
returns-in-Document-clause-keeps c = λ l. charged_keeps c.args.stack.now l c.args.arena.now c.charge.new.self _ c.charge.ensures
