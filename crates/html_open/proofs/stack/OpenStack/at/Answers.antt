use Rattle.html_open.proofs.Keeps.{charged_keeps}
use Rattle.html_open.proofs.Members.{at-member}
use Rattle.html_open.proofs.stack.OpenStack.at.Goals as goal

pub returns-clause-member : goal.returns-clause-member
returns-clause-member c = at-member c.self.inside.nodes.items c.args.self.now c.args.index c.index.result.now c.self.view_is c.requires c.index.ensures

pub returns-clause-keeps : goal.returns-clause-keeps
returns-clause-keeps c = λ l. charged_keeps c.args.self.now l c.args.arena.now c.charge.new.self _ c.charge.ensures
