use Rattle.std.proofs.Common.{◌∙◌, ap}
use Rattle.html_arena.specs.Siblings.{last_of}
use Rattle.html_open.proofs.Keeps.{charged_keeps}
use Rattle.html_open.proofs.Members.{last-member}
use Rattle.html_open.proofs.stack.OpenStack.current.Goals as goal

pub returns-clause-member : goal.returns-clause-member
returns-clause-member c = last-member c.args.self.now c.last_node.result (c.last_node.ensures ∙ ap last_of (c.as_slice.ensures.value ∙ c.self.view_is))

pub returns-clause-keeps : goal.returns-clause-keeps
returns-clause-keeps c = λ l. charged_keeps c.args.self.now l c.args.arena.now c.charge.new.self _ c.charge.ensures
