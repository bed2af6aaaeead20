use Rattle.std.proofs.Common.{sym, ◌∙◌}
use Rattle.html_construction.proofs.Weighing.{first-weighs}
use Rattle.html_construction.proofs.construction.Construction.current_is.Goals as goal

pub returns-clause-member : goal.returns-clause-member
returns-clause-member c = λ e h. first-weighs c.args.group c.current.result c.args.self.now.stack (sym c.has.ensures ∙ e) (c.current.ensures.tag h)
