use Rattle.html_construction.proofs.Working.{works-settled}
use Rattle.html_construction.proofs.construction.Construction.reset.Goals as goal

pub returns-clause-works : goal.returns-clause-works
returns-clause-works c = works-settled c.args.self.now _ c.appropriate_mode-mode.new.self _ c.appropriate_mode-mode.result c.self.view_is c.laws.ensures.sound c.laws.ensures.depth c.self.invariant.tokens c.appropriate_mode-mode.ensures.works c.set_mode.ensures.rest
