use Rattle.html_construction.proofs.Begun.{must-allowed}
use Rattle.html_construction.proofs.construction.Construction.must_drop.Goals as goal

pub returns-clause-allowed : goal.returns-clause-allowed
returns-clause-allowed c = must-allowed c.history.result c.args.symbol _ c.must_drop.ensures.value
