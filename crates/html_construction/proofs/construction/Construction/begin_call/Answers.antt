use Rattle.std.proofs.Common.{refl}
use Rattle.html_construction.proofs.Kept.{begins}
use Rattle.html_construction.proofs.construction.Construction.begin_call.Goals as goal

pub returns-clause-begins : goal.returns-clause-begins
returns-clause-begins c = begins _ c.args.self.now _ _ _ c.self.view_is refl
