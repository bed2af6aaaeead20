use Rattle.std.proofs.Common.{refl}
use Rattle.html_construction.proofs.Kept.{parsing}
use Rattle.html_construction.proofs.construction.Construction.parse_foreign.Goals as goal

pub returns-clause-keeps : goal.returns-clause-keeps
returns-clause-keeps c = parsing _ c.args.self.now _ c.self.view_is refl
