use Rattle.std.proofs.Common.{◌∙◌}
use Rattle.html_names.proofs.Locals.{attr_space-chars}
use Rattle.html_names.proofs.foreign.attr_space.Goals as goal

pub returns-clause-code_points : goal.returns-clause-code_points
returns-clause-code_points c = c.attr_space_of.ensures ∙ attr_space-chars _ _ c.utf8.name
