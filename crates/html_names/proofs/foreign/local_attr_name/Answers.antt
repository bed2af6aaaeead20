use Rattle.html_names.proofs.Locals.{local_attr_name-code_points}
use Rattle.html_names.proofs.foreign.local_attr_name.Goals as goal

pub returns-clause-code_points : goal.returns-clause-code_points
returns-clause-code_points c = local_attr_name-code_points _ _ c.utf8.name c.local_attr_part.ensures
