use Rattle.html_names.proofs.Locals.{is_local_name-code_points}
use Rattle.html_names.proofs.foreign.is_local_name.Goals as goal

pub returns-clause-code_points : goal.returns-clause-code_points
returns-clause-code_points c = is_local_name-code_points _ _ _ _ c.local_name.utf8 c.utf8.element c.utf8.name c.local_name.ensures.value c.is_lowered.ensures
