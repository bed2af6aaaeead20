use Rattle.html_names.proofs.Adjusted.{name-code_points, name-read_back}
use Rattle.html_names.proofs.foreign.adjusted_name.Goals as goal

pub returns-clause-code_points : goal.returns-clause-code_points
returns-clause-code_points c = name-code_points (λ s. s.now) c.name_of.result _ _ c.utf8.name c.name_of.ensures

pub returns-clause-back : goal.returns-clause-back
returns-clause-back c = name-read_back (λ s. s.now) c.name_of.result _ _ c.name_of.ensures
