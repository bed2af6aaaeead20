use Rattle.html_names.proofs.Adjusted.{attr-code_points, attr-read_back}
use Rattle.html_names.proofs.foreign.adjusted_attr.Goals as goal

pub returns-clause-code_points : goal.returns-clause-code_points
returns-clause-code_points c = attr-code_points (λ s. s.now) c.attr_of.result _ _ c.utf8.name c.attr_of.ensures

pub returns-clause-back : goal.returns-clause-back
returns-clause-back c = attr-read_back (λ s. s.now) c.attr_of.result _ _ c.attr_of.ensures
