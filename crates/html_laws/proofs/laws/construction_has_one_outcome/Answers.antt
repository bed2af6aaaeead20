use Rattle.html_laws.proofs.Beginnings.{pages-one}
use Rattle.html_laws.proofs.laws.construction_has_one_outcome.Goals as goal

pub returns : goal.returns
returns c = pages-one
