use Rattle.std.proofs.Common.{◌∙◌, ap, Some}
use Rattle.zilqumet_c.proofs.pushing.hold.Goals as goal

pub returns-in-Ok-new-clause-ok : goal.returns-in-Ok-new-clause-ok
returns-in-Ok-new-clause-ok c = λ _. (c.in-Ok.begun, c.in-Ok.is, c.put.ensures ∙ ap (λ h. Some h) c.in-Ok-new.ensures.ok)
