use Rattle.std.proofs.Common.{◌∙◌, ap}
use Rattle.std.specs.Str.{chars}
use Rattle.zilqumet_c.proofs.Pushed.{named}
use Rattle.zilqumet_c.proofs.parsing.context_of.Goals as goal

pub returns-clause-value : goal.returns-clause-value
returns-clause-value c = named c.in-Ok-of.name c.args.name.now c.args.in_form c.args.quirks (c.in-Ok-of.ensures ∙ ap (λ b. chars b) c.in-Ok.ensures.cases.0)
