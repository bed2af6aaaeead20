use Rattle.std.proofs.Common.{◌∙◌, [], ap, refl}
use Rattle.html_parser.specs.Options.{start_of}
use Rattle.html_parser.proofs.Pausing.{paused_of}
use Rattle.html_parser.proofs.owned_parser.begin.Goals as goal

pub returns-clause-begun : goal.returns-clause-begun
returns-clause-begun c =
    paused_of (start_of c.args.table.now c.args.options.now) c.args.table.now c.in_ok-parser.parser.feeder c.pause.result [] refl c.pause.ensures.paused c.in_ok-parser.ensures.begun

pub returns-clause-keeps : goal.returns-clause-keeps
returns-clause-keeps c = ap (λ x. x.keeps_tokens) c.pause.ensures.paused.kept_is ∙ c.in_ok-parser.ensures.keeps
