use Rattle.html_modes.specs.declared.outcome.Outcome.TheVariants.{Done}
use Rattle.html_modes.proofs.Embedding.{turns-root}
use Rattle.std.proofs.Common.{◌∙◌, sym}
use Rattle.html_construction.specs.Plans.{Over}
use Rattle.html_modes.proofs.RulesInBodyStart.{root-parsed}
use Rattle.html_modes.proofs.modes.body.any_root_start.Goals as goal

pub returns-clause-plain : goal.returns-clause-plain
returns-clause-plain c = turns-root Done c.args.name c.args.tag c.args.token.now c.args.page.now c.root_start.new.page c.requires.root

pub returns-clause-follows : goal.returns-clause-follows
returns-clause-follows c =
    root-parsed c.args.name c.space_of.result c.args.tag c.args.token.now c.args.page.now Over c.root_start.new.page c.requires.root c.space_of.ensures (sym c.parses_foreign.ensures.value ∙ c.if-not-parses_foreign.false)
    c.in_ok-root_start.ensures.follows
