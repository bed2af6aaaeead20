use Rattle.html_modes.specs.RuleForms.{ending}
use Rattle.html_modes.proofs.RulesInTable.{fostered}
use Rattle.html_modes.proofs.modes.table.foster_rules.Goals as goal

pub returns-clause-follows : goal.returns-clause-follows
returns-clause-follows c = λ n.
    fostered c.args.symbol c.args.token.now c.args.page.now c.foster_on.new.self c.body_rules.new.page (ending c.in_ok-outcome.outcome) c.foster_off.new.self c.requires.symbol c.foster_on.ensures.rest (c.in_ok-outcome.ensures.follows n)
    c.foster_off.ensures.rest
