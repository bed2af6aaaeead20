use Rattle.std.proofs.Common.{sym, ◌∙◌}
use Rattle.html_construction.specs.Plans.{Over}
use Rattle.html_modes.specs.RuleForms.{over}
use Rattle.html_modes.specs.Rules.{plan}
use Rattle.html_modes.proofs.Ruled.{stop_here}
use Rattle.html_modes.proofs.RulesInSelect.{in_select_start-other}
use Rattle.html_modes.proofs.modes.select.select_start_tag.Goals as goal

pub returns-in_ok-drop_token-in_default-2-clause-follows : goal.returns-in_ok-drop_token-in_default-2-clause-follows
returns-in_ok-drop_token-in_default-2-clause-follows c =
    in_select_start-other c.args.tag c.args.token.now c.args.page.now Over c.drop_token-in_default-2.new.self c.in_default.not-Html c.in_default.not-Option c.in_default.not-Optgroup c.in_default.not-Hr c.in_default.not-Select
    (sym c.ends_select.ensures ∙ c.if-ends_select.false) c.in_default.not-Script c.in_default.not-Template
    (c.in_ok-drop_token-in_default-2.ensures.follows plan over Over c.drop_token-in_default-2.new.self (stop_here Over c.args.token.now c.drop_token-in_default-2.new.self))
