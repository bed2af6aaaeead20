use Rattle.html_construction.specs.Plans.{Over}
use Rattle.html_modes.specs.RuleForms.{over}
use Rattle.html_modes.specs.Rules.{plan}
use Rattle.html_modes.proofs.Ruled.{stop_here}
use Rattle.html_modes.proofs.RulesAfterFrameset.{after_frameset-start, after_frameset_start-other}
use Rattle.html_modes.proofs.modes.frameset.after_frameset.Goals as goal

pub returns-in_ok-drop_token-in_default-clause-follows : goal.returns-in_ok-drop_token-in_default-clause-follows
returns-in_ok-drop_token-in_default-clause-follows c =
    after_frameset-start c.args.symbol c.in-Start.tag c.args.token.now c.args.page.now Over c.drop_token-in_default.new.self c.in-Start.is (
    after_frameset_start-other c.in-Start.tag c.args.token.now c.args.page.now Over c.drop_token-in_default.new.self c.in_default.not-Html c.in_default.not-Noframes
    (c.in_ok-drop_token-in_default.ensures.follows plan over Over c.drop_token-in_default.new.self (stop_here Over c.args.token.now c.drop_token-in_default.new.self))
    )
