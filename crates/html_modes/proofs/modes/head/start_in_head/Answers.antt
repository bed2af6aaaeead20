use Rattle.std.proofs.Common.{sym, ◌∙◌}
use Rattle.html_construction.specs.Plans.{Again}
use Rattle.html_modes.specs.RuleForms.{again}
use Rattle.html_modes.specs.Rules.{plan}
use Rattle.html_modes.proofs.Ruled.{stop_here}
use Rattle.html_modes.proofs.RulesInHead.{in_head_start-other}
use Rattle.html_modes.proofs.modes.head.start_in_head.Goals as goal

pub returns-in_default-2-clause-follows : goal.returns-in_default-2-clause-follows
returns-in_default-2-clause-follows c =
    in_head_start-other c.args.tag c.args.token.now c.args.page.now Again c.leave_head.new.page c.in_default.not-Html (sym c.is_headish.ensures ∙ c.if-is_headish.false) c.in_default.not-Noscript c.in_default.not-Head
    (c.leave_head.ensures.follows plan c.args.token.now again Again c.leave_head.new.page (stop_here Again c.args.token.now c.leave_head.new.page))
