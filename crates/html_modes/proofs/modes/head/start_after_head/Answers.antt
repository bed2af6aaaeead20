use Rattle.std.proofs.Common.{sym, ◌∙◌}
use Rattle.html_construction.specs.declared.mode.Mode.TheVariants as mode
use Rattle.html_construction.specs.Plans.{Again, Do}
use Rattle.html_construction.specs.Words.{Switch}
use Rattle.html_modes.specs.RuleForms.{again}
use Rattle.html_modes.specs.Rules.{plan}
use Rattle.html_modes.proofs.Ruled.{stop_here}
use Rattle.html_modes.proofs.RulesAfterHead.{after_head_start-other}
use Rattle.html_modes.proofs.modes.head.start_after_head.Goals as goal

pub returns-in_default-2-clause-follows : goal.returns-in_default-2-clause-follows
returns-in_default-2-clause-follows c =
    after_head_start-other c.args.tag c.args.token.now c.args.page.now Again c.set_mode-in_default-2.new.self c.in_default.not-Html c.in_default.not-Body c.in_default.not-Frameset c.in_default.not-Head
    (sym c.is_headish.ensures ∙ c.if-is_headish.false)
    (
    c.in_ok-insert_implied-in_default-2.ensures.follows plan c.args.token.now (Do (Switch mode.InBody) again) Again c.set_mode-in_default-2.new.self
    (c.set_mode-in_default-2.ensures.follows plan c.args.token.now again Again c.set_mode-in_default-2.new.self (stop_here Again c.args.token.now c.set_mode-in_default-2.new.self))
    )
