use Rattle.std.proofs.Common.{sym, ap, ◌∙◌}
use Rattle.html_construction.specs.Plans.{Again, Over}
use Rattle.html_modes.specs.Guards.{is_table_text}
use Rattle.html_modes.specs.RuleForms.{again, over}
use Rattle.html_modes.specs.Rules.{plan}
use Rattle.html_modes.specs.declared.outcome.Outcome.TheVariants.{Done}
use Rattle.html_modes.proofs.Dispatching.{entry-astray, entry-ignored}
use Rattle.html_modes.proofs.Plain.{turns-dropped}
use Rattle.html_modes.proofs.Ruled.{stop_here}
use Rattle.html_modes.proofs.process.step.Goals as goal

pub returns-in-Some-clause-plain : goal.returns-in-Some-clause-plain
returns-in-Some-clause-plain c = turns-dropped Done c.args.symbol c.args.token.now c.args.page.now c.drop_token.new.self c.in-Some.cause (sym c.in-Some.ensures.value)

pub returns-in-Some-clause-entry : goal.returns-in-Some-clause-entry
returns-in-Some-clause-entry c =
    entry-ignored c.in-Some.cause c.args.symbol c.args.token.now c.args.page.now c.drop_token.new.self (sym (c.if-is_table_text.ensures.value ∙ ap is_table_text c.mode.ensures)) (sym c.in-Some.ensures.value)
    (c.in_ok-drop_token.ensures.follows plan over Over c.drop_token.new.self (stop_here Over c.args.token.now c.drop_token.new.self))

pub returns-then-is_astray-clause-entry : goal.returns-then-is_astray-clause-entry
returns-then-is_astray-clause-entry c =
    entry-astray c.args.symbol c.args.token.now c.args.page.now c.set_mode.new.self (sym (c.if-is_table_text.ensures.value ∙ ap is_table_text c.mode.ensures)) (sym c.in_default.ensures.value) (sym c.if-is_astray.ensures.value)
    (c.set_mode.ensures.follows plan c.args.token.now again Again c.set_mode.new.self (stop_here Again c.args.token.now c.set_mode.new.self))
