use Rattle.std.proofs.Common.{◌∙◌, false, sym, true}
use Rattle.html_ledger.specs.declared.fate.Cause.TheVariants.{InColumnGroup}
use Rattle.html_construction.specs.declared.mode.Mode.TheVariants as mode
use Rattle.html_construction.specs.Plans.{Again, Ask, Do, Over}
use Rattle.html_construction.specs.Words.{IsOutsideColumnGroup, Switch}
use Rattle.html_modes.specs.RuleForms.{again, ignored, over}
use Rattle.html_modes.specs.Rules.{plan}
use Rattle.html_modes.proofs.Ruled.{stop_here}
use Rattle.html_modes.proofs.RulesInColumnGroup.{outside-asked}
use Rattle.html_modes.proofs.modes.table_parts.leave_column_group.Goals as goal

pub returns-then-not-is_outside_column_group-clause-follows : goal.returns-then-not-is_outside_column_group-clause-follows
returns-then-not-is_outside_column_group-clause-follows c =
    let t = c.args.token.now in
    let z = c.set_mode.new.self in
    let stays = ignored InColumnGroup in
    let goes = Do (Switch mode.InBody) again in
    c.if-close_column_group.ensures.follows plan t again (Ask IsOutsideColumnGroup stays goes) Again z
    (outside-asked false c.args.symbol stays goes t c.close_column_group.new.page Again z c.requires.symbol (sym c.if-not-is_outside_column_group.true ∙ c.is_outside_column_group.ensures.value)
    (c.set_mode.ensures.follows plan t again Again z (stop_here Again t z)))

pub returns-clause-follows : goal.returns-clause-follows
returns-clause-follows c =
    let t = c.args.token.now in
    let z = c.drop_token.new.self in
    let stays = ignored InColumnGroup in
    let goes = Do (Switch mode.InBody) again in
    c.if-close_column_group.ensures.follows plan t again (Ask IsOutsideColumnGroup stays goes) Over z
    (outside-asked true c.args.symbol stays goes t c.close_column_group.new.page Over z c.requires.symbol (sym c.if-not-is_outside_column_group.false ∙ c.is_outside_column_group.ensures.value)
    (c.in_ok-drop_token.ensures.follows plan over Over z (stop_here Over t z)))
