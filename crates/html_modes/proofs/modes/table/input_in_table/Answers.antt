use Rattle.std.proofs.Common.{◌∙◌, false, refl, sym, true}
use Rattle.html_names.specs.declared.tag.Tag.TheVariants as tag
use Rattle.html_construction.specs.Plans.{Do, Over}
use Rattle.html_construction.specs.Words.{InsertVoid, IsHidden}
use Rattle.html_modes.specs.RuleForms.{ending, fostering, over}
use Rattle.html_modes.specs.Rules.{plan}
use Rattle.html_modes.proofs.Ruled.{asked, stop_here}
use Rattle.html_modes.proofs.modes.table.input_in_table.Goals as goal

pub returns-then-is_hidden-clause-follows : goal.returns-then-is_hidden-clause-follows
returns-then-is_hidden-clause-follows c =
    let t = c.args.token.now in
    let z = c.insert_void.new.self in
    asked IsHidden true (Do (InsertVoid tag.Input) over) fostering t c.args.page.now Over z (sym c.if-is_hidden.true ∙ c.is_hidden.ensures.value) (c.in_ok-insert_void.ensures.follows plan over Over z (stop_here Over t z))

pub returns-clause-follows : goal.returns-clause-follows
returns-clause-follows c =
    asked IsHidden false (Do (InsertVoid tag.Input) over) fostering c.args.token.now c.args.page.now (ending c.in_ok-outcome.outcome) c.foster_rules.new.page (sym c.if-is_hidden.false ∙ c.is_hidden.ensures.value) (c.in_ok-outcome.ensures.follows refl)
