use Rattle.std.proofs.Common.{◌∙◌, false, sym, true}
use Rattle.html_construction.specs.Plans.{Do, Over}
use Rattle.html_construction.specs.Words.{ClosesItself, InsertForeign, InsertForeignVoid}
use Rattle.html_modes.specs.RuleForms.{over}
use Rattle.html_modes.specs.Rules.{plan}
use Rattle.html_modes.proofs.Ruled.{asked, stop_here}
use Rattle.html_modes.proofs.modes.foreign.embed.Goals as goal

pub returns-then-closes_itself-clause-follows : goal.returns-then-closes_itself-clause-follows
returns-then-closes_itself-clause-follows c =
    let t = c.args.token.now in
    let z = c.insert_foreign_void.new.self in
    asked ClosesItself true (Do (InsertForeignVoid c.args.space) over) (Do (InsertForeign c.args.space) over) t c.args.page.now Over z (sym c.if-closes_itself.true ∙ c.closes_itself.ensures)
    (c.in_ok-insert_foreign_void.ensures.follows plan over Over z (stop_here Over t z))

pub returns-clause-follows : goal.returns-clause-follows
returns-clause-follows c =
    let t = c.args.token.now in
    let z = c.insert_foreign.new.self in
    asked ClosesItself false (Do (InsertForeignVoid c.args.space) over) (Do (InsertForeign c.args.space) over) t c.args.page.now Over z (sym c.if-closes_itself.false ∙ c.closes_itself.ensures)
    (c.in_ok-insert_foreign.ensures.follows plan over Over z (stop_here Over t z))
