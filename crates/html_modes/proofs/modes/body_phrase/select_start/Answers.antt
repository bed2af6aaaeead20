use Rattle.std.proofs.Common.{◌∙◌, ap, false, sym, true}
use Rattle.html_construction.specs.declared.mode.Mode.TheVariants as mode
use Rattle.html_construction.specs.Plans.{Ask, Do, Over}
use Rattle.html_construction.specs.Words.{FramesetOff, Insert, IsInTable, Switch, is_in_table}
use Rattle.html_modes.specs.RuleForms.{over}
use Rattle.html_modes.specs.Rules.{plan}
use Rattle.html_modes.proofs.Ruled.{asked, stop_here}
use Rattle.html_modes.proofs.modes.body_phrase.select_start.Goals as goal

pub returns-then-is_in_table-clause-follows : goal.returns-then-is_in_table-clause-follows
returns-then-is_in_table-clause-follows c =
    let t = c.args.token.now in
    let z = c.set_mode.new.self in
    let last = Ask IsInTable (Do (Switch mode.InSelectInTable) over) (Do (Switch mode.InSelect) over) in
    c.in_ok-reconstruct.ensures.follows plan t (Do Insert (Do FramesetOff last)) Over z
    (c.in_ok-insert.ensures.follows plan (Do FramesetOff last) Over z
    (c.frameset_off.ensures.follows plan t last Over z
    (asked IsInTable true (Do (Switch mode.InSelectInTable) over) (Do (Switch mode.InSelect) over) t c.frameset_off.new.self Over z (sym c.if-is_in_table.true ∙ c.is_in_table.ensures.value ∙ ap is_in_table c.mode.ensures)
    (c.set_mode.ensures.follows plan t over Over z (stop_here Over t z)))))

pub returns-else-is_in_table-clause-follows : goal.returns-else-is_in_table-clause-follows
returns-else-is_in_table-clause-follows c =
    let t = c.args.token.now in
    let z = c.set_mode-else-is_in_table.new.self in
    let last = Ask IsInTable (Do (Switch mode.InSelectInTable) over) (Do (Switch mode.InSelect) over) in
    c.in_ok-reconstruct.ensures.follows plan t (Do Insert (Do FramesetOff last)) Over z
    (c.in_ok-insert.ensures.follows plan (Do FramesetOff last) Over z
    (c.frameset_off.ensures.follows plan t last Over z
    (asked IsInTable false (Do (Switch mode.InSelectInTable) over) (Do (Switch mode.InSelect) over) t c.frameset_off.new.self Over z (sym c.if-is_in_table.false ∙ c.is_in_table.ensures.value ∙ ap is_in_table c.mode.ensures)
    (c.set_mode-else-is_in_table.ensures.follows plan t over Over z (stop_here Over t z)))))
