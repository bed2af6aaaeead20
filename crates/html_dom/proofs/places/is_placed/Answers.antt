use Rattle.std.proofs.Common.{◌∙◌, sym}
use Rattle.html_dom.proofs.Placed.{placed, placed-is}
use Rattle.html_dom.proofs.places.is_placed.Goals as goal

pub returns-clause-yes : goal.returns-clause-yes
returns-clause-yes c = λ e. placed c.args.arena.now c.args.node (sym c.has_end.ensures ∙ e)

pub returns-clause-no : goal.returns-clause-no
returns-clause-no c = λ p. c.has_end.ensures ∙ placed-is c.args.arena.now c.args.node c.forest.ensures.well_formed p
