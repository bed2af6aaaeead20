use Rattle.html_page.proofs.Laws.{Shows-same, shows_below}
use Rattle.html_print.proofs.printing.law_of.Goals as goal

pub returns-clause-shows : goal.returns-clause-shows
returns-clause-shows c = shows_below c.args.arena.now c.forest.ensures.well_formed c.args.root c.new-walk.ensures.forest

pub returns-clause-only : goal.returns-clause-only
returns-clause-only c = λ f a. Shows-same c.args.arena.now _ f _ a (returns-clause-shows c)
