use Rattle.html_page.proofs.Laws.{Shows-same, shows_below}
use Rattle.html_page.proofs.Lengths.{html_size}
use Rattle.html_page.proofs.serialising.law_of.Goals as goal

pub returns-clause-shows : goal.returns-clause-shows
returns-clause-shows c = shows_below c.args.arena.now c.forest.ensures.well_formed c.args.root c.at-walk.ensures.forest

pub returns-clause-only : goal.returns-clause-only
returns-clause-only c = λ f a. Shows-same c.args.arena.now _ f _ a (returns-clause-shows c)

pub returns-clause-size : goal.returns-clause-size
returns-clause-size c = html_size c.args.profile c.args.arena.now c.args.root c.at-walk.ensures.once c.at-walk.ensures.inside
