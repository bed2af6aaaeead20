use Rattle.html_arena.specs.declared.marks.Mark.TheVariants.{OnStack}
use Rattle.test_open.proofs.UnderWay.{page-unmarked}
use Rattle.test_open.proofs.page.Page.pop.Goals as goal

pub invariant_of-self : goal.invariant_of-self
invariant_of-self c =
    page-unmarked c.self.inside.stack c.pop.new.self c.self.inside.list c.self.inside.list c.self.inside.arena c.pop.new.arena OnStack c.pop.result 1 c.self.inside.tokens c.self.inside.newest
    c.pop.ensures.tree (c.pop.ensures.keeps c.self.inside.list c.self.invariant.is_open) c.self.invariant
