use Rattle.html_arena.specs.declared.marks.Mark.TheVariants.{OnStack}
use Rattle.html_open.specs.Scopes.{implied_steps, stays}
use Rattle.html_open.specs.Lists.{above}
use Rattle.test_open.proofs.UnderWay.{page-all_unmarked}
use Rattle.test_open.proofs.page.Page.implied.Goals as goal

pub invariant_of-self : goal.invariant_of-self
invariant_of-self c =
    page-all_unmarked c.self.inside.stack c.implied.new.self c.self.inside.list c.self.inside.list c.self.inside.arena c.implied.new.arena OnStack
    (above (stays c.self.inside.arena c.args.except) c.self.inside.stack) (implied_steps c.self.inside.arena c.args.except c.self.inside.stack) c.self.inside.tokens c.self.inside.newest
    c.implied.ensures.tree (c.implied.ensures.keeps c.self.inside.list c.self.invariant.is_open) c.self.invariant
