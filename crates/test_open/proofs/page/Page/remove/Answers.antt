use Rattle.std.proofs.Common.{Some}
use Rattle.html_arena.specs.declared.marks.Mark.TheVariants.{OnStack}
use Rattle.test_open.proofs.UnderWay.{page-unmarked}
use Rattle.test_open.proofs.page.Page.remove.Goals as goal

pub invariant_of-self : goal.invariant_of-self
invariant_of-self c =
    page-unmarked c.self.inside.stack c.remove.new.self c.self.inside.list c.self.inside.list c.self.inside.arena c.remove.new.arena OnStack (Some c.args.node) _ c.self.inside.tokens c.self.inside.newest
    c.remove.ensures.tree (c.remove.ensures.keeps c.self.inside.list c.self.invariant.is_open) c.self.invariant
