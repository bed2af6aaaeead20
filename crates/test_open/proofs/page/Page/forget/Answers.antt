use Rattle.std.proofs.Common.{Some}
use Rattle.html_arena.specs.declared.marks.Mark.TheVariants.{InList}
use Rattle.test_open.proofs.UnderWay.{page-unmarked}
use Rattle.test_open.proofs.page.Page.forget.Goals as goal

pub invariant_of-self : goal.invariant_of-self
invariant_of-self c =
    page-unmarked c.self.inside.stack c.self.inside.stack c.self.inside.list c.remove.new.self c.self.inside.arena c.remove.new.arena InList (Some c.args.node) _ c.self.inside.tokens c.self.inside.newest
    c.remove.ensures.tree (c.remove.ensures.keeps c.self.inside.stack c.self.invariant.is_open) c.self.invariant
