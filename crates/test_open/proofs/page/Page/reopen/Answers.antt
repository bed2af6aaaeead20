use Rattle.test_open.proofs.UnderWay.{page-reopened, page-steps}
use Rattle.test_open.proofs.page.Page.reopen.Goals as goal

pub reopen-requires-clause-is_open : goal.reopen-requires-clause-is_open
reopen-requires-clause-is_open c =
    (page-steps c.self.inside.stack c.self.inside.list c.self.inside.arena c.can_place.new.arena c.can_place.new.arena.steps c.self.inside.tokens c.self.inside.newest c.can_place.ensures.steps c.self.invariant).is_open

pub invariant_of-result : goal.invariant_of-result
invariant_of-result c =
    page-reopened c.self.inside.stack c.reopen.new.stack c.self.inside.list c.reopen.new.self c.can_place.new.arena c.reopen.new.arena c.self.inside.tokens c.self.inside.newest
    c.in_ok-reopen.ensures.keeps c.in_ok-reopen.ensures.clones
    (page-steps c.self.inside.stack c.self.inside.list c.self.inside.arena c.can_place.new.arena c.can_place.new.arena.steps c.self.inside.tokens c.self.inside.newest c.can_place.ensures.steps c.self.invariant)
