use Rattle.test_open.proofs.UnderWay.{page-steps}
use Rattle.test_open.proofs.page.Page.adopt_last.Goals as goal

pub adopt-end-requires-clause-open : goal.adopt-end-requires-clause-open
adopt-end-requires-clause-open c =
    (page-steps c.self.inside.stack c.self.inside.list c.can_place.new.arena c.is_first_free.new.arena c.is_first_free.new.arena.steps c.self.inside.tokens c.self.inside.newest c.is_first_free.ensures.steps
    (page-steps c.self.inside.stack c.self.inside.list c.self.inside.arena c.can_place.new.arena c.can_place.new.arena.steps c.self.inside.tokens c.self.inside.newest c.can_place.ensures.steps c.self.invariant)).is_open
