use Rattle.test_open.proofs.UnderWay.{page-charged, page-steps}
use Rattle.test_open.proofs.page.Page.place.Goals as goal

pub invariant_of-self : goal.invariant_of-self
invariant_of-self c =
    page-steps c.self.inside.stack c.self.inside.list c.self.inside.arena c.can_place.new.arena c.can_place.new.arena.steps c.self.inside.tokens c.self.inside.newest c.can_place.ensures.steps c.self.invariant

pub invariant_of-self-2 : goal.invariant_of-self-2
invariant_of-self-2 c =
    page-charged c.self.inside.stack c.self.inside.list c.can_place.new.arena c.place.new.arena _ c.self.inside.tokens c.self.inside.newest c.place.ensures.steps
    (page-steps c.self.inside.stack c.self.inside.list c.self.inside.arena c.can_place.new.arena c.can_place.new.arena.steps c.self.inside.tokens c.self.inside.newest c.can_place.ensures.steps c.self.invariant)
