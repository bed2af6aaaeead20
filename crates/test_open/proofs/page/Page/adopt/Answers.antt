use Rattle.test_open.proofs.EndTags.{page-adopted}
use Rattle.test_open.proofs.UnderWay.{page-steps}
use Rattle.test_open.proofs.page.Page.adopt.Goals as goal

pub adopt-requires-clause-open : goal.adopt-requires-clause-open
adopt-requires-clause-open c =
    (page-steps c.self.inside.stack c.self.inside.list c.can_place.new.arena c.is_first_free.new.arena c.is_first_free.new.arena.steps c.self.inside.tokens c.self.inside.newest c.is_first_free.ensures.steps
    (page-steps c.self.inside.stack c.self.inside.list c.self.inside.arena c.can_place.new.arena c.can_place.new.arena.steps c.self.inside.tokens c.self.inside.newest c.can_place.ensures.steps c.self.invariant)).is_open

pub invariant_of-page : goal.invariant_of-page
invariant_of-page c =
    page-adopted c.args.name c.args.foster c.in_ok-end.end c.self.inside.stack c.adopt.new.stack c.self.inside.list c.adopt.new.list c.is_first_free.new.arena c.adopt.new.arena c.self.inside.tokens c.self.inside.newest
    c.in_ok-end.ensures.adopted c.in_ok-end.ensures.kept
    (page-steps c.self.inside.stack c.self.inside.list c.can_place.new.arena c.is_first_free.new.arena c.is_first_free.new.arena.steps c.self.inside.tokens c.self.inside.newest c.is_first_free.ensures.steps
    (page-steps c.self.inside.stack c.self.inside.list c.self.inside.arena c.can_place.new.arena c.can_place.new.arena.steps c.self.inside.tokens c.self.inside.newest c.can_place.ensures.steps c.self.invariant))
