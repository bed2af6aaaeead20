use Rattle.test_open.proofs.UnderWay.{page-charged}
use Rattle.test_open.proofs.page.Page.is_listed.Goals as goal

pub invariant_of-self : goal.invariant_of-self
invariant_of-self c =
    page-charged c.self.inside.stack c.self.inside.list c.self.inside.arena c.contains.new.arena 1 c.self.inside.tokens c.self.inside.newest c.contains.ensures.steps c.self.invariant
