use Rattle.test_open.proofs.UnderWay.{page-charged}
use Rattle.test_open.proofs.page.Page.last_named.Goals as goal

pub invariant_of-self : goal.invariant_of-self
invariant_of-self c =
    page-charged c.self.inside.stack c.self.inside.list c.self.inside.arena c.last_named.new.arena _ c.self.inside.tokens c.self.inside.newest c.last_named.ensures.steps c.self.invariant
