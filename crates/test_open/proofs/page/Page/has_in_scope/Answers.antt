use Rattle.test_open.proofs.UnderWay.{page-charged}
use Rattle.test_open.proofs.page.Page.has_in_scope.Goals as goal

pub invariant_of-self : goal.invariant_of-self
invariant_of-self c =
    page-charged c.self.inside.stack c.self.inside.list c.self.inside.arena c.has_in_scope.new.arena _ c.self.inside.tokens c.self.inside.newest c.has_in_scope.ensures.steps c.self.invariant
