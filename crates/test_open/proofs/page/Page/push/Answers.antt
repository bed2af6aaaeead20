use Rattle.std.proofs.Common.{refl, sym}
use Rattle.test_open.proofs.UnderWay.{can-push, page-opened}
use Rattle.test_open.proofs.page.Page.push.Goals as goal

pub invariant_of-self-2 : goal.invariant_of-self-2
invariant_of-self-2 c =
    page-opened c.push.result c.self.inside.stack c.push.new.self c.self.inside.list c.self.inside.arena c.push.new.arena c.args.node c.self.inside.tokens c.self.inside.newest
    c.push.ensures.tree c.push.ensures.keeps c.push.ensures.same_stack c.push.ensures.same_tree
    (can-push c.self.inside.stack c.self.inside.list c.self.inside.arena c.self.inside.tokens c.args.node c.self.inside.newest c.forest.ensures.well_formed (c.if-not-is_newest.ensures refl)
    (c.if-not-is_childless.ensures.within refl) (c.if-not-is_childless.ensures.element refl) (c.if-not-is_childless.ensures.childless refl) (sym c.if-marked.ensures) c.self.invariant)
    c.self.invariant
