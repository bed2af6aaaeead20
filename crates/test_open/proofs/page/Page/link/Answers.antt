use Rattle.std.proofs.Common.{rules, ◌∷◌, [], ◌++◌, refl, sym}
use Rattle.html_arena.specs.Tree.{ancestors, children_of}
use Rattle.test_open.proofs.UnderWay.{apart-from, none-below, page-linked}
use Rattle.test_open.proofs.page.Page.link.Goals as goal

pub append-requires-clause-not_above : goal.append-requires-clause-not_above
append-requires-clause-not_above c =
    apart-from c.args.child c.args.parent (ancestors c.self.inside.arena c.args.parent) (search rules)
    (none-below c.self.inside.arena c.args.child c.forest.ensures.well_formed (c.if-not-is_childless.ensures.childless refl) c.args.parent)

pub invariant_of-self : goal.invariant_of-self
invariant_of-self c =
    page-linked c.self.inside.stack c.self.inside.list c.self.inside.arena c.append.new.self c.args.parent c.args.child c.self.inside.tokens c.self.inside.newest
    (children_of c.self.inside.arena c.args.parent ++ c.args.child ∷ []) c.forest.ensures.well_formed c.append.ensures.appended c.append.ensures.linked
    (c.if-not-is_childless.ensures.childless refl) (sym c.if-marked.ensures) c.self.invariant
