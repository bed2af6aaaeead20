use Rattle.std.proofs.Common.{refl, sym, ap, ◌∙◌}
use Rattle.html_names.specs.Sets.{is_formatting}
use Rattle.html_open.specs.Entries.{displaced, push_steps}
use Rattle.test_open.proofs.UnderWay.{can-list, page-listed}
use Rattle.test_open.proofs.page.Page.enter.Goals as goal

pub invariant_of-self-2 : goal.invariant_of-self-2
invariant_of-self-2 c =
    page-listed c.push.result c.self.inside.stack c.self.inside.list c.push.new.self c.self.inside.arena c.push.new.arena (displaced c.self.inside.arena c.args.node c.self.inside.list)
    c.args.node (push_steps c.self.inside.arena c.args.node c.self.inside.list) c.self.inside.tokens c.self.inside.newest c.push.ensures.tree c.push.ensures.keeps c.push.ensures.same_list c.push.ensures.same_tree
    (can-list c.self.inside.stack c.self.inside.list c.self.inside.arena c.self.inside.tokens c.args.node c.self.inside.newest (c.if-not-is_newest.ensures refl) (c.if-not-is_node.ensures refl)
    (ap is_formatting (sym c.tag.ensures.value) ∙ sym c.if-not-is_formatting.ensures) (sym c.if-marked.ensures) c.self.invariant)
    c.self.invariant
