use Rattle.std.proofs.Common.{◌*◌}
use Rattle.html_arena.specs.declared.marks.Mark.TheVariants.{InList}
use Rattle.html_open.specs.Entries.{cleared, is_marker}
use Rattle.html_open.specs.Lists.{looked}
use Rattle.test_open.proofs.UnderWay.{page-all_unmarked}
use Rattle.test_open.proofs.page.Page.clear_to_marker.Goals as goal

pub invariant_of-self : goal.invariant_of-self
invariant_of-self c =
    page-all_unmarked c.self.inside.stack c.self.inside.stack c.self.inside.list c.clear_to_marker.new.self c.self.inside.arena c.clear_to_marker.new.arena InList
    (cleared c.self.inside.list) (2 * looked is_marker c.self.inside.list) c.self.inside.tokens c.self.inside.newest
    c.clear_to_marker.ensures.tree (c.clear_to_marker.ensures.keeps c.self.inside.stack c.self.invariant.is_open) c.self.invariant
