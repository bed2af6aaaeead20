use Rattle.html_page.specs.Shows.{label_at}
use Rattle.html_print.proofs.AtNode.{one_level, two_levels, with_contents, without_contents}
use Rattle.html_print.proofs.nodes.levels_in.Goals as goal

pub returns-in-Some : goal.returns-in-Some
returns-in-Some c =
    two_levels (label_at c.args.arena.now c.args.node) (with_contents c.args.arena.now c.forest.ensures.well_formed c.args.node c.contents.result c.in-Some.field-0 c.contents.ensures.value c.in-Some.is)

pub returns-in-None : goal.returns-in-None
returns-in-None c =
    one_level (label_at c.args.arena.now c.args.node) (without_contents c.args.arena.now c.forest.ensures.well_formed c.args.node c.contents.result c.contents.ensures.value c.in-None.is)
