use Rattle.std.proofs.Common.{ap, ◌∙◌}
use Rattle.html_names.specs.Foreign.{is_foreign}
use Rattle.html_print.proofs.AtNode.{foreign_at}
use Rattle.html_print.proofs.nodes.is_foreign.Goals as goal

pub returns : goal.returns
returns c = c.is_foreign.ensures ∙ ap is_foreign c.tag.ensures.value ∙ foreign_at c.args.arena.now c.forest.ensures.well_formed c.args.node
