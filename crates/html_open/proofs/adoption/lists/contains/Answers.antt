use Rattle.std.proofs.Common.{◌∙◌}
use Rattle.html_open.proofs.Lists.{any-had}
use Rattle.html_open.proofs.adoption.lists.contains.Goals as goal

pub returns : goal.returns
returns c = c.contains.ensures.value ∙ any-had c.args.node c.args.nodes.now
