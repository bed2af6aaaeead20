use Rattle.html_text.proofs.Marks.{below-marks}
use Rattle.html_text.proofs.plain.plain_front.Goals as goal

pub returns-clause-plain : goal.returns-clause-plain
returns-clause-plain c = (below-marks c.others_in.result c.args.block.now c.others_in.type_inv c.requires c.others_in.ensures).1
