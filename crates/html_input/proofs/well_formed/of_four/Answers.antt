use Rattle.std.proofs.Common.{refl, arith}
use Rattle.html_input.proofs.Spelling.{found-four}
use Rattle.html_input.proofs.well_formed.of_four.Goals as goal

pub returns : goal.returns
returns c = found-four c.from_u32.result c.args.first c.args.second c.args.third c.args.fourth _ c.from_u32.ensures.value (omega arith) (omega arith) (omega arith) (omega arith) (omega arith) (omega arith) (omega arith) (omega arith) refl
