use Rattle.std.proofs.Common.{refl, arith}
use Rattle.html_input.proofs.Spelling.{found-three}
use Rattle.html_input.proofs.well_formed.of_three.Goals as goal

pub returns : goal.returns
returns c = found-three c.from_u32.result c.args.first c.args.second c.args.third _ c.from_u32.ensures.value (omega arith) (omega arith) (omega arith) (omega arith) (omega arith) (omega arith) (omega arith) refl
