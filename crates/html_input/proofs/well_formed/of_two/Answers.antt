use Rattle.std.proofs.Common.{refl, arith}
use Rattle.html_input.proofs.Spelling.{found-two}
use Rattle.html_input.proofs.well_formed.of_two.Goals as goal

pub returns : goal.returns
returns c = found-two c.from_u32.result c.args.first c.args.second _ c.from_u32.ensures.value (omega arith) (omega arith) (omega arith) (omega arith) refl
