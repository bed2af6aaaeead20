use Rattle.std.proofs.Common.{refl, arith}
use Rattle.std.proofs.lemmas.Grind.{common_steps}
use Rattle.html_input.proofs.Endings.{reads_plain}
use Rattle.html_input.proofs.normaliser.Normaliser.read_plain.Goals as goal

pub returns-clause-ok : goal.returns-clause-ok
returns-clause-ok c = reads_plain c.args.run.now c.requires.some c.requires.plain c.requires.apart refl refl refl (grind (arith, common_steps))
