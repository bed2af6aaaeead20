use Rattle.std.proofs.Common.{refl}
use Rattle.html_tokens.proofs.ToldLemmas.{quiet_same, silent_in, tells_quiet}
use Rattle.html_tokens.specs.declared.machine.State.TheVariants.{Second}
use Rattle.html_tokens.proofs.machine.Machine.step.Goals as goal

pub returns-in-Second-clause-tells : goal.returns-in-Second-clause-tells
returns-in-Second-clause-tells c = tells_quiet c.args.self.now _ c.args.faults.now c.args.faults.now (silent_in c.args.self.now (Second _ _) c.in-Second.is (λ rows mode name place rest. refl)) (quiet_same c.args.faults.now)
