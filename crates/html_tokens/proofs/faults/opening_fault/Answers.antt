use Rattle.std.specs.Prelude.{[]}
use Rattle.std.proofs.Common.{refl}
use Rattle.html_tokens.proofs.ToldLemmas.{bogus_two}
use Rattle.html_tokens.proofs.faults.opening_fault.Goals as goal

pub bogus_fault-requires-clause-two : goal.bogus_fault-requires-clause-two
bogus_fault-requires-clause-two c = bogus_two c.args.input.now.queue.items c.in-Bogus.field-0 ((rw c.in-Bogus.is at c.requires.found) [] (λ h. refl))
