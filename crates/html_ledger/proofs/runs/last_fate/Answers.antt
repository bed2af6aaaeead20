use Rattle.std.proofs.Common.{sym}
use Rattle.html_ledger.proofs.Spreading.{last_of-spread}
use Rattle.html_ledger.proofs.runs.last_fate.Goals as goal

pub returns-in-Some : goal.returns-in-Some
returns-in-Some c = record { value = sym (last_of-spread c.args.runs.now c.in-Some.run'.now c.requires.filled (sym c.in-Some.ensures.value)) }
